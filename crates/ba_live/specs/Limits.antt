-- The limits of a decision service. The most is allowed, and one more is refused.
use Rattle.std.specs.Prelude.{ℕ}

-- requests that are open at one time
abbrev pub most_open : ℕ
most_open = 8192

-- rows that are told of a question
abbrev pub most_told_rows : ℕ
most_told_rows = 100000

-- rows that a request was told in all, up to which they are searched for a contradiction as soon as
-- they are told
abbrev pub most_searched_rows : ℕ
most_searched_rows = 16

-- due steps of that search, where the budget isn't less
abbrev pub most_searched_steps : ℕ
most_searched_steps = 128

-- questions of a request that is open
abbrev pub most_open_asks : ℕ
most_open_asks = 65536
