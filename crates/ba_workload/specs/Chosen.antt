-- Users, the events that they attend, and what each request is about.
use Rattle.std.specs.Prelude.{ℕ, ◌+◌, ◌*◌, ◌%◌}
use Rattle.ba_workload.specs.Draws.{draw}

-- users are numbered from 1, and so are events
abbrev pub users : ℕ
users = 64

abbrev pub events : ℕ
events = 64

-- how many events a user attends
abbrev pub attended : ℕ
attended = 4

-- the event of a user's attendance j, from 0
abbrev pub event_of : ℕ → ℕ → ℕ
event_of u j = (7 * u + 13 * j) % events + 1

-- another event, the one that is next in number
abbrev pub other_event : ℕ → ℕ
other_event e = e % events + 1

-- request k, from 0, makes two draws: its user, and which of the user's attendances it is about
abbrev pub user_of : ℕ → ℕ → ℕ
user_of seed k = 1 + draw seed (2 * k) users

abbrev pub event_at : ℕ → ℕ → ℕ
event_at seed k = event_of (user_of seed k) (draw seed (2 * k + 1) attended)
