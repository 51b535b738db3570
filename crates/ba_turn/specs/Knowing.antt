-- What a pass knows after each call of a turn.
use Rattle.std.specs.Prelude.{◌≡◌, ℕ, ◌+◌, ◌-◌, true, false, List, [], ◌∷◌, ◌++◌, map, length, Some, None, All, Contains, sum_by}
use Rattle.ba_turn.specs.declared.known.Known.{Known}
use Rattle.ba_turn.specs.History.{number_of, longer_of, shorter_of}

module _ {S E : Type 0} where
  -- of the opening pass of a new turn
  abbrev pub opening_known : S → ℕ → Known S E
  opening_known start allowance = record { live = true; number = 0; splits = 0; start = Some start; allowance = allowance; left = allowance; has_ticket = false; has_turn = false; ticket = 0; found = []; seen = []; behind = []; made = []; joined = [] }

  -- once the pass has drawn a ticket, which costs one of its allowance
  abbrev pub with_ticket : ℕ → Known S E → Known S E
  with_ticket n v = record v { has_ticket = true; ticket = n; left = v.left - 1 }

  -- once its turn has come, at the history found there
  abbrev pub with_turn : List (ℕ × E) → Known S E → Known S E
  with_turn found v = record v { has_turn = true; found = found }

  -- after `take`
  abbrev pub after_take : ℕ → List (ℕ × E) → Known S E → Known S E
  after_take n found v = with_turn found (with_ticket n v)

  -- after `put`: it has seen the history that it found and its own call e at the end
  abbrev pub after_put : E → Known S E → Known S E
  after_put e v = record v { has_ticket = false; has_turn = false; seen = v.found ++ (v.number, e) ∷ []; made = v.made ++ e ∷ [] }

  -- after `split`, of the pass that splits
  abbrev pub after_split : ℕ → Known S E → Known S E
  after_split a v = record v { splits = v.splits + 1; left = v.left - a }

  -- of the pass that is split off: it has the next number, and has seen as much
  abbrev pub split_known : ℕ → Known S E → Known S E
  split_known a v = record { live = true; number = v.splits + 1; splits = 0; start = v.start; allowance = v.allowance; left = a; has_ticket = false; has_turn = false; ticket = 0; found = []; seen = v.seen; behind = []; made = []; joined = [] }

  -- after `join`: the longer history, both allowances, and the calls of the joined number
  abbrev pub after_join : Known S E → Known S E → Known S E
  after_join v w = record v { left = v.left + w.left; seen = longer_of v.seen w.seen; behind = shorter_of v.seen w.seen; joined = (w.number, w.made) ∷ v.joined }

  -- of a pass that was joined into another
  abbrev pub spent_known : Known S E
  spent_known = record { live = false; number = 0; splits = 0; start = None; allowance = 0; left = 0; has_ticket = false; has_turn = false; ticket = 0; found = []; seen = []; behind = []; made = []; joined = [] }

-- where the opening pass has joined as many passes as it split off, what is left and what it has seen sum to the allowance of the turn
abbrev pub SumsToAllowance : {S E : Type 0} → Known S E → Type 0
SumsToAllowance v = v.number ≡ 0 → v.splits ≡ length v.joined → v.left + length v.seen ≡ v.allowance

-- the number of the pass, and those of the passes that were joined into it
abbrev pub numbers_of : {S E : Type 0} → Known S E → List ℕ
numbers_of v = v.number ∷ map number_of v.joined

-- where the opening pass has joined as many passes as it split off, its own calls and theirs are all calls: each that it has seen has one of their numbers, and these are as many as they made
pub record HasAllCalls {S E : Type 0} (v : Known S E) : Type 0 where
  pub each : v.number ≡ 0 → v.splits ≡ length v.joined → All (Contains (numbers_of v)) (map number_of v.seen)
  pub count : v.number ≡ 0 → v.splits ≡ length v.joined → length v.seen ≡ length v.made + sum_by (λ k. length k.1) v.joined
