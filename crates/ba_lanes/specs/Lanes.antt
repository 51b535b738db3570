-- Lines that lanes carry, each line one of them.
use Rattle.std.specs.Prelude.{◌≡◌, ℕ, zero, suc, ◌+◌, ◌<◌, ◌≤◌, ◌==◌, List, [], ◌∷◌, ◌++◌, ⊤, if◌then◌else◌, All, Contains, filter, length, map}
use Rattle.ba_turn.specs.History.{calls_by, entry_of, number_of}
use Rattle.ba_turn.specs.declared.known.Known.{Known}

-- the lines of the lane k, in order
abbrev pub lines_of : {L : Type 0} → (L → ℕ) → ℕ → List L → List L
lines_of lane k lines = filter (λ line. lane line == k) lines

-- Beside each of the lines stands an element: those beside the lines of the lane k, in order.
abbrev pub of_lane : {L X : Type 0} → (L → ℕ) → ℕ → List L → List X → List X
of_lane lane k [] its = []
of_lane lane k (line ∷ lines) [] = []
of_lane lane k (line ∷ lines) (it ∷ its) =
    if lane line == k then it ∷ of_lane lane k lines its else of_lane lane k lines its

-- the sum of f over the numbers below another
abbrev pub total : (ℕ → ℕ) → ℕ → ℕ
total f zero = 0
total f (suc n) = total f n + f n

-- what becomes of lines, one by one, each after what became of the earlier ones
abbrev pub EachAfter : {L D : Type 0}
    → (List D → L → D → Type 0) → List D → List L → List D → Type 0
EachAfter P earlier [] [] = ⊤
EachAfter P earlier [] (it ∷ its) = ⊥
EachAfter P earlier (line ∷ lines) [] = ⊥
EachAfter P earlier (line ∷ lines) (it ∷ its) =
    P earlier line it × EachAfter P (earlier ++ it ∷ []) lines its

-- calls of the opening pass, whose number is 0, as they stand in a history
abbrev pub by_opening : {E : Type 0} → List E → List (ℕ × E)
by_opening calls = map (λ call. (0, call)) calls

-- A history, with the number of the pass that made each call, of an opening pass and as many lanes:
-- the calls of the opening pass stand in front, and behind them those of the lane k, whose pass has
-- the number k + 1, are its calls, in their order. There are no others.
pub record AreOfLanes {E : Type 0} (opening : List E) (lanes : ℕ) (calls_of_lane : ℕ → List E)
    (calls : List E) (numbers : List ℕ) : Type 0 where
  pub log : List (ℕ × E)
  pub calls_are : calls ≡ map entry_of (by_opening opening ++ log)
  pub numbers_are : numbers ≡ map number_of (by_opening opening ++ log)
  pub each : (k : ℕ) → k < lanes → calls_by (k + 1) log ≡ calls_of_lane k
  pub no_others : All (λ n. (0 < n) × (n ≤ lanes)) (map number_of log)

-- The pass has seen the calls of the opening pass in front of all others.
pub record SeesFirst {S E : Type 0} (opening : List E) (v : Known S E) : Type 0 where
  pub others : List (ℕ × E)
  pub seen : v.seen ≡ by_opening opening ++ others

-- the pass that a turn was made with, once it has made these calls and then split off so many
-- passes, and joined none
pub record HasSplit {S E : Type 0} (opening : List E) (splits : ℕ) (v : Known S E) : Type 0 where
  pub number : v.number ≡ 0
  pub splits_are : v.splits ≡ splits
  pub made : v.made ≡ opening
  pub joined : v.joined ≡ []
  pub first : SeesFirst opening v

-- The pass that a turn was made with, once it has made these calls, then split off so many passes,
-- and joined those of the first lanes, so many, each with its number and its calls.
pub record HasJoined {S E : Type 0} (opening : List E) (splits joined : ℕ)
    (calls_of_lane : ℕ → List E) (v : Known S E) : Type 0 where
  pub number : v.number ≡ 0
  pub splits_are : v.splits ≡ splits
  pub made : v.made ≡ opening
  pub many : length v.joined ≡ joined
  pub each : (k : ℕ) → k < joined → Contains v.joined (k + 1, calls_of_lane k)
  pub only : All (λ c. (0 < c.0) × (c.0 ≤ joined)) v.joined
  pub first : SeesFirst opening v
