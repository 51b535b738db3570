-- The steps of an answer, part by part.
use Rattle.std.proofs.Common.{◌≡◌, ◌≢◌, ℕ, ◌+◌, ◌<◌, ◌≤◌, List, [], ◌∷◌, ◌++◌, length, get_or, take, drop, refl, sym, ap, ◌∙◌, subst, arith}
use Rattle.std.proofs.lemmas.List.{take_more, take-append-drop}
use Rattle.std.proofs.lemmas.List.Elements.{All-nil}
use Rattle.std.proofs.lemmas.List.Sums.{sum_by-append, sum_by-cons, sum_by-take-le}
use Rattle.std.specs.List.{AllPairs, AllZip, sum, sum_by}
use Rattle.ba_model.specs.Meaning.{rows_of}
use Rattle.ba_model.specs.declared.policy.Context.{Context}
use Rattle.ba_model.specs.declared.query.Part.{Part}
use Rattle.ba_model.specs.declared.value.RowSet.{RowSet}
use Rattle.ba_model.specs.declared.value.Value.{Value}
use Rattle.ba_eval.specs.Visits.{HasVisits, IsVisit, Reached, StepsWithin, Visited, rows_read}

zero_plus : (n : ℕ) → 0 + n ≡ n
zero_plus n = omega arith

sum_more : {X : Type 0} (f : X → ℕ) (xs : List X) (i : ℕ) (d : X) → i < length xs → sum_by f (take (i + 1) xs) ≡ sum_by f (take i xs) + f (get_or xs i d)
sum_more f xs i d below = ap (sum_by f) (take_more xs i d below) ∙ (sum_by-append f (take i xs) (get_or xs i d ∷ []) ∙ ap (λ n. sum_by f (take i xs) + n) (zero_plus (f (get_or xs i d))))

pub table_more : (d : RowSet) (tables : List ℕ) (i : ℕ) → i < length tables → (old mid new : ℕ) → mid ≤ old + sum_by (λ table. length (rows_of d table)) (take i tables) → new ≤ mid + length (rows_of d (get_or tables i 0)) → new ≤ old + sum_by (λ table. length (rows_of d table)) (take (i + 1) tables)
table_more d tables i below old mid new before here =
    let e = sum_more (λ table. length (rows_of d table)) tables i 0 below in
    adds_up old mid new (sum_by (λ table. length (rows_of d table)) (take i tables)) (length (rows_of d (get_or tables i 0))) (sum_by (λ table. length (rows_of d table)) (take (i + 1) tables)) e before here
  where
    adds_up : (old mid new a b n : ℕ) → n ≡ a + b → mid ≤ old + a → new ≤ mid + b → new ≤ old + n
    adds_up old mid new a b n e f g = omega arith

-- the steps so far are within the whole
pub tables_within : (d : RowSet) (part : Part) (tables : List ℕ) → tables ≡ part.from → (i old new : ℕ) → new ≤ old + sum_by (λ table. length (rows_of d table)) (take i tables) → new ≤ old + rows_read d part
tables_within d part tables whole i old new h =
    subst (λ ts. new ≤ old + sum_by (λ table. length (rows_of d table)) ts) whole (within (sum_by (λ table. length (rows_of d table)) (take i tables)) (sum_by (λ table. length (rows_of d table)) tables) (sum_by-take-le (λ table. length (rows_of d table)) tables i) h)
  where
    within : (a b : ℕ) → a ≤ b → new ≤ old + a → new ≤ old + b
    within a b f g = omega arith

zip_append : {X Y : Type 0} (R : X → Y → Type 0) (xs us : List X) (ys vs : List Y) → AllZip R xs ys → AllZip R us vs → AllZip R (xs ++ us) (ys ++ vs)
zip_append R [] us [] vs a b = b
zip_append R [] us (y ∷ ys) vs a b = absurd a
zip_append R (x ∷ xs) us [] vs a b = absurd a
zip_append R (x ∷ xs) us (y ∷ ys) vs a b = (a.0, zip_append R xs us ys vs a.1 b)

none_apart : {X : Type 0} (R : X → X → Type 0) → AllPairs R []
none_apart R i j d less below = absurd (omega arith)

no_visits : (c : Context) (d : RowSet) (part : Part) → HasVisits c d part 0
no_visits c d part = record { visits = []; each = All-nil (IsVisit c d part); distinct = none_apart (λ x y. x ≢ y); count = refl }

record Zeros (c : Context) (d : RowSet) (parts : List Part) : Type 0 where
  zeros : List ℕ
  each : AllZip (HasVisits c d) parts zeros
  none : sum zeros ≡ 0

no_steps : (c : Context) (d : RowSet) (parts : List Part) → Zeros c d parts
no_steps c d [] = record { zeros = []; each = tt; none = refl }
no_steps c d (part ∷ parts) =
    let rest = no_steps c d parts in
    record { zeros = 0 ∷ rest.zeros; each = (no_visits c d part, rest.each); none = sum_by-cons (λ x. x) 0 rest.zeros ∙ (zero_plus (sum rest.zeros) ∙ rest.none) }

pub none_so_far : (c : Context) (d : RowSet) (n : ℕ) → StepsWithin c d [] n n
none_so_far c d n = record { visits = []; each = tt; within = omega arith }

pub all_parts : (c : Context) (d : RowSet) (parts : List Part) (n old new : ℕ) → StepsWithin c d (take n parts) old new → StepsWithin c d parts old new
all_parts c d parts n old new h =
    let rest = no_steps c d (drop n parts) in
    record {
      visits = h.visits ++ rest.zeros;
      each = subst (λ ps. AllZip (HasVisits c d) ps (h.visits ++ rest.zeros)) (take-append-drop n parts) (zip_append (HasVisits c d) (take n parts) (drop n parts) h.visits rest.zeros h.each rest.each);
      within = adds_up (sum h.visits) (sum rest.zeros) (sum (h.visits ++ rest.zeros)) _ _ (sum_by-append (λ x. x) h.visits rest.zeros) rest.none (sum_by-take-le (rows_read d) parts n) h.within;
    }
  where
    adds_up : (a b n p q : ℕ) → n ≡ a + b → b ≡ 0 → p ≤ q → new ≤ old + (a + p) → new ≤ old + (n + q)
    adds_up a b n p q e z f g = omega arith

module _ (c : Context) (d : RowSet) (parts : List Part) (i : ℕ) (part : Part) (below : i < length parts) (here : part ≡ get_or parts i part) (old mid : ℕ) (before : StepsWithin c d (take i parts) old mid) where
  one_more : take (i + 1) parts ≡ take i parts ++ part ∷ []
  one_more = subst (λ q. take (i + 1) parts ≡ take i parts ++ q ∷ []) (sym here) (take_more parts i part below)

  pub part_more : (k read new : ℕ) → HasVisits c d part k → read ≤ mid + rows_read d part → new ≤ read + k → StepsWithin c d (take (i + 1) parts) old new
  part_more k read new has reading visiting = record {
    visits = before.visits ++ k ∷ [];
    each = subst (λ ps. AllZip (HasVisits c d) ps (before.visits ++ k ∷ [])) (sym one_more) (zip_append (HasVisits c d) (take i parts) (part ∷ []) before.visits (k ∷ []) before.each (has, tt));
    within = adds_up (sum before.visits) (sum (before.visits ++ k ∷ [])) _ _ (sum_by-append (λ x. x) before.visits (k ∷ [])) (ap (sum_by (rows_read d)) one_more ∙ sum_by-append (rows_read d) (take i parts) (part ∷ [])) before.within;
  }
    where
      adds_up : (a n p q : ℕ) → n ≡ a + (0 + k) → q ≡ p + (0 + rows_read d part) → mid ≤ old + (a + p) → new ≤ old + (n + q)
      adds_up a n p q e f g = omega arith

  -- the tables were read, and no more
  pub part_read : (read : ℕ) → read ≤ mid + rows_read d part → StepsWithin c d parts old read
  part_read read reading = all_parts c d parts (i + 1) old read (part_more 0 read read (no_visits c d part) reading (omega arith))

  module _ (tables : List ℕ) (whole : tables ≡ part.from) (chosen : List (List Value)) (none : chosen ≡ []) where
    start : Reached c d part tables [] chosen
    start = subst (Reached c d part tables []) (sym none) (record { left = sym whole; are = tt; met = λ some. absurd (omega arith) })

    pub part_searched : (read new : ℕ) → read ≤ mid + rows_read d part → ((positions : List ℕ) → Reached c d part tables positions chosen → Visited c d part positions read new) → StepsWithin c d (take (i + 1) parts) old new
    part_searched read new reading child =
        let v = child [] start in
        part_more (length v.visits) read new (record { visits = v.visits; each = v.each; distinct = v.distinct; count = refl }) reading v.count
