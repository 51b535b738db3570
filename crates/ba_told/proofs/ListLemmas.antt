-- Rows in the lists to which they belong.
use Rattle.std.proofs.Common.{◌≡◌, ◌∙◌, ℕ, zero, suc, ◌+◌, ◌<◌, inl, inr, List, [], ◌∷◌, ◌++◌, length, Some, refl, sym, ap, subst, append-nil, append_assoc, arith}
use Rattle.std.proofs.lemmas.Bool.{cases_eq}
use Rattle.std.proofs.lemmas.List.Elements.{All-contains, All-nil, All-push, All-weaker, Contains-append_left, Contains-append_right, Contains-push}
use Rattle.std.specs.List.{All, Contains}
use Rattle.std.specs.Prelude.{slice_get}
use Rattle.ba_model.proofs.ElementLemmas.{Contains-cases, Contains-head, Contains-later, Contains-nil}
use Rattle.ba_model.specs.declared.policy.Context.{Context}
use Rattle.ba_model.specs.declared.query.Part.{Part}
use Rattle.ba_model.specs.declared.query.Query.{Query}
use Rattle.ba_model.specs.declared.schema.Schema.{Schema}
use Rattle.ba_model.specs.declared.value.Value.{Value}
use Rattle.ba_parts.proofs.RowLemmas.{chosen_keeps, chosen_within}
use Rattle.ba_parts.specs.Parts.{CanBeOf, Chosen}
use Rattle.ba_parts.specs.Parts.Chosen.{nothing, taken, left_out}
use Rattle.ba_parts.specs.Recording.{HasMisfit}
use Rattle.ba_told.specs.Places.{AreByPlace, Belong, IsInList, IsOfList, IsPlace, IsPut, list_of}
use Rattle.ba_told.specs.declared.entries.Place.{Place}
use Rattle.ba_told.specs.declared.entries.Place.TheVariants.{Nowhere, Alone, Whole}

-- ---- lists

some_is : {X : Type 0} (x y : X) → Some x ≡ Some y → x ≡ y
some_is x y e = cc

there_at : {X : Type 0} (xs : List X) (i : ℕ) (x : X) → slice_get xs i ≡ Some x → Contains xs x
there_at [] i x e = cc
there_at (y ∷ xs) zero x e = subst (Contains (y ∷ xs)) (some_is y x e) (Contains-head y xs)
there_at (y ∷ xs) (suc i) x e = Contains-later y xs x (there_at xs i x e)

some_at : {X : Type 0} (xs : List X) (i : ℕ) → i < length xs → (x : X) × (slice_get xs i ≡ Some x)
some_at [] i low = absurd (omega (arith, low))
some_at (y ∷ xs) zero low = (y, refl)
some_at (y ∷ xs) (suc i) low = some_at xs i (omega (arith, low))

-- ---- the start, and one row more

module _ (s : Schema) (c : Context) (parts : List Part) where
  pub none_by_place : (lists : List (List (List Value))) → length lists ≡ length parts + 1 → All (λ list. list ≡ []) lists → AreByPlace s c parts [] lists
  none_by_place lists many empty =
      record {
        many = many;
        all = All-nil (IsInList s c parts lists);
        only = λ number list at.
            subst (Belong s c parts [] number) (sym (All-contains (λ l. l ≡ []) lists list empty (there_at lists number list at)))
            (All-nil (λ (row : List Value). Contains [] row × IsOfList s c parts number row));
      }

  in_put : (number : ℕ) (row : List Value) (old new : List (List (List Value))) → IsPut number row old new → (r : List Value) → IsInList s c parts old r → IsInList s c parts new r
  in_put number row old new put r is =
      elim (cases_eq is.number number) [
        | inl same ↦
            record {
              number = is.number;
              belongs = is.belongs;
              list = is.list ++ row ∷ [];
              at = subst (λ n. slice_get new n ≡ Some (is.list ++ row ∷ [])) (sym same) (put.at is.list (subst (λ n. slice_get old n ≡ Some is.list) same is.at));
              in_it = Contains-append_left is.list (row ∷ []) r is.in_it;
            }
        | inr other ↦ record { number = is.number; belongs = is.belongs; list = is.list; at = put.others is.number other ∙ is.at; in_it = is.in_it }
      ]

  belong_more : (done : List (List Value)) (row : List Value) (number : ℕ) (list : List (List Value)) → Belong s c parts done number list → Belong s c parts (done ++ row ∷ []) number list
  belong_more done row number list h =
      All-weaker (λ (r : List Value). Contains done r × IsOfList s c parts number r) (λ (r : List Value). Contains (done ++ row ∷ []) r × IsOfList s c parts number r)
      (λ r (there, is). (Contains-append_left done (row ∷ []) r there, is)) list h

  pub more_by_place : (done : List (List Value)) (row : List Value) (number : ℕ) (old new : List (List (List Value))) → AreByPlace s c parts done old → IsOfList s c parts number row → number < length old →
      IsPut number row old new → AreByPlace s c parts (done ++ row ∷ []) new
  more_by_place done row number old new are belongs low put =
      let own = some_at old number low in
      let now : slice_get new number ≡ Some (own.0 ++ row ∷ []) = put.at own.0 own.1 in
      let here : IsInList s c parts new row = record { number = number; belongs = belongs; list = own.0 ++ row ∷ []; at = now; in_it = Contains-push own.0 row } in
      record {
        many = put.many ∙ are.many;
        all = All-push (IsInList s c parts new) done row (All-weaker (IsInList s c parts old) (IsInList s c parts new) (in_put number row old new put) done are.all) here;
        only = λ at list is.
            elim (cases_eq at number) [
              | inl same ↦
                  let list_is : list ≡ own.0 ++ row ∷ [] = some_is list (own.0 ++ row ∷ []) (sym is ∙ (ap (slice_get new) same ∙ now)) in
                  let older : Belong s c parts (done ++ row ∷ []) number own.0 = belong_more done row number own.0 (are.only number own.0 own.1) in
                  let all : Belong s c parts (done ++ row ∷ []) number (own.0 ++ row ∷ []) =
                  All-push (λ (r : List Value). Contains (done ++ row ∷ []) r × IsOfList s c parts number r) own.0 row older (Contains-push done row, belongs) in
                  subst (λ n. Belong s c parts (done ++ row ∷ []) n list) (sym same) (subst (Belong s c parts (done ++ row ∷ []) number) (sym list_is) all)
              | inr other ↦ belong_more done row at list (are.only at list (sym (put.others at other) ∙ is))
            ];
      }

-- ---- misfits

chosen_is : {X : Type 0} (P : X → Type 0) {xs ys : List X} (x : X) → Chosen P xs ys → Contains ys x → P x
chosen_is P x nothing there = absurd (Contains-nil x there)
chosen_is P x (taken {x = y} {xs = xs} {ys = ys} p more) there =
    elim (Contains-cases y ys x there) [
      | inl same ↦ subst P same p
      | inr later ↦ chosen_is P x more later
    ]
chosen_is P x (left_out {x = y} {xs = xs} {ys = ys} p more) there = chosen_is P x more there

both_chosen : {X : Type 0} (P : X → Type 0) (xs : List X) (y : X) (ys : List X) → Chosen P xs [] → Chosen P xs (y ∷ ys) → ⊥
both_chosen P xs y ys none some =
    Contains-nil y (chosen_keeps P y none (chosen_within P y some (Contains-head y ys)) (chosen_is P y some (Contains-head y ys)))

-- a row in a list can be of a part
pub placed_fits : (s : Schema) (c : Context) (parts : List Part) (row : List Value) (number : ℕ) → IsOfList s c parts number row → Chosen (CanBeOf s c row) parts [] → ⊥
placed_fits s c parts row number is none = by_place is.place is.is_place is.list
  where
    by_place : (place : Place) → IsPlace s c row parts place → list_of (length parts) place ≡ Some number → ⊥
    by_place Nowhere h e = cc
    by_place (Alone at) h e = both_chosen (CanBeOf s c row) parts h.part [] none h.chosen
    by_place Whole h e = both_chosen (CanBeOf s c row) parts h.one (h.other ∷ h.more) none h.chosen

-- where all rows stand in lists, none is a misfit
pub none_misfit : (s : Schema) (c : Context) (q : Query) (rows : List (List Value)) (lists : List (List (List Value))) → AreByPlace s c q.parts rows lists → HasMisfit s c q rows → ⊥
none_misfit s c q rows lists placed h =
    let is = All-contains (IsInList s c q.parts lists) rows h.row placed.all h.there in
    placed_fits s c q.parts h.row is.number is.belongs h.misfit

-- ---- all rows, one after another

-- some of the rows stand in the lists, and these are left
pub record SoFar (s : Schema) (c : Context) (parts : List Part) (rows left : List (List Value)) (lists : List (List (List Value))) : Type 0 where
  pub done : List (List Value)
  pub rows_are : rows ≡ done ++ left
  pub placed : AreByPlace s c parts done lists

pub so_far_none : (s : Schema) (c : Context) (parts : List Part) (rows left : List (List Value)) (lists : List (List (List Value))) → rows ≡ left → length lists ≡ length parts + 1 → All (λ list. list ≡ []) lists →
    SoFar s c parts rows left lists
so_far_none s c parts rows left lists same many empty = record { done = []; rows_are = same; placed = none_by_place s c parts lists many empty }

pub so_far_more : (s : Schema) (c : Context) (parts : List Part) (rows left more : List (List Value)) (row : List Value) (old new : List (List (List Value))) (number : ℕ) → SoFar s c parts rows left old → left ≡ row ∷ more →
    IsOfList s c parts number row → number < length old → IsPut number row old new → SoFar s c parts rows more new
so_far_more s c parts rows left more row old new number so_far left_is belongs low put =
    record {
      done = so_far.done ++ row ∷ [];
      rows_are = so_far.rows_are ∙ (ap (λ l. so_far.done ++ l) left_is ∙ sym (append_assoc so_far.done (row ∷ []) more));
      placed = more_by_place s c parts so_far.done row number old new so_far.placed belongs low put;
    }

none_left : {X : Type 0} (xs : List X) → length xs ≡ 0 → xs ≡ []
none_left [] none = refl
none_left (x ∷ xs) none = absurd (omega (arith, none))

so_far_all : (s : Schema) (c : Context) (parts : List Part) (rows : List (List Value)) (lists : List (List (List Value))) → SoFar s c parts rows [] lists → AreByPlace s c parts rows lists
so_far_all s c parts rows lists so_far =
    subst (λ rs. AreByPlace s c parts rs lists) (sym (so_far.rows_are ∙ append-nil so_far.done)) so_far.placed

-- no row is left
pub so_far_done : (s : Schema) (c : Context) (parts : List Part) (rows left : List (List Value)) (lists : List (List (List Value))) → SoFar s c parts rows left lists → length left ≡ 0 → AreByPlace s c parts rows lists
so_far_done s c parts rows left lists so_far none =
    so_far_all s c parts rows lists (subst (λ rest. SoFar s c parts rows rest lists) (none_left left none) so_far)

-- the row that comes next is one of the rows
pub so_far_next : (s : Schema) (c : Context) (parts : List Part) (rows left more : List (List Value)) (row : List Value) (lists : List (List (List Value))) → SoFar s c parts rows left lists → left ≡ row ∷ more → Contains rows row
so_far_next s c parts rows left more row lists so_far left_is =
    subst (λ rs. Contains rs row) (sym (so_far.rows_are ∙ ap (λ l. so_far.done ++ l) left_is)) (Contains-append_right so_far.done (row ∷ more) row (Contains-head row more))

-- ---- the number of a list

under_length : (xs : List Part) (n : ℕ) (x : Part) → slice_get xs n ≡ Some x → n < length xs
under_length [] n x e = cc
under_length (y ∷ xs) zero x e = omega arith
under_length (y ∷ xs) (suc n) x e = let rest = under_length xs n x e in omega (arith, rest)

pub number_low : (s : Schema) (c : Context) (parts : List Part) (number count : ℕ) (row : List Value) → IsOfList s c parts number row → count ≡ length parts + 1 → number < count
number_low s c parts number count row is many = by_place is.place is.is_place is.list
  where
    by_place : (place : Place) → IsPlace s c row parts place → list_of (length parts) place ≡ Some number → number < count
    by_place Nowhere h e = cc
    by_place (Alone at) h e =
        let same = some_is at number e in
        let low = under_length parts at h.part h.at in
        omega (arith, same, low, many)
    by_place Whole h e = let same = some_is (length parts) number e in omega (arith, same, many)
