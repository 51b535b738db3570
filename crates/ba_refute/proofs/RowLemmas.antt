-- The rows of facts, and the tables that they make.
use Rattle.std.proofs.Common.{◌≡◌, ℕ, zero, suc, ◌+◌, ◌<◌, ◌≤◌, List, [], ◌∷◌, ◌++◌, AllPairs, Contains, drop, get_or, inl, inr, length, take, ⊎_elim, refl, sym, ◌∙◌, subst, arith, Some}
use Rattle.std.specs.BTreeSet.{BTreeSet, IsEmpty}
use Rattle.std.specs.List.{slice_get}
use Rattle.std.proofs.lemmas.Bool.{cases_lt}
use Rattle.std.proofs.lemmas.List.{length_push, take-append-drop, take-append-le, take_all}
use Rattle.std.proofs.lemmas.List.Elements.{Contains-append_left, Contains-get_or, Contains-push, Contains-push_cases}
use Rattle.std.proofs.lemmas.List.Quantifiers.{all_pairs_push}
use Rattle.std.proofs.lemmas.Option.{none-some}
use Rattle.ba_eval.proofs.HeadLemmas.{one_head}
use Rattle.ba_facts.proofs.Elements.{get_push_cases}
use Rattle.ba_facts.specs.declared.term.Fact.{Fact}
use Rattle.ba_facts.specs.declared.term.Side.{Side}
use Rattle.ba_model.proofs.ElementLemmas.{Contains-nil}
use Rattle.ba_model.specs.declared.policy.Context.{Context}
use Rattle.ba_model.specs.declared.value.Value.{Value}
use Rattle.ba_refute.proofs.OnceLemmas.{none_seen}
use Rattle.ba_refute.specs.Images.{AreFactRows, AreSideRows, ComesBefore, IsFactRow, IsRowAt}
use Rattle.ba_refute.specs.Once.{AreSeen, IsWith}

pub rows_none : (c : Context) (values : List Value) (side : Side) (table : ℕ) → AreFactRows c values [] side table []
rows_none c values side table = record {
  in_order = λ i j d less within. absurd (omega (arith, within));
  sound = λ r h. absurd (Contains-nil r h);
  complete = λ r h. absurd (Contains-nil h.fact h.there);
}

-- the rows before any fact, and what was seen of them
pub nothing_yet : (c : Context) (values : List Value) (side : Side) (table : ℕ) (set : BTreeSet (List Value)) → IsEmpty set → AreFactRows c values [] side table [] × AreSeen [] set
nothing_yet c values side table set empty = (rows_none c values side table, inl (none_seen set empty))

-- ---- the front of the facts

front_there : {X : Type 0} (n : ℕ) (xs : List X) (x : X) → Contains (take n xs) x → Contains xs x
front_there n xs x h = subst (λ zs. Contains zs x) (take-append-drop n xs) (Contains-append_left (take n xs) (drop n xs) x h)

all_there : {X : Type 0} (n : ℕ) (xs : List X) (y x : X) → length xs ≤ n → Contains xs x → Contains (take n (xs ++ y ∷ [])) x
all_there n xs y x past h =
    ⊎_elim
    (λ (more : length xs < n).
    subst (λ zs. Contains zs x) (sym (take_all n (xs ++ y ∷ []) (omega (arith, more, length_push xs y)))) (Contains-append_left xs (y ∷ []) x h))
    (λ (upto : n ≤ length xs).
    subst (λ zs. Contains zs x) (sym (take-append-le n xs (y ∷ []) upto ∙ take_all n xs past)) h)
    (cases_lt (length xs) n)

module _ (c : Context) (values : List Value) (facts : List Fact) (side : Side) (table : ℕ) where
  among : (others : List Fact) (r : List Value) (h : IsFactRow c values facts side table r) → Contains others h.fact → IsFactRow c values others side table r
  among others r h there = record { fact = h.fact; there = there; side_is = h.side_is; table_is = h.table_is; row = h.row }

  -- two rows don't come before each other
  never : (r s : List Value) → ComesBefore c values facts side table r s → ComesBefore c values facts side table s r → (n : ℕ) →
      (IsFactRow c values (take n facts) side table r → ⊥) × (IsFactRow c values (take n facts) side table s → ⊥)
  never r s first other zero = (λ h. Contains-nil h.fact h.there, λ h. Contains-nil h.fact h.there)
  never r s first other (suc n) =
      let before = never r s first other n in
      let next : suc n ≡ n + 1 = omega arith in (
        λ h. before.1 (other n (subst (λ m. IsFactRow c values (take m facts) side table r) next h)),
        λ h. before.0 (first n (subst (λ m. IsFactRow c values (take m facts) side table s) next h)),
      )

  pub rows_apart : (r s : List Value) → IsFactRow c values facts side table r → ComesBefore c values facts side table r s → ComesBefore c values facts side table s r → ⊥
  rows_apart r s h first other =
      (never r s first other (length facts)).0
      (subst (λ fs. IsFactRow c values fs side table r) (sym (take_all (length facts) facts (omega arith))) h)

-- ---- one fact more

module _ (c : Context) (values : List Value) (facts : List Fact) (side : Side) (table : ℕ) (fact : Fact) where
  abbrev more : List Fact
  more = facts ++ fact ∷ []

  old_row : (r : List Value) → IsFactRow c values facts side table r → IsFactRow c values more side table r
  old_row r h = among c values facts side table more r h (Contains-append_left facts (fact ∷ []) h.fact h.there)

  row_cases : {A : Type 0} (r : List Value) → (IsFactRow c values facts side table r → A) → (fact.side ≡ side → fact.table ≡ table → IsRowAt c values fact.terms r → A) → IsFactRow c values more side table r → A
  row_cases r old new h = ⊎_elim
      (λ (before : Contains facts h.fact). old (among c values more side table facts r h before))
      (λ (e : fact ≡ h.fact).
      new (subst (λ (f : Fact). f.side ≡ side) (sym e) h.side_is) (subst (λ (f : Fact). f.table ≡ table) (sym e) h.table_is)
      (subst (λ (f : Fact). IsRowAt c values f.terms r) (sym e) h.row))
      (Contains-push_cases facts fact h.fact h.there)

  -- a front of the facts with the new one is one of the facts, or has all of them
  front_is : (n : ℕ) → n ≤ length facts → take n facts ≡ take n more
  front_is n upto = sym (take-append-le n facts (fact ∷ []) upto)

  -- a row of the facts stays before those that it came before, and before those that aren't of the facts
  stays_before : (r s : List Value) → IsFactRow c values facts side table r → (IsFactRow c values facts side table s → ComesBefore c values facts side table r s) →
      ComesBefore c values more side table r s
  stays_before r s there before n h =
      ⊎_elim
      (λ (less : n < length facts).
      let own : IsFactRow c values (take (n + 1) facts) side table s =
      subst (λ fs. IsFactRow c values fs side table s) (sym (front_is (n + 1) (omega (arith, less)))) h in
      let old : IsFactRow c values facts side table s = among c values (take (n + 1) facts) side table facts s own (front_there (n + 1) facts own.fact own.there) in
      subst (λ fs. IsFactRow c values fs side table r) (front_is n (omega (arith, less))) (before old n own))
      (λ (past : length facts ≤ n). among c values facts side table (take n more) r there (all_there n facts fact there.fact past there.there))
      (cases_lt n (length facts))

  module _ (rows : List (List Value)) (so_far : AreFactRows c values facts side table rows) where
    stay_in_order : AllPairs (ComesBefore c values more side table) rows
    stay_in_order i j d less within =
        stays_before (get_or rows i d) (get_or rows j d) (so_far.sound (get_or rows i d) (Contains-get_or rows i d (omega (arith, less, within))))
        (λ h. so_far.in_order i j d less within)

    pub rows_pass : ((fact.side ≡ side) × (fact.table ≡ table) → ⊥) → AreFactRows c values more side table rows
    rows_pass other = record {
      in_order = stay_in_order;
      sound = λ r h. old_row r (so_far.sound r h);
      complete = λ r h. row_cases r (λ old. so_far.complete r old) (λ s t w. absurd (other (s, t))) h;
    }

    module _ (row : List Value) (is : (fact.side ≡ side) × (fact.table ≡ table)) (row_is : IsRowAt c values fact.terms row) where
      own_row : (r : List Value) → row ≡ r → IsFactRow c values more side table r
      own_row r e = record { fact = fact; there = Contains-push facts fact; side_is = is.0; table_is = is.1; row = subst (IsRowAt c values fact.terms) e row_is }

      again : Contains rows row → AreFactRows c values more side table rows
      again there = record {
        in_order = stay_in_order;
        sound = λ r h. old_row r (so_far.sound r h);
        complete = λ r h. row_cases r (λ old. so_far.complete r old) (λ s t w. subst (Contains rows) (one_head row r (sym row_is ∙ w)) there) h;
      }

      another : ¬ (Contains rows row) → AreFactRows c values more side table (rows ++ row ∷ [])
      another none = record {
        in_order = all_pairs_push (ComesBefore c values more side table) rows row stay_in_order
            (λ k d below. stays_before (get_or rows k d) row (so_far.sound (get_or rows k d) (Contains-get_or rows k d below)) (λ h. absurd (none (so_far.complete row h))));
        sound = λ r h. ⊎_elim
            (λ (before : Contains rows r). old_row r (so_far.sound r before))
            (λ (e : row ≡ r). own_row r e)
            (Contains-push_cases rows row r h);
        complete = λ r h. row_cases r
            (λ old. Contains-append_left rows (row ∷ []) r (so_far.complete r old))
            (λ s t w. subst (Contains (rows ++ row ∷ [])) (one_head row r (sym row_is ∙ w)) (Contains-push rows row))
            h;
      }

      pub rows_more : (new : List (List Value)) → IsWith rows row new → AreFactRows c values more side table new
      rows_more new (inl h) = subst (AreFactRows c values more side table) (sym h.1) (again h.0)
      rows_more new (inr h) = subst (AreFactRows c values more side table) (sym h.1) (another h.0)

pub tables_none : (c : Context) (values : List Value) (facts : List Fact) (side : Side) → AreSideRows c values facts 0 side []
tables_none c values facts side = record { len = refl; each = λ table rows h. absurd (none-some rows h) }

pub tables_more : (c : Context) (values : List Value) (facts : List Fact) (i : ℕ) (side : Side) (all : List (List (List Value))) (rows : List (List Value)) → AreSideRows c values facts i side all → AreFactRows c values facts side i rows → AreSideRows c values facts (i + 1) side (all ++ rows ∷ [])
tables_more c values facts i side all rows so_far new = record {
  len = omega (arith, length_push all rows, so_far.len);
  each = λ table found h. ⊎_elim
      (λ (old : slice_get all table ≡ Some found). so_far.each table found old)
      (λ (e : (table ≡ length all) × (rows ≡ found)).
      let at : i ≡ table = omega (arith, e.0, so_far.len) in
      subst (λ t. AreFactRows c values facts side t found) at (subst (AreFactRows c values facts side i) e.1 new))
      (get_push_cases all rows table found h);
}
