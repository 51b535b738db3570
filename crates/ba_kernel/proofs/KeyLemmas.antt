-- Two rows of a table that are shown equal on a key are one row.
use Rattle.std.proofs.Common.{◌≡◌, ℕ, List, [], ◌∷◌, map, refl, ap₂, sym, ◌∙◌, subst}
use Rattle.std.proofs.lemmas.List.Elements.{All-cons, All-head, All-nil, All-tail, All-weaker}
use Rattle.std.specs.List.{All, Contains, zip}
use Rattle.std.specs.Prelude.{Some, slice_get, ◌≢◌}
use Rattle.ba_model.specs.Conform.{KeyHolds, Match, NoNull}
use Rattle.ba_model.specs.Meaning.{rows_of}
use Rattle.ba_model.specs.declared.schema.Schema.{Schema}
use Rattle.ba_model.specs.declared.value.RowSet.{RowSet}
use Rattle.ba_model.specs.declared.value.Value.{Value}
use Rattle.ba_model.specs.declared.value.Value.TheVariants.{Null}
use Rattle.ba_facts.specs.Fits.{Fits, FitsAt, Instance, LessonHolds, database_of, value_of_term}
use Rattle.ba_facts.specs.Laws.{NotNullIsTrue, SameIsTrue}
use Rattle.ba_facts.specs.declared.branch.Branch.{Branch}
use Rattle.ba_facts.specs.declared.term.Lesson.TheVariants.{Same}
use Rattle.ba_facts.specs.declared.term.Term.{Term}
use Rattle.ba_kernel.specs.Effects.{with_lessons}
use Rattle.ba_kernel.specs.Steps.{AreEqualAt, KeyLeads}
use Rattle.ba_kernel.specs.declared.problem.Problem.{Problem}
use Rattle.ba_kernel.proofs.StepFits.{Tied, full_value, All-at, fact_holds, image_at, lessons_keep_fit, one_case, side_conforms, table_rows}

maps_equal : {A B : Type 0} (f g : A → B) (xs : List A) → All (λ x. f x ≡ g x) xs → map f xs ≡ map g xs
maps_equal f g [] all = refl
maps_equal f g (x ∷ xs) all =
    ap₂ (λ y ys. y ∷ ys) (All-head (λ x. f x ≡ g x) x xs all) (maps_equal f g xs (All-tail (λ x. f x ≡ g x) x xs all))

-- two rows of one table that are equal on a key that holds, and not NULL there
one_row : (d : RowSet) (table other : ℕ) (key : List ℕ) (row last : List Value) → KeyHolds (rows_of d table) key → other ≡ table →
    Contains (rows_of d table) row → Contains (rows_of d other) last → NoNull row key → Match row key last key → row ≡ last
one_row d table other key row last holds same here there full equal =
    holds row last here (subst (λ t. Contains (rows_of d t) last) same there) full equal

-- terms with one row of values are the same, each with each
same_terms : (i : Instance) (values : List Value) (left right : List Term) (row : List Value) → Tied i values left row → Tied i values right row →
    All (LessonHolds i values) (map (λ two. Same two.0 two.1) (zip left right))
same_terms i values [] right row p q = All-nil (LessonHolds i values)
same_terms i values (a ∷ left) [] row p q = All-nil (LessonHolds i values)
same_terms i values (a ∷ left) (c ∷ right) [] p q = cc
same_terms i values (a ∷ left) (c ∷ right) (v ∷ row) p q =
    let left_are : Tied i values left row = cc in
    let right_are : Tied i values right row = cc in
    All-cons (LessonHolds i values) (Same a c) (map (λ two. Same two.0 two.1) (zip left right))
    (record { value = v; left_is = cc; right_is = cc }) (same_terms i values left right row left_are right_are)

-- two facts that are shown equal on a key, and the rows of their values
module _ (s : Schema) (b : Branch) (i : Instance) (d e : RowSet) (r values : List Value) (fit : FitsAt s b i d e r values) (left right : List Term)
    (row last : List Value) (left_are : Tied i values left row) (right_are : Tied i values right last) where
  equal_at : SameIsTrue → (column : ℕ) → AreEqualAt b left right column → slice_get row column ≡ slice_get last column
  equal_at same column h =
      image_at (value_of_term i values) left row column h.a left_are h.left_is
      ∙ (same s b i d e r values h.a h.c fit h.equal.same
      ∙ sym (image_at (value_of_term i values) right last column h.c right_are h.right_is))

  match_key : SameIsTrue → (key : List ℕ) → All (AreEqualAt b left right) key → Match row key last key
  match_key same key all =
      maps_equal (slice_get row) (slice_get last) key
      (All-weaker (AreEqualAt b left right) (λ column. slice_get row column ≡ slice_get last column) (equal_at same) key all)

  no_null : NotNullIsTrue → (key : List ℕ) → All (AreEqualAt b left right) key → NoNull row key
  no_null not_null key all =
      All-weaker (AreEqualAt b left right) (λ column. slice_get row column ≢ Some Null)
      (λ column h. full_value s b i d e r values fit not_null left row column h.a left_are h.left_is h.equal.not_null.left) key all

-- what fits a branch fits the case of a key
pub key_keeps_fit : NotNullIsTrue → SameIsTrue → (p : Problem) (b : Branch) (i : Instance) (d e : RowSet) (r : List Value) (key left right : ℕ)
    (cases : List Branch) → Fits p.policy.schema b i d e r → KeyLeads p b key left right cases →
    (new : Branch) × Contains cases new × Fits p.policy.schema new i d e r
key_keeps_fit not_null same p b i d e r key left right cases (values, fit) leads =
    let s = p.policy.schema in
    let f = leads.passes.f in
    let g = leads.passes.g in
    let hf = fact_holds s b i d e r values fit left f leads.passes.pair.left_is in
    let hg = fact_holds s b i d e r values fit right g leads.passes.pair.right_is in
    let side = database_of d e f.side in
    let conforms = side_conforms s d e f.side fit.one fit.two in
    let rows = table_rows s side f.table leads.passes.key_of.table conforms leads.passes.key_of.table_is in
    let holds = All-at (KeyHolds (rows_of side f.table)) leads.passes.key_of.table.keys key leads.passes.columns rows.keys leads.passes.key_of.key_is in
    let there : Contains (rows_of side g.table) hg.row = subst (λ x. Contains (rows_of (database_of d e x) g.table) hg.row) leads.passes.pair.side hg.there in
    let one : hf.row ≡ hg.row = one_row side f.table g.table leads.passes.columns hf.row hg.row holds leads.passes.pair.table hf.there there
    (no_null s b i d e r values fit f.terms g.terms hf.row hg.row hf.terms hg.terms not_null leads.passes.columns leads.passes.equal)
    (match_key s b i d e r values fit f.terms g.terms hf.row hg.row hf.terms hg.terms same leads.passes.columns leads.passes.equal) in
    let lessons = same_terms i values f.terms g.terms hf.row hf.terms
    (subst (Tied i values g.terms) (sym one) hg.terms) in
    let all = map (λ two. Same two.0 two.1) (zip f.terms g.terms) in
    (with_lessons b all, one_case cases (with_lessons b all) leads.cases_are, (values, lessons_keep_fit s b i d e r values fit all lessons))
