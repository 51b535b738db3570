-- A row of terms that a link's target may be: in each target column the term that the link puts there, and a parameter in the others.
use Rattle.std.proofs.Common.{◌≡◌, ◌∙◌, ℕ, zero, suc, ◌+◌, List, [], ◌∷◌, Bool, true, false, length, map, refl, ap, sym, subst, arith}
use Rattle.std.proofs.lemmas.Bool.{eq-eqb}
use Rattle.std.proofs.lemmas.List.Elements.{All-cons, All-head, All-nil, All-tail}
use Rattle.std.proofs.lemmas.Map.Keys.{IsDistinct-head, IsDistinct-tail}
use Rattle.std.proofs.lemmas.Option.{same_Some, slice_get-map}
use Rattle.std.specs.List.{All, AllByRecursion, AllZip, IsDistinct, range_with_len, zip}
use Rattle.std.specs.Option.{option_map}
use Rattle.std.specs.Prelude.{Option, Some, None, nat_eq, option_and_then, slice_get, unwrap_or}
use Rattle.ba_model.specs.SchemaFaults.{columns_of}
use Rattle.ba_model.specs.declared.schema.Column.{Column}
use Rattle.ba_model.specs.declared.schema.Link.{Link}
use Rattle.ba_model.specs.declared.schema.Schema.{Schema}
use Rattle.ba_facts.specs.Known.{OneClass, ShownNotNull, itself, param}
use Rattle.ba_facts.specs.Knowing.{IsThere}
use Rattle.ba_facts.specs.Matches.{terms_at}
use Rattle.ba_facts.specs.declared.branch.Branch.{Branch}
use Rattle.ba_facts.specs.declared.term.Fact.{Fact}
use Rattle.ba_facts.specs.declared.term.Lesson.{Lesson}
use Rattle.ba_facts.specs.declared.term.Lesson.TheVariants.{Same}
use Rattle.ba_facts.specs.declared.term.Term.{Term}
use Rattle.ba_facts.specs.declared.term.Term.TheVariants.{Param}
use Rattle.ba_kernel.proofs.StepFits.{All-at}
use Rattle.ba_kernel.specs.Effects.{same_at, with_fact, with_lessons}
use Rattle.ba_kernel.specs.Steps.{IsNotNullAt}
use Rattle.ba_instant.proofs.GivenLemmas.{grows_by, mirrored, stand_in}
use Rattle.ba_instant.proofs.MirrorLemmas.{joined_rows, own_stays}
use Rattle.ba_instant.specs.QuietSteps.{IsFilled, IsRowFor}
use Rattle.ba_instant.specs.Windows.{GrowsQuietly, IsToldBy}

abbrev pick_by : Bool → Term → Term → Term
pick_by true a c = a
pick_by false a c = c

abbrev cell : List Term → ℕ → Term
cell ts i = unwrap_or (slice_get ts i) (Param 0)

-- the term of the column that goes to the target column
abbrev pub pick : List Term → List ℕ → List ℕ → ℕ → Term
pick ts [] targets j = Param 0
pick ts (i ∷ columns) [] j = Param 0
pick ts (i ∷ columns) (m ∷ targets) j = pick_by (nat_eq m j) (cell ts i) (pick ts columns targets j)

-- each target column has the term of its column
abbrev Picks : (ℕ → Term) → List Term → List ℕ → List ℕ → Type 0
Picks g ts [] targets = Unit {0}
Picks g ts (i ∷ columns) [] = Unit {0}
Picks g ts (i ∷ columns) (m ∷ targets) = (g m ≡ cell ts i) × Picks g ts columns targets

module _ (ts : List Term) where
  picks_past : (i m : ℕ) (columns targets cs ms : List ℕ) → AllByRecursion (λ y. nat_eq m y ≡ false) ms → Picks (pick ts columns targets) ts cs ms →
      Picks (pick ts (i ∷ columns) (m ∷ targets)) ts cs ms
  picks_past i m columns targets [] ms apart h = tt
  picks_past i m columns targets (c ∷ cs) [] apart h = tt
  picks_past i m columns targets (c ∷ cs) (n ∷ ms) apart h =
      (ap (λ flag. pick_by flag (cell ts i) (pick ts columns targets n)) apart.0 ∙ h.0, picks_past i m columns targets cs ms apart.1 h.1)

  picks : (columns targets : List ℕ) → IsDistinct nat_eq targets → Picks (pick ts columns targets) ts columns targets
  picks [] targets h = tt
  picks (i ∷ columns) [] h = tt
  picks (i ∷ columns) (m ∷ targets) h = (
    ap (λ flag. pick_by flag (cell ts i) (pick ts columns targets m)) (eq-eqb m m refl),
    picks_past i m columns targets columns targets (IsDistinct-head nat_eq m targets h) (picks columns targets (IsDistinct-tail nat_eq m targets h)),
  )

range_at : (g : ℕ → Term) (first count n : ℕ) (v : Term) → slice_get (map g (range_with_len first count)) n ≡ Some v → v ≡ g (first + n)
range_at g first zero n v e = cc
range_at g first (suc count) zero v e = sym (same_Some (g first) v e) ∙ ap g (let same : first ≡ first + 0 = omega arith in same)
range_at g first (suc count) (suc n) v e = range_at g (first + 1) count n v e ∙ ap g (let same : first + 1 + n ≡ first + suc n = omega arith in same)

module _ (b : Branch) (ts : List Term) where
  cell_filled : (i : ℕ) → IsNotNullAt b ts i → ShownNotNull b.known (cell ts i)
  cell_filled i h = subst (ShownNotNull b.known) (sym (ap (λ o. unwrap_or o (Param 0)) h.there)) h.not_null

  by_filled : (flag : Bool) (a c : Term) → ShownNotNull b.known a → ShownNotNull b.known c → ShownNotNull b.known (pick_by flag a c)
  by_filled true a c h g = h
  by_filled false a c h g = g

  param_filled : ShownNotNull b.known (Param 0)
  param_filled = record { other = Param 0; class = itself; not_null = param }

  pick_filled : (columns targets : List ℕ) (j : ℕ) → All (IsNotNullAt b ts) columns → ShownNotNull b.known (pick ts columns targets j)
  pick_filled [] targets j h = param_filled
  pick_filled (i ∷ columns) [] j h = param_filled
  pick_filled (i ∷ columns) (m ∷ targets) j h =
      by_filled (nat_eq m j) (cell ts i) (pick ts columns targets j) (cell_filled i (All-head (IsNotNullAt b ts) i columns h))
      (pick_filled columns targets j (All-tail (IsNotNullAt b ts) i columns h))

  range_filled : (g : ℕ → Term) → ((n : ℕ) → ShownNotNull b.known (g n)) → (first : ℕ) (columns : List Column) →
      AllZip (IsFilled b.known) columns (map g (range_with_len first (length columns)))
  range_filled g h first [] = tt
  range_filled g h first (column ∷ columns) = (λ is. h first, range_filled g h (first + 1) columns)

-- ---- the case of a link

module _ (s : Schema) (b : Branch) (f : Fact) (it : Link) (there : All (IsThere b.known) f.terms) (not_null : All (IsNotNullAt b f.terms) it.columns)
    (distinct : IsDistinct nat_eq it.target_columns) where
  abbrev g : ℕ → Term
  g = pick f.terms it.columns it.target_columns

  abbrev row : List Term
  row = map g (range_with_len 0 (length (columns_of s.tables it.target)))

  abbrev mid : Branch
  mid = with_fact s f.side (1 + f.round) b it.target

  rows_for : AllZip (IsRowFor s b.known) (it.target ∷ []) (row ∷ [])
  rows_for = (range_filled b f.terms g (λ n. pick_filled b f.terms it.columns it.target_columns n not_null) 0 (columns_of s.tables it.target), tt)

  abbrev by : Term → Term
  by = stand_in s b f.side (1 + f.round) (it.target ∷ []) (row ∷ []) rows_for

  abbrev news : List Term
  news = terms_at mid (length b.facts)

  row_is : map by news ≡ row
  row_is = let e : map by news ∷ [] ≡ row ∷ [] = mirrored s b f.side (1 + f.round) (it.target ∷ []) (row ∷ []) rows_for in cc

  new_is : (m : ℕ) (u : Term) → slice_get news m ≡ Some u → by u ≡ g m
  new_is m u e =
      let at : slice_get row m ≡ Some (by u) = subst (λ ts. slice_get ts m ≡ Some (by u)) row_is (slice_get-map by news m ∙ ap (option_map by) e) in
      range_at g 0 (length (columns_of s.tables it.target)) m (by u) at ∙ ap g (let same : 0 + m ≡ m = omega arith in same)

  pair_told : (o q : Option Term) (t : Term) (lesson : Lesson) → ((a : Term) → o ≡ Some a → by a ≡ t) → ((u : Term) → q ≡ Some u → by u ≡ t) →
      option_and_then (λ a. option_map (λ u. Same a u) q) o ≡ Some lesson → IsToldBy b.known by lesson
  pair_told None q t lesson left right e = cc
  pair_told (Some a) None t lesson left right e = cc
  pair_told (Some a) (Some u) t lesson left right e =
      subst (IsToldBy b.known by) (same_Some (Same a u) lesson e)
      (subst (λ x. OneClass b.known (by a) x) (left a refl ∙ sym (right u refl)) itself)

  pairs_told : (columns targets : List ℕ) (lessons : List Lesson) → Picks g f.terms columns targets → map (same_at f.terms news) (zip columns targets) ≡ map Some lessons →
      All (IsToldBy b.known by) lessons
  pairs_told [] targets [] h e = All-nil (IsToldBy b.known by)
  pairs_told [] targets (lesson ∷ lessons) h e = cc
  pairs_told (i ∷ columns) [] [] h e = All-nil (IsToldBy b.known by)
  pairs_told (i ∷ columns) [] (lesson ∷ lessons) h e = cc
  pairs_told (i ∷ columns) (m ∷ targets) [] h e = cc
  pairs_told (i ∷ columns) (m ∷ targets) (lesson ∷ lessons) h e =
      let first : same_at f.terms news (i, m) ≡ Some lesson = cc in
      let rest : map (same_at f.terms news) (zip columns targets) ≡ map Some lessons = cc in
      All-cons (IsToldBy b.known by) lesson lessons
      (pair_told (slice_get f.terms i) (slice_get news m) (cell f.terms i) lesson
      (λ a is. own_stays b.known (joined_rows (row ∷ [])) a (All-at (IsThere b.known) f.terms i a there is) ∙ sym (ap (λ o. unwrap_or o (Param 0)) is))
      (λ u is. new_is m u is ∙ h.0) first)
      (pairs_told columns targets lessons h.1 rest)

  pub link_grows : (lessons : List Lesson) → map (same_at f.terms news) (zip it.columns it.target_columns) ≡ map Some lessons →
      GrowsQuietly (1 + f.round) b (with_lessons mid lessons)
  link_grows lessons e =
      grows_by s b f.side (1 + f.round) (it.target ∷ []) (row ∷ []) rows_for lessons
      (pairs_told it.columns it.target_columns lessons (picks f.terms it.columns it.target_columns distinct) e)
