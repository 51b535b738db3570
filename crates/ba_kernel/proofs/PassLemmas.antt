-- The first of a list without something, facts that are a part's, and a head beside the goal row.
use Rattle.std.proofs.Common.{◌≡◌, ◌∙◌, ℕ, zero, suc, ◌+◌, ◌<◌, ◌≤◌, inl, inr, List, [], ◌∷◌, length, get_or, map, refl, sym, ap, subst, arith}
use Rattle.std.proofs.lemmas.List.Elements.{AllZip-get_or, length_all_zip}
use Rattle.std.proofs.lemmas.Option.{get_or_from_slice_get, slice_get-get_or, slice_get_read, slice_get_within}
use Rattle.std.proofs.lemmas.List.{length-map}
use Rattle.std.proofs.lemmas.Slice.Zip.{length-zip}
use Rattle.std.specs.List.{All, AllZip, zip}
use Rattle.std.specs.Prelude.{Option, Some, None, Result, Ok, Err, ⊤, slice_get}
use Rattle.ba_model.specs.declared.query.Atom.{Atom}
use Rattle.ba_model.specs.declared.query.Operand.{Operand}
use Rattle.ba_model.specs.declared.query.Part.{Part}
use Rattle.ba_model.specs.declared.schema.Link.{Link}
use Rattle.ba_facts.proofs.PlaceLemmas.{all_places, upto}
use Rattle.ba_facts.specs.Known.{Known}
use Rattle.ba_facts.specs.Matches.{AreTheSame, IsMapping, IsShown, IsUndecided, row_of, term_of}
use Rattle.ba_kernel.specs.Effects.{rows_at}
use Rattle.ba_kernel.specs.Steps.{AreEqualAt, ArePair, FactsPass, FactsRefuse, FirstWithout, GoalRefuses, IsFirstDifferent, IsFirstWithout, IsKeyOf, IsLinkOf, IsNotNullAt}
use Rattle.ba_kernel.specs.Steps.{KeyRefuses, LinkRefuses}
use Rattle.ba_kernel.specs.SearchStates.{Tested}
use Rattle.ba_facts.specs.declared.branch.Branch.{Branch}
use Rattle.ba_kernel.specs.declared.problem.Problem.{Problem}
use Rattle.ba_kernel.specs.declared.step.StepFault.{StepFault}
use Rattle.ba_kernel.specs.declared.step.StepFault.TheVariants.{BadFact, CondNotShown, HeadDiffers}
use Rattle.ba_facts.specs.declared.term.Fact.{Fact}
use Rattle.ba_facts.specs.declared.term.Side.{Side}
use Rattle.ba_facts.specs.declared.term.Side.TheVariants.{Two}
use Rattle.ba_facts.specs.declared.term.Term.{Term}

-- ---- the first without P
module _ {X : Type 0} (P : X → Type 0) (xs : List X) where
  abbrev pub Before : ℕ → Type 0
  Before i = (k : ℕ) (x : X) → k < i → slice_get xs k ≡ Some x → P x

  -- at the place i
  module _ (i : ℕ) (x : X) (there : slice_get xs i ≡ Some x) where
    pub first_here : (P x → ⊥) → Before i → IsFirstWithout P xs i
    first_here fails before = record { it = x; there = there; without = fails; before = before }

    pub before_more : P x → Before i → Before (i + 1)
    before_more here before k y below at = elim (upto k i below) [
      | inl less ↦ before k y less at
      | inr same ↦
          let again : slice_get xs i ≡ Some y = subst (λ n. slice_get xs n ≡ Some y) same at in
          subst P (let e : x ≡ y = cc (there, again) in e) here
    ]

-- of numbers, at the place i
module _ (P : ℕ → Type 0) (xs : List ℕ) (i : ℕ) (below : i < length xs) where
  pub number_first : (P (get_or xs i 0) → ⊥) → Before P xs i → IsFirstWithout P xs i
  number_first fails before = first_here P xs i (get_or xs i 0) (slice_get-get_or xs i 0 below) fails before

  pub number_more : P (get_or xs i 0) → Before P xs i → Before P xs (i + 1)
  number_more here before = before_more P xs i (get_or xs i 0) (slice_get-get_or xs i 0 below) here before

pub first_without : (k : Known) (rows : List (List Term)) (conds : List Atom) (found : Option ℕ) → IsUndecided k rows conds found →
    FirstWithout (IsShown k rows) conds found
first_without k rows conds None h = h
first_without k rows conds (Some n) h = record { it = h.atom; there = h.there; without = h.hidden; before = h.before }

-- ---- two lists, place by place
all_zip : {X : Type 0} (R : X → X → Type 0) (d : X) (xs ys : List X) → length xs ≡ length ys →
    ((k : ℕ) → k < length xs → R (get_or xs k d) (get_or ys k d)) → AllZip R xs ys
all_zip R d [] [] e each = tt
all_zip R d [] (y ∷ ys) e each = absurd (omega arith)
all_zip R d (x ∷ xs) [] e each = absurd (omega arith)
all_zip R d (x ∷ xs) (y ∷ ys) e each = (each 0 (omega arith), all_zip R d xs ys (omega arith) (λ k below. each (suc k) (omega arith)))

-- tables and the numbers of their facts
module _ (R : ℕ → ℕ → Type 0) (from facts : List ℕ) where
  pub mapping_all : (i : ℕ) → length from ≡ length facts → length from ≤ i → ((k : ℕ) → k < i → R (get_or from k 0) (get_or facts k 0)) → AllZip R from facts
  mapping_all i e past each = all_zip R 0 from facts e (λ k below. each k (omega arith))

  pub mapping_fails : (i : ℕ) → i < length from → (R (get_or from i 0) (get_or facts i 0) → ⊥) → AllZip R from facts → ⊥
  mapping_fails i below fails h = fails (AllZip-get_or R from facts i 0 0 h below)

  pub mapping_differs : (length from ≡ length facts → ⊥) → AllZip R from facts → ⊥
  mapping_differs differ h = differ (length_all_zip R from facts h)

-- ---- a head beside a row of the same width
zip_at : {X Y : Type 0} (f : X → Option Y) (xs : List X) (ys : List Y) (i : ℕ) (x : X) → slice_get xs i ≡ Some x → i < length ys →
    slice_get (zip (map f xs) (map Some ys)) i ≡ Some (f x, slice_get ys i)
zip_at f [] ys i x there below = absurd (cc)
zip_at f (z ∷ xs) [] i x there below = absurd (omega arith)
zip_at f (z ∷ xs) (w ∷ ys) zero x there below = let e : z ≡ x = cc in ap (λ v. Some (f v, Some w)) e
zip_at f (z ∷ xs) (w ∷ ys) (suc i) x there below = zip_at f xs ys i x there (omega arith)

zip_all : {X Y : Type 0} (R : X → Y → Type 0) (xs : List X) (ys : List Y) → length xs ≡ length ys → All (λ two. R two.0 two.1) (zip xs ys) → AllZip R xs ys
zip_all R [] [] e h = tt
zip_all R [] (y ∷ ys) e h = absurd (omega arith)
zip_all R (x ∷ xs) [] e h = absurd (omega arith)
zip_all R (x ∷ xs) (y ∷ ys) e h = (h 0 (x, y) (omega arith), zip_all R xs ys (omega arith) (λ k d below. h (suc k) d (omega arith)))

-- the head of a part over facts with these terms, beside the goal row
module _ (k : Known) (rows : List (List Term)) (head : List Operand) (goal : List Term) (wide : length head ≡ length goal) where
  abbrev Same : Option Term × Option Term → Type 0
  Same two = AreTheSame k two.0 two.1

  abbrev beside : List (Option Term × Option Term)
  beside = zip (map (term_of rows) head) (map Some goal)

  -- at the column i
  module _ (i : ℕ) (x : Operand) (below : i < length head) (is : x ≡ get_or head i x) where
    head_at : slice_get beside i ≡ Some (term_of rows x, slice_get goal i)
    head_at = zip_at (term_of rows) head goal i x (slice_get_read head (length head) i x refl below is) (omega arith)

    pub head_first : (AreTheSame k (term_of rows x) (slice_get goal i) → ⊥) → Before Same beside i → IsFirstWithout Same beside i
    head_first fails before = first_here Same beside i (term_of rows x, slice_get goal i) head_at fails before

    pub head_more : AreTheSame k (term_of rows x) (slice_get goal i) → Before Same beside i → Before Same beside (i + 1)
    head_more here before = before_more Same beside i (term_of rows x, slice_get goal i) head_at here before

  pub head_all : (i : ℕ) → length head ≤ i → Before Same beside i → AllZip (AreTheSame k) (map (term_of rows) head) (map Some goal)
  head_all i past before =
      let long : length (map (term_of rows) head) ≡ length (map Some goal) = simp length-map wide in
      let whole : length beside ≤ i = simp (length-zip, length-map) (omega arith) in
      zip_all (AreTheSame k) (map (term_of rows) head) (map Some goal) long (all_places Same beside i whole before)

-- ---- tests
pub tested_as : {P Q : Type 0} {R S : StepFault → Type 0} (result : Result ⊤ StepFault) → (P → Q) → ((fault : StepFault) → R fault → S fault) →
    Tested P R result → Tested Q S result
tested_as (Ok u) passes refuses h = passes h
tested_as (Err fault) passes refuses h = refuses fault h

-- a column of a key or a link that isn't shown, where terms and columns are given apart
module _ (p : Problem) (b : Branch) where
  pub key_hidden : (key left right : ℕ) (f g : Fact) (columns zs : List ℕ) (xs ys : List Term) (n : ℕ) → xs ≡ f.terms → ys ≡ g.terms → zs ≡ columns →
      ArePair b left right f g → IsKeyOf p.policy.schema f key columns → IsFirstWithout (AreEqualAt b xs ys) zs n →
      KeyRefuses p b key left right (CondNotShown n)
  key_hidden key left right f g columns zs xs ys n left_is right_is columns_are pair of h =
      let own : IsFirstWithout (AreEqualAt b f.terms ys) zs n = subst (λ ts. IsFirstWithout (AreEqualAt b ts ys) zs n) left_is h in
      let both : IsFirstWithout (AreEqualAt b f.terms g.terms) zs n = subst (λ ts. IsFirstWithout (AreEqualAt b f.terms ts) zs n) right_is own in
      KeyRefuses.hidden pair of (subst (λ them. IsFirstWithout (AreEqualAt b f.terms g.terms) them n) columns_are both)

  pub link_hidden : (link fact : ℕ) (f : Fact) (it : Link) (xs : List Term) (zs : List ℕ) (n : ℕ) → xs ≡ f.terms → zs ≡ it.columns →
      slice_get b.facts fact ≡ Some f → IsLinkOf p.policy.schema f link it → IsFirstWithout (IsNotNullAt b xs) zs n → LinkRefuses p b link fact (CondNotShown n)
  link_hidden link fact f it xs zs n terms_are columns_are there of h =
      let own : IsFirstWithout (IsNotNullAt b f.terms) zs n = subst (λ ts. IsFirstWithout (IsNotNullAt b ts) zs n) terms_are h in
      LinkRefuses.hidden there of (subst (λ them. IsFirstWithout (IsNotNullAt b f.terms) them n) columns_are own)

-- facts of a part, where its tables are given apart
module _ (b : Branch) (side : Side) (part : Part) (facts from : List ℕ) (is : from ≡ part.from) where
  pub facts_other : (IsMapping b side from facts → ⊥) → FactsRefuse b side part facts BadFact
  facts_other other = FactsRefuse.no_mapping (subst (λ tables. IsMapping b side tables facts → ⊥) is other)

  pub facts_hidden : (n : ℕ) → IsMapping b side from facts → IsFirstWithout (IsShown b.known (rows_at b facts)) part.conds n →
      FactsRefuse b side part facts (CondNotShown n)
  facts_hidden n mapping h = FactsRefuse.hidden (subst (λ tables. IsMapping b side tables facts) is mapping) h

-- the goal's part of a number, where its head is given apart
pub goal_wide : (parts : List Part) (part : ℕ) (it : Part) (head : List Operand) (n : ℕ) → All (λ each. length each.head ≡ n) parts →
    slice_get parts part ≡ Some it → head ≡ it.head → length head ≡ n
goal_wide parts part it head n wide there is =
    let found : get_or parts part it ≡ it = get_or_from_slice_get parts part it it there in
    let long : length (get_or parts part it).head ≡ n = wide part it (slice_get_within parts part it there) in
    ap length is ∙ (sym (ap (λ each. length each.head) found) ∙ long)

pub goal_differs : (p : Problem) (b : Branch) (part : ℕ) (facts : List ℕ) (it : Part) (head : List Operand) (n : ℕ) → slice_get p.goal.parts part ≡ Some it →
    FactsPass b Two it facts → head ≡ it.head → IsFirstDifferent b (row_of b facts head) n → GoalRefuses p b part facts (HeadDiffers n)
goal_differs p b part facts it head n there pass is h =
    GoalRefuses.head there pass (subst (λ operands. IsFirstDifferent b (row_of b facts operands) n) is h)
