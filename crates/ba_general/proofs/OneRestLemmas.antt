-- What the others are without some steps is determined, and so are the steps that stay.
use Rattle.std.proofs.Common.{◌≡◌, ℕ, zero, suc, ◌-◌, inl, inr, List, [], ◌∷◌, ◌++◌, take, drop, replicate, refl, sym, ap, ap₂, ◌∙◌, subst, arith}
use Rattle.std.specs.Prelude.{Option, Some, None}
use Rattle.std.specs.List.{AllZip}
use Rattle.std.proofs.lemmas.Option.{same_Some}
use Rattle.ba_facts.specs.declared.term.Term.{Term}
use Rattle.ba_facts.specs.declared.term.Term.TheVariants as terms
use Rattle.ba_facts.specs.declared.term.TermAtom.{TermAtom}
use Rattle.ba_kernel.specs.Courses.{branch_of}
use Rattle.ba_kernel.specs.declared.problem.Problem.{Problem}
use Rattle.ba_kernel.specs.declared.step.Step.{Step}
use Rattle.ba_kernel.specs.declared.step.Step.TheVariants as steps
use Rattle.ba_general.specs.Leaving.{AreOthers, CanNotBeLeftOut, Gaps, IsClosedUp, IsLeftOut, IsMoved, IsMovedAtom, IsMovedBy, IsMovedTerm, IsWithout, KeptAreOne, Leaves}
use Rattle.ba_general.specs.Leaving.{gap_on, gaps_after, gaps_with, made, middle}
use Rattle.ba_general.specs.declared.gap.Gap.{Gap}
use Rattle.ba_general.specs.declared.gap.Span.{Span}
use Rattle.ba_general.specs.declared.making.Made.{Made}

-- ---- moved steps

pub closed_one : (span : Span) (n a b : ℕ) → IsClosedUp span n a → IsClosedUp span n b → a ≡ b
closed_one span n a b (inl h) (inl k) = h.1 ∙ sym k.1
closed_one span n a b (inl h) (inr k) = absurd (omega (arith, h.0, k.0))
closed_one span n a b (inr h) (inl k) = absurd (omega (arith, h.0, k.0))
closed_one span n a b (inr h) (inr k) = omega (arith, h.1, k.1)

zip_one : {X Y : Type 0} (R : X → Y → Type 0) → ((x : X) (y z : Y) → R x y → R x z → y ≡ z) → (xs : List X) (ys zs : List Y) → AllZip R xs ys → AllZip R xs zs → ys ≡ zs
zip_one R one [] [] [] h k = refl
zip_one R one [] [] (z ∷ zs) h k = absurd k
zip_one R one [] (y ∷ ys) zs h k = absurd h
zip_one R one (x ∷ xs) [] zs h k = absurd h
zip_one R one (x ∷ xs) (y ∷ ys) [] h k = absurd k
zip_one R one (x ∷ xs) (y ∷ ys) (z ∷ zs) h k = ap₂ (λ a more. a ∷ more) (one x y z h.0 k.0) (zip_one R one xs ys zs h.1 k.1)

module _ (gap : Gap) where
  term_one : (t a b : Term) → IsMovedTerm gap t a → IsMovedTerm gap t b → a ≡ b
  term_one (terms.Unknown n) a b h k = h.2 ∙ (ap terms.Unknown (closed_one gap.unknowns n h.0 k.0 h.1 k.1) ∙ sym k.2)
  term_one (terms.Val v) a b h k = h ∙ sym k
  term_one (terms.Param n) a b h k = h ∙ sym k
  term_one (terms.Var n) a b h k = h ∙ sym k

  atom_one : (t a b : TermAtom) → IsMovedAtom gap t a → IsMovedAtom gap t b → a ≡ b
  atom_one t a b h k =
      let op : a.op ≡ b.op = h.op ∙ sym k.op in
      let left : a.left ≡ b.left = term_one t.left a.left b.left h.left k.left in
      let right : a.right ≡ b.right = term_one t.right a.right b.right h.right k.right in
      ap₂ (λ (o : _) (two : Term × Term). record { op = o; left = two.0; right = two.1 }) op (ap₂ (λ x y. (x, y)) left right)

  facts_one : (xs ys zs : List ℕ) → AllZip (IsClosedUp gap.facts) xs ys → AllZip (IsClosedUp gap.facts) xs zs → ys ≡ zs
  facts_one xs ys zs h k = zip_one (IsClosedUp gap.facts) (closed_one gap.facts) xs ys zs h k

  pub moved_one : (step a b : Step) → IsMoved gap step a → IsMoved gap step b → a ≡ b
  moved_one (steps.Entry branch entry) a b (IsMoved.entry) (IsMoved.entry) = refl
  moved_one (steps.Key branch key left right) a b (IsMoved.key {newleft = l1} {newright = r1} h1 h2) (IsMoved.key {newleft = l2} {newright = r2} k1 k2) =
      ap₂ (λ l r. steps.Key branch key l r) (closed_one gap.facts left l1 l2 h1 k1) (closed_one gap.facts right r1 r2 h2 k2)
  moved_one (steps.Link branch link fact) a b (IsMoved.link {new = f1} h) (IsMoved.link {new = f2} k) = ap (λ f. steps.Link branch link f) (closed_one gap.facts fact f1 f2 h k)
  moved_one (steps.Rule branch rule part facts) a b (IsMoved.rule {new = f1} h) (IsMoved.rule {new = f2} k) = ap (λ f. steps.Rule branch rule part f) (facts_one facts f1 f2 h k)
  moved_one (steps.View branch view part facts) a b (IsMoved.view {new = f1} h) (IsMoved.view {new = f2} k) = ap (λ f. steps.View branch view part f) (facts_one facts f1 f2 h k)
  moved_one (steps.Split branch atom) a b (IsMoved.split {new = a1} h) (IsMoved.split {new = a2} k) = ap (λ f. steps.Split branch f) (atom_one atom a1 a2 h k)
  moved_one (steps.Absurd branch) a b (IsMoved.absurd) (IsMoved.absurd) = refl
  moved_one (steps.Goal branch part facts) a b (IsMoved.goal {new = f1} h) (IsMoved.goal {new = f2} k) = ap (λ f. steps.Goal branch part f) (facts_one facts f1 f2 h k)

-- ---- the others

pub moved_by_one : (gap : Option Gap) (step a b : Step) → IsMovedBy gap step a → IsMovedBy gap step b → a ≡ b
moved_by_one None step a b h k = h ∙ sym k
moved_by_one (Some gap) step a b h k = moved_one gap step a b h k

others_one : (gaps others : Gaps) (left : ℕ) (later : List Step) (its : List Made) (r1 r2 : List Step) → gaps ≡ others → AreOthers gaps left later its r1 →
    AreOthers others left later its r2 → r1 ≡ r2
others_one gaps others left [] its r1 r2 same (AreOthers.none) (AreOthers.none) = refl
others_one gaps others zero (step ∷ later) [] r1 r2 same h k = elim h [ ]
others_one gaps others (suc left) (step ∷ later) [] r1 r2 same h k = elim h [ ]
others_one gaps others (suc left) (step ∷ later) (it ∷ its) r1 r2 same (AreOthers.gone {gap = g1} e1 h1) (AreOthers.gone {gap = g2} e2 h2) =
    let gap : g1 ≡ g2 = same_Some g1 g2 (sym e1 ∙ e2) in
    others_one (gaps_with gaps (branch_of step) g1) (gaps_with others (branch_of step) g2) left later its r1 r2
    (ap₂ (λ gs g. gaps_with gs (branch_of step) g) same gap) h1 h2
others_one gaps others zero (step ∷ later) (it ∷ its) r1 r2 same (AreOthers.stays {moved = a1} {rest = s1} m1 h1) (AreOthers.stays {moved = a2} {rest = s2} m2 h2) =
    let first : a1 ≡ a2 =
    moved_by_one (gap_on gaps (branch_of step)) step a1 a2 m1 (subst (λ gs. IsMovedBy (gap_on gs (branch_of step)) step a2) (sym same) m2) in
    ap₂ (λ a r. a ∷ r) first
    (others_one (gaps_after gaps step it) (gaps_after others step it) zero later its s1 s2 (ap (λ gs. gaps_after gs step it) same) h1 h2)

pub rest_one : (taken : List Step) (its : List Made) (first end : ℕ) (r1 r2 : List Step) → IsWithout taken its first end r1 → IsWithout taken its first end r2 → r1 ≡ r2
rest_one taken its first end r1 r2 h1 h2 =
    let same : h1.it ≡ h2.it = same_Some h1.it h2.it (sym h1.it_is ∙ h2.it_is) in
    let moved : h1.moved ≡ h2.moved =
    others_one (replicate h1.it.before None) (replicate h2.it.before None) (end - first) (drop first taken) (drop first its) h1.moved h2.moved
    (ap (λ (it : Made). replicate it.before None) same) h1.others h2.others in
    h1.rest_is ∙ (ap (λ m. take first taken ++ m) moved ∙ sym h2.rest_is)

pub left_out_one : (p : Problem) (taken : List Step) (first end : ℕ) (r1 r2 : List Step) → IsLeftOut p taken first end r1 → IsLeftOut p taken first end r2 → r1 ≡ r2
left_out_one p taken first end r1 r2 h1 h2 = rest_one taken (made p taken) first end r1 r2 h1.without h2.without

-- ---- the steps that stay

module _ (p : Problem) where
  -- it can't both be left out and not
  out_or_not : (taken other rest : List Step) (first end : ℕ) → taken ≡ other → IsLeftOut p taken first end rest → ¬ (CanNotBeLeftOut p other first end)
  out_or_not taken other rest first end same out none = none rest (subst (λ t. IsLeftOut p t first end rest) same out)

  kept_same : (taken other : List Step) (first end : ℕ) (k1 k2 : List Step) → taken ≡ other → Leaves p taken first end k1 → Leaves p other first end k2 → k1 ≡ k2
  kept_same taken other first end k1 k2 same (Leaves.none e1) (Leaves.none e2) = same
  kept_same taken other first end k1 k2 same (Leaves.none e1) (Leaves.out less2 l2) = absurd (omega (arith, e1, less2))
  kept_same taken other first end k1 k2 same (Leaves.none e1) (Leaves.stays one2 n2) = same
  kept_same taken other first end k1 k2 same (Leaves.none e1) (Leaves.halves more2 n2 b2 f2) = absurd (omega (arith, e1, more2))
  kept_same taken other first end k1 k2 same (Leaves.out less1 l1) (Leaves.none e2) = absurd (omega (arith, e2, less1))
  kept_same taken other first end k1 k2 same (Leaves.out less1 l1) (Leaves.out less2 l2) =
      left_out_one p other first end k1 k2 (subst (λ t. IsLeftOut p t first end k1) same l1) l2
  kept_same taken other first end k1 k2 same (Leaves.out less1 l1) (Leaves.stays one2 n2) = absurd (out_or_not taken other k1 first end same l1 n2)
  kept_same taken other first end k1 k2 same (Leaves.out less1 l1) (Leaves.halves more2 n2 b2 f2) = absurd (out_or_not taken other k1 first end same l1 n2)
  kept_same taken other first end k1 k2 same (Leaves.stays one1 n1) (Leaves.none e2) = same
  kept_same taken other first end k1 k2 same (Leaves.stays one1 n1) (Leaves.out less2 l2) = absurd (out_or_not other taken k2 first end (sym same) l2 n1)
  kept_same taken other first end k1 k2 same (Leaves.stays one1 n1) (Leaves.stays one2 n2) = same
  kept_same taken other first end k1 k2 same (Leaves.stays one1 n1) (Leaves.halves more2 n2 b2 f2) = absurd (omega (arith, one1, more2))
  kept_same taken other first end k1 k2 same (Leaves.halves more1 n1 b1 f1) (Leaves.none e2) = absurd (omega (arith, more1, e2))
  kept_same taken other first end k1 k2 same (Leaves.halves more1 n1 b1 f1) (Leaves.out less2 l2) = absurd (out_or_not other taken k2 first end (sym same) l2 n1)
  kept_same taken other first end k1 k2 same (Leaves.halves more1 n1 b1 f1) (Leaves.stays one2 n2) = absurd (omega (arith, more1, one2))
  kept_same taken other first end k1 k2 same (Leaves.halves {half = h1} more1 n1 b1 f1) (Leaves.halves {half = h2} more2 n2 b2 f2) =
      kept_same h1 h2 first (middle first end) k1 k2 (kept_same taken other (middle first end) end h1 h2 same b1 b2) f1 f2

pub kept_one : KeptAreOne
kept_one p taken kept other h k = kept_same p taken taken 0 _ kept other refl h k
