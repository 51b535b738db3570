-- Splits by atoms of live mappings.
use Rattle.std.proofs.Common.{◌≡◌, ◌∙◌, ℕ, ◌+◌, ◌<◌, ◌≤◌, ◌⊎◌, inl, inr, List, get_or, length, map, refl, sym, ap, subst, arith}
use Rattle.std.proofs.lemmas.List.Elements.{All-contains}
use Rattle.std.proofs.lemmas.Option.{get_or_from_slice_get, slice_get-get_or, slice_get_within}
use Rattle.std.specs.List.{Any}
use Rattle.std.specs.Prelude.{Option, Some, None, slice_get}
use Rattle.ba_model.specs.declared.query.Atom.{Atom}
use Rattle.ba_model.specs.declared.query.Op.TheVariants.{Eq}
use Rattle.ba_model.specs.declared.query.Part.{Part}
use Rattle.ba_facts.specs.Matches.{GivesAtom, terms_at}
use Rattle.ba_facts.specs.declared.branch.Branch.{Branch}
use Rattle.ba_facts.specs.declared.term.Side.{Side}
use Rattle.ba_facts.specs.declared.term.Side.TheVariants.{One, Two}
use Rattle.ba_facts.specs.declared.term.Term.{Term}
use Rattle.ba_facts.specs.declared.term.TermAtom.{TermAtom}
use Rattle.ba_kernel.specs.Courses.{IsOpen}
use Rattle.ba_kernel.specs.Steps.{IsCandidate, IsOfNewKind}
use Rattle.ba_kernel.specs.SearchStates.{Course}
use Rattle.ba_kernel.specs.NewParts.{IsAtomOfParts, IsAtomOfRules, IsAtomOfViews}
use Rattle.ba_kernel.specs.declared.step.Step.{Step}
use Rattle.ba_kernel.specs.declared.step.Step.TheVariants as steps
use Rattle.ba_instant.proofs.ChaseLemmas.{new_on}
use Rattle.ba_instant.proofs.OfferLemmas.{improves_as, improves_both, improves_next, improves_none}
use Rattle.ba_model.specs.Equations.{AreEquations}
use Rattle.ba_instant.specs.Offers.{Improves, IsNewIn, IsSplitBy, IsSplitOfAtom, IsSplitOfPart, IsSplitOfParts, IsSplitOfRules, IsSplitOfSides, IsSplitOfViews, IsSplitStep, Upto}
use Rattle.ba_instant.specs.declared.batch.Batch.{Batch}
use Rattle.ba_settle.specs.declared.order.Pick.{Pick}

some_inj : {X : Type 0} (o : Option X) (x y : X) → o ≡ Some x → o ≡ Some y → x ≡ y
some_inj o x y left right = cc

-- ---- sets by the elements of a list

module _ (c : Course) (pick : Pick) where
  module _ {X : Type 0} (xs : List X) (R : X → Step → Type 0) where
    -- of the element of the number
    abbrev pub At : ℕ → Step → Type 0
    At i step = (x : X) × (slice_get xs i ≡ Some x) × R x step

    abbrev OfSome : Step → Type 0
    OfSome step = Any (λ x. R x step) xs

    pub at_more : (i : ℕ) (x : X) (old mid new : Option Batch) → i < length xs → x ≡ get_or xs i x → Improves c pick (Upto At i) old mid → Improves c pick (R x) mid new →
        Improves c pick (Upto At (i + 1)) old new
    at_more i x old mid new inside is before now =
        let there : slice_get xs i ≡ Some x = slice_get-get_or xs i x inside ∙ ap Some (sym is) in
        improves_next c pick At i old mid new before
        (improves_as c pick (R x) (At i) mid new (λ step r is. (x, there, r)) (λ step e is. subst (λ y. R y step) (some_inj _ e.0 x e.1 there) e.2) now)

    at_some : (i : ℕ) (step : Step) → Upto At i step → OfSome step
    at_some i step (j, below, e) = (j, e.0, slice_get_within xs j e.0 e.1, get_or_from_slice_get xs j e.0 e.0 e.1, e.2)

    pub at_all : (i : ℕ) (old new : Option Batch) → length xs ≤ i → Improves c pick (Upto At i) old new → Improves c pick OfSome old new
    at_all i old new past h =
        improves_as c pick (Upto At i) OfSome old new (λ step e is. at_some i step e)
        (λ step e is. (e.0, omega (arith, e.2, past), (e.1, slice_get-get_or xs e.0 e.1 e.2 ∙ ap Some e.3, e.4))) h

  -- of numbers
  pub number_more : (xs : List ℕ) (R : ℕ → Step → Type 0) (i : ℕ) (old mid new : Option Batch) → i < length xs → Improves c pick (Upto (At xs R) i) old mid →
      Improves c pick (R (get_or xs i 0)) mid new → Improves c pick (Upto (At xs R) (i + 1)) old new
  number_more xs R i old mid new inside before now =
      at_more xs R i (get_or xs i 0) old mid new inside (sym (get_or_from_slice_get xs i (get_or xs i 0) (get_or xs i 0) (slice_get-get_or xs i 0 inside))) before now

  module _ (n : ℕ) where
    -- by an atom of some element
    pub split_some : {X : Type 0} (xs : List X) (P : X → TermAtom → List ℕ → Type 0) (old new : Option Batch) → Improves c pick (λ step. Any (λ x. IsSplitBy (P x) n step) xs) old new →
        Improves c pick (IsSplitBy (λ atom facts. Any (λ x. P x atom facts) xs) n) old new
    split_some xs P old new h =
        improves_as c pick (λ step. Any (λ x. IsSplitBy (P x) n step) xs) (IsSplitBy (λ atom facts. Any (λ x. P x atom facts) xs) n) old new
        (λ step e is. ((e.4).0, (e.4).1, (e.4).2, (e.0, e.1, e.2, e.3, (e.4).3)))
        (λ step e is. ((e.3).0, (e.3).1, (e.3).2, (e.3).3, (e.0, e.1, e.2, (e.3).4))) h

    module _ (b : Branch) where
      pub split_atom : (facts : List ℕ) (cond : Atom) (atom : TermAtom) (old new : Option Batch) → GivesAtom (map (terms_at b) facts) atom cond →
          Improves c pick (λ it. it ≡ steps.Split n atom) old new → Improves c pick (IsSplitOfAtom b n facts cond) old new
      split_atom facts cond atom old new gives h =
          improves_as c pick (λ it. it ≡ steps.Split n atom) (IsSplitOfAtom b n facts cond) old new (λ step e is. (atom, e, gives))
          (λ step e is. e.1 ∙ ap (steps.Split n) (atom_once facts cond e.0 atom e.2 gives)) h
        where
          atom_once : (facts : List ℕ) (cond : Atom) (one other : TermAtom) → GivesAtom (map (terms_at b) facts) one cond → GivesAtom (map (terms_at b) facts) other cond →
              one ≡ other
          atom_once facts cond one other h k =
              let op : one.op ≡ other.op = sym h.op ∙ k.op in
              let left : one.left ≡ other.left = some_inj _ one.left other.left h.left k.left in
              let right : one.right ≡ other.right = some_inj _ one.right other.right h.right k.right in
              λ i. record { op = op i; left = left i; right = right i }

      -- no atom of a part that has only equations is split
      pub split_none : (open_ : IsOpen c.slots n b) (side : Side) (part : Part) (row : Option (List Term)) (old : Option Batch) → AreEquations part.conds →
          Improves c pick (IsSplitOfPart b n side row part) old old
      split_none open_ side part row old equations =
          improves_none c pick (IsSplitOfPart b n side row part) old
          (λ step e new.
          let at = new_on c n b (steps.Split n e.0) open_ refl (subst (IsNewIn c) e.1 new) in
          let stands = (e.3).stands in
          let of = stands.4 in
          let eq : (stands.1).op ≡ Eq = All-contains (λ (cond : Atom). cond.op ≡ Eq) part.conds stands.1 equations (stands.0, stands.2, stands.3) in
          let kind : IsOfNewKind b.known Eq (e.0).left (e.0).right = subst (λ op. IsOfNewKind b.known op (e.0).left (e.0).right) (sym of.op ∙ eq) at.tells.kind in
          absurd kind)

      pub split_sides : (parts : List Part) (old mid new : Option Batch) → Improves c pick (IsSplitOfParts b n One None parts) old mid → Improves c pick (IsSplitOfParts b n Two None parts) mid new →
          Improves c pick (IsSplitOfSides b n parts) old new
      split_sides parts old mid new h k =
          improves_as c pick (λ step. IsSplitOfParts b n One None parts step ⊎ IsSplitOfParts b n Two None parts step) (IsSplitOfSides b n parts) old new
          (λ step e is. elim e [ inl it ↦ (it.0, it.1, it.2, inl it.3) | inr it ↦ (it.0, it.1, it.2, inr it.3) ])
          (λ step e is. elim e.3 [ inl it ↦ inl (e.0, e.1, e.2, it) | inr it ↦ inr (e.0, e.1, e.2, it) ])
          (improves_both c pick (IsSplitOfParts b n One None parts) (IsSplitOfParts b n Two None parts) old mid new h k)

      -- ---- all of them

      module _ (open_ : IsOpen c.slots n b) where
        abbrev OfGoal : TermAtom → List ℕ → Type 0
        OfGoal = IsAtomOfParts b Two c.problem.goal.parts (Some b.goal)

        candidate : (atom : TermAtom) (facts : List ℕ) → IsCandidate c.problem b atom facts →
            (IsAtomOfViews b c.problem.policy.views atom facts ⊎ IsAtomOfRules b c.problem.policy.schema.rules atom facts) ⊎ OfGoal atom facts
        candidate atom facts (IsCandidate.of_view {view} {part} in_views in_parts live) =
            inl (inl (in_views.0, view, in_views.1, in_views.2, (in_parts.0, part, in_parts.1, in_parts.2, live)))
        candidate atom facts (IsCandidate.of_goal {part} in_parts live) =
            inr (in_parts.0, part, in_parts.1, in_parts.2, live)
        candidate atom facts (IsCandidate.of_rule {rule} {part} One in_rules in_parts live) =
            inl (inr (in_rules.0, rule, in_rules.1, in_rules.2, inl (in_parts.0, part, in_parts.1, in_parts.2, live)))
        candidate atom facts (IsCandidate.of_rule {rule} {part} Two in_rules in_parts live) =
            inl (inr (in_rules.0, rule, in_rules.1, in_rules.2, inr (in_parts.0, part, in_parts.1, in_parts.2, live)))

        abbrev Views : Step → Type 0
        Views = IsSplitOfViews b n c.problem.policy.views

        abbrev Rules : Step → Type 0
        Rules = IsSplitOfRules b n c.problem.policy.schema.rules

        abbrev Goals : Step → Type 0
        Goals = IsSplitOfParts b n Two (Some b.goal) c.problem.goal.parts

        looked : (step : Step) → IsSplitStep n step → IsNewIn c step → (Views step ⊎ Rules step) ⊎ Goals step
        looked step (atom, same) new =
            let at = new_on c n b (steps.Split n atom) open_ refl (subst (IsNewIn c) same new) in
            let tells = at.tells in
            elim (candidate atom tells.facts tells.candidate) [
              | inl (inl h) ↦ inl (inl (atom, same, tells.facts, h))
              | inl (inr h) ↦ inl (inr (atom, same, tells.facts, h))
              | inr h ↦ inr (atom, same, tells.facts, h)
            ]

        is_split : (step : Step) → (Views step ⊎ Rules step) ⊎ Goals step → IsSplitStep n step
        is_split step (inl (inl h)) = (h.0, h.1)
        is_split step (inl (inr h)) = (h.0, h.1)
        is_split step (inr h) = (h.0, h.1)

        pub split_all : (old one two new : Option Batch) → Improves c pick Views old one → Improves c pick Rules one two → Improves c pick Goals two new →
            Improves c pick (IsSplitStep n) old new
        split_all old one two new h k l =
            improves_as c pick (λ step. (Views step ⊎ Rules step) ⊎ Goals step) (IsSplitStep n) old new (λ step e is. is_split step e) looked
            (improves_both c pick (λ step. Views step ⊎ Rules step) Goals old two new (improves_both c pick Views Rules old one two h k) l)
