-- The target of a link has one of the unknowns that the link's first term is the same as.
use Rattle.std.proofs.Common.{◌≡◌, ◌∙◌, ◌↔◌, ℕ, Bool, false, IsTrue, List, [], ◌∷◌, sym, ap, subst}
use Rattle.std.proofs.lemmas.Bool.{false≢true}
use Rattle.std.proofs.lemmas.Option.{get_or_from_slice_get, none-some, same_Some, slice_get-get_or, slice_get_within}
use Rattle.std.specs.List.{Any, zip}
use Rattle.std.specs.Prelude.{Option, None, Some, slice_get}
use Rattle.ba_model.specs.declared.schema.Link.{Link}
use Rattle.ba_facts.proofs.LaidLemmas.{laid_unknown}
use Rattle.ba_facts.specs.Known.{Known}
use Rattle.ba_facts.specs.Laid.{IsHolder, IsLaid}
use Rattle.ba_facts.specs.Members.{AreMembers, IsOnlyClass}
use Rattle.ba_facts.specs.Shown.{TheSame}
use Rattle.ba_facts.specs.declared.branch.Branch.{Branch}
use Rattle.ba_facts.specs.declared.term.Fact.{Fact}
use Rattle.ba_facts.specs.declared.term.Term.{Term}
use Rattle.ba_facts.specs.declared.term.Term.TheVariants.{Unknown}
use Rattle.ba_kernel.proofs.NewLemmas.{all_at}
use Rattle.ba_kernel.specs.NewParts.{IsTargetOf}
use Rattle.ba_kernel.specs.Steps.{AreEqualIn}
use Rattle.ba_kernel.specs.Targets.{AreUnknownsOf, AreUnknownsOfIfAny, HasTargetWith, HaveTargets, HaveTargetsIfAny, IsTargetAt}

zip_first : {X Y : Type 0} (xs : List X) (ys : List Y) (x : X) (y : Y) → slice_get xs 0 ≡ Some x → slice_get ys 0 ≡ Some y → slice_get (zip xs ys) 0 ≡ Some (x, y)
zip_first [] ys x y left right = absurd (none-some x left)
zip_first (a ∷ xs) [] x y left right = absurd (none-some y right)
zip_first (a ∷ xs) (b ∷ ys) x y left right = ap Some (λ i. (same_Some a x left i, same_Some b y right i))

-- the class is all that is the same
pub same_members : (k : Known) (t : Term) (members : List ℕ) → IsOnlyClass k t → AreMembers k t members → AreUnknownsOf k t members
same_members k t members only are u same = (are u).1 (only (Unknown u) same)

module _ (b : Branch) (f : Fact) (it : Link) where
  pub have_targets : (c d : ℕ) (t : Term) (unknowns : List ℕ) → IsLaid b → slice_get it.columns 0 ≡ Some c → slice_get it.target_columns 0 ≡ Some d → slice_get f.terms c ≡ Some t →
      AreUnknownsOf b.known t unknowns → HaveTargets b f it unknowns
  have_targets c d t unknowns laid column target term are number h =
      let equal : AreEqualIn b f.terms (h.other).terms (c, d) =
      all_at (AreEqualIn b f.terms (h.other).terms) (zip it.columns it.target_columns) 0 (c, d) (h.target).equal (zip_first it.columns it.target_columns c d column target) in
      let unknown = laid_unknown 0 _ b.facts number d equal.c h.other laid h.there equal.right_is in
      let first : equal.a ≡ t = same_Some equal.a t (sym equal.left_is ∙ term) in
      let same : TheSame b.known t (Unknown unknown.0) = subst (λ x. TheSame b.known x (Unknown unknown.0)) first (subst (TheSame b.known equal.a) unknown.1 (equal.equal).same) in
      (unknown.0, are unknown.0 same, record { fact = h.other; there = h.there; column = d; has = equal.right_is ∙ ap Some unknown.1 })

  pub with_some : (unknowns : List ℕ) → HaveTargets b f it unknowns → Any (IsTargetOf b f it) b.facts → Any (HasTargetWith b f it) unknowns
  with_some unknowns have (number, other, below, at, target) =
      let is : IsTargetAt b f it number = record { other = other; there = slice_get-get_or b.facts number other below ∙ ap Some at; target = target } in
      let found = have number is in
      ((found.1).0, found.0, (found.1).1, (found.1).2, (number, found.2, is))

  pub some_with : (unknowns : List ℕ) → Any (HasTargetWith b f it) unknowns → Any (IsTargetOf b f it) b.facts
  some_with unknowns (k, u, below, at, (number, term, is)) =
      (number, is.other, slice_get_within b.facts number is.other is.there, get_or_from_slice_get b.facts number is.other is.other is.there, is.target)

  pub have_targets_if_any : (c d : ℕ) (t : Term) (unknowns : Option (List ℕ)) → IsLaid b → slice_get it.columns 0 ≡ Some c → slice_get it.target_columns 0 ≡ Some d → slice_get f.terms c ≡ Some t →
      AreUnknownsOfIfAny b.known t unknowns → HaveTargetsIfAny b f it unknowns
  have_targets_if_any c d t None laid column target term are = tt
  have_targets_if_any c d t (Some unknowns) laid column target term are = have_targets c d t unknowns laid column target term are

  pub held_at : (u : ℕ) (holder : Option ℕ) (number : ℕ) (r : Bool) → IsHolder b.facts u holder → holder ≡ Some number → IsTrue r ↔ IsTargetAt b f it number → IsTrue r ↔ HasTargetWith b f it u
  held_at u holder number r exact is target = (
    λ e. (number, (exact number).0 is, target.0 e),
    λ h. target.1 (subst (IsTargetAt b f it) (sym (same_Some number h.0 (sym is ∙ (exact h.0).1 h.1))) h.2),
  )

  pub held_nowhere : (u : ℕ) (holder : Option ℕ) → IsHolder b.facts u holder → holder ≡ None → IsTrue false ↔ HasTargetWith b f it u
  held_nowhere u holder exact is = (λ e. absurd (false≢true e), λ h. absurd (none-some h.0 (sym is ∙ (exact h.0).1 h.1)))
