-- What the chosen facts of a walk already tell of a head and of an atom.
use Rattle.std.proofs.Common.{◌≡◌, ◌∙◌, ℕ, ◌<◌, ◌⊎◌, inl, inr, List, ◌++◌, get_or, length, map, refl, sym, ap, subst}
use Rattle.std.proofs.lemmas.List.{map-append}
use Rattle.std.specs.List.{AllZip, Any}
use Rattle.std.specs.Prelude.{Option, Some, None}
use Rattle.ba_model.specs.declared.query.Operand.{Operand}
use Rattle.ba_model.specs.declared.query.Part.{Part}
use Rattle.ba_facts.proofs.PlaceLemmas.{pair_fails}
use Rattle.ba_facts.proofs.WalkLemmas.{term_kept}
use Rattle.ba_facts.specs.Known.{Known}
use Rattle.ba_facts.specs.Matches.{AreTheSame, GivesAtom, HeadIs, row_of, term_of, terms_at}
use Rattle.ba_facts.specs.Walks.{Completes, IsNoFront, IsOther, MayGive}
use Rattle.ba_facts.specs.declared.branch.Branch.{Branch}
use Rattle.ba_facts.specs.declared.walk.Wanted.{Wanted}
use Rattle.ba_facts.specs.declared.term.Side.{Side}
use Rattle.ba_facts.specs.declared.term.Term.{Term}
use Rattle.ba_facts.specs.declared.term.TermAtom.{TermAtom}

-- a term that is there stays the same as another, or not
same_before : (k : Known) (rows more : List (List Term)) (x : Operand) (o t : Option Term) → o ≡ term_of rows x → (o ≡ None → ⊥) → AreTheSame k (term_of (rows ++ more) x) t → AreTheSame k o t
same_before k rows more x None t is there h = absurd (there refl)
same_before k rows more x (Some s) t is there h = subst (λ o. AreTheSame k o t) (term_kept rows more x s (sym is)) h

module _ (b : Branch) where
  rows_of_more : (chosen rest : List ℕ) → map (terms_at b) (chosen ++ rest) ≡ map (terms_at b) chosen ++ map (terms_at b) rest
  rows_of_more chosen rest = map-append (terms_at b) chosen rest

  -- an operand of the head stands for another term than the row has
  pub other_front : {Y : Type 0} (head : List Operand) (g : Y → Option Term) (ys : List Y) (chosen : List ℕ) (i : ℕ) (x : Operand) (y : Y) → i < length head → i < length ys →
      x ≡ get_or head i x → y ≡ get_or ys i y → IsOther b.known (term_of (map (terms_at b) chosen) x) (g y) → IsNoFront b head (map g ys) chosen
  other_front head g ys chosen i x y left right x_is y_is (there, other) =
      λ rest h.
      pair_fails (AreTheSame b.known) (term_of (map (terms_at b) (chosen ++ rest))) g head ys i x y left right x_is y_is
      (λ same.
      other (same_before b.known (map (terms_at b) chosen) (map (terms_at b) rest) x (term_of (map (terms_at b) chosen) x) (g y) refl there
      (subst (λ rows. AreTheSame b.known (term_of rows x) (g y)) (rows_of_more chosen rest) same))) h

  module _ (side : Side) (part : Part) (wanted : Wanted) (from chosen facts : List ℕ) (h : Completes b side part wanted from chosen facts) where
    pub front_lost : (row : List (Option Term)) → IsNoFront b part.head row chosen → AllZip (AreTheSame b.known) (row_of b facts part.head) row → ⊥
    front_lost row other head = other h.rest (subst (λ xs. AllZip (AreTheSame b.known) (row_of b xs part.head) row) h.facts_are head)

    pub row_lost : (row : Option (List Term)) → ((rest : List ℕ) → HeadIs b part (chosen ++ rest) row → ⊥) → HeadIs b part facts row → ⊥
    row_lost row other head = other h.rest (subst (λ xs. HeadIs b part xs row) h.facts_are head)

    may_stand : (rows more : List (List Term)) (x : Operand) (o : Option Term) (t : Term) → o ≡ term_of rows x → term_of (rows ++ more) x ≡ Some t →
        (o ≡ None) ⊎ (o ≡ Some t)
    may_stand rows more x None t is e = inl refl
    may_stand rows more x (Some s) t is e = inr (sym (term_kept rows more x s (sym is)) ∙ e)

    pub atom_lost : (atom : TermAtom) → (Any (MayGive (map (terms_at b) chosen) atom) part.conds → ⊥) →
        Any (GivesAtom (map (terms_at b) facts) atom) part.conds → ⊥
    atom_lost atom none (k, cond, below, is, gives) =
        let rows : map (terms_at b) facts ≡ map (terms_at b) chosen ++ map (terms_at b) h.rest = ap (map (terms_at b)) h.facts_are ∙ rows_of_more chosen h.rest in
        let left : term_of (map (terms_at b) chosen ++ map (terms_at b) h.rest) cond.left ≡ Some atom.left =
        subst (λ rows. term_of rows cond.left ≡ Some atom.left) rows gives.left in
        let right : term_of (map (terms_at b) chosen ++ map (terms_at b) h.rest) cond.right ≡ Some atom.right =
        subst (λ rows. term_of rows cond.right ≡ Some atom.right) rows gives.right in
        none (
          k,
          cond,
          below,
          is,
          record {
            op = gives.op;
            left = may_stand (map (terms_at b) chosen) (map (terms_at b) h.rest) cond.left (term_of (map (terms_at b) chosen) cond.left) atom.left refl left;
            right = may_stand (map (terms_at b) chosen) (map (terms_at b) h.rest) cond.right (term_of (map (terms_at b) chosen) cond.right) atom.right refl right;
          },
        )
