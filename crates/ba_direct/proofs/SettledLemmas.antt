-- What a query has of places that are paired so far is covered already where the pairing can be completed to a cover.
use Rattle.std.proofs.Common.{◌≡◌, ℕ, zero, suc, ◌<◌, Bool, true, false, ◌&&◌, ◌⊎◌, inl, inr, List, [], ◌∷◌, ◌++◌, count_by, length, refl, sym, ap, ◌∙◌, subst}
use borrow.Author.Tests.{eqb-true}
use Rattle.std.proofs.lemmas.List.Elements.{All-weaker}
use Rattle.std.proofs.lemmas.List.Sums.{list_all-from_AllPass}
use Rattle.std.proofs.lemmas.Option.{slice_get_read, slice_get_within}
use Rattle.std.specs.List.{All, Contains, list_all, list_any}
use Rattle.std.specs.Prelude.{◌==◌, Some, slice_get}
use Rattle.ba_model.proofs.TestLemmas.{any_decides}
use Rattle.ba_model.specs.declared.policy.Context.{Context}
use Rattle.ba_model.specs.declared.query.Atom.{Atom}
use Rattle.ba_model.specs.declared.query.Operand.{Operand}
use Rattle.ba_model.specs.declared.query.Operand.TheVariants.{Col, Val, Param, Var}
use Rattle.ba_model.specs.declared.query.Part.{Part}
use Rattle.ba_direct.proofs.PlaceLemmas.{once_from_count, paired_within}
use Rattle.ba_direct.proofs.TestLemmas.{and_both, and_true, covered_decides, equal_decides, if_true, known_decides, may_be_complete}
use Rattle.ba_direct.specs.Cover.{CoversBy, IsImage, IsKnown, IsOutput, Maps, MapsAtom, PairsTables}
use Rattle.ba_direct.specs.Test as test

get_kept : {X : Type 0} (xs ys : List X) (i : ℕ) (x : X) → slice_get xs i ≡ Some x → slice_get (xs ++ ys) i ≡ Some x
get_kept [] ys i x e = cc
get_kept (y ∷ xs) ys zero x e = e
get_kept (y ∷ xs) ys (suc i) x e = get_kept xs ys i x e

taken_at : (to : List ℕ) (paired : ℕ) → list_any (λ i. i == paired) to ≡ true → (k : ℕ) × (slice_get to k ≡ Some paired)
taken_at to paired e =
    let any = (any_decides (λ i. i == paired) (λ i. i ≡ paired) (λ i. equal_decides i paired) to).0 e in
    let at = any.1 in
    (at.0, slice_get_read to (length to) at.0 any.0 refl at.1 (sym at.2) ∙ ap Some any.2)

module _ (c : Context) (to more : List ℕ) (view q : Part) (pairs : PairsTables view q (to ++ more)) where
  -- a place of the query that is paired so far is paired with no later table
  settled_place : (place paired : ℕ) → list_any (λ i. i == paired) to ≡ true → slice_get (to ++ more) place ≡ Some paired → slice_get to place ≡ Some paired
  settled_place place paired taken is =
      let k = taken_at to paired taken in
      let w = paired_within q.from (to ++ more) view.from pairs.tables place paired is in
      let only = once_from_count paired (to ++ more) (pairs.once paired (slice_get_within q.from paired w.0 w.1)) in
      let same : place ≡ k.0 = only.1.only place is ∙ sym (only.1.only k.0 (get_kept to more k.0 paired k.1)) in
      ap (slice_get to) same ∙ k.1

  settled_known : (x : Operand) → test.is_settled to x ≡ true → IsKnown c (to ++ more) view x → IsKnown c to view x
  settled_known (Col paired column) e (place, there, is) = (place, there, settled_place place paired e is)
  settled_known (Val v) e h = h
  settled_known (Param n) e h = h
  settled_known (Var n) e h = h

  settled_maps : (x y : Operand) → test.is_settled to y ≡ true → Maps c (to ++ more) x y → Maps c to x y
  settled_maps (Col place column) (Col paired other) e (is, same) = (settled_place place paired e is, same)
  settled_maps x y e h = h

  settled_atom : (a b : Atom) → test.is_settled to b.left ≡ true → test.is_settled to b.right ≡ true → MapsAtom c (to ++ more) a b → MapsAtom c to a b
  settled_atom a b left right (inl (op, l, r)) = inl (op, settled_maps a.left b.left left l, settled_maps a.right b.right right r)
  settled_atom a b left right (inr (is, too, l, r)) = inr (is, too, settled_maps a.left b.right right l, settled_maps a.right b.left left r)

  settled_covered : (b : Atom) → test.is_settled to b.left ≡ true → test.is_settled to b.right ≡ true → (IsImage c (to ++ more) view b ⊎ (IsKnown c (to ++ more) view b.left × IsKnown c (to ++ more) view b.right)) → IsImage c to view b ⊎ (IsKnown c to view b.left × IsKnown c to view b.right)
  settled_covered b left right (inl (a, there, maps)) = inl (a, there, settled_atom a b left right maps)
  settled_covered b left right (inr (l, r)) = inr (settled_known b.left left l, settled_known b.right right r)

  known_so_far : (x : Operand) → IsKnown c (to ++ more) view x → test.may_be_known c to view x ≡ true
  known_so_far x h =
      if_true (test.is_settled to x) (test.is_known c to view x) (λ e. (known_decides c to view x).1 (settled_known x e h))

  covered_so_far : (b : Atom) → (IsImage c (to ++ more) view b ⊎ (IsKnown c (to ++ more) view b.left × IsKnown c (to ++ more) view b.right)) → test.may_be_covered c to view b ≡ true
  covered_so_far b h =
      if_true (test.is_settled to b.left && test.is_settled to b.right) (test.is_covered_atom c to view b)
      (λ e. let k = and_both (test.is_settled to b.left) (test.is_settled to b.right) e in (covered_decides c to view b).1 (settled_covered b k.0 k.1 h))

pub may_be_completed : (c : Context) (to more : List ℕ) (view q : Part) → CoversBy c view q (to ++ more) → test.may_cover c view q to ≡ true
may_be_completed c to more view q h =
    and_true _ _ (may_be_complete c to more view q h)
    (and_true _ _
    (list_all-from_AllPass (test.may_be_covered c to view) q.conds (All-weaker (λ b. IsImage c (to ++ more) view b ⊎ (IsKnown c (to ++ more) view b.left × IsKnown c (to ++ more) view b.right)) (λ b. test.may_be_covered c to view b ≡ true) (covered_so_far c to more view q h.pairs) q.conds h.others))
    (list_all-from_AllPass (test.may_be_known c to view) q.head (All-weaker (IsKnown c (to ++ more) view) (λ x. test.may_be_known c to view x ≡ true) (known_so_far c to more view q h.pairs) q.head h.head)))
