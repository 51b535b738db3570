-- What becomes another by values that extend the fixed ones is alike to it.
use Rattle.std.proofs.Common.{◌≡◌, Bool, false, ℕ, zero, suc, ◌≤◌, List, [], ◌∷◌, length, map, refl, sym, ap, subst, arith}
use Rattle.std.proofs.lemmas.Slice.Zip.{AllZip-long}
use Rattle.std.specs.List.{AllZip}
use Rattle.std.specs.Prelude.{IsTrue, Option, Some, None, slice_get}
use Rattle.ba_model.specs.declared.query.Atom.{Atom}
use Rattle.ba_model.specs.declared.query.Operand.{Operand}
use Rattle.ba_model.specs.declared.query.Operand.TheVariants.{Col, Val, Param, Var}
use Rattle.ba_model.specs.declared.query.Part.{Part}
use Rattle.ba_model.specs.declared.query.Query.{Query}
use Rattle.ba_model.specs.declared.value.Value.{Value}
use Rattle.ba_kernel.specs.Problems.{atom_at, operand_at, part_at, query_at, variable_at}
use Rattle.ba_match.proofs.BindingLemmas.{fixed_at, gone_at}
use Rattle.ba_match.specs.Alike.{AreAlike, AreAlikeAtoms, AreAlikeParts, MayBe, MayBecome}
use Rattle.ba_match.specs.Bindings.{Extends, IsFixedTo}

module _ {A B : Type 0} (f : A → B) (R : A → B → Type 0) (each : (x : A) (y : B) → f x ≡ y → R x y) where
  zip_each : (xs : List A) (ys : List B) → map f xs ≡ ys → AllZip R xs ys
  zip_each [] [] e = tt
  zip_each [] (y ∷ ys) e = absurd (cc)
  zip_each (x ∷ xs) [] e = absurd (cc)
  zip_each (x ∷ xs) (y ∷ ys) e = (each x y (cc), zip_each xs ys (cc))

past_end : (xs : List Value) (k : ℕ) → slice_get xs k ≡ None → length xs ≤ k
past_end [] k e = omega arith
past_end (x ∷ xs) zero e = absurd (cc)
past_end (x ∷ xs) (suc k) e = let rest = past_end xs k e in omega (arith, rest)

module _ (bound : List (Option Value)) (v : List Value) (h : Extends bound v) where
  may_be_found : (n : ℕ) (w : Value) → slice_get v n ≡ Some w → (found : Option (Option Value)) → slice_get bound n ≡ found → MayBe found w
  may_be_found n w at None e = let gone : slice_get v n ≡ None = gone_at bound v n h e in absurd (cc)
  may_be_found n w at (Some fixed) e =
      let it = fixed_at bound v n fixed h e in
      let there : slice_get v n ≡ Some it.0 = it.1 in
      let same : it.0 ≡ w = cc in subst (IsFixedTo fixed) same it.2

  variable_may : (n : ℕ) (y : Operand) (at : Option Value) → slice_get v n ≡ at → variable_at n at ≡ y → MayBecome bound (Var n) y
  variable_may n y None at e =
      let past : length v ≤ n = past_end v n at in
      let long : length v ≡ length bound = AllZip-long IsFixedTo bound v h in
      let gone : length bound ≤ n = omega (arith, past, long) in subst (MayBecome bound (Var n)) e (refl, gone)
  variable_may n y (Some w) at e = subst (MayBecome bound (Var n)) e (may_be_found n w at (slice_get bound n) refl)

  operand_may : (x y : Operand) → operand_at v x ≡ y → MayBecome bound x y
  operand_may (Col place column) y e = e
  operand_may (Val w) y e = e
  operand_may (Param n) y e = e
  operand_may (Var n) y e = variable_may n y (slice_get v n) refl e

  atom_alike : (x y : Atom) → atom_at v x ≡ y → AreAlikeAtoms bound x y
  atom_alike x y e = record {
    op = ap (λ (it : Atom). it.op) e;
    left = operand_may x.left y.left (ap (λ (it : Atom). it.left) e);
    right = operand_may x.right y.right (ap (λ (it : Atom). it.right) e);
  }

  part_alike : (x y : Part) → part_at v x ≡ y → AreAlikeParts bound x y
  part_alike x y e = record {
    from = ap (λ (it : Part). it.from) e;
    conds = zip_each (atom_at v) (AreAlikeAtoms bound) atom_alike x.conds y.conds (ap (λ (it : Part). it.conds) e);
    head = zip_each (operand_at v) (MayBecome bound) operand_may x.head y.head (ap (λ (it : Part). it.head) e);
  }

  pub query_alike : (x y : Query) → query_at v x ≡ y → AreAlike bound x y
  query_alike x y e = zip_each (part_at v) (AreAlikeParts bound) part_alike x.parts y.parts (ap (λ (it : Query). it.parts) e)

-- what isn't alike doesn't become the other, also as the queries are lent
pub unlike : (bound : List (Option Value)) (pattern query lent other : Query) → lent ≡ pattern → other ≡ query → (told : Bool) → (AreAlike bound lent other → IsTrue told) → told ≡ false →
    (v : List Value) → Extends bound v → query_at v pattern ≡ query → ⊥
unlike bound pattern query lent other same same_other told out e v h becomes =
    let alike : AreAlike bound pattern query = query_alike bound v h pattern query becomes in
    not_false (subst IsTrue e (out (subst (λ x. AreAlike bound x other) (sym same) (subst (AreAlike bound pattern) (sym same_other) alike))))
  where
    not_false : IsTrue false → ⊥
    not_false t = cc
