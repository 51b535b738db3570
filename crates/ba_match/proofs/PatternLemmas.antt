-- How operands, atoms and parts become others.
use Rattle.std.proofs.Common.{◌≡◌, ◌↔◌, Bool, true, false, ℕ, zero, suc, ◌≤◌, List, [], ◌∷◌, length, map, refl, sym, ap, ap₂, subst, arith}
use Rattle.std.proofs.lemmas.Option.{slice_get_past}
use Rattle.std.proofs.lemmas.Slice.Zip.{AllZip-long}
use Rattle.std.specs.Prelude.{IsTrue, Option, Some, None, slice_get}
use Rattle.ba_model.specs.declared.query.Atom.{Atom}
use Rattle.ba_model.specs.declared.query.Operand.{Operand}
use Rattle.ba_model.specs.declared.query.Operand.TheVariants.{Var}
use Rattle.ba_model.specs.declared.query.Part.{Part}
use Rattle.ba_model.specs.declared.value.Value.{Value}
use Rattle.ba_kernel.specs.Problems.{atom_at, operand_at, part_at, variable_at}
use Rattle.ba_match.proofs.BindingLemmas.{gone_at, narrows_both, narrows_decided, narrows_stop}
use Rattle.ba_match.specs.Bindings.{Extends, IsFixedTo, Narrows}

module _ (pattern atom : Atom) where
  sides_of : (v : List Value) → atom_at v pattern ≡ atom → (operand_at v pattern.left ≡ atom.left) × (operand_at v pattern.right ≡ atom.right)
  sides_of v e = (ap (λ (it : Atom). it.left) e, ap (λ (it : Atom). it.right) e)

  pub atom_told : (old mid new : List (Option Value)) (t told : Bool) → pattern.op ≡ atom.op → t ≡ true →
      Narrows (λ v. operand_at v pattern.left ≡ atom.left) old mid t → Narrows (λ v. operand_at v pattern.right ≡ atom.right) mid new told →
      Narrows (λ v. atom_at v pattern ≡ atom) old new told
  atom_told old mid new t told op e first second =
      narrows_both old mid new told join sides_of (subst (Narrows (λ v. operand_at v pattern.left ≡ atom.left) old mid) e first) second
    where
      join : (v : List Value) → operand_at v pattern.left ≡ atom.left → operand_at v pattern.right ≡ atom.right → atom_at v pattern ≡ atom
      join v l r =
          subst (λ o. let it : Atom = record { op = o; left = atom.left; right = atom.right } in atom_at v pattern ≡ it) op
          (ap₂ (λ x y. let it : Atom = record { op = pattern.op; left = x; right = y } in it) l r)

  pub atom_stops : (old new : List (Option Value)) (t : Bool) → t ≡ false → Narrows (λ v. operand_at v pattern.left ≡ atom.left) old new t →
      Narrows (λ v. atom_at v pattern ≡ atom) old new false
  atom_stops old new t e first =
      narrows_stop old new (λ v r. (sides_of v r).0) (subst (Narrows (λ v. operand_at v pattern.left ≡ atom.left) old new) e first)

module _ (pattern part : Part) where
  lists_of : (v : List Value) → part_at v pattern ≡ part → (map (atom_at v) pattern.conds ≡ part.conds) × (map (operand_at v) pattern.head ≡ part.head)
  lists_of v e = (ap (λ (it : Part). it.conds) e, ap (λ (it : Part). it.head) e)

  pub part_told : (old mid new : List (Option Value)) (t told : Bool) → pattern.from ≡ part.from → t ≡ true →
      Narrows (λ v. map (atom_at v) pattern.conds ≡ part.conds) old mid t → Narrows (λ v. map (operand_at v) pattern.head ≡ part.head) mid new told →
      Narrows (λ v. part_at v pattern ≡ part) old new told
  part_told old mid new t told from e first second =
      narrows_both old mid new told join lists_of (subst (Narrows (λ v. map (atom_at v) pattern.conds ≡ part.conds) old mid) e first) second
    where
      join : (v : List Value) → map (atom_at v) pattern.conds ≡ part.conds → map (operand_at v) pattern.head ≡ part.head → part_at v pattern ≡ part
      join v c h =
          subst (λ o. let it : Part = record { from = o; conds = part.conds; head = part.head } in part_at v pattern ≡ it) from
          (ap₂ (λ x y. let it : Part = record { from = pattern.from; conds = x; head = y } in it) c h)

  pub part_stops : (old new : List (Option Value)) (t : Bool) → t ≡ false → Narrows (λ v. map (atom_at v) pattern.conds ≡ part.conds) old new t →
      Narrows (λ v. part_at v pattern ≡ part) old new false
  part_stops old new t e first =
      narrows_stop old new (λ v r. (lists_of v r).0) (subst (Narrows (λ v. map (atom_at v) pattern.conds ≡ part.conds) old new) e first)

-- a variable beside another
module _ (pattern operand : Operand) (n m : ℕ) (p : pattern ≡ Var n) (o : operand ≡ Var m) where
  none_past : (xs : List Value) (k : ℕ) → slice_get xs k ≡ None → length xs ≤ k
  none_past [] k e = omega arith
  none_past (x ∷ xs) zero e = absurd (cc)
  none_past (x ∷ xs) (suc k) e = let rest = none_past xs k e in omega arith

  by_value : (found : Option Value) → variable_at n found ≡ Var m → (n ≡ m) × (found ≡ None)
  by_value None e = (let same : n ≡ m = cc in same, refl)
  by_value (Some w) e = absurd (cc)

  pub var_var : (bound : List (Option Value)) (told : Bool) → (IsTrue told ↔ ((n ≡ m) × (length bound ≤ n))) →
      Narrows (λ v. operand_at v pattern ≡ operand) bound bound told
  var_var bound told tells = narrows_decided bound told into out
    where
      into : (v : List Value) → Extends bound v → IsTrue told → operand_at v pattern ≡ operand
      into v h t =
          let both = tells.0 t in
          let gone : slice_get v n ≡ None = gone_at bound v n h (slice_get_past bound n both.1) in
          let free : variable_at n (slice_get v n) ≡ Var m = subst (λ f. variable_at n f ≡ Var m) (sym gone) (ap Var both.0) in
          subst (λ x. operand_at v x ≡ operand) (sym p) (subst (λ x. operand_at v (Var n) ≡ x) (sym o) free)

      out : (v : List Value) → Extends bound v → operand_at v pattern ≡ operand → IsTrue told
      out v h r =
          let at : variable_at n (slice_get v n) ≡ Var m = subst (λ x. operand_at v (Var n) ≡ x) o (subst (λ x. operand_at v x ≡ operand) p r) in
          let both = by_value (slice_get v n) at in
          let long : length v ≤ n = none_past v n both.1 in
          let same : length v ≡ length bound = AllZip-long IsFixedTo bound v h in
          tells.1 (both.0, let short : length bound ≤ n = omega arith in short)
