-- A query with the context's values in place of its parameters has the query's rows.
use Rattle.std.proofs.Common.{◌≡◌, ℕ, zero, suc, ◌-◌, ◌<◌, List, [], ◌∷◌, length, map, slice_get, Some, refl, sym, ap, subst, ◌∙◌, arith, get_or}
use Rattle.std.specs.List.{AllByRecursion, Contains}
use Rattle.std.proofs.lemmas.Bool.{le-ltb}
use Rattle.std.proofs.lemmas.List.Elements.{All-contains, All-from_recursion, recursion_from_All}
use Rattle.ba_keys.specs.Literals.{atom_with, literal_or, operand_with, part_with}
use Rattle.ba_keys.proofs.LiteralLemmas.{literal_fits}
use Rattle.ba_model.specs.Conform.{IsOfKind}
use Rattle.ba_model.specs.Fit.{AtomFits, ContextFits, PartFits, kind_of}
use Rattle.ba_model.specs.Meaning.{Holds, InAnswer, InPart, value_of}
use Rattle.ba_model.specs.declared.policy.Context.{Context}
use Rattle.ba_model.specs.declared.query.Atom.{Atom}
use Rattle.ba_model.specs.declared.query.Operand.{Operand}
use Rattle.ba_model.specs.declared.query.Operand.TheVariants.{Col, Val, Param, Var}
use Rattle.ba_model.specs.declared.query.Part.{Part}
use Rattle.ba_model.specs.declared.schema.Kind.{Kind}
use Rattle.ba_model.specs.declared.schema.Schema.{Schema}
use Rattle.ba_model.specs.declared.value.RowSet.{RowSet}
use Rattle.ba_model.specs.declared.value.Value.{Value}
use Rattle.ba_model.proofs.FitLemmas.{AllZip-at}
use Rattle.ba_send.specs.Closed.{ClosedIsQuery, ClosedMeansTheSame}
use Rattle.ba_send.specs.Sent.{closed}

pub closed_is_query : ClosedIsQuery
closed_is_query s params c q h fits = literal_fits s [] params c.values fits q h

-- all values stand from number 0 on
pub param_closed : (values : List Value) (p : ℕ) → operand_with 0 values (Param p) ≡ literal_or p (slice_get values p)
unfolding operand_with
param_closed values p = rw (le-ltb p 0 (omega arith)) (let same : p - 0 ≡ p = omega arith in ap (λ (n : ℕ). literal_or p (slice_get values n)) same)

module _ (s : Schema) (params : List Kind) (c e : Context) (fits : ContextFits params c) where
  value_same : (from : List ℕ) (rows : List (List Value)) (x : Operand) (k : Kind) → kind_of s params [] from x ≡ Some k
      → value_of e rows (operand_with 0 c.values x) ≡ value_of c rows x
  unfolding operand_with
  value_same from rows (Col place column) k is = refl
  value_same from rows (Val v) k is = refl
  value_same from rows (Var n) k is = cc
  value_same from rows (Param p) k is =
      let v = AllZip-at IsOfKind params c.values p k fits is in
      ap (value_of e rows) (param_closed c.values p ∙ ap (literal_or p) v.1) ∙ sym v.1

  values_same : (from : List ℕ) (rows : List (List Value)) (xs : List Operand) (ks : List Kind) → map (kind_of s params [] from) xs ≡ map Some ks
      → map (value_of e rows) (map (operand_with 0 c.values) xs) ≡ map (value_of c rows) xs
  values_same from rows [] ks is = refl
  values_same from rows (x ∷ xs) [] is = cc
  values_same from rows (x ∷ xs) (k ∷ ks) is =
      let one : kind_of s params [] from x ≡ Some k = cc in
      let others : map (kind_of s params [] from) xs ≡ map Some ks = cc in
      rw (value_same from rows x k one, values_same from rows xs ks others) refl

  holds_to : (from : List ℕ) (rows : List (List Value)) (a : Atom) → AtomFits s params [] from a → Holds e rows (atom_with 0 c.values a) → Holds c rows a
  holds_to from rows a f h = record {
    left = h.left;
    right = h.right;
    left_is = sym (value_same from rows a.left f.kind f.left_is) ∙ h.left_is;
    right_is = sym (value_same from rows a.right f.kind f.right_is) ∙ h.right_is;
    compared = h.compared;
  }

  holds_from : (from : List ℕ) (rows : List (List Value)) (a : Atom) → AtomFits s params [] from a → Holds c rows a → Holds e rows (atom_with 0 c.values a)
  holds_from from rows a f h = record {
    left = h.left;
    right = h.right;
    left_is = value_same from rows a.left f.kind f.left_is ∙ h.left_is;
    right_is = value_same from rows a.right f.kind f.right_is ∙ h.right_is;
    compared = h.compared;
  }

  all_to : (from : List ℕ) (rows : List (List Value)) (atoms : List Atom) → AllByRecursion (AtomFits s params [] from) atoms
      → AllByRecursion (Holds e rows) (map (atom_with 0 c.values) atoms) → AllByRecursion (Holds c rows) atoms
  all_to from rows [] f h = tt
  all_to from rows (a ∷ atoms) f h = (holds_to from rows a f.0 h.0, all_to from rows atoms f.1 h.1)

  all_from : (from : List ℕ) (rows : List (List Value)) (atoms : List Atom) → AllByRecursion (AtomFits s params [] from) atoms
      → AllByRecursion (Holds c rows) atoms → AllByRecursion (Holds e rows) (map (atom_with 0 c.values) atoms)
  all_from from rows [] f h = tt
  all_from from rows (a ∷ atoms) f h = (holds_from from rows a f.0 h.0, all_from from rows atoms f.1 h.1)

  part_to : (kinds : List Kind) (part : Part) (d : RowSet) (r : List Value) → PartFits s params [] kinds part → InPart e d (part_with 0 c.values part) r
      → InPart c d part r
  part_to kinds part d r f h = (
    h.0,
    h.1,
    record {
      conds = All-from_recursion (Holds c h.0) part.conds
          (all_to part.from h.0 part.conds (recursion_from_All (AtomFits s params [] part.from) part.conds f.conds)
          (recursion_from_All (Holds e h.0) (map (atom_with 0 c.values) part.conds) h.2.conds));
      head = sym (values_same part.from h.0 part.head kinds f.head) ∙ h.2.head;
    },
  )

  part_from : (kinds : List Kind) (part : Part) (d : RowSet) (r : List Value) → PartFits s params [] kinds part → InPart c d part r
      → InPart e d (part_with 0 c.values part) r
  part_from kinds part d r f h = (
    h.0,
    h.1,
    record {
      conds = All-from_recursion (Holds e h.0) (map (atom_with 0 c.values) part.conds)
          (all_from part.from h.0 part.conds (recursion_from_All (AtomFits s params [] part.from) part.conds f.conds)
          (recursion_from_All (Holds c h.0) part.conds h.2.conds));
      head = values_same part.from h.0 part.head kinds f.head ∙ h.2.head;
    },
  )

-- ---- the parts of the query

into_map : {X Y : Type 0} (f : X → Y) (xs : List X) (x : X) (k : ℕ) → k < length xs → get_or xs k x ≡ x → Contains (map f xs) (f x)
into_map f [] x k lt is = absurd (omega (arith, lt))
into_map f (y ∷ ys) x zero lt is = (0, omega arith, ap f is)
into_map f (y ∷ ys) x (suc k) lt is = let m = into_map f ys x k (omega (arith, lt)) is in (suc m.0, omega (arith, m.1), m.2)

out_of_map : {X Y : Type 0} (f : X → Y) (xs : List X) (y : Y) (k : ℕ) → k < length (map f xs) → get_or (map f xs) k y ≡ y
    → (x : X) × Contains xs x × (f x ≡ y)
out_of_map f [] y k lt is = absurd (omega (arith, lt))
out_of_map f (x ∷ xs) y zero lt is = (x, (0, omega arith, refl), is)
out_of_map f (x ∷ xs) y (suc k) lt is =
    let m = out_of_map f xs y k (omega (arith, lt)) is in
    (m.0, (suc m.1.0, omega (arith, m.1.1), m.1.2), m.2)

pub closed_means_the_same : ClosedMeansTheSame
closed_means_the_same s params c e q d r h fits = (to, from)
  where
    to : InAnswer (closed c q) e d r → InAnswer q c d r
    to it =
        let there = out_of_map (part_with 0 c.values) q.parts it.0 it.1.0 it.1.1 it.1.2 in
        let f = All-contains (PartFits s params [] h.fits.kinds) q.parts there.0 h.fits.parts there.1 in
        (there.0, there.1, part_to s params c e fits h.fits.kinds there.0 d r f (subst (λ (p : Part). InPart e d p r) (sym there.2) it.2))

    from : InAnswer q c d r → InAnswer (closed c q) e d r
    from it =
        let f = All-contains (PartFits s params [] h.fits.kinds) q.parts it.0 h.fits.parts it.1 in (
          part_with 0 c.values it.0,
          into_map (part_with 0 c.values) q.parts it.0 it.1.0 it.1.1 it.1.2,
          part_from s params c e fits h.fits.kinds it.0 d r f it.2,
        )
