-- The tests decide what a cover asks of atoms and operands.
use Rattle.std.proofs.Common.{◌≡◌, ℕ, zero, suc, ◌<◌, Bool, true, false, ◌&&◌, ◌||◌, ◌⊎◌, inl, inr, List, [], ◌∷◌, ◌++◌, length, refl, sym, ap, ◌∙◌, subst, eq-eqb, arith}
use borrow.Author.Tests.{eqb-true, ltb-true}
use Rattle.std.proofs.lemmas.List.Elements.{All-weaker}
use Rattle.std.proofs.lemmas.List.Sums.{AllPass-from_list_all, list_all-from_AllPass}
use Rattle.std.specs.Bool.{Decides}
use Rattle.std.specs.List.{All, Contains, list_all, list_any}
use Rattle.std.specs.Prelude.{if◌then◌else◌, Option, Some, None, IsSome, is_some, ◌==◌, slice_get}
use Rattle.ba_model.proofs.TestLemmas.{any_decides, or_cases, or_left, or_right}
use Rattle.ba_model.specs.OrderLaws.{value_decides}
use Rattle.ba_model.specs.declared.policy.Context.{Context}
use Rattle.ba_model.specs.declared.query.Atom.{Atom}
use Rattle.ba_model.specs.declared.query.Op.{Op}
use Rattle.ba_model.specs.declared.query.Op.TheVariants.{Eq, Ne, Lt, Le, IsNull, NotNull}
use Rattle.ba_model.specs.declared.query.Operand.{Operand}
use Rattle.ba_model.specs.declared.query.Operand.TheVariants.{Col, Val, Param, Var}
use Rattle.ba_model.specs.declared.query.Part.{Part}
use Rattle.ba_model.specs.declared.value.Value.{Value}
use Rattle.ba_direct.specs.Cover.{CoversBy, HasImage, IsImage, IsKnown, IsOutput, Maps, MapsAtom, PairsTables, SameConstant, constant_of}
use Rattle.ba_direct.specs.Test as test

pub and_both : (b d : Bool) → (b && d) ≡ true → (b ≡ true) × (d ≡ true)
and_both true d e = (refl, e)
and_both false d e = cc

pub and_true : (b d : Bool) → b ≡ true → d ≡ true → (b && d) ≡ true
and_true b d p q = rw (p, q) refl

both_decide : {P Q : Type 0} (b d : Bool) → Decides b P → Decides d Q → Decides (b && d) (P × Q)
both_decide b d p q = (
  λ e. let k = and_both b d e in (p.0 k.0, q.0 k.1),
  λ (h, k). and_true b d (p.1 h) (q.1 k),
)

three_decide : {P Q R : Type 0} (b d f : Bool) → Decides b P → Decides d Q → Decides f R → Decides (b && (d && f)) (P × Q × R)
three_decide b d f p q r =
    let rest = both_decide d f q r in (
      λ e. let k = and_both b (d && f) e in let m = rest.0 k.1 in (p.0 k.0, m.0, m.1),
      λ (h, k, m). and_true b (d && f) (p.1 h) (rest.1 (k, m)),
    )

four_decide : {P Q R S : Type 0} (b d f g : Bool) → Decides b P → Decides d Q → Decides f R → Decides g S → Decides ((b && d) && (f && g)) (P × Q × R × S)
four_decide b d f g p q r s =
    let first = both_decide b d p q in
    let rest = both_decide f g r s in (
      λ e. let k = and_both (b && d) (f && g) e in let n = first.0 k.0 in let m = rest.0 k.1 in (n.0, n.1, m.0, m.1),
      λ (h, i, k, m). and_true (b && d) (f && g) (first.1 (h, i)) (rest.1 (k, m)),
    )

either_decides : {P Q : Type 0} (b d : Bool) → Decides b P → Decides d Q → Decides (b || d) (P ⊎ Q)
either_decides b d p q = (
  λ e. elim (or_cases b d e) [ inl h ↦ inl (p.0 h) | inr h ↦ inr (q.0 h) ],
  λ h. elim h [ inl k ↦ or_left b d (p.1 k) | inr k ↦ or_right b d (q.1 k) ],
)

all_decides : {X : Type 0} (p : X → Bool) (P : X → Type 0) → ((x : X) → Decides (p x) (P x)) → (xs : List X) → Decides (list_all p xs) (All P xs)
all_decides p P d xs = (
  λ e. All-weaker (λ x. p x ≡ true) P (λ x. (d x).0) xs (AllPass-from_list_all p xs e),
  λ h. list_all-from_AllPass p xs (All-weaker P (λ x. p x ≡ true) (λ x. (d x).1) xs h),
)

number_decides : (o : Option ℕ) (n : ℕ) → Decides (test.is_number o n) (o ≡ Some n)
number_decides None n = (λ e. cc, λ e. cc)
number_decides (Some i) n = (λ e. ap Some (eqb-true i n e), λ e. eq-eqb i n (cc))

pub equal_decides : (i n : ℕ) → Decides (i == n) (i ≡ n)
equal_decides i n = (eqb-true i n, eq-eqb i n)

op_decides : (a b : Op) → Decides (test.same_op a b) (a ≡ b)
op_decides Eq Eq = (λ e. refl, λ e. refl)
op_decides Ne Ne = (λ e. refl, λ e. refl)
op_decides Lt Lt = (λ e. refl, λ e. refl)
op_decides Le Le = (λ e. refl, λ e. refl)
op_decides IsNull IsNull = (λ e. refl, λ e. refl)
op_decides NotNull NotNull = (λ e. refl, λ e. refl)
op_decides a b = (λ e. cc, λ e. cc)

equation_decides : (a : Op) → Decides (test.is_equation a) (a ≡ Eq)
equation_decides Eq = (λ e. refl, λ e. refl)
equation_decides a = (λ e. cc, λ e. cc)

-- both values are there, and one
record OneValue (o p : Option Value) : Type 0 where
  value : Value
  left_is : o ≡ Some value
  right_is : p ≡ Some value

value_matches : (o p : Option Value) → Decides (test.same_value o p) (OneValue o p)
value_matches None p = (λ e. cc, λ h. let k = h.left_is in cc)
value_matches (Some v) None = (λ e. cc, λ h. let k = h.right_is in cc)
value_matches (Some v) (Some w) = (
  λ e. record { value = v; left_is = refl; right_is = ap Some (sym ((value_decides v w).0 e)) },
  λ h. let k : v ≡ w = (let a = h.left_is in let b = h.right_is in cc) in (value_decides v w).1 k,
)

constant_decides : (c : Context) (x y : Operand) → Decides (test.same_value (constant_of c x) (constant_of c y)) (SameConstant c x y)
constant_decides c x y =
    let d = value_matches (constant_of c x) (constant_of c y) in (
      λ e. let k = d.0 e in record { value = k.value; left_is = k.left_is; right_is = k.right_is },
      λ h. d.1 (record { value = h.value; left_is = h.left_is; right_is = h.right_is }),
    )

some_decides : {X : Type 0} (o : Option X) → Decides (is_some o) (IsSome o)
some_decides o = (λ e. e, λ h. h)

-- the operand of a head is the column of the paired table
record Leads (to : List ℕ) (paired column : ℕ) (x : Operand) : Type 0 where
  place : ℕ
  is : x ≡ Col place column
  paired_is : slice_get to place ≡ Some paired

leads_decides : (to : List ℕ) (paired column : ℕ) (x : Operand) → Decides (test.outputs to paired column x) (Leads to paired column x)
leads_decides to paired column (Col place other) =
    let d = both_decide (test.is_number (slice_get to place) paired) (other == column) (number_decides (slice_get to place) paired) (equal_decides other column) in (
      λ e. let k = d.0 e in record { place = place; is = ap (Col place) k.1; paired_is = k.0 },
      λ h.
          let same : place ≡ h.place = (let k = h.is in cc) in
          let other_same : other ≡ column = (let k = h.is in cc) in
          d.1 (ap (slice_get to) same ∙ h.paired_is, other_same),
    )
leads_decides to paired column (Val v) = (λ e. cc, λ h. let k = h.is in cc)
leads_decides to paired column (Param n) = (λ e. cc, λ h. let k = h.is in cc)
leads_decides to paired column (Var n) = (λ e. cc, λ h. let k = h.is in cc)

module _ (c : Context) (to : List ℕ) where
  maps_decides : (x y : Operand) → Decides (test.maps c to x y) (Maps c to x y)
  maps_decides (Col place column) (Col paired other) =
      both_decide (test.is_number (slice_get to place) paired) (other == column) (number_decides (slice_get to place) paired) (equal_decides other column)
  maps_decides x y = constant_decides c x y

  atom_decides : (a b : Atom) → Decides (test.maps_atom c to a b) (MapsAtom c to a b)
  atom_decides a b =
      either_decides _ _ (three_decide _ _ _ (op_decides a.op b.op) (maps_decides a.left b.left) (maps_decides a.right b.right))
      (four_decide _ _ _ _ (equation_decides a.op) (equation_decides b.op) (maps_decides a.left b.right) (maps_decides a.right b.left))

  output_decides : (view : Part) (paired column : ℕ) → Decides (list_any (test.outputs to paired column) view.head) (IsOutput to view paired column)
  output_decides view paired column =
      let any = any_decides (test.outputs to paired column) (Leads to paired column) (leads_decides to paired column) view.head in (
        λ e. let (x, there, k) = any.0 e in (k.place, subst (λ y. Contains view.head y) k.is there, k.paired_is),
        λ (place, there, is). any.1 (Col place column, there, record { place = place; is = refl; paired_is = is }),
      )

  pub known_decides : (view : Part) (x : Operand) → Decides (test.is_known c to view x) (IsKnown c to view x)
  known_decides view (Col paired column) = output_decides view paired column
  known_decides view (Val v) = (λ e. tt, λ h. refl)
  known_decides view (Param n) = some_decides (slice_get c.values n)
  known_decides view (Var n) = (λ e. cc, λ h. absurd h)

  image_decides : (q : Part) (a : Atom) → Decides (test.has_image c to q a) (HasImage c to q a)
  image_decides q a = any_decides (test.maps_atom c to a) (MapsAtom c to a) (atom_decides a) q.conds

  pub covered_decides : (view : Part) (b : Atom) → Decides (test.is_covered_atom c to view b) (IsImage c to view b ⊎ (IsKnown c to view b.left × IsKnown c to view b.right))
  covered_decides view b =
      either_decides _ _ (any_decides (λ a. test.maps_atom c to a b) (λ a. MapsAtom c to a b) (λ a. atom_decides a b) view.conds)
      (both_decide _ _ (known_decides view b.left) (known_decides view b.right))

  operands_decide : (view q : Part) → Decides (test.operands_covered c view q to) (All (HasImage c to q) view.conds × All (λ b. IsImage c to view b ⊎ (IsKnown c to view b.left × IsKnown c to view b.right)) q.conds × All (IsKnown c to view) q.head)
  operands_decide view q =
      three_decide _ _ _ (all_decides (test.has_image c to q) (HasImage c to q) (image_decides q) view.conds)
      (all_decides (test.is_covered_atom c to view) (λ b. IsImage c to view b ⊎ (IsKnown c to view b.left × IsKnown c to view b.right)) (covered_decides view) q.conds)
      (all_decides (test.is_known c to view) (IsKnown c to view) (known_decides view) q.head)

  pub covers_sound : (view q : Part) → PairsTables view q to → test.operands_covered c view q to ≡ true → CoversBy c view q to
  covers_sound view q pairs e =
      let k = (operands_decide view q).0 e in record { pairs = pairs; atoms = k.0; others = k.1; head = k.2 }

  pub covers_complete : (view q : Part) → CoversBy c view q to → test.operands_covered c view q to ≡ true
  covers_complete view q h = (operands_decide view q).1 (h.atoms, h.others, h.head)

-- a place that the pairing so far has is paired alike when the pairing goes on
begun_place : (to more : List ℕ) (place paired : ℕ) → place < length to → slice_get (to ++ more) place ≡ Some paired → slice_get to place ≡ Some paired
begun_place [] more place paired below e = absurd (omega arith)
begun_place (i ∷ is) more zero paired below e = e
begun_place (i ∷ is) more (suc place) paired below e = begun_place is more place paired (omega arith) e

begun_maps : (c : Context) (to more : List ℕ) (x y : Operand) → test.is_reached to x ≡ true → Maps c (to ++ more) x y → Maps c to x y
begun_maps c to more (Col place column) (Col paired other) reached (is, same) = (begun_place to more place paired (ltb-true place (length to) reached) is, same)
begun_maps c to more x y reached h = h

begun_atom : (c : Context) (to more : List ℕ) (a b : Atom) → test.is_reached to a.left ≡ true → test.is_reached to a.right ≡ true → MapsAtom c (to ++ more) a b → MapsAtom c to a b
begun_atom c to more a b left right (inl (op, l, r)) = inl (op, begun_maps c to more a.left b.left left l, begun_maps c to more a.right b.right right r)
begun_atom c to more a b left right (inr (is, too, l, r)) = inr (is, too, begun_maps c to more a.left b.right left l, begun_maps c to more a.right b.left right r)

pub if_true : (b d : Bool) → (b ≡ true → d ≡ true) → (if b then d else true) ≡ true
if_true true d f = f refl
if_true false d f = refl

-- an atom that has its image by a pairing that begins so may have it
begun_image : (c : Context) (to more : List ℕ) (q : Part) (a : Atom) → HasImage c (to ++ more) q a → test.may_have_image c to q a ≡ true
begun_image c to more q a (b, there, maps) =
    if_true (test.is_reached to a.left && test.is_reached to a.right) (test.has_image c to q a)
    (λ e. let k = and_both (test.is_reached to a.left) (test.is_reached to a.right) e in (image_decides c to q a).1 (b, there, begun_atom c to more a b k.0 k.1 maps))

pub may_be_complete : (c : Context) (to more : List ℕ) (view q : Part) → CoversBy c view q (to ++ more) → list_all (test.may_have_image c to q) view.conds ≡ true
may_be_complete c to more view q h =
    list_all-from_AllPass (test.may_have_image c to q) view.conds (All-weaker (HasImage c (to ++ more) q) (λ a. test.may_have_image c to q a ≡ true) (begun_image c to more q) view.conds h.atoms)
