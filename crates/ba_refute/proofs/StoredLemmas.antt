-- Where the literals are within 64 bits and few enough, so are the values of the image.
use Rattle.std.proofs.Common.{◌≡◌, ◌∙◌, ℕ, zero, suc, ◌+◌, ◌<◌, ◌≤◌, ◌^◌, ℤ, pos, ◌<ℤ◌, List, [], ◌∷◌, ◌++◌, All, Contains, Some, cond, get_or, length, take, refl, sym, subst, arith, inl, inr}
use Rattle.std.proofs.lemmas.Cmp.{ranked}
use Rattle.std.proofs.lemmas.Int.{ints}
use Rattle.std.proofs.lemmas.List.{length-append, length-take-le}
use Rattle.std.proofs.lemmas.List.Elements.{All-cons, All-contains, All-head, All-nil, All-tail, Contains-get_or}
use Rattle.std.specs.List.{zip}
use Rattle.std.specs.List.Sorted.{IsStrictlySortedBy}
use Rattle.std.specs.Ordering.{nat_cmp}
use Rattle.std.specs.Prelude.{negsuc}
use Rattle.std.specs.declared.cmp.Ordering.TheVariants.{Less}
use lib.Signed.{le_z}
use Rattle.ba_classes.proofs.UnusedLemmas.{count_from, from_falls}
use Rattle.ba_classes.specs.Image.{IsLeastUnused}
use Rattle.ba_comply.proofs.ComplyLemmas.{All-from_contains}
use Rattle.ba_facts.specs.Known.{Known}
use Rattle.ba_facts.specs.declared.branch.Branch.{Branch}
use Rattle.ba_facts.specs.declared.term.Side.{Side}
use Rattle.ba_facts.specs.declared.term.Term.{Term}
use Rattle.ba_kernel.proofs.StepFits.{Contains-place}
use Rattle.ba_model.specs.declared.policy.Context.{Context}
use Rattle.ba_model.specs.declared.schema.Schema.{Schema}
use Rattle.ba_model.specs.declared.value.RowSet.{RowSet}
use Rattle.ba_model.specs.declared.value.Value.{Value}
use Rattle.ba_model.specs.declared.value.Value.TheVariants.{Null, Int, Text}
use Rattle.ba_refute.specs.Counterexamples.{AreStored, IsNumber, IsStored}
use Rattle.ba_refute.specs.Images.{AreSideRows, HasNoLiteral, IsClassValue, IsRowAt, literal, null, number, numbers_of, text}
use Rattle.ba_refute.proofs.FreeLemmas.{int_in, least_unused, pair_at, rising_at}
use Rattle.ba_refute.proofs.ImageRows.{IsImaged}
use Rattle.ba_refute.proofs.SeenLemmas.{IsSeen, seen}
use Rattle.ba_refute.specs.EquationParts.{IsFactIn}
use Rattle.ba_refute.specs.TermValues.{IsIn, value_at}

-- ---- the least unused number is at most as great as there are used ones

one_counted : (v u : ℤ) → cond (le_z v u) 1 0 ≤ 1
one_counted v u = grind arith

counted : (v : ℤ) (used : List ℤ) → count_from v used ≤ length used
counted v [] = omega arith
counted v (u ∷ used) = let one = one_counted v u in let more = counted v used in omega (arith, one, more)

falls : (used : List ℤ) (n : ℕ) → ((m : ℕ) → m < n → Contains used (pos m)) → count_from (pos n) used + n ≤ count_from (pos 0) used
falls used zero h = omega arith
falls used (suc n) h =
    let before = falls used n (λ m less. h m (omega (arith, less))) in
    let less : pos n <ℤ pos (suc n) = omega (arith, ints) in
    let next = from_falls (pos n) (pos (suc n)) used less (h n (omega arith)) in
    omega (arith, before, next)

pub least_few : (used : List ℤ) (z : ℤ) → IsLeastUnused used (pos 0) z → (n : ℕ) × (z ≡ pos n) × (n ≤ length used)
least_few used (pos n) h =
    let fall = falls used n (λ m less. h.passed (pos m) (omega (arith, ints)) (omega (arith, ints, less))) in
    let all = counted (pos 0) used in
    (n, refl, omega (arith, fall, all))
least_few used (negsuc n) h = absurd (omega (arith, ints, h.from))

-- ---- nodes are no more than unknowns

less_is : (n m : ℕ) → nat_cmp n m ≡ Less → n < m
less_is n m e = ranked n m Less (sym e)

at_least : (nodes : List ℕ) → IsStrictlySortedBy nat_cmp nodes → (i : ℕ) → i < length nodes → i ≤ get_or nodes i 0
at_least nodes rising zero below = omega arith
at_least nodes rising (suc i) below =
    let before = at_least nodes rising i (omega (arith, below)) in
    let less = less_is (get_or nodes i 0) (get_or nodes (suc i) 0) (rising_at nodes rising i (suc i) (omega arith) below) in
    omega (arith, before, less)

small_number : (n : ℕ) → n < 2 ^ 63 → IsNumber (pos n)
small_number n h = (omega (arith, ints), omega (arith, ints, h))

module _ (s : Schema) (c : Context) (all values : List Value) (b : Branch) (it : IsImaged s c all values b) (stored : All IsNumber (numbers_of all)) (few : length (numbers_of all) + length b.known.unknowns < 2 ^ 63) where
  abbrev k : Known
  k = b.known

  node_few : (n : ℕ) (z : ℤ) → Contains (zip (it.image).nodes (it.image).numbers) (n, z) → IsStored (Int z)
  node_few n z h =
      let nodes = (it.image).nodes in
      let numbers = (it.image).numbers in
      let at = pair_at nodes numbers n z h in
      let least = least_few (numbers_of all ++ take at.place numbers) (get_or numbers at.place (pos 0))
      (least_unused k it.are (numbers_of all) nodes numbers (it.image).nodes_are (it.image).numbers_are at.place at.below) in
      let node = at_least nodes ((it.image).nodes_are).rising at.place at.below in
      let there : get_or nodes at.place 0 < length k.unknowns =
      (((it.image).nodes_are).sound (get_or nodes at.place 0) (Contains-get_or nodes at.place 0 at.below)).least.there in
      let long : length (numbers_of all ++ take at.place numbers) ≡ length (numbers_of all) + length (take at.place numbers) = length-append (numbers_of all) (take at.place numbers) in
      let taken : length (take at.place numbers) ≡ at.place = length-take-le at.place numbers (let e = ((it.image).numbers_are).len in omega (arith, e, at.below)) in
      let small : least.0 < 2 ^ 63 = omega (arith, least.2, long, taken, node, there, few) in
      subst (λ x. IsStored (Int x)) (sym least.1 ∙ at.number_is) (small_number least.0 small)

  class_stored : (n : ℕ) (v : Value) → HasNoLiteral k n → IsClassValue k all (it.image).nodes (it.image).numbers n v → IsStored v
  class_stored n v none (literal h) = absurd (none v h)
  class_stored n v none (null a hidden) = tt
  class_stored n v none (text free marked) = tt
  class_stored n v none (number {value = z} free has) = node_few n z has

  literal_stored : (v : Value) → Contains all v → IsStored v
  literal_stored Null h = tt
  literal_stored (Int z) h = All-contains IsNumber (numbers_of all) z stored (int_in all z h)
  literal_stored (Text t) h = tt

  value_stored : (t : Term) (v : Value) → IsSeen k it.are c all it.lits values it.image it.few t v → IsStored v
  value_stored t v (inl h) = literal_stored v h.in_all
  value_stored t v (inr h) = class_stored h.least v (h.free).0 (h.free).2

  pub row_stored : (ts : List Term) (r : List Value) → All (IsIn k c all) ts → IsRowAt c values ts r → All IsStored r
  row_stored [] [] h e = All-nil IsStored
  row_stored [] (v ∷ r) h e = cc
  row_stored (t ∷ ts) [] h e = cc
  row_stored (t ∷ ts) (v ∷ r) h e =
      let first : value_at c values t ≡ Some v = cc in
      let rest : IsRowAt c values ts r = cc in
      All-cons IsStored v r (value_stored t v (seen k it.are c all it.lits values it.image it.few t v (All-head (IsIn k c all) t ts h) first))
      (row_stored ts r (All-tail (IsIn k c all) t ts h) rest)

  pub side_stored : (side : Side) (d : RowSet) → AreSideRows c values b.facts (length s.tables) side d.tables → AreStored d
  side_stored side d is = record {
    tables = All-from_contains (All (All IsStored)) d.tables
        (λ rows h.
        let at = Contains-place d.tables rows h in
        All-from_contains (All IsStored) rows
        (λ r g.
        let row = (is.each at.0 rows at.1).sound r g in
        row_stored row.fact.terms r (All-contains (IsFactIn k c all) b.facts row.fact it.facts row.there) row.row));
  }
