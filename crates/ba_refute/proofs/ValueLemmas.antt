-- The values of unknowns, one after another.
use Rattle.std.proofs.Common.{◌≡◌, ◌∙◌, ℕ, zero, suc, ◌+◌, ◌<◌, ◌≤◌, ◌^◌, ℤ, pos, List, [], ◌∷◌, ◌++◌, All, Contains, ap, get_or, length, ◌⊎◌, inl, inr, refl, sym, subst, ⊎_elim, arith, Some, Result, Ok, Err}
use Rattle.std.specs.Fmt.{decimal}
use Rattle.std.specs.List.{repeat, zip}
use Rattle.std.specs.Result.{IfOk}
use Rattle.std.specs.List.{slice_get}
use Rattle.std.specs.List.Sorted.{IsBinarySearchResult, IsStrictlySortedBy}
use Rattle.std.specs.Cmp.{ranks}
use Rattle.std.specs.Ordering.{MatchOrdering, nat_cmp}
use Rattle.std.proofs.lemmas.Bool.{cases_lt}
use Rattle.std.proofs.lemmas.Grind.{get_or_default_zero}
use Rattle.std.proofs.lemmas.List.{length_push}
use Rattle.std.proofs.lemmas.List.Sorted.{searched}
use Rattle.std.proofs.lemmas.Map.Keys.{Less-from_sorted}
use Rattle.std.proofs.lemmas.Option.{none-some}
use Rattle.ba_facts.proofs.Elements.{get_push_cases}
use Rattle.ba_facts.specs.Knowing.{IsLeastOf}
use Rattle.ba_facts.specs.Known.{Known, OneClass, ShownNotNull}
use Rattle.ba_facts.specs.declared.branch.Branch.{Branch}
use Rattle.ba_facts.specs.declared.term.Term.TheVariants.{Unknown, Val}
use Rattle.ba_facts.specs.declared.term.Sort.{Sort}
use Rattle.ba_kernel.specs.declared.problem.Problem.{Problem}
use Rattle.ba_model.proofs.ElementLemmas.{Contains-head, Contains-later}
use Rattle.ba_model.specs.declared.schema.Kind.{Kind}
use Rattle.ba_model.specs.declared.schema.Kind.TheVariants.{Int as IntKind, Text as TextKind}
use Rattle.ba_model.specs.declared.value.Value.{Value}
use Rattle.ba_model.specs.declared.value.Value.TheVariants.{Int, Null, Text}
use Rattle.ba_refute.specs.Counterexamples.{IsNumber}
use Rattle.ba_refute.specs.Images.{AreNodes, AreNumbers, AreValues, HasKind, HasNoLiteral, IsClassValue, IsFreeUnknown, IsLeastUnknown, IsMarks, IsValueOf, literal, literals, null, text, number, numbers_of}
use Rattle.ba_refute.specs.OfEquations.{AreSmall}

-- the value is that of the class, whatever literals have so many marks
abbrev pub IsAnyClassValue : Known → ℕ → List ℕ → List ℤ → ℕ → Value → Type 0
IsAnyClassValue k marks nodes numbers n v = (all : List Value) → IsMarks all marks → IsClassValue k all nodes numbers n v

-- the values of the first unknowns
pub record AreValuesTo (k : Known) (marks : ℕ) (nodes : List ℕ) (numbers : List ℤ) (i : ℕ) (values : List Value) : Type 0 where
  pub len : length values ≡ i
  pub each : (all : List Value) → IsMarks all marks → (n : ℕ) (v : Value) → slice_get values n ≡ Some v → IsValueOf k all nodes numbers n v

pub values_none : (k : Known) (marks : ℕ) (nodes : List ℕ) (numbers : List ℤ) → AreValuesTo k marks nodes numbers 0 []
values_none k marks nodes numbers = record { len = refl; each = λ all h n v e. absurd (none-some v e) }

pub values_more : (k : Known) (marks : ℕ) (nodes : List ℕ) (numbers : List ℤ) (i least : ℕ) (values : List Value) (v : Value) → AreValuesTo k marks nodes numbers i values → IsLeastOf k i least → IsAnyClassValue k marks nodes numbers least v → AreValuesTo k marks nodes numbers (i + 1) (values ++ v ∷ [])
values_more k marks nodes numbers i least values v so_far is_least is = record {
  len = omega (arith, length_push values v, so_far.len);
  each = λ all h n w e. ⊎_elim
      (λ (old : slice_get values n ≡ Some w). so_far.each all h n w old)
      (λ (new : (n ≡ length values) × (v ≡ w)).
      let at : i ≡ n = omega (arith, new.0, so_far.len) in
      subst (λ m. IsValueOf k all nodes numbers m w) at
      (record { least = least; is_least = is_least; value = subst (IsClassValue k all nodes numbers least) new.1 (is all h) }))
      (get_push_cases values v n w e);
}

-- ---- numbers of nodes

zip_at : (xs : List ℕ) (vs : List ℤ) (i : ℕ) → i < length xs → length vs ≡ length xs → Contains (zip xs vs) (get_or xs i 0, get_or vs i (pos 0))
zip_at [] vs i less e = absurd (omega (arith, less))
zip_at (x ∷ xs) [] i less e = absurd (omega (arith, e))
zip_at (x ∷ xs) (v ∷ vs) zero less e = Contains-head (x, v) (zip xs vs)
zip_at (x ∷ xs) (v ∷ vs) (suc i) less e = Contains-later (x, v) (zip xs vs) _ (zip_at xs vs i (omega (arith, less)) (omega (arith, e)))

pub zip_found : (xs : List ℕ) (vs : List ℤ) (i n : ℕ) (z : ℤ) → i < length xs → length vs ≡ length xs → get_or xs i 0 ≡ n → get_or vs i (pos 0) ≡ z → Contains (zip xs vs) (n, z)
zip_found xs vs i n z less e at is =
    subst (λ w. Contains (zip xs vs) (n, w)) is (subst (λ m. Contains (zip xs vs) (m, get_or vs i (pos 0))) at (zip_at xs vs i less e))

rises_up : (xs : List ℕ) → IsStrictlySortedBy nat_cmp xs → (i j : ℕ) → i ≤ j → j < length xs → get_or xs i 0 ≤ get_or xs j 0
rises_up xs rising i j upto there =
    ⊎_elim
    (λ (h : i < j).
    let low : ℕ = get_or xs i 0 in
    let high : ℕ = get_or xs j 0 in
    let below : low < high = subst (λ o. MatchOrdering o (low < high) (low ≡ high) (high < low)) (Less-from_sorted nat_cmp xs i j 0 rising h there) (ranks low high) in
    omega (arith, below))
    (λ (past : j ≤ i). let e : i ≡ j = omega (arith, upto, past) in subst (λ m. get_or xs i 0 ≤ get_or xs m 0) e (omega arith))
    (cases_lt i j)

-- what a search by halving finds and doesn't
pub zip_searched : (xs : List ℕ) (vs : List ℤ) (i n : ℕ) (z : ℤ) → IsStrictlySortedBy nat_cmp xs → length vs ≡ length xs → IsBinarySearchResult (λ y. nat_cmp y n) xs (Ok i) → get_or vs i (pos 0) ≡ z → Contains (zip xs vs) (n, z)
zip_searched xs vs i n z rising len is at =
    let it = searched xs n (Ok i) is (rises_up xs rising) in
    zip_found xs vs i n z it.0 len it.1 at

pub not_found : (xs : List ℕ) (i n : ℕ) → IsStrictlySortedBy nat_cmp xs → IsBinarySearchResult (λ y. nat_cmp y n) xs (Err i) → Contains xs n → ⊥
not_found xs i n rising is there =
    let it = searched xs n (Err i) is (rises_up xs rising) in
    let at : get_or xs there.0 0 ≡ n = sym (get_or_default_zero xs there.0 n there.1) ∙ there.2 in
    ⊎_elim
    (λ (low : there.0 < i). let below = it.1 there.0 low in omega (arith, below, at))
    (λ (high : i ≤ there.0). let above = it.2 there.0 high there.1 in omega (arith, above, at))
    (cases_lt there.0 i)

-- ---- kinds of unknowns

sort_at : (sorts : List Sort) (n : ℕ) → n < length sorts → (sort : Sort) × (slice_get sorts n ≡ Some sort)
sort_at [] n less = absurd (omega (arith, less))
sort_at (sort ∷ sorts) zero less = (sort, refl)
sort_at (sort ∷ sorts) (suc n) less = sort_at sorts n (omega (arith, less))

kind_cases : (kind : Kind) → (kind ≡ IntKind) ⊎ (kind ≡ TextKind)
kind_cases IntKind = inl refl
kind_cases TextKind = inr refl

pub number_kind : (k : Known) (n : ℕ) → n < length k.unknowns → (HasKind k TextKind n → ⊥) → HasKind k IntKind n
number_kind k n there other =
    let found = sort_at k.unknowns n there in
    ⊎_elim
    (λ (e : found.0.kind ≡ IntKind). record { sort = found.0; sort_is = found.1; kind_is = e })
    (λ (e : found.0.kind ≡ TextKind). absurd (other (record { sort = found.0; sort_is = found.1; kind_is = e })))
    (kind_cases found.0.kind)

-- ---- the value of a class

pub literal_value : {E : Type 0} (k : Known) (marks : ℕ) (nodes : List ℕ) (numbers : List ℤ) (n : ℕ) (v : Value) (found : Result Value E) → OneClass k (Unknown n) (Val v) → IfOk found (λ it. it ≡ v) → IfOk found (IsAnyClassValue k marks nodes numbers n)
literal_value k marks nodes numbers n v (Err e) class h = h
literal_value k marks nodes numbers n v (Ok it) class h = λ all marked. literal (subst (λ w. OneClass k (Unknown n) (Val w)) (sym h) class)

pub null_value : (k : Known) (marks : ℕ) (nodes : List ℕ) (numbers : List ℤ) (n : ℕ) (v : Value) → HasNoLiteral k n → (ShownNotNull k (Unknown n) → ⊥) → v ≡ Null → IsAnyClassValue k marks nodes numbers n v
null_value k marks nodes numbers n v without shown e = λ all marked. subst (IsClassValue k all nodes numbers n) (sym e) (null without shown)

pub text_found : {E : Type 0} (k : Known) (marks : ℕ) (nodes : List ℕ) (numbers : List ℤ) (n : ℕ) (found : Result Value E) → IsFreeUnknown k TextKind n → IfOk found (λ it. it ≡ Text (repeat marks (126 ∷ []) ++ decimal n)) → IfOk found (IsAnyClassValue k marks nodes numbers n)
text_found k marks nodes numbers n (Err e) free h = h
text_found k marks nodes numbers n (Ok it) free h = λ all marked. subst (IsClassValue k all nodes numbers n) (sym h) (text free marked)

pub number_value : (k : Known) (marks : ℕ) (nodes : List ℕ) (numbers : List ℤ) (n : ℕ) (z : ℤ) (v : Value) → IsFreeUnknown k IntKind n → Contains (zip nodes numbers) (n, z) → v ≡ Int z → IsAnyClassValue k marks nodes numbers n v
number_value k marks nodes numbers n z v free has e = λ all marked. subst (IsClassValue k all nodes numbers n) (sym e) (number free has)

pub node_is_there : (k : Known) (nodes : List ℕ) (n : ℕ) → AreNodes k nodes → IsLeastUnknown k n → IsFreeUnknown k IntKind n → Contains nodes n
node_is_there k nodes n are least free = are.complete n (record { least = least; free = free })

-- ---- all of them

pub values_found : {V E : Type 0} (items : V → List Value) (k : Known) (all : List Value) (marks : ℕ) (used : List ℤ) (nodes : List ℕ) (numbers : List ℤ) (found : Result V E) → IsMarks all marks → used ≡ numbers_of all → AreNodes k nodes → AreNumbers k used nodes numbers → IfOk found (λ it. length (items it) ≡ length k.unknowns) → IfOk found (λ it. (all : List Value) → IsMarks all marks → (n : ℕ) (v : Value) → slice_get (items it) n ≡ Some v → IsValueOf k all nodes numbers n v) → IfOk found (λ it. AreValues k all (items it))
values_found items k all marks used nodes numbers (Err e) marked used_is are numbered len each = len
values_found items k all marks used nodes numbers (Ok it) marked used_is are numbered len each = record {
  nodes = nodes;
  numbers = numbers;
  nodes_are = are;
  numbers_are = subst (λ us. AreNumbers k us nodes numbers) used_is numbered;
  len = len;
  each = each all marked;
}

-- ---- what is so whatever they are

pub always : {V E : Type 0} (P : V → Type 0) (found : Result V E) → ((it : V) → P it) → IfOk found P
always P (Err e) h = tt
always P (Ok it) h = h it

pub small : (p : Problem) (b : Branch) (used seen : List ℤ) → used ≡ numbers_of (literals p b) → All IsNumber used → seen ≡ used → length seen < 2 ^ 60 → length b.known.unknowns < 2 ^ 32 → AreSmall p b
small p b used seen is stored same few unknowns =
    let all : All IsNumber (numbers_of (literals p b)) = subst (All IsNumber) is stored in
    let long : length seen ≡ length (numbers_of (literals p b)) = ap length (same ∙ is) in
    record { stored = all; unknowns = omega (arith, unknowns); few = omega (arith, long, few, unknowns) }
