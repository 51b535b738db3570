-- The places of a match fix its values, and of two first matches the places are equal.
use Rattle.std.proofs.Common.{◌≡◌, ◌∙◌, inl, inr, ℕ, zero, suc, ◌<◌, List, [], ◌∷◌, length, map, refl, sym, ap, ap₂, subst, arith}
use Rattle.std.proofs.lemmas.List.Elements.{Contains-append_cases}
use Rattle.std.proofs.lemmas.Slice.Zip.{AllZip-long}
use Rattle.std.specs.List.{AllZip, Contains, flat_map}
use Rattle.std.specs.Prelude.{Option, Some, slice_get}
use Rattle.ba_model.proofs.ElementLemmas.{Contains-nil}
use Rattle.ba_model.specs.Conform.{IsOfKind}
use Rattle.ba_model.specs.declared.policy.Context.{Context}
use Rattle.ba_model.specs.declared.policy.Policy.{Policy}
use Rattle.ba_model.specs.declared.query.Operand.TheVariants.{Var, Val}
use Rattle.ba_model.specs.declared.query.Query.{Query}
use Rattle.ba_model.specs.declared.value.Value.{Value}
use Rattle.ba_comply.specs.declared.trace.TraceEntry.{TraceEntry}
use Rattle.ba_kernel.specs.Problems.{fixed_value, query_at, variable_at}
use Rattle.ba_kernel.specs.declared.problem.Problem.{Problem}
use Rattle.ba_kernel.specs.declared.problem.ProblemEntry.{ProblemEntry}
use Rattle.ba_match.proofs.FreeLemmas.{in_query, maps_agree}
use Rattle.ba_match.specs.Matching.{FirstMatchIsOne, IsBefore, IsUpTo}
use Rattle.ba_template.specs.Found.{IsMatch, StandsAt, with_values}
use Rattle.ba_template.specs.Templates.{EachVarStands, operands_of, operands_of_entry}
use Rattle.ba_template.specs.declared.found.Match.{Match}

-- ---- places

not_back : (a b : ℕ × ℕ) → IsBefore a b → IsBefore b a → ⊥
not_back a b h k = elim h [
  | inl x ↦ elim k [
    | inl y ↦ omega arith
    | inr y ↦ let e = y.0 in omega arith
  ]
  | inr x ↦ let e = x.0 in let l = x.1 in elim k [
    | inl y ↦ omega arith
    | inr y ↦ let r = y.1 in omega arith
  ]
]

not_itself : (a : ℕ × ℕ) → IsBefore a a → ⊥
not_itself a h = not_back a a h h

same_places : (xs ys : List (ℕ × ℕ)) → IsUpTo xs ys → IsUpTo ys xs → xs ≡ ys
same_places [] [] h k = refl
same_places [] (y ∷ ys) h k = absurd k
same_places (x ∷ xs) [] h k = absurd h
same_places (x ∷ xs) (y ∷ ys) h k = elim h [
  | inl before ↦ elim k [
    | inl after ↦ absurd (not_back x y before after)
    | inr same ↦ absurd (not_itself x (subst (IsBefore x) same.0 before))
  ]
  | inr same ↦ elim k [
    | inl after ↦ absurd (not_itself x (subst (λ z. IsBefore z x) (sym same.0) after))
    | inr other ↦ ap₂ (λ z zs. z ∷ zs) same.0 (same_places xs ys same.1 other.1)
  ]
]

-- ---- values

same_values : (xs ys : List Value) → length xs ≡ length ys → ((k : ℕ) → k < length xs → slice_get xs k ≡ slice_get ys k) → xs ≡ ys
same_values [] [] e h = refl
same_values [] (y ∷ ys) e h = absurd (omega arith)
same_values (x ∷ xs) [] e h = absurd (omega arith)
same_values (x ∷ xs) (y ∷ ys) e h =
    let first : slice_get (x ∷ xs) 0 ≡ slice_get (y ∷ ys) 0 = h 0 (omega arith) in
    let rest = same_values xs ys (omega arith) (λ k l. h (suc k) (omega arith)) in
    ap₂ (λ z zs. z ∷ zs) (let same : Some x ≡ Some y = first in cc) rest

-- a variable that two valuations replace by equal operands, and that is there
module _ (n : ℕ) where
  by_found : (a b : Option Value) (v w : Value) → a ≡ Some v → b ≡ Some w → variable_at n a ≡ variable_at n b → a ≡ b
  by_found a b v w ea eb e =
      let left : variable_at n a ≡ Val v = ap (variable_at n) ea in
      let right : variable_at n b ≡ Val w = ap (variable_at n) eb in
      let same : v ≡ w = cc in cc

  module _ (c : Context) (trace : List TraceEntry) (v w : List Value) (x y : Value) (at_v : slice_get v n ≡ Some x) (at_w : slice_get w n ≡ Some y) where
    in_one : (pattern q : Query) → query_at v pattern ≡ q → query_at w pattern ≡ q → Contains (operands_of pattern) (Var n) → slice_get v n ≡ slice_get w n
    in_one pattern q ev ew stands =
        by_found (slice_get v n) (slice_get w n) x y at_v at_w (in_query v w pattern (Var n) (ev ∙ sym ew) stands)

    in_entry : (entry : ProblemEntry) (place : ℕ × ℕ) → StandsAt (with_values c v) trace entry place → StandsAt (with_values c w) trace entry place →
        Contains (operands_of_entry entry) (Var n) → slice_get v n ≡ slice_get w n
    in_entry entry place h k stands =
        let first : slice_get trace place.0 ≡ Some h.of = h.entry_is in
        let second : slice_get trace place.0 ≡ Some k.of = k.entry_is in
        let same : k.of ≡ h.of = cc in
        let one : slice_get h.of.rows place.1 ≡ Some h.row = h.row_is in
        let two : slice_get h.of.rows place.1 ≡ Some k.row = subst (λ (it : TraceEntry). slice_get it.rows place.1 ≡ Some k.row) same k.row_is in
        let row : k.row ≡ h.row = cc in
        elim (Contains-append_cases (operands_of entry.query) entry.row (Var n) stands) [
          | inl asks ↦ in_one entry.query h.of.query (sym h.query) (subst (λ (it : TraceEntry). query_at w entry.query ≡ it.query) same (sym k.query)) asks
          | inr gives ↦ maps_agree (fixed_value (with_values c v)) (fixed_value (with_values c w)) entry.row (Var n)
              (h.values ∙ sym (subst (λ r. map (fixed_value (with_values c w)) entry.row ≡ map Some r) row k.values)) gives
        ]

    in_entries : (entries : List ProblemEntry) (places : List (ℕ × ℕ)) → AllZip (StandsAt (with_values c v) trace) entries places →
        AllZip (StandsAt (with_values c w) trace) entries places → Contains (flat_map operands_of_entry entries) (Var n) → slice_get v n ≡ slice_get w n
    in_entries [] places h k stands = absurd (Contains-nil (Var n) stands)
    in_entries (entry ∷ entries) [] h k stands = absurd h
    in_entries (entry ∷ entries) (place ∷ places) h k stands =
        elim (Contains-append_cases (operands_of_entry entry) (flat_map operands_of_entry entries) (Var n) stands) [
          | inl here ↦ in_entry entry place h.0 k.0 here
          | inr later ↦ in_entries entries places h.1 k.1 later
        ]

value_at : (xs : List Value) (n : ℕ) → n < length xs → (v : Value) × (slice_get xs n ≡ Some v)
value_at [] n h = absurd (omega arith)
value_at (x ∷ xs) zero h = (x, refl)
value_at (x ∷ xs) (suc n) h = value_at xs n (omega arith)

module _ (p : Problem) (policy : Policy) (c : Context) (trace : List TraceEntry) (q : Query) (m other : Match) (each : EachVarStands p)
    (h : IsMatch p policy c trace q m) (k : IsMatch p policy c trace q other) (places : m.places ≡ other.places) where
  long : length m.values ≡ length p.vars
  long = AllZip-long IsOfKind p.vars m.values h.kinds

  other_long : length other.values ≡ length p.vars
  other_long = AllZip-long IsOfKind p.vars other.values k.kinds

  values_at : (n : ℕ) → n < length m.values → slice_get m.values n ≡ slice_get other.values n
  values_at n below =
      let e = long in
      let f = other_long in
      let mine = value_at m.values n below in
      let theirs = value_at other.values n (omega arith) in
      elim (Contains-append_cases (operands_of p.goal) (flat_map operands_of_entry p.entries) (Var n) (each.stands n (omega arith))) [
        | inl goal ↦ in_one n c trace m.values other.values mine.0 theirs.0 mine.1 theirs.1 p.goal q h.question k.question goal
        | inr later ↦ in_entries n c trace m.values other.values mine.0 theirs.0 mine.1 theirs.1 p.entries m.places h.places
            (subst (AllZip (StandsAt (with_values c other.values) trace) p.entries) (sym places) k.places) later
      ]

  pub same_match : m ≡ other
  same_match =
      ap₂ (λ vs ps. let it : Match = record { values = vs; places = ps } in it)
      (same_values m.values other.values (let e = long in let f = other_long in omega arith) values_at) places

pub one_first_match : FirstMatchIsOne
one_first_match p policy c trace q m other each h k =
    same_match p policy c trace q m other each h.is_match k.is_match
    (same_places m.places other.places (h.first other k.is_match) (k.first m h.is_match))
