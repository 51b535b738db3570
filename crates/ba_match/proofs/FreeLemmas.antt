-- Variables that stay free: none of those that stand in what was made another.
use Rattle.std.proofs.Common.{◌≡◌, inl, inr, true, ℕ, zero, suc, List, [], ◌∷◌, map, refl, sym, ap, subst}
use Rattle.std.proofs.lemmas.List.Elements.{Contains-append_cases}
use Rattle.std.specs.List.{Contains, flat_map}
use Rattle.std.specs.Prelude.{Option, Some, None, slice_get, unwrap_or}
use Rattle.ba_model.proofs.ElementLemmas.{Contains-cases, Contains-flat_map, Contains-nil}
use Rattle.ba_model.specs.declared.policy.Context.{Context}
use Rattle.ba_model.specs.declared.query.Atom.{Atom}
use Rattle.ba_model.specs.declared.query.Operand.{Operand}
use Rattle.ba_model.specs.declared.query.Operand.TheVariants.{Var, Val}
use Rattle.ba_model.specs.declared.query.Part.{Part}
use Rattle.ba_model.specs.declared.query.Query.{Query}
use Rattle.ba_model.specs.declared.value.Value.{Value}
use Rattle.ba_model.specs.declared.value.Value.TheVariants.{Null, Text}
use Rattle.ba_kernel.specs.Problems.{atom_at, fixed_value, operand_at, part_at, query_at, variable_at}
use Rattle.ba_template.specs.Found.{with_values}
use Rattle.ba_template.specs.Templates.{operands_of, operands_of_part, sides}
use Rattle.ba_match.proofs.BindingLemmas.{fixed_at, gone_at}
use Rattle.ba_match.specs.Bindings.{Extends, Narrows}

-- ---- where two maps agree

pub maps_agree : {X Y : Type 0} (f g : X → Y) (xs : List X) (x : X) → map f xs ≡ map g xs → Contains xs x → f x ≡ g x
maps_agree f g [] x e h = absurd (Contains-nil x h)
maps_agree f g (y ∷ xs) x e h = elim (Contains-cases y xs x h) [
  | inl same ↦ let here : f y ≡ g y = cc in subst (λ z. f z ≡ g z) same here
  | inr later ↦ let rest : map f xs ≡ map g xs = cc in maps_agree f g xs x rest later
]

module _ (v w : List Value) where
  abbrev Agree : Operand → Type 0
  Agree x = operand_at v x ≡ operand_at w x

  in_sides : (atom : Atom) (x : Operand) → atom_at v atom ≡ atom_at w atom → Contains (sides atom) x → Agree x
  in_sides atom x e h = elim (Contains-cases atom.left (atom.right ∷ []) x h) [
    | inl left ↦ subst Agree left (ap (λ (it : Atom). it.left) e)
    | inr later ↦ elim (Contains-cases atom.right [] x later) [
      | inl right ↦ subst Agree right (ap (λ (it : Atom). it.right) e)
      | inr none ↦ absurd (Contains-nil x none)
    ]
  ]

  in_part : (part : Part) (x : Operand) → part_at v part ≡ part_at w part → Contains (operands_of_part part) x → Agree x
  in_part part x e h = elim (Contains-append_cases part.head (flat_map sides part.conds) x h) [
    | inl here ↦ maps_agree (operand_at v) (operand_at w) part.head x (ap (λ (it : Part). it.head) e) here
    | inr later ↦
        let found = Contains-flat_map sides part.conds x later in
        in_sides found.0 x (maps_agree (atom_at v) (atom_at w) part.conds found.0 (ap (λ (it : Part). it.conds) e) found.1) found.2
  ]

  -- two valuations that make one query of another agree on its operands
  pub in_query : (q : Query) (x : Operand) → query_at v q ≡ query_at w q → Contains (operands_of q) x → Agree x
  in_query q x e h =
      let found = Contains-flat_map operands_of_part q.parts x h in
      in_part found.0 x (maps_agree (part_at v) (part_at w) q.parts found.0 (ap (λ (it : Query). it.parts) e) found.1) found.2

-- ---- a variable that is free may have any value

abbrev filled : Value → List (Option Value) → List Value
filled d bound = map (λ o. unwrap_or o d) bound

filled_extends : (d : Value) (bound : List (Option Value)) → Extends bound (filled d bound)
filled_extends d [] = tt
filled_extends d (None ∷ bound) = (tt, filled_extends d bound)
filled_extends d (Some v ∷ bound) = (refl, filled_extends d bound)

filled_at : (d : Value) (bound : List (Option Value)) (n : ℕ) → slice_get bound n ≡ Some None → slice_get (filled d bound) n ≡ Some d
filled_at d [] n e = absurd (cc)
filled_at d (b ∷ bound) zero e = let free : b ≡ None = cc in ap (λ o. Some (unwrap_or o d)) free
filled_at d (b ∷ bound) (suc n) e = filled_at d bound n e

module _ (n : ℕ) (new : List (Option Value)) (free : slice_get new n ≡ Some None) where
  abbrev nulls : List Value
  nulls = filled Null new

  abbrev empties : List Value
  empties = filled (Text []) new

  null_at : slice_get nulls n ≡ Some Null
  null_at = filled_at Null new n free

  empty_at : slice_get empties n ≡ Some (Text [])
  empty_at = filled_at (Text []) new n free

  variables_differ : operand_at nulls (Var n) ≡ operand_at empties (Var n) → ⊥
  variables_differ e =
      let a : variable_at n (slice_get nulls n) ≡ Val Null = ap (variable_at n) null_at in
      let b : variable_at n (slice_get empties n) ≡ Val (Text []) = ap (variable_at n) empty_at in cc

  values_differ : slice_get nulls n ≡ slice_get empties n → ⊥
  values_differ e = let a = null_at in let b = empty_at in cc

  -- a variable that stands in a query isn't free once the query became another
  pub query_fixes : (pattern query : Query) (old : List (Option Value)) → Narrows (λ v. query_at v pattern ≡ query) old new true →
      Contains (operands_of pattern) (Var n) → ⊥
  query_fixes pattern query old h stands =
      let a = h.sound nulls refl (filled_extends Null new) in
      let b = h.sound empties refl (filled_extends (Text []) new) in
      let same : query_at nulls pattern ≡ query_at empties pattern = subst (λ q. query_at nulls pattern ≡ q) (sym b.1) a.1 in
      variables_differ (in_query nulls empties pattern (Var n) same stands)

  -- nor is one of a row
  pub row_fixes : (c : Context) (patterns : List Operand) (row : List Value) (old : List (Option Value)) →
      Narrows (λ v. map (fixed_value (with_values c v)) patterns ≡ map Some row) old new true → Contains patterns (Var n) → ⊥
  row_fixes c patterns row old h stands =
      let a = h.sound nulls refl (filled_extends Null new) in
      let b = h.sound empties refl (filled_extends (Text []) new) in
      let same : map (fixed_value (with_values c nulls)) patterns ≡ map (fixed_value (with_values c empties)) patterns =
      subst (λ q. map (fixed_value (with_values c nulls)) patterns ≡ q) (sym b.1) a.1 in
      values_differ (maps_agree (fixed_value (with_values c nulls)) (fixed_value (with_values c empties)) patterns (Var n) same stands)

  -- what is free was free
  pub was_free : {P : List Value → Type 0} (old : List (Option Value)) → Narrows P old new true → slice_get old n ≡ Some None
  was_free old h = by_found (slice_get old n) refl
    where
      was_null : Extends old nulls
      was_null = (h.sound nulls refl (filled_extends Null new)).0

      was_empty : Extends old empties
      was_empty = (h.sound empties refl (filled_extends (Text []) new)).0

      fixed_both : (u : Value) → slice_get old n ≡ Some (Some u) → ⊥
      fixed_both u e =
          let a = fixed_at old nulls n (Some u) was_null e in
          let b = fixed_at old empties n (Some u) was_empty e in
          let p : slice_get nulls n ≡ Some a.0 = a.1 in
          let q : slice_get empties n ≡ Some b.0 = b.1 in
          let s : u ≡ a.0 = a.2 in
          let t : u ≡ b.0 = b.2 in
          let x = null_at in
          let y = empty_at in cc

      not_there : slice_get old n ≡ None → ⊥
      not_there e = let a : slice_get nulls n ≡ None = gone_at old nulls n was_null e in let b = null_at in cc

      by_found : (o : Option (Option Value)) → slice_get old n ≡ o → slice_get old n ≡ Some None
      by_found None e = absurd (not_there e)
      by_found (Some None) e = e
      by_found (Some (Some u)) e = absurd (fixed_both u e)
