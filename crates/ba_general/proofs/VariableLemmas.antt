-- The variables and their values, one further.
use Rattle.std.proofs.Common.{◌≡◌, ℕ, zero, suc, ◌+◌, ◌<◌, ◌≤◌, List, [], ◌∷◌, ◌++◌, length, get_or, take, map, refl, sym, ap, ap₂, ◌∙◌, append_assoc, arith}
use Rattle.std.specs.List.{range_with_len, zip}
use Rattle.std.proofs.lemmas.List.{take_all}
use Rattle.ba_kernel.proofs.ZipLemmas.{taken}
use Rattle.ba_model.specs.declared.query.Operand.TheVariants.{Var}
use Rattle.ba_model.specs.declared.value.Value.{Value}
use Rattle.ba_general.specs.Conditions.{valued, variables}
use Rattle.ba_general.specs.declared.pattern.Valued.{Valued}

abbrev numbered : ℕ → List Value → List Valued
numbered first values = map (λ two. valued (Var two.0, two.1)) (zip (range_with_len first (length values)) values)

numbered_at : (first : ℕ) (values : List Value) (n : ℕ) (v : Value) (d : Valued) → n < length values → v ≡ get_or values n v →
    get_or (numbered first values) n d ≡ valued (Var (first + n), v)
numbered_at first [] n v d below at = absurd (omega arith)
numbered_at first (w ∷ values) zero v d below at =
    let e : first ≡ first + 0 = omega arith in ap₂ (λ k u. valued (Var k, u)) e (sym at)
numbered_at first (w ∷ values) (suc n) v d below at =
    let e : (first + 1) + n ≡ first + suc n = omega arith in
    let less : n < length values = omega arith in
    numbered_at (first + 1) values n v d less at ∙ ap (λ k. valued (Var k, v)) e

numbered_wide : (first : ℕ) (values : List Value) → length (numbered first values) ≡ length values
numbered_wide first [] = refl
numbered_wide first (v ∷ values) = ap suc (numbered_wide (first + 1) values)

pub variables_more : (values : List Value) (n : ℕ) (v w : Value) (number : ℕ) (start old new : List Valued) → n < length values → v ≡ get_or values n v → w ≡ v →
    number ≡ n → old ≡ start ++ take n (variables values) → new ≡ old ++ record { operand = Var number; value = w } ∷ [] → new ≡ start ++ take (n + 1) (variables values)
variables_more values n v w number start old new below at copied number_is before e =
    let x : Valued = valued (Var n, v) in
    let wide : length (variables values) ≡ length values = numbered_wide 0 values in
    let here : n < length (variables values) = omega arith in
    let same : 0 + n ≡ n = omega arith in
    e ∙ (ap₂ (λ os y. os ++ y ∷ []) before (ap₂ (λ k u. valued (Var k, u)) number_is copied) ∙
    (append_assoc start (take n (variables values)) (x ∷ []) ∙
    ap (λ os. start ++ os) (sym (taken (variables values) n x here (sym (numbered_at 0 values n v x below at ∙ ap (λ k. valued (Var k, v)) same))))))

pub variables_all : (values : List Value) (n : ℕ) (start all : List Valued) → length values ≤ n → all ≡ start ++ take n (variables values) → all ≡ start ++ variables values
variables_all values n start all whole e =
    let wide : length (variables values) ≡ length values = numbered_wide 0 values in
    let past : length (variables values) ≤ n = omega arith in
    e ∙ ap (λ os. start ++ os) (take_all n (variables values) past)
