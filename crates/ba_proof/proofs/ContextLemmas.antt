-- A context that was written reads back.
use Rattle.std.proofs.Common.{◌≡◌, ◌∙◌, ℕ, zero, suc, ◌+◌, ◌≤◌, List, [], ◌∷◌, ◌++◌, length, map, Bool, true, false, ◌||◌, cond, Some, None, refl, sym, ap, arith, append_assoc, pos, negsuc, ◌^◌, nat_lt}
use Rattle.std.specs.Prelude.{option_and_then, slice_get}
use Rattle.std.specs.List.{AllByRecursion, AllZip, IsDistinct, list_any, range_with_len, zip}
use Rattle.std.specs.Str.{bytes_eq}
use Rattle.std.proofs.lemmas.List.{length-append}
use Rattle.serde_json.specs.Data.{Members, no_members}
use Rattle.ba_model.specs.Conform.{IsOfKind}
use Rattle.ba_model.specs.Fit.{kinds_of}
use Rattle.ba_model.specs.SchemaFaults.{AreDistinct}
use Rattle.ba_model.specs.declared.policy.Parameter.{Parameter}
use Rattle.ba_model.specs.declared.query.Atom.{Atom}
use Rattle.ba_model.specs.declared.schema.Kind.{Kind}
use Rattle.ba_model.specs.declared.schema.Kind.TheVariants.{Int as IntKind, Text as TextKind}
use Rattle.ba_model.specs.declared.value.Value.{Value}
use Rattle.ba_model.specs.declared.value.Value.TheVariants as value
use Rattle.ba_kernel.specs.Problems.{param_is}
use Rattle.ba_script.specs.Contexts.{are_declared, context_of, context_with, given_for, is_declared, is_named, of_kind, value_for, values_for, with_rest}
use Rattle.ba_script.specs.Script.{given_from, given_members, given_of}
use Rattle.ba_sql_print.specs.Printed.{param_name}
use Rattle.ba_proof.proofs.PutLemmas.{declared_put, differs_back, given_put, text_itself}
use Rattle.ba_proof.specs.ReadBack.{ValueSpells}
use Rattle.ba_proof.specs.Written.{value_json, with_context}

-- ---- values

int_reads : (n : ℕ) (b : Bool) → b ≡ true → of_kind IntKind (given_from None (cond b (Some (pos n)) None)) ≡ Some (value.Int (pos n))
int_reads n true e = refl
int_reads n false e = cc e

pub value_reads : (k : Kind) (v : Value) → IsOfKind k v → ValueSpells v → of_kind k (given_of (value_json v)) ≡ Some v
value_reads IntKind value.Null h s = absurd h
value_reads TextKind value.Null h s = absurd h
value_reads IntKind (value.Int (pos n)) h s = int_reads n (nat_lt n (2 ^ 63)) s
value_reads IntKind (value.Int (negsuc n)) h s = refl
value_reads TextKind (value.Int n) h s = absurd h
value_reads IntKind (value.Text t) h s = absurd h
value_reads TextKind (value.Text t) h s = refl

-- ---- names

there : {X : Type 0} (xs ys : List X) (x : X) (n : ℕ) → n ≡ length xs → slice_get (xs ++ x ∷ ys) n ≡ Some x
there [] ys x n e = ap (λ m. slice_get (x ∷ ys) m) e
there (y ∷ xs) ys x n e = ap (λ m. slice_get (y ∷ (xs ++ x ∷ ys)) m) e ∙ there xs ys x (length xs) refl

pub name_there : (params : List Parameter) (n : ℕ) (p : Parameter) → slice_get params n ≡ Some p → param_name params n ≡ p.name
unfolding param_name
name_there params n p e = rw e refl

pub longer : {X : Type 0} (xs : List X) (x : X) (n : ℕ) → n ≡ length xs → n + 1 ≡ length (xs ++ x ∷ [])
longer xs x n e = let both = length-append xs (x ∷ []) in omega (arith, e, both)

abbrev pub atoms_from : ℕ → List Value → List Atom
atoms_from n vs = map param_is (zip (range_with_len n (length vs)) vs)

-- the members that stand when the value of one parameter was put
abbrev with_one : List Parameter → ℕ → Value → Members → Members
with_one params n v ms = with_context params (atoms_from n (v ∷ [])) ms

put_other : (params : List Parameter) (n : ℕ) (p : Parameter) (v : Value) (ms : Members) (name : List ℕ) → slice_get params n ≡ Some p → bytes_eq p.name name ≡ false
    → given_for name (given_members (with_one params n v ms)) ≡ given_for name (given_members ms)
put_other params n p v ms name at other =
    given_put (param_name params n) (value_json v) ms name
    ∙ ap (λ k. cond (bytes_eq k name) (Some (given_of (value_json v))) (given_for name (given_members ms))) (name_there params n p at)
    ∙ ap (λ b. cond b (Some (given_of (value_json v))) (given_for name (given_members ms))) other

put_own : (params : List Parameter) (n : ℕ) (p : Parameter) (v : Value) (ms : Members) → slice_get params n ≡ Some p
    → given_for p.name (given_members (with_one params n v ms)) ≡ Some (given_of (value_json v))
put_own params n p v ms at =
    given_put (param_name params n) (value_json v) ms p.name
    ∙ ap (λ k. cond (bytes_eq k p.name) (Some (given_of (value_json v))) (given_for p.name (given_members ms))) (name_there params n p at)
    ∙ ap (λ b. cond b (Some (given_of (value_json v))) (given_for p.name (given_members ms))) (text_itself p.name)

-- other parameters' values leave what a name is given
kept : (params front ps : List Parameter) (vs : List Value) (n : ℕ) (ms : Members) (name : List ℕ) → params ≡ front ++ ps → n ≡ length front
    → AllByRecursion (λ other. bytes_eq name other ≡ false) (map (λ p. p.name) ps) → length vs ≤ length ps
    → given_for name (given_members (with_context params (atoms_from n vs) ms)) ≡ given_for name (given_members ms)
kept params front ps [] n ms name is at others few = refl
kept params front [] (v ∷ vs) n ms name is at others few = absurd (omega (arith, few))
kept params front (p ∷ ps) (v ∷ vs) n ms name is at others few =
    let here : slice_get params n ≡ Some p = ap (λ all. slice_get all n) is ∙ there front ps p n at in
    kept params (front ++ p ∷ []) ps vs (n + 1) (with_one params n v ms) name (is ∙ sym (append_assoc front (p ∷ []) ps)) (longer front p n at) others.1 (omega (arith, few))
    ∙ put_other params n p v ms name here (differs_back name p.name others.0)

abbrev pub Reads : Parameter → Value → Type 0
Reads p v = of_kind p.kind (given_of (value_json v)) ≡ Some v

zip_long : (ps : List Parameter) (vs : List Value) → AllZip Reads ps vs → length vs ≤ length ps
zip_long [] [] h = omega arith
zip_long [] (v ∷ vs) h = absurd h
zip_long (p ∷ ps) [] h = omega arith
zip_long (p ∷ ps) (v ∷ vs) h = let rest = zip_long ps vs h.1 in omega (arith, rest)

found : (params front ps : List Parameter) (vs : List Value) (n : ℕ) (ms : Members) → params ≡ front ++ ps → n ≡ length front → AreDistinct (map (λ p. p.name) ps)
    → AllZip Reads ps vs → values_for (given_members (with_context params (atoms_from n vs) ms)) ps ≡ Some vs
unfolding IsDistinct
found params front [] [] n ms is at apart reads = refl
found params front [] (v ∷ vs) n ms is at apart reads = absurd reads
found params front (p ∷ ps) [] n ms is at apart reads = absurd reads
found params front (p ∷ ps) (v ∷ vs) n ms is at apart reads =
    let here : slice_get params n ≡ Some p = ap (λ all. slice_get all n) is ∙ there front ps p n at in
    let is2 = is ∙ sym (append_assoc front (p ∷ []) ps) in
    let at2 = longer front p n at in
    let given = kept params (front ++ p ∷ []) ps vs (n + 1) (with_one params n v ms) p.name is2 at2 apart.0 (zip_long ps vs reads.1) ∙ put_own params n p v ms here in
    let first : value_for (given_members (with_context params (atoms_from (n + 1) vs) (with_one params n v ms))) p ≡ Some v = ap (option_and_then (of_kind p.kind)) given ∙ reads.0 in
    let rest = found params (front ++ p ∷ []) ps vs (n + 1) (with_one params n v ms) is2 at2 apart.1 reads.1 in
    ap (λ o. with_rest o (values_for (given_members (with_context params (atoms_from (n + 1) vs) (with_one params n v ms))) ps)) first ∙ ap (with_rest (Some v)) rest

-- ---- no other names

named_there : (params : List Parameter) (n : ℕ) (p : Parameter) → slice_get params n ≡ Some p → list_any (is_named p.name) params ≡ true
named_there [] n p e = cc e
named_there (q ∷ ps) zero p e = let same : q ≡ p = cc e in rw (ap (λ (x : Parameter). bytes_eq x.name p.name) same ∙ text_itself p.name) refl
named_there (q ∷ ps) (suc n) p e = or_true (is_named p.name q) _ (named_there ps n p e)
  where
    or_true : (a b : Bool) → b ≡ true → (a || b) ≡ true
    or_true true b e = refl
    or_true false b e = e

declared : (params front ps : List Parameter) (vs : List Value) (n : ℕ) (ms : Members) → params ≡ front ++ ps → n ≡ length front → length vs ≤ length ps
    → are_declared params (given_members ms) ≡ true → are_declared params (given_members (with_context params (atoms_from n vs) ms)) ≡ true
unfolding is_declared
declared params front ps [] n ms is at few before = before
declared params front [] (v ∷ vs) n ms is at few before = absurd (omega (arith, few))
declared params front (p ∷ ps) (v ∷ vs) n ms is at few before =
    let here : slice_get params n ≡ Some p = ap (λ all. slice_get all n) is ∙ there front ps p n at in
    let name : list_any (is_named (param_name params n)) params ≡ true = ap (λ k. list_any (is_named k) params) (name_there params n p here) ∙ named_there params n p here in
    declared params (front ++ p ∷ []) ps vs (n + 1) (with_one params n v ms) (is ∙ sym (append_assoc front (p ∷ []) ps)) (longer front p n at) (omega (arith, few))
    (declared_put params (param_name params n) (value_json v) ms name before)

all_read : (params : List Parameter) (vs : List Value) → AllZip IsOfKind (kinds_of params) vs → AllByRecursion ValueSpells vs → AllZip Reads params vs
all_read [] [] h s = tt
all_read [] (v ∷ vs) h s = absurd h
all_read (p ∷ ps) [] h s = absurd h
all_read (p ∷ ps) (v ∷ vs) h s = (value_reads p.kind v h.0 s.0, all_read ps vs h.1 s.1)

pub context_reads : (params : List Parameter) (vs : List Value) → AreDistinct (map (λ p. p.name) params) → AllZip IsOfKind (kinds_of params) vs → AllByRecursion ValueSpells vs
    → context_of params (given_members (with_context params (atoms_from 0 vs) no_members)) ≡ Some (context_with vs)
unfolding context_of
context_reads params vs apart kinds spells =
    let reads = all_read params vs kinds spells in
    let all : values_for (given_members (with_context params (atoms_from 0 vs) no_members)) params ≡ Some vs = found params [] params vs 0 no_members refl refl apart reads in
    let no_other : are_declared params (given_members (with_context params (atoms_from 0 vs) no_members)) ≡ true =
    declared params [] params vs 0 no_members refl refl (zip_long params vs reads) refl in
    rw (no_other, all) refl
