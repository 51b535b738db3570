-- No written proof has a float, and none nests deeper than the reader goes.
use Rattle.std.proofs.Common.{◌≡◌, ℕ, List, [], ◌∷◌, false, true, Bool, ◌||◌, Ordering, Less, Equal, Greater, ◌≤◌, map, Option, Some, None, refl, pos, negsuc, arith, codes, cond, nat_lt}
use Rattle.std.specs.Cmp.Lexicographic.{slice_cmp}
use Rattle.std.specs.Ordering.{nat_cmp, match_ordering}
use Rattle.serde_json.specs.Data.{Data, Members, null, string, no_members, member, put, depth, items_depth, members_depth}
use Rattle.serde_json.specs.Read.{max_depth}
use Rattle.serde_json.specs.View.{items_of}
use Rattle.serde_json.specs.Written.{has_float, items_have_float, members_have_float}
use Rattle.ba_model.specs.declared.policy.Parameter.{Parameter}
use Rattle.ba_model.specs.declared.query.Atom.{Atom}
use Rattle.ba_model.specs.declared.query.Operand.{Operand}
use Rattle.ba_model.specs.declared.schema.Schema.{Schema}
use Rattle.ba_model.specs.declared.value.Value.{Value}
use Rattle.ba_model.specs.declared.value.Value.TheVariants as value
use Rattle.ba_facts.specs.declared.term.Term.{Term}
use Rattle.ba_facts.specs.declared.term.Term.TheVariants as term
use Rattle.ba_kernel.specs.declared.problem.Problem.{Problem}
use Rattle.ba_kernel.specs.declared.problem.ProblemEntry.{ProblemEntry}
use Rattle.ba_kernel.specs.declared.step.Step.{Step}
use Rattle.ba_kernel.specs.declared.step.Step.TheVariants as steps
use Rattle.ba_proof.specs.Written.{atom_json, count, entry_json, list_json, literal_in, literal_json, param_in, proof_json, step_json, term_json, value_json, with_context, with_value}

-- ---- no floats

pub value_whole : (v : Value) → has_float (value_json v) ≡ false
value_whole value.Null = refl
value_whole (value.Int (pos n)) = refl
value_whole (value.Int (negsuc n)) = refl
value_whole (value.Text s) = refl

literal_whole : (o : Option Value) → has_float (literal_json o) ≡ false
literal_whole None = refl
literal_whole (Some v) = value_whole v

row_whole : (row : List Operand) → items_have_float (items_of (map (λ it. literal_json (literal_in it)) row)) ≡ false
row_whole [] = refl
row_whole (x ∷ row) = rw (literal_whole (literal_in x)) (row_whole row)

counts_whole : (ns : List ℕ) → items_have_float (items_of (map count ns)) ≡ false
counts_whole [] = refl
counts_whole (n ∷ ns) = counts_whole ns

var_whole : (n : ℕ) (b : Bool) → has_float (cond b (list_json (string (codes "v") ∷ count n ∷ [])) null) ≡ false
var_whole n true = refl
var_whole n false = refl

term_whole : (params : List Parameter) (vars : ℕ) (t : Term) → has_float (term_json params vars t) ≡ false
term_whole params vars (term.Unknown n) = refl
term_whole params vars (term.Val v) = value_whole v
term_whole params vars (term.Param n) = refl
term_whole params vars (term.Var n) = var_whole n (nat_lt n vars)

step_whole : (params : List Parameter) (vars : ℕ) (step : Step) → has_float (step_json params vars step) ≡ false
unfolding step_json atom_json
step_whole params vars (steps.Entry branch entry) = refl
step_whole params vars (steps.Key branch key left right) = refl
step_whole params vars (steps.Link branch link fact) = refl
step_whole params vars (steps.Rule branch rule part facts) = rw (counts_whole facts) refl
step_whole params vars (steps.View branch view part facts) = rw (counts_whole facts) refl
step_whole params vars (steps.Split branch atom) = rw (term_whole params vars atom.left, term_whole params vars atom.right) refl
step_whole params vars (steps.Absurd branch) = refl
step_whole params vars (steps.Goal branch part facts) = rw (counts_whole facts) refl

pub steps_whole : (params : List Parameter) (vars : ℕ) (all : List Step) → items_have_float (items_of (map (step_json params vars) all)) ≡ false
steps_whole params vars [] = refl
steps_whole params vars (step ∷ all) = rw (step_whole params vars step) (steps_whole params vars all)

entry_whole : (schema : Schema) (params : List Parameter) (e : ProblemEntry) → has_float (entry_json schema params e) ≡ false
unfolding entry_json
entry_whole schema params e = rw (row_whole e.row) refl

entries_whole : (schema : Schema) (params : List Parameter) (es : List ProblemEntry) → items_have_float (items_of (map (entry_json schema params) es)) ≡ false
entries_whole schema params [] = refl
entries_whole schema params (e ∷ es) = rw (entry_whole schema params e) (entries_whole schema params es)

neither : (a b : Bool) → (a || b) ≡ false → (a ≡ false) × (b ≡ false)
neither true b e = cc e
neither false b e = (refl, e)

put_whole : (k : List ℕ) (d : Data) (ms : Members) → has_float d ≡ false → members_have_float ms ≡ false → members_have_float (put k d ms) ≡ false
put_whole k d no_members this rest = rw this refl
put_whole k d (member l e ms) this rest = by (slice_cmp nat_cmp k l) (put_whole k d ms this (neither (has_float e) (members_have_float ms) rest).1)
  where
    old : (has_float e ≡ false) × (members_have_float ms ≡ false)
    old = neither (has_float e) (members_have_float ms) rest

    by : (o : Ordering) → members_have_float (put k d ms) ≡ false → members_have_float (match_ordering o (member k d (member l e ms)) (member l d ms) (member l e (put k d ms))) ≡ false
    by Less more = rw this rest
    by Equal more = rw this old.1
    by Greater more = rw old.0 more

value_put : (params : List Parameter) (n : Option ℕ) (v : Option Value) (ms : Members) → members_have_float ms ≡ false → members_have_float (with_value params n v ms) ≡ false
value_put params None v ms h = h
value_put params (Some n) None ms h = h
value_put params (Some n) (Some v) ms h = put_whole _ (value_json v) ms (value_whole v) h

context_whole : (params : List Parameter) (atoms : List Atom) (ms : Members) → members_have_float ms ≡ false → members_have_float (with_context params atoms ms) ≡ false
context_whole params [] ms h = h
context_whole params (atom ∷ atoms) ms h = context_whole params atoms _ (value_put params (param_in atom.left) (literal_in atom.right) ms h)

pub proof_whole : (p : Problem) (all : List Step) → has_float (proof_json p all) ≡ false
unfolding proof_json
proof_whole p all =
    rw (context_whole p.policy.params p.assumed no_members refl, entries_whole p.policy.schema p.policy.params p.entries, steps_whole p.policy.params 0 all) refl

-- ---- how deep

pub value_flat : (v : Value) → depth (value_json v) ≤ 0
value_flat value.Null = omega arith
value_flat (value.Int n) = omega arith
value_flat (value.Text s) = omega arith

literal_flat : (o : Option Value) → depth (literal_json o) ≤ 0
literal_flat None = omega arith
literal_flat (Some v) = value_flat v

row_flat : (row : List Operand) → items_depth (items_of (map (λ it. literal_json (literal_in it)) row)) ≤ 0
row_flat [] = omega arith
row_flat (x ∷ row) = let first = literal_flat (literal_in x) in let rest = row_flat row in omega arith

counts_flat : (ns : List ℕ) → items_depth (items_of (map count ns)) ≤ 0
counts_flat [] = omega arith
counts_flat (n ∷ ns) = let rest = counts_flat ns in omega arith

var_flat : (n : ℕ) (b : Bool) → depth (cond b (list_json (string (codes "v") ∷ count n ∷ [])) null) ≤ 1
var_flat n true = omega arith
var_flat n false = omega arith

term_flat : (params : List Parameter) (vars : ℕ) (t : Term) → depth (term_json params vars t) ≤ 1
term_flat params vars (term.Unknown n) = omega arith
term_flat params vars (term.Val v) = let flat = value_flat v in omega arith
term_flat params vars (term.Param n) = omega arith
term_flat params vars (term.Var n) = var_flat n (nat_lt n vars)

step_flat : (params : List Parameter) (vars : ℕ) (step : Step) → depth (step_json params vars step) ≤ 3
unfolding step_json atom_json
step_flat params vars (steps.Entry branch entry) = omega arith
step_flat params vars (steps.Key branch key left right) = omega arith
step_flat params vars (steps.Link branch link fact) = omega arith
step_flat params vars (steps.Rule branch rule part facts) = let flat = counts_flat facts in omega arith
step_flat params vars (steps.View branch view part facts) = let flat = counts_flat facts in omega arith
step_flat params vars (steps.Split branch atom) = let left = term_flat params vars atom.left in let right = term_flat params vars atom.right in omega arith
step_flat params vars (steps.Absurd branch) = omega arith
step_flat params vars (steps.Goal branch part facts) = let flat = counts_flat facts in omega arith

pub steps_flat : (params : List Parameter) (vars : ℕ) (all : List Step) → items_depth (items_of (map (step_json params vars) all)) ≤ 3
steps_flat params vars [] = omega arith
steps_flat params vars (step ∷ all) = let first = step_flat params vars step in let rest = steps_flat params vars all in omega arith

entry_flat : (schema : Schema) (params : List Parameter) (e : ProblemEntry) → depth (entry_json schema params e) ≤ 2
unfolding entry_json
entry_flat schema params e = let flat = row_flat e.row in omega arith

entries_flat : (schema : Schema) (params : List Parameter) (es : List ProblemEntry) → items_depth (items_of (map (entry_json schema params) es)) ≤ 2
entries_flat schema params [] = omega arith
entries_flat schema params (e ∷ es) = let first = entry_flat schema params e in let rest = entries_flat schema params es in omega arith

put_flat : (k : List ℕ) (d : Data) (ms : Members) → depth d ≤ 0 → members_depth ms ≤ 0 → members_depth (put k d ms) ≤ 0
put_flat k d no_members this rest = omega arith
put_flat k d (member l e ms) this rest = by (slice_cmp nat_cmp k l) (put_flat k d ms this (omega (arith, rest)))
  where
    by : (o : Ordering) → members_depth (put k d ms) ≤ 0 → members_depth (match_ordering o (member k d (member l e ms)) (member l d ms) (member l e (put k d ms))) ≤ 0
    by Less more = omega arith
    by Equal more = omega arith
    by Greater more = omega arith

value_shallow : (params : List Parameter) (n : Option ℕ) (v : Option Value) (ms : Members) → members_depth ms ≤ 0 → members_depth (with_value params n v ms) ≤ 0
value_shallow params None v ms h = h
value_shallow params (Some n) None ms h = h
value_shallow params (Some n) (Some v) ms h = put_flat _ (value_json v) ms (value_flat v) h

context_flat : (params : List Parameter) (atoms : List Atom) (ms : Members) → members_depth ms ≤ 0 → members_depth (with_context params atoms ms) ≤ 0
context_flat params [] ms h = h
context_flat params (atom ∷ atoms) ms h = context_flat params atoms _ (value_shallow params (param_in atom.left) (literal_in atom.right) ms h)

pub proof_shallow : (p : Problem) (all : List Step) → depth (proof_json p all) ≤ max_depth
unfolding proof_json
proof_shallow p all =
    let context = context_flat p.policy.params p.assumed no_members (omega arith) in
    let entries = entries_flat p.policy.schema p.policy.params p.entries in
    let steps = steps_flat p.policy.params 0 all in
    omega arith
