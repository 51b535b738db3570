-- No written template has a float, none nests deeper than the reader goes, and each has one line.
use Rattle.std.proofs.Common.{◌≡◌, ◌∙◌, ℕ, ◌+◌, ◌<◌, ◌≤◌, List, [], ◌∷◌, ◌++◌, false, true, Bool, length, map, refl, pos, negsuc, arith, codes}
use Rattle.serde_json.specs.Data.{Data, Members, no_members, member, depth, items_depth, members_depth}
use Rattle.serde_json.specs.Read.{max_depth}
use Rattle.serde_json.specs.View.{items_of}
use Rattle.serde_json.specs.Written.{has_float, items_have_float, members_have_float}
use Rattle.ba_model.specs.declared.policy.Parameter.{Parameter}
use Rattle.ba_model.specs.declared.query.Atom.{Atom}
use Rattle.ba_model.specs.declared.query.Operand.{Operand}
use Rattle.ba_model.specs.declared.query.Operand.TheVariants.{Col, Val, Param, Var}
use Rattle.ba_model.specs.declared.query.Part.{Part}
use Rattle.ba_model.specs.declared.query.Query.{Query}
use Rattle.ba_model.specs.declared.schema.Kind.{Kind}
use Rattle.ba_model.specs.declared.schema.Schema.{Schema}
use Rattle.ba_kernel.specs.declared.problem.Problem.{Problem}
use Rattle.ba_kernel.specs.declared.problem.ProblemEntry.{ProblemEntry}
use Rattle.ba_kernel.specs.declared.step.Step.{Step}
use Rattle.ba_proof.proofs.JsonLemmas.{steps_flat, steps_whole, value_flat, value_whole}
use Rattle.ba_store.specs.Written.{atom_json, entry_json, kind_json, operand_json, part_json, query_json, table_json, template_json}

-- ---- no floats

-- items of which none has one
all_whole : {X : Type 0} (json : X → Data) → ((x : X) → has_float (json x) ≡ false) → (xs : List X) → items_have_float (items_of (map json xs)) ≡ false
all_whole json one [] = refl
all_whole json one (x ∷ xs) = rw (one x) (all_whole json one xs)

operand_whole : (params : List Parameter) (x : Operand) → has_float (operand_json params x) ≡ false
operand_whole params (Col place column) = refl
operand_whole params (Val v) = value_whole v
operand_whole params (Param n) = refl
operand_whole params (Var n) = refl

atom_whole : (params : List Parameter) (atom : Atom) → has_float (atom_json params atom) ≡ false
unfolding atom_json
atom_whole params atom = rw (operand_whole params atom.left, operand_whole params atom.right) refl

part_whole : (schema : Schema) (params : List Parameter) (part : Part) → has_float (part_json schema params part) ≡ false
unfolding part_json
part_whole schema params part =
    rw (all_whole (atom_json params) (atom_whole params) part.conds, all_whole (table_json schema) (λ t. refl) part.from, all_whole (operand_json params) (operand_whole params) part.head) refl

query_whole : (schema : Schema) (params : List Parameter) (q : Query) → has_float (query_json schema params q) ≡ false
unfolding query_json
query_whole schema params q = rw (all_whole (part_json schema params) (part_whole schema params) q.parts) refl

entry_whole : (schema : Schema) (params : List Parameter) (entry : ProblemEntry) → has_float (entry_json schema params entry) ≡ false
unfolding entry_json
entry_whole schema params entry = rw (query_whole schema params entry.query, all_whole (operand_json params) (operand_whole params) entry.row) refl

pub template_whole : (p : Problem) (all : List Step) → has_float (template_json p all) ≡ false
unfolding template_json
template_whole p all =
    rw (
      all_whole (atom_json p.policy.params) (atom_whole p.policy.params) p.assumed,
      all_whole (entry_json p.policy.schema p.policy.params) (entry_whole p.policy.schema p.policy.params) p.entries,
      query_whole p.policy.schema p.policy.params p.goal,
      steps_whole p.policy.params (length p.vars) all,
      all_whole kind_json (λ k. refl) p.vars,
    ) refl

-- ---- how deep

-- items of which none nests deeper
all_flat : {X : Type 0} (json : X → Data) (most : ℕ) → ((x : X) → depth (json x) ≤ most) → (xs : List X) → items_depth (items_of (map json xs)) ≤ most
all_flat json most one [] = omega arith
all_flat json most one (x ∷ xs) = let first = one x in let rest = all_flat json most one xs in omega arith

operand_flat : (params : List Parameter) (x : Operand) → depth (operand_json params x) ≤ 1
operand_flat params (Col place column) = omega arith
operand_flat params (Val v) = let flat = value_flat v in omega arith
operand_flat params (Param n) = omega arith
operand_flat params (Var n) = omega arith

atom_flat : (params : List Parameter) (atom : Atom) → depth (atom_json params atom) ≤ 2
unfolding atom_json
atom_flat params atom = let left = operand_flat params atom.left in let right = operand_flat params atom.right in omega arith

part_flat : (schema : Schema) (params : List Parameter) (part : Part) → depth (part_json schema params part) ≤ 4
unfolding part_json
part_flat schema params part =
    let conds = all_flat (atom_json params) 2 (atom_flat params) part.conds in
    let from = all_flat (table_json schema) 0 (λ t. omega arith) part.from in
    let head = all_flat (operand_json params) 1 (operand_flat params) part.head in
    omega arith

query_flat : (schema : Schema) (params : List Parameter) (q : Query) → depth (query_json schema params q) ≤ 6
unfolding query_json
query_flat schema params q = let parts = all_flat (part_json schema params) 4 (part_flat schema params) q.parts in omega arith

entry_flat : (schema : Schema) (params : List Parameter) (entry : ProblemEntry) → depth (entry_json schema params entry) ≤ 7
unfolding entry_json
entry_flat schema params entry =
    let query = query_flat schema params entry.query in
    let row = all_flat (operand_json params) 1 (operand_flat params) entry.row in
    omega arith

pub template_shallow : (p : Problem) (all : List Step) → depth (template_json p all) ≤ max_depth
unfolding template_json
template_shallow p all =
    let condition = all_flat (atom_json p.policy.params) 2 (atom_flat p.policy.params) p.assumed in
    let entries = all_flat (entry_json p.policy.schema p.policy.params) 7 (entry_flat p.policy.schema p.policy.params) p.entries in
    let goal = query_flat p.policy.schema p.policy.params p.goal in
    let steps = steps_flat p.policy.params (length p.vars) all in
    let vars = all_flat kind_json 0 (λ k. omega arith) p.vars in
    omega arith
