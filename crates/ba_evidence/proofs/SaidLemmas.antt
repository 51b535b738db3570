-- No line of a decision service with evidence has a float, and none nests deeper than a reader goes.
use Rattle.std.proofs.Common.{◌≡◌, ℕ, List, false, ◌≤◌, refl, arith}
use Rattle.serde_json.specs.Data.{depth}
use Rattle.serde_json.specs.Read.{max_depth}
use Rattle.serde_json.specs.Written.{has_float}
use Rattle.ba_model.specs.declared.policy.Parameter.{Parameter}
use Rattle.ba_model.specs.declared.schema.Schema.{Schema}
use Rattle.ba_refute.specs.declared.clause.Counterexample.{Counterexample}
use Rattle.ba_wire.specs.declared.line.By.{By}
use Rattle.ba_evidence.proofs.JsonLemmas.{all_flat, all_whole, evidence_flat, evidence_whole, pair_flat, pair_whole}
use Rattle.ba_evidence.specs.Evidence.{Evidence}
use Rattle.ba_evidence.specs.Said.{Based, Basis, TellsBased, allowed_json, based_json, based_name, basis_json, pair_read_json, pair_said_json, part_ground_json, parts, read_said_json, told_read_json, weaker_json, whole}
use Rattle.ba_evidence.specs.declared.said_reads.ReadGrounds.{ReadGrounds}

-- ---- no floats

part_whole : (params : List Parameter) (it : Evidence) → has_float (part_ground_json params it) ≡ false
unfolding part_ground_json
part_whole params it = rw (evidence_whole params it) refl

basis_whole : (params : List Parameter) (it : Basis) → has_float (basis_json params it) ≡ false
basis_whole params (whole it) = evidence_whole params it
basis_whole params (parts list) = all_whole (part_ground_json params) (part_whole params) list

pub allowed_whole : (params : List Parameter) (by : By) (it : Basis) (line : ℕ) (request send : List ℕ)
    → has_float (allowed_json params by it line request send) ≡ false
unfolding allowed_json
allowed_whole params by it line request send = rw (basis_whole params it) refl

pub weaker_whole : (params : List Parameter) (by : By) (it : Basis) (line : ℕ) (request send : List ℕ)
    → has_float (weaker_json params by it line request send) ≡ false
unfolding weaker_json
weaker_whole params by it line request send = rw (basis_whole params it) refl

pub pair_said_whole : (schema : Schema) (pair : Counterexample) (line : ℕ) (request : List ℕ) → has_float (pair_said_json schema pair line request) ≡ false
unfolding pair_said_json
pair_said_whole schema pair line request = rw (pair_whole schema pair) refl

pub read_said_whole : (params : List Parameter) (list : List Based) (key : List ℕ) (line : ℕ) (request : List ℕ) → has_float (read_said_json params list key line request) ≡ false
unfolding read_said_json
read_said_whole params list key line request = rw (all_whole based_name (λ it. refl) list, all_whole (based_json params) (λ it. basis_whole params it.on) list) refl

pub pair_read_whole : (schema : Schema) (pair : Counterexample) (key : List ℕ) (line query : ℕ) (request : List ℕ) → has_float (pair_read_json schema pair key line query request) ≡ false
unfolding pair_read_json
pair_read_whole schema pair key line query request = rw (pair_whole schema pair) refl

-- ---- reads

pub told_said : (params : List Parameter) (list : List Based) (it : ReadGrounds) (key : List ℕ) (line : ℕ) (request : List ℕ) → TellsBased params list it
    → told_read_json it key line request ≡ read_said_json params list key line request
unfolding told_read_json read_said_json
told_said params list it key line request h = rw (h.names, h.proofs) refl

-- ---- how deep

part_flat : (params : List Parameter) (it : Evidence) → depth (part_ground_json params it) ≤ 5
unfolding part_ground_json
part_flat params it = let flat = evidence_flat params it in omega arith

basis_flat : (params : List Parameter) (it : Basis) → depth (basis_json params it) ≤ 6
basis_flat params (whole it) = let flat = evidence_flat params it in omega arith
basis_flat params (parts list) = let flat = all_flat (part_ground_json params) 5 (part_flat params) list in omega arith

pub allowed_flat : (params : List Parameter) (by : By) (it : Basis) (line : ℕ) (request send : List ℕ)
    → depth (allowed_json params by it line request send) ≤ max_depth
unfolding allowed_json
allowed_flat params by it line request send = let flat = basis_flat params it in omega arith

pub weaker_flat : (params : List Parameter) (by : By) (it : Basis) (line : ℕ) (request send : List ℕ)
    → depth (weaker_json params by it line request send) ≤ max_depth
unfolding weaker_json
weaker_flat params by it line request send = let flat = basis_flat params it in omega arith

pub pair_said_flat : (schema : Schema) (pair : Counterexample) (line : ℕ) (request : List ℕ) → depth (pair_said_json schema pair line request) ≤ max_depth
unfolding pair_said_json
pair_said_flat schema pair line request = let flat = pair_flat schema pair in omega arith

pub read_said_flat : (params : List Parameter) (list : List Based) (key : List ℕ) (line : ℕ) (request : List ℕ) → depth (read_said_json params list key line request) ≤ max_depth
unfolding read_said_json
read_said_flat params list key line request =
    let names = all_flat based_name 0 (λ it. omega arith) list in
    let proofs = all_flat (based_json params) 6 (λ it. basis_flat params it.on) list in
    omega arith

pub pair_read_flat : (schema : Schema) (pair : Counterexample) (key : List ℕ) (line query : ℕ) (request : List ℕ) → depth (pair_read_json schema pair key line query request) ≤ max_depth
unfolding pair_read_json
pair_read_flat schema pair key line query request = let flat = pair_flat schema pair in omega arith
