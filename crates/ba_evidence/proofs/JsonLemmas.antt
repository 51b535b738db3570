-- No line with evidence has a float, and none nests deeper than a reader goes.
use Rattle.std.proofs.Common.{◌≡◌, ℕ, List, [], ◌∷◌, false, true, Bool, ◌||◌, Ordering, Less, Equal, Greater, ◌≤◌, map, refl, pos, negsuc, arith}
use Rattle.std.specs.Cmp.Lexicographic.{slice_cmp}
use Rattle.std.specs.Ordering.{nat_cmp, match_ordering}
use Rattle.serde_json.specs.Data.{Data, Members, no_members, member, put, depth, items_depth, members_depth}
use Rattle.serde_json.specs.Read.{max_depth}
use Rattle.serde_json.specs.View.{items_of}
use Rattle.serde_json.specs.Written.{has_float, items_have_float, members_have_float}
use Rattle.ba_model.specs.declared.policy.Parameter.{Parameter}
use Rattle.ba_model.specs.declared.schema.Schema.{Schema}
use Rattle.ba_model.specs.declared.schema.Table.{Table}
use Rattle.ba_model.specs.declared.value.RowSet.{RowSet}
use Rattle.ba_model.specs.declared.value.Value.{Value}
use Rattle.ba_model.specs.declared.value.Value.TheVariants as value
use Rattle.ba_direct.specs.declared.covers.PartCover.{PartCover}
use Rattle.ba_proof.proofs.JsonLemmas.{steps_flat, steps_whole}
use Rattle.ba_proof.specs.Written.{value_json as proof_value}
use Rattle.ba_refute.specs.declared.clause.Counterexample.{Counterexample}
use Rattle.ba_wire.specs.Printed.{count, row_json, rows_json, value_json}
use Rattle.ba_evidence.specs.Evidence.{Evidence, TellsGrounds, covered, matched, proved, answer_json, database_json, evidence_json, name_json, pair_json, part_json, read_json, refuted_json, refuted_read_json, rests_json, with_tables}
use Rattle.ba_evidence.specs.declared.reads.Rests.{Rests}

-- a value is written as in a proof file
pub same_value : (v : Value) → proof_value v ≡ value_json v
same_value value.Null = refl
same_value (value.Int n) = refl
same_value (value.Text s) = refl

-- ---- no floats

-- items of which none has one
pub all_whole : {X : Type 0} (json : X → Data) → ((x : X) → has_float (json x) ≡ false) → (xs : List X) → items_have_float (items_of (map json xs)) ≡ false
all_whole json one [] = refl
all_whole json one (x ∷ xs) = rw (one x) (all_whole json one xs)

value_whole : (v : Value) → has_float (value_json v) ≡ false
value_whole value.Null = refl
value_whole (value.Int (pos n)) = refl
value_whole (value.Int (negsuc n)) = refl
value_whole (value.Text s) = refl

row_whole : (row : List Value) → has_float (row_json row) ≡ false
row_whole row = all_whole value_json value_whole row

rows_whole : (rows : List (List Value)) → has_float (rows_json rows) ≡ false
rows_whole rows = all_whole row_json row_whole rows

part_whole : (it : PartCover) → has_float (part_json it) ≡ false
unfolding part_json
part_whole it = rw (all_whole count (λ n. refl) it.places) refl

pub evidence_whole : (params : List Parameter) (it : Evidence) → has_float (evidence_json params it) ≡ false
evidence_whole params (covered cover) = all_whole part_json part_whole cover.parts
evidence_whole params (matched steps) = steps_whole params 0 steps
evidence_whole params (proved steps) = steps_whole params 0 steps

pub answer_whole : (params : List Parameter) (it : Evidence) (line : ℕ) (request : List ℕ) (rows : List (List Value)) (version : ℕ)
    → has_float (answer_json params it line request rows version) ≡ false
unfolding answer_json
answer_whole params it line request rows version = rw (evidence_whole params it, rows_whole rows) refl

pub read_whole : (params : List Parameter) (grounds : List Evidence) (key : List ℕ) (line : ℕ) (request : List ℕ) (version : ℕ)
    → has_float (read_json params grounds key line request version) ≡ false
unfolding read_json
read_whole params grounds key line request version = rw (all_whole name_json (λ it. refl) grounds, all_whole (evidence_json params) (evidence_whole params) grounds) refl

neither : (a b : Bool) → (a || b) ≡ false → (a ≡ false) × (b ≡ false)
neither true b e = cc e
neither false b e = (refl, e)

put_whole : (k : List ℕ) (d : Data) (ms : Members) → has_float d ≡ false → members_have_float ms ≡ false → members_have_float (put k d ms) ≡ false
put_whole k d no_members this rest = rw this refl
put_whole k d (member l e ms) this rest = by (slice_cmp nat_cmp k l) (put_whole k d ms this (neither (has_float e) (members_have_float ms) rest).1)
  where
    old : (has_float e ≡ false) × (members_have_float ms ≡ false)
    old = neither (has_float e) (members_have_float ms) rest

    by : (o : Ordering) → members_have_float (put k d ms) ≡ false → members_have_float (match_ordering o (member k d (member l e ms)) (member l d ms) (member l e (put k d ms))) ≡ false
    by Less more = rw this rest
    by Equal more = rw this old.1
    by Greater more = rw old.0 more

tables_whole : (tables : List Table) (sets : List (List (List Value))) (ms : Members) → members_have_float ms ≡ false → members_have_float (with_tables tables sets ms) ≡ false
tables_whole [] sets ms h = h
tables_whole (table ∷ tables) [] ms h = h
tables_whole (table ∷ tables) (rows ∷ sets) ms h = tables_whole tables sets _ (put_whole table.name (rows_json rows) ms (rows_whole rows) h)

database_whole : (schema : Schema) (d : RowSet) → has_float (database_json schema d) ≡ false
database_whole schema d = tables_whole schema.tables d.tables no_members refl

pub pair_whole : (schema : Schema) (pair : Counterexample) → has_float (pair_json schema pair) ≡ false
unfolding pair_json
pair_whole schema pair = rw (database_whole schema pair.one, row_whole pair.row, database_whole schema pair.two) refl

pub refuted_whole : (schema : Schema) (pair : Counterexample) (line : ℕ) (request : List ℕ) (version : ℕ) → has_float (refuted_json schema pair line request version) ≡ false
unfolding refuted_json
refuted_whole schema pair line request version = rw (pair_whole schema pair) refl

pub refuted_read_whole : (schema : Schema) (pair : Counterexample) (key : List ℕ) (line query : ℕ) (request : List ℕ) (version : ℕ)
    → has_float (refuted_read_json schema pair key line query request version) ≡ false
unfolding refuted_read_json
refuted_read_whole schema pair key line query request version = rw (pair_whole schema pair) refl

-- ---- reads

pub told_json : (params : List Parameter) (grounds : List Evidence) (rests : Rests) (key : List ℕ) (line : ℕ) (request : List ℕ) (version : ℕ) → TellsGrounds params grounds rests
    → rests_json rests key line request version ≡ read_json params grounds key line request version
unfolding rests_json read_json
told_json params grounds rests key line request version h = rw (h.names, h.proofs) refl

-- ---- how deep

-- items of which none is deeper
pub all_flat : {X : Type 0} (json : X → Data) (n : ℕ) → ((x : X) → depth (json x) ≤ n) → (xs : List X) → items_depth (items_of (map json xs)) ≤ n
all_flat json n one [] = omega arith
all_flat json n one (x ∷ xs) = let first = one x in let rest = all_flat json n one xs in omega arith

value_flat : (v : Value) → depth (value_json v) ≤ 0
value_flat value.Null = omega arith
value_flat (value.Int n) = omega arith
value_flat (value.Text s) = omega arith

row_flat : (row : List Value) → depth (row_json row) ≤ 1
row_flat row = let flat = all_flat value_json 0 value_flat row in omega arith

rows_flat : (rows : List (List Value)) → depth (rows_json rows) ≤ 2
rows_flat rows = let flat = all_flat row_json 1 row_flat rows in omega arith

part_flat : (it : PartCover) → depth (part_json it) ≤ 2
unfolding part_json
part_flat it = let flat = all_flat count 0 (λ n. omega arith) it.places in omega arith

pub evidence_flat : (params : List Parameter) (it : Evidence) → depth (evidence_json params it) ≤ 4
evidence_flat params (covered cover) = let flat = all_flat part_json 2 part_flat cover.parts in omega arith
evidence_flat params (matched steps) = let flat = steps_flat params 0 steps in omega arith
evidence_flat params (proved steps) = let flat = steps_flat params 0 steps in omega arith

pub answer_flat : (params : List Parameter) (it : Evidence) (line : ℕ) (request : List ℕ) (rows : List (List Value)) (version : ℕ)
    → depth (answer_json params it line request rows version) ≤ max_depth
unfolding answer_json
answer_flat params it line request rows version = let proof = evidence_flat params it in let all = rows_flat rows in omega arith

pub read_flat : (params : List Parameter) (grounds : List Evidence) (key : List ℕ) (line : ℕ) (request : List ℕ) (version : ℕ)
    → depth (read_json params grounds key line request version) ≤ max_depth
unfolding read_json
read_flat params grounds key line request version =
    let names = all_flat name_json 0 (λ it. omega arith) grounds in
    let proofs = all_flat (evidence_json params) 4 (evidence_flat params) grounds in
    omega arith

put_flat : (n : ℕ) (k : List ℕ) (d : Data) (ms : Members) → depth d ≤ n → members_depth ms ≤ n → members_depth (put k d ms) ≤ n
put_flat n k d no_members this rest = omega (arith, this)
put_flat n k d (member l e ms) this rest = by (slice_cmp nat_cmp k l) (put_flat n k d ms this (omega (arith, rest)))
  where
    by : (o : Ordering) → members_depth (put k d ms) ≤ n → members_depth (match_ordering o (member k d (member l e ms)) (member l d ms) (member l e (put k d ms))) ≤ n
    by Less more = omega (arith, this, rest)
    by Equal more = omega (arith, this, rest)
    by Greater more = omega (arith, more, rest)

tables_flat : (tables : List Table) (sets : List (List (List Value))) (ms : Members) → members_depth ms ≤ 2 → members_depth (with_tables tables sets ms) ≤ 2
tables_flat [] sets ms h = h
tables_flat (table ∷ tables) [] ms h = h
tables_flat (table ∷ tables) (rows ∷ sets) ms h = tables_flat tables sets _ (put_flat 2 table.name (rows_json rows) ms (rows_flat rows) h)

database_flat : (schema : Schema) (d : RowSet) → depth (database_json schema d) ≤ 3
database_flat schema d = let flat = tables_flat schema.tables d.tables no_members (omega arith) in omega (arith, flat)

pub pair_flat : (schema : Schema) (pair : Counterexample) → depth (pair_json schema pair) ≤ 4
unfolding pair_json
pair_flat schema pair = let one = database_flat schema pair.one in let row = row_flat pair.row in let two = database_flat schema pair.two in omega arith

pub refuted_flat : (schema : Schema) (pair : Counterexample) (line : ℕ) (request : List ℕ) (version : ℕ) → depth (refuted_json schema pair line request version) ≤ max_depth
unfolding refuted_json
refuted_flat schema pair line request version = let flat = pair_flat schema pair in omega arith

pub refuted_read_flat : (schema : Schema) (pair : Counterexample) (key : List ℕ) (line query : ℕ) (request : List ℕ) (version : ℕ)
    → depth (refuted_read_json schema pair key line query request version) ≤ max_depth
unfolding refuted_read_json
refuted_read_flat schema pair key line query request version = let flat = pair_flat schema pair in omega arith
