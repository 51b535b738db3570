-- What lines with evidence say: compact JSON, its keys in byte order.
use Rattle.std.specs.Prelude.{All, List, [], codes, map, ℕ, ◌∷◌, ◌≡◌}
use Rattle.serde_json.specs.Data.{Data, Members, string, object, no_members, member, put}
use Rattle.serde_json.specs.View.{view}
use Rattle.ba_model.specs.declared.policy.Parameter.{Parameter}
use Rattle.ba_model.specs.declared.schema.Schema.{Schema}
use Rattle.ba_model.specs.declared.schema.Table.{Table}
use Rattle.ba_model.specs.declared.value.RowSet.{RowSet}
use Rattle.ba_model.specs.declared.value.Value.{Value}
use Rattle.ba_direct.specs.declared.covers.Cover.{Cover}
use Rattle.ba_direct.specs.declared.covers.PartCover.{PartCover}
use Rattle.ba_kernel.specs.declared.step.Step.{Step}
use Rattle.ba_proof.specs.ReadBack.{StepHasBits, ValueSpells}
use Rattle.ba_proof.specs.Written.{list_json, step_json}
use Rattle.ba_refute.specs.declared.clause.Counterexample.{Counterexample}
use Rattle.ba_wire.specs.Printed.{count, row_json, rows_json}
use Rattle.ba_evidence.specs.declared.answer.Ground.{Ground}
use Rattle.ba_evidence.specs.declared.reads.Rests.{Rests}
use Rattle.ba_evidence.specs.declared.answer.Ground.TheVariants as ground

-- ---- answers

-- What an answer rests on, apart from where that lies in memory.
pub data Evidence : Type 0 where
  -- for each part of the question a view that covers it
  covered : Cover → Evidence
  -- the instance of a template: steps that close the question's problem
  matched : List Step → Evidence
  -- steps that were found for the question, and close its problem
  proved : List Step → Evidence

abbrev pub evidence : Ground → Evidence
evidence (ground.Cover cover) = covered cover.now
evidence (ground.Template steps) = matched steps.now
evidence (ground.Proof steps) = proved steps.now

abbrev pub by_name : Evidence → List ℕ
by_name (covered cover) = codes "cover"
by_name (matched steps) = codes "template"
by_name (proved steps) = codes "proof"

-- the number of the view that covers a part, and for each of the view's tables its place in the part
unfoldable pub part_json : PartCover → Data
part_json it =
    object (member (codes "pairing") (list_json (map count it.places))
    (member (codes "view") (count it.view) no_members))

-- steps stand as in a proof file: they have no variables
abbrev pub evidence_json : List Parameter → Evidence → Data
evidence_json params (covered cover) = list_json (map part_json cover.parts)
evidence_json params (matched steps) = list_json (map (step_json params 0) steps)
evidence_json params (proved steps) = list_json (map (step_json params 0) steps)

-- the object of an answer: what it rests on stands under `proof`
unfoldable pub answer_json : List Parameter → Evidence → ℕ → List ℕ → List (List Value) → ℕ → Data
answer_json params it line request rows version =
    object (member (codes "by") (string (by_name it))
    (member (codes "line") (count line)
    (member (codes "proof") (evidence_json params it)
    (member (codes "request") (string request)
    (member (codes "rows") (rows_json rows)
    (member (codes "version") (count version) no_members))))))

-- the numbers of its steps have their bits
abbrev pub EvidenceHasBits : Evidence → Type 0
EvidenceHasBits (covered cover) = Unit {0}
EvidenceHasBits (matched steps) = All StepHasBits steps
EvidenceHasBits (proved steps) = All StepHasBits steps

-- the numbers of an answer's rows, and of the steps that it rests on, have their bits
pub record AnswerHasBits (it : Evidence) (rows : List (List Value)) : Type 0 where
  pub rows_have : All (All ValueSpells) rows
  pub evidence_has : EvidenceHasBits it

-- ---- reads of cache keys

-- what a ground is called
abbrev pub name_json : Evidence → Data
name_json it = string (by_name it)

-- These grounds are told, with the policy's parameters: what each is called, and what it is.
pub record TellsGrounds (params : List Parameter) (grounds : List Evidence) (it : Rests) : Type 0 where
  pub names : map view it.names.items ≡ map name_json grounds
  pub proofs : map view it.proofs.items ≡ map (evidence_json params) grounds

-- the object of a read that is allowed: what each of the key's queries rests on stands under `proof`
unfoldable pub read_json : List Parameter → List Evidence → List ℕ → ℕ → List ℕ → ℕ → Data
read_json params grounds key line request version =
    object (member (codes "by") (list_json (map name_json grounds))
    (member (codes "key") (string key)
    (member (codes "line") (count line)
    (member (codes "proof") (list_json (map (evidence_json params) grounds))
    (member (codes "read") (string request)
    (member (codes "version") (count version) no_members))))))

-- the same of what is told
unfoldable pub rests_json : Rests → List ℕ → ℕ → List ℕ → ℕ → Data
rests_json rests key line request version =
    object (member (codes "by") (list_json (map view rests.names.items))
    (member (codes "key") (string key)
    (member (codes "line") (count line)
    (member (codes "proof") (list_json (map view rests.proofs.items))
    (member (codes "read") (string request)
    (member (codes "version") (count version) no_members))))))

-- ---- refuted questions

-- the members, with the rows of each table under its name
abbrev pub with_tables : List Table → List (List (List Value)) → Members → Members
with_tables [] sets ms = ms
with_tables (table ∷ tables) [] ms = ms
with_tables (table ∷ tables) (rows ∷ sets) ms =
    with_tables tables sets (put table.name (rows_json rows) ms)

-- the rows of every table of the schema, in order
abbrev pub database_json : Schema → RowSet → Data
database_json schema d = object (with_tables schema.tables d.tables no_members)

-- the two databases, and the row that the question has in the first and not in the second
unfoldable pub pair_json : Schema → Counterexample → Data
pair_json schema pair =
    object (member (codes "one") (database_json schema pair.one)
    (member (codes "row") (row_json pair.row)
    (member (codes "two") (database_json schema pair.two) no_members)))

-- the object of a refuted question: the pair stands under `pair`
unfoldable pub refuted_json : Schema → Counterexample → ℕ → List ℕ → ℕ → Data
refuted_json schema pair line request version =
    object (member (codes "blocked") (string (codes "refuted"))
    (member (codes "line") (count line)
    (member (codes "pair") (pair_json schema pair)
    (member (codes "request") (string request)
    (member (codes "version") (count version) no_members)))))

-- the object of a read of which the query of this number is refuted
unfoldable pub refuted_read_json : Schema → Counterexample → List ℕ → ℕ → ℕ → List ℕ → ℕ → Data
refuted_read_json schema pair key line query request version =
    object (member (codes "blocked") (string (codes "refuted"))
    (member (codes "key") (string key)
    (member (codes "line") (count line)
    (member (codes "pair") (pair_json schema pair)
    (member (codes "query") (count query)
    (member (codes "read") (string request)
    (member (codes "version") (count version) no_members)))))))
