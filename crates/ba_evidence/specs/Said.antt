-- What the lines of a decision service say that tell their evidence.
use Rattle.std.specs.Prelude.{◌≡◌, ℕ, List, codes, map}
use Rattle.serde_json.specs.Data.{Data, string, object, no_members, member}
use Rattle.serde_json.specs.View.{view}
use Rattle.ba_model.specs.declared.policy.Parameter.{Parameter}
use Rattle.ba_model.specs.declared.schema.Schema.{Schema}
use Rattle.ba_proof.specs.Written.{list_json}
use Rattle.ba_refute.specs.declared.clause.Counterexample.{Counterexample}
use Rattle.ba_wire.specs.Printed.{by_name as called, count}
use Rattle.ba_wire.specs.declared.line.By.{By}
use Rattle.ba_evidence.specs.Evidence.{Evidence, by_name, evidence, evidence_json, pair_json}
use Rattle.ba_evidence.specs.declared.said.Grounds.{Grounds}
use Rattle.ba_evidence.specs.declared.said.Grounds.TheVariants as its
use Rattle.ba_evidence.specs.declared.said_reads.ReadGrounds.{ReadGrounds}

-- ---- questions

-- on what an allowed question rests: as a whole, or part by part
pub data Basis : Type 0 where
  whole : Evidence → Basis
  parts : List Evidence → Basis

abbrev pub basis : Grounds → Basis
basis (its.Whole it) = whole (evidence it.now)
basis (its.Parts list) = parts (map evidence list.now)

-- a part's ground: its name, and what it is
unfoldable pub part_ground_json : List Parameter → Evidence → Data
part_ground_json params it =
    object (member (codes "by") (string (by_name it))
    (member (codes "proof") (evidence_json params it) no_members))

abbrev pub basis_json : List Parameter → Basis → Data
basis_json params (whole it) = evidence_json params it
basis_json params (parts list) = list_json (map (part_ground_json params) list)

-- the object of an allowed question: what it rests on stands under `proof`
unfoldable pub allowed_json : List Parameter → By → Basis → ℕ → List ℕ → List ℕ → Data
allowed_json params by it line request send =
    object (member (codes "allowed") (string (called by))
    (member (codes "line") (count line)
    (member (codes "proof") (basis_json params it)
    (member (codes "request") (string request)
    (member (codes "send") (string send) no_members)))))

-- the same of what rests on the weaker rows, which it says
unfoldable pub weaker_json : List Parameter → By → Basis → ℕ → List ℕ → List ℕ → Data
weaker_json params by it line request send =
    object (member (codes "allowed") (string (called by))
    (member (codes "line") (count line)
    (member (codes "proof") (basis_json params it)
    (member (codes "request") (string request)
    (member (codes "rows") (string (codes "weaker"))
    (member (codes "send") (string send) no_members))))))

-- the object of a refuted question: the pair stands under `pair`
unfoldable pub pair_said_json : Schema → Counterexample → ℕ → List ℕ → Data
pair_said_json schema pair line request =
    object (member (codes "blocked") (string (codes "refuted"))
    (member (codes "line") (count line)
    (member (codes "pair") (pair_json schema pair)
    (member (codes "request") (string request) no_members))))

-- ---- reads of cache keys

-- on what a query of a key rests, and what that is called
pub record Based : Type 0 where
  pub by : By
  pub on : Basis

abbrev pub based_name : Based → Data
based_name it = string (called it.by)

abbrev pub based_json : List Parameter → Based → Data
based_json params it = basis_json params it.on

-- These are told, with the policy's parameters: what each is called, and what it is.
pub record TellsBased (params : List Parameter) (list : List Based) (it : ReadGrounds)
    : Type 0 where
  pub names : map view it.names.items ≡ map based_name list
  pub proofs : map view it.proofs.items ≡ map (based_json params) list

-- the object of an allowed read: what each of the key's queries rests on stands under `proof`
unfoldable pub read_said_json : List Parameter → List Based → List ℕ → ℕ → List ℕ → Data
read_said_json params list key line request =
    object (member (codes "allowed") (list_json (map based_name list))
    (member (codes "key") (string key)
    (member (codes "line") (count line)
    (member (codes "proof") (list_json (map (based_json params) list))
    (member (codes "read") (string request) no_members)))))

-- the same of what is told
unfoldable pub told_read_json : ReadGrounds → List ℕ → ℕ → List ℕ → Data
told_read_json it key line request =
    object (member (codes "allowed") (list_json (map view it.names.items))
    (member (codes "key") (string key)
    (member (codes "line") (count line)
    (member (codes "proof") (list_json (map view it.proofs.items))
    (member (codes "read") (string request) no_members)))))

-- the object of a read of which the query of this number is refuted
unfoldable pub pair_read_json : Schema → Counterexample → List ℕ → ℕ → ℕ → List ℕ → Data
pair_read_json schema pair key line query request =
    object (member (codes "blocked") (string (codes "refuted"))
    (member (codes "key") (string key)
    (member (codes "line") (count line)
    (member (codes "pair") (pair_json schema pair)
    (member (codes "query") (count query)
    (member (codes "read") (string request) no_members))))))
