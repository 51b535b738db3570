-- What a printed line says, apart from how it is read.
use Rattle.std.specs.Prelude.{◌≡◌, ◌≢◌, ◌↔◌, ℕ, List, [], ◌∷◌, All, codes, length, map, true, Some, None, Ok, Err}
use Rattle.std.specs.List.{AllZip, Any}
use Rattle.serde_json.specs.Data.{Data, Members, boolean, string, object, no_members, member}
use Rattle.ba_direct.specs.declared.covers.PartCover.{PartCover}
use Rattle.ba_kernel.specs.declared.step.Step.{Step}
use Rattle.ba_model.specs.declared.policy.Parameter.{Parameter}
use Rattle.ba_model.specs.declared.policy.Policy.{Policy}
use Rattle.ba_model.specs.declared.schema.Table.{Table}
use Rattle.ba_model.specs.declared.value.RowSet.{RowSet}
use Rattle.ba_model.specs.declared.value.Value.{Value}
use Rattle.ba_proof.specs.Says.{HasField, SaysEach, SaysLong, SaysStep, SaysValue}
use Rattle.ba_proof.specs.Written.{list_json}
use Rattle.ba_proof.specs.declared.version.TheConstants.{LAST_VERSION}
use Rattle.ba_refute.specs.declared.clause.Clause.{Clause}
use Rattle.ba_refute.specs.declared.clause.Counterexample.{Counterexample}
use Rattle.ba_script.specs.Script.{IsJson}
use Rattle.ba_sql_query.specs.declared.fault.ReadQueryFault.{ReadQueryFault}
use Rattle.ba_wire.specs.Names.{fault_name}
use Rattle.ba_wire.specs.Printed.{by_name, clause_name, names_json, unsupported_in, word_member}
use Rattle.ba_wire.specs.declared.line.By.{By}
use Rattle.ba_wire.specs.declared.line.By.TheVariants as by
use Rattle.ba_wire.specs.declared.summary.Summary.{Summary}
use Rattle.ba_printed.specs.Reading.{printed_of}
use Rattle.ba_printed.specs.declared.line.Evidence.{Evidence}
use Rattle.ba_printed.specs.declared.line.Evidence.TheVariants as evidence
use Rattle.ba_printed.specs.declared.line.LineReason.TheVariants.{Json, Shape}
use Rattle.ba_printed.specs.declared.line.PrintedBlock.{PrintedBlock}
use Rattle.ba_printed.specs.declared.line.PrintedBlock.TheVariants as blocked
use Rattle.ba_printed.specs.declared.line.PrintedLine.{PrintedLine}
use Rattle.ba_printed.specs.declared.line.PrintedLine.TheVariants.{Begin, End, Publish, Answer, Block, Read, ReadBlock, UnevenRead, Unread, Memory, Summary as SummaryLine}

-- ---- rows

-- an array of values, of any number and kinds
abbrev pub SaysRow : Data → List Value → Type 0
SaysRow = SaysEach SaysValue

-- an array of rows
abbrev pub SaysRows : Data → List (List Value) → Type 0
SaysRows = SaysEach SaysRow

-- no member has another name than a table
abbrev pub HasTablesAlone : List Table → Members → Type 0
HasTablesAlone tables no_members = Unit {0}
HasTablesAlone tables (member k d more) = Any (λ (table : Table). table.name ≡ k) tables × HasTablesAlone tables more

-- an object with exactly the names of the tables, each with the table's rows
pub record SaysTables (tables : List Table) (d : Data) (set : RowSet) : Type 0 where
  pub members : Members
  pub is : d ≡ object members
  pub rows : AllZip (λ (table : Table) (rows : List (List Value)). HasField SaysRows table.name d rows) tables set.tables
  pub no_other : HasTablesAlone tables members

-- {"one":{TABLE:[ROW,..],..},"row":ROW,"two":{TABLE:[ROW,..],..}}
pub record SaysPair (tables : List Table) (d : Data) (pair : Counterexample) : Type 0 where
  pub a : Data
  pub b : Data
  pub c : Data
  pub is : d ≡ object (member (codes "one") a (member (codes "row") b (member (codes "two") c no_members)))
  pub one : SaysTables tables a pair.one
  pub row : SaysRow b pair.row
  pub two : SaysTables tables c pair.two

-- ---- evidence

-- {"pairing":[PLACE,..],"view":VIEW}
pub record SaysPart (d : Data) (part : PartCover) : Type 0 where
  pub a : Data
  pub b : Data
  pub is : d ≡ object (member (codes "pairing") a (member (codes "view") b no_members))
  pub places : SaysEach SaysLong a part.places
  pub view : SaysLong b part.view

-- a step as in proof files of the last version, where there are no variables
abbrev pub SaysOwnStep : Policy → Data → Step → Type 0
SaysOwnStep policy d step = SaysStep policy.params 0 LAST_VERSION d step

abbrev pub by_of : Evidence → By
by_of (evidence.Cover cover) = by.Cover
by_of (evidence.Template steps) = by.Template
by_of (evidence.Proof steps) = by.Proof

abbrev pub SaysEvidence : Policy → Data → Evidence → Type 0
SaysEvidence policy d (evidence.Cover cover) = SaysEach SaysPart d cover.parts
SaysEvidence policy d (evidence.Template steps) = SaysEach (SaysOwnStep policy) d steps
SaysEvidence policy d (evidence.Proof steps) = SaysEach (SaysOwnStep policy) d steps

-- ---- lines: each is an object with exactly these keys

pub record SaysBegin (d : Data) (begin : List ℕ) (line version : ℕ) : Type 0 where
  pub a : Data
  pub b : Data
  pub is : d ≡ object (member (codes "begin") (string begin) (member (codes "line") a (member (codes "version") b no_members)))
  pub line_is : SaysLong a line
  pub version_is : SaysLong b version

pub record SaysEnd (d : Data) (end : List ℕ) (line : ℕ) : Type 0 where
  pub a : Data
  pub is : d ≡ object (member (codes "end") (string end) (member (codes "line") a no_members))
  pub line_is : SaysLong a line

pub record SaysPublish (d : Data) (line : ℕ) (publish : List ℕ) (version : ℕ) : Type 0 where
  pub a : Data
  pub b : Data
  pub is : d ≡ object (member (codes "line") a (member (codes "publish") (string publish) (member (codes "version") b no_members)))
  pub line_is : SaysLong a line
  pub version_is : SaysLong b version

pub record SaysAnswer (policy : Policy) (d : Data) (it : Evidence) (line : ℕ) (request : List ℕ) (rows : List (List Value)) (version : ℕ) : Type 0 where
  pub a : Data
  pub b : Data
  pub c : Data
  pub e : Data
  pub is :
      d ≡ object (member (codes "by") (string (by_name (by_of it)))
      (member (codes "line") a
      (member (codes "proof") b
      (member (codes "request") (string request)
      (member (codes "rows") c
      (member (codes "version") e no_members))))))
  pub line_is : SaysLong a line
  pub evidence_is : SaysEvidence policy b it
  pub rows_are : SaysRows c rows
  pub version_is : SaysLong e version

pub record SaysRefuted (policy : Policy) (d : Data) (pair : Counterexample) (line : ℕ) (request : List ℕ) (version : ℕ) : Type 0 where
  pub a : Data
  pub b : Data
  pub c : Data
  pub is :
      d ≡ object (member (codes "blocked") (string (codes "refuted"))
      (member (codes "line") a
      (member (codes "pair") b
      (member (codes "request") (string request)
      (member (codes "version") c no_members)))))
  pub line_is : SaysLong a line
  pub pair_is : SaysPair policy.schema.tables b pair
  pub version_is : SaysLong c version

pub record SaysSpent (d : Data) (steps line : ℕ) (request : List ℕ) (version : ℕ) : Type 0 where
  pub a : Data
  pub b : Data
  pub c : Data
  pub is :
      d ≡ object (member (codes "blocked") (string (codes "spent"))
      (member (codes "line") a
      (member (codes "request") (string request)
      (member (codes "steps") b
      (member (codes "version") c no_members)))))
  pub line_is : SaysLong a line
  pub steps_are : SaysLong b steps
  pub version_is : SaysLong c version

pub record SaysStuck (d : Data) (clause : Clause) (line : ℕ) (request : List ℕ) (version : ℕ) : Type 0 where
  pub a : Data
  pub b : Data
  pub is :
      d ≡ object (member (codes "blocked") (string (codes "stuck"))
      (member (codes "clause") (string (clause_name clause))
      (member (codes "line") a
      (member (codes "request") (string request)
      (member (codes "version") b no_members)))))
  pub line_is : SaysLong a line
  pub version_is : SaysLong b version

abbrev pub SaysBlock : Policy → Data → PrintedBlock → ℕ → List ℕ → ℕ → Type 0
SaysBlock policy d (blocked.Refuted pair) line request version = SaysRefuted policy d pair line request version
SaysBlock policy d (blocked.Spent steps) line request version = SaysSpent d steps line request version
SaysBlock policy d (blocked.Stuck clause) line request version = SaysStuck d clause line request version

-- the names under `by` are those of the evidence that stands under `proof`, place by place
pub record SaysRead (policy : Policy) (d : Data) (its : List Evidence) (key : List ℕ) (line : ℕ) (request : List ℕ) (version : ℕ) : Type 0 where
  pub a : Data
  pub b : Data
  pub c : Data
  pub is :
      d ≡ object (member (codes "by") (names_json (map by_of its))
      (member (codes "key") (string key)
      (member (codes "line") a
      (member (codes "proof") b
      (member (codes "read") (string request)
      (member (codes "version") c no_members))))))
  pub line_is : SaysLong a line
  pub evidence_is : SaysEach (SaysEvidence policy) b its
  pub version_is : SaysLong c version

-- there are more or fewer names than evidence
pub record SaysUneven (policy : Policy) (d : Data) : Type 0 where
  pub bys : List By
  pub its : List Evidence
  pub key : List ℕ
  pub line : ℕ
  pub request : List ℕ
  pub version : ℕ
  pub a : Data
  pub b : Data
  pub c : Data
  pub is :
      d ≡ object (member (codes "by") (names_json bys)
      (member (codes "key") (string key)
      (member (codes "line") a
      (member (codes "proof") b
      (member (codes "read") (string request)
      (member (codes "version") c no_members))))))
  pub uneven : length bys ≢ length its
  pub line_is : SaysLong a line
  pub evidence_is : SaysEach (SaysEvidence policy) b its
  pub version_is : SaysLong c version

pub record SaysRefutedRead (policy : Policy) (d : Data) (pair : Counterexample) (key : List ℕ) (line query : ℕ) (request : List ℕ) (version : ℕ) : Type 0 where
  pub a : Data
  pub b : Data
  pub c : Data
  pub e : Data
  pub is :
      d ≡ object (member (codes "blocked") (string (codes "refuted"))
      (member (codes "key") (string key)
      (member (codes "line") a
      (member (codes "pair") b
      (member (codes "query") c
      (member (codes "read") (string request)
      (member (codes "version") e no_members)))))))
  pub line_is : SaysLong a line
  pub pair_is : SaysPair policy.schema.tables b pair
  pub query_is : SaysLong c query
  pub version_is : SaysLong e version

pub record SaysSpentRead (d : Data) (steps : ℕ) (key : List ℕ) (line query : ℕ) (request : List ℕ) (version : ℕ) : Type 0 where
  pub a : Data
  pub b : Data
  pub c : Data
  pub e : Data
  pub is :
      d ≡ object (member (codes "blocked") (string (codes "spent"))
      (member (codes "key") (string key)
      (member (codes "line") a
      (member (codes "query") b
      (member (codes "read") (string request)
      (member (codes "steps") c
      (member (codes "version") e no_members)))))))
  pub line_is : SaysLong a line
  pub query_is : SaysLong b query
  pub steps_are : SaysLong c steps
  pub version_is : SaysLong e version

pub record SaysStuckRead (d : Data) (clause : Clause) (key : List ℕ) (line query : ℕ) (request : List ℕ) (version : ℕ) : Type 0 where
  pub a : Data
  pub b : Data
  pub c : Data
  pub is :
      d ≡ object (member (codes "blocked") (string (codes "stuck"))
      (member (codes "clause") (string (clause_name clause))
      (member (codes "key") (string key)
      (member (codes "line") a
      (member (codes "query") b
      (member (codes "read") (string request)
      (member (codes "version") c no_members)))))))
  pub line_is : SaysLong a line
  pub query_is : SaysLong b query
  pub version_is : SaysLong c version

abbrev pub SaysReadBlock : Policy → Data → PrintedBlock → List ℕ → ℕ → ℕ → List ℕ → ℕ → Type 0
SaysReadBlock policy d (blocked.Refuted pair) key line query request version = SaysRefutedRead policy d pair key line query request version
SaysReadBlock policy d (blocked.Spent steps) key line query request version = SaysSpentRead d steps key line query request version
SaysReadBlock policy d (blocked.Stuck clause) key line query request version = SaysStuckRead d clause key line query request version

-- what isn't supported has a key of its own, `word`
pub record SaysUnread (d : Data) (line : ℕ) (request : List ℕ) (fault : ReadQueryFault) (version : ℕ) : Type 0 where
  pub a : Data
  pub b : Data
  pub is :
      d ≡ object (member (codes "line") a
      (member (codes "request") (string request)
      (member (codes "unread") (string (fault_name fault))
      (member (codes "version") b (word_member (unsupported_in fault))))))
  pub line_is : SaysLong a line
  pub version_is : SaysLong b version

pub record SaysMemory (d : Data) (line : ℕ) : Type 0 where
  pub a : Data
  pub is : d ≡ object (member (codes "line") a (member (codes "memory") (boolean true) no_members))
  pub line_is : SaysLong a line

pub record SaysSummary (d : Data) (it : Summary) : Type 0 where
  pub a : Data
  pub b : Data
  pub c : Data
  pub e : Data
  pub f : Data
  pub g : Data
  pub h : Data
  pub is :
      d ≡ object (member (codes "answered") a
      (member (codes "blocked") b
      (member (codes "lines") c
      (member (codes "memory") e
      (member (codes "requests") f
      (member (codes "rows") g
      (member (codes "unread") h no_members)))))))
  pub answered_is : SaysLong a it.answered
  pub blocked_is : SaysLong b it.blocked
  pub lines_are : SaysLong c it.lines
  pub memory_is : SaysLong e it.memory
  pub requests_are : SaysLong f it.requests
  pub rows_are : SaysLong g it.rows
  pub unread_is : SaysLong h it.unread

-- the value says the line
abbrev pub SaysLine : Policy → Data → PrintedLine → Type 0
SaysLine policy d (Begin begin line version) = SaysBegin d begin line version
SaysLine policy d (End end line) = SaysEnd d end line
SaysLine policy d (Publish line publish version) = SaysPublish d line publish version
SaysLine policy d (Answer it line request rows version) = SaysAnswer policy d it line request rows version
SaysLine policy d (Block it line request version) = SaysBlock policy d it line request version
SaysLine policy d (Read its key line request version) = SaysRead policy d its key line request version
SaysLine policy d (ReadBlock it key line query request version) = SaysReadBlock policy d it key line query request version
SaysLine policy d UnevenRead = SaysUneven policy d
SaysLine policy d (Unread line request fault version) = SaysUnread d line request fault version
SaysLine policy d (Memory line) = SaysMemory d line
SaysLine policy d (SummaryLine it) = SaysSummary d it

-- the bytes are the JSON of a value that says the line
abbrev pub Prints : Policy → List ℕ → PrintedLine → Type 0
Prints policy bytes it = (d : Data) × IsJson bytes d × SaysLine policy d it

-- they are the JSON of a value that says none
abbrev pub IsShapeless : Policy → List ℕ → Type 0
IsShapeless policy bytes = (d : Data) × IsJson bytes d × ((it : PrintedLine) → ¬ (SaysLine policy d it))

-- The bytes are read as exactly the line that they print, which is one at most, as `Json` exactly where they are no JSON, and as `Shape` exactly
-- where they are the JSON of a value that says no line.
pub record PrintedIsExact : Type 0 where
  pub line : (policy : Policy) (bytes : List ℕ) (it : PrintedLine) → (printed_of policy bytes ≡ Ok it) ↔ Prints policy bytes it
  pub unique : (policy : Policy) (bytes : List ℕ) (it other : PrintedLine) → Prints policy bytes it → Prints policy bytes other → it ≡ other
  pub json : (policy : Policy) (bytes : List ℕ) → (printed_of policy bytes ≡ Err Json) ↔ ((d : Data) → ¬ (IsJson bytes d))
  pub shape : (policy : Policy) (bytes : List ℕ) → (printed_of policy bytes ≡ Err Shape) ↔ IsShapeless policy bytes
