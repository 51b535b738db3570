-- What is printed is read as what was meant.
use Rattle.std.specs.Prelude.{◌≡◌, ℕ, List, [], ◌∷◌, ◌++◌, All, Option, Some, None, Ok, length, map}
use Rattle.std.specs.Str.{IsUtf8}
use Rattle.serde_json.specs.Data.{Data}
use Rattle.ba_model.specs.SchemaFaults.{AreDistinct, table_names}
use Rattle.ba_model.specs.declared.policy.Policy.{Policy}
use Rattle.ba_model.specs.declared.schema.Table.{Table}
use Rattle.ba_model.specs.declared.value.RowSet.{RowSet}
use Rattle.ba_model.specs.declared.value.Value.{Value}
use Rattle.ba_evidence.specs.Evidence.{Evidence as Ground, covered, matched, proved, answer_json, read_json, refuted_json, refuted_read_json}
use Rattle.ba_proof.specs.ReadBack.{StepSpells, ValueSpells}
use Rattle.ba_refute.specs.declared.clause.Counterexample.{Counterexample}
use Rattle.ba_script.specs.Script.{IsJson}
use Rattle.ba_wire.specs.Printed.{Printed, ReadsBack, begin, end, publish, answer, block, read, read_block, unread, memory, json_of, summary_json}
use Rattle.ba_wire.specs.declared.line.Block.TheVariants as wire
use Rattle.ba_wire.specs.declared.summary.Summary.{Summary}
use Rattle.ba_printed.specs.Reading.{printed_of}
use Rattle.ba_printed.specs.declared.line.Evidence.{Evidence}
use Rattle.ba_printed.specs.declared.line.Evidence.TheVariants as evidence
use Rattle.ba_printed.specs.declared.line.PrintedBlock.TheVariants as blocked
use Rattle.ba_printed.specs.declared.line.PrintedLine.{PrintedLine}
use Rattle.ba_printed.specs.declared.line.PrintedLine.TheVariants.{Begin, End, Publish, Answer, Block, Read, ReadBlock, Unread, Memory, Summary as SummaryLine}

-- ---- lines

-- the bytes of a line that reads back are a line feed behind a text, which is the JSON of the value
abbrev pub LineIsJson : Type 0
LineIsJson = (bytes : List ℕ) (d : Data) → IsUtf8 bytes → ReadsBack bytes d → (text : List ℕ) × (bytes ≡ text ++ 10 ∷ []) × IsJson text d

-- ---- lines that tell no evidence

-- what such a line is read as; answers, reads and refuted questions have evidence
abbrev pub plain_line : Printed → Option PrintedLine
plain_line (begin request line version) = Some (Begin request line version)
plain_line (end request line) = Some (End request line)
plain_line (publish line set version) = Some (Publish line set version)
plain_line (answer by line request rows version) = None
plain_line (block wire.Refuted line request version) = None
plain_line (block (wire.Spent steps) line request version) = Some (Block (blocked.Spent steps) line request version)
plain_line (block (wire.Stuck clause) line request version) = Some (Block (blocked.Stuck clause) line request version)
plain_line (read bys key line request version) = None
plain_line (read_block wire.Refuted key line query request version) = None
plain_line (read_block (wire.Spent steps) key line query request version) = Some (ReadBlock (blocked.Spent steps) key line query request version)
plain_line (read_block (wire.Stuck clause) key line query request version) = Some (ReadBlock (blocked.Stuck clause) key line query request version)
plain_line (unread line request fault version) = Some (Unread line request fault version)
plain_line (memory line) = Some (Memory line)

abbrev pub PlainReadsBack : Type 0
PlainReadsBack = (policy : Policy) (p : Printed) (it : PrintedLine) (text : List ℕ) → plain_line p ≡ Some it → IsJson text (json_of p) → printed_of policy text ≡ Ok it

abbrev pub SummaryReadsBack : Type 0
SummaryReadsBack = (policy : Policy) (it : Summary) (text : List ℕ) → IsJson text (summary_json it) → printed_of policy text ≡ Ok (SummaryLine it)

-- ---- answers

-- a number has 64 bits
abbrev pub RowsSpell : List (List Value) → Type 0
RowsSpell rows = All (All ValueSpells) rows

-- the steps' numbers have their bits, and their terms are literals other than NULL, unknowns and parameters
abbrev pub GroundSpells : Policy → Ground → Type 0
GroundSpells policy (covered cover) = Unit {0}
GroundSpells policy (matched steps) = All (StepSpells policy.params 0) steps
GroundSpells policy (proved steps) = All (StepSpells policy.params 0) steps

abbrev pub meant : Ground → Evidence
meant (covered cover) = evidence.Cover cover
meant (matched steps) = evidence.Template steps
meant (proved steps) = evidence.Proof steps

-- where no two parameters have one name
abbrev pub AnswerReadsBack : Type 0
AnswerReadsBack =
    (policy : Policy) (it : Ground) (line : ℕ) (request : List ℕ) (rows : List (List Value)) (version : ℕ) (text : List ℕ)
    → AreDistinct (map (λ parameter. parameter.name) policy.params) → GroundSpells policy it → RowsSpell rows
    → IsJson text (answer_json policy.params it line request rows version) → printed_of policy text ≡ Ok (Answer (meant it) line request rows version)

-- ---- reads of cache keys

-- where no two parameters have one name
abbrev pub ReadReadsBack : Type 0
ReadReadsBack =
    (policy : Policy) (its : List Ground) (key : List ℕ) (line : ℕ) (request : List ℕ) (version : ℕ) (text : List ℕ)
    → AreDistinct (map (λ parameter. parameter.name) policy.params) → All (GroundSpells policy) its
    → IsJson text (read_json policy.params its key line request version) → printed_of policy text ≡ Ok (Read (map meant its) key line request version)

-- ---- refuted questions

-- rows for each table, whose numbers have 64 bits
pub record SetSpells (tables : List Table) (set : RowSet) : Type 0 where
  pub each : length set.tables ≡ length tables
  pub rows : All RowsSpell set.tables

pub record PairSpells (tables : List Table) (pair : Counterexample) : Type 0 where
  pub one : SetSpells tables pair.one
  pub two : SetSpells tables pair.two
  pub row : All ValueSpells pair.row

-- where no two tables have one name
abbrev pub RefutedReadsBack : Type 0
RefutedReadsBack =
    (policy : Policy) (pair : Counterexample) (line : ℕ) (request : List ℕ) (version : ℕ) (text : List ℕ)
    → AreDistinct (table_names policy.schema.tables) → PairSpells policy.schema.tables pair
    → IsJson text (refuted_json policy.schema pair line request version) → printed_of policy text ≡ Ok (Block (blocked.Refuted pair) line request version)

abbrev pub RefutedReadReadsBack : Type 0
RefutedReadReadsBack =
    (policy : Policy) (pair : Counterexample) (key : List ℕ) (line query : ℕ) (request : List ℕ) (version : ℕ) (text : List ℕ)
    → AreDistinct (table_names policy.schema.tables) → PairSpells policy.schema.tables pair
    → IsJson text (refuted_read_json policy.schema pair key line query request version)
    → printed_of policy text ≡ Ok (ReadBlock (blocked.Refuted pair) key line query request version)
