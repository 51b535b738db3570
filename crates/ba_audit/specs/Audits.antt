-- When an output passes an audit, which line and which test fail first, and what a pass shows.
use Rattle.std.specs.List.{flat_map}
use Rattle.std.specs.Prelude.{◌≡◌, ◌⊎◌, ℕ, ◌+◌, List, [], ◌∷◌, ◌++◌, All, false, Option, Some, None, Result, Ok, Err, length, map, count_by, slice_get, ◌==◌, nat_lt}
use Rattle.ba_comply.specs.Comply.{Strong}
use Rattle.ba_direct.specs.Cover.{Covered}
use Rattle.ba_kernel.specs.Asked.{QuestionFits}
use Rattle.ba_model.specs.Conform.{Conforms}
use Rattle.ba_model.specs.Fit.{PolicyFits}
use Rattle.ba_model.specs.Meaning.{IsAnswer}
use Rattle.ba_model.specs.RuleFaults.{RuleFits}
use Rattle.ba_model.specs.SchemaFaults.{AreTables}
use Rattle.ba_model.specs.declared.policy.Policy.{Policy}
use Rattle.ba_model.specs.declared.query.Query.{Query}
use Rattle.ba_model.specs.declared.value.Value.{Value}
use Rattle.ba_script.specs.Scripts.{BeginFits, ReadFits}
use Rattle.ba_script.specs.declared.entry.Script.{Script}
use Rattle.ba_script.specs.declared.entry.ScriptEntry.{ScriptEntry}
use Rattle.ba_script.specs.declared.entry.ScriptEntry.TheVariants as said
use Rattle.ba_sql_query.specs.declared.fault.ReadQueryFault.{ReadQueryFault}
use Rattle.ba_printed.specs.Lines.{printed_lines}
use Rattle.ba_printed.specs.Reading.{printed_of}
use Rattle.ba_printed.specs.declared.line.Evidence.{Evidence}
use Rattle.ba_printed.specs.declared.line.PrintedBlock.{PrintedBlock}
use Rattle.ba_printed.specs.declared.line.PrintedLine.{PrintedLine}
use Rattle.ba_printed.specs.declared.line.PrintedLine.TheVariants as printed
use Rattle.ba_tables.specs.TableSet.{TableSet}
use Rattle.ba_audit.specs.Lines.{Basis, Line, Place, Reading, entry, line_at, is_answer, is_block, is_unaudited, queries_read, reading_of, said_by, total, versions}
use Rattle.ba_audit.specs.Tests.{IsFirstUnmet, IsProved, IsRefuted, IsRightlyBy, MeetsAll, MeetsReading, held_by}
use Rattle.ba_wire.specs.declared.audit.AuditFault.{AuditFault}
use Rattle.ba_wire.specs.declared.audit.AuditFault.TheVariants.{At}
use Rattle.ba_wire.specs.declared.audit.Audited.{Audited}
use Rattle.ba_wire.specs.declared.audit.AuditReason.{AuditReason as Reason}
use Rattle.ba_wire.specs.declared.audit.AuditReason.TheVariants.{Count}
use Rattle.ba_audit.specs.declared.request.Asker.{Asker}
use Rattle.ba_audit.specs.declared.request.Begun.{Begun}
use Rattle.ba_audit.specs.declared.request.Begun.TheVariants.{Asking}

-- ---- outputs

-- how many line feeds there are: so many lines are ended, and the line behind them, if there is one,
-- isn't
abbrev pub feeds : List ℕ → ℕ
feeds bytes = count_by (λ byte. byte == 10) bytes

-- what each line of an output reads as
abbrev pub readings : Policy → List ℕ → List Reading
readings policy bytes = map (printed_of policy) (printed_lines bytes)

-- the places of an output: a line for each of the script, and the summary
abbrev pub places : List ScriptEntry → List Place
places [] = total ∷ []
places (e ∷ es) = entry e ∷ places es

-- ---- all lines

-- Behind the lines before, each place has its line, which meets every test, and there is no line
-- more.
abbrev pub AllPass : Basis → ℕ → List Line → List Place → List Reading → Type 0
AllPass basis ended before [] [] = Unit {0}
AllPass basis ended before [] (r ∷ rs) = ⊥
AllPass basis ended before (p ∷ ps) [] = ⊥
AllPass basis ended before (p ∷ ps) (r ∷ rs) =
    MeetsAll (MeetsReading (nat_lt (length before) ended) basis before p r) × AllPass basis ended (before ++ line_at p r ∷ []) ps rs

-- line n is missing, or one too many
abbrev pub IsCountFault : List Line → ℕ → Reason → Type 0
IsCountFault before n reason = (n ≡ length before + 1) × (reason ≡ Count)

-- Line n is the first behind the lines before that fails a test, first this one.
abbrev pub FailsAt : Basis → ℕ → List Line → List Place → List Reading → ℕ → Reason → Type 0
FailsAt basis ended before [] [] n reason = ⊥
FailsAt basis ended before [] (r ∷ rs) n reason = IsCountFault before n reason
FailsAt basis ended before (p ∷ ps) [] n reason = IsCountFault before n reason
FailsAt basis ended before (p ∷ ps) (r ∷ rs) n reason =
    ((n ≡ length before + 1) × IsFirstUnmet (MeetsReading (nat_lt (length before) ended) basis before p r) reason) ⊎ (MeetsAll (MeetsReading (nat_lt (length before) ended) basis before p r) × FailsAt basis ended (before ++ line_at p r ∷ []) ps rs n reason)

-- ---- audits

-- what an audit is given: a policy, the words' set and those of the publish lines, a script, and the
-- bytes of an output
pub record Output : Type 0 where
  pub policy : Policy
  pub sets : List TableSet
  pub script : List ScriptEntry
  pub bytes : List ℕ

abbrev pub output_of : Policy → List TableSet → Script → List ℕ → Output
output_of policy sets script bytes =
    record { policy = policy; sets = sets; script = script.entries; bytes = bytes }

abbrev pub basis_of : Output → Basis
basis_of it = record {
  policy = it.policy;
  sets = it.sets;
  numbered = versions it.script (readings it.policy it.bytes);
}

-- No test of any line fails.
abbrev pub IsAudited : Output → Type 0
IsAudited it = AllPass (basis_of it) (feeds it.bytes) [] (places it.script) (readings it.policy it.bytes)

-- line n is the first that fails a test, first this one
abbrev pub IsFirstFault : Output → ℕ → Reason → Type 0
IsFirstFault it n reason = FailsAt (basis_of it) (feeds it.bytes) [] (places it.script) (readings it.policy it.bytes) n reason

-- how many lines can't be tested
abbrev pub unaudited_of : List Reading → ℕ
unaudited_of rs = count_by is_unaudited (flat_map said_by rs)

-- what is told of an output that passes
pub record TellsAudited (it : Output) (told : Audited) : Type 0 where
  pub audited : IsAudited it
  pub lines : told.lines ≡ length it.script
  pub unaudited : told.unaudited ≡ unaudited_of (readings it.policy it.bytes)

-- and of one that doesn't: where its first fault is
abbrev pub TellsFault : Output → AuditFault → Type 0
TellsFault it (At n reason) = IsFirstFault it n reason

-- ---- what is asked of the input

-- the tables are of the policy's schema and conform to it
pub record IsSet (policy : Policy) (it : TableSet) : Type 0 where
  pub schema : it.schema ≡ policy.schema
  pub conform : Conforms policy.schema it.rows

-- the policy, its schema and its rules were checked
pub record IsChecked (policy : Policy) : Type 0 where
  pub fits : PolicyFits policy
  pub tables : AreTables policy.schema.tables
  pub rules : All (RuleFits policy.schema) policy.schema.rules

-- the policy was checked, the sets conform, the contexts of the script's requests are of the
-- policy, and its reads are of the policy's cache keys
pub record IsInput (policy : Policy) (sets : List TableSet) (script : List ScriptEntry) : Type 0 where
  pub checked : IsChecked policy
  pub sets_are : All (IsSet policy) sets
  pub contexts : All (BeginFits policy.params) script
  pub reads : All (ReadFits policy.keys) script

-- ---- what a pass shows

-- What is printed of a request's query: of an answer, the rows are its answer in the version of the
-- request, and it is strongly compliant after the request's earlier printed answers; of a block, it
-- isn't covered, and a pair is a counterexample to its strong compliance.
unfoldable pub ShowsQuery : Policy → Asker → Query → PrintedLine → Type 0
ShowsQuery policy asker q (printed.Answer evidence line request rows version) =
    IsAnswer q asker.context asker.tables.rows rows × Strong policy asker.context asker.trace q
ShowsQuery policy asker q (printed.Block why line request version) =
    (Covered policy asker.context q → ⊥) × IsRefuted policy asker q why
ShowsQuery policy asker q line = Unit {0}

-- it is neither an answer nor a block
pub record IsNoVerdict (line : PrintedLine) : Type 0 where
  pub no_answer : is_answer line ≡ false
  pub no_block : is_block line ≡ false

-- answers and blocks are of texts with a reading, of requests that are begun
abbrev pub ShowsText : Policy → Option Begun → Result Query ReadQueryFault → PrintedLine → Type 0
ShowsText policy (Some (Asking asker)) (Ok q) line = ShowsQuery policy asker q line
ShowsText policy held reading line = IsNoVerdict line

-- Of a read that is blocked at a query: this is there, and isn't covered, and a pair is a
-- counterexample to its strong compliance.
pub record ShowsKeyBlock (policy : Policy) (asker : Asker) (found : Option Query)
    (why : PrintedBlock) : Type 0 where
  pub query : Query
  pub is : found ≡ Some query
  pub uncovered : Covered policy asker.context query → ⊥
  pub refuted : IsRefuted policy asker query why

-- What is printed of a read, behind which are these queries: where it is let through, each is
-- strongly compliant after the request's earlier printed answers; a block is of one of them.
unfoldable pub ShowsQueries : Policy → Asker → List Query → PrintedLine → Type 0
ShowsQueries policy asker qs (printed.Read its key line read version) =
    All (Strong policy asker.context asker.trace) qs
ShowsQueries policy asker qs (printed.ReadBlock why key line query read version) =
    ShowsKeyBlock policy asker (slice_get qs query) why
ShowsQueries policy asker qs line = Unit {0}

-- the same where its request is begun
abbrev pub ShowsReader : Policy → Option Begun → List Query → PrintedLine → Type 0
ShowsReader policy (Some (Asking asker)) qs line = ShowsQueries policy asker qs line
ShowsReader policy held qs line = IsNoVerdict line

unfoldable pub ShowsEntry : Policy → Option Begun → ScriptEntry → PrintedLine → Type 0
ShowsEntry policy held (said.Begin request name context) line = Unit {0}
ShowsEntry policy held (said.Ask request name text) line = ShowsText policy held (reading_of policy text) line
ShowsEntry policy held (said.Read request name key arguments questions) line =
    ShowsReader policy held (queries_read policy key arguments) line
ShowsEntry policy held (said.End request name) line = Unit {0}
ShowsEntry policy held (said.Publish number set) line = Unit {0}

abbrev pub ShowsPlace : Basis → List Line → Place → Reading → Type 0
ShowsPlace basis before total reading = Unit {0}
ShowsPlace basis before (entry e) (Ok line) = ShowsEntry basis.policy (held_by basis before e) e line
ShowsPlace basis before (entry e) (Err why) = ⊥

-- each line behind the lines before shows what it says
abbrev pub AllShow : Basis → List Line → List Place → List Reading → Type 0
AllShow basis before [] rs = Unit {0}
AllShow basis before (p ∷ ps) [] = ⊥
AllShow basis before (p ∷ ps) (r ∷ rs) = ShowsPlace basis before p r × AllShow basis (before ++ line_at p r ∷ []) ps rs

-- Each answer is its query's in its version, and complies strongly with what its request was told
-- before, as does each query behind a read that is let through; each pair refutes; and no blocked
-- query is covered.
abbrev pub IsSound : Output → Type 0
IsSound it = AllShow (basis_of it) [] (places it.script) (readings it.policy it.bytes)

-- an answer's query is strongly compliant after what its request was told before, by its evidence
abbrev pub EvidenceIsStrong : Type 0
EvidenceIsStrong =
    (policy : Policy) (asker : Asker) (q : Query) (it : Evidence) → QuestionFits policy asker.context asker.trace q →
    IsRightlyBy policy asker q it → IsProved policy asker q it → Strong policy asker.context asker.trace q
