-- What a line comes to, where it is read.
use Rattle.std.proofs.Common.{◌≡◌, ◌∙◌, refl, sym, ap, subst, ℕ, ◌+◌, ◌<◌, List, [], ◌∷◌, Bool, Option, Some, None, Result, Ok, Err, IfOk, IsTrue, arith}
use Rattle.std.specs.List.{All}
use Rattle.std.specs.Option.{option_to_list}
use Rattle.std.specs.Result.{IfErr, OnOk}
use Rattle.ba_comply.specs.declared.trace.TraceEntry.{TraceEntry}
use Rattle.ba_kernel.specs.Asked.{RecordFits}
use Rattle.ba_model.specs.Readings.{OfFault}
use Rattle.ba_model.specs.declared.failure.Failure.{Failure}
use Rattle.ba_model.specs.declared.failure.Failure.TheVariants.{NoMemory, Fault}
use Rattle.ba_model.specs.declared.policy.Policy.{Policy}
use Rattle.ba_model.specs.declared.query.Query.{Query}
use Rattle.ba_script.specs.declared.entry.ScriptEntry.{ScriptEntry}
use Rattle.ba_sql_query.specs.declared.fault.ReadQueryFault.{ReadQueryFault}
use Rattle.ba_printed.specs.declared.line.PrintedBlock.{PrintedBlock}
use Rattle.ba_printed.specs.declared.line.PrintedLine.{PrintedLine}
use Rattle.ba_printed.specs.declared.line.PrintedLine.TheVariants as printed
use Rattle.ba_wire.specs.declared.summary.Summary.{Summary}
use Rattle.ba_audit.specs.Audits.{ShowsEntry, ShowsQuery, ShowsText}
use Rattle.ba_audit.specs.Keeping.{AddsFitting, Counts, IsLast, IsSummary, MeetsCounted, MeetsKept, MeetsLast, MeetsTaken, Moves, Takes, TakesRead, TellsHeard, known_in, located_at, told_at}
use Rattle.ba_audit.specs.Lines.{Basis, Reading, recorded, rows_in, unread_in}
use Rattle.ba_audit.specs.Tests.{IsFirstUnmet, MeetsAll, MeetsAsked, MeetsBlock, MeetsForm, MeetsQuery, MeetsSaid, MeetsTotal, TellsFirst, rank, request_in}
use Rattle.ba_audit.specs.declared.heard.Heard.{Heard}
use Rattle.ba_audit.specs.declared.heard.Heard.TheVariants.{Unmet, Met}
use Rattle.ba_wire.specs.declared.audit.AuditFault.{AuditFault}
use Rattle.ba_wire.specs.declared.audit.AuditFault.TheVariants.{At}
use Rattle.ba_wire.specs.declared.audit.AuditReason.{AuditReason as Reason}
use Rattle.ba_wire.specs.declared.audit.AuditReason.TheVariants.{Count, Json, Shape, Kind, Version, Unread, By, Covered, Rows, Proof, Pair, Summary as SummaryReason}
use Rattle.ba_audit.specs.declared.request.Asker.{Asker}
use Rattle.ba_audit.specs.declared.request.Begun.TheVariants.{Asking}
use Rattle.ba_audit.specs.declared.told.Told.{Told}
use Rattle.ba_audit.proofs.TestLemmas.{first_of_form, form_met, heard_text, kept_low}

-- a block that meets each test
pub heard_block : (policy : Policy) (asker : Asker) (q : Query) (line : PrintedLine) {why : PrintedBlock} {number : ℕ} {request : List ℕ} {version : ℕ} → line ≡ printed.Block why number request version → (o : Option Reason) →
    TellsFirst (MeetsBlock policy asker q why) o → o ≡ None → TellsHeard (MeetsQuery policy asker q line) (recorded (Ok q) (rows_in line)) (ShowsQuery policy asker q line) (Met None)
unfolding MeetsQuery rows_in ShowsQuery
heard_block policy asker q line {why} is o tells none =
    let all : MeetsAll (MeetsBlock policy asker q why) = subst (TellsFirst (MeetsBlock policy asker q why)) none tells in
    subst (λ z. TellsHeard (MeetsQuery policy asker q z) (recorded (Ok q) (rows_in z)) (ShowsQuery policy asker q z) (Met None)) (sym is)
    (record { meets = all.meets }, refl, (all.meets Covered, all.meets Pair))

-- the same of a text that reads as the query
pub heard_reading : {E : Type 0} (policy : Policy) (asker : Asker) (q : Query) (reading : Result Query ReadQueryFault) → reading ≡ Ok q → (line : PrintedLine) → unread_in line ≡ None → (r : Result Heard E) →
    IfOk r (TellsHeard (MeetsQuery policy asker q line) (recorded (Ok q) (rows_in line)) (ShowsQuery policy asker q line)) →
    IfOk r (TellsHeard (MeetsAsked policy (Some (Asking asker)) reading line) (recorded reading (rows_in line)) (ShowsText policy (Some (Asking asker)) reading line))
heard_reading policy asker q reading is line says (Ok heard) h = heard_text policy asker q reading is line says heard h
heard_reading policy asker q reading is line says (Err e) h = tt

-- what is kept of a line that is read
pub takes_read : (basis : Basis) (number : ℕ) (e : ScriptEntry) (line : PrintedLine) (old between new : Told) (heard : Heard) (added : Option TraceEntry) → heard ≡ Met added →
    TellsHeard (MeetsSaid basis number old.used.items (known_in old (request_in e)) e line) (told_at basis.policy e (Ok line)) (ShowsEntry basis.policy (known_in old (request_in e)) e line) heard →
    AddsFitting basis.policy heard → Moves basis e (Ok line) old between → Counts e (Ok line) between new → TakesRead basis number e line old new
takes_read basis number e line old between new heard added is tells fitting moves counts =
    let met : TellsHeard (MeetsSaid basis number old.used.items (known_in old (request_in e)) e line) (told_at basis.policy e (Ok line)) (ShowsEntry basis.policy (known_in old (request_in e)) e line) (Met added) =
    subst (TellsHeard (MeetsSaid basis number old.used.items (known_in old (request_in e)) e line) (told_at basis.policy e (Ok line)) (ShowsEntry basis.policy (known_in old (request_in e)) e line)) is tells in
    let fits : AddsFitting basis.policy (Met added) = subst (AddsFitting basis.policy) is fitting in
    record {
      meets = record { meets = met.0.meets };
      fitting = subst (All (RecordFits basis.policy)) met.1 fits;
      shows = met.2;
      between = between;
      moves = moves;
      counts = counts;
    }

-- ---- form

taken : (basis : Basis) (ended : Bool) → IsTrue ended → (number : ℕ) (e : ScriptEntry) (line : PrintedLine) (old new : Told) → TakesRead basis number e line old new → Takes basis ended number e (Ok line) old new
taken basis ended sure number e line old new h = record {
  meets = record { meets = λ reason. (form_met ended sure line reason, h.meets.meets reason) };
  fitting = h.fitting;
  shows = h.shows;
  between = h.between;
  moves = h.moves;
  counts = h.counts;
}

pub takes_line : {T E : Type 0} (basis : Basis) (ended : Bool) → IsTrue ended → (number : ℕ) (e : ScriptEntry) (reading : Reading) (line seen : PrintedLine) → reading ≡ Ok line → seen ≡ line → (old new : Told) (r : Result T E) →
    OnOk r (TakesRead basis number e seen old new) → OnOk r (Takes basis ended number e reading old new)
takes_line basis ended sure number e reading line seen is same old new (Ok x) h =
    subst (λ z. Takes basis ended number e z old new) (sym is) (taken basis ended sure number e line old new (subst (λ z. TakesRead basis number e z old new) same h))
takes_line basis ended sure number e reading line seen is same old new (Err x) h = tt

pub unformed : (basis : Basis) (ended : Bool) (number : ℕ) (told : Told) (e : ScriptEntry) (reading : Reading) (failure : Failure Reason) →
    OfFault failure (IsFirstUnmet (MeetsForm ended reading)) → OfFault failure (IsFirstUnmet (MeetsTaken basis ended number told e reading))
unformed basis ended number told e reading NoMemory h = tt
unformed basis ended number told e reading (Fault reason) h = first_of_form ended reading (MeetsKept basis number told e reading) (kept_low basis number told e reading) reason h

-- ---- the last line

total_low : (counted : Summary) (line : PrintedLine) (other : Reason) → rank other < 3 → MeetsTotal counted line other
unfolding MeetsTotal rank
total_low counted (printed.Begin begin line version) Count lt = tt
total_low counted (printed.Begin begin line version) Json lt = tt
total_low counted (printed.Begin begin line version) Shape lt = tt
total_low counted (printed.Begin begin line version) Kind lt = absurd (omega (arith, lt))
total_low counted (printed.Begin begin line version) Version lt = absurd (omega (arith, lt))
total_low counted (printed.Begin begin line version) Unread lt = absurd (omega (arith, lt))
total_low counted (printed.Begin begin line version) By lt = absurd (omega (arith, lt))
total_low counted (printed.Begin begin line version) Covered lt = absurd (omega (arith, lt))
total_low counted (printed.Begin begin line version) Rows lt = absurd (omega (arith, lt))
total_low counted (printed.Begin begin line version) Proof lt = absurd (omega (arith, lt))
total_low counted (printed.Begin begin line version) Pair lt = absurd (omega (arith, lt))
total_low counted (printed.Begin begin line version) SummaryReason lt = absurd (omega (arith, lt))
total_low counted (printed.End end line) Count lt = tt
total_low counted (printed.End end line) Json lt = tt
total_low counted (printed.End end line) Shape lt = tt
total_low counted (printed.End end line) Kind lt = absurd (omega (arith, lt))
total_low counted (printed.End end line) Version lt = absurd (omega (arith, lt))
total_low counted (printed.End end line) Unread lt = absurd (omega (arith, lt))
total_low counted (printed.End end line) By lt = absurd (omega (arith, lt))
total_low counted (printed.End end line) Covered lt = absurd (omega (arith, lt))
total_low counted (printed.End end line) Rows lt = absurd (omega (arith, lt))
total_low counted (printed.End end line) Proof lt = absurd (omega (arith, lt))
total_low counted (printed.End end line) Pair lt = absurd (omega (arith, lt))
total_low counted (printed.End end line) SummaryReason lt = absurd (omega (arith, lt))
total_low counted (printed.Publish line publish version) Count lt = tt
total_low counted (printed.Publish line publish version) Json lt = tt
total_low counted (printed.Publish line publish version) Shape lt = tt
total_low counted (printed.Publish line publish version) Kind lt = absurd (omega (arith, lt))
total_low counted (printed.Publish line publish version) Version lt = absurd (omega (arith, lt))
total_low counted (printed.Publish line publish version) Unread lt = absurd (omega (arith, lt))
total_low counted (printed.Publish line publish version) By lt = absurd (omega (arith, lt))
total_low counted (printed.Publish line publish version) Covered lt = absurd (omega (arith, lt))
total_low counted (printed.Publish line publish version) Rows lt = absurd (omega (arith, lt))
total_low counted (printed.Publish line publish version) Proof lt = absurd (omega (arith, lt))
total_low counted (printed.Publish line publish version) Pair lt = absurd (omega (arith, lt))
total_low counted (printed.Publish line publish version) SummaryReason lt = absurd (omega (arith, lt))
total_low counted (printed.Answer it line request rows version) Count lt = tt
total_low counted (printed.Answer it line request rows version) Json lt = tt
total_low counted (printed.Answer it line request rows version) Shape lt = tt
total_low counted (printed.Answer it line request rows version) Kind lt = absurd (omega (arith, lt))
total_low counted (printed.Answer it line request rows version) Version lt = absurd (omega (arith, lt))
total_low counted (printed.Answer it line request rows version) Unread lt = absurd (omega (arith, lt))
total_low counted (printed.Answer it line request rows version) By lt = absurd (omega (arith, lt))
total_low counted (printed.Answer it line request rows version) Covered lt = absurd (omega (arith, lt))
total_low counted (printed.Answer it line request rows version) Rows lt = absurd (omega (arith, lt))
total_low counted (printed.Answer it line request rows version) Proof lt = absurd (omega (arith, lt))
total_low counted (printed.Answer it line request rows version) Pair lt = absurd (omega (arith, lt))
total_low counted (printed.Answer it line request rows version) SummaryReason lt = absurd (omega (arith, lt))
total_low counted (printed.Block it line request version) Count lt = tt
total_low counted (printed.Block it line request version) Json lt = tt
total_low counted (printed.Block it line request version) Shape lt = tt
total_low counted (printed.Block it line request version) Kind lt = absurd (omega (arith, lt))
total_low counted (printed.Block it line request version) Version lt = absurd (omega (arith, lt))
total_low counted (printed.Block it line request version) Unread lt = absurd (omega (arith, lt))
total_low counted (printed.Block it line request version) By lt = absurd (omega (arith, lt))
total_low counted (printed.Block it line request version) Covered lt = absurd (omega (arith, lt))
total_low counted (printed.Block it line request version) Rows lt = absurd (omega (arith, lt))
total_low counted (printed.Block it line request version) Proof lt = absurd (omega (arith, lt))
total_low counted (printed.Block it line request version) Pair lt = absurd (omega (arith, lt))
total_low counted (printed.Block it line request version) SummaryReason lt = absurd (omega (arith, lt))
total_low counted (printed.Read it key line read version) Count lt = tt
total_low counted (printed.Read it key line read version) Json lt = tt
total_low counted (printed.Read it key line read version) Shape lt = tt
total_low counted (printed.Read it key line read version) Kind lt = absurd (omega (arith, lt))
total_low counted (printed.Read it key line read version) Version lt = absurd (omega (arith, lt))
total_low counted (printed.Read it key line read version) Unread lt = absurd (omega (arith, lt))
total_low counted (printed.Read it key line read version) By lt = absurd (omega (arith, lt))
total_low counted (printed.Read it key line read version) Covered lt = absurd (omega (arith, lt))
total_low counted (printed.Read it key line read version) Rows lt = absurd (omega (arith, lt))
total_low counted (printed.Read it key line read version) Proof lt = absurd (omega (arith, lt))
total_low counted (printed.Read it key line read version) Pair lt = absurd (omega (arith, lt))
total_low counted (printed.Read it key line read version) SummaryReason lt = absurd (omega (arith, lt))
total_low counted (printed.ReadBlock it key line query read version) Count lt = tt
total_low counted (printed.ReadBlock it key line query read version) Json lt = tt
total_low counted (printed.ReadBlock it key line query read version) Shape lt = tt
total_low counted (printed.ReadBlock it key line query read version) Kind lt = absurd (omega (arith, lt))
total_low counted (printed.ReadBlock it key line query read version) Version lt = absurd (omega (arith, lt))
total_low counted (printed.ReadBlock it key line query read version) Unread lt = absurd (omega (arith, lt))
total_low counted (printed.ReadBlock it key line query read version) By lt = absurd (omega (arith, lt))
total_low counted (printed.ReadBlock it key line query read version) Covered lt = absurd (omega (arith, lt))
total_low counted (printed.ReadBlock it key line query read version) Rows lt = absurd (omega (arith, lt))
total_low counted (printed.ReadBlock it key line query read version) Proof lt = absurd (omega (arith, lt))
total_low counted (printed.ReadBlock it key line query read version) Pair lt = absurd (omega (arith, lt))
total_low counted (printed.ReadBlock it key line query read version) SummaryReason lt = absurd (omega (arith, lt))
total_low counted printed.UnevenRead Count lt = tt
total_low counted printed.UnevenRead Json lt = tt
total_low counted printed.UnevenRead Shape lt = tt
total_low counted printed.UnevenRead Kind lt = absurd (omega (arith, lt))
total_low counted printed.UnevenRead Version lt = absurd (omega (arith, lt))
total_low counted printed.UnevenRead Unread lt = absurd (omega (arith, lt))
total_low counted printed.UnevenRead By lt = absurd (omega (arith, lt))
total_low counted printed.UnevenRead Covered lt = absurd (omega (arith, lt))
total_low counted printed.UnevenRead Rows lt = absurd (omega (arith, lt))
total_low counted printed.UnevenRead Proof lt = absurd (omega (arith, lt))
total_low counted printed.UnevenRead Pair lt = absurd (omega (arith, lt))
total_low counted printed.UnevenRead SummaryReason lt = absurd (omega (arith, lt))
total_low counted (printed.Unread line request unread version) Count lt = tt
total_low counted (printed.Unread line request unread version) Json lt = tt
total_low counted (printed.Unread line request unread version) Shape lt = tt
total_low counted (printed.Unread line request unread version) Kind lt = absurd (omega (arith, lt))
total_low counted (printed.Unread line request unread version) Version lt = absurd (omega (arith, lt))
total_low counted (printed.Unread line request unread version) Unread lt = absurd (omega (arith, lt))
total_low counted (printed.Unread line request unread version) By lt = absurd (omega (arith, lt))
total_low counted (printed.Unread line request unread version) Covered lt = absurd (omega (arith, lt))
total_low counted (printed.Unread line request unread version) Rows lt = absurd (omega (arith, lt))
total_low counted (printed.Unread line request unread version) Proof lt = absurd (omega (arith, lt))
total_low counted (printed.Unread line request unread version) Pair lt = absurd (omega (arith, lt))
total_low counted (printed.Unread line request unread version) SummaryReason lt = absurd (omega (arith, lt))
total_low counted (printed.Memory line) Count lt = tt
total_low counted (printed.Memory line) Json lt = tt
total_low counted (printed.Memory line) Shape lt = tt
total_low counted (printed.Memory line) Kind lt = absurd (omega (arith, lt))
total_low counted (printed.Memory line) Version lt = absurd (omega (arith, lt))
total_low counted (printed.Memory line) Unread lt = absurd (omega (arith, lt))
total_low counted (printed.Memory line) By lt = absurd (omega (arith, lt))
total_low counted (printed.Memory line) Covered lt = absurd (omega (arith, lt))
total_low counted (printed.Memory line) Rows lt = absurd (omega (arith, lt))
total_low counted (printed.Memory line) Proof lt = absurd (omega (arith, lt))
total_low counted (printed.Memory line) Pair lt = absurd (omega (arith, lt))
total_low counted (printed.Memory line) SummaryReason lt = absurd (omega (arith, lt))
total_low counted (printed.Summary summary) Count lt = tt
total_low counted (printed.Summary summary) Json lt = tt
total_low counted (printed.Summary summary) Shape lt = tt
total_low counted (printed.Summary summary) Kind lt = absurd (omega (arith, lt))
total_low counted (printed.Summary summary) Version lt = absurd (omega (arith, lt))
total_low counted (printed.Summary summary) Unread lt = absurd (omega (arith, lt))
total_low counted (printed.Summary summary) By lt = absurd (omega (arith, lt))
total_low counted (printed.Summary summary) Covered lt = absurd (omega (arith, lt))
total_low counted (printed.Summary summary) Rows lt = absurd (omega (arith, lt))
total_low counted (printed.Summary summary) Proof lt = absurd (omega (arith, lt))
total_low counted (printed.Summary summary) Pair lt = absurd (omega (arith, lt))
total_low counted (printed.Summary summary) SummaryReason lt = absurd (omega (arith, lt))

counted_low : (counted : Summary) (reading : Reading) (other : Reason) → rank other < 3 → MeetsCounted counted reading other
counted_low counted (Ok line) other lt = total_low counted line other lt
counted_low counted (Err why) other lt = tt

pub unformed_last : (ended : Bool) (counted : Summary) (reading : Reading) (failure : Failure Reason) → OfFault failure (IsFirstUnmet (MeetsForm ended reading)) → OfFault failure (IsFirstUnmet (MeetsLast ended counted reading))
unformed_last ended counted reading NoMemory h = tt
unformed_last ended counted reading (Fault reason) h = first_of_form ended reading (MeetsCounted counted reading) (counted_low counted reading) reason h

summed : (ended : Bool) → IsTrue ended → (counted : Summary) (line : PrintedLine) → MeetsAll (MeetsTotal counted line) → IsSummary line → IsLast ended counted (Ok line)
unfolding IsSummary
summed ended sure counted (printed.Begin begin line version) all is = absurd is
summed ended sure counted (printed.End end line) all is = absurd is
summed ended sure counted (printed.Publish line publish version) all is = absurd is
summed ended sure counted (printed.Answer it line request rows version) all is = absurd is
summed ended sure counted (printed.Block it line request version) all is = absurd is
summed ended sure counted (printed.Read it key line read version) all is = absurd is
summed ended sure counted (printed.ReadBlock it key line query read version) all is = absurd is
summed ended sure counted printed.UnevenRead all is = absurd is
summed ended sure counted (printed.Unread line request unread version) all is = absurd is
summed ended sure counted (printed.Memory line) all is = absurd is
summed ended sure counted (printed.Summary summary) all is = record { summary = summary; is = refl; meets = record { meets = λ reason. (form_met ended sure (printed.Summary summary) reason, all.meets reason) } }

pub last_ok : {T E : Type 0} (ended : Bool) → IsTrue ended → (counted : Summary) (reading : Reading) (line seen : PrintedLine) → reading ≡ Ok line → seen ≡ line → (r : Result T E) →
    OnOk r (MeetsAll (MeetsTotal counted seen)) → OnOk r (IsSummary seen) → OnOk r (IsLast ended counted reading)
last_ok ended sure counted reading line seen is same (Ok x) all summary =
    subst (IsLast ended counted) (sym is) (summed ended sure counted line (subst (λ z. MeetsAll (MeetsTotal counted z)) same all) (subst IsSummary same summary))
last_ok ended sure counted reading line seen is same (Err x) all summary = tt

-- ---- the line's number

pub located_ok : {T P Q : Type 0} (number : ℕ) (r : Result T (Failure Reason)) → (P → Q) → OnOk r P → OnOk (located_at number r) Q
unfolding located_at
located_ok number (Ok x) to h = to h
located_ok number (Err NoMemory) to h = tt
located_ok number (Err (Fault reason)) to h = tt

pub located_fault : {T : Type 0} (number : ℕ) (r : Result T (Failure Reason)) (F : Reason → Type 0) (G : AuditFault → Type 0) → ((reason : Reason) → F reason → G (At number reason)) →
    IfErr r (λ e. OfFault e F) → IfErr (located_at number r) (λ e. OfFault e G)
unfolding located_at
located_fault number (Ok x) F G to h = tt
located_fault number (Err NoMemory) F G to h = tt
located_fault number (Err (Fault reason)) F G to h = to reason h
