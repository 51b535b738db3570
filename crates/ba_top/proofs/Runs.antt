-- What follows from how a command went.
use Rattle.std.proofs.Common.{◌≡◌, ◌⊎◌, ◌∙◌, inl, inr, refl, sym, ap, subst, ℕ, List, [], ◌∷◌, Bool, true, false, cond, length, map, Option, Some, None, Result, Ok, Err, IfSome}
use Rattle.ba_input.proofs.ReadsLemmas.{reads_failed, reads_front, reads_long, reads_settled}
use Rattle.ba_input.proofs.RefusalLemmas.{refused_is}
use Rattle.ba_input.specs.Causes.{IsLimit}
use Rattle.ba_input.specs.Reading.{plan_of}
use Rattle.ba_input.specs.Reads.{IsSettled, Outcome, Reads}
use Rattle.ba_input.specs.Stops.{fault_of}
use Rattle.ba_input.specs.declared.detail.Detail.{Detail}
use Rattle.ba_input.specs.declared.detail.Detail.TheVariants.{Done, NotAccepted, NotAudited, Fault as Faulted, Write, Memory}
use Rattle.ba_input.specs.declared.input.Input.{Input}
use Rattle.ba_input.specs.declared.task.Task.{Task}
use Rattle.ba_input.specs.declared.task.Task.TheVariants as task
use Rattle.ba_input.specs.declared.task.Told.{Told}
use Rattle.ba_input.specs.declared.task.Told.TheVariants as telling
use Rattle.ba_lanes.proofs.IdealLemmas.{legal_is_ideal}
use Rattle.ba_lanes.specs.Legal.{Legal, lacks_memory}
use Rattle.ba_lanes.specs.declared.journal.Journal.{Journal}
use Rattle.ba_model.specs.SchemaFaults.{AreDistinct}
use Rattle.ba_model.specs.declared.limits.Counted.{Counted}
use Rattle.ba_model.specs.declared.limits.Counted.TheVariants.{FileBytes}
use Rattle.ba_outside.specs.Causes.{Rose}
use Rattle.ba_outside.specs.Seen.{Contents, FilesSeen, SinkSeen}
use Rattle.ba_plan.specs.Ends.{AsksFront, FailedAt}
use Rattle.ba_plan.specs.Plan.{names_of}
use Rattle.ba_plan.specs.declared.stop.Stop.{Stop}
use Rattle.ba_plan.specs.declared.stop.Stop.TheVariants.{Refused, Read as Unreadable, TooLong, NoMemory}
use Rattle.ba_proof.specs.declared.checking.CheckFault.{CheckFault}
use Rattle.ba_proof.specs.declared.proof.Proof.{Proof}
use Rattle.ba_top.proofs.AuditedLemmas.{output_audited}
use Rattle.ba_top.proofs.NamedLemmas.{run_named}
use Rattle.ba_top.specs.Audited.{TellsAudited, TellsWritten}
use Rattle.ba_top.specs.Auditing.{EndsAudit, Finds, IsFailed, IsOutcome, IsPassed, detail_of}
use Rattle.ba_top.specs.Causes.{ComesTo, SomeComesTo, Tells, faulted}
use Rattle.ba_top.specs.Checking.{EndsCheck, IsAccepted, IsFinding, IsVerdict, detail_found, line_found}
use Rattle.ba_top.specs.Ends.{EndsLine, EndsLines}
use Rattle.ba_top.specs.Ran.{Accepts, EndsEarly, EndsRun, Fails, Ran, RanTask, Rejects, Served, ServedIdeally, whole_run}
use Rattle.ba_top.specs.Text.{lines_of}
use Rattle.ba_top.specs.Told.{TellsClosed, told_lines}
use Rattle.ba_wire.specs.Audits.{finding_bytes}
use Rattle.ba_wire.specs.Printed.{fault_bytes}
use Rattle.ba_wire.specs.Verdicts.{verdict_bytes}
use Rattle.ba_wire.specs.declared.audit.AuditFault.{AuditFault}
use Rattle.ba_wire.specs.declared.audit.Audited.{Audited}
use Rattle.ba_wire.specs.declared.fault.Fault.{Fault}
use Rattle.ba_wire.specs.declared.fault.Fault.TheVariants as fault

-- ---- how lines end

-- as a whole, or as the writing went
abbrev Ending : (Detail → Type 0) → SinkSeen → SinkSeen → Detail → Type 0
Ending IsWhole s t detail = IsWhole detail ⊎ ((detail ≡ Write) × Rose s.faults t.faults) ⊎ (detail ≡ Memory)

ends_as : (lines : List (List ℕ)) (whole : Detail) (s t : SinkSeen) (detail : Detail) → EndsLines lines whole s t detail → Ending (λ z. z ≡ whole) s t detail
ends_as lines whole s t detail (inl (is, wrote)) = inl is
ends_as lines whole s t detail (inr (inl (is, sent))) = inr (inl (is, sent.1))
ends_as lines whole s t detail (inr (inr (is, sent))) = inr (inr is)

-- a fault that is told, or want of memory
early_as : (it : Option Fault) (s t : SinkSeen) (detail : Detail) → EndsEarly it s t detail → Ending (λ z. z ≡ faulted it) s t detail
early_as (Some it) s t detail ends = ends_as (fault_bytes it ∷ []) (Faulted it) s t detail ends
early_as None s t detail ends = inl ends.0

-- a run's text ends with done, a write fault or want of memory
runs_as : (input : Input) (told : Told) (journal : Journal) (s t : SinkSeen) (detail : Detail) → EndsRun input told journal s t detail → Ending (λ z. z ≡ Done) s t detail
runs_as input told journal s t detail ends = by (lacks_memory journal) (ends_as (told_lines told input journal) (cond (lacks_memory journal) Memory Done) s t detail ends)
  where
    by : (b : Bool) → Ending (λ z. z ≡ cond b Memory Done) s t detail → Ending (λ z. z ≡ Done) s t detail
    by true (inl is) = inr (inr is)
    by false (inl is) = inl is
    by b (inr other) = inr other

-- a finding that is told ends with its own detail, or that of the writing
told_as : (proof : Proof) (s t : SinkSeen) (detail : Detail) (found : Option CheckFault) → IsFinding proof found → EndsLine (verdict_bytes (line_found (length proof.steps) found)) (detail_found found) s t detail → Ending (IsVerdict proof) s t detail
told_as proof s t detail None accepted (inl (is, wrote)) = inl (subst (IsVerdict proof) (sym is) accepted)
told_as proof s t detail None accepted (inr (inl (is, sent))) = inr (inl (is, sent.1))
told_as proof s t detail None accepted (inr (inr (is, sent))) = inr (inr is)
told_as proof s t detail (Some why) rejected (inl (is, wrote)) = inl (subst (IsVerdict proof) (sym is) rejected)
told_as proof s t detail (Some why) rejected (inr (inl (is, sent))) = inr (inl (is, sent.1))
told_as proof s t detail (Some why) rejected (inr (inr (is, sent))) = inr (inr is)

-- a check ends with what the proof comes to, or that of the writing, or for want of memory
checks_as : (proof : Proof) (s t : SinkSeen) (detail : Detail) → EndsCheck proof s t detail → Ending (IsVerdict proof) s t detail
checks_as proof s t detail (inl told) = told_as proof s t detail told.found told.is told.ends
checks_as proof s t detail (inr (is, same)) = inr (inr is)

-- what an audit found and told ends with its own detail, or that of the writing
found_as : (input : Input) (bytes : List ℕ) (s t : SinkSeen) (detail : Detail) (found : Result Audited AuditFault) → Finds input bytes found → EndsLine (finding_bytes found) (detail_of found) s t detail → Ending (IsOutcome input bytes) s t detail
found_as input bytes s t detail (Ok it) finds (inl (is, wrote)) = inl (subst (IsOutcome input bytes) (sym is) (record { audited = it; passes = finds }))
found_as input bytes s t detail (Ok it) finds (inr (inl (is, sent))) = inr (inl (is, sent.1))
found_as input bytes s t detail (Ok it) finds (inr (inr (is, sent))) = inr (inr is)
found_as input bytes s t detail (Err why) finds (inl (is, wrote)) = inl (subst (IsOutcome input bytes) (sym is) finds)
found_as input bytes s t detail (Err why) finds (inr (inl (is, sent))) = inr (inl (is, sent.1))
found_as input bytes s t detail (Err why) finds (inr (inr (is, sent))) = inr (inr is)

-- an audit ends with what the output comes to, or that of the writing, or for want of memory
audits_as : (input : Input) (bytes : List ℕ) (s t : SinkSeen) (detail : Detail) → EndsAudit input bytes s t detail → Ending (IsOutcome input bytes) s t detail
audits_as input bytes s t detail (inl it) = found_as input bytes s t detail it.found it.finds it.ends
audits_as input bytes s t detail (inr (is, same)) = inr (inr is)

-- a run that is done had memory for every line
whole_done : (journal : Journal) (lines : List (List ℕ)) (s t : SinkSeen) (detail : Detail) → EndsLines lines (whole_run journal) s t detail → detail ≡ Done → lacks_memory journal ≡ false
whole_done journal lines s t detail (inl (is, wrote)) done = by (lacks_memory journal) (sym is ∙ done)
  where
    by : (b : Bool) → cond b Memory Done ≡ Done → b ≡ false
    by true e = cc e
    by false e = refl
whole_done journal lines s t detail (inr (inl (is, sent))) done = absurd (write_done (sym is ∙ done))
  where
    write_done : Write ≡ Done → ⊥
    write_done e = cc e
whole_done journal lines s t detail (inr (inr (is, sent))) done = absurd (memory_done (sym is ∙ done))
  where
    memory_done : Memory ≡ Done → ⊥
    memory_done e = cc e

-- what is told with proofs is audited
told_audited : (told : Told) (input : Input) (journal : Journal) → Legal input journal → AreDistinct (map (λ parameter. parameter.name) input.policy.params) → lacks_memory journal ≡ false →
    TellsClosed told input journal → TellsWritten told input journal → TellsAudited told input journal
told_audited telling.Lines input journal legal named none closed written = tt
told_audited telling.Proofs input journal legal named none closed written = output_audited input journal legal none named closed written
told_audited telling.Summary input journal legal named none closed written = tt
told_audited telling.Templates input journal legal named none closed written = tt

-- what was read, and then what was done with it
pub ran_task : (words : List (List ℕ)) (f g : FilesSeen) (s t : SinkSeen) (detail : Detail) (journal : Option Journal) (it : Task) → Reads words f g (Ok it) → RanTask it s t detail journal → Ran words f g s t detail journal
ran_task words f g s t detail (Some journal) (task.Run input told) follows (legal, headline, written, closed, readable) = record {
  input = input;
  told = told;
  read = follows;
  legal = legal;
  headline = headline;
  written = written;
  closed = closed;
  audited = λ done.
      told_audited told input journal legal (run_named words f g input told follows) (whole_done journal (told_lines told input journal) s t detail written done) (closed done) (readable done);
}
ran_task words f g s t detail None (task.Run input told) follows (is, same) = inr (inl (input, told, follows, is, same))
ran_task words f g s t detail (Some journal) (task.Print text) follows ends = absurd ends
ran_task words f g s t detail None (task.Print text) follows ends = inr (inr (inr (inl (record { text = text; read = follows; ends = ends }))))
ran_task words f g s t detail (Some journal) (task.Check proof) follows ends = absurd ends
ran_task words f g s t detail None (task.Check proof) follows ends = inr (inr (inl (record { proof = proof; read = follows; ends = ends })))
ran_task words f g s t detail (Some journal) (task.Audit input bytes) follows ends = absurd ends
ran_task words f g s t detail None (task.Audit input bytes) follows ends = inr (inr (inr (inr (record { input = input; bytes = bytes; read = follows; ends = ends }))))

-- How a command ended: by what the reading came to, or by the writing, or for want of memory.
Ended : List (List ℕ) → FilesSeen → FilesSeen → SinkSeen → SinkSeen → Detail → Type 0
Ended words f g s t detail =
    ((reading : Result Task (Stop Fault)) × Reads words f g reading × Ending (ComesTo reading) s t detail)

ended : (words : List (List ℕ)) (f g : FilesSeen) (s t : SinkSeen) (detail : Detail) (journal : Option Journal) → Ran words f g s t detail journal → Ended words f g s t detail
unfolding Ended
ended words f g s t detail (Some journal) it = (Ok (task.Run it.input it.told), it.read, runs_as it.input it.told journal s t detail it.written)
ended words f g s t detail None (inl (stop, follows, ends)) = (Err stop, follows, early_as (fault_of stop) s t detail ends)
ended words f g s t detail None (inr (inl (input, told, follows, is, same))) = (Ok (task.Run input told), follows, inr (inr is))
ended words f g s t detail None (inr (inr (inl it))) = (Ok (task.Check it.proof), it.read, checks_as it.proof s t detail it.ends)
ended words f g s t detail None (inr (inr (inr (inl it)))) = (Ok (task.Print it.text), it.read, ends_as (lines_of it.text) Done s t detail it.ends)
ended words f g s t detail None (inr (inr (inr (inr it)))) = (Ok (task.Audit it.input it.bytes), it.read, audits_as it.input it.bytes s t detail it.ends)

-- ---- read faults and long files

-- a reading that comes to a file that couldn't be read
abbrev ComesToRead : Result Task (Stop Fault) → List ℕ → Type 0
ComesToRead reading file = (reading ≡ Err (Unreadable file)) ⊎ (reading ≡ Err (Refused (fault.Read file)))

unreadable : (reading : Result Task (Stop Fault)) (file : List ℕ) → ComesTo reading (Faulted (fault.Read file)) → ComesToRead reading file
unreadable (Ok (task.Run input told)) file e = absurd (cc)
unreadable (Ok (task.Print text)) file e = absurd (cc)
unreadable (Ok (task.Check proof)) file e = absurd e
unreadable (Ok (task.Audit input bytes)) file e = absurd e
unreadable (Err (Refused it)) file e = let h : it ≡ fault.Read file = cc in inr (ap (λ z. Err (Refused z)) h)
unreadable (Err (Unreadable f)) file e = let h : f ≡ file = cc in inl (ap (λ z. Err (Unreadable z)) h)
unreadable (Err (TooLong f n)) file e = absurd (cc)
unreadable (Err NoMemory) file e = absurd (cc)

-- a reading that comes to a limit
abbrev ComesToLimit : Result Task (Stop Fault) → Counted → ℕ → Type 0
ComesToLimit reading what limit = (reading ≡ Err (Refused (fault.Limit what limit))) ⊎ ((what ≡ FileBytes) × ((file : List ℕ) × (reading ≡ Err (TooLong file limit))))

limit_of : (reading : Result Task (Stop Fault)) (what : Counted) (limit : ℕ) → ComesTo reading (Faulted (fault.Limit what limit)) → ComesToLimit reading what limit
limit_of (Ok (task.Run input told)) what limit e = absurd (cc)
limit_of (Ok (task.Print text)) what limit e = absurd (cc)
limit_of (Ok (task.Check proof)) what limit e = absurd e
limit_of (Ok (task.Audit input bytes)) what limit e = absurd e
limit_of (Err (Refused it)) what limit e = let h : it ≡ fault.Limit what limit = cc in inl (ap (λ z. Err (Refused z)) h)
limit_of (Err (Unreadable f)) what limit e = absurd (cc)
limit_of (Err (TooLong f n)) what limit e = let w : FileBytes ≡ what = cc in let h : n ≡ limit = cc in inr (sym w, (f, ap (λ z. Err (TooLong f z)) h))
limit_of (Err NoMemory) what limit e = absurd (cc)

told_read : (words : List (List ℕ)) (f g : FilesSeen) (reading : Result Task (Stop Fault)) (file : List ℕ) → Reads words f g reading → ComesToRead reading file → FailedAt file f g
told_read words f g reading file follows (inl is) = reads_failed words f g file (subst (λ z. Reads words f g z) is follows)
told_read words f g reading file follows (inr is) = absurd (refused_is words f g (fault.Read file) (subst (λ z. Reads words f g z) is follows))

pub ran_read : (words : List (List ℕ)) (f g : FilesSeen) (s t : SinkSeen) (detail : Detail) (journal : Option Journal) → Ran words f g s t detail journal → (file : List ℕ) → detail ≡ Faulted (fault.Read file) → FailedAt file f g
unfolding Ended
ran_read words f g s t detail journal ran file e = by_end (ended words f g s t detail journal ran)
  where
    by_end : Ended words f g s t detail → FailedAt file f g
    by_end (reading, follows, inl is) = told_read words f g reading file follows (unreadable reading file (subst (ComesTo reading) e is))
    by_end (reading, follows, inr (inl (is, rose))) = absurd (cc)
    by_end (reading, follows, inr (inr is)) = absurd (cc)

told_limit : (words : List (List ℕ)) (f g : FilesSeen) (reading : Result Task (Stop Fault)) (what : Counted) (limit : ℕ) → Reads words f g reading → ComesToLimit reading what limit → IsLimit words what limit f g
told_limit words f g reading what limit follows (inl is) = inl (subst (λ z. Reads words f g z) is follows)
told_limit words f g reading what limit follows (inr (bytes, (file, is))) = inr (bytes, (file, reads_long words f g file limit (subst (λ z. Reads words f g z) is follows)))

pub ran_limit : (words : List (List ℕ)) (f g : FilesSeen) (s t : SinkSeen) (detail : Detail) (journal : Option Journal) → Ran words f g s t detail journal → (what : Counted) (limit : ℕ) → detail ≡ Faulted (fault.Limit what limit) → IsLimit words what limit f g
unfolding Ended
ran_limit words f g s t detail journal ran what limit e = by_end (ended words f g s t detail journal ran)
  where
    by_end : Ended words f g s t detail → IsLimit words what limit f g
    by_end (reading, follows, inl is) = told_limit words f g reading what limit follows (limit_of reading what limit (subst (ComesTo reading) e is))
    by_end (reading, follows, inr (inl (is, rose))) = absurd (cc)
    by_end (reading, follows, inr (inr is)) = absurd (cc)

not_write : (reading : Result Task (Stop Fault)) → ¬ (ComesTo reading Write)
not_write (Ok (task.Run input told)) e = cc
not_write (Ok (task.Print text)) e = cc
not_write (Ok (task.Check proof)) e = e
not_write (Ok (task.Audit input bytes)) e = e
not_write (Err stop) e = by (fault_of stop) e
  where
    by : (it : Option Fault) → ¬ (Write ≡ faulted it)
    by (Some it) e = cc
    by None e = cc

pub ran_write : (words : List (List ℕ)) (f g : FilesSeen) (s t : SinkSeen) (detail : Detail) (journal : Option Journal) → Ran words f g s t detail journal → detail ≡ Write → Rose s.faults t.faults
unfolding Ended
ran_write words f g s t detail journal ran e = by_end (ended words f g s t detail journal ran)
  where
    by_end : Ended words f g s t detail → Rose s.faults t.faults
    by_end (reading, follows, inl is) = absurd (not_write reading (subst (ComesTo reading) e is))
    by_end (reading, follows, inr (inl (is, rose))) = rose
    by_end (reading, follows, inr (inr is)) = absurd (cc)

-- ---- proofs and outputs

not_done : (it : Option Fault) → ¬ (Done ≡ faulted it)
not_done (Some it) e = cc
not_done None e = cc

-- a stopped reading doesn't end as done
never_done : (it : Option Fault) (s t : SinkSeen) (detail : Detail) → detail ≡ Done → Ending (λ z. z ≡ faulted it) s t detail → ⊥
never_done it s t detail e (inl is) = not_done it (sym e ∙ is)
never_done it s t detail e (inr (inl (is, rose))) = cc
never_done it s t detail e (inr (inr is)) = cc

accepted : (proof : Proof) (s t : SinkSeen) (detail : Detail) → detail ≡ Done → Ending (IsVerdict proof) s t detail → IsAccepted proof
accepted proof s t detail e (inl is) = subst (IsVerdict proof) e is
accepted proof s t detail e (inr (inl (is, rose))) = absurd (cc)
accepted proof s t detail e (inr (inr is)) = absurd (cc)

passed : (input : Input) (bytes : List ℕ) (s t : SinkSeen) (detail : Detail) → detail ≡ Done → Ending (IsOutcome input bytes) s t detail → IsPassed input bytes
passed input bytes s t detail e (inl is) = subst (IsOutcome input bytes) e is
passed input bytes s t detail e (inr (inl (is, rose))) = absurd (cc)
passed input bytes s t detail e (inr (inr is)) = absurd (cc)

pub ran_accepted : (words : List (List ℕ)) (f g : FilesSeen) (s t : SinkSeen) (detail : Detail) (journal : Option Journal) → Ran words f g s t detail journal → Accepts words f g detail journal
ran_accepted words f g s t detail (Some journal) it = tt
ran_accepted words f g s t detail None (inl (stop, follows, ends)) = λ e. absurd (never_done (fault_of stop) s t detail e (early_as (fault_of stop) s t detail ends))
ran_accepted words f g s t detail None (inr (inl (input, told, follows, is, same))) = λ e. absurd (cc)
ran_accepted words f g s t detail None (inr (inr (inl it))) = λ e. inl (record {
  proof = it.proof;
  read = it.read;
  holds = accepted it.proof s t detail e (checks_as it.proof s t detail it.ends);
})
ran_accepted words f g s t detail None (inr (inr (inr (inl it)))) = λ e. inr (inr (it.text, it.read))
ran_accepted words f g s t detail None (inr (inr (inr (inr it)))) = λ e. inr (inl (record {
  input = it.input;
  bytes = it.bytes;
  read = it.read;
  holds = passed it.input it.bytes s t detail e (audits_as it.input it.bytes s t detail it.ends);
}))

-- a reading that ends so is of a proof that has the fault
rejects : (words : List (List ℕ)) (f g : FilesSeen) (reading : Result Task (Stop Fault)) (why : CheckFault) → Reads words f g reading → ComesTo reading (NotAccepted why) → Rejects words f g why
rejects words f g (Ok (task.Run input told)) why follows e = absurd (cc)
rejects words f g (Ok (task.Print text)) why follows e = absurd (cc)
rejects words f g (Ok (task.Check proof)) why follows is = record { proof = proof; read = follows; holds = is }
rejects words f g (Ok (task.Audit input bytes)) why follows e = absurd e
rejects words f g (Err stop) why follows e = absurd (by (fault_of stop) e)
  where
    by : (it : Option Fault) → ¬ (NotAccepted why ≡ faulted it)
    by (Some it) e = cc
    by None e = cc

pub ran_rejected : (words : List (List ℕ)) (f g : FilesSeen) (s t : SinkSeen) (detail : Detail) (journal : Option Journal) → Ran words f g s t detail journal → (why : CheckFault) → detail ≡ NotAccepted why → Rejects words f g why
unfolding Ended
ran_rejected words f g s t detail journal ran why e = by_end (ended words f g s t detail journal ran)
  where
    by_end : Ended words f g s t detail → Rejects words f g why
    by_end (reading, follows, inl is) = rejects words f g reading why follows (subst (ComesTo reading) e is)
    by_end (reading, follows, inr (inl (is, rose))) = absurd (cc)
    by_end (reading, follows, inr (inr is)) = absurd (cc)

-- a reading that ends so is of an output that has the fault
fails : (words : List (List ℕ)) (f g : FilesSeen) (reading : Result Task (Stop Fault)) (why : AuditFault) → Reads words f g reading → ComesTo reading (NotAudited why) → Fails words f g why
fails words f g (Ok (task.Run input told)) why follows e = absurd (cc)
fails words f g (Ok (task.Print text)) why follows e = absurd (cc)
fails words f g (Ok (task.Check proof)) why follows e = absurd e
fails words f g (Ok (task.Audit input bytes)) why follows is = record { input = input; bytes = bytes; read = follows; holds = is }
fails words f g (Err stop) why follows e = absurd (by (fault_of stop) e)
  where
    by : (it : Option Fault) → ¬ (NotAudited why ≡ faulted it)
    by (Some it) e = cc
    by None e = cc

pub ran_failed : (words : List (List ℕ)) (f g : FilesSeen) (s t : SinkSeen) (detail : Detail) (journal : Option Journal) → Ran words f g s t detail journal → (why : AuditFault) → detail ≡ NotAudited why → Fails words f g why
unfolding Ended
ran_failed words f g s t detail journal ran why e = by_end (ended words f g s t detail journal ran)
  where
    by_end : Ended words f g s t detail → Fails words f g why
    by_end (reading, follows, inl is) = fails words f g reading why follows (subst (ComesTo reading) e is)
    by_end (reading, follows, inr (inl (is, rose))) = absurd (cc)
    by_end (reading, follows, inr (inr is)) = absurd (cc)

-- ---- told files

pub ran_asked : (contents : Contents) (words : List (List ℕ)) (f g : FilesSeen) (s t : SinkSeen) (detail : Detail) (journal : Option Journal) → Ran words f g s t detail journal → f.held ≡ Some contents → AsksFront f.asked g.asked (names_of contents (plan_of words))
unfolding Ended
ran_asked contents words f g s t detail journal ran told = by_end (ended words f g s t detail journal ran)
  where
    by_end : Ended words f g s t detail → AsksFront f.asked g.asked (names_of contents (plan_of words))
    by_end (reading, follows, end) = reads_front contents words f g reading told follows

-- where something is told
pub if_told : (held : Option Contents) (P : Contents → Type 0) → ((contents : Contents) → held ≡ Some contents → P contents) → IfSome held P
if_told None P h = tt
if_told (Some contents) P h = h contents refl

some_comes : (MayBe : Result Task (Stop Fault) → Type 0) (reading : Result Task (Stop Fault)) (detail : Detail) → MayBe reading → ComesTo reading detail → SomeComesTo MayBe detail
some_comes MayBe reading detail may comes = record { reading = reading; may_be = may; comes = comes }

-- what the files come to is told
tells : (MayBe : Result Task (Stop Fault) → Type 0) (detail : Detail) → SomeComesTo MayBe detail → Tells detail MayBe
tells MayBe Done is = is
tells MayBe (NotAccepted why) is = is
tells MayBe (NotAudited why) is = is
tells MayBe (Faulted fault.Words) is = is
tells MayBe (Faulted (fault.Input file reason)) is = is
tells MayBe (Faulted (fault.Read file)) is = tt
tells MayBe (Faulted (fault.Limit what limit)) is = is
tells MayBe Write is = tt
tells MayBe Memory is = tt

-- what the reading came to tells of the words and the files
tells_of : (MayBe : Result Task (Stop Fault) → Type 0) (reading : Result Task (Stop Fault)) (detail : Detail) → IsSettled reading MayBe → ComesTo reading detail → Tells detail MayBe
tells_of MayBe (Ok it) detail e is = tells MayBe detail (some_comes MayBe (Ok it) detail e is)
tells_of MayBe (Err (Refused r)) detail e is = tells MayBe detail (some_comes MayBe (Err (Refused r)) detail e is)
tells_of MayBe (Err (Unreadable f)) detail e is = subst (λ z. Tells z MayBe) (sym is) tt
tells_of MayBe (Err (TooLong f n)) detail e is = tells MayBe detail (some_comes MayBe (Err (TooLong f n)) detail e is)
tells_of MayBe (Err NoMemory) detail e is = subst (λ z. Tells z MayBe) (sym is) tt

pub ran_told : (contents : Contents) (words : List (List ℕ)) (f g : FilesSeen) (s t : SinkSeen) (detail : Detail) (journal : Option Journal) → Ran words f g s t detail journal → f.held ≡ Some contents → Tells detail (Outcome contents words)
unfolding Ended
ran_told contents words f g s t detail journal ran told = by_end (ended words f g s t detail journal ran)
  where
    by_end : Ended words f g s t detail → Tells detail (Outcome contents words)
    by_end (reading, follows, inl is) = tells_of (Outcome contents words) reading detail (reads_settled contents words f g reading told follows) is
    by_end (reading, follows, inr (inl (is, rose))) = subst (λ z. Tells z (Outcome contents words)) (sym is) tt
    by_end (reading, follows, inr (inr is)) = subst (λ z. Tells z (Outcome contents words)) (sym is) tt

-- without a read fault the command comes to what the files come to, or memory ran out
whole_of : (words : List (List ℕ)) (f g : FilesSeen) (MayBe : Result Task (Stop Fault) → Type 0) (reading : Result Task (Stop Fault)) (detail : Detail) → IsSettled reading MayBe → Reads words f g reading → ¬ Rose f.faults g.faults → ComesTo reading detail → (detail ≡ Memory) ⊎ SomeComesTo MayBe detail
whole_of words f g MayBe (Ok it) detail e follows calm is = inr (some_comes MayBe (Ok it) detail e is)
whole_of words f g MayBe (Err (Refused r)) detail e follows calm is = inr (some_comes MayBe (Err (Refused r)) detail e is)
whole_of words f g MayBe (Err (Unreadable file)) detail e follows calm is = absurd (calm (reads_failed words f g file follows).rose)
whole_of words f g MayBe (Err (TooLong file n)) detail e follows calm is = inr (some_comes MayBe (Err (TooLong file n)) detail e is)
whole_of words f g MayBe (Err NoMemory) detail e follows calm is = inl is

pub ran_complete : (contents : Contents) (words : List (List ℕ)) (f g : FilesSeen) (s t : SinkSeen) (detail : Detail) (journal : Option Journal) → Ran words f g s t detail journal → f.held ≡ Some contents
    → ¬ Rose f.faults g.faults → ¬ Rose s.faults t.faults → (detail ≡ Memory) ⊎ SomeComesTo (Outcome contents words) detail
unfolding Ended
ran_complete contents words f g s t detail journal ran told calm still = by_end (ended words f g s t detail journal ran)
  where
    by_end : Ended words f g s t detail → (detail ≡ Memory) ⊎ SomeComesTo (Outcome contents words) detail
    by_end (reading, follows, inl is) = whole_of words f g (Outcome contents words) reading detail (reads_settled contents words f g reading told follows) follows calm is
    by_end (reading, follows, inr (inl (is, rose))) = absurd (still rose)
    by_end (reading, follows, inr (inr is)) = inl is

-- a run with a journal was served
pub ran_headline : (words : List (List ℕ)) (f g : FilesSeen) (s t : SinkSeen) (detail : Detail) (journal : Option Journal) → Ran words f g s t detail journal → IfSome journal (Served words f g s t detail)
ran_headline words f g s t detail (Some journal) served = served
ran_headline words f g s t detail None ran = tt

pub ran_ideal : (words : List (List ℕ)) (f g : FilesSeen) (s t : SinkSeen) (detail : Detail) (journal : Option Journal) → Ran words f g s t detail journal → IfSome journal (ServedIdeally words f g s t detail)
ran_ideal words f g s t detail (Some journal) it = record { served = it; ideal = legal_is_ideal it.input journal it.legal }
ran_ideal words f g s t detail None ran = tt
