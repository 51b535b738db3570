-- How an audit goes on, and how it ends, by what its parts tell.
use Rattle.std.proofs.Common.{◌≡◌, ◌∙◌, refl, sym, ap, subst, ℕ, ◌+◌, ◌<◌, ◌≤◌, inl, inr, List, [], ◌∷◌, ◌++◌, length, drop, Bool, true, false, Option, Some, None, Result, Ok, Err, map, IsTrue, length-append, arith}
use Rattle.std.proofs.lemmas.List.{at_drop_all}
use Rattle.std.specs.List.{All}
use Rattle.std.specs.Prelude.{nat_lt, slice_get}
use Rattle.std.specs.Result.{IfErr, OnOk}
use Rattle.ba_model.specs.Readings.{OfFault}
use Rattle.ba_model.specs.declared.failure.Failure.{Failure}
use Rattle.ba_model.specs.declared.failure.Failure.TheVariants.{NoMemory, Fault}
use Rattle.ba_script.specs.declared.entry.ScriptEntry.{ScriptEntry}
use Rattle.ba_printed.specs.Lines.{printed_lines}
use Rattle.ba_printed.specs.Reading.{printed_of}
use Rattle.ba_printed.specs.declared.line.PrintedLine.TheVariants as printed
use Rattle.ba_wire.specs.declared.summary.Summary.{Summary}
use Rattle.ba_audit.specs.Audits.{AllPass, AllShow, FailsAt, IsAudited, IsFirstFault, IsSound, Output, TellsAudited, TellsFault, basis_of, feeds, places, readings, unaudited_of}
use Rattle.ba_audit.specs.Keeping.{IsEnded, IsLast, IsOf, MeetsCounted, MeetsLast, MeetsTaken, Reached, Takes, Tracks, after_last, basis_at, located_at}
use Rattle.ba_audit.specs.Lines.{Basis, Line, Place, Reading, entry, is_unaudited, line_at, summary_of, total, unaudited_in}
use Rattle.ba_audit.specs.Tests.{IsFirstUnmet, MeetsAll, MeetsForm, MeetsReading, MeetsTotal}
use Rattle.ba_audit.specs.declared.against.Against.{Against}
use Rattle.ba_wire.specs.declared.audit.AuditFault.{AuditFault}
use Rattle.ba_wire.specs.declared.audit.AuditFault.TheVariants.{At}
use Rattle.ba_wire.specs.declared.audit.Audited.{Audited}
use Rattle.ba_wire.specs.declared.audit.AuditReason.{AuditReason as Reason}
use Rattle.ba_wire.specs.declared.audit.AuditReason.TheVariants.{Count}
use Rattle.ba_audit.specs.declared.told.Told.{Told}
use Rattle.ba_audit.proofs.HeardLemmas.{located_fault, located_ok}
use Rattle.ba_audit.proofs.ReachLemmas.{drop_places, fails_here, reached_more}
use Rattle.ba_audit.proofs.TestLemmas.{all_as, first_as}

-- ---- the next line

module _ (it : Output) (against : Against) (ended : ℕ) (script : List ScriptEntry) (of : IsOf it against ended script) (i : ℕ) (e : ScriptEntry) (at : slice_get script i ≡ Some e) (old : Told) where
  here : slice_get it.script i ≡ Some e
  here = subst (λ s. slice_get s i ≡ Some e) (sym of.script_is) at

  module _ (bytes : List ℕ) (all left : List (List ℕ)) (next : all ≡ bytes ∷ left) (reached : Reached it i all old) where
    went_on : (new : Told) → Takes (basis_at against) (nat_lt i ended) (i + 1) e (printed_of against.policy.now bytes) old new → Reached it (i + 1) left new
    went_on new takes =
        reached_more it of.input.sets_are of.input.contexts i e here bytes all left next old reached new
        (subst (λ n. Takes (basis_of it) (nat_lt i n) (i + 1) e (printed_of it.policy bytes) old new) of.ended_is
        (subst (λ b. Takes b (nat_lt i ended) (i + 1) e (printed_of b.policy bytes) old new) (sym of.basis) takes))

    stopped : (reason : Reason) → IsFirstUnmet (MeetsTaken (basis_at against) (nat_lt i ended) (i + 1) old e (printed_of against.policy.now bytes)) reason → IsFirstFault it (i + 1) reason
    stopped reason unmet =
        fails_here it of.input.sets_are of.input.contexts i e here bytes all left next old reached reason
        (subst (λ n. IsFirstUnmet (MeetsTaken (basis_of it) (nat_lt i n) (i + 1) old e (printed_of it.policy bytes)) reason) of.ended_is
        (subst (λ b. IsFirstUnmet (MeetsTaken b (nat_lt i ended) (i + 1) old e (printed_of b.policy bytes)) reason) (sym of.basis) unmet))

    pub next_ok : {T : Type 0} (new : Told) (taken : Result T (Failure Reason)) (r : Result T (Failure AuditFault)) → r ≡ located_at (i + 1) taken →
        OnOk taken (Takes (basis_at against) (nat_lt i ended) (i + 1) e (printed_of against.policy.now bytes) old new) → OnOk r (Reached it (i + 1) left new)
    next_ok new taken r is h = subst (λ z. OnOk z (Reached it (i + 1) left new)) (sym is) (located_ok (i + 1) taken (went_on new) h)

    pub next_fault : {T : Type 0} (taken : Result T (Failure Reason)) (r : Result T (Failure AuditFault)) → r ≡ located_at (i + 1) taken →
        IfErr taken (λ failure. OfFault failure (IsFirstUnmet (MeetsTaken (basis_at against) (nat_lt i ended) (i + 1) old e (printed_of against.policy.now bytes)))) → IfErr r (λ failure. OfFault failure (TellsFault it))
    next_fault taken r is h =
        subst (λ z. IfErr z (λ failure. OfFault failure (TellsFault it))) (sym is)
        (located_fault (i + 1) taken (IsFirstUnmet (MeetsTaken (basis_at against) (nat_lt i ended) (i + 1) old e (printed_of against.policy.now bytes))) (TellsFault it) stopped h)

  pub next_missing : (all : List (List ℕ)) → all ≡ [] → Reached it i all old → IsFirstFault it (i + 1) Count
  next_missing all none reached =
      reached.fails (i + 1) Count
      (subst (λ ls. FailsAt (basis_of it) (feeds it.bytes) reached.before (places (drop i it.script)) (map (printed_of it.policy) ls) (i + 1) Count) (sym none)
      (subst (λ ps. FailsAt (basis_of it) (feeds it.bytes) reached.before ps [] (i + 1) Count) (sym (drop_places it.script i e here)) (ap (λ n. n + 1) (sym reached.count), refl)))

-- ---- the last line

ended_places : (es : List ScriptEntry) → places (drop (length es) es) ≡ total ∷ []
ended_places es = at_drop_all places es (length es) (omega arith)

last_none : (ended : Bool) (counted : Summary) (reading : Reading) → IsLast ended counted reading → unaudited_of (reading ∷ []) ≡ 0
unfolding is_unaudited
last_none ended counted reading last = ap (λ r. unaudited_of (r ∷ [])) last.is

pushed : (ls : List Line) (l : Line) (n : ℕ) → length ls ≡ n → n + 1 ≡ length (ls ++ l ∷ [])
pushed ls l n is = omega (arith, length-append ls (l ∷ []), is)

plus_none : (a b c : ℕ) → b ≡ 0 → a + b ≡ c → a ≡ c
plus_none a b c none is = omega (arith, none, is)

module _ (it : Output) (against : Against) (ended : ℕ) (of : IsOf it against ended it.script) (n : ℕ) (end : n ≡ length it.script) (told : Told) (bytes : List ℕ) (all : List (List ℕ)) (left : List (List ℕ))
    (next : all ≡ bytes ∷ left) (reached : Reached it n all told) where
  abbrev pub reading : Reading
  reading = printed_of it.policy bytes

  abbrev pub at_end : Bool
  at_end = nat_lt (length reached.before) (feeds it.bytes)

  places_are : places (drop n it.script) ≡ total ∷ []
  places_are = ap (λ m. places (drop m it.script)) end ∙ ended_places it.script

  to_total : (r : Reading) (reason : Reason) → MeetsLast at_end told.summary r reason → MeetsReading at_end (basis_of it) reached.before total r reason
  to_total (Ok line) reason h = (h.0, subst (λ s. MeetsTotal s line reason) reached.tracks.summary h.1)
  to_total (Err why) reason h = (h.0, tt)

  from_total : (r : Reading) (reason : Reason) → MeetsReading at_end (basis_of it) reached.before total r reason → MeetsLast at_end told.summary r reason
  from_total (Ok line) reason h = (h.0, subst (λ s. MeetsTotal s line reason) (sym reached.tracks.summary) h.1)
  from_total (Err why) reason h = (h.0, tt)

  fails_with : (m : ℕ) (reason : Reason) → FailsAt (basis_of it) (feeds it.bytes) reached.before (total ∷ []) (map (printed_of it.policy) (bytes ∷ left)) m reason → IsFirstFault it m reason
  fails_with m reason h =
      reached.fails m reason
      (subst (λ ls. FailsAt (basis_of it) (feeds it.bytes) reached.before (places (drop n it.script)) (map (printed_of it.policy) ls) m reason) (sym next)
      (subst (λ ps. FailsAt (basis_of it) (feeds it.bytes) reached.before ps (map (printed_of it.policy) (bytes ∷ left)) m reason) (sym places_are) h))

  seen_last : IsLast (nat_lt n ended) told.summary (printed_of against.policy.now bytes) → IsLast at_end told.summary reading
  seen_last last =
      subst (λ m. IsLast (nat_lt m (feeds it.bytes)) told.summary reading) (sym reached.count)
      (subst (λ k. IsLast (nat_lt n k) told.summary reading) of.ended_is
      (subst (λ b. IsLast (nat_lt n ended) told.summary (printed_of b.policy bytes)) (sym of.basis) last))

  seen_unmet : (reason : Reason) → IsFirstUnmet (MeetsLast (nat_lt n ended) told.summary (printed_of against.policy.now bytes)) reason → IsFirstUnmet (MeetsLast at_end told.summary reading) reason
  seen_unmet reason unmet =
      subst (λ m. IsFirstUnmet (MeetsLast (nat_lt m (feeds it.bytes)) told.summary reading) reason) (sym reached.count)
      (subst (λ k. IsFirstUnmet (MeetsLast (nat_lt n k) told.summary reading) reason) of.ended_is
      (subst (λ b. IsFirstUnmet (MeetsLast (nat_lt n ended) told.summary (printed_of b.policy bytes)) reason) (sym of.basis) unmet))

  meets_total : IsLast at_end told.summary reading → MeetsAll (MeetsReading at_end (basis_of it) reached.before total reading)
  meets_total last = all_as (MeetsLast at_end told.summary reading) (MeetsReading at_end (basis_of it) reached.before total reading) (to_total reading) last.meets

  whole : left ≡ [] → IsLast at_end told.summary reading → IsEnded it told
  whole none last =
      let one : all ≡ bytes ∷ [] = next ∙ ap (λ ls. bytes ∷ ls) none in
      record {
        audited = reached.passes
            (subst (λ ls. AllPass (basis_of it) (feeds it.bytes) reached.before (places (drop n it.script)) (map (printed_of it.policy) ls)) (sym one)
            (subst (λ ps. AllPass (basis_of it) (feeds it.bytes) reached.before ps (reading ∷ [])) (sym places_are) (meets_total last, tt)));
        sound = reached.shows
            (subst (λ ls. AllShow (basis_of it) reached.before (places (drop n it.script)) (map (printed_of it.policy) ls)) (sym one)
            (subst (λ ps. AllShow (basis_of it) reached.before ps (reading ∷ [])) (sym places_are) (tt, tt)));
        unaudited = reached.tracks.unaudited
            ∙ plus_none (unaudited_in reached.before) (unaudited_of (reading ∷ [])) (unaudited_of (readings it.policy it.bytes)) (last_none at_end told.summary reading last)
            (subst (λ ls. unaudited_in reached.before + unaudited_of (map (printed_of it.policy) ls) ≡ unaudited_of (readings it.policy it.bytes)) one reached.unaudited);
      }

  more_left : (line : List ℕ) (lines : List (List ℕ)) → left ≡ line ∷ lines → IsLast at_end told.summary reading → IsFirstFault it (n + 1 + 1) Count
  more_left line lines some last =
      fails_with (n + 1 + 1) Count
      (subst (λ ls. FailsAt (basis_of it) (feeds it.bytes) reached.before (total ∷ []) (map (printed_of it.policy) (bytes ∷ ls)) (n + 1 + 1) Count) (sym some)
      (inr (meets_total last, (counted, refl))))
    where
      counted : n + 1 + 1 ≡ length (reached.before ++ line_at total reading ∷ []) + 1
      counted = ap (λ m. m + 1) (pushed (reached.before) (line_at total reading) n reached.count)

  last_stops : (reason : Reason) → IsFirstUnmet (MeetsLast (nat_lt n ended) told.summary (printed_of against.policy.now bytes)) reason → IsFirstFault it (n + 1) reason
  last_stops reason unmet =
      fails_with (n + 1) reason
      (inl (ap (λ m. m + 1) (sym reached.count), first_as (MeetsLast at_end told.summary reading) (MeetsReading at_end (basis_of it) reached.before total reading) (to_total reading) (from_total reading) reason (seen_unmet reason unmet)))

  pub last_ok_at : {T : Type 0} (tested : Result T (Failure Reason)) (rest : List (List ℕ)) → rest ≡ left → OnOk tested (IsLast (nat_lt n ended) told.summary (printed_of against.policy.now bytes)) →
      OnOk (after_last (n + 1) (located_at (n + 1) tested) rest) (IsEnded it told)
  unfolding located_at
  last_ok_at (Ok x) [] is last = whole (sym is) (seen_last last)
  last_ok_at (Ok x) (line ∷ lines) is last = tt
  last_ok_at (Err NoMemory) rest is last = tt
  last_ok_at (Err (Fault reason)) rest is last = tt

  pub last_fault_at : {T : Type 0} (tested : Result T (Failure Reason)) (rest : List (List ℕ)) → rest ≡ left → OnOk tested (IsLast (nat_lt n ended) told.summary (printed_of against.policy.now bytes)) →
      IfErr tested (λ failure. OfFault failure (IsFirstUnmet (MeetsLast (nat_lt n ended) told.summary (printed_of against.policy.now bytes)))) →
      IfErr (after_last (n + 1) (located_at (n + 1) tested) rest) (λ failure. OfFault failure (TellsFault it))
  unfolding located_at
  last_fault_at (Ok x) [] is last unmet = tt
  last_fault_at (Ok x) (line ∷ lines) is last unmet = more_left line lines (sym is) (seen_last last)
  last_fault_at (Err NoMemory) rest is last unmet = tt
  last_fault_at (Err (Fault reason)) rest is last unmet = last_stops reason unmet

pub last_missing : (it : Output) (n : ℕ) → n ≡ length it.script → (told : Told) (all : List (List ℕ)) → all ≡ [] → Reached it n all told → IsFirstFault it (n + 1) Count
last_missing it n end told all none reached =
    reached.fails (n + 1) Count
    (subst (λ ls. FailsAt (basis_of it) (feeds it.bytes) reached.before (places (drop n it.script)) (map (printed_of it.policy) ls) (n + 1) Count) (sym none)
    (subst (λ ps. FailsAt (basis_of it) (feeds it.bytes) reached.before ps [] (n + 1) Count) (sym (ap (λ m. places (drop m it.script)) end ∙ ended_places it.script)) (ap (λ m. m + 1) (sym reached.count), refl)))

-- ---- before any line, and at the end

none_before : (n : ℕ) → 0 + n ≡ n
none_before n = omega arith

pub reached_start : (it : Output) (lines : List (List ℕ)) (told : Told) → lines ≡ printed_lines it.bytes → ((basis : Basis) → Tracks basis [] told) → Reached it 0 lines told
reached_start it lines told are tracks = record {
  before = [];
  tracks = tracks (basis_of it);
  count = refl;
  passes = subst (λ ls. AllPass (basis_of it) (feeds it.bytes) [] (places it.script) (map (printed_of it.policy) ls) → IsAudited it) (sym are) (λ h. h);
  fails = λ m reason. subst (λ ls. FailsAt (basis_of it) (feeds it.bytes) [] (places it.script) (map (printed_of it.policy) ls) m reason → IsFirstFault it m reason) (sym are) (λ h. h);
  shows = subst (λ ls. AllShow (basis_of it) [] (places it.script) (map (printed_of it.policy) ls) → IsSound it) (sym are) (λ h. h);
  unaudited = none_before (unaudited_of (map (printed_of it.policy) lines)) ∙ ap (λ ls. unaudited_of (map (printed_of it.policy) ls)) are;
}

-- where as many lines passed as there are
pub reached_last : (it : Output) (i last : ℕ) → i ≤ last → last ≤ i → (left : List (List ℕ)) (told : Told) → Reached it i left told → Reached it last left told
reached_last it i last to from left told reached =
    let same : i ≡ last = omega (arith, to, from) in
    subst (λ n. Reached it n left told) same reached

pub told_audited : (it : Output) (told : Told) (n : ℕ) → n ≡ length it.script → IsEnded it told → TellsAudited it (record { lines = n; unaudited = told.unaudited })
told_audited it told n end ended = record { audited = ended.audited; lines = end; unaudited = ended.unaudited }

-- where the line feeds are counted
pub of_ended : (it : Output) (against : Against) (ended counted : ℕ) (script : List ScriptEntry) → ended ≡ counted → IsOf it against counted script → IsOf it against ended script
of_ended it against ended counted script is of = record { basis = of.basis; ended_is = is ∙ of.ended_is; script_is = of.script_is; input = of.input }
