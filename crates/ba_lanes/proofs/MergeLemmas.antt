-- What each lane does with its lines is what becomes of all lines.
use Rattle.std.proofs.Common.{◌≡◌, ◌≢◌, ◌∙◌, refl, sym, ap, ap₂, subst, ℕ, ◌<◌, ◌%◌, ◌⊎◌, inl, inr, List, [], ◌∷◌, ◌++◌, map, Option, Some, None}
use Rattle.std.proofs.lemmas.List.{length-map}
use Rattle.std.proofs.lemmas.List.Elements.{Contains-append_left, Contains-push, Contains-push_cases}
use Rattle.std.specs.Prelude.{Contains}
use native.Mathlib.Nat.{mod-lt}
use Rattle.ba_input.specs.declared.input.Input.{Input}
use Rattle.ba_script.specs.declared.entry.ScriptEntry.{ScriptEntry}
use Rattle.ba_script.specs.declared.entry.ScriptEntry.TheVariants as said
use Rattle.ba_tables.specs.TableSet.{TableSet}
use Rattle.ba_lanes.proofs.LineLemmas as lines
use Rattle.ba_lanes.proofs.ServeLemmas.{BeginsNot, answers_other, asked_is_no_begin, begins_not, end_is_no_begin, entry_same, memory_is_no_begin, other_begins_not, publish_is_no_begin, read_is_no_begin, reads_quiet, same_length, trace_more}
use Rattle.ba_lanes.specs.Legal.{AreServed, IsLost, IsServed, LineDone, answer_of, asked, begins, lane_of, number_in, read_as, trace_of}
use Rattle.ba_lanes.specs.Serving.{lines_in}
use Rattle.ba_lanes.specs.Working.{AreMerged}
use Rattle.ba_lanes.specs.declared.journal.Entry.{Entry}
use Rattle.ba_lanes.specs.declared.journal.Entry.TheVariants.{End, Publish, Memory}
use Rattle.ba_lanes.specs.declared.journal.LineKind.{LineKind}
use Rattle.ba_lanes.specs.declared.journal.LineKind.TheVariants as kinds

-- each line has a lane
pub lane_low : (input : Input) → 0 < input.workers → (line : ScriptEntry) → lane_of input.workers line < input.workers
lane_low input some line = mod-lt (number_in line) some

-- ---- a line is of no other request

quiet_other : (input : Input) (earlier : List LineDone) (line : ScriptEntry) (it : LineDone) (number : ℕ) → IsServed input earlier line it → number ≢ number_in line → answer_of number it.entry ≡ []
quiet_other input earlier (said.Begin request name context) it number (inl h) differ = ap (answer_of number) (entry_same it (begins request h.version h.tables) h.is)
quiet_other input earlier (said.Begin request name context) it number (inr h) differ = ap (answer_of number) h.entry_is
quiet_other input earlier (said.Ask request name text) it number (inl h) differ = ap (λ (z : LineDone). answer_of number z.entry) h.is ∙ answers_other request h.asker.version number h.reply differ
quiet_other input earlier (said.Ask request name text) it number (inr h) differ = ap (λ (z : LineDone). answer_of number z.entry) h.unserved
quiet_other input earlier (said.Read request name key args qs) it number (inl h) differ = ap (λ (z : LineDone). answer_of number z.entry) h.is ∙ reads_quiet request h.asker.version key number h.reply
quiet_other input earlier (said.Read request name key args qs) it number (inr h) differ = ap (λ (z : LineDone). answer_of number z.entry) h.unserved
quiet_other input earlier (said.End request name) it number (inl h) differ = ap (λ (z : LineDone). answer_of number z.entry) h.is
quiet_other input earlier (said.End request name) it number (inr h) differ = ap (λ (z : LineDone). answer_of number z.entry) h.unserved
quiet_other input earlier (said.Publish n set) it number (inl h) differ = ap (λ (z : LineDone). answer_of number z.entry) h.is
quiet_other input earlier (said.Publish n set) it number (inr h) differ = ap (λ (z : LineDone). answer_of number z.entry) h

of_memory : (it : LineDone) (kind : LineKind) (request version : Option ℕ) (number : ℕ) → it.entry ≡ Memory kind request version → BeginsNot it number
of_memory it kind request version number is = begins_not it (Memory kind request version) number is (memory_is_no_begin kind request version)

begins_no_other : (input : Input) (earlier : List LineDone) (line : ScriptEntry) (it : LineDone) (number : ℕ) → IsServed input earlier line it → number ≢ number_in line → BeginsNot it number
begins_no_other input earlier (said.Begin request name context) it number (inl h) differ = λ version tables same. other_begins_not request h.version h.tables number differ version tables (sym h.is ∙ same)
begins_no_other input earlier (said.Begin request name context) it number (inr h) differ = of_memory it kinds.Begin (Some request) None number h.entry_is
begins_no_other input earlier (said.Ask request name text) it number (inl h) differ =
    begins_not it (asked request h.asker.version h.reply) number (ap (λ (z : LineDone). z.entry) h.is) (asked_is_no_begin request h.asker.version h.reply)
begins_no_other input earlier (said.Ask request name text) it number (inr h) differ = of_memory it kinds.Ask (Some request) None number (ap (λ (z : LineDone). z.entry) h.unserved)
begins_no_other input earlier (said.Read request name key args qs) it number (inl h) differ =
    begins_not it (read_as request h.asker.version key h.reply) number (ap (λ (z : LineDone). z.entry) h.is) (read_is_no_begin request h.asker.version key h.reply)
begins_no_other input earlier (said.Read request name key args qs) it number (inr h) differ = of_memory it kinds.Read (Some request) None number (ap (λ (z : LineDone). z.entry) h.unserved)
begins_no_other input earlier (said.End request name) it number (inl h) differ = begins_not it (End request h.version) number (ap (λ (z : LineDone). z.entry) h.is) (end_is_no_begin request h.version)
begins_no_other input earlier (said.End request name) it number (inr h) differ = of_memory it kinds.End (Some request) None number (ap (λ (z : LineDone). z.entry) h.unserved)
begins_no_other input earlier (said.Publish n set) it number (inl h) differ = begins_not it (Publish h.version) number (ap (λ (z : LineDone). z.entry) h.is) (publish_is_no_begin h.version)
begins_no_other input earlier (said.Publish n set) it number (inr h) differ = of_memory it kinds.Publish None None number (ap (λ (z : LineDone). z.entry) h)

-- ---- what a lane sees of all lines

-- for the requests of the lane k, the earlier lines of the lane tell what all earlier lines tell
pub record Sees (input : Input) (k : ℕ) (own all : List LineDone) : Type 0 where
  pub traces : (number : ℕ) → number % input.workers ≡ k → trace_of number all ≡ trace_of number own
  pub begun : (number version : ℕ) (tables : TableSet) → number % input.workers ≡ k → Contains own (begins number version tables) → Contains all (begins number version tables)
  pub lost : (number : ℕ) → number % input.workers ≡ k → IsLost own number → IsLost all number

sees_none : (input : Input) (k : ℕ) → Sees input k [] []
sees_none input k = record { traces = λ number mine. refl; begun = λ number version tables mine h. h; lost = λ number mine h. h }

module _ (input : Input) where
  pub lift : (own all : List LineDone) (line : ScriptEntry) (it : LineDone) → Sees input (lane_of input.workers line) own all → IsServed input own line it → IsServed input all line it
  lift own all (said.Begin request name context) it sees h = h
  lift own all (said.Ask request name text) it sees (inl h) = inl (record {
    asker = h.asker;
    asks = record {
      begun = sees.begun request h.asker.version h.asker.tables refl h.asks.begun;
      context = h.asks.context;
      trace = h.asks.trace ∙ sym (sees.traces request refl);
    };
    reply = h.reply;
    calls = h.calls;
    replies = h.replies;
    is = h.is;
  })
  lift own all (said.Ask request name text) it sees (inr h) = inr (record { lost = sees.lost request refl h.lost; unserved = h.unserved })
  lift own all (said.Read request name key args qs) it sees (inl h) = inl (record {
    asker = h.asker;
    asks = record {
      begun = sees.begun request h.asker.version h.asker.tables refl h.asks.begun;
      context = h.asks.context;
      trace = h.asks.trace ∙ sym (sees.traces request refl);
    };
    key = h.key;
    key_is = h.key_is;
    reply = h.reply;
    calls = h.calls;
    reads = h.reads;
    through = h.through;
    is = h.is;
  })
  lift own all (said.Read request name key args qs) it sees (inr h) = inr (record { lost = sees.lost request refl h.lost; unserved = h.unserved })
  lift own all (said.End request name) it sees (inl h) = inl (record { version = h.version; tables = h.tables; begun = sees.begun request h.version h.tables refl h.begun; is = h.is })
  lift own all (said.End request name) it sees (inr h) = inr (record { lost = sees.lost request refl h.lost; unserved = h.unserved })
  lift own all (said.Publish n set) it sees h = h

  pub sees_own : (own all : List LineDone) (line : ScriptEntry) (it : LineDone) → Sees input (lane_of input.workers line) own all → IsServed input own line it →
      Sees input (lane_of input.workers line) (own ++ it ∷ []) (all ++ it ∷ [])
  sees_own own all line it sees h = record {
    traces = λ number mine. trace_more number all it ∙ ap (λ z. z ++ answer_of number it.entry) (sees.traces number mine) ∙ sym (trace_more number own it);
    begun = λ number version tables mine there. begun number version tables mine (Contains-push_cases own it (begins number version tables) there);
    lost = λ number mine none version tables there. lost number mine none version tables (Contains-push_cases all it (begins number version tables) there);
  }
    where
      begun : (number version : ℕ) (tables : TableSet) → number % input.workers ≡ lane_of input.workers line → Contains own (begins number version tables) ⊎ (it ≡ begins number version tables) → Contains (all ++ it ∷ []) (begins number version tables)
      begun number version tables mine (inl there) = Contains-append_left all (it ∷ []) (begins number version tables) (sees.begun number version tables mine there)
      begun number version tables mine (inr same) = subst (Contains (all ++ it ∷ [])) same (Contains-push all it)

      lost : (number : ℕ) → number % input.workers ≡ lane_of input.workers line → IsLost (own ++ it ∷ []) number → (version : ℕ) (tables : TableSet) →
          Contains all (begins number version tables) ⊎ (it ≡ begins number version tables) → ⊥
      lost number mine none version tables (inl there) = sees.lost number mine (λ v t inside. none v t (Contains-append_left own (it ∷ []) (begins number v t) inside)) version tables there
      lost number mine none version tables (inr same) = none version tables (subst (Contains (own ++ it ∷ [])) same (Contains-push own it))

  pub sees_other : (k : ℕ) (own all earlier : List LineDone) (line : ScriptEntry) (it : LineDone) → Sees input k own all → lane_of input.workers line ≢ k → IsServed input earlier line it → Sees input k own (all ++ it ∷ [])
  sees_other k own all earlier line it sees differ h = record {
    traces = λ number mine.
        trace_more number all it ∙ ap₂ (λ y z. y ++ z) (sees.traces number mine) (quiet_other input earlier line it number h (other number mine)) ∙ lines.nothing_more (trace_of number own);
    begun = λ number version tables mine there. Contains-append_left all (it ∷ []) (begins number version tables) (sees.begun number version tables mine there);
    lost = λ number mine none version tables there. lost number mine none version tables (Contains-push_cases all it (begins number version tables) there);
  }
    where
      other : (number : ℕ) → number % input.workers ≡ k → number ≢ number_in line
      other number mine same = differ (ap (λ n. n % input.workers) (sym same) ∙ mine)

      lost : (number : ℕ) → number % input.workers ≡ k → IsLost own number → (version : ℕ) (tables : TableSet) → Contains all (begins number version tables) ⊎ (it ≡ begins number version tables) → ⊥
      lost number mine none version tables (inl there) = sees.lost number mine none version tables there
      lost number mine none version tables (inr same) = begins_no_other input earlier line it number h (other number mine) version tables same

  module _ (some : 0 < input.workers) (done : ℕ → List LineDone)
      (served : (k : ℕ) → k < input.workers → AreServed input [] (lines_in input k input.script.entries) (done k)) where
    pub all_lines : lines.Merged (lane_of input.workers) input.workers (lane_low input some) (IsServed input) (Sees input) lift sees_own sees_other [] input.script.entries done
    all_lines = lines.merged (lane_of input.workers) input.workers (lane_low input some) (IsServed input) (Sees input) lift sees_own sees_other input.script.entries [] (λ k. []) done (λ k low. sees_none input k) served

    -- the entries of all lines are those that their lanes had
    module _ (entries_of : ℕ → List Entry) (entries : List Entry) (merged : AreMerged input entries_of entries)
        (are : (k : ℕ) → k < input.workers → entries_of k ≡ map (λ (it : LineDone). it.entry) (done k)) where
      pub all_entries : entries ≡ map (λ (it : LineDone). it.entry) all_lines.its
      all_entries =
          lines.determined (lane_of input.workers) input.workers input.script.entries entries (map (λ (it : LineDone). it.entry) all_lines.its) merged.many
          (length-map all_lines.its (λ (it : LineDone). it.entry) ∙ same_length input [] input.script.entries all_lines.its all_lines.served) (lane_low input some)
          (λ k low.
          merged.each k low ∙ are k low ∙ ap (map (λ (it : LineDone). it.entry)) (sym (all_lines.each k low))
          ∙ sym (lines.of_lane_map (lane_of input.workers) (λ (it : LineDone). it.entry) k input.script.entries all_lines.its))
