-- The events of the chosen requests are a run.
use mathlib.Core.List.{map-append}
use Rattle.std.proofs.Common.{◌≡◌, ◌∙◌, ℕ, Bool, true, false, cond, List, [], ◌∷◌, ◌++◌, All, Contains, None, Option, Some, ap, append_assoc, arith, inl, inr, map, refl, slice_get, subst, sym}
use Rattle.std.proofs.Math.Logic.{∥∥₁_map₂}
use Rattle.std.proofs.lemmas.List.Elements.{All-cons, All-get_or, All-head, All-nil, All-tail, All-weaker}
use Rattle.std.proofs.lemmas.Option.{get_or_from_slice_get, slice_get_within}
use Rattle.std.specs.BTreeMap.{is_at}
use Rattle.std.specs.Map.{lookup}
use Rattle.std.specs.Ordering.{nat_cmp}
use Rattle.ba_machine_laws.specs.Agreeing.{HasFound}
use Rattle.ba_machine_laws.specs.Whole.{AreSound}
use Rattle.ba_core.specs.State.{State}
use Rattle.ba_core.specs.declared.event.CoreReply.{CoreReply}
use Rattle.ba_core.specs.declared.event.Event.{Event}
use Rattle.ba_kernel.specs.Problems.{StrongAll}
use Rattle.ba_kernel.specs.SearchStates.{Proof}
use Rattle.ba_input.specs.Inputs.{effort_of}
use Rattle.ba_input.specs.declared.input.Input.{Input}
use Rattle.ba_lanes.specs.Legal.{AreServed, IsServed, Legal, LineDone, asked, pin_of, read_as}
use Rattle.ba_lanes.specs.declared.journal.Entry.{Entry}
use Rattle.ba_lanes.specs.declared.journal.Entry.TheVariants.{Begin, End, Memory}
use Rattle.ba_lanes.specs.declared.journal.LineKind.{LineKind}
use Rattle.ba_lanes.specs.declared.journal.LineKind.TheVariants as kinds
use Rattle.ba_lanes.specs.declared.journal.Journal.{Journal}
use Rattle.ba_model.specs.Conform.{Conforms}
use Rattle.ba_machine_laws.proofs.BetweenLemmas.{Between, quiet_memory, quiet_publish}
use Rattle.ba_machine_laws.proofs.HistoryLemmas.{AreVersions, IsLegal, IsMade, OnShelf, all_found, all_legal, all_made, all_sound, are_versions, on_some_shelf, reads_on_shelves}
use Rattle.ba_machine_laws.proofs.LineLemmas.{AreTables, Comes, Laws, Same, ask_passed, ask_taken, begin_passed, begin_taken, end_passed, end_taken, entry_in, quiet_all, read_passed, read_taken, same_itself}
use Rattle.ba_machine_laws.proofs.ScriptLemmas.{IsOpenAfter}
use Rattle.ba_machine_laws.proofs.TakesLemmas.{Takes, run_from, takes_both}
use Rattle.ba_machine_laws.specs.Journals.{IsMachineOf, IsRunFrom, RequestsAreARun, event_of, events_after, is_of, number_by_shelf, replies_in, reply_of}
use Rattle.ba_script.specs.Scripts.{EntriesFit, EntryFits}
use Rattle.ba_script.specs.declared.entry.ScriptEntry.{ScriptEntry}
use Rattle.ba_script.specs.declared.entry.ScriptEntry.TheVariants as said
use Rattle.ba_session.specs.Asking.{IsServable}
use Rattle.ba_keys.specs.Literals.{key_queries}
use Rattle.ba_session.specs.declared.reply.KeyReply.{KeyReply}
use Rattle.ba_session.specs.declared.reply.KeyReply.TheVariants as key_reply
use Rattle.ba_session.specs.declared.reply.Reply.{Reply}
use Rattle.ba_session.specs.declared.reply.Reply.TheVariants as reply
use Rattle.ba_tables.specs.TableSet.{TableSet}
use Rattle.ba_versions.specs.Calls as versions
use Rattle.ba_versions.specs.Reads.{calls_of, versions_of}

pub at_place : {X : Type 0} (P : X → Type 0) (xs : List X) (n : ℕ) (x : X) → All P xs → slice_get xs n ≡ Some x → P x
at_place P xs n x all e = subst P (get_or_from_slice_get xs n x x e) (All-get_or P xs n x (slice_get_within xs n x e) all)

-- the events and the replies of an entry, if it is chosen
choice : (P : State → Type 0) (t : State) (b : Bool) (es : List Event) (rs : List CoreReply) → (b ≡ true → Takes P t es rs) → (b ≡ false → P t) → Takes P t (cond b es []) (cond b rs [])
choice P t true es rs if_so if_not = if_so refl
choice P t false es rs if_so if_not = if_not refl

of_asked : (chosen : ℕ → Bool) (r version : ℕ) (it : Reply) → is_of chosen (asked r version it) ≡ chosen r
of_asked chosen r version (reply.Answer query rows basis) = refl
of_asked chosen r version (reply.Blocked query why) = refl
of_asked chosen r version (reply.Unread fault) = refl
of_asked chosen r version reply.NoMemory = refl

of_read : (chosen : ℕ → Bool) (r version key : ℕ) (it : KeyReply) → is_of chosen (read_as r version key it) ≡ chosen r
of_read chosen r version key (key_reply.Allowed queries by) = refl
of_read chosen r version key (key_reply.Blocked queries before why) = refl
of_read chosen r version key key_reply.NoMemory = refl

pub checked_by : (input : Input) (journal : Journal) → Legal input journal → IsServable input.policy
checked_by input journal legal = record { fits = legal.input_fits.policy; tables = legal.input_fits.tables_are; rules = legal.input_fits.rules }

pub good_version : (input : Input) (tables : TableSet) → input.tables.schema ≡ input.policy.schema → versions.IsVersion input.tables tables → AreTables input.policy tables
good_version input tables same it =
    let schema = it.schema ∙ same in
    record { schema = schema; conforms = subst (λ z. Conforms z tables.rows) schema it.conforms }

pub nothing_yet : (input : Input) (chosen : ℕ → Bool) (s : State) → s.requests ≡ [] → Between input chosen s [] []
nothing_yet input chosen s none = record {
  counted = λ k version tables h. let low = h.1 in absurd (omega (arith, low));
  untold = λ k past. refl;
  unbegun = λ k past. ap (λ es. lookup (is_at (nat_cmp k)) es) none;
  standing = λ k asker chooses is_open asks. absurd (never is_open.is_open.front (said.Begin k is_open.name is_open.is_open.context) is_open.is_open.since is_open.is_open.begins);
}
  where
    never : (front : List ScriptEntry) (x : ScriptEntry) (since : List ScriptEntry) → [] ≡ front ++ x ∷ since → ⊥
    never [] x since e = cc
    never (y ∷ front) x since e = cc

module _ (laws : Laws) (input : Input) (journal : Journal) (chosen : ℕ → Bool) (s : State) (legal : Legal input journal) (machine : IsMachineOf input journal s)
    (versions_left : AreVersions input.tables (calls_of journal.histories.versions) (versions_of journal.histories.versions))
    (shelves_legal : All IsLegal journal.histories.shelves.items) where
  abbrev number : ℕ → ℕ → ℕ
  number = number_by_shelf journal

  module _ (before rest : List ScriptEntry) (earlier : List LineDone) (it : LineDone) (past : List Entry) (t : State)
      (made : IsMade journal it) (past_is : past ≡ map entry_in earlier) (same : Same s t) (b : Between input chosen t before earlier) where
    policy_is : t.policy ≡ input.policy
    policy_is = same.policy_is ∙ machine.policy_is

    -- what the line comes to
    abbrev After : ScriptEntry → State → Type 0
    After line = Comes laws number input journal chosen legal.input_fits.script (checked_by input journal legal) before rest earlier it t policy_is b line

    abbrev TakesEntry : ScriptEntry → Entry → Type 0
    TakesEntry line entry = Takes (After line) t (cond (is_of chosen entry) (event_of number input journal past entry) []) (cond (is_of chosen entry) (reply_of entry) [])

    memory_taken : (line : ScriptEntry) → input.script.entries ≡ before ++ line ∷ rest → (kind : LineKind) (r version : Option ℕ) → it.entry ≡ Memory kind r version → TakesEntry line it.entry
    memory_taken line are kind r version is =
        let quiet = quiet_all laws number input journal chosen legal.input_fits.script (checked_by input journal legal) before rest earlier it t policy_is b line are t (same_itself t) (λ k. refl)
        (λ k. quiet_memory k kind r version it is) in
        subst (TakesEntry line) (sym is) (choice (After line) t (is_of chosen (Memory kind r version)) [] [] (λ chooses. quiet) (λ passes. quiet))

    templates_same : t.templates ≡ s.templates
    templates_same = same.templates_are

    sound_here : AreSound t
    sound_here = subst (λ ts. All (λ (template : Proof). StrongAll template.problem) ts) (sym templates_same) (all_sound input journal s machine legal.shelves.eight shelves_legal)

    found_here : All OnShelf it.made.shelves → All (HasFound number t) it.made.shelves
    found_here on =
        All-weaker (HasFound number s) (HasFound number t)
        (λ calls found. record { each = λ query its one look among. ap (λ ts. slice_get ts (number calls.shard one.id)) templates_same ∙ found.each query its one look among }) it.made.shelves
        (all_found input journal s machine legal.shelves.eight shelves_legal laws.found it made on)

    left_here : (n : ℕ) (tables : TableSet) → slice_get t.versions n ≡ Some tables → slice_get (versions_of journal.histories.versions) n ≡ Some tables
    left_here n tables there = ap (λ z. slice_get z n) (sym (same.versions_are ∙ machine.versions_are)) ∙ there

    line_taken : (line : ScriptEntry) → input.script.entries ≡ before ++ line ∷ rest → EntryFits before line → IsServed input earlier line it → TakesEntry line it.entry
    line_taken (said.Begin r name context) are fits (inl h) =
        let among : Contains it.made.versions (pin_of h.version h.tables) = subst (λ (z : LineDone). Contains z.made.versions (pin_of h.version h.tables)) (sym h.is) (0, omega arith, refl) in
        let left = versions_left.pinned h.version h.tables (made.versions (pin_of h.version h.tables) among) in
        let pinned : slice_get t.versions h.version ≡ Some h.tables = ap (λ z. slice_get z h.version) (same.versions_are ∙ machine.versions_are) ∙ left in
        let good = good_version input h.tables legal.input_fits.schema
        (at_place (versions.IsVersion input.tables) (versions_of journal.histories.versions) h.version h.tables versions_left.conform left) in
        subst (TakesEntry (said.Begin r name context)) (sym (ap entry_in h.is))
        (choice (After (said.Begin r name context)) t (chosen r) (event_of number input journal past (Begin r h.version)) (reply_of (Begin r h.version))
        (λ chooses. begin_taken laws number input journal chosen legal.input_fits.script (checked_by input journal legal) before rest earlier it t policy_is b past r h.version name context h.tables are h.is pinned good)
        (λ passes. begin_passed laws number input journal chosen legal.input_fits.script (checked_by input journal legal) before rest earlier it t policy_is b past r h.version name context h.tables are h.is pinned good passes))
    line_taken (said.Begin r name context) are fits (inr h) = memory_taken (said.Begin r name context) are kinds.Begin (Some r) None h.entry_is
    line_taken (said.Ask r name text) are fits (inl h) =
        let open_before : IsOpenAfter before r = record { name = name; asked = fits.0; is_open = fits.1 } in
        let calls_are : it.made.shelves ≡ h.calls ∷ [] = ap (λ (z : LineDone). z.made.shelves) h.is in
        let on : All OnShelf (h.calls ∷ []) = All-cons OnShelf h.calls [] (on_some_shelf input.policy h.asker (effort_of input) text h.calls h.reply h.replies) (All-nil OnShelf) in
        let found : HasFound number t h.calls = All-head (HasFound number t) h.calls [] (subst (All (HasFound number t)) calls_are (found_here (subst (All OnShelf) (sym calls_are) on))) in
        subst (TakesEntry (said.Ask r name text)) (sym (ap entry_in h.is))
        (subst (λ b. Takes (After (said.Ask r name text)) t (cond b (event_of number input journal past (asked r h.asker.version h.reply)) []) (cond b (reply_of (asked r h.asker.version h.reply)) []))
        (sym (of_asked chosen r h.asker.version h.reply))
        (choice (After (said.Ask r name text)) t (chosen r) (event_of number input journal past (asked r h.asker.version h.reply)) (reply_of (asked r h.asker.version h.reply))
        (λ chooses. ask_taken laws number input journal chosen legal.input_fits.script (checked_by input journal legal) before rest earlier it t policy_is b past past_is r name text are open_before h chooses sound_here found left_here)
        (λ passes. ask_passed laws number input journal chosen legal.input_fits.script (checked_by input journal legal) before rest earlier it t policy_is b past past_is r name text are open_before h passes)))
    line_taken (said.Ask r name text) are fits (inr h) = memory_taken (said.Ask r name text) are kinds.Ask (Some r) None (ap entry_in h.unserved)
    line_taken (said.Read r name key args qs) are fits (inl h) =
        let open_before : IsOpenAfter before r = record { name = name; asked = fits.0; is_open = fits.1 } in
        let calls_are : it.made.shelves ≡ h.calls = ap (λ (z : LineDone). z.made.shelves) h.is in
        let on : All OnShelf h.calls = reads_on_shelves input.policy h.asker (effort_of input) (key_queries input.policy h.key args) h.calls h.reply h.reads in
        let found : All (HasFound number t) h.calls = subst (All (HasFound number t)) calls_are (found_here (subst (All OnShelf) (sym calls_are) on)) in
        subst (TakesEntry (said.Read r name key args qs)) (sym (ap entry_in h.is))
        (subst (λ b. Takes (After (said.Read r name key args qs)) t (cond b (event_of number input journal past (read_as r h.asker.version key h.reply)) []) (cond b (reply_of (read_as r h.asker.version key h.reply)) []))
        (sym (of_read chosen r h.asker.version key h.reply))
        (choice (After (said.Read r name key args qs)) t (chosen r) (event_of number input journal past (read_as r h.asker.version key h.reply)) (reply_of (read_as r h.asker.version key h.reply))
        (λ chooses. read_taken laws number input journal chosen legal.input_fits.script (checked_by input journal legal) before rest earlier it t policy_is b past past_is r name key args qs are h open_before chooses found left_here)
        (λ passes. read_passed laws number input journal chosen legal.input_fits.script (checked_by input journal legal) before rest earlier it t policy_is b past past_is r name key args qs are h)))
    line_taken (said.Read r name key args qs) are fits (inr h) = memory_taken (said.Read r name key args qs) are kinds.Read (Some r) None (ap entry_in h.unserved)
    line_taken (said.End r name) are fits (inl h) =
        subst (TakesEntry (said.End r name)) (sym (ap entry_in h.is))
        (choice (After (said.End r name)) t (chosen r) (event_of number input journal past (End r h.version)) (reply_of (End r h.version))
        (λ chooses. end_taken laws number input journal chosen legal.input_fits.script (checked_by input journal legal) before rest earlier it t policy_is b past r name fits.0 are fits.1 h.version (ap entry_in h.is) h.tables chooses h.begun)
        (λ passes. end_passed laws number input journal chosen legal.input_fits.script (checked_by input journal legal) before rest earlier it t policy_is b past r name fits.0 are fits.1 h.version (ap entry_in h.is)))
    line_taken (said.End r name) are fits (inr h) = memory_taken (said.End r name) are kinds.End (Some r) None (ap entry_in h.unserved)
    line_taken (said.Publish n set) are fits (inl h) =
        subst (TakesEntry (said.Publish n set)) (sym (ap entry_in h.is))
        (quiet_all laws number input journal chosen legal.input_fits.script (checked_by input journal legal) before rest earlier it t policy_is b (said.Publish n set) are t (same_itself t) (λ k. refl) (λ k. quiet_publish k h.version it (ap entry_in h.is)))
    line_taken (said.Publish n set) are fits (inr h) = memory_taken (said.Publish n set) are kinds.Publish None None (ap entry_in h)

  all_taken : (lines : List ScriptEntry) (its : List LineDone) (before : List ScriptEntry) (earlier : List LineDone) (past : List Entry) (t : State) →
      input.script.entries ≡ before ++ lines → EntriesFit before lines → AreServed input earlier lines its → All (IsMade journal) its → past ≡ map entry_in earlier → Same s t →
      Between input chosen t before earlier → Takes (λ u. Unit {0}) t (events_after number input journal chosen past (map entry_in its)) (replies_in chosen (map entry_in its))
  all_taken [] [] before earlier past t are fits served made past_is same b = tt
  all_taken [] (it ∷ its) before earlier past t are fits served made past_is same b = absurd served
  all_taken (line ∷ lines) [] before earlier past t are fits served made past_is same b = absurd served
  all_taken (line ∷ lines) (it ∷ its) before earlier past t are fits served made past_is same b =
      let made_here = All-head (IsMade journal) it its made in
      takes_both (After before lines earlier it past t made_here past_is same b line) (λ u. Unit {0})
      (events_after number input journal chosen (past ++ it.entry ∷ []) (map entry_in its)) (replies_in chosen (map entry_in its))
      (λ u comes. all_taken lines its (before ++ line ∷ []) (earlier ++ it ∷ []) (past ++ it.entry ∷ []) u (are ∙ sym (append_assoc before (line ∷ []) lines)) fits.1 served.1
      (All-tail (IsMade journal) it its made) (ap (λ z. z ++ it.entry ∷ []) past_is ∙ sym (map-append entry_in earlier (it ∷ [])))
      (record { policy_is = comes.same.policy_is ∙ same.policy_is; versions_are = comes.same.versions_are ∙ same.versions_are; templates_are = comes.same.templates_are ∙ same.templates_are })
      comes.between)
      t (cond (is_of chosen it.entry) (event_of number input journal past it.entry) []) (cond (is_of chosen it.entry) (reply_of it.entry) [])
      (line_taken before lines earlier it past t made_here past_is same b line are fits.0 served.0)

pub requests_are_a_run : Laws → RequestsAreARun
requests_are_a_run laws input journal chosen s legal machine =
    ∥∥₁_map₂ legal.versions.legal (all_legal input journal legal) (λ history shelves.
    subst (λ entries. IsRunFrom s (events_after (number_by_shelf journal) input journal chosen [] entries) (replies_in chosen entries)) (sym legal.entries)
    (run_from (λ u. Unit {0}) s (events_after (number_by_shelf journal) input journal chosen [] (map entry_in legal.served)) (replies_in chosen (map entry_in legal.served))
    (all_taken laws input journal chosen s legal machine (are_versions input.tables history) shelves input.script.entries legal.served [] [] [] s refl legal.input_fits.script.fit legal.lines
    (all_made input journal legal) refl (same_itself s) (nothing_yet input chosen s machine.none_open))))
