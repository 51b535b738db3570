-- All events of a journal of one worker are a run.
use mathlib.Core.List.{map-append}
use Rattle.std.proofs.Common.{◌≡◌, ◌∙◌, ℕ, ◌+◌, ◌<◌, Bool, true, cond, List, [], ◌∷◌, ◌++◌, All, Contains, None, Option, Some, ap, ap₂, append-nil, append_assoc, arith, drop, flat_map, get_or, inl, inr, length, map, refl, slice_get, subst, subst₂, sym, take, ◌⊎◌}
use Rattle.std.proofs.Math.Logic.{∥∥₁_map₂}
use Rattle.std.proofs.Math.Nat.{mod-lt}
use Rattle.std.proofs.lemmas.List.Concat.{flat_map-append}
use Rattle.std.proofs.lemmas.List.Elements.{All-append, All-cons, All-contains, All-contains_itself, All-get_or, All-head, All-nil, All-tail, All-weaker, Contains-append_right}
use Rattle.std.proofs.lemmas.Option.{get_or_from_slice_get}
use Rattle.ba_machine_laws.proofs.KeyLemmas.{get_before}
use Rattle.ba_machine_laws.specs.Agreeing.{HasFound}
use Rattle.ba_machine_laws.specs.Shelves.{HasAdmitted, templates_of}
use Rattle.ba_machine_laws.specs.Whole.{AreSound}
use Rattle.ba_cache.specs.Passes.{ClosedShelf}
use Rattle.ba_cache.specs.Reads as shelf
use Rattle.ba_cache.specs.Rows as shelves
use Rattle.ba_cache.specs.declared.call.Kept.{Kept}
use Rattle.ba_cache.specs.declared.call.ShelfCall.{ShelfCall}
use Rattle.ba_core.specs.State.{IsFirst, State, opened_at}
use Rattle.ba_core.specs.Steps.{Steps}
use Rattle.ba_core.specs.declared.event.CoreReply.{CoreReply}
use Rattle.ba_core.specs.declared.event.CoreReply.TheVariants as replies
use Rattle.ba_core.specs.declared.event.Event.{Event}
use Rattle.ba_core.specs.declared.event.Event.TheVariants as events
use Rattle.ba_input.specs.Inputs.{effort_of}
use Rattle.ba_input.specs.declared.input.Input.{Input}
use Rattle.ba_lanes.proofs.ServeLemmas.{same_length}
use Rattle.ba_lanes.specs.Legal.{AreServed, IsServed, Legal, LineCalls, LineDone, Load, admit_of, admits_on, asked, made_on, no_calls, on_versions, pin_of, read_as, versions_made}
use Rattle.ba_lanes.specs.declared.journal.Entry.{Entry}
use Rattle.ba_lanes.specs.declared.journal.Entry.TheVariants.{Begin, End, Memory, Publish}
use Rattle.ba_lanes.specs.declared.journal.LineKind.{LineKind}
use Rattle.ba_lanes.specs.declared.journal.LineKind.TheVariants as kinds
use Rattle.ba_lanes.specs.declared.journal.Journal.{Journal}
use Rattle.ba_machine_laws.proofs.AdditionLemmas.{IsLow, Made, addition_at, additions_flat, call_on, calls_at, each_of, flat, low_flat, on_flat}
use Rattle.ba_machine_laws.proofs.AdmissionLemmas.{KnowsOf, Moves, all_admitted, knows_none}
use Rattle.ba_machine_laws.proofs.BetweenLemmas.{Between, Keeps, quiet_memory, quiet_publish}
use Rattle.ba_machine_laws.proofs.HistoryLemmas.{IsLegal, OnShelf, all_flat, all_legal, are_versions, flat_among, on_itself, on_some_shelf, reads_on_shelves, some_shelf}
use Rattle.ba_machine_laws.proofs.LineLemmas.{Comes, Laws, ask_taken, begin_taken, end_taken, entry_in, quiet_all, read_taken, same_itself}
use Rattle.ba_machine_laws.proofs.OneLaneLemmas.{IsCall, IsFront, list_is, one_history, one_part, shelf_front, tables_in, version_call}
use Rattle.ba_machine_laws.proofs.PlaceLemmas.{empty}
use Rattle.ba_machine_laws.proofs.RequestLemmas.{at_place, checked_by, good_version, nothing_yet}
use Rattle.ba_machine_laws.proofs.ScriptLemmas.{IsOpenAfter}
use Rattle.ba_machine_laws.proofs.TakesLemmas.{Takes, run_from, takes_both, takes_weaker}
use Rattle.ba_machine_laws.specs.Journals.{IsRunFrom, event_of, reply_of, templates_in}
use Rattle.ba_machine_laws.specs.OneWorker.{Addition, JournalIsARun, admission_of, admission_replies, admissions, admits_of, all_after, journal_events, journal_replies, number_by_addition, place_among, published_at, published_replies, replies_at}
use Rattle.ba_script.specs.Scripts.{EntriesFit, EntryFits}
use Rattle.ba_script.specs.declared.entry.ScriptEntry.{ScriptEntry}
use Rattle.ba_script.specs.declared.entry.ScriptEntry.TheVariants as said
use Rattle.ba_session.specs.Asking.{look_at}
use Rattle.ba_keys.specs.Literals.{key_queries}
use Rattle.ba_session.specs.Passing.{ShelfCalls, calls_on}
use Rattle.ba_session.specs.declared.reply.KeyReply.{KeyReply}
use Rattle.ba_session.specs.declared.reply.KeyReply.TheVariants as key_reply
use Rattle.ba_session.specs.declared.reply.Reply.{Reply}
use Rattle.ba_session.specs.declared.reply.Reply.TheVariants as reply
use Rattle.ba_tables.specs.TableSet.{TableSet}
use Rattle.ba_versions.specs.Calls as versions
use Rattle.ba_versions.specs.Reads.{calls_of, published as publication, versions_of}
use Rattle.ba_versions.specs.declared.call.VersionCall.{VersionCall}
use Rattle.ba_versions.specs.declared.call.VersionCall.TheVariants as call

-- ---- machines

-- the machine keeps what it has between two lines, whatever else it is told
between_moves : (input : Input) (chosen : ℕ → Bool) (t v : State) (before : List ScriptEntry) (earlier : List LineDone) → Between input chosen t before earlier → Keeps input chosen t v →
    ((k : ℕ) → opened_at v k ≡ opened_at t k) → Between input chosen v before earlier
between_moves input chosen t v before earlier b keeps opened = record {
  counted = b.counted;
  untold = b.untold;
  unbegun = λ k past. opened k ∙ b.unbegun k past;
  standing = λ k asker chooses is_open asks.
      let stood = b.standing k asker chooses is_open asks in
      record {
        has = record {
          is_for = record { policy_is = keeps.policy_is ∙ stood.has.is_for.policy_is; tables_are = keeps.versions asker.version asker.tables stood.has.is_for.tables_are };
          is_open = opened k ∙ stood.has.is_open;
        };
        may = stood.may;
      };
}

publish_only : (t : State) (tables : TableSet) (n : ℕ) → n ≡ length t.versions → (other : CoreReply) (next : State) → Steps t (events.Publish tables) other next → other ≡ replies.Number n
publish_only t tables n is (replies.Number m) next h = ap replies.Number (h.number ∙ sym is)
publish_only t tables n is replies.Begun next h = absurd h
publish_only t tables n is (replies.Asked it) next h = absurd h
publish_only t tables n is (replies.Read allowed) next h = absurd h
publish_only t tables n is replies.Ended next h = absurd h
publish_only t tables n is (replies.Refused fault) next h = absurd h.0

-- ---- lists

flat_of_map : {A B C : Type 0} (f : B → List C) (g : A → B) (xs : List A) → flat_map f (map g xs) ≡ flat_map (λ x. f (g x)) xs
flat_of_map f g [] = refl
flat_of_map f g (x ∷ xs) = ap (λ z. f (g x) ++ z) (flat_of_map f g xs)

flat_of_flat : {A B C : Type 0} (f : B → List C) (g : A → List B) (xs : List A) → flat_map f (flat_map g xs) ≡ flat_map (λ x. flat_map f (g x)) xs
flat_of_flat f g [] = refl
flat_of_flat f g (x ∷ xs) = flat_map-append f (g x) (flat_map g xs) ∙ ap (λ z. flat_map f (g x) ++ z) (flat_of_flat f g xs)

-- ---- the calls of lines on shelves

loads_on_shelves : (loads : List Load) → All OnShelf (admits_of loads)
loads_on_shelves [] = All-nil OnShelf
loads_on_shelves (it ∷ loads) = All-cons OnShelf (admit_of it) (admits_of loads) (inr (mod-lt _ (omega arith))) (loads_on_shelves loads)

abbrev LineOnShelves : LineDone → Type 0
LineOnShelves it = All OnShelf it.made.shelves

no_shelves : (it : LineDone) (made : List VersionCall) → it.made ≡ on_versions made → LineOnShelves it
no_shelves it made e = subst (λ (z : LineCalls). All OnShelf z.shelves) (sym e) (All-nil OnShelf)

line_on_shelves : (input : Input) (earlier : List LineDone) (line : ScriptEntry) (it : LineDone) → IsServed input earlier line it → LineOnShelves it
line_on_shelves input earlier (said.Begin r name context) it (inl h) = no_shelves it (pin_of h.version h.tables ∷ []) (ap (λ (z : LineDone). z.made) h.is)
line_on_shelves input earlier (said.Begin r name context) it (inr h) = by h.made_is
  where
    by : (it.made ≡ no_calls) ⊎ (it.made ≡ on_versions (call.Refused ∷ [])) → LineOnShelves it
    by (inl e) = no_shelves it [] e
    by (inr e) = no_shelves it (call.Refused ∷ []) e
line_on_shelves input earlier (said.Ask r name text) it (inl h) =
    subst LineOnShelves (sym h.is) (All-cons OnShelf h.calls [] (on_some_shelf input.policy h.asker (effort_of input) text h.calls h.reply h.replies) (All-nil OnShelf))
line_on_shelves input earlier (said.Ask r name text) it (inr h) = no_shelves it [] (ap (λ (z : LineDone). z.made) h.unserved)
line_on_shelves input earlier (said.Read r name key args qs) it (inl h) =
    subst LineOnShelves (sym h.is) (reads_on_shelves input.policy h.asker (effort_of input) (key_queries input.policy h.key args) h.calls h.reply h.reads)
line_on_shelves input earlier (said.Read r name key args qs) it (inr h) = no_shelves it [] (ap (λ (z : LineDone). z.made) h.unserved)
line_on_shelves input earlier (said.End r name) it (inl h) = no_shelves it [] (ap (λ (z : LineDone). z.made) h.is)
line_on_shelves input earlier (said.End r name) it (inr h) = no_shelves it [] (ap (λ (z : LineDone). z.made) h.unserved)
line_on_shelves input earlier (said.Publish n set) it (inl h) = no_shelves it (publication h.tables h.version ∷ []) (ap (λ (z : LineDone). z.made) h.is)
line_on_shelves input earlier (said.Publish n set) it (inr h) = no_shelves it [] (ap (λ (z : LineDone). z.made) h)

lines_on_shelves : (input : Input) (earlier : List LineDone) (lines : List ScriptEntry) (its : List LineDone) → AreServed input earlier lines its → All LineOnShelves its
lines_on_shelves input earlier [] [] served = All-nil LineOnShelves
lines_on_shelves input earlier [] (it ∷ its) served = absurd served
lines_on_shelves input earlier (line ∷ lines) [] served = absurd served
lines_on_shelves input earlier (line ∷ lines) (it ∷ its) served =
    All-cons LineOnShelves it its (line_on_shelves input earlier line it served.0) (lines_on_shelves input (earlier ++ it ∷ []) lines its served.1)

-- ---- entries of questions and reads

-- nothing is published there
quiet_ask : (input : Input) (line : ScriptEntry) (r version : ℕ) (it : Reply) → published_at input line (asked r version it) ≡ []
quiet_ask input line r version (reply.Answer query rows basis) = refl
quiet_ask input line r version (reply.Blocked query why) = refl
quiet_ask input line r version (reply.Unread fault) = refl
quiet_ask input line r version reply.NoMemory = refl

quiet_ask_told : (r version : ℕ) (it : Reply) → published_replies (asked r version it) ≡ []
quiet_ask_told r version (reply.Answer query rows basis) = refl
quiet_ask_told r version (reply.Blocked query why) = refl
quiet_ask_told r version (reply.Unread fault) = refl
quiet_ask_told r version reply.NoMemory = refl

quiet_read_at : (input : Input) (line : ScriptEntry) (r version key : ℕ) (it : KeyReply) → published_at input line (read_as r version key it) ≡ []
quiet_read_at input line r version key (key_reply.Allowed queries by) = refl
quiet_read_at input line r version key (key_reply.Blocked queries before why) = refl
quiet_read_at input line r version key key_reply.NoMemory = refl

quiet_read_told : (r version key : ℕ) (it : KeyReply) → published_replies (read_as r version key it) ≡ []
quiet_read_told r version key (key_reply.Allowed queries by) = refl
quiet_read_told r version key (key_reply.Blocked queries before why) = refl
quiet_read_told r version key key_reply.NoMemory = refl

-- ---- the journal

abbrev every : ℕ → Bool
every k = true

module _ (laws : Laws) (input : Input) (journal : Journal) (legal : Legal input journal) (one : input.workers ≡ 1)
    (history : versions.Legal input.tables (calls_of journal.histories.versions) (versions_of journal.histories.versions))
    (shelves_legal : All IsLegal journal.histories.shelves.items) where
  abbrev number : ℕ → ℕ → ℕ
  number = number_by_addition legal.loads legal.served

  abbrev told : Addition → CoreReply
  told it = replies.Number (number it.0 it.1)

  abbrev items : List ClosedShelf
  items = journal.histories.shelves.items

  -- all calls on the versions are those of the lines
  versions_whole : calls_of journal.histories.versions ≡ versions_made legal.served
  versions_whole =
      one_history [] input legal.served (λ it. it.made.versions) (calls_of journal.histories.versions) journal.histories.numbers.items one
      (same_length input [] input.script.entries legal.served legal.lines) legal.versions.calls

  abbrev shelves_of : List LineDone → List ShelfCalls
  shelves_of its = flat_map (λ (it : LineDone). it.made.shelves) its

  abbrev loaded : List Made
  loaded = flat (admits_of legal.loads)

  -- The calls that admit the loaded templates, and behind them those of these lines.
  abbrev so_far : List LineDone → List Made
  so_far its = loaded ++ flat (shelves_of its)

  abbrev all : List Made
  all = so_far legal.served

  number_by : (shard id : ℕ) → number shard id ≡ place_among (flat_map addition_at all) shard id
  number_by shard id =
      ap (λ z. place_among z shard id)
      (additions_flat (admits_of legal.loads ++ shelves_of legal.served) ∙ ap (flat_map addition_at) (flat_map-append each_of (admits_of legal.loads) (shelves_of legal.served)))

  -- those on a shelf
  at_shelf : (k : ℕ) → admits_on k legal.loads ++ made_on k legal.served ≡ calls_at k all
  at_shelf k =
      let front : admits_on k legal.loads ≡ calls_at k loaded = sym (flat_of_map (λ made. calls_on k made) admit_of legal.loads) ∙ on_flat k (admits_of legal.loads) in
      let behind : made_on k legal.served ≡ calls_at k (flat (shelves_of legal.served)) =
      sym (flat_of_flat (λ made. calls_on k made) (λ (it : LineDone). it.made.shelves) legal.served) ∙ on_flat k (shelves_of legal.served) in
      ap₂ (λ x y. x ++ y) front behind ∙ sym (flat_map-append (call_on k) loaded (flat (shelves_of legal.served)))

  -- they are all calls on it
  shelf_whole : (k : ℕ) (d : ClosedShelf) → k < 8 → shelf.calls_of (get_or items k d).0 ≡ calls_at k all
  shelf_whole k d below =
      let it = get_or items k d in
      one_history (admits_on k legal.loads) input legal.served (λ it. flat_map (λ calls. calls_on k calls) it.made.shelves) (shelf.calls_of it.0) it.1.items one
      (same_length input [] input.script.entries legal.served legal.lines) (legal.shelves.each k d below).calls
      ∙ at_shelf k

  legal_on : (k : ℕ) → k < 8 → IsFront (calls_at k all)
  legal_on k below =
      let d = some_shelf items legal.shelves.eight in
      let eight = legal.shelves.eight in
      let it = get_or items k d in
      (shelf.rows_of it.0, subst (λ z. shelves.Legal z (shelf.rows_of it.0)) (shelf_whole k d below) (All-get_or IsLegal items k d (omega (arith, below, eight)) shelves_legal))

  templates_whole : (k : ℕ) → k < 8 → templates_in (take 1 (drop k items)) ≡ templates_of (calls_at k all)
  templates_whole k below =
      let d = some_shelf items legal.shelves.eight in
      let eight = legal.shelves.eight in
      ap templates_in (one_part items k d (omega (arith, below, eight))) ∙ append-nil (templates_of (shelf.calls_of (get_or items k d).0)) ∙ ap templates_of (shelf_whole k d below)

  low : All IsLow all
  low =
      All-append IsLow loaded (flat (shelves_of legal.served)) (low_flat (admits_of legal.loads) (loads_on_shelves legal.loads))
      (low_flat (shelves_of legal.served) (all_flat OnShelf (λ (it : LineDone). it.made.shelves) legal.served (lines_on_shelves input [] input.script.entries legal.served legal.lines)))

  -- What the machine has between two lines: the versions that were published, the templates that were added, each under its number, and the open requests as they stand.
  record Holds (t : State) (before : List ScriptEntry) (earlier : List LineDone) : Type 0 where
    between : Between input every t before earlier
    policy_is : t.policy ≡ input.policy
    versions_are : t.versions ≡ input.tables ∷ flat_map tables_in (versions_made earlier)
    knows : KnowsOf number (so_far earlier) t.templates

  module _ (before rest : List ScriptEntry) (earlier its : List LineDone) (it : LineDone) (past : List Entry) (t : State)
      (served_are : legal.served ≡ earlier ++ it ∷ its) (past_is : past ≡ map entry_in earlier) (holds : Holds t before earlier) where
    abbrev Next : ScriptEntry → State → Type 0
    Next line u = Holds u (before ++ line ∷ []) (earlier ++ it ∷ [])

    -- the calls on shelves up to the line's
    abbrev upto_it : List Made
    upto_it = so_far earlier ++ flat it.made.shelves

    so_far_more : so_far (earlier ++ it ∷ []) ≡ upto_it
    so_far_more =
        ap (λ z. loaded ++ flat z) (flat_map-append (λ (it : LineDone). it.made.shelves) earlier (it ∷ []) ∙ ap (λ z. shelves_of earlier ++ z) (append-nil it.made.shelves))
        ∙ ap (λ z. loaded ++ z) (flat_map-append each_of (shelves_of earlier) it.made.shelves) ∙ sym (append_assoc loaded (flat (shelves_of earlier)) (flat it.made.shelves))

    all_split : all ≡ so_far earlier ++ (flat it.made.shelves ++ flat (shelves_of its))
    all_split =
        ap (λ z. loaded ++ flat (shelves_of z)) served_are
        ∙ ap (λ z. loaded ++ flat z) (flat_map-append (λ (it : LineDone). it.made.shelves) earlier (it ∷ its))
        ∙ ap (λ z. loaded ++ z)
        (flat_map-append each_of (shelves_of earlier) (it.made.shelves ++ shelves_of its) ∙ ap (λ z. flat (shelves_of earlier) ++ z) (flat_map-append each_of it.made.shelves (shelves_of its)))
        ∙ sym (append_assoc loaded (flat (shelves_of earlier)) (flat it.made.shelves ++ flat (shelves_of its)))

    versions_more : versions_made (earlier ++ it ∷ []) ≡ versions_made earlier ++ it.made.versions
    versions_more = flat_map-append _ earlier (it ∷ []) ∙ ap (λ more. versions_made earlier ++ more) (append-nil it.made.versions)

    versions_split : calls_of journal.histories.versions ≡ versions_made earlier ++ (it.made.versions ++ versions_made its)
    versions_split = versions_whole ∙ ap versions_made served_are ∙ flat_map-append _ earlier (it ∷ its)

    -- the line's one call on the versions, as it was made
    call_made : (c : VersionCall) → it.made.versions ≡ c ∷ [] → IsCall input.tables (versions_made earlier) c
    call_made c e = version_call input.tables history (versions_made earlier) (versions_made its) c (versions_split ∙ ap (λ z. versions_made earlier ++ (z ++ versions_made its)) e)

    -- ---- the templates that its calls added

    admitted : Takes (Moves number t upto_it) t (admissions journal it.made.shelves) (admission_replies number it.made.shelves)
    admitted =
        subst (λ z. Takes (Moves number t upto_it) t (flat_map (admission_of journal) z) (map told z)) (sym (additions_flat it.made.shelves))
        (all_admitted journal all low legal_on templates_whole number number_by t (flat it.made.shelves) (so_far earlier) (flat (shelves_of its)) all_split t (record { rest = refl; knows = holds.knows }))

    -- ---- behind them

    module _ (u : State) (moved : Moves number t upto_it u) where
      policy_u : u.policy ≡ input.policy
      policy_u = ap (λ (z : State). z.policy) moved.rest ∙ holds.policy_is

      versions_u : u.versions ≡ t.versions
      versions_u = ap (λ (z : State). z.versions) moved.rest

      between_u : Between input every u before earlier
      between_u =
          between_moves input every t u before earlier holds.between
          (record { policy_is = ap (λ (z : State). z.policy) moved.rest; versions = λ n tables there. ap (λ z. slice_get z n) versions_u ∙ there }) (λ k. ap (λ (z : State). opened_at z k) moved.rest)

      abbrev After : ScriptEntry → State → Type 0
      After line = Comes laws number input journal every legal.input_fits.script (checked_by input journal legal) before rest earlier it u policy_u between_u line

      -- the machine's versions are the first of the journal's
      left_here : (n : ℕ) (tables : TableSet) → slice_get u.versions n ≡ Some tables → slice_get (versions_of journal.histories.versions) n ≡ Some tables
      left_here n tables there =
          let first = input.tables ∷ flat_map tables_in (versions_made earlier) in
          let whole : versions_of journal.histories.versions ≡ first ++ flat_map tables_in (it.made.versions ++ versions_made its) =
          list_is input.tables history ∙ ap (λ z. input.tables ∷ flat_map tables_in z) versions_split
          ∙ ap (λ z. input.tables ∷ z) (flat_map-append tables_in (versions_made earlier) (it.made.versions ++ versions_made its)) in
          ap (λ z. slice_get z n) whole
          ∙ get_before first (flat_map tables_in (it.made.versions ++ versions_made its)) n tables (ap (λ z. slice_get z n) (sym (versions_u ∙ holds.versions_are)) ∙ there)

      -- what the line's calls found was admitted to the machine
      found_one : (made : ShelfCalls) → Contains it.made.shelves made → OnShelf made → HasFound number u made
      found_one made among (inl none) = record { each = λ query found one look inside. absurd (empty (look_at query found) (subst (λ z. Contains z (look_at query found)) none look)) }
      found_one made among (inr below) =
          let k = made.shard in
          let front : IsFront (calls_at k upto_it) =
          shelf_front (legal_on k below).1 (calls_at k upto_it) (calls_at k (flat (shelves_of its)))
          (ap (calls_at k) (all_split ∙ sym (append_assoc (so_far earlier) (flat it.made.shelves) (flat (shelves_of its)))) ∙ flat_map-append (call_on k) upto_it (flat (shelves_of its))) in
          let beside : State = record u { templates = templates_of (calls_at k upto_it) } in
          let has : HasAdmitted 0 beside (calls_at k upto_it) = record { each = λ n template there. ap (slice_get (templates_of (calls_at k upto_it))) (omega arith) ∙ there } in
          let told = laws.found (λ shard. 0) beside made (calls_at k upto_it) front.0 front.1 has (inside k refl) in
          record {
            each = λ query found one look inside.
                let place : 0 + one.id ≡ one.id = omega arith in
                moved.knows.has k one.id one.template below (ap (slice_get (templates_of (calls_at k upto_it))) (sym place) ∙ told.each query found one look inside);
          }
        where
          inside : (k : ℕ) → made.shard ≡ k → (c : ShelfCall) → Contains made.calls c → Contains (calls_at k upto_it) c
          inside k is c there =
              let here : Contains (calls_on made.shard made) c = subst (λ z. Contains z c) (sym (on_itself made)) there in
              let own : Contains (flat_map (λ (z : ShelfCalls). calls_on k z) it.made.shelves) c =
              flat_among (λ (z : ShelfCalls). calls_on k z) it.made.shelves made c among (subst (λ n. Contains (calls_on n made) c) is here) in
              subst (λ z. Contains z c) (sym (flat_map-append (call_on k) (so_far earlier) (flat it.made.shelves)))
              (Contains-append_right (calls_at k (so_far earlier)) (calls_at k (flat it.made.shelves)) c (subst (λ z. Contains z c) (on_flat k it.made.shelves) own))

      found_here : All OnShelf it.made.shelves → All (HasFound number u) it.made.shelves
      found_here on =
          All-weaker (Contains it.made.shelves) (HasFound number u) (λ made among. found_one made among (All-contains OnShelf it.made.shelves made on among)) it.made.shelves (All-contains_itself it.made.shelves)

      -- ---- after the line

      next_by : (line : ScriptEntry) (v : State) → Between input every v (before ++ line ∷ []) (earlier ++ it ∷ []) → v.policy ≡ u.policy → v.versions ≡ u.versions ++ flat_map tables_in it.made.versions →
          v.templates ≡ u.templates → Next line v
      next_by line v between policy versions_are templates = record {
        between = between;
        policy_is = policy ∙ policy_u;
        versions_are = versions_are ∙ (λ i. (versions_u ∙ holds.versions_are) i ++ flat_map tables_in it.made.versions)
            ∙ ap (λ z. input.tables ∷ z) (sym (flat_map-append tables_in (versions_made earlier) it.made.versions) ∙ ap (flat_map tables_in) (sym versions_more));
        knows = subst (λ z. KnowsOf number z v.templates) (sym so_far_more) (subst (KnowsOf number upto_it) (sym templates) moved.knows);
      }

      -- no tables are published
      quiet_next : (line : ScriptEntry) → flat_map tables_in it.made.versions ≡ [] → (v : State) → After line v → Next line v
      quiet_next line none v comes =
          next_by line v comes.between comes.same.policy_is (comes.same.versions_are ∙ sym (ap (λ z. u.versions ++ z) none ∙ append-nil u.versions)) comes.same.templates_are

      abbrev TakesLine : ScriptEntry → Entry → Type 0
      TakesLine line entry = Takes (Next line) u (published_at input line entry ++ event_of number input journal past entry) (published_replies entry ++ reply_of entry)

      memory_line : (line : ScriptEntry) → input.script.entries ≡ before ++ line ∷ rest → (kind : LineKind) (r version : Option ℕ) → it.entry ≡ Memory kind r version → flat_map tables_in it.made.versions ≡ [] → TakesLine line it.entry
      memory_line line are kind r version is none =
          subst (TakesLine line) (sym is)
          (quiet_next line none u
          (quiet_all laws number input journal every legal.input_fits.script (checked_by input journal legal) before rest earlier it u policy_u between_u line are u (same_itself u) (λ k. refl)
          (λ k. quiet_memory k kind r version it is)))

      unserved : (line : ScriptEntry) → input.script.entries ≡ before ++ line ∷ rest → (kind : LineKind) (r : Option ℕ) → it ≡ record { entry = Memory kind r None; made = no_calls } → TakesLine line it.entry
      unserved line are kind r is = memory_line line are kind r None (ap entry_in is) (ap (λ (z : LineDone). flat_map tables_in z.made.versions) is)

      line_taken : (line : ScriptEntry) → input.script.entries ≡ before ++ line ∷ rest → EntryFits before line → IsServed input earlier line it → TakesLine line it.entry
      line_taken (said.Begin r name context) are fits (inl h) =
          let line = said.Begin r name context in
          let pin = call_made (pin_of h.version h.tables) (ap (λ (z : LineDone). z.made.versions) h.is) in
          let pinned : slice_get u.versions h.version ≡ Some h.tables = ap (λ z. slice_get z h.version) (versions_u ∙ holds.versions_are) ∙ pin.step.there in
          let good = good_version input h.tables legal.input_fits.schema
          (at_place (versions.IsVersion input.tables) (versions_of journal.histories.versions) h.version h.tables (are_versions input.tables history).conform (left_here h.version h.tables pinned)) in
          subst (TakesLine line) (sym (ap entry_in h.is))
          (takes_weaker (After line) (Next line) (quiet_next line (ap (λ (z : LineDone). flat_map tables_in z.made.versions) h.is)) u (event_of number input journal past (Begin r h.version)) (reply_of (Begin r h.version))
          (begin_taken laws number input journal every legal.input_fits.script (checked_by input journal legal) before rest earlier it u policy_u between_u past r h.version name context h.tables are h.is pinned good))
      line_taken (said.Begin r name context) are fits (inr h) = memory_line (said.Begin r name context) are kinds.Begin (Some r) None h.entry_is (no_tables h.made_is)
        where
          no_tables : (it.made ≡ no_calls) ⊎ (it.made ≡ on_versions (call.Refused ∷ [])) → flat_map tables_in it.made.versions ≡ []
          no_tables (inl e) = ap (λ (z : LineCalls). flat_map tables_in z.versions) e
          no_tables (inr e) = ap (λ (z : LineCalls). flat_map tables_in z.versions) e
      line_taken (said.Ask r name text) are fits (inl h) =
          let line = said.Ask r name text in
          let open_before : IsOpenAfter before r = record { name = name; asked = fits.0; is_open = fits.1 } in
          let entry = asked r h.asker.version h.reply in
          let es = event_of number input journal past entry in
          let calls_are : it.made.shelves ≡ h.calls ∷ [] = ap (λ (z : LineDone). z.made.shelves) h.is in
          let on : All OnShelf it.made.shelves = line_on_shelves input earlier line it (inl h) in
          let found : HasFound number u h.calls = All-head (HasFound number u) h.calls [] (subst (All (HasFound number u)) calls_are (found_here on)) in
          subst (TakesLine line) (sym (ap entry_in h.is))
          (subst₂ (λ xs ys. Takes (Next line) u (xs ++ es) (ys ++ reply_of entry)) (sym (quiet_ask input line r h.asker.version h.reply)) (sym (quiet_ask_told r h.asker.version h.reply))
          (takes_weaker (After line) (Next line) (quiet_next line (ap (λ (z : LineDone). flat_map tables_in z.made.versions) h.is)) u es (reply_of entry)
          (ask_taken laws number input journal every legal.input_fits.script (checked_by input journal legal) before rest earlier it u policy_u between_u past past_is r name text are open_before h refl moved.knows.sound found left_here)))
      line_taken (said.Ask r name text) are fits (inr h) = unserved (said.Ask r name text) are kinds.Ask (Some r) h.unserved
      line_taken (said.Read r name key args qs) are fits (inl h) =
          let line = said.Read r name key args qs in
          let open_before : IsOpenAfter before r = record { name = name; asked = fits.0; is_open = fits.1 } in
          let entry = read_as r h.asker.version key h.reply in
          let es = event_of number input journal past entry in
          let calls_are : it.made.shelves ≡ h.calls = ap (λ (z : LineDone). z.made.shelves) h.is in
          let on : All OnShelf it.made.shelves = line_on_shelves input earlier line it (inl h) in
          let found : All (HasFound number u) h.calls = subst (All (HasFound number u)) calls_are (found_here on) in
          subst (TakesLine line) (sym (ap entry_in h.is))
          (subst₂ (λ xs ys. Takes (Next line) u (xs ++ es) (ys ++ reply_of entry)) (sym (quiet_read_at input line r h.asker.version key h.reply)) (sym (quiet_read_told r h.asker.version key h.reply))
          (takes_weaker (After line) (Next line) (quiet_next line (ap (λ (z : LineDone). flat_map tables_in z.made.versions) h.is)) u es (reply_of entry)
          (read_taken laws number input journal every legal.input_fits.script (checked_by input journal legal) before rest earlier it u policy_u between_u past past_is r name key args qs are h open_before refl found left_here)))
      line_taken (said.Read r name key args qs) are fits (inr h) = unserved (said.Read r name key args qs) are kinds.Read (Some r) h.unserved
      line_taken (said.End r name) are fits (inl h) =
          let line = said.End r name in
          subst (TakesLine line) (sym (ap entry_in h.is))
          (takes_weaker (After line) (Next line) (quiet_next line (ap (λ (z : LineDone). flat_map tables_in z.made.versions) h.is)) u (event_of number input journal past (End r h.version)) (reply_of (End r h.version))
          (end_taken laws number input journal every legal.input_fits.script (checked_by input journal legal) before rest earlier it u policy_u between_u past r name fits.0 are fits.1 h.version (ap entry_in h.is) h.tables refl h.begun))
      line_taken (said.End r name) are fits (inr h) = unserved (said.End r name) are kinds.End (Some r) h.unserved
      line_taken (said.Publish n set) are fits (inl h) =
          let line = said.Publish n set in
          let made : it.made.versions ≡ publication h.tables h.version ∷ [] = ap (λ (z : LineDone). z.made.versions) h.is in
          let published = call_made (publication h.tables h.version) made in
          let number_is : h.version ≡ length u.versions = published.step.number ∙ ap length (sym (versions_u ∙ holds.versions_are)) in
          let comes = quiet_all laws number input journal every legal.input_fits.script (checked_by input journal legal) before rest earlier it u policy_u between_u line are u (same_itself u) (λ k. refl)
          (λ k. quiet_publish k h.version it (ap entry_in h.is)) in
          let new : State = record u { versions = u.versions ++ h.tables ∷ [] } in
          let next : Next line new =
          next_by line new
          (between_moves input every u new (before ++ line ∷ []) (earlier ++ it ∷ []) comes.between (record { policy_is = refl; versions = λ m tables there. get_before u.versions (h.tables ∷ []) m tables there }) (λ k. refl))
          refl (ap (λ z. u.versions ++ flat_map tables_in z) (sym made)) refl in
          subst (TakesLine line) (sym (ap entry_in h.is))
          (subst (λ z. Takes (Next line) u (events.Publish z ∷ []) (replies.Number h.version ∷ [])) (sym (get_or_from_slice_get input.published n h.tables input.tables h.there)) (record {
            new = new;
            step = record { step = record { number = number_is; state = refl }; compliant = tt };
            only = publish_only u h.tables h.version number_is;
            comes_to = λ after step. subst (Next line) (sym step.state) next;
          }))
      line_taken (said.Publish n set) are fits (inr h) = unserved (said.Publish n set) are kinds.Publish None h

    -- all events of the line
    whole_line : (line : ScriptEntry) → input.script.entries ≡ before ++ line ∷ rest → EntryFits before line → IsServed input earlier line it →
        Takes (Next line) t (admissions journal it.made.shelves ++ (published_at input line it.entry ++ event_of number input journal past it.entry)) (replies_at number it)
    whole_line line are fits served =
        takes_both (Moves number t upto_it) (Next line) (published_at input line it.entry ++ event_of number input journal past it.entry) (published_replies it.entry ++ reply_of it.entry)
        (λ u moved. line_taken u moved line are fits served) t (admissions journal it.made.shelves) (admission_replies number it.made.shelves) admitted

  all_taken : (lines : List ScriptEntry) (its : List LineDone) (before : List ScriptEntry) (earlier : List LineDone) (past : List Entry) (t : State) →
      input.script.entries ≡ before ++ lines → EntriesFit before lines → AreServed input earlier lines its → legal.served ≡ earlier ++ its → past ≡ map entry_in earlier → Holds t before earlier →
      Takes (λ u. Unit {0}) t (all_after number input journal past lines its) (flat_map (replies_at number) its)
  all_taken [] [] before earlier past t are fits served served_are past_is holds = tt
  all_taken [] (it ∷ its) before earlier past t are fits served served_are past_is holds = absurd served
  all_taken (line ∷ lines) [] before earlier past t are fits served served_are past_is holds = absurd served
  all_taken (line ∷ lines) (it ∷ its) before earlier past t are fits served served_are past_is holds =
      takes_both (Next before lines earlier its it past t served_are past_is holds line) (λ u. Unit {0})
      (all_after number input journal (past ++ it.entry ∷ []) lines its) (flat_map (replies_at number) its)
      (λ u next. all_taken lines its (before ++ line ∷ []) (earlier ++ it ∷ []) (past ++ it.entry ∷ []) u (are ∙ sym (append_assoc before (line ∷ []) lines)) fits.1 served.1
      (served_are ∙ sym (append_assoc earlier (it ∷ []) its)) (ap (λ z. z ++ it.entry ∷ []) past_is ∙ sym (map-append entry_in earlier (it ∷ []))) next)
      t (admissions journal it.made.shelves ++ (published_at input line it.entry ++ event_of number input journal past it.entry)) (replies_at number it)
      (whole_line before lines earlier its it past t served_are past_is holds line are fits.0 served.0)

  module _ (s : State) (first : IsFirst input.policy input.tables s) where
    -- once the loaded templates are admitted
    at_first : (u : State) → Moves number s loaded u → Holds u [] []
    at_first u moved = record {
      between = nothing_yet input every u (ap (λ (z : State). z.requests) moved.rest ∙ first.none_open);
      policy_is = ap (λ (z : State). z.policy) moved.rest ∙ first.policy_is;
      versions_are = ap (λ (z : State). z.versions) moved.rest ∙ first.versions_are;
      knows = subst (λ z. KnowsOf number z u.templates) (sym (append-nil loaded)) moved.knows;
    }

    loads_taken : Takes (Moves number s loaded) s (admissions journal (admits_of legal.loads)) (admission_replies number (admits_of legal.loads))
    loads_taken =
        subst (λ z. Takes (Moves number s loaded) s (flat_map (admission_of journal) z) (map told z)) (sym (additions_flat (admits_of legal.loads)))
        (all_admitted journal all low legal_on templates_whole number number_by s loaded [] (flat (shelves_of legal.served)) refl s
        (record { rest = refl; knows = subst (KnowsOf number []) (sym first.templates_are) (knows_none number) }))

    whole_run : IsRunFrom s (journal_events input journal legal) (journal_replies input journal legal)
    whole_run =
        let lines = all_after number input journal [] input.script.entries legal.served in
        let says = flat_map (replies_at number) legal.served in
        run_from (λ u. Unit {0}) s (journal_events input journal legal) (journal_replies input journal legal)
        (takes_both (Moves number s loaded) (λ u. Unit {0}) lines says
        (λ u moved. all_taken input.script.entries legal.served [] [] [] u refl legal.input_fits.script.fit legal.lines refl refl (at_first u moved))
        s (admissions journal (admits_of legal.loads)) (admission_replies number (admits_of legal.loads)) loads_taken)

pub journal_is_a_run : Laws → JournalIsARun
journal_is_a_run laws input journal s legal one first = ∥∥₁_map₂ legal.versions.legal (all_legal input journal legal) (λ history shelves. whole_run laws input journal legal one history shelves s first)
