-- A journal of one worker beside the machine that decides which questions are answered: all that
-- becomes of its lines, and the templates that were loaded before them, is one run, from the
-- machine's first state on.
use Rattle.std.specs.Prelude.{◌≡◌, ◌==◌, ◌&&◌, ℕ, zero, suc, List, [], ◌∷◌, ◌++◌, None, Option, Some, drop, if◌then◌else◌, map, slice_get, slice_index_or, take}
use Rattle.std.specs.List.{flat_map}
use Rattle.ba_cache.specs.declared.call.Admit.TheVariants.{Added, Known}
use Rattle.ba_cache.specs.declared.call.ShelfCall.{ShelfCall}
use Rattle.ba_cache.specs.declared.call.ShelfCall.TheVariants as calls
use Rattle.ba_core.specs.State.{IsFirst, State}
use Rattle.ba_core.specs.declared.event.CoreReply.{CoreReply}
use Rattle.ba_core.specs.declared.event.CoreReply.TheVariants as replies
use Rattle.ba_core.specs.declared.event.Event.{Event}
use Rattle.ba_core.specs.declared.event.Event.TheVariants as events
use Rattle.ba_input.specs.declared.input.Input.{Input}
use Rattle.ba_kernel.specs.SearchStates as kernel
use Rattle.ba_lanes.specs.Legal.{Legal, LineDone, Load, admit_of, number_in}
use Rattle.ba_lanes.specs.declared.journal.Entry.{Entry}
use Rattle.ba_lanes.specs.declared.journal.Entry.TheVariants.{Begin, Ask, Read, End, Publish, Memory}
use Rattle.ba_lanes.specs.declared.journal.Journal.{Journal}
use Rattle.ba_script.specs.declared.entry.ScriptEntry.{ScriptEntry}
use Rattle.ba_session.specs.Passing.{ShelfCalls}
use Rattle.ba_machine_laws.specs.Journals.{IsRunFrom, event_of, reply_of, templates_in}

-- ---- templates that are added

-- a template that was added: the shard of its shelf, and its id there
abbrev pub Addition : Type 0
Addition = ℕ × ℕ

-- the template that a call on the shelf of this shard added: a look adds none, nor does an admit of
-- one that stood there already, or that was refused
abbrev pub addition_by : ℕ → ShelfCall → List Addition
addition_by shard (calls.Look shape found) = []
addition_by shard (calls.Admit template (Added id)) = (shard, id) ∷ []
addition_by shard (calls.Admit template (Known id)) = []
addition_by shard calls.Refused = []

-- those that calls on a shelf added, in their order
abbrev pub additions_in : ShelfCalls → List Addition
additions_in made = flat_map (addition_by made.shard) made.calls

-- those that calls on several shelves added, in their order
abbrev pub additions_of : List ShelfCalls → List Addition
additions_of its = flat_map additions_in its

-- the calls that admitted the loaded templates, in their order
abbrev pub admits_of : List Load → List ShelfCalls
admits_of loads = map admit_of loads

-- the templates that were added, in their order: those that were loaded, and then those of lines
abbrev pub additions : List Load → List LineDone → List Addition
additions loads served = additions_of (admits_of loads ++ flat_map (λ it. it.made.shelves) served)

-- how many of these come before the one with this id on the shelf of this shard
abbrev pub place_among : List Addition → ℕ → ℕ → ℕ
place_among [] shard id = zero
place_among (it ∷ its) shard id =
    if (it.0 == shard) && (it.1 == id) then zero else suc (place_among its shard id)

-- the number of the template with this id on the shelf of this shard: how many were added before it
abbrev pub number_by_addition : List Load → List LineDone → ℕ → ℕ → ℕ
number_by_addition loads served shard id = place_among (additions loads served) shard id

-- ---- lines as events

-- the admission of the template, if there is one
abbrev pub admits : Option kernel.Proof → List Event
admits None = []
admits (Some template) = events.Admit template ∷ []

-- the admission of a template that was added: the one that the shelf's calls added as this one
abbrev pub admission_of : Journal → Addition → List Event
admission_of journal it =
    admits (slice_get (templates_in (take 1 (drop it.0 journal.histories.shelves.items))) it.1)

-- the admissions of the templates that these calls added, in their order
abbrev pub admissions : Journal → List ShelfCalls → List Event
admissions journal its = flat_map (admission_of journal) (additions_of its)

-- the machine's replies to them: the templates' numbers
abbrev pub admission_replies : (ℕ → ℕ → ℕ) → List ShelfCalls → List CoreReply
admission_replies number its = map (λ it. replies.Number (number it.0 it.1)) (additions_of its)

-- that a line's table set becomes a version, where it is published
abbrev pub published_at : Input → ScriptEntry → Entry → List Event
published_at input line (Begin request version) = []
published_at input line (Ask request version it) = []
published_at input line (Read request version key it) = []
published_at input line (End request version) = []
published_at input line (Publish version) =
    events.Publish (slice_index_or input.published (number_in line) input.tables) ∷ []
published_at input line (Memory kind request version) = []

-- the machine's reply to it: the number of the version
abbrev pub published_replies : Entry → List CoreReply
published_replies (Begin request version) = []
published_replies (Ask request version it) = []
published_replies (Read request version key it) = []
published_replies (End request version) = []
published_replies (Publish version) = replies.Number version ∷ []
published_replies (Memory kind request version) = []

-- All events of a line, after earlier entries: the templates that its calls added are admitted, its
-- table set is published, and then comes what its entry is.
abbrev pub events_at : (ℕ → ℕ → ℕ) → Input → Journal → List Entry → ScriptEntry → LineDone
    → List Event
events_at number input journal past line it =
    admissions journal it.made.shelves ++
    (published_at input line it.entry ++ event_of number input journal past it.entry)

-- and the replies that they tell
abbrev pub replies_at : (ℕ → ℕ → ℕ) → LineDone → List CoreReply
replies_at number it =
    admission_replies number it.made.shelves ++
    (published_replies it.entry ++ reply_of it.entry)

-- the events of these lines, line by line, after earlier entries
abbrev pub all_after : (ℕ → ℕ → ℕ) → Input → Journal → List Entry → List ScriptEntry
    → List LineDone → List Event
all_after number input journal past [] its = []
all_after number input journal past (line ∷ lines) [] = []
all_after number input journal past (line ∷ lines) (it ∷ its) =
    events_at number input journal past line it ++
    all_after number input journal (past ++ it.entry ∷ []) lines its

-- ---- the law

-- the events of a whole journal: the admissions of the loaded templates, then those of all lines
abbrev pub journal_events : (input : Input) (journal : Journal) → Legal input journal → List Event
journal_events input journal legal =
    let number = number_by_addition legal.loads legal.served in
    admissions journal (admits_of legal.loads) ++
    all_after number input journal [] input.script.entries legal.served

-- and the replies that they tell
abbrev pub journal_replies : (input : Input) (journal : Journal) → Legal input journal
    → List CoreReply
journal_replies input journal legal =
    let number = number_by_addition legal.loads legal.served in
    admission_replies number (admits_of legal.loads) ++ flat_map (replies_at number) legal.served

-- With one worker the admissions of the loaded templates, in their order, and then all that becomes
-- of the lines, in the order of the script, are one run of the machine from its first state on.
abbrev pub JournalIsARun : Type 0
JournalIsARun = (input : Input) (journal : Journal) (s : State) (legal : Legal input journal) →
    input.workers ≡ 1 → IsFirst input.policy input.tables s →
    ∥ IsRunFrom s (journal_events input journal legal) (journal_replies input journal legal) ∥₁
