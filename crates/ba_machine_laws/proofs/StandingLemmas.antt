-- The requests that stand at a journal's entries are those that began and asked there.
use Rattle.std.proofs.Common.{◌≡◌, ◌∙◌, ℕ, List, [], ◌∷◌, ◌++◌, All, Contains, None, Some, ap, append_assoc, arith, get_or, inl, inr, refl, slice_get, subst, sym}
use Rattle.std.proofs.Math.Logic.{∥∥₁_map}
use Rattle.std.proofs.lemmas.List.Elements.{All-cons, All-contains, All-map, All-nil, Contains-append_right}
use Rattle.std.proofs.lemmas.Option.{get_or_from_slice_get}
use Rattle.ba_input.specs.declared.input.Input.{Input}
use Rattle.ba_lanes.proofs.HeadlineLemmas.{headline}
use Rattle.ba_lanes.proofs.ServeLemmas.{asked_is_no_begin, memory_is_no_begin, read_is_no_begin}
use Rattle.ba_lanes.specs.Headline.{IsAskerOf}
use Rattle.ba_lanes.specs.Legal.{AreServed, HasContext, IsServed, Legal, LineDone, contexts_of}
use Rattle.ba_lanes.specs.declared.journal.Entry.{Entry}
use Rattle.ba_lanes.specs.declared.journal.Entry.TheVariants.{Begin, End, Publish}
use Rattle.ba_lanes.specs.declared.journal.LineKind.TheVariants as kinds
use Rattle.ba_lanes.specs.declared.journal.Journal.{Journal}
use Rattle.ba_model.specs.declared.policy.Context.{Context}
use Rattle.ba_machine_laws.proofs.LineLemmas.{entry_in}
use Rattle.ba_machine_laws.proofs.ScriptLemmas.{next_number}
use Rattle.ba_machine_laws.specs.Journals.{AskersAreStanding, standing}
use Rattle.ba_script.specs.Scripts.{NumberedFrom}
use Rattle.ba_script.specs.declared.entry.ScriptEntry.{ScriptEntry}
use Rattle.ba_script.specs.declared.entry.ScriptEntry.TheVariants as said
use Rattle.ba_session.specs.declared.request.Request.{Request}
use Rattle.ba_versions.specs.Reads.{versions_of}

-- ---- begin lines

-- an entry that begins a request is one of a request with a context
abbrev HasBegun : Input → Entry → Type 0
HasBegun input entry = (k version : ℕ) → entry ≡ Begin k version → (context : Context) × HasContext input.script k context

begun_same : (r v k w : ℕ) → Begin r v ≡ Begin k w → r ≡ k
begun_same r v k w e = cc

module _ (input : Input) (numbers : NumberedFrom 0 input.script.entries) where
  line_begun : (before rest : List ScriptEntry) (earlier : List LineDone) (it : LineDone) (line : ScriptEntry) → input.script.entries ≡ before ++ line ∷ rest → IsServed input earlier line it →
      HasBegun input it.entry
  line_begun before rest earlier it (said.Begin r name context) are (inl h) k version e =
      let same = begun_same r h.version k version (sym (ap entry_in h.is) ∙ e) in
      (context, subst (λ n. HasContext input.script n context) same (next_number input.script.entries before rest r name context numbers are).1)
  line_begun before rest earlier it (said.Begin r name context) are (inr h) k version e = absurd (memory_is_no_begin kinds.Begin (Some r) None k version (sym h.entry_is ∙ e))
  line_begun before rest earlier it (said.Ask r name text) are (inl h) k version e = absurd (asked_is_no_begin r h.asker.version h.reply k version (sym (ap entry_in h.is) ∙ e))
  line_begun before rest earlier it (said.Ask r name text) are (inr h) k version e = absurd (memory_is_no_begin kinds.Ask (Some r) None k version (sym (ap entry_in h.unserved) ∙ e))
  line_begun before rest earlier it (said.Read r name key args qs) are (inl h) k version e = absurd (read_is_no_begin r h.asker.version key h.reply k version (sym (ap entry_in h.is) ∙ e))
  line_begun before rest earlier it (said.Read r name key args qs) are (inr h) k version e = absurd (memory_is_no_begin kinds.Read (Some r) None k version (sym (ap entry_in h.unserved) ∙ e))
  line_begun before rest earlier it (said.End r name) are (inl h) k version e = let other : End r h.version ≡ Begin k version = sym (ap entry_in h.is) ∙ e in absurd (cc)
  line_begun before rest earlier it (said.End r name) are (inr h) k version e = absurd (memory_is_no_begin kinds.End (Some r) None k version (sym (ap entry_in h.unserved) ∙ e))
  line_begun before rest earlier it (said.Publish n set) are (inl h) k version e = let other : Publish h.version ≡ Begin k version = sym (ap entry_in h.is) ∙ e in absurd (cc)
  line_begun before rest earlier it (said.Publish n set) are (inr h) k version e = absurd (memory_is_no_begin kinds.Publish None None k version (sym (ap entry_in h) ∙ e))

  all_begun : (lines : List ScriptEntry) (its : List LineDone) (before : List ScriptEntry) (earlier : List LineDone) → input.script.entries ≡ before ++ lines → AreServed input earlier lines its →
      All (λ (it : LineDone). HasBegun input it.entry) its
  all_begun lines [] before earlier are served = All-nil (λ (it : LineDone). HasBegun input it.entry)
  all_begun [] (it ∷ its) before earlier are served = absurd served
  all_begun (line ∷ lines) (it ∷ its) before earlier are served =
      All-cons (λ (it : LineDone). HasBegun input it.entry) it its (line_begun before lines earlier it line are served.0)
      (all_begun lines its (before ++ line ∷ []) (earlier ++ it ∷ []) (are ∙ sym (append_assoc before (line ∷ []) lines)) served.1)

-- ---- requests

shown : (script : List Context) (request : ℕ) (context : Context) → slice_get script request ≡ Some context → slice_get script request ≡ Some (get_or script request (record { values = [] }))
shown script request context there = subst (λ c. slice_get script request ≡ Some c) (sym (get_or_from_slice_get script request context (record { values = [] }) there)) there

begins_standing : (input : Input) (journal : Journal) → Legal input journal → (before after : List Entry) (request version : ℕ) → journal.entries ≡ before ++ Begin request version ∷ after →
    HasContext input.script request (standing input journal before request version).context
begins_standing input journal legal before after request version e =
    let begin = Begin request version in
    let all : All (HasBegun input) journal.entries =
    subst (All (HasBegun input)) (sym legal.entries)
    (All-map (HasBegun input) entry_in legal.served (all_begun input legal.input_fits.script.numbered input.script.entries legal.served [] [] refl legal.lines)) in
    let among : Contains journal.entries begin = subst (λ z. Contains z begin) (sym e) (Contains-append_right before (begin ∷ after) begin (0, omega arith, refl)) in
    let it = All-contains (HasBegun input) journal.entries begin all among request version refl in
    shown (contexts_of input.script.entries) request it.0 it.1

-- a request that asks is the one that stands there
is_standing : (input : Input) (journal : Journal) (request version : ℕ) (earlier : List Entry) (asker : Request) → IsAskerOf input journal request version earlier asker →
    IsAskerOf input journal request version earlier (standing input journal earlier request version)
is_standing input journal request version earlier asker h =
    let tables = versions_of journal.histories.versions in
    record {
      context = shown (contexts_of input.script.entries) request asker.context h.context;
      version_is = refl;
      pinned = ∥∥₁_map h.pinned (λ there. subst (λ z. slice_get tables version ≡ Some z) (sym (get_or_from_slice_get tables version asker.tables input.tables there)) there);
      trace = refl;
    }

pub askers_stand : AskersAreStanding
askers_stand input journal legal = record {
  begins = begins_standing input journal legal;
  answers = λ before after request version query rows basis e.
      let it = (headline input journal legal).answers before after request version query rows basis e in
      is_standing input journal request version before it.asker it.asks;
  blocks = λ before after request version query why e.
      let it = (headline input journal legal).blocks before after request version query why e in
      is_standing input journal request version before it.asker it.asks;
  reads = λ before after request version number queries bases e.
      let it = (headline input journal legal).reads before after request version number queries bases e in
      is_standing input journal request version before it.asker it.asks;
  read_blocks = λ before after request version number queries bases why e.
      let it = (headline input journal legal).read_blocks before after request version number queries bases why e in
      is_standing input journal request version before it.asker it.asks;
}
