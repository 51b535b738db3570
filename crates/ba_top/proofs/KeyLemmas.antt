-- The keys that a journal's entries read are the policy's.
use Rattle.std.proofs.Common.{◌≡◌, ℕ, ◌<◌, inl, inr, List, [], ◌∷◌, ◌++◌, All, ap, length, map, subst, sym}
use Rattle.std.proofs.lemmas.List.Elements.{All-cons, All-nil}
use Rattle.std.proofs.lemmas.Option.{slice_get_within}
use Rattle.ba_input.specs.declared.input.Input.{Input}
use Rattle.ba_lanes.specs.Legal.{AreServed, IsServed, Legal, LineDone, asked, read_as}
use Rattle.ba_lanes.specs.declared.journal.Entry.{Entry}
use Rattle.ba_lanes.specs.declared.journal.Journal.{Journal}
use Rattle.ba_model.specs.declared.policy.Policy.{Policy}
use Rattle.ba_script.specs.declared.entry.ScriptEntry.{ScriptEntry}
use Rattle.ba_script.specs.declared.entry.ScriptEntry.TheVariants as said
use Rattle.ba_session.specs.declared.reply.KeyReply.{KeyReply}
use Rattle.ba_session.specs.declared.reply.KeyReply.TheVariants as key_reply
use Rattle.ba_session.specs.declared.reply.Reply.{Reply}
use Rattle.ba_session.specs.declared.reply.Reply.TheVariants as reply
use Rattle.ba_top.specs.Text.{ReadsKey}

abbrev entry_of : LineDone → Entry
entry_of it = it.entry

asked_reads : (policy : Policy) (request version : ℕ) (it : Reply) → ReadsKey policy (asked request version it)
asked_reads policy request version (reply.Answer query rows by) = tt
asked_reads policy request version (reply.Blocked query why) = tt
asked_reads policy request version (reply.Unread fault) = tt
asked_reads policy request version reply.NoMemory = tt

read_reads : (policy : Policy) (request version key : ℕ) (it : KeyReply) → key < length policy.keys → ReadsKey policy (read_as request version key it)
read_reads policy request version key (key_reply.Allowed queries by) low = low
read_reads policy request version key (key_reply.Blocked queries before why) low = low
read_reads policy request version key key_reply.NoMemory low = tt

served_reads : (input : Input) (earlier : List LineDone) (e : ScriptEntry) (it : LineDone) → IsServed input earlier e it → ReadsKey input.policy it.entry
served_reads input earlier (said.Begin request name context) it (inl h) = subst (ReadsKey input.policy) (sym (ap entry_of h.is)) tt
served_reads input earlier (said.Begin request name context) it (inr h) = subst (ReadsKey input.policy) (sym h.entry_is) tt
served_reads input earlier (said.Ask request name text) it (inl h) = subst (ReadsKey input.policy) (sym (ap entry_of h.is)) (asked_reads input.policy request h.asker.version h.reply)
served_reads input earlier (said.Ask request name text) it (inr h) = subst (ReadsKey input.policy) (sym (ap entry_of h.unserved)) tt
served_reads input earlier (said.Read request name key arguments questions) it (inl h) =
    subst (ReadsKey input.policy) (sym (ap entry_of h.is)) (read_reads input.policy request h.asker.version key h.reply (slice_get_within input.policy.keys key h.key h.key_is))
served_reads input earlier (said.Read request name key arguments questions) it (inr h) = subst (ReadsKey input.policy) (sym (ap entry_of h.unserved)) tt
served_reads input earlier (said.End request name) it (inl h) = subst (ReadsKey input.policy) (sym (ap entry_of h.is)) tt
served_reads input earlier (said.End request name) it (inr h) = subst (ReadsKey input.policy) (sym (ap entry_of h.unserved)) tt
served_reads input earlier (said.Publish number set) it (inl h) = subst (ReadsKey input.policy) (sym (ap entry_of h.is)) tt
served_reads input earlier (said.Publish number set) it (inr h) = subst (ReadsKey input.policy) (sym (ap entry_of h)) tt

all_read : (input : Input) (earlier : List LineDone) (es : List ScriptEntry) (its : List LineDone) → AreServed input earlier es its → All (ReadsKey input.policy) (map entry_of its)
all_read input earlier [] [] h = All-nil (ReadsKey input.policy)
all_read input earlier [] (it ∷ its) h = absurd h
all_read input earlier (e ∷ es) [] h = absurd h
all_read input earlier (e ∷ es) (it ∷ its) h =
    All-cons (ReadsKey input.policy) it.entry (map entry_of its) (served_reads input earlier e it h.0) (all_read input (earlier ++ it ∷ []) es its h.1)

-- the keys that the entries of a legal journal read are the policy's
pub legal_keys : (input : Input) (journal : Journal) → Legal input journal → All (ReadsKey input.policy) journal.entries
legal_keys input journal legal = subst (All (ReadsKey input.policy)) (sym legal.entries) (all_read input [] input.script.entries legal.served legal.lines)
