-- A legal journal has the headline.
use Rattle.std.proofs.Common.{◌≡◌, ◌∙◌, refl, sym, ap, subst, ℕ, suc, zero, ◌+◌, ◌<◌, get_or, ◌⊎◌, inl, inr, List, [], ◌∷◌, ◌++◌, Some, length, map, append_assoc, append-nil, arith, Option, None}
use Rattle.std.proofs.Math.Logic.{∥∥₁_map}
use Rattle.std.proofs.lemmas.List.Elements.{Contains-append_left, Contains-append_right, Contains-push_cases}
use Rattle.std.specs.List.{flat_map}
use Rattle.std.specs.Prelude.{Contains, slice_get}
use Rattle.ba_input.specs.Inputs.{effort_of}
use Rattle.ba_input.specs.declared.input.Input.{Input}
use Rattle.ba_model.specs.declared.policy.CacheKey.{CacheKey}
use Rattle.ba_model.specs.declared.policy.Context.{Context}
use Rattle.ba_model.specs.declared.policy.Policy.{Policy}
use Rattle.ba_model.specs.declared.query.Query.{Query}
use Rattle.ba_model.specs.declared.value.Value.{Value}
use Rattle.ba_script.specs.declared.entry.ScriptEntry.{ScriptEntry}
use Rattle.ba_script.specs.declared.entry.ScriptEntry.TheVariants as said
use Rattle.ba_session.specs.Asking.{Replies}
use Rattle.ba_session.specs.KeyReads.{AreGrounds, KeyReads, LetsThrough}
use Rattle.ba_keys.specs.Literals.{key_queries}
use Rattle.ba_session.specs.Passing.{ShelfCalls}
use Rattle.ba_session.specs.declared.reply.By.{By}
use Rattle.ba_session.specs.declared.reply.KeyReply.{KeyReply}
use Rattle.ba_session.specs.declared.reply.KeyReply.TheVariants as key_reply
use Rattle.ba_session.specs.declared.reply.Reply.{Reply}
use Rattle.ba_session.specs.declared.reply.Reply.TheVariants.{Answer, Blocked, Unread, NoMemory}
use Rattle.ba_session.specs.declared.reply.Why.{Why}
use Rattle.ba_session.specs.declared.request.Request.{Request}
use Rattle.ba_settle.specs.Settling.{Effort}
use Rattle.ba_tables.specs.TableSet.{TableSet}
use Rattle.ba_lanes.proofs.JoinLemmas.{told_by}
use Rattle.ba_lanes.proofs.LineLemmas.{in_its_lane}
use Rattle.ba_lanes.proofs.MergeLemmas.{lane_low}
use Rattle.ba_lanes.proofs.ServeLemmas.{same_length}
use Rattle.ba_lanes.specs.Headline.{Headline, IsAnswerEverywhere, IsAskerOf, IsBlockedWithReason, IsLetThrough, IsReadBlockedWithReason}
use Rattle.ba_lanes.specs.Legal.{AreServed, IsAsk, IsRead, IsRequest, IsServed, Legal, LineDone, answer_of, asked, begins, done_in, lane_of, pin_of, read_as, trace_in, trace_of, versions_made}
use Rattle.ba_lanes.specs.declared.journal.Entry.{Entry}
use Rattle.ba_lanes.specs.declared.journal.Entry.TheVariants.{Begin, Ask, Read, End, Publish, Memory}
use Rattle.ba_lanes.specs.declared.journal.LineKind.{LineKind}
use Rattle.ba_lanes.specs.declared.journal.LineKind.TheVariants as kinds
use Rattle.ba_lanes.specs.declared.journal.Journal.{Journal}
use Rattle.ba_versions.specs.Calls as versions
use Rattle.ba_versions.specs.Reads.{calls_of, versions_of}
use Rattle.ba_versions.specs.declared.call.VersionCall.{VersionCall}
use Rattle.ba_versions.specs.declared.call.VersionCall.TheVariants as call

-- ---- pins

get_front : {X : Type 0} (xs ys : List X) (r : ℕ) (x : X) → slice_get xs r ≡ Some x → slice_get (xs ++ ys) r ≡ Some x
get_front [] ys r x e = absurd (cc)
get_front (y ∷ xs) ys zero x e = e
get_front (y ∷ xs) ys (suc r) x e = get_front xs ys r x e

-- a version stays where it is
stays : (opening : TableSet) (made : VersionCall) (old new : List TableSet) → versions.Steps opening old made new → (n : ℕ) (tables : TableSet) → slice_get old n ≡ Some tables → slice_get new n ≡ Some tables
stays opening (call.Publish told m) old new step n tables there = subst (λ z. slice_get z n ≡ Some tables) (sym step.appended) (get_front old (told.value ∷ []) n tables there)
stays opening (call.Pin m told) old new step n tables there = subst (λ z. slice_get z n ≡ Some tables) (sym step.same) there
stays opening call.Refused old new step n tables there = subst (λ z. slice_get z n ≡ Some tables) (sym step) there

-- what was pinned is a version
pub pinned_there : (opening : TableSet) {calls : List VersionCall} {list : List TableSet} → versions.Legal opening calls list → (n : ℕ) (tables : TableSet) → Contains calls (pin_of n tables) → slice_get list n ≡ Some tables
pinned_there opening (versions.start v) n tables h = let low = h.1 in absurd (omega (arith, low))
pinned_there opening (versions.next {calls = calls} {old = old} {new = new} made before step) n tables h = by (pinned_there opening before n tables) (Contains-push_cases calls made (pin_of n tables) h)
  where
    here : (it : VersionCall) → it ≡ pin_of n tables → versions.Steps opening old it new → slice_get new n ≡ Some tables
    here it e s =
        let p : versions.Steps opening old (pin_of n tables) new = subst (λ z. versions.Steps opening old z new) e s in
        subst (λ z. slice_get z n ≡ Some tables) (sym p.same) p.there

    by : (Contains calls (pin_of n tables) → slice_get old n ≡ Some tables) → Contains calls (pin_of n tables) ⊎ (made ≡ pin_of n tables) → slice_get new n ≡ Some tables
    by earlier (inl c) = stays opening made old new step n tables (earlier c)
    by earlier (inr e) = here made e step

flat_contains : {A B : Type 0} (f : A → List B) (xs : List A) (x : A) (y : B) → Contains xs x → Contains (f x) y → Contains (flat_map f xs) y
flat_contains f xs x y h inside = at xs h.0 h.1 h.2
  where
    at : (l : List _) (k : ℕ) → k < length l → get_or l k x ≡ x → Contains (flat_map f l) y
    at [] k low e = absurd (omega (arith, low))
    at (z ∷ l) zero low e = Contains-append_left (f z) (flat_map f l) y (subst (λ w. Contains (f w) y) (sym e) inside)
    at (z ∷ l) (suc k) low e = Contains-append_right (f z) (flat_map f l) y (at l k (omega (arith, low)) e)

-- ---- lines and their entries

head_is : {A : Type 0} (x y : A) (xs ys : List A) → x ∷ xs ≡ y ∷ ys → x ≡ y
head_is x y xs ys e = cc

tail_is : {A : Type 0} (x y : A) (xs ys : List A) → x ∷ xs ≡ y ∷ ys → xs ≡ ys
tail_is x y xs ys e = cc

none_is : {A : Type 0} (before after : List A) (x : A) → before ++ x ∷ after ≡ [] → ⊥
none_is [] after x e = cc
none_is (b ∷ bs) after x e = cc

abbrev pub entry_in : LineDone → Entry
entry_in it = it.entry

-- the line of an entry among the others
record IsAmong (its : List LineDone) (before : List Entry) (entry : Entry) : Type 0 where
  front : List LineDone
  it : LineDone
  rest : List LineDone
  its_are : its ≡ front ++ it ∷ rest
  front_is : map entry_in front ≡ before
  entry_is : it.entry ≡ entry

among : (its : List LineDone) (before : List Entry) (entry : Entry) (after : List Entry) → before ++ entry ∷ after ≡ map entry_in its → IsAmong its before entry
among [] before entry after e = absurd (none_is before after entry e)
among (x ∷ xs) [] entry after e = record {
  front = [];
  it = x;
  rest = xs;
  its_are = refl;
  front_is = refl;
  entry_is = sym (head_is entry x.entry after (map entry_in xs) e);
}
among (x ∷ xs) (b ∷ bs) entry after e =
    let found = among xs bs entry after (tail_is b x.entry (bs ++ entry ∷ after) (map entry_in xs) e) in
    let same = head_is b x.entry (bs ++ entry ∷ after) (map entry_in xs) e in
    record {
      front = x ∷ found.front;
      it = found.it;
      rest = found.rest;
      its_are = ap (λ z. x ∷ z) found.its_are;
      front_is = (λ i. sym same i ∷ found.front_is i);
      entry_is = found.entry_is;
    }

-- the script's line of it, and what became of that
record IsAt (input : Input) (lines : List ScriptEntry) (earlier front : List LineDone) (it : LineDone) : Type 0 where
  line : ScriptEntry
  at : slice_get lines (length front) ≡ Some line
  is : IsServed input (earlier ++ front) line it

served_at : (input : Input) (lines : List ScriptEntry) (earlier front : List LineDone) (it : LineDone) (rest : List LineDone) → AreServed input earlier lines (front ++ it ∷ rest) → IsAt input lines earlier front it
served_at input [] earlier [] it rest h = absurd h
served_at input [] earlier (x ∷ front) it rest h = absurd h
served_at input (l ∷ ls) earlier [] it rest (h, more) = record { line = l; at = refl; is = subst (λ z. IsServed input z l it) (sym (append-nil earlier)) h }
served_at input (l ∷ ls) earlier (x ∷ front) it rest (h, more) =
    let found = served_at input ls (earlier ++ x ∷ []) front it rest more in
    record { line = found.line; at = found.at; is = subst (λ z. IsServed input z found.line it) (append_assoc earlier (x ∷ []) front) found.is }

-- ---- questions

-- the reply that a question's entry has, and its line
record HasReply (input : Input) (journal : Journal) (request version : ℕ) (earlier : List Entry) (reply : Reply) : Type 0 where
  asker : Request
  asks : IsAskerOf input journal request version earlier asker
  name : List ℕ
  text : List ℕ
  line : slice_get input.script.entries (length earlier) ≡ Some (said.Ask request name text)
  calls : ShelfCalls
  holds : Replies input.policy asker (effort_of input) text calls reply

answer_holds : (input : Input) (journal : Journal) (request version : ℕ) (earlier : List Entry) (query : Query) (rows : List (List Value)) (by : By) → HasReply input journal request version earlier (Answer query rows by) →
    IsAnswerEverywhere input journal request version earlier query rows
answer_holds input journal request version earlier query rows by h = let it = h.holds in
    record { question = record { name = h.name; text = h.text; line = h.line; reads = it.reads }; asker = h.asker; asks = h.asks; released = it.released }

block_holds : (input : Input) (journal : Journal) (request version : ℕ) (earlier : List Entry) (query : Query) (why : Why) → HasReply input journal request version earlier (Blocked query why) →
    IsBlockedWithReason input journal request version earlier query why
block_holds input journal request version earlier query why h = let it = h.holds in
    record { question = record { name = h.name; text = h.text; line = h.line; reads = it.reads }; asker = h.asker; asks = h.asks; uncovered = it.denied.uncovered; reason = it.denied.reason }

-- an entry of a question is of this request, over this version, and has this reply
record IsSameAsk (request version r v : ℕ) (reply it : Reply) : Type 0 where
  request_is : r ≡ request
  version_is : v ≡ version
  reply_is : it ≡ reply

same_ask : (request version r v : ℕ) (reply it : Reply) → Ask request version reply ≡ Ask r v it → IsSameAsk request version r v reply it
same_ask request version r v reply it e = record { request_is = cc; version_is = cc; reply_is = cc }

no_memory : (request version : ℕ) (reply : Reply) (kind : LineKind) (r v : Option ℕ) → Ask request version reply ≡ Memory kind r v → ⊥
no_memory request version reply kind r v e = cc

no_read : (request version : ℕ) (reply : Reply) (r v key : ℕ) (it : KeyReply) → Ask request version reply ≡ read_as r v key it → ⊥
no_read request version reply r v key (key_reply.Allowed queries by) e = cc
no_read request version reply r v key (key_reply.Blocked queries before why) e = cc
no_read request version reply r v key key_reply.NoMemory e = cc

same_asked : (request version r v : ℕ) (reply it : Reply) → Ask request version reply ≡ asked r v it → IsSameAsk request version r v reply it
same_asked request version r v reply (Answer query rows by) e = same_ask request version r v reply (Answer query rows by) e
same_asked request version r v reply (Blocked query why) e = same_ask request version r v reply (Blocked query why) e
same_asked request version r v reply (Unread fault) e = same_ask request version r v reply (Unread fault) e
same_asked request version r v reply NoMemory e = absurd (no_memory request version reply kinds.Ask (Some r) (Some v) e)

pub trace_same : (number : ℕ) (its : List LineDone) → trace_of number its ≡ trace_in number (map entry_in its)
trace_same number [] = refl
trace_same number (x ∷ xs) = ap (λ z. answer_of number x.entry ++ z) (trace_same number xs)

map_length : {X Y : Type 0} (f : X → Y) (xs : List X) → length (map f xs) ≡ length xs
map_length f [] = refl
map_length f (x ∷ xs) = ap suc (map_length f xs)

-- what a line pinned stands in the history of the versions
pub pin_made : (input : Input) (journal : Journal) (legal : Legal input journal) (request version : ℕ) (tables : TableSet) → Contains legal.served (begins request version tables) →
    Contains (calls_of journal.histories.versions) (pin_of version tables)
pin_made input journal legal request version tables all =
    let there = in_its_lane (lane_of input.workers) input.workers input.script.entries legal.served (begins request version tables) (same_length input [] input.script.entries legal.served legal.lines)
    (lane_low input legal.input_fits.workers.0) all in
    let one : Contains (pin_of version tables ∷ []) (pin_of version tables) = (0, omega arith, refl) in
    let of_its_lane : Contains (versions_made (done_in input legal.served there.0)) (pin_of version tables) =
    flat_contains (λ (it : LineDone). it.made.versions) (done_in input legal.served there.0) (begins request version tables) (pin_of version tables) there.2 one in
    let log = legal.versions.calls.log in
    subst (λ z. Contains z (pin_of version tables)) (sym legal.versions.calls.calls_are)
    (told_by (there.0 + 1) log (pin_of version tables) (subst (λ z. Contains z (pin_of version tables)) (sym (legal.versions.calls.each there.0 there.1)) of_its_lane))

-- ---- the request of a line, as it stands there

module _ (input : Input) (journal : Journal) (legal : Legal input journal) (before : List Entry) (entry : Entry) (found : IsAmong legal.served before entry) where
  -- the version that an earlier line pinned
  pinned : (request version : ℕ) (tables : TableSet) → Contains found.front (begins request version tables) → ∥ slice_get (versions_of journal.histories.versions) version ≡ Some tables ∥₁
  pinned request version tables h =
      let all : Contains legal.served (begins request version tables) =
      subst (λ z. Contains z (begins request version tables)) (sym found.its_are) (Contains-append_left found.front (found.it ∷ found.rest) (begins request version tables) h) in
      ∥∥₁_map legal.versions.legal (λ it. pinned_there input.tables it version tables (pin_made input journal legal request version tables all))

  stands_there : (request version : ℕ) (asker : Request) → asker.version ≡ version → IsRequest input found.front request asker → IsAskerOf input journal request version before asker
  stands_there request version asker same asks = record {
    context = asks.context;
    version_is = same;
    pinned = pinned request version asker.tables (subst (λ z. Contains found.front (begins request z asker.tables)) same asks.begun);
    trace = asks.trace ∙ trace_same request found.front ∙ ap (trace_in request) found.front_is;
  }

  line_there : (line : ScriptEntry) → slice_get input.script.entries (length found.front) ≡ Some line → slice_get input.script.entries (length before) ≡ Some line
  line_there line at = subst (λ z. slice_get input.script.entries z ≡ Some line) (sym (map_length entry_in found.front) ∙ ap length found.front_is) at

  line_served : IsAt input input.script.entries [] found.front found.it
  line_served = served_at input input.script.entries [] found.front found.it found.rest (subst (AreServed input [] input.script.entries) found.its_are legal.lines)

module _ (input : Input) (journal : Journal) (legal : Legal input journal) (before : List Entry) (request version : ℕ) (reply : Reply)
    (found : IsAmong legal.served before (Ask request version reply)) where
  questioned : (name text : List ℕ) → slice_get input.script.entries (length found.front) ≡ Some (said.Ask request name text) → IsAsk input found.front request text found.it → HasReply input journal request version before reply
  questioned name text at h =
      let is = same_asked request version request h.asker.version reply h.reply (sym found.entry_is ∙ ap entry_in h.is) in
      record {
        asker = h.asker;
        asks = stands_there input journal legal before (Ask request version reply) found request version h.asker is.version_is h.asks;
        name = name;
        text = text;
        line = line_there input journal legal before (Ask request version reply) found (said.Ask request name text) at;
        calls = h.calls;
        holds = subst (Replies input.policy h.asker (effort_of input) text h.calls) is.reply_is h.replies;
      }

  -- the entry is a question's, so the line is
  at_line : (line : ScriptEntry) → slice_get input.script.entries (length found.front) ≡ Some line → IsServed input found.front line found.it → HasReply input journal request version before reply
  at_line (said.Begin r name context) at (inl h) = let e : Ask request version reply ≡ Begin r h.version = sym found.entry_is ∙ ap entry_in h.is in absurd (cc)
  at_line (said.Begin r name context) at (inr h) = absurd (no_memory request version reply kinds.Begin (Some r) None (sym found.entry_is ∙ h.entry_is))
  at_line (said.Ask r name text) at (inl h) =
      let same = (same_asked request version r h.asker.version reply h.reply (sym found.entry_is ∙ ap entry_in h.is)).request_is in
      questioned name text (subst (λ z. slice_get input.script.entries (length found.front) ≡ Some (said.Ask z name text)) same at) (subst (λ z. IsAsk input found.front z text found.it) same h)
  at_line (said.Ask r name text) at (inr h) = absurd (no_memory request version reply kinds.Ask (Some r) None (sym found.entry_is ∙ ap entry_in h.unserved))
  at_line (said.Read r name key args qs) at (inl h) = absurd (no_read request version reply r h.asker.version key h.reply (sym found.entry_is ∙ ap entry_in h.is))
  at_line (said.Read r name key args qs) at (inr h) = absurd (no_memory request version reply kinds.Read (Some r) None (sym found.entry_is ∙ ap entry_in h.unserved))
  at_line (said.End r name) at (inl h) = let e : Ask request version reply ≡ End r h.version = sym found.entry_is ∙ ap entry_in h.is in absurd (cc)
  at_line (said.End r name) at (inr h) = absurd (no_memory request version reply kinds.End (Some r) None (sym found.entry_is ∙ ap entry_in h.unserved))
  at_line (said.Publish number set) at (inl h) = let e : Ask request version reply ≡ Publish h.version = sym found.entry_is ∙ ap entry_in h.is in absurd (cc)
  at_line (said.Publish number set) at (inr h) = absurd (no_memory request version reply kinds.Publish None None (sym found.entry_is ∙ ap entry_in h))

  has_reply : HasReply input journal request version before reply
  has_reply = let it = line_served input journal legal before (Ask request version reply) found in at_line it.line it.at it.is

ask_has : (input : Input) (journal : Journal) (before after : List Entry) (request version : ℕ) (reply : Reply) → Legal input journal → journal.entries ≡ before ++ Ask request version reply ∷ after →
    HasReply input journal request version before reply
ask_has input journal before after request version reply legal e =
    has_reply input journal legal before request version reply (among legal.served before (Ask request version reply) after (sym e ∙ legal.entries))

-- ---- reads

-- the reply that a read's entry has, and its line
record HasKeyReply (input : Input) (journal : Journal) (request version number : ℕ) (earlier : List Entry) (reply : KeyReply) : Type 0 where
  asker : Request
  asks : IsAskerOf input journal request version earlier asker
  name : List ℕ
  arguments : Context
  questions : ℕ
  line : slice_get input.script.entries (length earlier) ≡ Some (said.Read request name number arguments questions)
  key : CacheKey
  key_is : slice_get input.policy.keys number ≡ Some key
  calls : List ShelfCalls
  holds : KeyReads input.policy asker (effort_of input) (key_queries input.policy key arguments) calls reply
  through : LetsThrough input.policy asker reply

-- an entry of a read is of this request, over this version, of this key, and has this reply
record IsSameRead (request version number r v k : ℕ) (reply it : KeyReply) : Type 0 where
  request_is : r ≡ request
  version_is : v ≡ version
  number_is : k ≡ number
  reply_is : it ≡ reply

same_read : (request version number r v k : ℕ) (reply it : KeyReply) → Read request version number reply ≡ Read r v k it → IsSameRead request version number r v k reply it
same_read request version number r v k reply it e = record { request_is = cc; version_is = cc; number_is = cc; reply_is = cc }

read_no_memory : (request version number : ℕ) (reply : KeyReply) (kind : LineKind) (r v : Option ℕ) → Read request version number reply ≡ Memory kind r v → ⊥
read_no_memory request version number reply kind r v e = cc

read_no_ask : (request version number : ℕ) (reply : KeyReply) (r v : ℕ) (it : Reply) → Read request version number reply ≡ asked r v it → ⊥
read_no_ask request version number reply r v (Answer query rows by) e = cc
read_no_ask request version number reply r v (Blocked query why) e = cc
read_no_ask request version number reply r v (Unread fault) e = cc
read_no_ask request version number reply r v NoMemory e = cc

same_read_as : (request version number r v k : ℕ) (reply it : KeyReply) → Read request version number reply ≡ read_as r v k it → IsSameRead request version number r v k reply it
same_read_as request version number r v k reply (key_reply.Allowed queries by) e = same_read request version number r v k reply (key_reply.Allowed queries by) e
same_read_as request version number r v k reply (key_reply.Blocked queries before why) e = same_read request version number r v k reply (key_reply.Blocked queries before why) e
same_read_as request version number r v k reply key_reply.NoMemory e = absurd (read_no_memory request version number reply kinds.Read (Some r) (Some v) e)

module _ (input : Input) (journal : Journal) (legal : Legal input journal) (before : List Entry) (request version number : ℕ) (reply : KeyReply)
    (found : IsAmong legal.served before (Read request version number reply)) where
  read_here : (name : List ℕ) (args : Context) (qs : ℕ) → slice_get input.script.entries (length found.front) ≡ Some (said.Read request name number args qs) → IsRead input found.front request number args found.it →
      HasKeyReply input journal request version number before reply
  read_here name args qs at h =
      let is = same_read_as request version number request h.asker.version number reply h.reply (sym found.entry_is ∙ ap entry_in h.is) in
      record {
        asker = h.asker;
        asks = stands_there input journal legal before (Read request version number reply) found request version h.asker is.version_is h.asks;
        name = name;
        arguments = args;
        questions = qs;
        line = line_there input journal legal before (Read request version number reply) found (said.Read request name number args qs) at;
        key = h.key;
        key_is = h.key_is;
        calls = h.calls;
        holds = subst (KeyReads input.policy h.asker (effort_of input) (key_queries input.policy h.key args) h.calls) is.reply_is h.reads;
        through = subst (LetsThrough input.policy h.asker) is.reply_is h.through;
      }

  read_line : (r k : ℕ) (name : List ℕ) (args : Context) (qs : ℕ) → r ≡ request → k ≡ number → slice_get input.script.entries (length found.front) ≡ Some (said.Read r name k args qs) → IsRead input found.front r k args found.it →
      HasKeyReply input journal request version number before reply
  read_line r k name args qs one two at h =
      read_here name args qs
      (subst (λ z. slice_get input.script.entries (length found.front) ≡ Some (said.Read request name z args qs)) two
      (subst (λ z. slice_get input.script.entries (length found.front) ≡ Some (said.Read z name k args qs)) one at))
      (subst (λ z. IsRead input found.front request z args found.it) two (subst (λ z. IsRead input found.front z k args found.it) one h))

  -- the entry is a read's, so the line is
  at_read : (line : ScriptEntry) → slice_get input.script.entries (length found.front) ≡ Some line → IsServed input found.front line found.it → HasKeyReply input journal request version number before reply
  at_read (said.Begin r name context) at (inl h) = let e : Read request version number reply ≡ Begin r h.version = sym found.entry_is ∙ ap entry_in h.is in absurd (cc)
  at_read (said.Begin r name context) at (inr h) = absurd (read_no_memory request version number reply kinds.Begin (Some r) None (sym found.entry_is ∙ h.entry_is))
  at_read (said.Ask r name text) at (inl h) = absurd (read_no_ask request version number reply r h.asker.version h.reply (sym found.entry_is ∙ ap entry_in h.is))
  at_read (said.Ask r name text) at (inr h) = absurd (read_no_memory request version number reply kinds.Ask (Some r) None (sym found.entry_is ∙ ap entry_in h.unserved))
  at_read (said.Read r name k args qs) at (inl h) =
      let same = same_read_as request version number r h.asker.version k reply h.reply (sym found.entry_is ∙ ap entry_in h.is) in
      read_line r k name args qs same.request_is same.number_is at h
  at_read (said.Read r name k args qs) at (inr h) = absurd (read_no_memory request version number reply kinds.Read (Some r) None (sym found.entry_is ∙ ap entry_in h.unserved))
  at_read (said.End r name) at (inl h) = let e : Read request version number reply ≡ End r h.version = sym found.entry_is ∙ ap entry_in h.is in absurd (cc)
  at_read (said.End r name) at (inr h) = absurd (read_no_memory request version number reply kinds.End (Some r) None (sym found.entry_is ∙ ap entry_in h.unserved))
  at_read (said.Publish n set) at (inl h) = let e : Read request version number reply ≡ Publish h.version = sym found.entry_is ∙ ap entry_in h.is in absurd (cc)
  at_read (said.Publish n set) at (inr h) = absurd (read_no_memory request version number reply kinds.Publish None None (sym found.entry_is ∙ ap entry_in h))

  has_key_reply : HasKeyReply input journal request version number before reply
  has_key_reply = let it = line_served input journal legal before (Read request version number reply) found in at_read it.line it.at it.is

read_has : (input : Input) (journal : Journal) (before after : List Entry) (request version number : ℕ) (reply : KeyReply) → Legal input journal → journal.entries ≡ before ++ Read request version number reply ∷ after →
    HasKeyReply input journal request version number before reply
read_has input journal before after request version number reply legal e =
    has_key_reply input journal legal before request version number reply (among legal.served before (Read request version number reply) after (sym e ∙ legal.entries))

-- there are as many grounds as queries
pub as_many_grounds : (policy : Policy) (asker : Request) (effort : Effort) (queries : List Query) (bases : List By) (made : List ShelfCalls) → AreGrounds policy asker effort queries bases made → length bases ≡ length queries
as_many_grounds policy asker effort [] [] [] h = refl
as_many_grounds policy asker effort [] [] (m ∷ ms) h = absurd h
as_many_grounds policy asker effort [] (b ∷ bs) ms h = absurd h
as_many_grounds policy asker effort (q ∷ qs) [] ms h = absurd h
as_many_grounds policy asker effort (q ∷ qs) (b ∷ bs) [] h = absurd h
as_many_grounds policy asker effort (q ∷ qs) (b ∷ bs) (m ∷ ms) h = ap suc (as_many_grounds policy asker effort qs bs ms h.1)

get_behind : {X : Type 0} (xs : List X) (x : X) (ys : List X) → slice_get (xs ++ x ∷ ys) (length xs) ≡ Some x
get_behind [] x ys = refl
get_behind (z ∷ xs) x ys = get_behind xs x ys

read_is_through : (input : Input) (journal : Journal) (request version number : ℕ) (earlier : List Entry) (queries : List Query) (by : List By) → HasKeyReply input journal request version number earlier (key_reply.Allowed queries by) →
    IsLetThrough input journal request version number earlier queries
read_is_through input journal request version number earlier queries by h = record {
  read = record { name = h.name; arguments = h.arguments; questions = h.questions; line = h.line; key = h.key; key_is = h.key_is; queries_are = h.holds.0 };
  asker = h.asker;
  asks = h.asks;
  one_answer = h.through;
}

read_is_blocked : (input : Input) (journal : Journal) (request version number : ℕ) (earlier : List Entry) (queries : List Query) (by : List By) (why : Why) →
    HasKeyReply input journal request version number earlier (key_reply.Blocked queries by why) → IsReadBlockedWithReason input journal request version number earlier queries (length by) why
read_is_blocked input journal request version number earlier queries by why h =
    let it = h.holds.1 in
    let many = as_many_grounds input.policy h.asker (effort_of input) it.front by it.earlier it.grounds in
    record {
      read = record { name = h.name; arguments = h.arguments; questions = h.questions; line = h.line; key = h.key; key_is = h.key_is; queries_are = h.holds.0 };
      query = it.query;
      there = ap (slice_get queries) many ∙ ap (λ z. slice_get z (length it.front)) (h.holds.0 ∙ it.are) ∙ get_behind it.front it.query it.back;
      asker = h.asker;
      asks = h.asks;
      uncovered = it.denied.uncovered;
      reason = it.denied.reason;
    }

pub headline : (input : Input) (journal : Journal) → Legal input journal → Headline input journal
headline input journal legal = record {
  answers = λ before after request version query rows by e. answer_holds input journal request version before query rows by (ask_has input journal before after request version (Answer query rows by) legal e);
  blocks = λ before after request version query why e. block_holds input journal request version before query why (ask_has input journal before after request version (Blocked query why) legal e);
  reads = λ before after request version number queries by e.
      read_is_through input journal request version number before queries by (read_has input journal before after request version number (key_reply.Allowed queries by) legal e);
  read_blocks = λ before after request version number queries by why e.
      read_is_blocked input journal request version number before queries by why (read_has input journal before after request version number (key_reply.Blocked queries by why) legal e);
}
