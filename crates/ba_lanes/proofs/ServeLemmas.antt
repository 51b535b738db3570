-- What follows for the requests and the lines of a run.
use Rattle.std.proofs.Common.{◌≡◌, ◌≢◌, ◌∙◌, refl, sym, ap, ap₂, subst, ℕ, suc, zero, ◌+◌, ◌<◌, ◌≤◌, ◌⊎◌, inl, inr, Bool, true, false, ◌==◌, List, [], ◌∷◌, ◌++◌, length, map, take, drop, get_or, length-append, append_assoc, append-nil, add-one, drop-cons, cond, arith, Option, Some, None}
use Rattle.std.proofs.lemmas.Bool.{eqb-false, eqb-true}
use Rattle.std.proofs.lemmas.List.{length-map, map_push, take_all, take_more, take-append-drop}
use Rattle.std.proofs.lemmas.List.Elements.{Contains-append_left, Contains-push, Contains-push_cases, filter-append}
use Rattle.std.specs.List.{flat_map}
use Rattle.std.specs.Prelude.{Contains, Vec, slice_get, slice_set, vec_capacity}
use Rattle.ba_input.specs.Inputs.{IsInput}
use Rattle.ba_input.specs.declared.input.Input.{Input}
use Rattle.ba_model.specs.declared.policy.Context.{Context}
use Rattle.ba_script.specs.Scripts.{BeginFits, NumberedFrom, ReadFits}
use Rattle.ba_script.specs.declared.entry.ScriptEntry.{ScriptEntry}
use Rattle.ba_script.specs.declared.entry.ScriptEntry.TheVariants as said
use Rattle.ba_session.specs.Asking.{answer_in}
use Rattle.ba_session.specs.Passing.{AreOf}
use Rattle.ba_session.specs.declared.reply.KeyReply.{KeyReply}
use Rattle.ba_session.specs.declared.reply.KeyReply.TheVariants as key_reply
use Rattle.ba_session.specs.declared.reply.Reply.{Reply}
use Rattle.ba_session.specs.declared.reply.Reply.TheVariants as replied
use Rattle.ba_session.specs.declared.request.Request.{Request}
use Rattle.ba_session.specs.declared.service.Passes.{Passes}
use Rattle.ba_session.specs.declared.service.Service.{Service}
use Rattle.ba_tables.specs.TableSet.{TableSet}
use Rattle.ba_lanes.proofs.LaneLemmas.{can_first, can_rest, makes_on, makes_start}
use Rattle.ba_lanes.proofs.LineLemmas.{other_line, own_line}
use Rattle.ba_lanes.proofs.PublishedLemmas.{set_there}
use Rattle.ba_lanes.specs.Legal.{AreServed, HasContext, IsLost, IsServed, Legal, LineDone, answer_of, asked, begins, context_in, contexts_of, lane_of, read_as, trace_of}
use Rattle.ba_lanes.specs.Serving.{AreAskers, Asks, Begins, CanServe, CanTake, Comes, Does, Ends, FindsLost, HasServed, IsStanding, MakesAll, PassesOver, Reads, Stand, StandsIn, Takes, lines_in, told}
use Rattle.ba_lanes.specs.declared.lane.Lane.{Lane}
use Rattle.ba_lanes.specs.declared.journal.Entry.{Entry}
use Rattle.ba_lanes.specs.declared.journal.Entry.TheVariants.{Begin, Ask, Read, End, Publish, Memory}
use Rattle.ba_lanes.specs.declared.journal.LineKind.{LineKind}
use Rattle.ba_lanes.specs.declared.journal.LineKind.TheVariants as kinds
use Rattle.ba_lanes.specs.declared.journal.Journal.{Journal}

-- ---- lists

flat_end : {A B : Type 0} (f : A → List B) (xs ys : List A) → flat_map f (xs ++ ys) ≡ flat_map f xs ++ flat_map f ys
flat_end f [] ys = refl
flat_end f (x ∷ xs) ys = ap (λ z. f x ++ z) (flat_end f xs ys) ∙ sym (append_assoc (f x) (flat_map f xs) (flat_map f ys))

one_flat : {A B : Type 0} (f : A → List B) (x : A) → flat_map f (x ∷ []) ≡ f x
one_flat f x = append-nil (f x)

get_front : {X : Type 0} (xs ys : List X) (r : ℕ) (x : X) → slice_get xs r ≡ Some x → slice_get (xs ++ ys) r ≡ Some x
get_front [] ys r x e = absurd (cc)
get_front (y ∷ xs) ys zero x e = e
get_front (y ∷ xs) ys (suc r) x e = get_front xs ys r x e

get_map : {X Y : Type 0} (f : X → Y) (xs : List X) (r : ℕ) (x : X) → slice_get xs r ≡ Some x → slice_get (map f xs) r ≡ Some (f x)
get_map f [] r x e = absurd (cc)
get_map f (y ∷ xs) zero x e = let same : y ≡ x = cc in ap (λ z. Some (f z)) same
get_map f (y ∷ xs) (suc r) x e = get_map f xs r x e

get_below : {X : Type 0} (xs : List X) (r : ℕ) (x : X) → slice_get xs r ≡ Some x → r < length xs
get_below [] r x e = absurd (cc)
get_below (y ∷ xs) zero x e = omega arith
get_below (y ∷ xs) (suc r) x e = let below = get_below xs r x e in omega (arith, below)

-- an element of a list with one more at its end
data IsAtEnd {X : Type 0} (xs : List X) (x : X) (r : ℕ) (y : X) : Type 0 where
  in_front : slice_get xs r ≡ Some y → IsAtEnd xs x r y
  is_last : r ≡ length xs → y ≡ x → IsAtEnd xs x r y

at_end : {X : Type 0} (xs : List X) (x : X) (r : ℕ) (y : X) → slice_get (xs ++ x ∷ []) r ≡ Some y → IsAtEnd xs x r y
at_end [] x zero y e = is_last refl (cc)
at_end [] x (suc r) y e = absurd (cc)
at_end (z ∷ xs) x zero y e = in_front e
at_end (z ∷ xs) x (suc r) y e = further (at_end xs x r y e)
  where
    further : IsAtEnd xs x r y → IsAtEnd (z ∷ xs) x (suc r) y
    further (in_front h) = in_front h
    further (is_last h k) = is_last (ap suc h) k

-- an element of a list of which one is another now
data IsInSet {X : Type 0} (xs : List X) (n : ℕ) (x : X) (r : ℕ) (y : X) : Type 0 where
  is_changed : r ≡ n → y ≡ x → IsInSet xs n x r y
  is_kept : r ≢ n → slice_get xs r ≡ Some y → IsInSet xs n x r y

in_set : {X : Type 0} (xs : List X) (n : ℕ) (x : X) (r : ℕ) (y : X) → slice_get (slice_set xs n x) r ≡ Some y → IsInSet xs n x r y
in_set [] n x r y e = absurd (cc)
in_set (z ∷ xs) zero x zero y e = is_changed refl (cc)
in_set (z ∷ xs) zero x (suc r) y e = is_kept (λ h. cc) e
in_set (z ∷ xs) (suc n) x zero y e = is_kept (λ h. cc) e
in_set (z ∷ xs) (suc n) x (suc r) y e = further (in_set xs n x r y e)
  where
    further : IsInSet xs n x r y → IsInSet (z ∷ xs) (suc n) x (suc r) y
    further (is_changed h k) = is_changed (ap suc h) k
    further (is_kept h k) = is_kept (λ j. h (cc)) k

set_length : {X : Type 0} (xs : List X) (n : ℕ) (x : X) → length (slice_set xs n x) ≡ length xs
set_length [] n x = refl
set_length (y ∷ xs) zero x = refl
set_length (y ∷ xs) (suc n) x = ap suc (set_length xs n x)

-- where the new one has the same value under f, the others have theirs
map_set : {X Y : Type 0} (f : X → Y) (xs : List X) (n : ℕ) (x y : X) → slice_get xs n ≡ Some x → f y ≡ f x → map f (slice_set xs n y) ≡ map f xs
map_set f [] n x y e h = refl
map_set f (z ∷ xs) zero x y e h = let is : z ≡ x = cc in ap (λ w. w ∷ map f xs) (h ∙ ap f (sym is))
map_set f (z ∷ xs) (suc n) x y e h = ap (λ w. f z ∷ w) (map_set f xs n x y e h)

-- ---- traces

-- what one more line adds
pub trace_more : (number : ℕ) (earlier : List LineDone) (it : LineDone) → trace_of number (earlier ++ it ∷ []) ≡ trace_of number earlier ++ answer_of number it.entry
trace_more number earlier it =
    flat_end (λ (z : LineDone). answer_of number z.entry) earlier (it ∷ []) ∙ ap (λ z. trace_of number earlier ++ z) (one_flat (λ (z : LineDone). answer_of number z.entry) it)

-- a line without an answer adds nothing
trace_same : (number : ℕ) (earlier : List LineDone) (it : LineDone) → answer_of number it.entry ≡ [] → trace_of number (earlier ++ it ∷ []) ≡ trace_of number earlier
trace_same number earlier it quiet = trace_more number earlier it ∙ ap (λ z. trace_of number earlier ++ z) quiet ∙ append-nil (trace_of number earlier)

asks_own : (r version : ℕ) (reply : Reply) → answer_of r (Ask r version reply) ≡ answer_in reply
asks_own r version reply = by (r == r) refl
  where
    by : (t : Bool) → (r == r) ≡ t → cond t (answer_in reply) [] ≡ answer_in reply
    by true e = refl
    by false e = absurd (eqb-false r r e refl)

pub answers_own : (r version : ℕ) (reply : Reply) → answer_of r (asked r version reply) ≡ answer_in reply
answers_own r version (replied.Answer query rows by) = asks_own r version (replied.Answer query rows by)
answers_own r version (replied.Blocked query why) = asks_own r version (replied.Blocked query why)
answers_own r version (replied.Unread fault) = asks_own r version (replied.Unread fault)
answers_own r version replied.NoMemory = refl

asks_other : (r version number : ℕ) (reply : Reply) → number ≢ r → answer_of number (Ask r version reply) ≡ []
asks_other r version number reply differ = by (r == number) refl
  where
    by : (t : Bool) → (r == number) ≡ t → cond t (answer_in reply) [] ≡ []
    by true e = absurd (differ (sym (eqb-true r number e)))
    by false e = refl

pub answers_other : (r version number : ℕ) (reply : Reply) → number ≢ r → answer_of number (asked r version reply) ≡ []
answers_other r version number (replied.Answer query rows by) differ = asks_other r version number (replied.Answer query rows by) differ
answers_other r version number (replied.Blocked query why) differ = asks_other r version number (replied.Blocked query why) differ
answers_other r version number (replied.Unread fault) differ = asks_other r version number (replied.Unread fault) differ
answers_other r version number replied.NoMemory differ = refl

-- a read tells no rows
pub reads_quiet : (r version key number : ℕ) (reply : KeyReply) → answer_of number (read_as r version key reply) ≡ []
reads_quiet r version key number (key_reply.Allowed queries by) = refl
reads_quiet r version key number (key_reply.Blocked queries before why) = refl
reads_quiet r version key number key_reply.NoMemory = refl

-- ---- lines that begin no request, and requests that are lost

-- the line begins no request with this number
abbrev pub BeginsNot : LineDone → ℕ → Type 0
BeginsNot it number = (version : ℕ) (tables : TableSet) → it ≢ begins number version tables

lost_more : (earlier : List LineDone) (it : LineDone) (number : ℕ) → IsLost earlier number → BeginsNot it number → IsLost (earlier ++ it ∷ []) number
lost_more earlier it number lost other version tables h = by (Contains-push_cases earlier it (begins number version tables) h)
  where
    by : Contains earlier (begins number version tables) ⊎ (it ≡ begins number version tables) → ⊥
    by (inl there) = lost version tables there
    by (inr same) = other version tables same

pub entry_same : (a b : LineDone) → a ≡ b → a.entry ≡ b.entry
entry_same a b e = ap (λ (z : LineDone). z.entry) e

-- the entry begins no request
abbrev pub IsNoBegin : Entry → Type 0
IsNoBegin entry = (number version : ℕ) → entry ≢ Begin number version

pub begins_not : (it : LineDone) (entry : Entry) (number : ℕ) → it.entry ≡ entry → IsNoBegin entry → BeginsNot it number
begins_not it entry number is other version tables same = other number version (sym is ∙ entry_same it (begins number version tables) same)

ask_is_no_begin : (r version : ℕ) (reply : Reply) → IsNoBegin (Ask r version reply)
ask_is_no_begin r version reply number v e = cc

pub memory_is_no_begin : (kind : LineKind) (request version : Option ℕ) → IsNoBegin (Memory kind request version)
memory_is_no_begin kind request version number v e = cc

pub asked_is_no_begin : (r version : ℕ) (reply : Reply) → IsNoBegin (asked r version reply)
asked_is_no_begin r version (replied.Answer query rows by) = ask_is_no_begin r version (replied.Answer query rows by)
asked_is_no_begin r version (replied.Blocked query why) = ask_is_no_begin r version (replied.Blocked query why)
asked_is_no_begin r version (replied.Unread fault) = ask_is_no_begin r version (replied.Unread fault)
asked_is_no_begin r version replied.NoMemory = memory_is_no_begin kinds.Ask (Some r) (Some version)

allowed_is_no_begin : (r version key : ℕ) (reply : KeyReply) → IsNoBegin (Read r version key reply)
allowed_is_no_begin r version key reply number v e = cc

pub read_is_no_begin : (r version key : ℕ) (reply : KeyReply) → IsNoBegin (read_as r version key reply)
read_is_no_begin r version key (key_reply.Allowed queries by) = allowed_is_no_begin r version key (key_reply.Allowed queries by)
read_is_no_begin r version key (key_reply.Blocked queries before why) = allowed_is_no_begin r version key (key_reply.Blocked queries before why)
read_is_no_begin r version key key_reply.NoMemory = memory_is_no_begin kinds.Read (Some r) (Some version)

pub end_is_no_begin : (r version : ℕ) → IsNoBegin (End r version)
end_is_no_begin r version number v e = cc

pub publish_is_no_begin : (n : ℕ) → IsNoBegin (Publish n)
publish_is_no_begin n number v e = cc

pub other_begins_not : (r version : ℕ) (tables : TableSet) (number : ℕ) → number ≢ r → BeginsNot (begins r version tables) number
other_begins_not r version tables number differ v t same =
    let e : Begin r version ≡ Begin number v = entry_same (begins r version tables) (begins number v t) same in
    let n : r ≡ number = cc in
    differ (sym n)

-- ---- requests

pub stand_first : (input : Input) (u : ℕ) → Stand input u 0 [] []
stand_first input u = record {
  many = refl;
  places = λ number it there. absurd (cc);
  untold = λ number past. refl;
  unbegun = λ number past version tables h. none version number tables h;
}
  where
    none : (version number : ℕ) (tables : TableSet) → Contains [] (begins number version tables) → ⊥
    none version number tables h = let low = h.1 in omega (arith, low)

-- a request stands where its trace and its version do
stands_on : (input : Input) (earlier : List LineDone) (it : LineDone) (number : ℕ) (asker : Request) → answer_of number it.entry ≡ [] → IsStanding input earlier number asker → IsStanding input (earlier ++ it ∷ []) number asker
stands_on input earlier it number asker quiet h = record {
  asks = record {
    begun = Contains-append_left earlier (it ∷ []) (begins number asker.version asker.tables) h.asks.begun;
    context = h.asks.context;
    trace = h.asks.trace ∙ sym (trace_same number earlier it quiet);
  };
  may = h.may;
}

place_on : (input : Input) (u : ℕ) (earlier : List LineDone) (it : LineDone) (number : ℕ) (place : Option Request) → answer_of number it.entry ≡ [] → BeginsNot it number → StandsIn input u earlier number place → StandsIn input u (earlier ++ it ∷ []) number place
place_on input u earlier it number (Some asker) quiet other h = stands_on input earlier it number asker quiet h
place_on input u earlier it number None quiet other h = λ mine. lost_more earlier it number (h mine) other

module _ (input : Input) (u n : ℕ) (earlier : List LineDone) (requests : List (Option Request)) (stand : Stand input u n earlier requests) where
  -- a line that answers nothing and begins no request
  quiet_line : (it : LineDone) → ((number : ℕ) → answer_of number it.entry ≡ []) → ((number : ℕ) → BeginsNot it number) → Stand input u n (earlier ++ it ∷ []) requests
  quiet_line it quiet other = record {
    many = stand.many;
    places = λ number place there. place_on input u earlier it number place (quiet number) (other number) (stand.places number place there);
    untold = λ number past. trace_same number earlier it (quiet number) ∙ stand.untold number past;
    unbegun = λ number past. lost_more earlier it number (stand.unbegun number past) (other number);
  }

  -- one place more, for the next request
  next_place : (it : LineDone) (place : Option Request) (later : List (Option Request)) → ((number : ℕ) → answer_of number it.entry ≡ []) → ((number : ℕ) → number ≢ n → BeginsNot it number) →
      StandsIn input u (earlier ++ it ∷ []) n place → later ≡ requests ++ place ∷ [] → Stand input u (n + 1) (earlier ++ it ∷ []) later
  next_place it place later quiet other h is = subst (Stand input u (n + 1) (earlier ++ it ∷ [])) (sym is) (record {
    many = omega (arith, length-append requests (place ∷ []), stand.many);
    places = λ number x there. at number x (at_end requests place number x there);
    untold = λ number past. trace_same number earlier it (quiet number) ∙ stand.untold number (omega (arith, past));
    unbegun = λ number past. lost_more earlier it number (stand.unbegun number (omega (arith, past))) (other number (λ same. omega (arith, same, past)));
  })
    where
      at : (number : ℕ) (x : Option Request) → IsAtEnd requests place number x → StandsIn input u (earlier ++ it ∷ []) number x
      at number x (in_front there) =
          let low = get_below requests number x there in
          let many = stand.many in
          place_on input u earlier it number x (quiet number) (other number (λ same. omega (arith, same, low, many))) (stand.places number x there)
      at number x (is_last e k) = subst (λ z. StandsIn input u (earlier ++ it ∷ []) number z) (sym k) (subst (λ z. StandsIn input u (earlier ++ it ∷ []) z place) (sym (e ∙ stand.many)) h)

  begun_on : (request : ℕ) (context : Context) (it : LineDone) (later : List (Option Request)) → request ≡ n → HasContext input.script request context → Begins input requests request context it later →
      Stand input u (n + 1) (earlier ++ it ∷ []) later
  begun_on request context it later same has h =
      let asker = h.asker in
      let line = begins request asker.version asker.tables in
      subst (λ z. Stand input u (n + 1) (earlier ++ z ∷ []) later) (sym h.is)
      (next_place line (Some asker) later (λ number. refl) (λ number differ. other_begins_not request asker.version asker.tables number (λ e. differ (e ∙ same)))
      (record {
        asks = record {
          begun = subst (λ z. Contains (earlier ++ line ∷ []) (begins z asker.version asker.tables)) same (Contains-push earlier line);
          context = subst (λ z. HasContext input.script z asker.context) same (subst (HasContext input.script request) (sym h.begun.context_is) has);
          trace = h.begun.trace_is ∙ sym (trace_same n earlier line refl ∙ stand.untold n (omega arith));
        };
        may = h.may;
      })
      h.later_is)

  -- a line that found no memory
  memory_line : (it : LineDone) (kind : LineKind) (request version : Option ℕ) → it.entry ≡ Memory kind request version → Stand input u n (earlier ++ it ∷ []) requests
  memory_line it kind request version is = quiet_line it (λ number. ap (answer_of number) is) (λ number. begins_not it (Memory kind request version) number is (memory_is_no_begin kind request version))

  lost_on : (request : ℕ) (it : LineDone) (later : List (Option Request)) → it.entry ≡ Memory kinds.Begin (Some request) None → later ≡ requests ++ None ∷ [] → Stand input u (n + 1) (earlier ++ it ∷ []) later
  lost_on request it later is more =
      let other : (number : ℕ) → BeginsNot it number = λ number. begins_not it (Memory kinds.Begin (Some request) None) number is (memory_is_no_begin kinds.Begin (Some request) None) in
      next_place it None later (λ number. ap (answer_of number) is) (λ number differ. other number) (λ mine. lost_more earlier it n (stand.unbegun n (omega arith)) (other n)) more

  asked_on : (request : ℕ) (text : List ℕ) (it : LineDone) (later : List (Option Request)) → Asks input requests request text it later → Stand input u n (earlier ++ it ∷ []) later
  asked_on request text it later h = subst (Stand input u n (earlier ++ it ∷ [])) (sym h.later_is) (record {
    many = set_length requests request (Some next) ∙ stand.many;
    places = λ number place there. at number place (in_set requests request (Some next) number place there);
    untold = λ number past. trace_same number earlier it (other number past) ∙ stand.untold number past;
    unbegun = λ number past. lost_more earlier it number (stand.unbegun number past) (not_begin number);
  })
    where
      next : Request
      next = told h.asker h.reply

      is : it.entry ≡ asked request h.asker.version h.reply
      is = ap (λ (z : LineDone). z.entry) h.is

      not_begin : (number : ℕ) → BeginsNot it number
      not_begin number = begins_not it (asked request h.asker.version h.reply) number is (asked_is_no_begin request h.asker.version h.reply)

      other : (number : ℕ) → n ≤ number → answer_of number it.entry ≡ []
      other number past =
          let low = get_below requests request (Some h.asker) h.there in
          let many = stand.many in
          ap (answer_of number) is ∙ answers_other request h.asker.version number h.reply (λ same. omega (arith, same, low, many, past))

      at : (number : ℕ) (place : Option Request) → IsInSet requests request (Some next) number place → StandsIn input u (earlier ++ it ∷ []) number place
      at number place (is_changed e k) =
          let before : IsStanding input earlier request h.asker = stand.places request (Some h.asker) h.there in
          let here : IsStanding input (earlier ++ it ∷ []) request next = record {
            asks = record {
              begun = Contains-append_left earlier (it ∷ []) (begins request h.asker.version h.asker.tables) before.asks.begun;
              context = before.asks.context;
              trace = ap₂ (λ y z. y ++ z) before.asks.trace (sym (ap (answer_of request) is ∙ answers_own request h.asker.version h.reply)) ∙ sym (trace_more request earlier it);
            };
            may = h.may;
          } in
          subst (StandsIn input u (earlier ++ it ∷ []) number) (sym k) (subst (λ z. StandsIn input u (earlier ++ it ∷ []) z (Some next)) (sym e) here)
      at number place (is_kept e k) =
          place_on input u earlier it number place (ap (answer_of number) is ∙ answers_other request h.asker.version number h.reply e) (not_begin number) (stand.places number place k)

  same_many : (it : LineDone) (later : List (Option Request)) → Stand input u n (earlier ++ it ∷ []) later → Stand input u (n + 0) (earlier ++ it ∷ []) later
  same_many it later h = subst (λ z. Stand input u z (earlier ++ it ∷ []) later) (omega arith) h

  unchanged : (it : LineDone) (later : List (Option Request)) → later ≡ requests → Stand input u n (earlier ++ it ∷ []) requests → Stand input u (n + 0) (earlier ++ it ∷ []) later
  unchanged it later same h = same_many it later (subst (Stand input u n (earlier ++ it ∷ [])) (sym same) h)

  -- the requests after a line
  pub stand_on : (line : ScriptEntry) (it : LineDone) (later : List (Option Request)) → Comes input n line → Does input requests line it later → Stand input u (n + length (context_in line)) (earlier ++ it ∷ []) later
  stand_on (said.Begin request name context) it later comes (inl h) = begun_on request context it later comes.0 comes.2 h
  stand_on (said.Begin request name context) it later comes (inr (h, more)) = lost_on request it later h.entry_is more
  stand_on (said.Ask request name text) it later comes (inl h) = same_many it later (asked_on request text it later h)
  stand_on (said.Ask request name text) it later comes (inr (h, same)) = unchanged it later same (memory_line it kinds.Ask (Some request) None (ap (λ (z : LineDone). z.entry) h.unserved))
  stand_on (said.Read request name key args qs) it later comes (h, same) = unchanged it later same (by h)
    where
      by : Reads input requests request key args it ⊎ FindsLost requests kinds.Read request it → Stand input u n (earlier ++ it ∷ []) requests
      by (inl e) =
          let is = ap (λ (z : LineDone). z.entry) e.is in
          quiet_line it (λ number. ap (answer_of number) is ∙ reads_quiet request e.asker.version key number e.reply)
          (λ number. begins_not it (read_as request e.asker.version key e.reply) number is (read_is_no_begin request e.asker.version key e.reply))
      by (inr e) = memory_line it kinds.Read (Some request) None (ap (λ (z : LineDone). z.entry) e.unserved)
  stand_on (said.End request name) it later comes (h, same) = unchanged it later same (by h)
    where
      by : Ends requests request it ⊎ FindsLost requests kinds.End request it → Stand input u n (earlier ++ it ∷ []) requests
      by (inl e) =
          let is = ap (λ (z : LineDone). z.entry) e.is in
          quiet_line it (λ number. ap (answer_of number) is) (λ number. begins_not it (End request e.asker.version) number is (end_is_no_begin request e.asker.version))
      by (inr e) = memory_line it kinds.End (Some request) None (ap (λ (z : LineDone). z.entry) e.unserved)
  stand_on (said.Publish number set) it later comes (inl h, same) =
      let is = ap (λ (z : LineDone). z.entry) h.is in
      unchanged it later same (quiet_line it (λ k. ap (answer_of k) is) (λ k. begins_not it (Publish h.version) k is (publish_is_no_begin h.version)))
  stand_on (said.Publish number set) it later comes (inr h, same) = unchanged it later same (memory_line it kinds.Publish None None (ap (λ (z : LineDone). z.entry) h))

  -- the requests after a line of another lane
  pub skipped_on : (line : ScriptEntry) → Comes input n line → Stand input u (n + length (context_in line)) earlier (requests ++ map (λ context. None) (context_in line))
  skipped_on (said.Begin request name context) comes = record {
    many = let none : Option Request = None in let many = stand.many in omega (arith, length-append requests (none ∷ []), many);
    places = λ number place there. at number place (at_end requests None number place there);
    untold = λ number past. stand.untold number (omega (arith, past));
    unbegun = λ number past. stand.unbegun number (omega (arith, past));
  }
    where
      at : (number : ℕ) (place : Option Request) → IsAtEnd requests None number place → StandsIn input u earlier number place
      at number place (in_front there) = stand.places number place there
      at number place (is_last e same) = let many = stand.many in subst (StandsIn input u earlier number) (sym same) (λ mine. stand.unbegun number (omega (arith, many, e)))
  skipped_on (said.Ask request name text) comes = subst (λ z. Stand input u z earlier (requests ++ [])) (omega arith) (subst (Stand input u n earlier) (sym (append-nil requests)) stand)
  skipped_on (said.Read request name key args qs) comes = subst (λ z. Stand input u z earlier (requests ++ [])) (omega arith) (subst (Stand input u n earlier) (sym (append-nil requests)) stand)
  skipped_on (said.End request name) comes = subst (λ z. Stand input u z earlier (requests ++ [])) (omega arith) (subst (Stand input u n earlier) (sym (append-nil requests)) stand)
  skipped_on (said.Publish number set) comes = subst (λ z. Stand input u z earlier (requests ++ [])) (omega arith) (subst (Stand input u n earlier) (sym (append-nil requests)) stand)

  -- what is done for a line of the lane is what becomes of it
  pub served_is : (line : ScriptEntry) (it : LineDone) (later : List (Option Request)) → lane_of input.workers line ≡ u → Does input requests line it later → IsServed input earlier line it
  served_is (said.Begin request name context) it later mine (inl h) = inl (record { version = h.asker.version; tables = h.asker.tables; is = h.is })
  served_is (said.Begin request name context) it later mine (inr h) = inr h.0
  served_is (said.Ask request name text) it later mine (inl h) =
      let standing : IsStanding input earlier request h.asker = stand.places request (Some h.asker) h.there in
      inl (record { asker = h.asker; asks = standing.asks; reply = h.reply; calls = h.calls; replies = h.replies; is = h.is })
  served_is (said.Ask request name text) it later mine (inr (h, same)) = inr (record { lost = stand.places request None h.there mine; unserved = h.unserved })
  served_is (said.Read request name key args qs) it later mine (inl h, same) =
      let standing : IsStanding input earlier request h.asker = stand.places request (Some h.asker) h.there in
      inl (record { asker = h.asker; asks = standing.asks; key = h.key; key_is = h.key_is; reply = h.reply; calls = h.calls; reads = h.reads; through = h.through; is = h.is })
  served_is (said.Read request name key args qs) it later mine (inr h, same) = inr (record { lost = stand.places request None h.there mine; unserved = h.unserved })
  served_is (said.End request name) it later mine (inl h, same) =
      let standing : IsStanding input earlier request h.asker = stand.places request (Some h.asker) h.there in
      inl (record { version = h.asker.version; tables = h.asker.tables; begun = standing.asks.begun; is = h.is })
  served_is (said.End request name) it later mine (inr h, same) = inr (record { lost = stand.places request None h.there mine; unserved = h.unserved })
  served_is (said.Publish number set) it later mine (h, same) = h

  pub askers_of : AreAskers input requests
  askers_of = record { each = λ number asker there. let standing : IsStanding input earlier number asker = stand.places number (Some asker) there in standing.may }

-- ---- lines at their places

-- how many requests begin among the first entries
numbered_front : (n : ℕ) (before : List ScriptEntry) (it : ScriptEntry) (after : List ScriptEntry) → NumberedFrom n (before ++ it ∷ after) → NumberedFrom (n + length (contexts_of before)) (it ∷ after)
numbered_front n [] it after h = subst (λ z. NumberedFrom z (it ∷ after)) (omega arith) h
numbered_front n (said.Begin r name c ∷ before) it after h =
    subst (λ z. NumberedFrom z (it ∷ after)) (omega arith) (numbered_front (n + 1) before it after h.1)
numbered_front n (said.Ask r name text ∷ before) it after h = numbered_front n before it after h.1
numbered_front n (said.Read r name key args qs ∷ before) it after h = numbered_front n before it after h.1
numbered_front n (said.End r name ∷ before) it after h = numbered_front n before it after h.1
numbered_front n (said.Publish number set ∷ before) it after h = numbered_front n before it after h

-- the lines before, one line, and those behind it
split_at : (its : List ScriptEntry) (i : ℕ) (it : ScriptEntry) → i < length its → it ≡ get_or its i it → its ≡ take i its ++ it ∷ drop (i + 1) its
split_at its i it below is =
    sym (take-append-drop i its) ∙ ap (λ z. take i its ++ z) (drop-cons its i it below ∙ ap (λ z. z ∷ drop (suc i) its) (sym is) ∙ ap (λ z. it ∷ drop z its) (sym (add-one i)))

kept_more : (its : List ScriptEntry) (i : ℕ) (it : ScriptEntry) (contexts kept : List Context) → i < length its → it ≡ get_or its i it → contexts ≡ contexts_of (take i its) → kept ≡ contexts ++ context_in it → kept ≡ contexts_of (take (i + 1) its)
kept_more its i it contexts kept below is so_far more =
    more ∙ ap (λ z. z ++ context_in it) so_far ∙ sym (ap contexts_of (take_more its i it below ∙ ap (λ z. take i its ++ z ∷ []) (sym is)) ∙ flat_end context_in (take i its) (it ∷ []) ∙ ap (λ z. contexts_of (take i its) ++ z) (one_flat context_in it))

-- the contexts of the first entries are the first contexts
context_is : (input : Input) (i r : ℕ) (c : Context) → slice_get (contexts_of (take i input.script.entries)) r ≡ Some c → HasContext input.script r c
context_is input i r c there =
    let its = input.script.entries in
    ap (λ z. slice_get (contexts_of z) r) (sym (take-append-drop i its))
    ∙ ap (λ z. slice_get z r) (flat_end context_in (take i its) (drop i its))
    ∙ get_front (contexts_of (take i its)) (contexts_of (drop i its)) r c there

-- what a line comes after
pub comes_at : (input : Input) (i : ℕ) (it : ScriptEntry) → IsInput input → i < length input.script.entries → it ≡ get_or input.script.entries i it → Comes input (length (contexts_of (take i input.script.entries))) it
comes_at input i (said.Begin r name c) is below at =
    let its = input.script.entries in
    let parts = split_at its i (said.Begin r name c) below at in
    let numbered = numbered_front 0 (take i its) (said.Begin r name c) (drop (i + 1) its) (subst (NumberedFrom 0) parts is.script.numbered) in
    let fits : BeginFits input.policy.params (said.Begin r name c) = subst (BeginFits input.policy.params) (sym at) (is.script.contexts i (said.Begin r name c) below) in
    let after : contexts_of (take (i + 1) its) ≡ contexts_of (take i its) ++ c ∷ [] = sym (kept_more its i (said.Begin r name c) (contexts_of (take i its)) (contexts_of (take i its) ++ c ∷ []) below at refl refl) in
    let number : r ≡ length (contexts_of (take i its)) = omega (arith, numbered.0) in (
      number,
      fits,
      context_is input (i + 1) r c (ap (λ z. slice_get z r) after ∙ ap (slice_get (contexts_of (take i its) ++ c ∷ [])) number ∙ get_last (contexts_of (take i its)) c),
    )
  where
    get_last : {X : Type 0} (xs : List X) (x : X) → slice_get (xs ++ x ∷ []) (length xs) ≡ Some x
    get_last [] x = refl
    get_last (y ∷ xs) x = get_last xs x
comes_at input i (said.Ask r name text) is below at =
    let its = input.script.entries in
    let parts = split_at its i (said.Ask r name text) below at in
    let low = (numbered_front 0 (take i its) (said.Ask r name text) (drop (i + 1) its) (subst (NumberedFrom 0) parts is.script.numbered)).0 in
    omega (arith, low)
comes_at input i (said.Read r name key args qs) is below at =
    let its = input.script.entries in
    let parts = split_at its i (said.Read r name key args qs) below at in
    let low = (numbered_front 0 (take i its) (said.Read r name key args qs) (drop (i + 1) its) (subst (NumberedFrom 0) parts is.script.numbered)).0 in
    (omega (arith, low), subst (ReadFits input.policy.keys) (sym at) (is.script.reads i (said.Read r name key args qs) below))
comes_at input i (said.End r name) is below at =
    let its = input.script.entries in
    let parts = split_at its i (said.End r name) below at in
    let low = (numbered_front 0 (take i its) (said.End r name) (drop (i + 1) its) (subst (NumberedFrom 0) parts is.script.numbered)).0 in
    omega (arith, low)
comes_at input i (said.Publish number set) is below at =
    let its = input.script.entries in
    (set_there input (take i its) number set (drop (i + 1) its) is (split_at its i (said.Publish number set) below at)).1

-- one more line
pub served_more : (input : Input) (earlier : List LineDone) (lines : List ScriptEntry) (its : List LineDone) (line : ScriptEntry) (it : LineDone) → AreServed input earlier lines its → IsServed input (earlier ++ its) line it →
    AreServed input earlier (lines ++ line ∷ []) (its ++ it ∷ [])
served_more input earlier [] [] line it h is = (subst (λ z. IsServed input z line it) (append-nil earlier) is, tt)
served_more input earlier [] (x ∷ xs) line it h is = absurd h
served_more input earlier (l ∷ ls) [] line it h is = absurd h
served_more input earlier (l ∷ ls) (x ∷ xs) line it (h, rest) is =
    (h, served_more input (earlier ++ x ∷ []) ls xs line it rest (subst (λ z. IsServed input z line it) (sym (append_assoc earlier (x ∷ []) xs)) is))

-- a run has an entry for each line
pub same_length : (input : Input) (earlier : List LineDone) (lines : List ScriptEntry) (its : List LineDone) → AreServed input earlier lines its → length its ≡ length lines
same_length input earlier [] [] h = refl
same_length input earlier [] (x ∷ xs) h = absurd h
same_length input earlier (l ∷ ls) [] h = absurd h
same_length input earlier (l ∷ ls) (x ∷ xs) h = ap suc (same_length input (earlier ++ x ∷ []) ls xs h.1)

pub as_many : (input : Input) (journal : Journal) → Legal input journal → length journal.entries ≡ length input.script.entries
as_many input journal legal =
    ap length legal.entries ∙ map_length (λ (it : LineDone). it.entry) legal.served ∙ same_length input [] input.script.entries legal.served legal.lines
  where
    map_length : {X Y : Type 0} (f : X → Y) (xs : List X) → length (map f xs) ≡ length xs
    map_length f xs = length-map xs f

-- ---- a script, line by line

-- what the lane u has done after the first i lines
pub record After (input : Input) (service : Service) (first : Passes) (u : ℕ) (items : List ScriptEntry) (i : ℕ) (lane : Lane) : Type 0 where
  pub has : HasServed input service first u (take i items) lane
  pub can : CanServe (lines_in input u (drop i items)) lane.passes
  pub requests_room : length lane.requests.items + length (contexts_of (drop i items)) ≤ vec_capacity lane.requests
  pub entries_room : length lane.entries.items + length (lines_in input u (drop i items)) ≤ vec_capacity lane.entries

pub after_none : (input : Input) (service : Service) (u : ℕ) (lane : Lane) (items : List ScriptEntry) → AreOf service lane.passes → CanServe (lines_in input u items) lane.passes → lane.requests.items ≡ [] →
    length (contexts_of items) ≤ vec_capacity lane.requests → lane.entries.items ≡ [] → length (lines_in input u items) ≤ vec_capacity lane.entries → After input service lane.passes u items 0 lane
after_none input service u lane items of can no_requests requests_room no_entries entries_room = record {
  has = record {
    served = [];
    entries = no_entries;
    lines_are = tt;
    makes = makes_start lane.passes;
    of = of;
    stand = subst (Stand input u 0 []) (sym no_requests) (stand_first input u);
  };
  can = can;
  requests_room = omega (arith, ap length no_requests, requests_room);
  entries_room = omega (arith, ap length no_entries, entries_room);
}

module _ (input : Input) (service : Service) (first : Passes) (u : ℕ) (items : List ScriptEntry) (is_items : items ≡ input.script.entries) (is : IsInput input) (i : ℕ) (line : ScriptEntry) (below : i < length items)
    (at : line ≡ get_or items i line) (lane : Lane) (after : After input service first u items i lane) where
  rest_is : drop i items ≡ line ∷ drop (i + 1) items
  rest_is = drop-cons items i line below ∙ ap (λ z. z ∷ drop (suc i) items) (sym at) ∙ ap (λ z. line ∷ drop z items) (sym (add-one i))

  front_is : take (i + 1) items ≡ take i items ++ line ∷ []
  front_is = take_more items i line below ∙ ap (λ z. take i items ++ z ∷ []) (sym at)

  begun_is : length (contexts_of (take (i + 1) items)) ≡ length (contexts_of (take i items)) + length (context_in line)
  begun_is =
      ap (λ z. length (contexts_of z)) front_is ∙ ap length (flat_end context_in (take i items) (line ∷ []) ∙ ap (λ z. contexts_of (take i items) ++ z) (one_flat context_in line))
      ∙ length-append (contexts_of (take i items)) (context_in line)

  -- how many requests are still to begin
  to_begin : length (contexts_of (drop i items)) ≡ length (context_in line) + length (contexts_of (drop (i + 1) items))
  to_begin = ap (λ z. length (contexts_of z)) rest_is ∙ length-append (context_in line) (contexts_of (drop (i + 1) items))

  comes : Comes input (length (contexts_of (take i items))) line
  comes = subst (λ z. i < length z → line ≡ get_or z i line → Comes input (length (contexts_of (take i z))) line) (sym is_items) (comes_at input i line is) below at

  begin_room : length lane.requests.items + length (context_in line) ≤ vec_capacity lane.requests
  begin_room = let room = after.requests_room in omega (arith, room, to_begin)

  -- where the line is one of the lane
  module _ (mine : lane_of input.workers line ≡ u) where
    own_rest : lines_in input u (drop i items) ≡ line ∷ lines_in input u (drop (i + 1) items)
    own_rest = ap (lines_in input u) rest_is ∙ subst (λ z. lines_in input z (line ∷ drop (i + 1) items) ≡ line ∷ lines_in input z (drop (i + 1) items)) mine (own_line (lane_of input.workers) line (drop (i + 1) items))

    own_front : lines_in input u (take (i + 1) items) ≡ lines_in input u (take i items) ++ line ∷ []
    own_front =
        ap (lines_in input u) front_is ∙ filter-append (λ z. lane_of input.workers z == u) (take i items) (line ∷ [])
        ∙ ap (λ z. lines_in input u (take i items) ++ z) (subst (λ z. lines_in input z (line ∷ []) ≡ line ∷ []) mine (own_line (lane_of input.workers) line []))

    own_left : length (lines_in input u (drop i items)) ≡ length (lines_in input u (drop (i + 1) items)) + 1
    own_left = omega (arith, ap length own_rest)

    pub can_take : CanTake input service line lane
    can_take = record {
      comes = subst (λ z. Comes input z line) (sym after.has.stand.many) comes;
      askers = askers_of input u (length (contexts_of (take i items))) after.has.served lane.requests.items after.has.stand;
      of = after.has.of;
      can = can_first line (lines_in input u (drop (i + 1) items)) lane.passes (subst (λ z. CanServe z lane.passes) own_rest after.can);
      room = begin_room;
    }

    pub entry_room : length lane.entries.items < vec_capacity lane.entries
    entry_room = let room = after.entries_room in omega (arith, room, own_left)

    pub after_more : (entry : Entry) (between new : Lane) → Takes input service line entry lane between → new.passes ≡ between.passes → new.requests ≡ between.requests → new.entries.items ≡ between.entries.items ++ entry ∷ [] →
        vec_capacity new.entries ≡ vec_capacity between.entries → After input service first u items (i + 1) new
    after_more entry between new takes passes requests entries capacity =
        let it : LineDone = record { entry = entry; made = takes.made } in
        let n = length (contexts_of (take i items)) in
        let served = after.has.served in
        let stand : Stand input u (n + length (context_in line)) (served ++ it ∷ []) between.requests.items =
        stand_on input u n served lane.requests.items after.has.stand line it between.requests.items comes takes.does in
        let items_same : new.requests.items ≡ between.requests.items = ap (λ (v : Vec _ _). v.items) requests in
        record {
          has = record {
            served = served ++ it ∷ [];
            entries = entries ∙ ap (λ z. z ++ entry ∷ []) (ap (λ (v : Vec _ _). v.items) takes.entries ∙ after.has.entries) ∙ sym (map_push (λ (z : LineDone). z.entry) served it);
            lines_are = subst (λ z. AreServed input [] z (served ++ it ∷ [])) (sym own_front)
                (served_more input [] (lines_in input u (take i items)) served line it after.has.lines_are
                (served_is input u n served lane.requests.items after.has.stand line it between.requests.items mine takes.does));
            makes = subst (MakesAll (served ++ it ∷ []) first) (sym passes) (makes_on served (it ∷ []) first lane.passes between.passes after.has.makes takes.makes);
            of = subst (AreOf service) (sym passes) takes.of;
            stand = subst (λ z. Stand input u z (served ++ it ∷ []) new.requests.items) (sym begun_is)
                (subst (Stand input u (n + length (context_in line)) (served ++ it ∷ [])) (sym items_same) stand);
          };
          can = subst (CanServe (lines_in input u (drop (i + 1) items))) (sym passes)
              (can_rest input lane.requests.items line (lines_in input u (drop (i + 1) items)) it between.requests.items lane.passes between.passes n comes takes.does (subst (λ z. CanServe z lane.passes) own_rest after.can) takes.makes);
          requests_room =
              let room = after.requests_room in
              let many = after.has.stand.many in
              let now : length between.requests.items ≡ n + length (context_in line) = stand.many in
              omega (arith, room, many, now, to_begin, ap length items_same, takes.room, ap vec_capacity requests);
          entries_room =
              let room = after.entries_room in
              let before : length between.entries.items ≡ length lane.entries.items = ap (λ (v : Vec _ _). length v.items) takes.entries in
              omega (arith, room, own_left, ap length entries, length-append between.entries.items (entry ∷ []), before, capacity, ap vec_capacity takes.entries);
        }

  -- where it is another's
  module _ (other : lane_of input.workers line ≢ u) where
    other_rest : lines_in input u (drop i items) ≡ lines_in input u (drop (i + 1) items)
    other_rest = ap (lines_in input u) rest_is ∙ other_line (lane_of input.workers) u line (drop (i + 1) items) other

    other_front : lines_in input u (take (i + 1) items) ≡ lines_in input u (take i items)
    other_front =
        ap (lines_in input u) front_is ∙ filter-append (λ z. lane_of input.workers z == u) (take i items) (line ∷ [])
        ∙ ap (λ z. lines_in input u (take i items) ++ z) (other_line (lane_of input.workers) u line [] other) ∙ append-nil (lines_in input u (take i items))

    pub place_room : length lane.requests.items + length (context_in line) ≤ vec_capacity lane.requests
    place_room = begin_room

    pub after_skipped : (new : Lane) → PassesOver line lane new → After input service first u items (i + 1) new
    after_skipped new over =
        let n = length (contexts_of (take i items)) in
        let served = after.has.served in
        let stand : Stand input u (n + length (context_in line)) served (lane.requests.items ++ map (λ context. None) (context_in line)) =
        skipped_on input u n served lane.requests.items after.has.stand line comes in
        record {
          has = record {
            served = served;
            entries = ap (λ (v : Vec _ _). v.items) over.entries ∙ after.has.entries;
            lines_are = subst (λ z. AreServed input [] z served) (sym other_front) after.has.lines_are;
            makes = subst (MakesAll served first) (sym over.passes) after.has.makes;
            of = subst (AreOf service) (sym over.passes) after.has.of;
            stand = subst (λ z. Stand input u z served new.requests.items) (sym begun_is) (subst (Stand input u (n + length (context_in line)) served) (sym over.requests) stand);
          };
          can = subst (CanServe (lines_in input u (drop (i + 1) items))) (sym over.passes) (subst (λ z. CanServe z lane.passes) other_rest after.can);
          requests_room =
              let room = after.requests_room in
              let many = after.has.stand.many in
              let now : length (lane.requests.items ++ map (λ context. None) (context_in line)) ≡ n + length (context_in line) = stand.many in
              omega (arith, room, many, now, to_begin, ap length over.requests, over.room);
          entries_room =
              let room = after.entries_room in
              omega (arith, room, ap length other_rest, ap (λ (v : Vec _ _). length v.items) over.entries, ap vec_capacity over.entries);
        }

pub has_all : (input : Input) (service : Service) (first : Passes) (u : ℕ) (items : List ScriptEntry) → items ≡ input.script.entries → (i : ℕ) → length items ≤ i → (lane : Lane) → After input service first u items i lane →
    HasServed input service first u input.script.entries lane
has_all input service first u items is i past lane after = subst (λ z. HasServed input service first u z lane) (take_all i items past ∙ is) after.has
