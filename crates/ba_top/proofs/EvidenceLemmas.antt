-- What is known of requests after each line, and what that says of their evidence.
use Rattle.std.proofs.Common.{◌≡◌, ◌≢◌, ◌∙◌, refl, sym, subst, ap, ap₂, ℕ, zero, suc, ◌+◌, ◌<◌, ◌≤◌, Bool, true, false, ◌==◌, cond, List, [], ◌∷◌, ◌++◌, length, take, drop, append-nil, arith, Some, slice_get}
use Rattle.std.proofs.lemmas.Bool.{eqb-false, eqb-true}
use Rattle.std.proofs.lemmas.List.{length_push, take-append-drop}
use Rattle.std.proofs.lemmas.List.Concat.{flat_map-append, flat_map-cons}
use Rattle.std.proofs.lemmas.Option.{slice_get_past}
use Rattle.std.specs.Prelude.{Option, None, slice_set, unwrap_or}
use Rattle.std.specs.List.{flat_map}
use Rattle.ba_comply.specs.declared.trace.TraceEntry.{TraceEntry}
use Rattle.ba_facts.proofs.Elements.{get_append_old, get_set_other, get_set_same}
use Rattle.ba_input.specs.declared.input.Input.{Input}
use Rattle.ba_lanes.specs.Legal.{answer_of, context_in, contexts_of, trace_in}
use Rattle.ba_lanes.specs.declared.journal.Entry.{Entry}
use Rattle.ba_lanes.specs.declared.journal.Entry.TheVariants.{Begin, Ask, Read, End, Publish, Memory}
use Rattle.ba_model.specs.declared.policy.Context.{Context}
use Rattle.ba_model.specs.declared.policy.Policy.{Policy}
use Rattle.ba_script.specs.declared.entry.ScriptEntry.{ScriptEntry}
use Rattle.ba_session.specs.Asking.{answer_in}
use Rattle.ba_session.specs.declared.reply.By.{By}
use Rattle.ba_session.specs.declared.reply.By.TheVariants as by
use Rattle.ba_session.specs.declared.reply.KeyReply.{KeyReply}
use Rattle.ba_session.specs.declared.reply.KeyReply.TheVariants as key_reply
use Rattle.ba_session.specs.declared.reply.Reply.{Reply}
use Rattle.ba_session.specs.declared.reply.Reply.TheVariants as reply
use Rattle.ba_tables.proofs.IndexLemmas.{take_one}
use Rattle.ba_top.specs.Evidence.{AreAfter, EntryCloses, GroundCloses, ReadCloses, ReplyCloses, Traces, key_bytes, reply_bytes, told_bytes, trace_at}
use Rattle.ba_top.specs.Text.{key_name}
use Rattle.ba_top.specs.declared.requests.Requests.{Requests}

-- ---- traces

-- one more trace that is empty
pub trace_grown : (traces : List (List TraceEntry)) (n : ℕ) → trace_at (traces ++ [] ∷ []) n ≡ trace_at traces n
trace_grown [] zero = refl
trace_grown [] (suc n) = refl
trace_grown (trace ∷ traces) zero = refl
trace_grown (trace ∷ traces) (suc n) = trace_grown traces n

pub trace_set : (traces : List (List TraceEntry)) (n : ℕ) (trace : List TraceEntry) → n < length traces → trace_at (slice_set traces n trace) n ≡ trace
trace_set traces n trace below = ap (λ o. unwrap_or o []) (get_set_same traces n trace below)

pub trace_kept : (traces : List (List TraceEntry)) (n m : ℕ) (trace : List TraceEntry) → n ≢ m → trace_at (slice_set traces n trace) m ≡ trace_at traces m
trace_kept traces n m trace differ = ap (λ o. unwrap_or o []) (get_set_other traces n m trace (λ e. differ (sym e)))

-- what a question's reply adds to the traces
pub asked_more : (old new : List (List TraceEntry)) (request version : ℕ) (it : Reply) → ((n : ℕ) → request ≢ n → trace_at new n ≡ trace_at old n)
    → trace_at new request ≡ trace_at old request ++ answer_in it → (n : ℕ) → trace_at new n ≡ trace_at old n ++ answer_of n (Ask request version it)
asked_more old new request version it others added n = by (request == n) refl
  where
    by : (t : Bool) → (request == n) ≡ t → trace_at new n ≡ trace_at old n ++ cond t (answer_in it) []
    by true e = let same = eqb-true request n e in subst (λ m. trace_at new m ≡ trace_at old m ++ answer_in it) same added
    by false e = others n (eqb-false request n e) ∙ sym (append-nil (trace_at old n))

pub trace_more : (request : ℕ) (earlier : List Entry) (entry : Entry) → trace_in request (earlier ++ entry ∷ []) ≡ trace_in request earlier ++ answer_of request entry
trace_more request earlier entry =
    flat_map-append (answer_of request) earlier (entry ∷ [])
    ∙ ap (λ z. trace_in request earlier ++ z) (flat_map-cons (answer_of request) entry [] ∙ append-nil (answer_of request entry))

-- ---- after one more line

pub after_next : (input : Input) (earlier : List Entry) (entry : Entry) (said : ScriptEntry) (old new : Requests) → slice_get input.script.entries (length earlier) ≡ Some said
    → new.contexts ≡ old.contexts ++ context_in said → ((n : ℕ) → trace_at new.traces.items n ≡ trace_at old.traces.items n ++ answer_of n entry) → new.nothing ≡ old.nothing
    → AreAfter input earlier old → AreAfter input (earlier ++ entry ∷ []) new
after_next input earlier entry said old new at contexts traces nothing h = record {
  contexts =
      contexts ∙ ap (λ cs. cs ++ context_in said) h.contexts
      ∙ ap (λ cs. contexts_of (take (length earlier) input.script.entries) ++ cs) (sym (flat_map-cons context_in said [] ∙ append-nil (context_in said)))
      ∙ sym (flat_map-append context_in (take (length earlier) input.script.entries) (said ∷ []))
      ∙ ap contexts_of (sym (take_one input.script.entries (length earlier) said at))
      ∙ ap (λ n. contexts_of (take n input.script.entries)) (sym (length_push earlier entry));
  traces = λ n. traces n ∙ ap (λ z. z ++ answer_of n entry) (h.traces n) ∙ sym (trace_more n earlier entry);
  nothing = nothing ∙ h.nothing;
}

-- ---- evidence after the lines so far

told_as : (policy : Policy) (f g : Traces) (name : List ℕ) (line : ℕ) (entry : Entry) → ((n : ℕ) → f n ≡ g n) → told_bytes policy f name line entry ≡ told_bytes policy g name line entry
told_as policy f g name line (Begin request version) same = refl
told_as policy f g name line (Ask request version it) same = ap (λ trace. reply_bytes policy trace name line version it) (same request)
told_as policy f g name line (Read request version key it) same = ap (λ trace. key_bytes policy trace name line version (key_name policy key) it) (same request)
told_as policy f g name line (End request version) same = refl
told_as policy f g name line (Publish version) same = refl
told_as policy f g name line (Memory kind request version) same = refl

pub told_after_lines : (input : Input) (earlier : List Entry) (it : Requests) (name : List ℕ) (line : ℕ) (entry : Entry) → AreAfter input earlier it
    → told_bytes input.policy (trace_at it.traces.items) name line entry ≡ told_bytes input.policy (λ request. trace_in request earlier) name line entry
told_after_lines input earlier it name line entry h = told_as input.policy (trace_at it.traces.items) (λ request. trace_in request earlier) name line entry h.traces

-- a context that is there after some lines is there after all
context_stays : (entries : List ScriptEntry) (n request : ℕ) (context : Context) → slice_get (contexts_of (take n entries)) request ≡ Some context → slice_get (contexts_of entries) request ≡ Some context
context_stays entries n request context e =
    let whole : contexts_of entries ≡ contexts_of (take n entries) ++ contexts_of (drop n entries) =
    ap contexts_of (sym (take-append-drop n entries)) ∙ flat_map-append context_in (take n entries) (drop n entries) in
    ap (λ cs. slice_get cs request) whole ∙ get_append_old (contexts_of (take n entries)) (contexts_of (drop n entries)) request context e

module _ (policy : Policy) (some all : List Context) (more : (n : ℕ) (context : Context) → slice_get some n ≡ Some context → slice_get all n ≡ Some context) where
  ground_stays : (trace other : List TraceEntry) (request : ℕ) (query : _) (it : By) → trace ≡ other → GroundCloses policy some trace request query it → GroundCloses policy all other request query it
  ground_stays trace other request query (by.Cover cover) same h = tt
  ground_stays trace other request query (by.Template shard id template found) same h =
      subst (λ z. GroundCloses policy all z request query (by.Template shard id template found)) same
      (record { context = h.context; has = more request h.context h.has; closes = h.closes })
  ground_stays trace other request query (by.Proof steps keeping) same h = tt

  reply_stays : (trace other : List TraceEntry) (request : ℕ) (it : Reply) → trace ≡ other → ReplyCloses policy some trace request it → ReplyCloses policy all other request it
  reply_stays trace other request (reply.Answer query rows it) same h = ground_stays trace other request query it same h
  reply_stays trace other request (reply.Blocked query reason) same h = tt
  reply_stays trace other request (reply.Unread fault) same h = tt
  reply_stays trace other request reply.NoMemory same h = tt

  read_stays : (trace other : List TraceEntry) (request : ℕ) (it : KeyReply) → trace ≡ other → ReadCloses policy some trace request it → ReadCloses policy all other request it
  read_stays trace other request (key_reply.Allowed queries bys) same h = λ place query it asked by. ground_stays trace other request query it same (h place query it asked by)
  read_stays trace other request (key_reply.Blocked queries before reason) same h = tt
  read_stays trace other request key_reply.NoMemory same h = tt

  entry_stays : (f g : Traces) (entry : Entry) → ((n : ℕ) → f n ≡ g n) → EntryCloses policy some f entry → EntryCloses policy all g entry
  entry_stays f g (Begin request version) same h = tt
  entry_stays f g (Ask request version it) same h = reply_stays (f request) (g request) request it (same request) h
  entry_stays f g (Read request version key it) same h = read_stays (f request) (g request) request it (same request) h
  entry_stays f g (End request version) same h = tt
  entry_stays f g (Publish version) same h = tt
  entry_stays f g (Memory kind request version) same h = tt

pub closes_after_lines : (input : Input) (earlier : List Entry) (it : Requests) (entry : Entry) → AreAfter input earlier it
    → EntryCloses input.policy it.contexts (trace_at it.traces.items) entry → EntryCloses input.policy (contexts_of input.script.entries) (λ request. trace_in request earlier) entry
closes_after_lines input earlier it entry h closes =
    entry_stays input.policy it.contexts (contexts_of input.script.entries)
    (λ n context e. context_stays input.script.entries (length earlier) n context (subst (λ cs. slice_get cs n ≡ Some context) h.contexts e))
    (trace_at it.traces.items) (λ request. trace_in request earlier) entry h.traces closes
