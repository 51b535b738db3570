-- What the lines of a lane make of its passes.
use Rattle.std.proofs.Common.{◌≡◌, ◌∙◌, refl, sym, ap, subst, get_or, ℕ, suc, zero, ◌+◌, ◌*◌, ◌<◌, ◌≤◌, ◌==◌, ◌⊎◌, inl, inr, Bool, true, false, List, [], ◌∷◌, ◌++◌, length, length-append, take, cond, append_assoc, append-nil, zero-add, arith, Option, Some, None}
use Rattle.std.proofs.lemmas.List.{length-map, length-take, take_all, take_more}
use Rattle.std.proofs.lemmas.List.Elements.{All-get_or, All-head, All-tail}
use Rattle.std.proofs.lemmas.List.Sums.{sum_by-append, sum_by-cons}
use Rattle.std.proofs.lemmas.Option.{get_or_from_slice_get, same_Some, slice_get_read, slice_get_within}
use Rattle.std.specs.List.{AllByRecursion, flat_map}
use Rattle.std.specs.Prelude.{All, count_by, slice_get, slice_set, vec_capacity}
use Rattle.ba_cache.specs.Passes.{known_on}
use Rattle.ba_input.specs.Inputs.{IsInput, effort_of}
use Rattle.ba_input.specs.Published.{IsSetOf}
use Rattle.ba_input.specs.declared.input.Input.{Input}
use Rattle.ba_cache.specs.declared.call.ShelfCall.{ShelfCall}
use Rattle.ba_kernel.specs.SearchStates as kernel
use Rattle.ba_model.specs.Fit.{ContextFits, KeyFits, kinds_of}
use Rattle.ba_model.specs.declared.policy.CacheKey.{CacheKey}
use Rattle.ba_model.specs.declared.policy.Context.{Context}
use Rattle.ba_model.specs.declared.policy.Policy.{Policy}
use Rattle.ba_model.specs.declared.query.Query.{Query}
use Rattle.ba_model.specs.declared.schema.Schema.{Schema}
use Rattle.ba_script.specs.declared.entry.ScriptEntry.{ScriptEntry}
use Rattle.ba_script.specs.declared.entry.ScriptEntry.TheVariants as said
use Rattle.ba_session.proofs.PassLemmas.{more_calls, no_calls, one_call}
use Rattle.ba_session.specs.Asking.{HasBlock, HasLooked, HasNoVerdict, IsRequestOf, IsBegun, IsServable, IsGround, IsKept, IsLook, Replies, question}
use Rattle.ba_session.specs.KeyReads.{AreGrounds, KeyReads, LetsThrough, MakesAll as KeyMakes}
use Rattle.ba_keys.specs.Literals.{key_queries, query_with}
use Rattle.ba_session.specs.Passing.{AreOf, HasRoom, LeavesShelves, Makes, MakesCalls, ShelfCalls, calls_on}
use Rattle.ba_session.specs.declared.reply.By.{By}
use Rattle.ba_session.specs.declared.reply.By.TheVariants.{Cover, Template, Proof}
use Rattle.ba_session.specs.declared.reply.Keeping.{Keeping}
use Rattle.ba_session.specs.declared.reply.Keeping.TheVariants as keeping
use Rattle.ba_session.specs.declared.reply.KeyReply.{KeyReply}
use Rattle.ba_session.specs.declared.reply.KeyReply.TheVariants as key_reply
use Rattle.ba_session.specs.declared.reply.Reply.{Reply}
use Rattle.ba_session.specs.declared.reply.Reply.TheVariants as replied
use Rattle.ba_session.specs.declared.reply.Why.{Why}
use Rattle.ba_session.specs.declared.request.Request.{Request}
use Rattle.ba_session.specs.declared.service.Passes.{Passes}
use Rattle.ba_session.specs.declared.service.Service.{Service}
use Rattle.ba_settle.specs.Settling.{Effort}
use Rattle.ba_tables.specs.TableSet.{TableSet}
use Rattle.ba_lanes.specs.Legal.{LineCalls, LineDone, asked, begins, made_on, no_calls as nothing_made, on_each, on_shelves, on_versions, pin_of, read_as, shelf_calls_of, versions_made}
use Rattle.ba_lanes.specs.Serving.{CanServe, Comes, Does, EndsOrLost, CanTake, MakesAll, Takes, calls_versions, questions_of, told}
use Rattle.ba_lanes.specs.declared.lane.Lane.{Lane}
use Rattle.ba_lanes.specs.declared.journal.Entry.{Entry}
use Rattle.ba_lanes.specs.declared.journal.Entry.TheVariants.{Begin, Publish, Memory}
use Rattle.ba_lanes.specs.declared.journal.LineKind.TheVariants as kinds
use Rattle.ba_turn.specs.Passes.{MakesCall, known_by}
use Rattle.ba_versions.specs.Reads.{published as publication}
use Rattle.ba_versions.specs.declared.call.VersionCall.{VersionCall}
use Rattle.ba_versions.specs.declared.call.VersionCall.TheVariants.{Refused}

-- ---- calls of lines

flat_end : {A B : Type 0} (f : A → List B) (xs ys : List A) → flat_map f (xs ++ ys) ≡ flat_map f xs ++ flat_map f ys
flat_end f [] ys = refl
flat_end f (x ∷ xs) ys = ap (λ z. f x ++ z) (flat_end f xs ys) ∙ sym (append_assoc (f x) (flat_map f xs) (flat_map f ys))

pub makes_start : (p : Passes) → MakesAll [] p p
makes_start p = record {
  versions = no_calls (known_by p.versions) (known_by p.versions) refl;
  shelves = λ k low. no_calls (known_on p.cache k) (known_on p.cache k) refl;
}

pub makes_on : (its more : List LineDone) (old between new : Passes) → MakesAll its old between → MakesAll more between new → MakesAll (its ++ more) old new
makes_on its more old between new a b = record {
  versions = subst (MakesCalls (known_by old.versions) (known_by new.versions)) (sym (flat_end (λ (it : LineDone). it.made.versions) its more))
      (more_calls (known_by old.versions) (known_by between.versions) (known_by new.versions) (versions_made its) (versions_made more) a.versions b.versions);
  shelves = λ k low.
      subst (MakesCalls (known_on old.cache k) (known_on new.cache k)) (sym (flat_end (λ (it : LineDone). shelf_calls_of k it) its more))
      (more_calls (known_on old.cache k) (known_on between.cache k) (known_on new.cache k) (made_on k its) (made_on k more) (a.shelves k low) (b.shelves k low));
}

-- ---- how many calls a question makes

at_most : (t : Bool) (xs : List ShelfCall) (n : ℕ) → length xs ≤ n → length (cond t xs []) ≤ n
at_most true xs n h = h
at_most false xs n h = omega arith

kept_most : (proof : kernel.Proof) (it : Keeping) (calls : List ShelfCall) → IsKept proof it calls → length calls ≤ 1
kept_most proof (keeping.Stored answer) calls h = let e = ap length h.2 in omega (arith, e)
kept_most proof keeping.Wide calls h = let e = ap length h.1 in omega (arith, e)
kept_most proof keeping.NoMemory calls (inl e) = let n = ap length e in omega (arith, n)
kept_most proof keeping.NoMemory calls (inr e) = let n = ap length e in omega (arith, n)

ground_most : (policy : Policy) (asker : Request) (effort : Effort) (query : Query) (ground : By) (made : ShelfCalls) → IsGround policy asker effort query ground made → length made.calls ≤ 2
ground_most policy asker effort query (Cover cover) made h = let e = ap length h.1 in omega (arith, e)
ground_most policy asker effort query (Template shard id template it) made h = let e = ap (λ (z : ShelfCalls). length z.calls) h.made_is in omega (arith, e)
ground_most policy asker effort query (Proof steps it) made h =
    let e = ap (λ (z : ShelfCalls). length z.calls) h.made_is in
    let most = kept_most (record { problem = question policy asker query; steps = steps }) it h.rest h.kept_is in
    omega (arith, e, most)

look_most : (query : Query) (calls : List ShelfCall) → IsLook query calls → length calls ≤ 1
look_most query calls (inl e) = let n = ap length e in omega (arith, n)
look_most query calls (inr h) = let n = ap length h.1 in omega (arith, n)

looked_most : (policy : Policy) (asker : Request) (query : Query) (made : ShelfCalls) → HasLooked policy asker query made → length made.calls ≤ 2
looked_most policy asker query made looked =
    let e = ap (λ (z : ShelfCalls). length z.calls) looked.made_is in
    let most = look_most query looked.calls looked.look in
    omega (arith, e, most)

pub replies_most : (policy : Policy) (asker : Request) (effort : Effort) (text : List ℕ) (made : ShelfCalls) (reply : Reply) → Replies policy asker effort text made reply → length made.calls ≤ 2
replies_most policy asker effort text made (replied.Answer query rows ground) h = ground_most policy asker effort query ground made h.ground
replies_most policy asker effort text made (replied.Blocked query why) h = let e = ap (λ (z : ShelfCalls). length z.calls) h.denied.made_is in omega (arith, e)
replies_most policy asker effort text made (replied.Unread fault) h = let e = ap length h.1 in omega (arith, e)
replies_most policy asker effort text made replied.NoMemory (inl e) = let n = ap length e in omega (arith, n)
replies_most policy asker effort text made replied.NoMemory (inr h) = looked_most policy asker h.0 made h.2

judged_most : (policy : Policy) (asker : Request) (query : Query) (made : ShelfCalls) → HasNoVerdict policy asker query made → length made.calls ≤ 2
judged_most policy asker query made (inl e) = let n = ap length e in omega (arith, n)
judged_most policy asker query made (inr h) = looked_most policy asker query made h

block_most : (policy : Policy) (asker : Request) (effort : Effort) (query : Query) (why : Why) (made : ShelfCalls) → HasBlock policy asker effort query why made → length made.calls ≤ 2
block_most policy asker effort query why made h = let e = ap (λ (z : ShelfCalls). length z.calls) h.made_is in omega (arith, e)

-- of several queries at most two each
on_shelf_most : (k n : ℕ) (calls : List ShelfCalls) → AllByRecursion (λ made. length made.calls ≤ 2) calls → length calls ≤ n → length (flat_map (λ made. calls_on k made) calls) ≤ 2 * n
on_shelf_most k n [] few h = omega (arith, h)
on_shelf_most k n (made ∷ more) few h =
    let front = at_most (made.shard == k) made.calls 2 few.0 in
    let behind = on_shelf_most k (length more) more few.1 (omega arith) in
    omega (arith, h, front, behind, length-append (calls_on k made) (flat_map (λ made. calls_on k made) more))

grounds_most : (policy : Policy) (asker : Request) (effort : Effort) (queries : List Query) (bases : List By) (calls : List ShelfCalls) → AreGrounds policy asker effort queries bases calls
    → AllByRecursion (λ made. length made.calls ≤ 2) calls × (length calls ≡ length queries)
grounds_most policy asker effort [] [] [] h = (tt, refl)
grounds_most policy asker effort [] [] (m ∷ ms) h = absurd h
grounds_most policy asker effort [] (b ∷ bs) ms h = absurd h
grounds_most policy asker effort (q ∷ qs) [] ms h = absurd h
grounds_most policy asker effort (q ∷ qs) (b ∷ bs) [] h = absurd h
grounds_most policy asker effort (q ∷ qs) (b ∷ bs) (m ∷ ms) h = let rest = grounds_most policy asker effort qs bs ms h.1 in ((ground_most policy asker effort q b m h.0.0, rest.0), ap suc rest.1)

push_most : (calls : List ShelfCalls) (last : ShelfCalls) → AllByRecursion (λ made. length made.calls ≤ 2) calls → length last.calls ≤ 2 → AllByRecursion (λ made. length made.calls ≤ 2) (calls ++ last ∷ [])
push_most [] last few here = (here, tt)
push_most (m ∷ ms) last few here = (few.0, push_most ms last few.1 here)

-- the calls of a read are at most two for each of its queries
pub reads_most : (policy : Policy) (asker : Request) (effort : Effort) (queries : List Query) (calls : List ShelfCalls) (reply : KeyReply) (k : ℕ) → KeyReads policy asker effort queries calls reply
    → length (flat_map (λ made. calls_on k made) calls) ≤ 2 * length queries
reads_most policy asker effort queries calls (key_reply.Allowed its by) k h =
    let all = grounds_most policy asker effort queries by calls h.1 in
    on_shelf_most k (length queries) calls all.0 (omega (arith, all.1))
reads_most policy asker effort queries calls (key_reply.Blocked its before why) k h =
    let it = h.1 in
    let earlier = grounds_most policy asker effort it.front before it.earlier it.grounds in
    let all = push_most it.earlier it.last earlier.0 (block_most policy asker effort it.query why it.last it.denied) in
    let size = ap length it.are in
    subst (λ z. length (flat_map (λ made. calls_on k made) z) ≤ 2 * length queries) (sym it.made_is)
    (on_shelf_most k (length queries) (it.earlier ++ it.last ∷ []) all (omega (arith, earlier.1, size, length-append it.earlier (it.last ∷ []), length-append it.front (it.query ∷ it.back))))
reads_most policy asker effort queries calls key_reply.NoMemory k h =
    let earlier = grounds_most policy asker effort h.front h.bases h.earlier h.grounds in
    let size = ap length h.are in
    by earlier.0 earlier.1 size h.last
  where
    by : AllByRecursion (λ made. length made.calls ≤ 2) h.earlier → length h.earlier ≡ length h.front → length queries ≡ length (h.front ++ h.back) → (calls ≡ h.earlier)
        ⊎ ((query : Query) × (more : List Query) × (h.back ≡ query ∷ more) × (made : ShelfCalls) × HasNoVerdict policy asker query made × (calls ≡ h.earlier ++ made ∷ [])) → length (flat_map (λ made. calls_on k made) calls) ≤ 2 * length queries
    by few many size (inl is) = subst (λ z. length (flat_map (λ made. calls_on k made) z) ≤ 2 * length queries) (sym is) (on_shelf_most k (length queries) h.earlier few (omega (arith, many, size, length-append h.front h.back)))
    by few many size (inr (query, more, back, made, none, is)) =
        let all = push_most h.earlier made few (judged_most policy asker query made none) in
        let behind = ap length back in
        subst (λ z. length (flat_map (λ made. calls_on k made) z) ≤ 2 * length queries) (sym is)
        (on_shelf_most k (length queries) (h.earlier ++ made ∷ []) all (omega (arith, many, size, behind, length-append h.front h.back, length-append h.earlier (made ∷ []))))

-- what a line takes of the allowances

versions_most : (input : Input) (requests : List (Option Request)) (line : ScriptEntry) (it : LineDone) (later : List (Option Request)) → Does input requests line it later → length it.made.versions ≤ cond (calls_versions line) 1 0
unfolding calls_versions
versions_most input requests (said.Begin r name c) it later (inl h) = let e = ap (λ (z : LineDone). length z.made.versions) h.is in omega (arith, e)
versions_most input requests (said.Begin r name c) it later (inr (h, same)) = by h.made_is
  where
    by : (it.made ≡ nothing_made) ⊎ (it.made ≡ on_versions (Refused ∷ [])) → length it.made.versions ≤ 1
    by (inl e) = let n = ap (λ (z : LineCalls). length z.versions) e in omega (arith, n)
    by (inr e) = let n = ap (λ (z : LineCalls). length z.versions) e in omega (arith, n)
versions_most input requests (said.Ask r name text) it later (inl h) = let e = ap (λ (z : LineDone). length z.made.versions) h.is in omega (arith, e)
versions_most input requests (said.Ask r name text) it later (inr (h, same)) = let e = ap (λ (z : LineDone). length z.made.versions) h.unserved in omega (arith, e)
versions_most input requests (said.Read r name key args qs) it later (inl h, same) = let e = ap (λ (z : LineDone). length z.made.versions) h.is in omega (arith, e)
versions_most input requests (said.Read r name key args qs) it later (inr h, same) = let e = ap (λ (z : LineDone). length z.made.versions) h.unserved in omega (arith, e)
versions_most input requests (said.End r name) it later (inl h, same) = let e = ap (λ (z : LineDone). length z.made.versions) h.is in omega (arith, e)
versions_most input requests (said.End r name) it later (inr h, same) = let e = ap (λ (z : LineDone). length z.made.versions) h.unserved in omega (arith, e)
versions_most input requests (said.Publish n set) it later (inl h, same) = let e = ap (λ (z : LineDone). length z.made.versions) h.is in omega (arith, e)
versions_most input requests (said.Publish n set) it later (inr h, same) = let e = ap (λ (z : LineDone). length z.made.versions) h in omega (arith, e)

-- the calls of a line that judges no query, and of one that judges one
pub none_on : (k : ℕ) (it : LineDone) (made : List VersionCall) → it.made ≡ on_versions made → shelf_calls_of k it ≡ []
none_on k it made e = ap (λ (z : LineCalls). flat_map (λ calls. calls_on k calls) z.shelves) e

pub some_on : (k : ℕ) (it : LineDone) (calls : ShelfCalls) → it.made ≡ on_shelves calls → shelf_calls_of k it ≡ calls_on k calls
some_on k it calls e = ap (λ (z : LineCalls). flat_map (λ calls. calls_on k calls) z.shelves) e ∙ append-nil (calls_on k calls)

none_most : (k n : ℕ) (it : LineDone) (made : List VersionCall) → it.made ≡ on_versions made → length (shelf_calls_of k it) ≤ n
none_most k n it made e = let none = ap length (none_on k it made e) in omega (arith, none)

shelves_most : (input : Input) (requests : List (Option Request)) (line : ScriptEntry) (it : LineDone) (later : List (Option Request)) (k begun : ℕ) → Comes input begun line → Does input requests line it later → length (shelf_calls_of k it) ≤ 2 * questions_of line
unfolding questions_of
shelves_most input requests (said.Begin r name c) it later k begun comes (inl h) = none_most k 0 it (pin_of h.asker.version h.asker.tables ∷ []) (ap (λ (z : LineDone). z.made) h.is)
shelves_most input requests (said.Begin r name c) it later k begun comes (inr (h, same)) = by h.made_is
  where
    by : (it.made ≡ nothing_made) ⊎ (it.made ≡ on_versions (Refused ∷ [])) → length (shelf_calls_of k it) ≤ 0
    by (inl e) = none_most k 0 it [] e
    by (inr e) = none_most k 0 it (Refused ∷ []) e
shelves_most input requests (said.Ask r name text) it later k begun comes (inl h) =
    let e = ap length (some_on k it h.calls (ap (λ (z : LineDone). z.made) h.is)) in
    let most = at_most (h.calls.shard == k) h.calls.calls 2 (replies_most input.policy h.asker (effort_of input) text h.calls h.reply h.replies) in
    omega (arith, e, most)
shelves_most input requests (said.Ask r name text) it later k begun comes (inr (h, same)) = none_most k 2 it [] (ap (λ (z : LineDone). z.made) h.unserved)
shelves_most input requests (said.Read r name key args qs) it later k begun comes (inl h, same) =
    let e = ap (λ (z : LineDone). length (flat_map (λ made. calls_on k made) z.made.shelves)) h.is in
    let most = reads_most input.policy h.asker (effort_of input) (key_queries input.policy h.key args) h.calls h.reply k h.reads in
    let same_key : h.key ≡ comes.1.0 = same_found (sym h.key_is ∙ comes.1.1) in
    let many = ap (λ (z : CacheKey). length z.queries) same_key in
    let count = comes.1.3 in
    omega (arith, e, most, many, count, length-map h.key.queries (query_with (length input.policy.params) args.values))
  where
    same_found : {x y : CacheKey} → Some x ≡ Some y → x ≡ y
    same_found e = cc
shelves_most input requests (said.Read r name key args qs) it later k begun comes (inr h, same) = none_most k (2 * qs) it [] (ap (λ (z : LineDone). z.made) h.unserved)
shelves_most input requests (said.End r name) it later k begun comes (inl h, same) = none_most k 0 it [] (ap (λ (z : LineDone). z.made) h.is)
shelves_most input requests (said.End r name) it later k begun comes (inr h, same) = none_most k 0 it [] (ap (λ (z : LineDone). z.made) h.unserved)
shelves_most input requests (said.Publish n set) it later k begun comes (inl h, same) = none_most k 0 it (publication h.tables h.version ∷ []) (ap (λ (z : LineDone). z.made) h.is)
shelves_most input requests (said.Publish n set) it later k begun comes (inr h, same) = none_most k 0 it [] (ap (λ (z : LineDone). z.made) h)

-- ---- allowances

count_cons : (p : ScriptEntry → Bool) (line : ScriptEntry) (lines : List ScriptEntry) → count_by p (line ∷ lines) ≡ cond (p line) 1 0 + count_by p lines
count_cons p line lines = sum_by-append (λ y. cond (p y) 1 0) (line ∷ []) lines ∙ ap (λ z. z + count_by p lines) (zero-add (cond (p line) 1 0))

pub can_first : (line : ScriptEntry) (lines : List ScriptEntry) (p : Passes) → CanServe (line ∷ lines) p → CanServe (line ∷ []) p
can_first line lines p can = record {
  versions = let v = can.versions in omega (arith, v, count_cons calls_versions line lines, count_cons calls_versions line []);
  shelves = record { each = λ k low. let s = can.shelves.each k low in omega (arith, s, sum_by-cons questions_of line lines, sum_by-cons questions_of line []) };
}

pub can_rest : (input : Input) (requests : List (Option Request)) (line : ScriptEntry) (lines : List ScriptEntry) (it : LineDone) (later : List (Option Request)) (old new : Passes) (begun : ℕ) → Comes input begun line → Does input requests line it later →
    CanServe (line ∷ lines) old → MakesAll (it ∷ []) old new → CanServe lines new
can_rest input requests line lines it later old new begun comes does can makes = record {
  versions =
      let v = can.versions in
      let left = makes.versions.left in
      let most = versions_most input requests line it later does in
      let same = ap length (append-nil it.made.versions) in
      omega (arith, v, left, most, same, count_cons calls_versions line lines);
  shelves = record {
    each = λ k low.
        let s = can.shelves.each k low in
        let left = (makes.shelves k low).left in
        let most = shelves_most input requests line it later k begun comes does in
        let same = ap length (append-nil (shelf_calls_of k it)) in
        omega (arith, s, left, most, same, sum_by-cons questions_of line lines);
  };
}

-- ---- what a line finds

pub checked_of : (input : Input) (policy : Policy) → IsInput input → policy ≡ input.policy → IsServable policy
checked_of input policy is same = subst IsServable (sym same) (record { fits = is.policy; tables = is.tables_are; rules = is.rules })

-- what holds of all elements holds of the one at a place
at_place : {X : Type 0} (P : X → Type 0) (xs : List X) (n : ℕ) (x : X) → All P xs → slice_get xs n ≡ Some x → P x
at_place P xs n x all e = subst P (get_or_from_slice_get xs n x x e) (All-get_or P xs n x (slice_get_within xs n x e) all)

-- A read is of a key that was checked, with a value of its kind for each argument, and counts its queries.
pub record IsReadOf (input : Input) (args : Context) (qs : ℕ) (key : CacheKey) : Type 0 where
  pub fits : KeyFits input.policy key
  pub arguments : ContextFits (kinds_of key.arguments) args
  pub many : qs ≡ length key.queries

pub read_of : (input : Input) → IsInput input → (begun r : ℕ) (name : List ℕ) (number : ℕ) (args : Context) (qs : ℕ) (key : CacheKey) → Comes input begun (said.Read r name number args qs) → slice_get input.policy.keys number ≡ Some key →
    IsReadOf input args qs key
read_of input is begun r name number args qs key comes there =
    let same : comes.1.0 ≡ key = same_Some comes.1.0 key (sym comes.1.1 ∙ there) in
    record {
      fits = at_place (KeyFits input.policy) input.policy.keys number key is.policy.keys there;
      arguments = subst (λ (z : CacheKey). ContextFits (kinds_of z.arguments) args) same comes.1.2;
      many = comes.1.3 ∙ ap (λ (z : CacheKey). length z.queries) same;
    }

-- a request at its place
pub there : (requests : List (Option Request)) (n : ℕ) (place : Option Request) (asker : Request) → n < length requests → place ≡ get_or requests n place → place ≡ Some asker → slice_get requests n ≡ Some (Some asker)
there requests n place asker low is at = slice_get_read requests (length requests) n place refl low is ∙ ap Some at

pub lost_there : (requests : List (Option Request)) (n : ℕ) (place : Option Request) → n < length requests → place ≡ get_or requests n place → place ≡ None → slice_get requests n ≡ Some None
lost_there requests n place low is at = slice_get_read requests (length requests) n place refl low is ∙ ap Some at

-- a list with the value that it has there already
pub set_there : (requests : List (Option Request)) (n : ℕ) (place : Option Request) → n < length requests → place ≡ get_or requests n place → slice_set requests n place ≡ requests
set_there [] n place low is = refl
set_there (x ∷ xs) zero place low is = ap (λ z. z ∷ xs) is
set_there (x ∷ xs) (suc n) place low is = ap (λ z. x ∷ z) (set_there xs n place (omega (arith, low)) is)

pub begin_left : (r : ℕ) (name : List ℕ) (c : Context) (p : Passes) → CanServe (said.Begin r name c ∷ []) p → 0 < (known_by p.versions).left
unfolding calls_versions
begin_left r name c p can = let v = can.versions in omega (arith, v)

pub publish_left : (n : ℕ) (set : List ℕ) (p : Passes) → CanServe (said.Publish n set ∷ []) p → 0 < (known_by p.versions).left
unfolding calls_versions
publish_left n set p can = let v = can.versions in omega (arith, v)

pub ask_room : (r : ℕ) (name text : List ℕ) (p : Passes) → CanServe (said.Ask r name text ∷ []) p → HasRoom 2 p
unfolding questions_of
ask_room r name text p can = record { each = λ k low. let s = can.shelves.each k low in omega (arith, s) }

pub read_room : (r : ℕ) (name : List ℕ) (key : ℕ) (args : Context) (qs n : ℕ) (p : Passes) → CanServe (said.Read r name key args qs ∷ []) p → qs ≡ n → HasRoom (2 * n) p
unfolding questions_of
read_room r name key args qs n p can many = record { each = λ k low. let s = can.shelves.each k low in omega (arith, s, many) }

-- the name of a request or a table set is of no account
pub begin_named : (input : Input) (service : Service) (lane : Lane) (r : ℕ) (c : Context) (a b : List ℕ) → CanTake input service (said.Begin r a c) lane → CanTake input service (said.Begin r b c) lane
unfolding calls_versions questions_of
begin_named input service lane r c a b h = record { comes = h.comes; askers = h.askers; of = h.of; can = record { versions = h.can.versions; shelves = h.can.shelves }; room = h.room }

pub ask_named : (input : Input) (service : Service) (lane : Lane) (r : ℕ) (text a b : List ℕ) → CanTake input service (said.Ask r a text) lane → CanTake input service (said.Ask r b text) lane
unfolding calls_versions questions_of
ask_named input service lane r text a b h = record { comes = h.comes; askers = h.askers; of = h.of; can = record { versions = h.can.versions; shelves = h.can.shelves }; room = h.room }

pub read_named : (input : Input) (service : Service) (lane : Lane) (r key : ℕ) (args : Context) (qs : ℕ) (a b : List ℕ) → CanTake input service (said.Read r a key args qs) lane → CanTake input service (said.Read r b key args qs) lane
unfolding calls_versions questions_of
read_named input service lane r key args qs a b h = record { comes = h.comes; askers = h.askers; of = h.of; can = record { versions = h.can.versions; shelves = h.can.shelves }; room = h.room }

pub publish_named : (input : Input) (service : Service) (lane : Lane) (n : ℕ) (a b : List ℕ) → CanTake input service (said.Publish n a) lane → CanTake input service (said.Publish n b) lane
unfolding calls_versions questions_of
publish_named input service lane n a b h = record { comes = h.comes; askers = h.askers; of = h.of; can = record { versions = h.can.versions; shelves = h.can.shelves }; room = h.room }

-- a table set that was read
pub set_of : (schema : Schema) (sets : List TableSet) (n : ℕ) (tables : TableSet) → All (IsSetOf schema) sets → slice_get sets n ≡ Some tables → IsSetOf schema tables
set_of schema [] n tables all e = absurd (cc)
set_of schema (x ∷ xs) zero tables all e = let same : x ≡ tables = cc in subst (IsSetOf schema) same (All-head (IsSetOf schema) x xs all)
set_of schema (x ∷ xs) (suc n) tables all e = set_of schema xs n tables (All-tail (IsSetOf schema) x xs all) e

-- the calls of one line
pub makes_pin : {old new : Passes} (call : VersionCall) (it : LineDone) → it.made ≡ on_versions (call ∷ []) → MakesCall (known_by old.versions) (known_by new.versions) call → LeavesShelves old new → MakesAll (it ∷ []) old new
makes_pin {old = old} {new = new} call it is made leaves =
    let versions : versions_made (it ∷ []) ≡ call ∷ [] = append-nil it.made.versions ∙ ap (λ (z : LineCalls). z.versions) is in
    record {
      versions = subst (MakesCalls (known_by old.versions) (known_by new.versions)) (sym versions) (one_call (known_by old.versions) (known_by new.versions) call made);
      shelves = λ k low.
          let shelves : made_on k (it ∷ []) ≡ [] = append-nil (shelf_calls_of k it) ∙ none_on k it (call ∷ []) is in
          subst (MakesCalls (known_on old.cache k) (known_on new.cache k)) (sym shelves) (no_calls (known_on old.cache k) (known_on new.cache k) (leaves.each k low));
    }

pub makes_nothing : (p : Passes) (it : LineDone) → it.made ≡ on_versions [] → MakesAll (it ∷ []) p p
makes_nothing p it is =
    let versions : versions_made (it ∷ []) ≡ [] = append-nil it.made.versions ∙ ap (λ (z : LineCalls). z.versions) is in
    record {
      versions = subst (MakesCalls (known_by p.versions) (known_by p.versions)) (sym versions) (no_calls (known_by p.versions) (known_by p.versions) refl);
      shelves = λ k low.
          let shelves : made_on k (it ∷ []) ≡ [] = append-nil (shelf_calls_of k it) ∙ none_on k it [] is in
          subst (MakesCalls (known_on p.cache k) (known_on p.cache k)) (sym shelves) (no_calls (known_on p.cache k) (known_on p.cache k) refl);
    }

pub makes_looks : (old new : Passes) (calls : ShelfCalls) (it : LineDone) → it.made ≡ on_shelves calls → Makes calls old new → MakesAll (it ∷ []) old new
makes_looks old new calls it is made =
    let versions : versions_made (it ∷ []) ≡ [] = append-nil it.made.versions ∙ ap (λ (z : LineCalls). z.versions) is in
    record {
      versions = subst (MakesCalls (known_by old.versions) (known_by new.versions)) (sym versions) (no_calls (known_by old.versions) (known_by new.versions) made.versions);
      shelves = λ k low.
          let shelves : made_on k (it ∷ []) ≡ calls_on k calls = append-nil (shelf_calls_of k it) ∙ some_on k it calls is in
          subst (MakesCalls (known_on old.cache k) (known_on new.cache k)) (sym shelves) (made.shelves k low);
    }

-- the calls of several judgements, as one list
pub makes_reads : (old new : Passes) (calls : List ShelfCalls) → KeyMakes calls old new → (it : LineDone) → it.made ≡ on_each calls → MakesAll (it ∷ []) old new
makes_reads old new calls made it is =
    let versions : versions_made (it ∷ []) ≡ [] = append-nil it.made.versions ∙ ap (λ (z : LineCalls). z.versions) is in
    record {
      versions = subst (MakesCalls (known_by old.versions) (known_by new.versions)) (sym versions) (no_calls (known_by old.versions) (known_by new.versions) (stay calls old new made));
      shelves = λ k low.
          let shelves : made_on k (it ∷ []) ≡ flat_map (λ made. calls_on k made) calls = append-nil (shelf_calls_of k it) ∙ ap (λ (z : LineCalls). flat_map (λ made. calls_on k made) z.shelves) is in
          subst (MakesCalls (known_on old.cache k) (known_on new.cache k)) (sym shelves) (all k low calls old new made);
    }
  where
    stay : (calls : List ShelfCalls) (old new : Passes) → KeyMakes calls old new → known_by new.versions ≡ known_by old.versions
    stay [] old new made = made.0
    stay (m ∷ ms) old new (between, first, rest) = stay ms between new rest ∙ first.versions

    all : (k : ℕ) → k < 8 → (calls : List ShelfCalls) (old new : Passes) → KeyMakes calls old new → MakesCalls (known_on old.cache k) (known_on new.cache k) (flat_map (λ made. calls_on k made) calls)
    all k low [] old new made = no_calls (known_on old.cache k) (known_on new.cache k) (made.1.each k low)
    all k low (m ∷ ms) old new (between, first, rest) =
        more_calls (known_on old.cache k) (known_on between.cache k) (known_on new.cache k) (calls_on k m) (flat_map (λ made. calls_on k made) ms) (first.shelves k low) (all k low ms between new rest)

-- ---- what becomes of a line

module _ (input : Input) (service : Service) (old new : Lane) (of : AreOf service new.passes) (entries : new.entries ≡ old.entries) (room : vec_capacity new.requests ≡ vec_capacity old.requests) where
  pub takes_begun : (r : ℕ) (name : List ℕ) (c : Context) (asker : Request) → IsBegun c asker → IsRequestOf input.policy asker → new.requests.items ≡ old.requests.items ++ Some asker ∷ [] →
      MakesCall (known_by old.passes.versions) (known_by new.passes.versions) (pin_of asker.version asker.tables) → LeavesShelves old.passes new.passes → Takes input service (said.Begin r name c) (Begin r asker.version) old new
  takes_begun r name c asker is_begun may later made leaves = record {
    made = on_versions (pin_of asker.version asker.tables ∷ []);
    does = inl (record { asker = asker; is = refl; begun = is_begun; may = may; later_is = later });
    makes = makes_pin {old = old.passes} {new = new.passes} (pin_of asker.version asker.tables) (begins r asker.version asker.tables) refl made leaves;
    of = of;
    entries = entries;
    room = room;
  }

  pub takes_refused : (r : ℕ) (name : List ℕ) (c : Context) → new.requests.items ≡ old.requests.items ++ None ∷ [] → MakesCall (known_by old.passes.versions) (known_by new.passes.versions) Refused → LeavesShelves old.passes new.passes →
      (entry : Entry) → entry ≡ Memory kinds.Begin (Some r) None → Takes input service (said.Begin r name c) entry old new
  takes_refused r name c later made leaves entry is = record {
    made = on_versions (Refused ∷ []);
    does = inr (record { entry_is = is; made_is = inr refl }, later);
    makes = makes_pin {old = old.passes} {new = new.passes} Refused (record { entry = entry; made = on_versions (Refused ∷ []) }) refl made leaves;
    of = of;
    entries = entries;
    room = room;
  }

  pub takes_unmade : (r : ℕ) (name : List ℕ) (c : Context) → new.requests.items ≡ old.requests.items ++ None ∷ [] → new.passes ≡ old.passes → (entry : Entry) → entry ≡ Memory kinds.Begin (Some r) None →
      Takes input service (said.Begin r name c) entry old new
  takes_unmade r name c later same entry is = record {
    made = nothing_made;
    does = inr (record { entry_is = is; made_is = inl refl }, later);
    makes = subst (MakesAll (record { entry = entry; made = nothing_made } ∷ []) old.passes) (sym same) (makes_nothing old.passes (record { entry = entry; made = nothing_made }) refl);
    of = of;
    entries = entries;
    room = room;
  }

  pub takes_asked : (r : ℕ) (name text : List ℕ) (asker next : Request) (reply : Reply) → slice_get old.requests.items r ≡ Some (Some asker) → IsRequestOf input.policy next → next ≡ told asker reply →
      new.requests.items ≡ slice_set old.requests.items r (Some next) → ((calls : ShelfCalls) × Replies input.policy asker (effort_of input) text calls reply × Makes calls old.passes new.passes) →
      (entry : Entry) → entry ≡ asked r next.version reply → Takes input service (said.Ask r name text) entry old new
  takes_asked r name text asker next reply at may next_is later (calls, replies, makes) entry is =
      subst (λ z. Takes input service (said.Ask r name text) z old new) (sym (is ∙ ap (λ (z : Request). asked r z.version reply) next_is)) (record {
        made = on_shelves calls;
        does = inl (record {
          asker = asker;
          there = at;
          reply = reply;
          calls = calls;
          replies = replies;
          is = refl;
          may = subst (IsRequestOf input.policy) next_is may;
          later_is = later ∙ ap (λ z. slice_set old.requests.items r (Some z)) next_is;
        });
        makes = makes_looks old.passes new.passes calls (record { entry = asked r asker.version reply; made = on_shelves calls }) refl makes;
        of = of;
        entries = entries;
        room = room;
      })

  pub takes_read : (r : ℕ) (name : List ℕ) (number : ℕ) (args : Context) (qs : ℕ) (asker : Request) (key : CacheKey) (reply : KeyReply) → slice_get old.requests.items r ≡ Some (Some asker) → slice_get input.policy.keys number ≡ Some key →
      new.requests.items ≡ old.requests.items → ((calls : List ShelfCalls) × KeyReads input.policy asker (effort_of input) (key_queries input.policy key args) calls reply × KeyMakes calls old.passes new.passes) →
      LetsThrough input.policy asker reply → (entry : Entry) → entry ≡ read_as r asker.version number reply → Takes input service (said.Read r name number args qs) entry old new
  takes_read r name number args qs asker key reply at key_is later (calls, reads, makes) through entry is =
      subst (λ z. Takes input service (said.Read r name number args qs) z old new) (sym is) (record {
        made = on_each calls;
        does = (inl (record { asker = asker; there = at; key = key; key_is = key_is; reply = reply; calls = calls; reads = reads; through = through; is = refl }), later);
        makes = makes_reads old.passes new.passes calls makes (record { entry = read_as r asker.version number reply; made = on_each calls }) refl;
        of = of;
        entries = entries;
        room = room;
      })

  pub takes_unread : (r : ℕ) (name : List ℕ) (number : ℕ) (args : Context) (qs : ℕ) → slice_get old.requests.items r ≡ Some None → new.requests.items ≡ old.requests.items → new.passes ≡ old.passes → (entry : Entry) → entry ≡ Memory kinds.Read (Some r) None →
      Takes input service (said.Read r name number args qs) entry old new
  takes_unread r name number args qs at later same entry is = record {
    made = nothing_made;
    does = (inr (record { there = at; unserved = (λ i. record { entry = is i; made = nothing_made }) }), later);
    makes = subst (MakesAll (record { entry = entry; made = nothing_made } ∷ []) old.passes) (sym same) (makes_nothing old.passes (record { entry = entry; made = nothing_made }) refl);
    of = of;
    entries = entries;
    room = room;
  }

  pub takes_lost : (r : ℕ) (name text : List ℕ) → slice_get old.requests.items r ≡ Some None → new.requests.items ≡ old.requests.items → new.passes ≡ old.passes → (entry : Entry) → entry ≡ Memory kinds.Ask (Some r) None →
      Takes input service (said.Ask r name text) entry old new
  takes_lost r name text at later same entry is = record {
    made = nothing_made;
    does = inr (record { there = at; unserved = (λ i. record { entry = is i; made = nothing_made }) }, later);
    makes = subst (MakesAll (record { entry = entry; made = nothing_made } ∷ []) old.passes) (sym same) (makes_nothing old.passes (record { entry = entry; made = nothing_made }) refl);
    of = of;
    entries = entries;
    room = room;
  }

  pub takes_end : (r : ℕ) (name : List ℕ) (entry : Entry) → EndsOrLost old.requests.items r (record { entry = entry; made = nothing_made }) → new.requests.items ≡ old.requests.items → new.passes ≡ old.passes →
      Takes input service (said.End r name) entry old new
  takes_end r name entry h later same = record {
    made = nothing_made;
    does = (h, later);
    makes = subst (MakesAll (record { entry = entry; made = nothing_made } ∷ []) old.passes) (sym same) (makes_nothing old.passes (record { entry = entry; made = nothing_made }) refl);
    of = of;
    entries = entries;
    room = room;
  }

  pub takes_published : (n : ℕ) (set : List ℕ) (tables : TableSet) (version : ℕ) → slice_get input.published n ≡ Some tables → new.requests.items ≡ old.requests.items →
      MakesCall (known_by old.passes.versions) (known_by new.passes.versions) (publication tables version) → LeavesShelves old.passes new.passes → Takes input service (said.Publish n set) (Publish version) old new
  takes_published n set tables version at later made leaves = record {
    made = on_versions (publication tables version ∷ []);
    does = (inl (record { tables = tables; there = at; version = version; is = refl }), later);
    makes = makes_pin {old = old.passes} {new = new.passes} (publication tables version) (record { entry = Publish version; made = on_versions (publication tables version ∷ []) }) refl made leaves;
    of = of;
    entries = entries;
    room = room;
  }

  pub takes_unpublished : (n : ℕ) (set : List ℕ) → new.requests.items ≡ old.requests.items → new.passes ≡ old.passes → Takes input service (said.Publish n set) (Memory kinds.Publish None None) old new
  takes_unpublished n set later same =
      let entry : Entry = Memory kinds.Publish None None in
      record {
        made = nothing_made;
        does = (inr refl, later);
        makes = subst (MakesAll (record { entry = entry; made = nothing_made } ∷ []) old.passes) (sym same) (makes_nothing old.passes (record { entry = entry; made = nothing_made }) refl);
        of = of;
        entries = entries;
        room = room;
      }

-- ---- counting

count_most : (p : ScriptEntry → Bool) (lines : List ScriptEntry) → count_by p lines ≤ length lines
count_most p [] = omega arith
count_most p (x ∷ xs) =
    let more = count_cons p x xs in
    let rest = count_most p xs in
    let one = one_most (p x) in
    omega (arith, more, rest, one)
  where
    one_most : (t : Bool) → cond t 1 0 ≤ 1
    one_most true = omega arith
    one_most false = omega arith

count_push : (p : ScriptEntry → Bool) (lines : List ScriptEntry) (line : ScriptEntry) → count_by p (lines ++ line ∷ []) ≡ count_by p lines + cond (p line) 1 0
count_push p lines line = sum_by-append (λ y. cond (p y) 1 0) lines (line ∷ []) ∙ ap (λ z. count_by p lines + z) (zero-add (cond (p line) 1 0))

module _ (p : ScriptEntry → Bool) (items : List ScriptEntry) (i : ℕ) (line : ScriptEntry) (below : i < length items) (is : line ≡ get_or items i line) where
  counted_next : count_by p (take (i + 1) items) ≡ count_by p (take i items) + cond (p line) 1 0
  counted_next = ap (count_by p) (take_more items i line below ∙ ap (λ z. take i items ++ z ∷ []) (sym is)) ∙ count_push p (take i items) line

  pub counted_yes : p line ≡ true → count_by p (take (i + 1) items) ≡ count_by p (take i items) + 1
  counted_yes h = counted_next ∙ ap (λ t. count_by p (take i items) + cond t 1 0) h

  pub counted_no : p line ≡ false → count_by p (take (i + 1) items) ≡ count_by p (take i items)
  counted_no h = let next : count_by p (take (i + 1) items) ≡ count_by p (take i items) + 0 = counted_next ∙ ap (λ t. count_by p (take i items) + cond t 1 0) h in omega (arith, next)

  pub count_small : count_by p (take i items) < length items
  count_small = let most = count_most p (take i items) in let long = length-take i items in omega (arith, most, long, below)

pub count_all : (p : ScriptEntry → Bool) (items : List ScriptEntry) (i : ℕ) → length items ≤ i → count_by p (take i items) ≡ count_by p items
count_all p items i past = ap (count_by p) (take_all i items past)
