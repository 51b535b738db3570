-- A read judges query after query.
use Rattle.std.proofs.Common.{◌≡◌, ◌∙◌, inl, inr, ℕ, suc, ◌+◌, ◌*◌, ◌-◌, ◌<◌, ◌≤◌, ◌==◌, Bool, true, false, cond, List, [], ◌∷◌, ◌++◌, length, take, drop, get_or, slice_get, Some, Result, Ok, Err, OnOk, is_err, refl, sym, ap, subst, arith}
use Rattle.std.specs.List.{All}
use Rattle.std.proofs.lemmas.List.{drop_more, length-map, take-append-drop, take_all, take_more}
use Rattle.std.proofs.lemmas.Option.{get_or_from_slice_get, slice_get_within}
use Rattle.std.proofs.lemmas.List.Elements.{All-cons, All-get_or, All-head, All-nil, All-tail, All-weaker}
use Rattle.ba_cache.specs.Passes.{known_on}
use Rattle.ba_cache.specs.declared.call.ShelfCall.{ShelfCall}
use Rattle.ba_comply.specs.Comply.{AnswerEverywhere}
use Rattle.ba_kernel.specs.Asked.{AnswersAreRecords, QuestionFits}
use Rattle.ba_kernel.specs.SearchStates as kernel
use Rattle.ba_model.specs.Fit.{IsQuery, kinds_of}
use Rattle.ba_model.specs.declared.policy.CacheKey.{CacheKey}
use Rattle.ba_model.specs.declared.policy.Context.{Context}
use Rattle.ba_model.specs.declared.policy.Policy.{Policy}
use Rattle.ba_model.specs.declared.query.Query.{Query}
use Rattle.ba_refute.proofs.RefuteLemmas.{refutes}
use Rattle.ba_refute.specs.OfEquations.{IsQuestionOfEquations}
use Rattle.ba_settle.specs.Settling.{Effort}
use Rattle.ba_session.specs.Asking.{HasBlock, HasNoVerdict, IsCompliant, IsGround, IsKept, IsLook, IsRequestOf, IsServable, Judges}
use Rattle.ba_session.specs.Deciding.{IsReadRightly, SaysRightly}
use Rattle.ba_session.specs.KeyReads.{AreGrounds, HasOneAnswer, IsKeyBlocked, IsKeyInterrupted, KeyReads, LetsThrough, MakesAll}
use Rattle.ba_session.proofs.JudgeLemmas.{question_fits}
use Rattle.ba_keys.specs.Literals.{key_queries, query_with}
use Rattle.ba_session.specs.Passing.{HasRoom, Makes, MakesCalls, ShelfCalls, calls_on}
use Rattle.ba_session.specs.declared.reply.By.{By}
use Rattle.ba_session.specs.declared.reply.By.TheVariants.{Cover, Template, Proof}
use Rattle.ba_session.specs.declared.reply.Judgement.{Judgement}
use Rattle.ba_session.specs.declared.reply.Judgement.TheVariants as judged
use Rattle.ba_session.specs.declared.reply.Keeping.{Keeping}
use Rattle.ba_session.specs.declared.reply.Keeping.TheVariants as keeping
use Rattle.ba_session.specs.declared.reply.KeyReply.{KeyReply}
use Rattle.ba_session.specs.declared.reply.KeyReply.TheVariants as keys
use Rattle.ba_session.specs.declared.reply.Why.{Why}
use Rattle.ba_session.specs.declared.reply.Why.TheVariants as why
use Rattle.ba_session.specs.declared.request.Request.{Request}
use Rattle.ba_session.specs.declared.service.Passes.{Passes}

-- ---- lists

-- what holds of all holds of the one of the number
pub at_all : (P : Query → Type 0) (queries : List Query) (i : ℕ) (query : Query) → slice_get queries i ≡ Some query → All P queries → P query
at_all P queries i query there all = subst P (get_or_from_slice_get queries i query query there) (All-get_or P queries i query (slice_get_within queries i query there) all)

-- what is so where there was memory
pub pushed : {A E P : Type 0} (r : Result A E) → is_err r ≡ false → OnOk r P → P
pushed (Ok x) so h = h
pushed (Err e) so h = absurd (cc)

-- ---- calls

pub makes_all_none : (p : Passes) → MakesAll [] p p
makes_all_none p = (refl, record { each = λ k low. refl })

pub makes_all_more : (made : List ShelfCalls) (last : ShelfCalls) (old between new : Passes) → MakesAll made old between → Makes last between new → MakesAll (made ++ last ∷ []) old new
makes_all_more [] last old between new none here = (new, moved, makes_all_none new)
  where
    moved : Makes last old new
    moved = record {
      versions = here.versions ∙ none.0;
      shelves = λ k low. subst (λ v. MakesCalls v (known_on new.cache k) (calls_on k last)) (none.1.each k low) (here.shelves k low);
    }
makes_all_more (made ∷ more) last old between new (mid, first, rest) here = (mid, first, makes_all_more more last mid between new rest here)

-- at most a look and an admit
few_kept : (proof : kernel.Proof) (keeping : Keeping) (calls : List ShelfCall) → IsKept proof keeping calls → length calls ≤ 1
few_kept proof (keeping.Stored answer) calls (template, general, is) = omega (arith, ap length is)
few_kept proof keeping.Wide calls (wide, is) = omega (arith, ap length is)
few_kept proof keeping.NoMemory calls (inl is) = omega (arith, ap length is)
few_kept proof keeping.NoMemory calls (inr is) = omega (arith, ap length is)

few_looks : (query : Query) (calls : List ShelfCall) → IsLook query calls → length calls ≤ 1
few_looks query calls (inl is) = omega (arith, ap length is)
few_looks query calls (inr (found, is)) = omega (arith, ap length is)

abbrev count : ShelfCalls → ℕ
count made = length made.calls

pub few_calls : (policy : Policy) (asker : Request) (effort : Effort) (query : Query) (made : ShelfCalls) (it : Judgement) → Judges policy asker effort query made it → length made.calls ≤ 2
few_calls policy asker effort query made (judged.Allowed (Cover cover)) h = omega (arith, ap length h.0.1)
few_calls policy asker effort query made (judged.Allowed (Template shard id template it)) h = omega (arith, ap count h.0.made_is)
few_calls policy asker effort query made (judged.Allowed (Proof steps keeping)) h = let rest = few_kept _ keeping h.0.rest h.0.kept_is in omega (arith, ap count h.0.made_is, rest)
few_calls policy asker effort query made (judged.Blocked why) h = omega (arith, ap count h.made_is)
few_calls policy asker effort query made judged.NoMemory (inl none) = omega (arith, ap length none)
few_calls policy asker effort query made judged.NoMemory (inr looked) = let few = few_looks query looked.calls looked.look in omega (arith, ap count looked.made_is, few)

few_on : (k : ℕ) (made : ShelfCalls) → length made.calls ≤ 2 → length (calls_on k made) ≤ 2
few_on k made few = by (made.shard == k)
  where
    by : (t : Bool) → length (cond t made.calls []) ≤ 2
    by true = few
    by false = omega arith

-- two calls less are left
pub room_after_judging : (n : ℕ) (made : ShelfCalls) (old new : Passes) → HasRoom (n + 2) old → length made.calls ≤ 2 → Makes made old new → HasRoom n new
room_after_judging n made old new room few makes = record {
  each = λ k low.
      let most = few_on k made few in
      let left = (makes.shelves k low).left in
      let before = room.each k low in
      omega (arith, most, left, before);
}

-- ---- grounds

module _ (policy : Policy) (asker : Request) (effort : Effort) where
  pub grounds_more : (queries : List Query) (bases : List By) (made : List ShelfCalls) (query : Query) (basis : By) (calls : ShelfCalls) → AreGrounds policy asker effort queries bases made → IsGround policy asker effort query basis calls × IsCompliant policy asker query
      → AreGrounds policy asker effort (queries ++ query ∷ []) (bases ++ basis ∷ []) (made ++ calls ∷ [])
  grounds_more [] [] [] query basis calls h here = (here, tt)
  grounds_more [] [] (m ∷ ms) query basis calls h here = absurd h
  grounds_more [] (b ∷ bs) ms query basis calls h here = absurd h
  grounds_more (q ∷ qs) [] ms query basis calls h here = absurd h
  grounds_more (q ∷ qs) (b ∷ bs) [] query basis calls h here = absurd h
  grounds_more (q ∷ qs) (b ∷ bs) (m ∷ ms) query basis calls h here = (h.0, grounds_more qs bs ms query basis calls h.1 here)

  -- the first i queries have their grounds, and the passes made their calls
  pub record ReadingAt (queries : List Query) (bases : List By) (i : ℕ) (old now : Passes) : Type 0 where
    pub made : List ShelfCalls
    pub grounds : AreGrounds policy asker effort (take i queries) bases made
    pub makes : MakesAll made old now
    pub room : HasRoom (2 * (length queries - i)) now

  pub reading_start : (queries : List Query) (old : Passes) → HasRoom (2 * length queries) old → ReadingAt queries [] 0 old old
  reading_start queries old room = record {
    made = [];
    grounds = tt;
    makes = makes_all_none old;
    room = record { each = λ k low. let before = room.each k low in omega (arith, before) };
  }

  split : (queries : List Query) (i : ℕ) (query : Query) → i < length queries → query ≡ get_or queries i query → take (i + 1) queries ≡ take i queries ++ query ∷ []
  split queries i query lt is = take_more queries i query lt ∙ ap (λ (q : Query). take i queries ++ q ∷ []) (sym is)

  left : (n i : ℕ) → i < n → 2 * (n - i) ≡ 2 * (n - (i + 1)) + 2
  left n i lt = omega (arith, lt)

  pub reading_more : (queries : List Query) (bases bases2 : List By) (i : ℕ) (old now new : Passes) (query : Query) (basis : By) (calls : ShelfCalls) → ReadingAt queries bases i old now → i < length queries → query ≡ get_or queries i query
      → Judges policy asker effort query calls (judged.Allowed basis) → Makes calls now new → bases2 ≡ bases ++ basis ∷ [] → ReadingAt queries bases2 (i + 1) old new
  reading_more queries bases bases2 i old now new query basis calls at lt is judges makes more = record {
    made = at.made ++ calls ∷ [];
    grounds = rw (split queries i query lt is, more) (grounds_more (take i queries) bases at.made query basis calls at.grounds judges);
    makes = makes_all_more at.made calls old now new at.makes makes;
    room =
        room_after_judging (2 * (length queries - (i + 1))) calls now new (subst (λ (m : ℕ). HasRoom m now) (left (length queries) i lt) at.room)
        (few_calls policy asker effort query calls (judged.Allowed basis) judges) makes;
  }

  -- there is room to judge the next query
  pub room_here : (queries : List Query) (bases : List By) (i : ℕ) (old now : Passes) → ReadingAt queries bases i old now → i < length queries → HasRoom 2 now
  room_here queries bases i old now at lt = record { each = λ k low. let before = at.room.each k low in omega (arith, before, lt, left (length queries) i lt) }

  parts : (queries : List Query) (i : ℕ) (query : Query) → i < length queries → query ≡ get_or queries i query → queries ≡ take i queries ++ query ∷ drop (i + 1) queries
  parts queries i query lt is =
      sym (take-append-drop i queries) ∙ ap (λ (qs : List Query). take i queries ++ qs) (drop_more queries i query lt ∙ ap (λ (q : Query). q ∷ drop (i + 1) queries) (sym is))

  pub reading_blocked : (queries : List Query) (bases : List By) (i : ℕ) (old now new : Passes) (query : Query) (why : Why) (calls : ShelfCalls) → ReadingAt queries bases i old now → i < length queries → query ≡ get_or queries i query
      → HasBlock policy asker effort query why calls → Makes calls now new → (made : List ShelfCalls) × IsKeyBlocked policy asker effort queries bases why made × MakesAll made old new
  reading_blocked queries bases i old now new query why calls at lt is denied makes = (
    at.made ++ calls ∷ [],
    record {
      front = take i queries;
      query = query;
      back = drop (i + 1) queries;
      are = parts queries i query lt is;
      earlier = at.made;
      last = calls;
      made_is = refl;
      grounds = at.grounds;
      denied = denied;
    },
    makes_all_more at.made calls old now new at.makes makes,
  )

  pub reading_interrupted : (queries : List Query) (bases : List By) (i : ℕ) (old now new : Passes) (query : Query) (calls : ShelfCalls) → ReadingAt queries bases i old now → i < length queries → query ≡ get_or queries i query
      → HasNoVerdict policy asker query calls → Makes calls now new → (made : List ShelfCalls) × IsKeyInterrupted policy asker effort queries made × MakesAll made old new
  reading_interrupted queries bases i old now new query calls at lt is none makes = (
    at.made ++ calls ∷ [],
    record {
      front = take i queries;
      back = query ∷ drop (i + 1) queries;
      are = parts queries i query lt is;
      bases = bases;
      earlier = at.made;
      grounds = at.grounds;
      last = inr (query, drop (i + 1) queries, refl, calls, none, refl);
    },
    makes_all_more at.made calls old now new at.makes makes,
  )

  -- no memory behind the first queries, between two judgements
  pub reading_ends : (queries : List Query) (bases : List By) (i : ℕ) (old now : Passes) → ReadingAt queries bases i old now → (made : List ShelfCalls) × IsKeyInterrupted policy asker effort queries made × MakesAll made old now
  reading_ends queries bases i old now at = (
    at.made,
    record {
      front = take i queries;
      back = drop i queries;
      are = sym (take-append-drop i queries);
      bases = bases;
      earlier = at.made;
      grounds = at.grounds;
      last = inl refl;
    },
    at.makes,
  )

  pub reading_over : (queries : List Query) (bases : List By) (i : ℕ) (old now : Passes) → ReadingAt queries bases i old now → length queries ≤ i → (made : List ShelfCalls) × AreGrounds policy asker effort queries bases made × MakesAll made old now
  reading_over queries bases i old now at le =
      (at.made, subst (λ (qs : List Query). AreGrounds policy asker effort qs bases at.made) (take_all i queries le) at.grounds, at.makes)

  -- ---- the judgement of the next query

  module _ (queries : List Query) (bases : List By) (i : ℕ) (old now new : Passes) (query : Query) (at : ReadingAt queries bases i old now) (there : slice_get queries i ≡ Some query) (it : Judgement)
      (told : (made : ShelfCalls) × Judges policy asker effort query made it × Makes made now new) where
    below : i < length queries
    below = slice_get_within queries i query there

    is : query ≡ get_or queries i query
    is = sym (get_or_from_slice_get queries i query query there)

    named : (other : Judgement) → it ≡ other → (made : ShelfCalls) × Judges policy asker effort query made other × Makes made now new
    named other e = subst (λ (z : Judgement). (made : ShelfCalls) × Judges policy asker effort query made z × Makes made now new) e told

    pub judged_allowed : (basis : By) → it ≡ judged.Allowed basis → (bases2 : List By) → bases2 ≡ bases ++ basis ∷ [] → ReadingAt queries bases2 (i + 1) old new
    judged_allowed basis e bases2 more = let (calls, judges, makes) = named (judged.Allowed basis) e in reading_more queries bases bases2 i old now new query basis calls at below is judges makes more

    -- and no memory to tell its ground
    pub judged_untold : (basis : By) → it ≡ judged.Allowed basis → (made : List ShelfCalls) × IsKeyInterrupted policy asker effort queries made × MakesAll made old new
    judged_untold basis e = reading_ends queries (bases ++ basis ∷ []) (i + 1) old new (judged_allowed basis e (bases ++ basis ∷ []) refl)

    pub judged_blocked : (reason : Why) → it ≡ judged.Blocked reason → (made : List ShelfCalls) × IsKeyBlocked policy asker effort queries bases reason made × MakesAll made old new
    judged_blocked reason e = let (calls, judges, makes) = named (judged.Blocked reason) e in reading_blocked queries bases i old now new query reason calls at below is judges makes

    pub judged_none : it ≡ judged.NoMemory → (made : List ShelfCalls) × IsKeyInterrupted policy asker effort queries made × MakesAll made old new
    judged_none e = let (calls, judges, makes) = named judged.NoMemory e in reading_interrupted queries bases i old now new query calls at below is judges makes

  -- ---- what lies behind a read that is let through

  one_answer : AnswerEverywhere → IsRequestOf policy asker → (query : Query) → IsCompliant policy asker query → HasOneAnswer policy asker query
  one_answer law is_asker query strong rows answer d alike =
      law policy asker.context asker.trace query asker.tables.rows d rows strong is_asker.conforms alike.conforms alike.agrees is_asker.recorded alike.records answer

  pub let_through : AnswerEverywhere → IsRequestOf policy asker → (queries : List Query) (bases : List By) (made : List ShelfCalls) → AreGrounds policy asker effort queries bases made → All (HasOneAnswer policy asker) queries
  let_through law is_asker [] bases made h = All-nil (HasOneAnswer policy asker)
  let_through law is_asker (q ∷ qs) [] made h = absurd h
  let_through law is_asker (q ∷ qs) (b ∷ bs) [] h = absurd h
  let_through law is_asker (q ∷ qs) (b ∷ bs) (m ∷ ms) h = All-cons (HasOneAnswer policy asker) q qs (one_answer law is_asker q h.0.1) (let_through law is_asker qs bs ms h.1)

  -- ---- where equations alone are used

  grounds_comply : (queries : List Query) (bases : List By) (made : List ShelfCalls) → AreGrounds policy asker effort queries bases made → All (IsCompliant policy asker) queries
  grounds_comply [] bases made h = All-nil (IsCompliant policy asker)
  grounds_comply (q ∷ qs) [] made h = absurd h
  grounds_comply (q ∷ qs) (b ∷ bs) [] h = absurd h
  grounds_comply (q ∷ qs) (b ∷ bs) (m ∷ ms) h = All-cons (IsCompliant policy asker) q qs h.0.1 (grounds_comply qs bs ms h.1)

  as_many : (queries : List Query) (bases : List By) (made : List ShelfCalls) → AreGrounds policy asker effort queries bases made → length queries ≡ length bases
  as_many [] [] made h = refl
  as_many [] (b ∷ bs) made h = absurd h
  as_many (q ∷ qs) [] made h = absurd h
  as_many (q ∷ qs) (b ∷ bs) [] h = absurd h
  as_many (q ∷ qs) (b ∷ bs) (m ∷ ms) h = ap suc (as_many qs bs ms h.1)

  -- what holds of all holds of the one in between
  in_between : (P : Query → Type 0) (front back : List Query) (query : Query) → All P (front ++ query ∷ back) → P query
  in_between P [] back query all = All-head P query back all
  in_between P (q ∷ front) back query all = in_between P front back query (All-tail P q (front ++ query ∷ back) all)

  says_rightly : (queries : List Query) (made : List ShelfCalls) (reply : KeyReply) → KeyReads policy asker effort queries made reply → All (IsQuestionOfEquations policy asker.trace) queries → SaysRightly policy asker queries reply
  says_rightly queries made (keys.Allowed its by) h equations = grounds_comply queries by made h.1
  says_rightly queries made (keys.Blocked its before (why.Refuted pair)) h equations = record {
    front = h.1.front;
    query = h.1.query;
    back = h.1.back;
    are = h.1.are;
    number = as_many h.1.front before h.1.earlier h.1.grounds;
    earlier = grounds_comply h.1.front before h.1.earlier h.1.grounds;
    fails = refutes policy asker.context asker.trace h.1.query pair h.1.denied.reason.refutes;
  }
  says_rightly queries made (keys.Blocked its before (why.Spent steps)) h equations = tt
  says_rightly queries made (keys.Blocked its before (why.Stuck leaf clause)) h equations =
      let all : All (IsQuestionOfEquations policy asker.trace) (h.1.front ++ h.1.query ∷ h.1.back) = subst (All (IsQuestionOfEquations policy asker.trace)) h.1.are equations in
      absurd (h.1.denied.reason.beyond_equations (in_between (IsQuestionOfEquations policy asker.trace) h.1.front h.1.back h.1.query all))
  says_rightly queries made keys.NoMemory h equations = tt

  pub read_rightly : (queries : List Query) (reply : KeyReply) (old new : Passes) → ((made : List ShelfCalls) × KeyReads policy asker effort queries made reply × MakesAll made old new) → IsReadRightly policy asker queries reply
  read_rightly queries reply old new (made, reads, makes) = record { exactly = says_rightly queries made reply reads }

  -- ---- of a read

  pub lets_through : AnswerEverywhere → IsRequestOf policy asker → (queries : List Query) (reply : KeyReply) (old new : Passes) → ((made : List ShelfCalls) × KeyReads policy asker effort queries made reply × MakesAll made old new)
      → LetsThrough policy asker reply
  lets_through law is_asker queries (keys.Allowed its by) old new (made, reads, makes) =
      subst (All (HasOneAnswer policy asker)) (sym reads.0) (let_through law is_asker queries by made reads.1)
  lets_through law is_asker queries (keys.Blocked its before reason) old new h = tt
  lets_through law is_asker queries keys.NoMemory old new h = tt

  -- the key's queries by another name
  pub reads_named : (seen queries : List Query) → seen ≡ queries → (reply : KeyReply) (old new : Passes) → ((made : List ShelfCalls) × KeyReads policy asker effort seen made reply × MakesAll made old new)
      → (made : List ShelfCalls) × KeyReads policy asker effort queries made reply × MakesAll made old new
  reads_named seen queries same reply old new h = subst (λ (qs : List Query). (made : List ShelfCalls) × KeyReads policy asker effort qs made reply × MakesAll made old new) same h

-- want of memory before any call
pub reads_nothing : (policy : Policy) (asker : Request) (effort : Effort) (queries : List Query) (passes : Passes) → (made : List ShelfCalls) × KeyReads policy asker effort queries made keys.NoMemory × MakesAll made passes passes
reads_nothing policy asker effort queries passes =
    ([], record { front = []; back = queries; are = refl; bases = []; earlier = []; grounds = tt; last = inl refl }, makes_all_none passes)

-- ---- the queries of a key

-- they may be asked
pub questions_fit : AnswersAreRecords → (policy : Policy) (asker : Request) (queries : List Query) → IsServable policy → IsRequestOf policy asker → All (IsQuery policy.schema (kinds_of policy.params) []) queries
    → All (QuestionFits policy asker.context asker.trace) queries
questions_fit law policy asker queries checked is_asker all =
    All-weaker (IsQuery policy.schema (kinds_of policy.params) []) (QuestionFits policy asker.context asker.trace) (λ query asked. question_fits law policy asker query checked is_asker asked) queries all

-- and there is room for their calls
pub room_for : (policy : Policy) (key : CacheKey) (arguments : Context) (queries : List Query) (passes : Passes) → queries ≡ key_queries policy key arguments → HasRoom (2 * length key.queries) passes → HasRoom (2 * length queries) passes
room_for policy key arguments queries passes are room =
    let long : length queries ≡ length key.queries = ap length are ∙ length-map key.queries (query_with (length policy.params) arguments.values) in
    subst (λ (n : ℕ). HasRoom (2 * n) passes) (sym long) room
