-- What follows for the judgement of a query, and for its reply.
use Rattle.std.proofs.Common.{◌≡◌, ◌∙◌, refl, sym, ap, subst, ℕ, suc, ◌+◌, ◌<◌, ◌≤◌, inl, inr, List, [], ◌∷◌, ◌++◌, length, take, drop, get_or, append-nil, add-one, drop-cons, Option, Some, None, Result, Ok, Err, IfOk, IfSome}
use Rattle.std.proofs.lemmas.List.{take_all, take_more, take-append-drop}
use Rattle.std.proofs.lemmas.List.Elements.{All-append, All-cons, All-contains_itself, All-head, All-nil, All-push, All-tail, All-weaker}
use Rattle.std.specs.List.{All, Contains}
use Rattle.std.specs.Prelude.{MatchOption, ◌↔◌}
use Rattle.std.specs.declared.alloc.AllocError.{AllocError}
use Rattle.ba_cache.specs.Passes.{CallsOn}
use Rattle.ba_cache.specs.Rows.{IsSound, kept}
use Rattle.ba_cache.specs.declared.call.Kept.{Kept}
use Rattle.ba_cache.specs.declared.call.ShelfCall.{ShelfCall}
use Rattle.ba_cache.specs.declared.call.ShelfCall.TheVariants.{Refused}
use Rattle.ba_comply.specs.Comply.{AnswerEverywhere}
use Rattle.ba_comply.specs.declared.trace.TraceEntry.{TraceEntry}
use Rattle.ba_direct.specs.Cover.{AlwaysStrong, Covered, IsCover}
use Rattle.ba_direct.specs.declared.covers.Cover.{Cover}
use Rattle.ba_general.specs.Generals.{IsOfQuestion}
use Rattle.ba_settle.proofs.SearchLemmas.{due_list}
use Rattle.ba_settle.proofs.SettledLemmas.{leaf_end, leaf_problem, proof_problem}
use Rattle.ba_settle.specs.Dues.{DueList, IsLeaf}
use Rattle.ba_settle.specs.Settling.{Effort, SettledAreLeaves, Settles}
use Rattle.ba_settle.specs.declared.ends.Leaf.{Leaf}
use Rattle.ba_settle.specs.declared.ends.Settled.{Settled}
use Rattle.ba_settle.specs.declared.ends.Settled.TheVariants as settled
use Rattle.ba_kernel.specs.Asked.{AnswersAreRecords, QuestionFits, RecordFits}
use Rattle.ba_kernel.specs.Problems.{ProblemIsQuestion, StrongAll}
use Rattle.ba_kernel.specs.SearchStates.{Proof}
use Rattle.ba_kernel.specs.declared.problem.Problem.{Problem}
use Rattle.ba_match.specs.Matching.{IsFirstMatch, IsFound}
use Rattle.ba_model.specs.Conform.{Conforms}
use Rattle.ba_model.specs.Fit.{ContextFits, IsQuery, kinds_of}
use Rattle.ba_model.specs.Meaning.{InAnswer, IsAnswer}
use Rattle.ba_model.specs.Readings.{Fails}
use Rattle.ba_model.specs.declared.failure.Failure.{Failure}
use Rattle.ba_model.specs.declared.failure.Failure.TheVariants as failures
use Rattle.ba_model.specs.declared.policy.Context.{Context}
use Rattle.ba_model.specs.declared.policy.Policy.{Policy}
use Rattle.ba_model.specs.declared.query.Query.{Query}
use Rattle.ba_model.specs.declared.value.RowSet.{RowSet}
use Rattle.ba_model.specs.declared.value.Value.{Value}
use Rattle.ba_refute.proofs.RefuteLemmas.{refutes}
use Rattle.ba_refute.specs.OfEquations.{IsQuestionOfEquations}
use Rattle.ba_refute.specs.Images.{IsImage}
use Rattle.ba_refute.specs.Refutals.{IsRefutal, IsRefutedBy, IsStuckAt}
use Rattle.ba_refute.specs.declared.clause.Clause.{Clause}
use Rattle.ba_refute.specs.declared.clause.Counterexample.{Counterexample}
use Rattle.ba_refute.specs.declared.refutal.Refutal.{Refutal}
use Rattle.ba_refute.specs.declared.refutal.Refutal.TheVariants as refutal
use Rattle.ba_session.specs.Asking.{HasFault, HasNoVerdict, IsRequestOf, IsServable, IsCompliant, IsFirstToMatch, IsGround, IsKept, IsNoMatch, IsReason, IsReleased, Judges, NoneMatches, Reads, Replies, Uncovered, answer_in, look_at, question}
use Rattle.ba_session.specs.Deciding.{Decides, IsAnswerTo, IsDecidedRightly}
use Rattle.ba_session.specs.Judging.{Answers, AnswersByProof, IsByProof, IsByTemplate, IsFoundBy, IsOtherGround, IsSearched, IsServing, IsShown, Says, Weighs, refusal_of}
use Rattle.ba_session.proofs.PassLemmas.{makes_more, makes_none, makes_one}
use Rattle.ba_session.specs.Passing.{LeavesVersions, Makes, ShelfCalls, on_shelf}
use Rattle.ba_session.specs.declared.service.Passes.{Passes}
use Rattle.ba_session.specs.declared.judge.Verdict.{Verdict}
use Rattle.ba_session.specs.declared.judge.Verdict.TheVariants.{Ground, Prove, Deny}
use Rattle.ba_session.specs.declared.reply.By.{By}
use Rattle.ba_session.specs.declared.reply.By.TheVariants as by
use Rattle.ba_session.specs.declared.reply.Judgement.TheVariants as judged
use Rattle.ba_session.specs.declared.reply.Reply.{Reply}
use Rattle.ba_session.specs.declared.reply.Reply.TheVariants.{Answer, Blocked, Unread, NoMemory}
use Rattle.ba_session.specs.declared.reply.Why.{Why}
use Rattle.ba_session.specs.declared.reply.Why.TheVariants as why
use Rattle.ba_session.specs.declared.request.Request.{Request}
use Rattle.ba_sql_query.specs.Texts.{query_of}
use Rattle.ba_sql_query.specs.declared.fault.ReadQueryFault.{ReadQueryFault}
use Rattle.ba_template.specs.Found.{MatchedIsStrong, Matches}
use Rattle.ba_template.specs.Shapes.{shape_of, shard_of}
use Rattle.ba_template.specs.declared.found.Match.{Match}

-- ---- what a saturated leaf shows

module _ (policy : Policy) (asker : Request) (query : Query) (leaf : Leaf) (is : leaf.problem ≡ question policy asker query) (it : Refutal)
    (tells : IsRefutal policy asker.context asker.trace query leaf it) where
  pub refuted : (pair : Counterexample) → it ≡ refutal.Pair pair → (effort : Effort) → Settles effort (question policy asker query) (settled.Saturated leaf) →
      IsReason policy asker effort query (why.Refuted pair)
  refuted pair e effort ends =
      let h : IsRefutedBy policy asker.context asker.trace query leaf pair = subst (IsRefutal policy asker.context asker.trace query leaf) e tells in
      record {
        leaf = leaf;
        saturated = ends;
        image_is = subst (λ p. IsImage p asker.context leaf.branch pair) is h.image_is;
        refutes = h.refutes;
      }

  pub stuck : (other : Leaf) (clause : Clause) → it ≡ refutal.Stuck other clause → (effort : Effort) → Settles effort (question policy asker query) (settled.Saturated leaf) →
      IsReason policy asker effort query (why.Stuck other clause)
  stuck other clause e effort ends =
      let h : IsStuckAt policy asker.context asker.trace query leaf other clause = subst (IsRefutal policy asker.context asker.trace query leaf) e tells in
      let (pick, end) = leaf_end effort (question policy asker query) leaf ends in
      let due = due_list pick (question policy asker query) leaf.steps end.slots end.searches in
      subst (λ z. IsReason policy asker effort query (why.Stuck z clause)) (sym h.same)
      (record {
        saturated = ends;
        image = h.image;
        image_is = subst (λ p. IsImage p asker.context leaf.branch h.image) is h.image_is;
        unmet = h.unmet;
        beyond_equations = h.beyond_equations pick end.slots (subst (λ p. DueList pick p leaf.steps end.slots) (sym is) due);
      })

-- of a policy and a query that other names have too
pub fits_seen : (policy seen : Policy) (asker : Request) (query seen_query : Query) → seen ≡ policy → seen_query ≡ query → QuestionFits policy asker.context asker.trace query →
    QuestionFits seen asker.context asker.trace seen_query
fits_seen policy seen asker query seen_query same same_query fits =
    subst (λ z. QuestionFits seen asker.context asker.trace z) (sym same_query) (subst (λ z. QuestionFits z asker.context asker.trace query) (sym same) fits)

pub problem_seen : (policy seen : Policy) (asker : Request) (query seen_query : Query) → seen ≡ policy → seen_query ≡ query → (p : Problem) → p ≡ question policy asker query →
    p ≡ question seen asker seen_query
problem_seen policy seen asker query seen_query same same_query p is =
    is ∙ sym (ap (λ z. question z asker query) same) ∙ sym (ap (λ z. question seen asker z) same_query)

pub refutal_seen : (policy seen : Policy) (asker : Request) (query seen_query : Query) → seen ≡ policy → seen_query ≡ query → (leaf : Leaf) (it : Refutal) →
    IsRefutal seen asker.context asker.trace seen_query leaf it → IsRefutal policy asker.context asker.trace query leaf it
refutal_seen policy seen asker query seen_query same same_query leaf it h =
    subst (λ z. IsRefutal policy asker.context asker.trace z leaf it) same_query (subst (λ z. IsRefutal z asker.context asker.trace seen_query leaf it) same h)

-- ---- how a search ends

module _ (policy : Policy) (asker : Request) (effort : Effort) (query : Query) (problem : Problem) (is : problem ≡ question policy asker query)
    (end : Settled) (ends : Settles effort problem end) where
  pub settles_at : (it : Settled) → end ≡ it → Settles effort (question policy asker query) it
  settles_at it e = subst (λ z. Settles effort (question policy asker query) z) e (subst (λ z. Settles effort z end) is ends)

  pub leaf_at : (leaf : Leaf) → end ≡ settled.Saturated leaf → SettledAreLeaves → IsLeaf leaf
  leaf_at leaf e law = law effort (question policy asker query) leaf (settles_at (settled.Saturated leaf) e)

  pub problem_at : (leaf : Leaf) → end ≡ settled.Saturated leaf → leaf.problem ≡ question policy asker query
  problem_at leaf e = leaf_problem effort (question policy asker query) leaf (settles_at (settled.Saturated leaf) e)

  pub proved_at : (proof : Proof) → end ≡ settled.Proved proof → ProblemIsQuestion → QuestionFits policy asker.context asker.trace query → StrongAll proof.problem →
      IsSearched policy asker effort query (Prove proof)
  proved_at proof e law fits strong =
      let it = settles_at (settled.Proved proof) e in
      (it, law policy asker.context asker.trace query fits.context (subst StrongAll (proof_problem effort (question policy asker query) proof it) strong))

-- ---- templates

-- the template that serves is sound
served_strong : MatchedIsStrong → (policy : Policy) (asker : Request) (query : Query) (found : List Kept) (id : ℕ) (template : Proof) (it : Match) → ContextFits (kinds_of policy.params) asker.context →
    All IsSound found → IsFirstToMatch policy asker query found id template it → IsCompliant policy asker query
served_strong law policy asker query found id template it fits sound first =
    let all : All IsSound (first.before ++ kept id template ∷ first.after) = subst (All IsSound) first.found_is sound in
    law template.problem policy asker.context asker.trace query it (sound_at first.before (kept id template) first.after all) fits first.first.is_match
  where
    sound_at : (before : List Kept) (it : Kept) (after : List Kept) → All IsSound (before ++ it ∷ after) → IsSound it
    sound_at [] it after h = All-head IsSound it after h
    sound_at (b ∷ before) it after h = sound_at before it after (All-tail IsSound b (before ++ it ∷ after) h)

module _ (law : MatchedIsStrong) (policy : Policy) (asker : Request) (effort : Effort) (query : Query) (fits : QuestionFits policy asker.context asker.trace query) (shard : ℕ) (found : List Kept)
    (sound : All IsSound found) (served : Option By) (serving : IsServing policy asker query shard found served) where
  by_template_strong : (basis : By) → IsByTemplate policy asker query shard found basis → IsCompliant policy asker query
  by_template_strong (by.Cover cover) h = absurd h
  by_template_strong (by.Template its id template it) (same, first) = served_strong law policy asker query found id template it fits.context sound first
  by_template_strong (by.Proof steps keeping) h = absurd h

  pub found_served : (basis : By) → served ≡ Some basis → IsFoundBy policy asker effort query shard found (Ground basis)
  found_served basis e =
      let h : IsByTemplate policy asker query shard found basis = subst (IsServing policy asker query shard found) e serving in
      (h, by_template_strong basis h)

  found_search : (verdict : Verdict) → served ≡ None → IsSearched policy asker effort query verdict → IsFoundBy policy asker effort query shard found verdict
  found_search (Ground basis) e h = absurd h
  found_search (Prove proof) e h = (subst (IsServing policy asker query shard found) e serving, h)
  found_search (Deny reason) e h = (subst (IsServing policy asker query shard found) e serving, h)

  pub found_result : {E : Type 0} → served ≡ None → (r : Result Verdict E) → IfOk r (IsSearched policy asker effort query) → IfOk r (IsFoundBy policy asker effort query shard found)
  found_result e (Ok verdict) h = found_search verdict e h
  found_result e (Err error) h = tt

-- ---- a request and its tables

records_fit : AnswersAreRecords → (policy : Policy) (c : Context) (d : RowSet) → Conforms policy.schema d → ContextFits (kinds_of policy.params) c →
    (trace : List TraceEntry) → All (λ entry. IsQuery policy.schema (kinds_of policy.params) [] entry.query) trace → All (λ entry. IsAnswer entry.query c d entry.rows) trace →
    All (RecordFits policy) trace
records_fit law policy c d conforms context [] queries answers = All-nil (RecordFits policy)
records_fit law policy c d conforms context (it ∷ trace) queries answers =
    let answer : IsAnswer it.query c d it.rows = All-head (λ entry. IsAnswer entry.query c d entry.rows) it trace answers in
    let rows : All (InAnswer it.query c d) it.rows =
    All-weaker (Contains it.rows) (InAnswer it.query c d) answer.sound it.rows (All-contains_itself it.rows) in
    All-cons (RecordFits policy) it trace
    (law policy c d it (All-head (λ entry. IsQuery policy.schema (kinds_of policy.params) [] entry.query) it trace queries) conforms context rows)
    (records_fit law policy c d conforms context trace (All-tail (λ entry. IsQuery policy.schema (kinds_of policy.params) [] entry.query) it trace queries)
    (All-tail (λ entry. IsAnswer entry.query c d entry.rows) it trace answers))

pub question_fits : AnswersAreRecords → (policy : Policy) (asker : Request) (query : Query) → IsServable policy → IsRequestOf policy asker →
    IsQuery policy.schema (kinds_of policy.params) [] query → QuestionFits policy asker.context asker.trace query
question_fits law policy asker query checked is_asker asked = record {
  tables = checked.tables;
  rules = checked.rules;
  policy_fits = checked.fits;
  context = is_asker.context;
  trace_fits = records_fit law policy asker.context asker.tables.rows is_asker.conforms is_asker.context asker.trace is_asker.queries is_asker.recorded.entries;
  asked = asked;
}

-- what is compliant, is released
released : AnswerEverywhere → (policy : Policy) (asker : Request) (query : Query) (rows : List (List Value)) → IsRequestOf policy asker → IsCompliant policy asker query →
    IsAnswer query asker.context asker.tables.rows rows → IsReleased policy asker query rows
released law policy asker query rows is_asker strong answer = record {
  answer = answer;
  everywhere = λ d alike.
      law policy asker.context asker.trace query asker.tables.rows d rows strong is_asker.conforms alike.conforms alike.agrees is_asker.recorded alike.records answer;
}

-- ---- judgements

-- a covered query is compliant
covered_strong : (policy : Policy) (asker : Request) (query : Query) → QuestionFits policy asker.context asker.trace query → (seen_policy : Policy) (seen_query : Query) → seen_policy ≡ policy → seen_query ≡ query →
    (found : Option Cover) (cover : Cover) → found ≡ Some cover → IfSome found (λ it. AlwaysStrong seen_policy asker.context seen_query) → IsCompliant policy asker query
covered_strong policy asker query fits seen_policy seen_query same_policy same_query found cover e h =
    let always : AlwaysStrong seen_policy asker.context seen_query = subst (λ z. IfSome z (λ it. AlwaysStrong seen_policy asker.context seen_query)) e h in
    let here : AlwaysStrong policy asker.context query = subst (λ z. AlwaysStrong policy asker.context z) same_query (subst (λ z. AlwaysStrong z asker.context seen_query) same_policy always) in
    here.after fits.policy_fits fits.context asker.trace

module _ (policy : Policy) (asker : Request) (effort : Effort) (query : Query) where
  -- what is said of the calls that take the passes from old to new
  abbrev pub Weighed : Result Verdict AllocError → Passes → Passes → Type 0
  Weighed r old new = (made : ShelfCalls) × Weighs policy asker effort query made r × Makes made old new

  -- what is found of a cover, with the policy and the query by other names
  pub weighs_cover : QuestionFits policy asker.context asker.trace query → (seen_policy : Policy) (seen_query : Query) → seen_policy ≡ policy → seen_query ≡ query →
      (found : Option Cover) (cover : Cover) → found ≡ Some cover →
      MatchOption found (Covered seen_policy asker.context seen_query → ⊥) (IsCover seen_policy asker.context seen_query) → IfSome found (λ it. AlwaysStrong seen_policy asker.context seen_query) →
      (passes : Passes) → Weighed (Ok (Ground (by.Cover cover))) passes passes
  weighs_cover fits seen_policy seen_query same_policy same_query found cover e h always passes =
      let is : IsCover seen_policy asker.context seen_query cover =
      subst (λ z. MatchOption z (Covered seen_policy asker.context seen_query → ⊥) (IsCover seen_policy asker.context seen_query)) e h in
      let there : IsCover policy asker.context query cover = subst (λ z. IsCover policy asker.context z cover) same_query (subst (λ z. IsCover z asker.context seen_query cover) same_policy is) in
      let strong = covered_strong policy asker query fits seen_policy seen_query same_policy same_query found cover e always in
      (on_shelf query [], ((there, refl), strong), makes_none (on_shelf query []) passes passes refl refl)

  -- want of memory, before any call
  pub weighs_nothing : (r : Result Verdict AllocError) (e : AllocError) → r ≡ Err e → (passes : Passes) → Weighed r passes passes
  weighs_nothing r e is passes = subst (λ z. Weighed z passes passes) (sym is) (on_shelf query [], inl refl, makes_none (on_shelf query []) passes passes refl refl)

  -- or where the look was refused
  pub weighs_refused : Uncovered policy asker query → (r : Result Verdict AllocError) (e : AllocError) → r ≡ Err e → (old new : Passes) → LeavesVersions old new →
      CallsOn (shard_of (shape_of [] query)) old.cache new.cache Refused → Weighed r old new
  weighs_refused uncovered r e is old new versions call = subst (λ z. Weighed z old new) (sym is) (
    on_shelf query (Refused ∷ []),
    inr (record { uncovered = uncovered; calls = Refused ∷ []; look = inl refl; made_is = refl }),
    makes_one (shard_of (shape_of [] query)) Refused old new versions call,
  )

  -- after a look
  weighs_found : Uncovered policy asker query → (found : List Kept) (shard : ℕ) → shard ≡ shard_of (shape_of [] query) → (r : Result Verdict AllocError) → IfOk r (IsFoundBy policy asker effort query shard found) →
      Weighs policy asker effort query (on_shelf query (look_at query found ∷ [])) r
  weighs_found uncovered found shard shard_is (Ok (Ground (by.Cover cover))) (h, strong) = absurd h
  weighs_found uncovered found shard shard_is (Ok (Ground (by.Template its id template it))) ((same, first), strong) =
      (record { uncovered = uncovered; found = found; first = first; shard_is = same ∙ shard_is; made_is = refl }, strong)
  weighs_found uncovered found shard shard_is (Ok (Ground (by.Proof steps keeping))) (h, strong) = absurd h
  weighs_found uncovered found shard shard_is (Ok (Prove proof)) (none, (ends, strong)) =
      record { uncovered = uncovered; found = found; none = none; proved = ends; compliant = strong; made_is = refl }
  weighs_found uncovered found shard shard_is (Ok (Deny reason)) (none, is_reason) = record { uncovered = uncovered; found = found; none = none; reason = is_reason; made_is = refl }
  weighs_found uncovered found shard shard_is (Err error) h = inr (record { uncovered = uncovered; calls = look_at query found ∷ []; look = inr (found, refl); made_is = refl })

  pub weighs_looked : Uncovered policy asker query → (found seen : List Kept) → seen ≡ found → (shard : ℕ) → shard ≡ shard_of (shape_of [] query) → (r : Result Verdict AllocError) →
      IfOk r (IsFoundBy policy asker effort query shard seen) → (old new : Passes) → LeavesVersions old new → CallsOn (shard_of (shape_of [] query)) old.cache new.cache (look_at query found) → Weighed r old new
  weighs_looked uncovered found seen same shard shard_is r h old new versions call = (
    on_shelf query (look_at query found ∷ []),
    weighs_found uncovered found shard shard_is r (subst (λ z. IfOk r (IsFoundBy policy asker effort query shard z)) same h),
    makes_one (shard_of (shape_of [] query)) (look_at query found) old new versions call,
  )

  -- of a verdict by another name
  pub weighed_as : (seen it : Verdict) → seen ≡ it → (old new : Passes) → Weighed (Ok seen) old new → Weighed (Ok it) old new
  weighed_as seen it is old new h = subst (λ z. Weighed (Ok z) old new) is h

  -- ---- a proof, whose template is then kept

  -- its problem is the question's
  pub shown_problem : (proof : Proof) (old new : Passes) → Weighed (Ok (Prove proof)) old new → proof.problem ≡ question policy asker query
  shown_problem proof old new (made, shown, makes) = proof_problem effort (question policy asker query) proof shown.proved

  pub shown_of_question : QuestionFits policy asker.context asker.trace query → (proof : Proof) (old new : Passes) → Weighed (Ok (Prove proof)) old new → IsOfQuestion proof.problem
  shown_of_question fits proof old new h =
      subst IsOfQuestion (sym (shown_problem proof old new h)) (record { context = asker.context; trace = asker.trace; fits = fits; is = refl })

  pub shown_goal : (proof : Proof) (old new : Passes) → Weighed (Ok (Prove proof)) old new → proof.problem.goal ≡ query
  shown_goal proof old new h = ap (λ (p : Problem). p.goal) (shown_problem proof old new h)

  -- the ground that it is
  ground_shown : (proof : Proof) (made : ShelfCalls) → (shown : IsShown policy asker effort query proof made) → (calls : List ShelfCall) (basis : By) → IsByProof proof calls basis →
      IsGround policy asker effort query basis (on_shelf query (look_at query shown.found ∷ calls))
  ground_shown proof made shown calls (by.Cover cover) h = absurd h
  ground_shown proof made shown calls (by.Template shard id template it) h = absurd h
  ground_shown proof made shown calls (by.Proof taken keeping) (same, kept_is) =
      let here : proof ≡ record { problem = question policy asker query; steps = taken } =
      λ i. record { problem = proof_problem effort (question policy asker query) proof shown.proved i; steps = sym same i } in
      record {
        uncovered = shown.uncovered;
        found = shown.found;
        none = shown.none;
        proof = subst (λ (z : Proof). Settles effort (question policy asker query) (settled.Proved z)) here shown.proved;
        rest = calls;
        kept_is = subst (λ (z : Proof). IsKept z keeping calls) here kept_is;
        made_is = refl;
      }

  -- the look and what the kept template took
  both_made : (proof : Proof) (made : ShelfCalls) → (shown : IsShown policy asker effort query proof made) → (calls : List ShelfCall) (old between new : Passes) → Makes made old between →
      Makes (on_shelf query calls) between new → Makes (on_shelf query (look_at query shown.found ∷ calls)) old new
  both_made proof made shown calls old between new first more =
      makes_more (shard_of (shape_of [] query)) (look_at query shown.found ∷ []) calls old between new (subst (λ z. Makes z old between) shown.made_is first) more

  pub judges_proved : (proof : Proof) (old between : Passes) → Weighed (Ok (Prove proof)) old between → (basis : By) (new : Passes) →
      ((calls : List ShelfCall) × IsByProof proof calls basis × Makes (on_shelf proof.problem.goal calls) between new) →
      (made : ShelfCalls) × Judges policy asker effort query made (judged.Allowed basis) × Makes made old new
  judges_proved proof old between (made, shown, makes) basis new (calls, told, more) = (
    on_shelf query (look_at query shown.found ∷ calls),
    (ground_shown proof made shown calls basis told, shown.compliant),
    both_made proof made shown calls old between new makes (subst (λ (p : Problem). Makes (on_shelf p.goal calls) between new) (proof_problem effort (question policy asker query) proof shown.proved) more),
  )

  -- ---- other grounds

  other_ground : (basis : By) (made : ShelfCalls) → IsOtherGround policy asker query basis made → IsGround policy asker effort query basis made
  other_ground (by.Cover cover) made h = h
  other_ground (by.Template shard id template it) made h = h
  other_ground (by.Proof steps keeping) made h = absurd h

  pub judges_other : (basis : By) (old new : Passes) → Weighed (Ok (Ground basis)) old new → (made : ShelfCalls) × Judges policy asker effort query made (judged.Allowed basis) × Makes made old new
  judges_other basis old new (made, (ground, strong), makes) = (made, (other_ground basis made ground, strong), makes)

  -- it leaves a look at most
  other_left : (basis : By) (made : ShelfCalls) → IsOtherGround policy asker query basis made → HasNoVerdict policy asker query made
  other_left (by.Cover cover) made h = inl h.1
  other_left (by.Template shard id template it) made h = inr (record { uncovered = h.uncovered; calls = look_at query h.found ∷ []; look = inr (h.found, refl); made_is = h.made_is })
  other_left (by.Proof steps keeping) made h = absurd h

-- ---- replies

module _ (policy : Policy) (asker : Request) (effort : Effort) (query : Query) where
  -- a query's answer, by a cover or a template
  says_other : AnswerEverywhere → IsRequestOf policy asker → (basis : By) (made : ShelfCalls) → IsOtherGround policy asker query basis made → IsCompliant policy asker query → (reply : Reply) →
      Answers asker query basis reply → Says policy asker effort query made reply
  says_other law is_asker basis made ground strong (Answer other rows it) (told, same) =
      (told.same, subst (λ z. IsGround policy asker effort query z made) (sym same) (other_ground policy asker effort query basis made ground), strong, released law policy asker query rows is_asker strong told.answer)
  says_other law is_asker basis made ground strong (Blocked other reason) h = absurd h
  says_other law is_asker basis made ground strong (Unread fault) h = absurd h
  says_other law is_asker basis made ground strong NoMemory h = other_left policy asker effort query basis made ground

  pub says_answer : AnswerEverywhere → IsRequestOf policy asker → (basis : By) (old new : Passes) → Weighed policy asker effort query (Ok (Ground basis)) old new → (reply : Reply) →
      Answers asker query basis reply → (made : ShelfCalls) × Says policy asker effort query made reply × Makes made old new
  says_answer law is_asker basis old new (made, (ground, strong), makes) reply answers = (made, says_other law is_asker basis made ground strong reply answers, makes)

  -- by a proof
  says_proof : AnswerEverywhere → IsRequestOf policy asker → (proof : Proof) (made : ShelfCalls) → (shown : IsShown policy asker effort query proof made) → (calls : List ShelfCall) (reply : Reply) →
      AnswersByProof asker query proof calls reply → Says policy asker effort query (on_shelf query (look_at query shown.found ∷ calls)) reply
  says_proof law is_asker proof made shown calls (Answer other rows basis) (told, by_proof) =
      (told.same, ground_shown policy asker effort query proof made shown calls basis by_proof, shown.compliant, released law policy asker query rows is_asker shown.compliant told.answer)
  says_proof law is_asker proof made shown calls (Blocked other reason) h = absurd h
  says_proof law is_asker proof made shown calls (Unread fault) h = absurd h
  says_proof law is_asker proof made shown calls NoMemory none = inr (record {
    uncovered = shown.uncovered;
    calls = look_at query shown.found ∷ [];
    look = inr (shown.found, refl);
    made_is = ap (λ z. on_shelf query (look_at query shown.found ∷ z)) none;
  })

  pub says_proved : AnswerEverywhere → IsRequestOf policy asker → (proof : Proof) (old between : Passes) → Weighed policy asker effort query (Ok (Prove proof)) old between → (reply : Reply) (new : Passes) →
      ((calls : List ShelfCall) × AnswersByProof asker query proof calls reply × Makes (on_shelf query calls) between new) → (made : ShelfCalls) × Says policy asker effort query made reply × Makes made old new
  says_proved law is_asker proof old between (made, shown, makes) reply new (calls, answers, more) = (
    on_shelf query (look_at query shown.found ∷ calls),
    says_proof law is_asker proof made shown calls reply answers,
    both_made policy asker effort query proof made shown calls old between new makes more,
  )

  -- and its block
  pub says_denied : (reason : Why) (old new : Passes) → Weighed policy asker effort query (Ok (Deny reason)) old new →
      (made : ShelfCalls) × Says policy asker effort query made (Blocked query reason) × Makes made old new
  says_denied reason old new (made, denied, makes) = (made, (refl, denied), makes)

  -- of a text that was read
  replies_said : (text : List ℕ) → Reads policy text query → (made : ShelfCalls) (reply : Reply) → Says policy asker effort query made reply → Replies policy asker effort text made reply
  replies_said text reads made (Answer other rows ground) (same, is_ground, strong, is_released) =
      subst (λ z. Replies policy asker effort text made (Answer z rows ground)) (sym same) (record { reads = reads; ground = is_ground; compliant = strong; released = is_released })
  replies_said text reads made (Blocked other reason) (same, denied) =
      subst (λ z. Replies policy asker effort text made (Blocked z reason)) (sym same) (record { reads = reads; denied = denied })
  replies_said text reads made (Unread fault) h = absurd h
  replies_said text reads made NoMemory (inl none) = inl none
  replies_said text reads made NoMemory (inr left) = inr (query, reads, left)

  pub replies_made : (text : List ℕ) → Reads policy text query → (reply : Reply) (old new : Passes) → ((made : ShelfCalls) × Says policy asker effort query made reply × Makes made old new) →
      (made : ShelfCalls) × Replies policy asker effort text made reply × Makes made old new
  replies_made text reads reply old new (made, says, makes) = (made, replies_said text reads made reply says, makes)

-- of a text that wasn't read
pub refused_made : (seen policy : Policy) → seen ≡ policy → (asker : Request) (effort : Effort) (text : List ℕ) (failure : Failure ReadQueryFault) (reply : Reply) → reply ≡ refusal_of failure →
    Fails failure (query_of seen.schema seen.params text) → (passes : Passes) → (made : ShelfCalls) × Replies policy asker effort text made reply × Makes made passes passes
refused_made seen policy same asker effort text failures.NoMemory reply is h passes = (
  record { shard = 0; calls = [] },
  subst (Replies policy asker effort text (record { shard = 0; calls = [] })) (sym is) (inl refl),
  makes_none (record { shard = 0; calls = [] }) passes passes refl refl,
)
refused_made seen policy same asker effort text (failures.Fault fault) reply is h passes = (
  record { shard = 0; calls = [] },
  subst (Replies policy asker effort text (record { shard = 0; calls = [] })) (sym is) (subst (λ z. HasFault z text fault) same h, refl),
  makes_none (record { shard = 0; calls = [] }) passes passes refl refl,
)

refused_adds : (failure : Failure ReadQueryFault) → answer_in (refusal_of failure) ≡ []
refused_adds failures.NoMemory = refl
refused_adds (failures.Fault fault) = refl

pub refused_same : (failure : Failure ReadQueryFault) (reply : Reply) (asker : Request) → reply ≡ refusal_of failure → asker ≡ record asker { trace = asker.trace ++ answer_in reply }
refused_same failure reply asker is = λ i. record asker { trace = sym (ap (λ z. asker.trace ++ answer_in z) is ∙ ap (λ z. asker.trace ++ z) (refused_adds failure) ∙ append-nil asker.trace) i }

-- ---- where equations alone are used

-- a reply that decides a question decides it rightly
module _ (policy : Policy) (asker : Request) (effort : Effort) (text : List ℕ) (made : ShelfCalls) where
  exactly : (reply : Reply) → Replies policy asker effort text made reply → (query : Query) → IsQuestionOfEquations policy asker.trace query → Decides query reply →
      (IsAnswerTo query reply ↔ IsCompliant policy asker query)
  exactly (Answer other rows ground) h query equations same = (λ answered. subst (IsCompliant policy asker) same h.compliant, λ strong. same)
  exactly (Blocked other (why.Refuted pair)) h query equations same = (
    λ answered. absurd answered,
    λ strong. refutes policy asker.context asker.trace other pair h.denied.reason.refutes (subst (IsCompliant policy asker) (sym same) strong),
  )
  exactly (Blocked other (why.Spent steps)) h query equations decides = absurd decides
  exactly (Blocked other (why.Stuck leaf clause)) h query equations same = absurd (h.denied.reason.beyond_equations (subst (IsQuestionOfEquations policy asker.trace) (sym same) equations))
  exactly (Unread fault) h query equations decides = absurd decides
  exactly NoMemory h query equations decides = absurd decides

  pub rightly : (reply : Reply) → Replies policy asker effort text made reply → IsDecidedRightly policy asker reply
  rightly reply h = record { exactly = exactly reply h }

pub rightly_made : (policy : Policy) (asker : Request) (effort : Effort) (text : List ℕ) (reply : Reply) (old new : Passes) →
    ((made : ShelfCalls) × Replies policy asker effort text made reply × Makes made old new) → IsDecidedRightly policy asker reply
rightly_made policy asker effort text reply old new (made, replies, makes) = rightly policy asker effort text made reply replies

-- ---- the request after a reply

module _ (policy : Policy) (old : Request) (is : IsRequestOf policy old) where
  abbrev HasQuery : TraceEntry → Type 0
  HasQuery entry = IsQuery policy.schema (kinds_of policy.params) [] entry.query

  asks_more : (more : List TraceEntry) → All HasQuery more → All (λ entry. IsAnswer entry.query old.context old.tables.rows entry.rows) more →
      IsRequestOf policy (record old { trace = old.trace ++ more })
  asks_more more queries answers = record {
    context = is.context;
    schema = is.schema;
    conforms = is.conforms;
    queries = All-append HasQuery old.trace more is.queries queries;
    recorded = record { entries = All-append (λ entry. IsAnswer entry.query old.context old.tables.rows entry.rows) old.trace more is.recorded.entries answers };
  }

  pub asks_same : IsRequestOf policy (record old { trace = old.trace ++ [] })
  asks_same = asks_more [] (All-nil HasQuery) (All-nil (λ entry. IsAnswer entry.query old.context old.tables.rows entry.rows))

  asks_on : (effort : Effort) (query : Query) (made : ShelfCalls) (reply : Reply) → IsQuery policy.schema (kinds_of policy.params) [] query → Says policy old effort query made reply →
      IsRequestOf policy (record old { trace = old.trace ++ answer_in reply })
  asks_on effort query made (Answer other rows ground) asked (same, is_ground, strong, is_released) =
      let entry : TraceEntry = record { query = other; rows = rows } in
      asks_more (entry ∷ [])
      (All-cons HasQuery entry [] (subst (IsQuery policy.schema (kinds_of policy.params) []) (sym same) asked) (All-nil HasQuery))
      (All-cons (λ entry. IsAnswer entry.query old.context old.tables.rows entry.rows) entry []
      (subst (λ z. IsAnswer z old.context old.tables.rows rows) (sym same) is_released.answer)
      (All-nil (λ entry. IsAnswer entry.query old.context old.tables.rows entry.rows)))
  asks_on effort query made (Blocked other reason) asked h = asks_same
  asks_on effort query made (Unread fault) asked h = asks_same
  asks_on effort query made NoMemory asked h = asks_same

  pub asks_after : (effort : Effort) (query : Query) (reply : Reply) (old_passes new_passes : Passes) (new : Request) → IsQuery policy.schema (kinds_of policy.params) [] query →
      ((made : ShelfCalls) × Says policy old effort query made reply × Makes made old_passes new_passes) → new ≡ record old { trace = old.trace ++ answer_in reply } → IsRequestOf policy new
  asks_after effort query reply old_passes new_passes new asked (made, says, makes) same = subst (IsRequestOf policy) (sym same) (asks_on effort query made reply asked says)

-- ---- templates, one by one

-- what is found of a template, which another name has too
module _ (policy : Policy) (asker : Request) (query : Query) (seen t : Proof) (same : seen ≡ t) (found : Option Match) (is_found : IsFound seen.problem policy asker.context asker.trace query found) where
  pub found_first : (it : Match) → found ≡ Some it → IsFirstMatch t.problem policy asker.context asker.trace query it
  found_first it e =
      subst (λ (z : Proof). IsFirstMatch z.problem policy asker.context asker.trace query it) same
      (subst (IsFound seen.problem policy asker.context asker.trace query) e is_found)

  pub found_none : found ≡ None → ¬ (Matches t.problem policy asker.context asker.trace query)
  found_none e =
      subst (λ (z : Proof). ¬ (Matches z.problem policy asker.context asker.trace query)) same
      (subst (IsFound seen.problem policy asker.context asker.trace query) e is_found)

split_at : (found : List Kept) (i : ℕ) (it : Kept) → i < length found → it ≡ get_or found i it → found ≡ take i found ++ it ∷ drop (i + 1) found
split_at found i it below is =
    sym (take-append-drop i found) ∙ ap (λ z. take i found ++ z) (drop-cons found i it below ∙ ap (λ z. z ∷ drop (suc i) found) (sym is) ∙ ap (λ z. it ∷ drop z found) (sym (add-one i)))

module _ (policy : Policy) (asker : Request) (query : Query) (found : List Kept) (i : ℕ) (it : Kept) (below : i < length found) (is : it ≡ get_or found i it)
    (none : NoneMatches policy asker query (take i found)) where
  pub first_here : (template : Proof) → template ≡ it.template → (m : Match) → IsFirstMatch it.template.problem policy asker.context asker.trace query m →
      IsFirstToMatch policy asker query found it.id template m
  first_here template same m first = subst (λ z. IsFirstToMatch policy asker query found it.id z m) (sym same) (record {
    before = take i found;
    after = drop (i + 1) found;
    found_is = split_at found i it below is;
    none_before = none;
    first = first;
  })

  pub none_here : IsNoMatch policy asker query it → NoneMatches policy asker query (take (i + 1) found)
  none_here fails =
      subst (NoneMatches policy asker query) (sym (take_more found i it below ∙ ap (λ z. take i found ++ z ∷ []) (sym is))) (All-push (IsNoMatch policy asker query) (take i found) it none fails)

pub none_at_all : (policy : Policy) (asker : Request) (query : Query) (found : List Kept) (i : ℕ) → length found ≤ i → NoneMatches policy asker query (take i found) → NoneMatches policy asker query found
none_at_all policy asker query found i past none = subst (NoneMatches policy asker query) (take_all i found past) none
