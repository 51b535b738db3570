-- What follows for the judgement of a question.
use Rattle.std.proofs.Common.{◌≡◌, ◌∙◌, refl, sym, ap, subst, ℕ, suc, ◌+◌, ◌<◌, ◌≤◌, List, [], ◌∷◌, ◌++◌, length, take, drop, get_or, add-one, drop-cons, Option, Some, None, IfSome}
use Rattle.std.proofs.lemmas.List.{take_all, take_more, take-append-drop}
use Rattle.std.proofs.lemmas.List.Elements.{All-push}
use Rattle.std.specs.Prelude.{MatchOption}
use Rattle.ba_contradict.specs.Contradictions.{Contradicted, ToldFits}
use Rattle.ba_direct.specs.Cover.{AlwaysStrong, Covered, IsCover}
use Rattle.ba_direct.specs.declared.covers.Cover.{Cover}
use Rattle.ba_general.specs.Generals.{IsOfQuestion}
use Rattle.ba_settle.proofs.SearchLemmas.{due_list}
use Rattle.ba_settle.proofs.SettledLemmas.{leaf_end, leaf_problem, proof_problem}
use Rattle.ba_settle.specs.Dues.{DueList, IsLeaf}
use Rattle.ba_settle.specs.Settling.{Effort, SettledAreLeaves, Settles}
use Rattle.ba_settle.specs.declared.ends.Leaf.{Leaf}
use Rattle.ba_settle.specs.declared.ends.Settled.{Settled}
use Rattle.ba_settle.specs.declared.ends.Settled.TheVariants as settled
use Rattle.ba_kernel.specs.Asked.{QuestionFits}
use Rattle.ba_kernel.specs.Problems.{ProblemIsQuestion, StrongAll}
use Rattle.ba_kernel.specs.SearchStates.{Proof}
use Rattle.ba_kernel.specs.declared.problem.Problem.{Problem}
use Rattle.ba_kernel.specs.declared.step.Step.{Step}
use Rattle.ba_match.specs.Matching.{IsFound}
use Rattle.ba_model.specs.Fit.{ContextFits, kinds_of}
use Rattle.ba_model.specs.declared.policy.Policy.{Policy}
use Rattle.ba_model.specs.declared.query.Query.{Query}
use Rattle.ba_refute.specs.Images.{IsImage}
use Rattle.ba_refute.specs.Refutals.{IsRefutal, IsRefutedBy, IsStuckAt}
use Rattle.ba_refute.specs.declared.clause.Clause.{Clause}
use Rattle.ba_refute.specs.declared.clause.Counterexample.{Counterexample}
use Rattle.ba_refute.specs.declared.refutal.Refutal.{Refutal}
use Rattle.ba_refute.specs.declared.refutal.Refutal.TheVariants as refutal
use Rattle.ba_judge.specs.Judging.{Asked, Concludes, HasBlockedPart, IsAllowedBy, IsFirstToServe, IsGround, IsReason, IsServedBy, IsServing, IsStrong, LooksAtParts, LooksAtWhole, NoneServes, RestOnTruth, ServesAlone, ServesFirst, TakesFirst, Uncovered, question_of}
use Rattle.ba_judge.specs.Shelves.{Learns, standing_for}
use Rattle.ba_judge.specs.declared.shelves.Shelves.{Shelves}
use Rattle.ba_judge.specs.declared.verdict.Judgement.{Judgement}
use Rattle.ba_judge.specs.declared.verdict.Judgement.TheVariants as judged
use Rattle.ba_judge.specs.declared.verdict.Reason.{Reason}
use Rattle.ba_judge.specs.declared.whole.Finding.{Finding}
use Rattle.ba_judge.specs.declared.whole.Finding.TheVariants.{Allow, Deny}
use Rattle.ba_judge.specs.declared.verdict.Allowed.TheVariants.{Whole}
use Rattle.ba_judge.specs.declared.verdict.By.{By}
use Rattle.ba_judge.specs.declared.verdict.By.TheVariants as by
use Rattle.ba_judge.specs.declared.verdict.Reason.TheVariants as why
use Rattle.ba_template.specs.Found.{MatchedIsStrong}
use Rattle.ba_template.specs.declared.found.Match.{Match}

-- ---- what a saturated leaf shows

module _ (asked : Asked) (leaf : Leaf) (is : leaf.problem ≡ question_of asked) (it : Refutal)
    (tells : IsRefutal asked.policy asked.context asked.trace asked.query leaf it) where
  pub refuted : (pair : Counterexample) → it ≡ refutal.Pair pair → (effort : Effort) → Settles effort (question_of asked) (settled.Saturated leaf) → IsReason asked effort (why.Refuted pair)
  refuted pair e effort ends =
      let h : IsRefutedBy asked.policy asked.context asked.trace asked.query leaf pair = subst (IsRefutal asked.policy asked.context asked.trace asked.query leaf) e tells in
      record {
        leaf = leaf;
        saturated = ends;
        image_is = subst (λ p. IsImage p asked.context leaf.branch pair) is h.image_is;
        refutes = h.refutes;
      }

  pub stuck : (other : Leaf) (clause : Clause) → it ≡ refutal.Stuck other clause → (effort : Effort) → Settles effort (question_of asked) (settled.Saturated leaf) → IsReason asked effort (why.Stuck other clause)
  stuck other clause e effort ends =
      let h : IsStuckAt asked.policy asked.context asked.trace asked.query leaf other clause = subst (IsRefutal asked.policy asked.context asked.trace asked.query leaf) e tells in
      let (pick, end) = leaf_end effort (question_of asked) leaf ends in
      let due = due_list pick (question_of asked) leaf.steps end.slots end.searches in
      subst (λ z. IsReason asked effort (why.Stuck z clause)) (sym h.same)
      (record {
        saturated = ends;
        image = h.image;
        image_is = subst (λ p. IsImage p asked.context leaf.branch h.image) is h.image_is;
        unmet = h.unmet;
        beyond_equations = h.beyond_equations pick end.slots (subst (λ p. DueList pick p leaf.steps end.slots) (sym is) due);
      })

-- of a policy and a query that other names have too
abbrev pub named : Asked → Policy → Query → Asked
named asked policy query = record { policy = policy; context = asked.context; trace = asked.trace; query = query }

pub fits_seen : (asked : Asked) (policy : Policy) (query : Query) → policy ≡ asked.policy → query ≡ asked.query → QuestionFits asked.policy asked.context asked.trace asked.query →
    QuestionFits policy asked.context asked.trace query
fits_seen asked policy query same same_query fits =
    subst (λ z. QuestionFits policy asked.context asked.trace z) (sym same_query) (subst (λ z. QuestionFits z asked.context asked.trace asked.query) (sym same) fits)

pub problem_seen : (asked : Asked) (policy : Policy) (query : Query) → policy ≡ asked.policy → query ≡ asked.query → (p : Problem) → p ≡ question_of asked → p ≡ question_of (named asked policy query)
problem_seen asked policy query same same_query p is =
    is ∙ sym (ap (λ z. question_of (named asked z asked.query)) same) ∙ sym (ap (λ z. question_of (named asked policy z)) same_query)

pub refutal_seen : (asked : Asked) (policy : Policy) (query : Query) → policy ≡ asked.policy → query ≡ asked.query → (leaf : Leaf) (it : Refutal) →
    IsRefutal policy asked.context asked.trace query leaf it → IsRefutal asked.policy asked.context asked.trace asked.query leaf it
refutal_seen asked policy query same same_query leaf it h =
    subst (λ z. IsRefutal asked.policy asked.context asked.trace z leaf it) same_query (subst (λ z. IsRefutal z asked.context asked.trace query leaf it) same h)

-- ---- how a search ends

module _ (asked : Asked) (effort : Effort) (problem : Problem) (is : problem ≡ question_of asked) (end : Settled) (ends : Settles effort problem end) where
  pub settles_at : (it : Settled) → end ≡ it → Settles effort (question_of asked) it
  settles_at it e = subst (λ z. Settles effort (question_of asked) z) e (subst (λ z. Settles effort z end) is ends)

  pub leaf_at : (leaf : Leaf) → end ≡ settled.Saturated leaf → SettledAreLeaves → IsLeaf leaf
  leaf_at leaf e law = law effort (question_of asked) leaf (settles_at (settled.Saturated leaf) e)

  pub problem_at : (leaf : Leaf) → end ≡ settled.Saturated leaf → leaf.problem ≡ question_of asked
  problem_at leaf e = leaf_problem effort (question_of asked) leaf (settles_at (settled.Saturated leaf) e)

-- ---- what a proof is worth

module _ (asked : Asked) (effort : Effort) (proof : Proof) (ends : Settles effort (question_of asked) (settled.Proved proof)) where
  pub proved_of_question : QuestionFits asked.policy asked.context asked.trace asked.query → IsOfQuestion proof.problem
  proved_of_question fits =
      subst IsOfQuestion (sym (proof_problem effort (question_of asked) proof ends))
      (record { context = asked.context; trace = asked.trace; fits = fits; is = refl })

  -- a proof allows its question, where it rests on no contradiction
  pub proved_at : (ground : By) → ground ≡ by.Proof proof.steps → ProblemIsQuestion → QuestionFits asked.policy asked.context asked.trace asked.query → Uncovered asked → RestOnTruth asked effort proof.steps → StrongAll proof.problem →
      Concludes asked effort (Allow ground)
  proved_at ground ground_is law fits bare stays_open strong =
      let same = proof_problem effort (question_of asked) proof ends in
      let here : proof ≡ record { problem = question_of asked; steps = proof.steps } = λ i. record { problem = same i; steps = proof.steps } in
      let proves : IsGround asked effort (by.Proof proof.steps) = (bare, subst (λ (z : Proof). Settles effort (question_of asked) (settled.Proved z)) here ends, stays_open) in
      record {
        ground = subst (IsGround asked effort) (sym ground_is) proves;
        strong = law asked.policy asked.context asked.trace asked.query fits.context (subst StrongAll same strong);
      }

-- what was told fits where the question does
pub told_fits : (asked : Asked) → QuestionFits asked.policy asked.context asked.trace asked.query → ToldFits asked.policy asked.context asked.trace
told_fits asked fits = record { tables = fits.tables; rules = fits.rules; policy_fits = fits.policy_fits; context = fits.context; trace_fits = fits.trace_fits }

-- what a search over the told rows alone shows
module _ (asked : Asked) (effort : Effort) (proof : List Step) (found : Option (List Step)) (shows : MatchOption found (RestOnTruth asked effort proof) (Contradicted asked.policy asked.context asked.trace effort)) where
  pub rests_on_truth : found ≡ None → RestOnTruth asked effort proof
  rests_on_truth e = subst (λ (z : Option (List Step)). MatchOption z (RestOnTruth asked effort proof) (Contradicted asked.policy asked.context asked.trace effort)) e shows

  pub contradicts : (steps : List Step) → found ≡ Some steps → Uncovered asked → Concludes asked effort (Deny (why.Contradiction steps))
  contradicts steps e bare = record {
    uncovered = bare;
    reason_is = subst (λ (z : Option (List Step)). MatchOption z (RestOnTruth asked effort proof) (Contradicted asked.policy asked.context asked.trace effort)) e shows;
  }

-- ---- templates

-- the template that serves is sound
served_strong : MatchedIsStrong → (asked : Asked) (found : List Proof) (template : Proof) (it : Match) → ContextFits (kinds_of asked.policy.params) asked.context → IsFirstToServe asked found template it → IsStrong asked
served_strong law asked found template it fits first = law template.problem asked.policy asked.context asked.trace asked.query it first.sound fits first.first.is_match

pub served : MatchedIsStrong → (asked : Asked) (effort : Effort) (found : List Proof) → ContextFits (kinds_of asked.policy.params) asked.context → Uncovered asked → (answer : Option By) → IsServing asked found answer →
    (ground : By) → answer ≡ Some ground → IsAllowedBy asked effort ground
served law asked effort found fits bare answer serving ground e = by_case ground (subst (IsServing asked found) e serving)
  where
    by_case : (ground : By) → IsServing asked found (Some ground) → IsAllowedBy asked effort ground
    by_case (by.Cover cover) h = absurd h
    by_case (by.Template template it) h = record { ground = (bare, h.first); strong = served_strong law asked found template it fits h }
    by_case (by.Proof steps) h = absurd h

-- what serves the question first, of these templates by another name
pub first_allowed : (asked : Asked) (now found : List Proof) (finding : Finding) (ground : By) → TakesFirst asked now finding → finding ≡ Allow ground → now ≡ found → ServesFirst asked found (judged.Allowed (Whole ground))
first_allowed asked now found finding ground h e same = by_case ground (subst (λ (z : List Proof × Finding). TakesFirst asked z.0 z.1) (λ i. (same i, e i)) h)
  where
    by_case : (ground : By) → TakesFirst asked found (Allow ground) → ServesFirst asked found (judged.Allowed (Whole ground))
    by_case (by.Cover cover) h = tt
    by_case (by.Template template it) h = h
    by_case (by.Proof steps) h = h

pub first_blocked : (asked : Asked) (now found : List Proof) (finding : Finding) (reason : Reason) → TakesFirst asked now finding → finding ≡ Deny reason → now ≡ found → ServesFirst asked found (judged.Blocked reason)
first_blocked asked now found finding reason h e same = subst (λ (z : List Proof × Finding). TakesFirst asked z.0 z.1) (λ i. (same i, e i)) h

-- a whole of several parts is looked at where one of them is blocked
pub whole_after : (asked : Asked) (effort : Effort) (old now : Shelves) (it : Judgement) → HasBlockedPart asked effort old → Learns old now → ServesFirst asked (standing_for now asked.query) it → LooksAtWhole asked effort old it
whole_after asked effort old now it part learned first = record { part = part; first = record { at = now; learned = learned; first = first } }

pub parts_allowed : (asked : Asked) (effort : Effort) (old : Shelves) (ground : By) → LooksAtWhole asked effort old (judged.Allowed (Whole ground)) → LooksAtParts asked effort old (judged.Allowed (Whole ground))
parts_allowed asked effort old (by.Cover cover) h = tt
parts_allowed asked effort old (by.Template template it) h = h
parts_allowed asked effort old (by.Proof steps) h = h

-- what serves a question first that is looked at as a whole
pub alone_allowed : (asked : Asked) (found : List Proof) (finding : Finding) (ground : By) → TakesFirst asked found finding → finding ≡ Allow ground → ServesAlone asked found (Some ground)
alone_allowed asked found finding ground h e = first_allowed asked found found finding ground h e refl

pub alone_blocked : (asked : Asked) (found : List Proof) (finding : Finding) (reason : Reason) → TakesFirst asked found finding → finding ≡ Deny reason → ServesAlone asked found None
alone_blocked asked found finding reason h e = subst (TakesFirst asked found) e h

-- ---- cover

-- a covered question is allowed
pub covered : (asked : Asked) (effort : Effort) (policy : Policy) (query : Query) → policy ≡ asked.policy → query ≡ asked.query → QuestionFits asked.policy asked.context asked.trace asked.query →
    (found : Option Cover) (cover : Cover) → found ≡ Some cover → MatchOption found (Covered policy asked.context query → ⊥) (IsCover policy asked.context query) → IfSome found (λ it. AlwaysStrong policy asked.context query) →
    IsAllowedBy asked effort (by.Cover cover)
covered asked effort policy query same same_query fits found cover e h strong =
    let is : IsCover policy asked.context query cover = subst (λ z. MatchOption z (Covered policy asked.context query → ⊥) (IsCover policy asked.context query)) e h in
    let always : AlwaysStrong policy asked.context query = subst (λ z. IfSome z (λ it. AlwaysStrong policy asked.context query)) e strong in
    let here : AlwaysStrong asked.policy asked.context asked.query = subst (λ z. AlwaysStrong asked.policy asked.context z) same_query (subst (λ z. AlwaysStrong z asked.context query) same always) in
    record {
      ground = subst (λ z. IsCover asked.policy asked.context z cover) same_query (subst (λ z. IsCover z asked.context query cover) same is);
      strong = here.after fits.policy_fits fits.context asked.trace;
    }

pub uncovered : (asked : Asked) (policy : Policy) (query : Query) → policy ≡ asked.policy → query ≡ asked.query → (found : Option Cover) → found ≡ None →
    MatchOption found (Covered policy asked.context query → ⊥) (IsCover policy asked.context query) → Uncovered asked
uncovered asked policy query same same_query found e h =
    let is : Covered policy asked.context query → ⊥ = subst (λ z. MatchOption z (Covered policy asked.context query → ⊥) (IsCover policy asked.context query)) e h in
    subst (λ z. Covered asked.policy asked.context z → ⊥) same_query (subst (λ z. Covered z asked.context query → ⊥) same is)

-- ---- the search among templates

module _ (asked : Asked) (seen t : Proof) (query : Query) (same : seen ≡ t) (same_query : query ≡ asked.query) (found : Option Match) (is_found : IsFound seen.problem asked.policy asked.context asked.trace query found) where
  found_in : IsFound t.problem asked.policy asked.context asked.trace asked.query found
  found_in = subst (λ z. IsFound t.problem asked.policy asked.context asked.trace z found) same_query (subst (λ (z : Proof). IsFound z.problem asked.policy asked.context asked.trace query found) same is_found)

  pub found_first : (it : Match) → found ≡ Some it → IsServedBy asked t it
  found_first it e = subst (IsFound t.problem asked.policy asked.context asked.trace asked.query) e found_in

  pub found_none : found ≡ None → ¬ (Rattle.ba_template.specs.Found.Matches t.problem asked.policy asked.context asked.trace asked.query)
  found_none e = subst (IsFound t.problem asked.policy asked.context asked.trace asked.query) e found_in

abbrev pub FailsToServe : Asked → Proof → Type 0
FailsToServe asked t = ¬ (Rattle.ba_template.specs.Found.Matches t.problem asked.policy asked.context asked.trace asked.query)

split_at : (found : List Proof) (i : ℕ) (t : Proof) → i < length found → t ≡ get_or found i t → found ≡ take i found ++ t ∷ drop (i + 1) found
split_at found i t below is =
    sym (take-append-drop i found) ∙ ap (λ z. take i found ++ z) (drop-cons found i t below ∙ ap (λ z. z ∷ drop (suc i) found) (sym is) ∙ ap (λ z. t ∷ drop z found) (sym (add-one i)))

module _ (asked : Asked) (found : List Proof) (i : ℕ) (t : Proof) (below : i < length found) (is : t ≡ get_or found i t) (none : NoneServes asked (take i found)) where
  pub first_here : (template : Proof) → template ≡ t → (m : Match) → IsServedBy asked t m → StrongAll t.problem → IsFirstToServe asked found template m
  first_here template same m first sound = subst (λ z. IsFirstToServe asked found z m) (sym same) (record {
    before = take i found;
    after = drop (i + 1) found;
    found_is = split_at found i t below is;
    none_before = none;
    first = first;
    sound = sound;
  })

  pub none_here : FailsToServe asked t → NoneServes asked (take (i + 1) found)
  none_here fails =
      subst (NoneServes asked) (sym (take_more found i t below ∙ ap (λ z. take i found ++ z ∷ []) (sym is))) (All-push (FailsToServe asked) (take i found) t none fails)

pub none_at_all : (asked : Asked) (found : List Proof) (i : ℕ) → length found ≤ i → NoneServes asked (take i found) → NoneServes asked found
none_at_all asked found i past none = subst (NoneServes asked) (take_all i found past) none
