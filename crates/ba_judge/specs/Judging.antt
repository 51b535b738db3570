-- What the judgement of a question tells.
use Rattle.std.specs.Prelude.{◌≡◌, ℕ, Bool, false, true, ◌<◌, ◌≤◌, List, ◌∷◌, ◌++◌, All, Contains, Option, Some, None, length, ⊤}
use Rattle.std.specs.List.{AllZip, list_any}
use Rattle.ba_comply.specs.Comply.{Strong}
use Rattle.ba_comply.specs.declared.trace.TraceEntry.{TraceEntry}
use Rattle.ba_contradict.specs.Contradictions.{Contradicted, StaysOpen}
use Rattle.ba_direct.specs.Cover.{Covered, IsCover}
use Rattle.ba_judge.specs.Shelves.{Learns, standing_for}
use Rattle.ba_judge.specs.declared.asking.Asking.{Asking}
use Rattle.ba_judge.specs.declared.shelves.Shelves.{Shelves}
use Rattle.ba_judge.specs.declared.whole.Finding.{Finding}
use Rattle.ba_judge.specs.declared.whole.Finding.TheVariants.{Allow, Deny}
use Rattle.ba_judge.specs.declared.verdict.Allowed.{Allowed}
use Rattle.ba_judge.specs.declared.union.Outcome.{Outcome}
use Rattle.ba_judge.specs.declared.union.Outcome.TheVariants as outcome
use Rattle.ba_judge.specs.declared.verdict.Allowed.TheVariants.{Whole, Parts, WeakerWhole, WeakerParts}
use Rattle.ba_judge.specs.declared.verdict.By.{By}
use Rattle.ba_judge.specs.declared.verdict.By.TheVariants.{Cover, Template, Proof}
use Rattle.ba_judge.specs.declared.verdict.Judgement.{Judgement}
use Rattle.ba_judge.specs.declared.verdict.Judgement.TheVariants as judged
use Rattle.ba_judge.specs.declared.verdict.Reason.{Reason}
use Rattle.ba_judge.specs.declared.verdict.Reason.TheVariants.{Refuted, Spent, Stuck, Contradiction}
use Rattle.ba_kernel.specs.Problems.{StrongAll, problem_of}
use Rattle.ba_kernel.specs.SearchStates as kernel
use Rattle.ba_kernel.specs.declared.problem.Problem.{Problem}
use Rattle.ba_kernel.specs.declared.step.Step.{Step}
use Rattle.ba_kernel.specs.declared.step.Step.TheVariants as step
use Rattle.ba_match.specs.Matching.{IsFirstMatch}
use Rattle.ba_model.specs.declared.policy.Context.{Context}
use Rattle.ba_model.specs.declared.policy.Policy.{Policy}
use Rattle.ba_model.specs.declared.query.Part.{Part}
use Rattle.ba_model.specs.declared.query.Query.{Query}
use Rattle.ba_parts.specs.Parts.{alone}
use Rattle.ba_refute.specs.Counterexamples.{IsCounterexample, IsFirstUnmet}
use Rattle.ba_refute.specs.Images.{IsImage}
use Rattle.ba_refute.specs.OfEquations.{IsQuestionOfEquations}
use Rattle.ba_refute.specs.declared.clause.Clause.{Clause}
use Rattle.ba_refute.specs.declared.clause.Counterexample.{Counterexample}
use Rattle.ba_settle.specs.Settling.{Effort, Settles}
use Rattle.ba_settle.specs.declared.ends.Leaf.{Leaf}
use Rattle.ba_settle.specs.declared.ends.Settled.TheVariants as settled
use Rattle.ba_template.specs.Found.{Matches}
use Rattle.ba_template.specs.declared.found.Match.{Match}
use Rattle.ba_weaker.specs.Weaker.{IsWeakerTrace, NoneHasWeaker}

-- a question of a policy under a context, after a trace
pub record Asked : Type 0 where
  pub policy : Policy
  pub context : Context
  pub trace : List TraceEntry
  pub query : Query

-- apart from where that lies in memory
abbrev pub seen : Asking → Asked
seen asked = record {
  policy = asked.policy.now;
  context = asked.context.now;
  trace = asked.trace.now;
  query = asked.query.now;
}

-- the part alone, asked in the same way
abbrev pub part_of : Asked → Part → Asked
part_of asked part = record asked { query = alone part }

abbrev pub question_of : Asked → Problem
question_of asked = problem_of asked.policy asked.context asked.trace asked.query

-- strongly compliant after the trace
abbrev pub IsStrong : Asked → Type 0
IsStrong asked = Strong asked.policy asked.context asked.trace asked.query

abbrev pub Uncovered : Asked → Type 0
Uncovered asked = Covered asked.policy asked.context asked.query → ⊥

-- of a search in so many orders, in each by at most so many steps
abbrev pub effort_in : ℕ → ℕ → Effort
effort_in orders budget = record { orders = orders; budget = budget }

-- ---- what allows it

-- the template's first match with the question
abbrev pub IsServedBy : Asked → kernel.Proof → Match → Type 0
IsServedBy asked template it =
    IsFirstMatch template.problem asked.policy asked.context asked.trace asked.query it

-- a search for a proof of it finds one, of these steps
abbrev pub IsProvedBy : Asked → Effort → List Step → Type 0
IsProvedBy asked effort steps =
    Settles effort (question_of asked)
    (settled.Proved (record { problem = question_of asked; steps = steps }))

-- a search over what was told alone, made with the same effort, shows no contradiction there
abbrev pub ToldStaysOpen : Asked → Effort → Type 0
ToldStaysOpen asked effort = StaysOpen asked.policy asked.context asked.trace effort

-- it ends its branch because what is known there can't be true
abbrev pub is_absurd : Step → Bool
is_absurd (step.Absurd branch) = true
is_absurd (step.Entry branch entry) = false
is_absurd (step.Key branch key left right) = false
is_absurd (step.Link branch link fact) = false
is_absurd (step.Rule branch rule part facts) = false
is_absurd (step.View branch view part facts) = false
is_absurd (step.Split branch atom) = false
is_absurd (step.Goal branch part facts) = false

-- The steps rest on no contradiction: each branch of theirs ends at a goal; or else what was told
-- alone is shown to have none.
abbrev pub RestOnTruth : Asked → Effort → List Step → Type 0
RestOnTruth asked effort proof = list_any is_absurd proof ≡ true → ToldStaysOpen asked effort

-- the evidence that allows the question as a whole: a cover, or, where there is none, a template or
-- a proof, which is none where it ends a branch as absurd and what was told is shown to contradict
-- itself
abbrev pub IsGround : Asked → Effort → By → Type 0
IsGround asked effort (Cover cover) = IsCover asked.policy asked.context asked.query cover
IsGround asked effort (Template template it) = Uncovered asked × IsServedBy asked template it
IsGround asked effort (Proof steps) =
    Uncovered asked × IsProvedBy asked effort steps × RestOnTruth asked effort steps

-- it is evidence, and the question is strongly compliant
pub record IsAllowedBy (asked : Asked) (effort : Effort) (by : By) : Type 0 where
  pub ground : IsGround asked effort by
  pub strong : IsStrong asked

-- each part is allowed, as a question of its own
abbrev pub AllAllowed : Asked → Effort → List By → Type 0
AllAllowed asked effort grounds =
    AllZip (λ part by. IsAllowedBy (part_of asked part) effort by) asked.query.parts grounds

-- it has several parts, and each is allowed
pub record IsByParts (asked : Asked) (effort : Effort) (grounds : List By) : Type 0 where
  pub several : 2 ≤ length asked.query.parts
  pub each : AllAllowed asked effort grounds

-- ---- what blocks it

-- the search ends at a saturated branch, and the pair is its image, which is a counterexample
pub record IsRefuted (asked : Asked) (effort : Effort) (pair : Counterexample) : Type 0 where
  pub leaf : Leaf
  pub saturated : Settles effort (question_of asked) (settled.Saturated leaf)
  pub image_is : IsImage (question_of asked) asked.context leaf.branch pair
  pub refutes : IsCounterexample asked.policy asked.context asked.trace asked.query pair

-- The search ends at a saturated branch, and this is the first clause that its image doesn't meet.
-- So some column may be NULL, or another atom than `=` is used.
pub record IsStuck (asked : Asked) (effort : Effort) (leaf : Leaf) (clause : Clause) : Type 0 where
  pub saturated : Settles effort (question_of asked) (settled.Saturated leaf)
  pub image : Counterexample
  pub image_is : IsImage (question_of asked) asked.context leaf.branch image
  pub unmet : IsFirstUnmet asked.policy asked.context asked.trace asked.query image clause
  pub beyond_equations : ¬ (IsQuestionOfEquations asked.policy asked.trace asked.query)

abbrev pub IsReason : Asked → Effort → Reason → Type 0
IsReason asked effort (Refuted pair) = IsRefuted asked effort pair
IsReason asked effort (Spent steps) = Settles effort (question_of asked) (settled.Spent steps)
IsReason asked effort (Stuck leaf clause) = IsStuck asked effort leaf clause
IsReason asked effort (Contradiction steps) =
    Contradicted asked.policy asked.context asked.trace effort steps

-- it isn't covered, and this is the reason
pub record IsBlockedFor (asked : Asked) (effort : Effort) (reason : Reason) : Type 0 where
  pub uncovered : Uncovered asked
  pub reason_is : IsReason asked effort reason

-- it is blocked for some reason
pub record IsBlocked (asked : Asked) (effort : Effort) : Type 0 where
  pub reason : Reason
  pub blocked : IsBlockedFor asked effort reason

-- ---- judgements

-- none of these templates matches the question
abbrev pub NoneServes : Asked → List kernel.Proof → Type 0
NoneServes asked found =
    All (λ t. ¬ (Matches t.problem asked.policy asked.context asked.trace asked.query)) found

-- of these templates this is the first that matches the question, and this is its first match; each
-- instance that meets its condition is strongly compliant
pub record IsFirstToServe (asked : Asked) (found : List kernel.Proof) (template : kernel.Proof)
    (it : Match) : Type 0 where
  pub before : List kernel.Proof
  pub after : List kernel.Proof
  pub found_is : found ≡ before ++ template ∷ after
  pub none_before : NoneServes asked before
  pub first : IsServedBy asked template it
  pub sound : StrongAll template.problem

-- the first that matches, or that none does
abbrev pub IsServing : Asked → List kernel.Proof → Option By → Type 0
IsServing asked found None = NoneServes asked found
IsServing asked found (Some (Cover cover)) = ⊥
IsServing asked found (Some (Template template it)) = IsFirstToServe asked found template it
IsServing asked found (Some (Proof steps)) = ⊥

-- how a question that isn't covered comes out
abbrev pub Concludes : Asked → Effort → Finding → Type 0
Concludes asked effort (Allow by) = IsAllowedBy asked effort by
Concludes asked effort (Deny reason) = IsBlockedFor asked effort reason

-- where none of these templates matches the question, which isn't covered, a search decides; else
-- the first that matches allows it
abbrev pub TakesFirst : Asked → List kernel.Proof → Finding → Type 0
TakesFirst asked found (Allow (Cover cover)) = ⊥
TakesFirst asked found (Allow (Template template it)) = IsFirstToServe asked found template it
TakesFirst asked found (Allow (Proof steps)) = NoneServes asked found
TakesFirst asked found (Deny reason) = NoneServes asked found

-- the same question, asked after another trace
abbrev pub after_trace : Asked → List TraceEntry → Asked
after_trace asked trace = record asked { trace = trace }

-- so it is of the question after the weaker trace, where an entry of its own has a weaker question
pub record AfterWeaker (P : Asked → Type 0) (asked : Asked) : Type 0 where
  pub trace : List TraceEntry
  pub weaker : IsWeakerTrace asked.trace trace
  pub so : P (after_trace asked trace)

-- on what an allowed question rests: on its own evidence, or, where no views cover it, on that of
-- each of its parts; the weaker ones on the same of the question after the weaker trace
abbrev pub RestsOn : Asked → Effort → Allowed → Type 0
RestsOn asked effort (Whole by) = IsGround asked effort by
RestsOn asked effort (Parts grounds) = Uncovered asked × IsByParts asked effort grounds
RestsOn asked effort (WeakerWhole by) =
    AfterWeaker (λ it. Uncovered it × IsGround it effort by) asked
RestsOn asked effort (WeakerParts grounds) =
    AfterWeaker (λ it. Uncovered it × IsByParts it effort grounds) asked

-- The judgement of a question: it is strongly compliant, and this is the evidence; or it isn't
-- covered, and is blocked for this reason.
abbrev pub Judges : Asked → Effort → Judgement → Type 0
Judges asked effort (judged.Allowed allowed) = RestsOn asked effort allowed × IsStrong asked
Judges asked effort (judged.Blocked reason) = IsBlockedFor asked effort reason

-- A question that is looked at as a whole, and that no views cover, is allowed by the first of these
-- templates that matches, and searched only where none does. This is of one trace, so nothing rests
-- on a weaker one.
abbrev pub ServesFirst : Asked → List kernel.Proof → Judgement → Type 0
ServesFirst asked found (judged.Allowed (Whole (Cover cover))) = ⊤
ServesFirst asked found (judged.Allowed (Whole (Template template it))) =
    IsFirstToServe asked found template it
ServesFirst asked found (judged.Allowed (Whole (Proof steps))) = NoneServes asked found
ServesFirst asked found (judged.Allowed (Parts grounds)) = ⊤
ServesFirst asked found (judged.Allowed (WeakerWhole by)) = ⊥
ServesFirst asked found (judged.Allowed (WeakerParts grounds)) = ⊥
ServesFirst asked found (judged.Blocked reason) = NoneServes asked found

-- the same where this is why it is allowed, or where it is blocked
abbrev pub ServesAlone : Asked → List kernel.Proof → Option By → Type 0
ServesAlone asked found (Some by) = ServesFirst asked found (judged.Allowed (Whole by))
ServesAlone asked found None = NoneServes asked found

-- the same by what stands for it on the shelves, once judgements have learned since
pub record ServesFirstSince (asked : Asked) (old : Shelves) (it : Judgement) : Type 0 where
  pub at : Shelves
  pub learned : Learns old at
  pub first : ServesFirst asked (standing_for at asked.query) it

-- so is each part served, as a question of its own
abbrev pub AllServeFirst : Asked → Shelves → List By → Type 0
AllServeFirst asked old grounds =
    AllZip (λ part by. ServesFirstSince (part_of asked part) old (judged.Allowed (Whole by)))
    asked.query.parts grounds

-- one of its parts is blocked, as a question of its own, and nothing serves it that stands for it
pub record HasBlockedPart (asked : Asked) (effort : Effort) (old : Shelves) : Type 0 where
  pub part : Part
  pub there : Contains asked.query.parts part
  pub reason : Reason
  pub blocked : IsBlockedFor (part_of asked part) effort reason
  pub first : ServesFirstSince (part_of asked part) old (judged.Blocked reason)

-- a part is blocked, and so it is looked at as a whole
pub record LooksAtWhole (asked : Asked) (effort : Effort) (old : Shelves) (it : Judgement)
    : Type 0 where
  pub part : HasBlockedPart asked effort old
  pub first : ServesFirstSince asked old it

-- where it has several parts, and no views cover it, it is looked at part by part, and as a whole
-- only where a part is blocked
abbrev pub LooksAtParts : Asked → Effort → Shelves → Judgement → Type 0
LooksAtParts asked effort old (judged.Allowed (Whole (Cover cover))) = ⊤
LooksAtParts asked effort old (judged.Allowed (Parts grounds)) = AllServeFirst asked old grounds
LooksAtParts asked effort old it = LooksAtWhole asked effort old it

-- What a judgement after one trace prefers, over these shelves: of one part, the first of the
-- templates that stand for it that matches, and only where none does a search; of several, its parts
-- in the same way.
pub record Prefers (asked : Asked) (effort : Effort) (old : Shelves) (it : Judgement) : Type 0 where
  pub one : length asked.query.parts < 2 → ServesFirst asked (standing_for old asked.query) it
  pub several : 2 ≤ length asked.query.parts → LooksAtParts asked effort old it

-- ---- weaker rows first

-- how it comes out after one trace, as a judgement
abbrev pub judged_by : Outcome → Judgement
judged_by (outcome.Whole by) = judged.Allowed (Whole by)
judged_by (outcome.Parts grounds) = judged.Allowed (Parts grounds)
judged_by (outcome.Blocked reason) = judged.Blocked reason

-- how it comes out after the weaker trace, as what allows it after its own: a cover says nothing of
-- a trace
abbrev pub weaker_by : Outcome → Option Allowed
weaker_by (outcome.Whole (Cover cover)) = Some (Whole (Cover cover))
weaker_by (outcome.Whole (Template template it)) = Some (WeakerWhole (Template template it))
weaker_by (outcome.Whole (Proof steps)) = Some (WeakerWhole (Proof steps))
weaker_by (outcome.Parts grounds) = Some (WeakerParts grounds)
weaker_by (outcome.Blocked reason) = None

-- over these shelves it is blocked
pub record BlocksFirst (effort : Effort) (old : Shelves) (asked : Asked) : Type 0 where
  pub reason : Reason
  pub blocked : IsBlockedFor asked effort reason
  pub prefers : Prefers asked effort old (judged.Blocked reason)

-- what it prefers over shelves on which judgements have learned since
pub record PrefersSince (asked : Asked) (effort : Effort) (old : Shelves) (it : Judgement)
    : Type 0 where
  pub at : Shelves
  pub learned : Learns old at
  pub prefers : Prefers asked effort at it

-- It is judged after its own trace only where no entry has a weaker question, or where it is blocked
-- after the weaker trace.
pub data TriesWeaker (asked : Asked) (effort : Effort) (old : Shelves) (it : Judgement)
    : Type 0 where
  untried : NoneHasWeaker asked.trace → Prefers asked effort old it →
      TriesWeaker asked effort old it
  tried : AfterWeaker (BlocksFirst effort old) asked → PrefersSince asked effort old it →
      TriesWeaker asked effort old it

-- What a judgement prefers: a cover; then what allows it after the weaker trace; and only then what
-- it comes to after its own.
abbrev pub PrefersWeaker : Asked → Effort → Shelves → Judgement → Type 0
PrefersWeaker asked effort old (judged.Allowed (Whole (Cover cover))) = ⊤
PrefersWeaker asked effort old (judged.Allowed (WeakerWhole by)) =
    AfterWeaker (λ it. Prefers it effort old (judged.Allowed (Whole by))) asked
PrefersWeaker asked effort old (judged.Allowed (WeakerParts grounds)) =
    AfterWeaker (λ it. Prefers it effort old (judged.Allowed (Parts grounds))) asked
PrefersWeaker asked effort old it = TriesWeaker asked effort old it

-- after the weaker trace nothing allows it: there is none, or it is blocked there
pub data WeakerBlocks (asked : Asked) (effort : Effort) (old new : Shelves) : Type 0 where
  is_none : NoneHasWeaker asked.trace → new ≡ old → WeakerBlocks asked effort old new
  is_blocked : AfterWeaker (BlocksFirst effort old) asked → Learns old new →
      WeakerBlocks asked effort old new

-- what the weaker trace gives
abbrev pub WeakerGives : Asked → Effort → Shelves → Shelves → Option Allowed → Type 0
WeakerGives asked effort old new None = WeakerBlocks asked effort old new
WeakerGives asked effort old new (Some it) =
    Judges asked effort (judged.Allowed it) × PrefersWeaker asked effort old (judged.Allowed it)
