-- Where facts on side Two show the goal and give the goal row, nothing that breaks compliance fits.
use Rattle.std.proofs.Common.{◌≡◌, ℕ, List, [], ◌∷◌, map, refl, ap₂, sym, ◌∙◌, subst}
use Rattle.std.specs.List.{AllZip}
use Rattle.std.specs.Prelude.{Option, Some}
use Rattle.ba_model.specs.Fit.{PartFits, kinds_of}
use Rattle.ba_model.specs.Meaning.{InAnswer, InPart}
use Rattle.ba_model.specs.declared.schema.Schema.{Schema}
use Rattle.ba_model.specs.declared.value.RowSet.{RowSet}
use Rattle.ba_model.specs.declared.value.Value.{Value}
use Rattle.ba_comply.specs.declared.trace.TraceEntry.{TraceEntry}
use Rattle.ba_facts.specs.Fits.{FitsAt, Instance, value_of_term}
use Rattle.ba_facts.specs.Known.{Known}
use Rattle.ba_facts.specs.Laws.{SameIsTrue}
use Rattle.ba_facts.specs.Matches.{AreTheSame, row_of}
use Rattle.ba_facts.specs.Shown.{TheSame}
use Rattle.ba_facts.specs.declared.branch.Branch.{Branch}
use Rattle.ba_facts.specs.declared.term.Side.TheVariants.{Two}
use Rattle.ba_facts.specs.declared.term.Term.{Term}
use Rattle.ba_kernel.specs.Courses.{ProblemFits}
use Rattle.ba_kernel.specs.Steps.{GoalLeads}
use Rattle.ba_kernel.specs.Problems.{Breaks, IsInstance, part_at, query_at}
use Rattle.ba_kernel.specs.Soundness.{FactsGive}
use Rattle.ba_kernel.specs.declared.problem.Problem.{Problem}
use Rattle.ba_kernel.proofs.StepFits.{All-at, Contains-at, Contains-map, one_image}

-- heads that are the same as terms are terms
same_heads : (k : Known) (heads : List (Option Term)) (goal : List Term) → AllZip (AreTheSame k) heads (map Some goal) →
    (row : List Term) × (heads ≡ map Some row) × AllZip (TheSame k) row goal
same_heads k [] [] h = ([], refl, tt)
same_heads k [] (u ∷ goal) h = absurd h
same_heads k (o ∷ heads) [] h = absurd h
same_heads k (o ∷ heads) (u ∷ goal) h =
    let first = h.0 in
    let right : first.right ≡ u = let e : Some u ≡ Some first.right = first.right_is in cc in
    let later = same_heads k heads goal h.1 in
    (first.left ∷ later.0, ap₂ (λ x xs. x ∷ xs) first.left_is later.1, (subst (TheSame k first.left) right first.same, later.2))

same_values : SameIsTrue → (s : Schema) (b : Branch) (i : Instance) (d e : RowSet) (r values : List Value) → FitsAt s b i d e r values →
    (row goal : List Term) → AllZip (TheSame b.known) row goal → map (value_of_term i values) row ≡ map (value_of_term i values) goal
same_values same s b i d e r values fit [] [] h = refl
same_values same s b i d e r values fit [] (u ∷ goal) h = absurd h
same_values same s b i d e r values fit (t ∷ row) [] h = absurd h
same_values same s b i d e r values fit (t ∷ row) (u ∷ goal) h =
    ap₂ (λ x xs. x ∷ xs) (same s b i d e r values t u fit h.0) (same_values same s b i d e r values fit row goal h.1)

pub goal_has_no_fit : FactsGive → SameIsTrue → (p : Problem) (i : Instance) (trace : List TraceEntry) (d e : RowSet)
    (r values : List Value) (b : Branch) (part : ℕ) (facts : List ℕ) (cases : List Branch) → ProblemFits p →
    IsInstance p i → Breaks p i trace d e r → FitsAt p.policy.schema b i d e r values →
    GoalLeads p b part facts cases → ⊥
goal_has_no_fit give same p i trace d e r values b part facts cases problem instance breaks fit leads =
    let s = p.policy.schema in
    let there = Contains-at p.goal.parts part leads.passes.it leads.passes.is_part in
    let fits = All-at (PartFits s (kinds_of p.policy.params) p.vars problem.goal.fits.kinds) p.goal.parts part leads.passes.it problem.goal.fits.parts leads.passes.is_part in
    let row = same_heads b.known (row_of b facts leads.passes.it.head) b.goal leads.passes.head in
    let given = give p i b Two problem.goal.fits.kinds leads.passes.it facts row.0 d e r values instance fit fits leads.passes.pass row.1 in
    let is : given.0 ≡ r = one_image given.0 r (sym given.1 ∙ (same_values same s b i d e r values fit row.0 b.goal row.2 ∙ fit.goal)) in
    let answer : InAnswer (query_at i.vars p.goal) i.context e r =
    (part_at i.vars leads.passes.it, Contains-map (part_at i.vars) p.goal.parts leads.passes.it there, subst (InPart i.context e (part_at i.vars leads.passes.it)) is given.2) in
    breaks.absent answer
