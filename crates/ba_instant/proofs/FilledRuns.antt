-- The facts of a course's open branches have terms that may stand in their tables' columns.
use Rattle.std.proofs.Common.{◌≡◌, ◌∙◌, ℕ, ◌+◌, List, [], ◌∷◌, ◌++◌, length, map, refl, sym, subst, append_assoc}
use Rattle.std.proofs.lemmas.List.{append-nil, length_push}
use Rattle.std.proofs.lemmas.List.Elements.{All-append, All-cons, All-head, All-map, All-nil, All-push, All-set, All-tail, All-weaker}
use Rattle.std.specs.List.{All, AllZip}
use Rattle.std.specs.Prelude.{Option, Some, None, slice_get}
use Rattle.ba_model.specs.SchemaFaults.{columns_of}
use Rattle.ba_model.specs.declared.query.Part.{Part}
use Rattle.ba_model.specs.declared.schema.Column.{Column}
use Rattle.ba_model.specs.declared.schema.Schema.{Schema}
use Rattle.ba_facts.specs.Known.{Known, column, itself}
use Rattle.ba_facts.specs.Knowing.{sort_of}
use Rattle.ba_facts.specs.Matches.{round_of}
use Rattle.ba_facts.specs.declared.branch.Branch.{Branch}
use Rattle.ba_facts.specs.declared.term.Fact.{Fact}
use Rattle.ba_facts.specs.declared.term.Lesson.{Lesson}
use Rattle.ba_facts.specs.declared.term.Lesson.TheVariants.{Holds}
use Rattle.ba_facts.specs.declared.term.Side.{Side}
use Rattle.ba_facts.specs.declared.term.Side.TheVariants.{One, Two}
use Rattle.ba_facts.specs.declared.term.Sort.{Sort}
use Rattle.ba_facts.specs.declared.term.Term.{Term}
use Rattle.ba_kernel.proofs.CaseFactLemmas.{unknowns_from}
use Rattle.ba_kernel.proofs.StepFits.{All-at}
use Rattle.ba_kernel.specs.Courses.{IsStartOf, Runs, Slots, after, branch_of, nothing_known, start, next}
use Rattle.ba_kernel.specs.Effects.{IsCase, negation, with_fact, with_facts, with_lessons}
use Rattle.ba_kernel.specs.Steps.{Leads}
use Rattle.ba_kernel.specs.declared.problem.Problem.{Problem}
use Rattle.ba_kernel.specs.declared.step.Step.{Step}
use Rattle.ba_kernel.specs.declared.step.Step.TheVariants as steps
use Rattle.ba_instant.proofs.CarryLemmas.{Carries, not_null}
use Rattle.ba_instant.proofs.GrowthLemmas.{carries_on}
use Rattle.ba_instant.proofs.MirrorLemmas.{next_at}
use Rattle.ba_instant.specs.QuietSteps.{FactsAreFilled, IsFilled, IsRowFor, RunsAreFilled}

-- ---- what facts and lessons keep, each open branch has

module _ (p : Problem) (P : Branch → Type 0) (facts_keep : (side : Side) (round : ℕ) (b : Branch) (table : ℕ) → P b → P (with_fact p.policy.schema side round b table))
    (lessons_keep : (b : Branch) (lessons : List Lesson) → P b → P (with_lessons b lessons)) where
  abbrev s : Schema
  s = p.policy.schema

  all_keep : (side : Side) (round : ℕ) (from : List ℕ) (b : Branch) → P b → P (with_facts s side round b from)
  all_keep side round [] b h = h
  all_keep side round (table ∷ from) b h = all_keep side round from (with_fact s side round b table) (facts_keep side round b table h)

  case_keeps : (side : Side) (round : ℕ) (row : List Term) (part : Part) (b c : Branch) → P b → IsCase s b side round row part c → P c
  case_keeps side round row part b c h case = subst P (sym case.new_is) (lessons_keep (with_facts s side round b part.from) (case.atoms ++ case.heads) (all_keep side round part.from b h))

  cases_keep : (side : Side) (round : ℕ) (row : List Term) (parts : List Part) (b : Branch) (cases : List Branch) → P b → AllZip (IsCase s b side round row) parts cases → All P cases
  cases_keep side round row [] b [] h zip = All-nil P
  cases_keep side round row [] b (c ∷ cases) h zip = absurd zip
  cases_keep side round row (part ∷ parts) b [] h zip = absurd zip
  cases_keep side round row (part ∷ parts) b (c ∷ cases) h zip =
      All-cons P c cases (case_keeps side round row part b c h zip.0) (cases_keep side round row parts b cases h zip.1)

  one_keeps : (cases : List Branch) (c : Branch) → cases ≡ c ∷ [] → P c → All P cases
  one_keeps cases c e h = subst (All P) (sym e) (All-cons P c [] h (All-nil P))

  none_keep : (cases : List Branch) → cases ≡ [] → All P cases
  none_keep cases e = subst (All P) (sym e) (All-nil P)

  pub leads_keep : (b : Branch) (step : Step) (cases : List Branch) → P b → Leads p b step cases → All P cases
  leads_keep b (steps.Entry branch entry) cases h leads = cases_keep One leads.round leads.row leads.passes.it.query.parts b cases h leads.cases_are
  leads_keep b (steps.Key branch key left right) cases h leads = one_keeps cases _ leads.cases_are (lessons_keep b _ h)
  leads_keep b (steps.Link branch link fact) cases h leads =
      let mid = with_fact s leads.passes.f.side (1 + leads.passes.f.round) b leads.passes.it.target in
      one_keeps cases (with_lessons mid leads.lessons) leads.cases_are (lessons_keep mid leads.lessons (facts_keep leads.passes.f.side (1 + leads.passes.f.round) b leads.passes.it.target h))
  leads_keep b (steps.Rule branch rule part facts) cases h leads = cases_keep leads.passes.side (1 + round_of b facts) leads.next.row leads.passes.is_part.of.right.parts b cases h leads.next.cases_are
  leads_keep b (steps.View branch view part facts) cases h leads = cases_keep Two (1 + round_of b facts) leads.next.row leads.passes.is_part.of.query.parts b cases h leads.next.cases_are
  leads_keep b (steps.Split branch atom) cases h leads =
      let yes = with_lessons b (Holds atom ∷ []) in
      let no = with_lessons b (Holds (negation atom) ∷ []) in
      subst (All P) (sym leads.cases_are) (All-cons P yes (no ∷ []) (lessons_keep b _ h) (All-cons P no [] (lessons_keep b _ h) (All-nil P)))
  leads_keep b (steps.Absurd branch) cases h leads = none_keep cases leads.cases_are
  leads_keep b (steps.Goal branch part facts) cases h leads = none_keep cases leads.cases_are

  module _ (goals_keep : (b : Branch) (goal : List Term) → P b → P (record b { goal = goal })) (first : P (nothing_known p)) where
    start_has : (part : Part) (c : Branch) → IsStartOf p part c → P c
    start_has part c h =
        let mid = with_facts s One 0 (nothing_known p) part.from in
        let learned = with_lessons mid (h.atoms ++ h.assumed) in
        subst P (sym h.new_is) (goals_keep learned h.goal (lessons_keep mid (h.atoms ++ h.assumed) (all_keep One 0 part.from (nothing_known p) first)))

    starts_have : (parts : List Part) (branches : List Branch) → AllZip (IsStartOf p) parts branches → All P branches
    starts_have [] [] h = All-nil P
    starts_have [] (b ∷ branches) h = absurd h
    starts_have (part ∷ parts) [] h = absurd h
    starts_have (part ∷ parts) (b ∷ branches) h = All-cons P b branches (start_has part b h.0) (starts_have parts branches h.1)

    abbrev SlotHas : Option Branch → Type 0
    SlotHas None = Unit {0}
    SlotHas (Some b) = P b

    after_has : (slots : Slots) (n : ℕ) (cases : List Branch) → All SlotHas slots → All P cases → All SlotHas (after slots n cases)
    after_has slots n [] all h = All-set SlotHas slots n None tt all
    after_has slots n (b ∷ others) all h =
        All-append SlotHas _ (map Some others) (All-set SlotHas slots n (Some b) (All-head P b others h) all) (All-map SlotHas Some others (All-tail P b others h))

    runs_all : {taken : List Step} {slots : Slots} → Runs p taken slots → All SlotHas slots
    runs_all (start h) = subst (All SlotHas) (sym h.slots_are) (All-map SlotHas Some h.branches (starts_have p.goal.parts h.branches h.starts))
    runs_all (next {step = step} {old = old} runs takes) =
        let before = runs_all runs in
        let here = All-at SlotHas old (branch_of step) (Some takes.branch) before takes.open_ in
        subst (All SlotHas) (sym takes.new_is) (after_has old (branch_of step) takes.cases before (leads_keep takes.branch step takes.cases here takes.leads))

    pub runs_have : (taken : List Step) (slots : Slots) (number : ℕ) (b : Branch) → Runs p taken slots → slice_get slots number ≡ Some (Some b) → P b
    runs_have taken slots number b runs is_open = All-at SlotHas slots number (Some b) (runs_all runs) is_open

-- ---- filled facts

filled_more : (k l : Known) → Carries k l (λ t. t) → (columns : List Column) (ts : List Term) → AllZip (IsFilled k) columns ts → AllZip (IsFilled l) columns ts
filled_more k l carries [] [] h = tt
filled_more k l carries [] (t ∷ ts) h = absurd h
filled_more k l carries (c ∷ columns) [] h = absurd h
filled_more k l carries (c ∷ columns) (t ∷ ts) h = (λ is. not_null k l (λ u. u) carries (h.0 is), filled_more k l carries columns ts h.1)

-- new unknowns may stand in the columns whose sorts they have
new_filled : (l : Known) (before : List Sort) (columns : List Column) → l.unknowns ≡ before ++ map sort_of columns → AllZip (IsFilled l) columns (unknowns_from (length before) (length columns))
new_filled l before [] e = tt
new_filled l before (c ∷ columns) e =
    let rest = new_filled l (before ++ sort_of c ∷ []) columns (e ∙ sym (append_assoc before (sort_of c ∷ []) (map sort_of columns))) in
    let here : slice_get l.unknowns (length before) ≡ Some (sort_of c) =
    subst (λ us. slice_get us (length before) ≡ Some (sort_of c)) (sym e) (next_at before (sort_of c) (map sort_of columns)) in (
      λ is. record { other = _; class = itself; not_null = column here is },
      subst (λ n. AllZip (IsFilled l) columns (unknowns_from n (length columns))) (length_push before (sort_of c)) rest,
    )

module _ (s : Schema) where
  abbrev HasRow : Known → Fact → Type 0
  HasRow k fact = IsRowFor s k fact.table fact.terms

  lessons_filled : (b : Branch) (lessons : List Lesson) → FactsAreFilled s b → FactsAreFilled s (with_lessons b lessons)
  lessons_filled b lessons h =
      let l = (with_lessons b lessons).known in
      let carries = carries_on b.known l [] lessons (sym (append-nil b.known.unknowns)) refl in
      record { facts = All-weaker (HasRow b.known) (HasRow l) (λ fact. filled_more b.known l carries (columns_of s.tables fact.table) fact.terms) b.facts h.facts }

  fact_filled : (side : Side) (round : ℕ) (b : Branch) (table : ℕ) → FactsAreFilled s b → FactsAreFilled s (with_fact s side round b table)
  fact_filled side round b table h =
      let columns = columns_of s.tables table in
      let l = (with_fact s side round b table).known in
      let carries = carries_on b.known l (map sort_of columns) [] refl (sym (append-nil b.known.learned)) in
      let it : Fact = record { side = side; table = table; terms = unknowns_from (length b.known.unknowns) (length columns); round = round } in
      record {
        facts =
            All-push (HasRow l) b.facts it
            (All-weaker (HasRow b.known) (HasRow l) (λ fact. filled_more b.known l carries (columns_of s.tables fact.table) fact.terms) b.facts h.facts)
            (new_filled l b.known.unknowns columns refl);
      }

pub runs_are_filled : RunsAreFilled
runs_are_filled p taken slots number b runs is_open =
    let s = p.policy.schema in
    runs_have p (FactsAreFilled s) (fact_filled s) (lessons_filled s) (λ b goal h. record { facts = h.facts })
    (record { facts = All-nil (λ (fact : Fact). IsRowFor s (nothing_known p).known fact.table fact.terms) }) taken slots number b runs is_open
