-- The open branches of a course are tidy.
use Rattle.std.proofs.Common.{◌≡◌, ℕ, ◌+◌, ◌≤◌, List, [], ◌∷◌, ◌++◌, length, map, refl, ap, sym, ◌∙◌, subst, arith}
use Rattle.std.proofs.lemmas.List.{length-append, length-map}
use Rattle.std.proofs.lemmas.List.FromFn.{length-range_with_len}
use Rattle.std.proofs.lemmas.List.Elements.{All-append, All-cons, All-head, All-map, All-nil, All-push, All-set, All-tail, All-weaker}
use Rattle.std.specs.List.{All, AllZip, range_with_len}
use Rattle.std.specs.Prelude.{Option, Some, None, ◌≢◌, slice_get}
use Rattle.ba_model.specs.Fit.{IsQuery, PartFits, QueryFits, kind_of, kinds_of}
use Rattle.ba_model.specs.SchemaFaults.{columns_of, columns_or}
use Rattle.ba_model.specs.declared.policy.View.{View}
use Rattle.ba_model.specs.declared.query.Part.{Part}
use Rattle.ba_model.specs.declared.query.Query.{Query}
use Rattle.ba_model.specs.declared.schema.Kind.{Kind}
use Rattle.ba_model.specs.declared.schema.Schema.{Schema}
use Rattle.ba_model.specs.declared.schema.Table.{Table}
use Rattle.ba_kernel.proofs.BuildNext.{row_there, same_count}
use Rattle.ba_kernel.proofs.BuildStarts.{nothing_there}
use Rattle.ba_kernel.proofs.StepFits.{All-at}
use Rattle.ba_kernel.proofs.TidyLemmas.{counted, facts_there, more_unknowns, new_there, row_there_more}
use Rattle.ba_model.specs.RuleFaults.{RuleFits}
use Rattle.ba_kernel.specs.Courses.{EntryFits, IsStartOf, LinkFits, ProblemFits, Runs, Slots, after, branch_of, nothing_known, start, next}
use Rattle.ba_kernel.specs.Effects.{IsCase, rows_at, with_fact, with_facts, with_lessons}
use Rattle.ba_kernel.specs.Steps.{Leads, LinkLeads}
use Rattle.ba_kernel.specs.SearchStates.{FactIsTidy, IsTidy, RunsAreTidy}
use Rattle.ba_facts.proofs.LaidLemmas.{laid_push}
use Rattle.ba_facts.specs.Known.{Known}
use Rattle.ba_facts.specs.Knowing.{sort_of}
use Rattle.ba_facts.specs.Laid.{AreLaid, IsLaid}
use Rattle.ba_facts.specs.Matches.{round_of, term_of}
use Rattle.ba_facts.specs.declared.branch.Branch.{Branch}
use Rattle.ba_kernel.specs.declared.problem.Problem.{Problem}
use Rattle.ba_kernel.specs.declared.step.Step.{Step}
use Rattle.ba_kernel.specs.declared.step.Step.TheVariants as steps
use Rattle.ba_facts.specs.declared.term.Fact.{Fact}
use Rattle.ba_facts.specs.declared.term.Lesson.{Lesson}
use Rattle.ba_facts.specs.declared.term.Side.{Side}
use Rattle.ba_facts.specs.declared.term.Side.TheVariants.{One, Two}
use Rattle.ba_facts.specs.declared.term.Term.{Term}
use Rattle.ba_facts.specs.declared.term.Term.TheVariants.{Unknown}

-- ---- facts and lessons that are added

some_of : {A : Type 0} (o : Option A) → o ≢ None → (x : A) × (o ≡ Some x)
some_of None h = absurd (h refl)
some_of (Some x) h = (x, refl)

abbrev IsTable : Schema → ℕ → Type 0
IsTable s table = slice_get s.tables table ≢ None

abbrev HasTables : Schema → Part → Type 0
HasTables s part = All (IsTable s) part.from

fact_stays_tidy : (s : Schema) (k l : Known) → length k.unknowns ≤ length l.unknowns → (fact : Fact) → FactIsTidy s k fact → FactIsTidy s l fact
fact_stays_tidy s k l more fact h = record { table = h.table; table_is = h.table_is; wide = h.wide; there = row_there_more k l more fact.terms h.there }

module _ (p : Problem) where
  abbrev s : Schema
  s = p.policy.schema

  lessons_tidy : (b : Branch) (lessons : List Lesson) → IsTidy p b → IsTidy p (with_lessons b lessons)
  lessons_tidy b lessons h =
      let new = with_lessons b lessons in
      record {
        facts = All-weaker (FactIsTidy s b.known) (FactIsTidy s new.known) (fact_stays_tidy s b.known new.known (omega arith)) b.facts h.facts;
        goal = row_there_more b.known new.known (omega arith) b.goal h.goal;
        goal_wide = h.goal_wide;
        params = h.params;
        vars = h.vars;
        laid = h.laid;
      }

  module _ (side : Side) (round : ℕ) where
    fact_laid : (b : Branch) (table : ℕ) → IsLaid b → IsLaid (with_fact s side round b table)
    fact_laid b table h =
        let first = length b.known.unknowns in
        let count = length (columns_of s.tables table) in
        let fact : Fact = record { side = side; table = table; terms = map Unknown (range_with_len first count); round = round } in
        let long : length fact.terms ≡ count = length-map (range_with_len first count) Unknown ∙ length-range_with_len first count in
        let all : first + count ≡ length (with_fact s side round b table).known.unknowns =
        omega (arith, length-append b.known.unknowns (map sort_of (columns_of s.tables table)), length-map (columns_of s.tables table) sort_of) in
        subst (AreLaid 0 (with_fact s side round b table).facts) all (laid_push 0 first count b.facts fact h refl long)

    facts_laid : (from : List ℕ) (b : Branch) → IsLaid b → IsLaid (with_facts s side round b from)
    facts_laid [] b h = h
    facts_laid (table ∷ from) b h = facts_laid from (with_fact s side round b table) (fact_laid b table h)

    new_tidy : (b : Branch) (table : ℕ) → IsTable s table →
        FactIsTidy s (with_fact s side round b table).known (record {
          side = side;
          table = table;
          terms = map Unknown (range_with_len (length b.known.unknowns) (length (columns_of s.tables table)));
          round = round;
        })
    new_tidy b table is_table =
        let it = some_of (slice_get s.tables table) is_table in
        let count = length (columns_of s.tables table) in
        record {
          table = it.0;
          table_is = it.1;
          wide =
              length-map (range_with_len (length b.known.unknowns) count) Unknown ∙ (length-range_with_len (length b.known.unknowns) count ∙
              ap (λ o. length (columns_or o)) it.1);
          there = new_there (with_fact s side round b table).known (length b.known.unknowns) count (counted s side round b table);
        }

    more_facts : (b : Branch) (table : ℕ) → IsTable s table → All (FactIsTidy s b.known) b.facts →
        All (FactIsTidy s (with_fact s side round b table).known) (with_fact s side round b table).facts
    more_facts b table is_table h =
        let new = with_fact s side round b table in
        All-push (FactIsTidy s new.known) b.facts
        (record {
          side = side;
          table = table;
          terms = map Unknown (range_with_len (length b.known.unknowns) (length (columns_of s.tables table)));
          round = round;
        })
        (All-weaker (FactIsTidy s b.known) (FactIsTidy s new.known) (fact_stays_tidy s b.known new.known (more_unknowns s side round b table)) b.facts h)
        (new_tidy b table is_table)

    all_facts : (from : List ℕ) (b : Branch) → All (IsTable s) from → All (FactIsTidy s b.known) b.facts →
        All (FactIsTidy s (with_facts s side round b from).known) (with_facts s side round b from).facts
    all_facts [] b tables h = h
    all_facts (table ∷ from) b tables h =
        all_facts from (with_fact s side round b table) (All-tail (IsTable s) table from tables) (more_facts b table (All-head (IsTable s) table from tables) h)

    same_params : (from : List ℕ) (b : Branch) → (with_facts s side round b from).params ≡ b.params
    same_params [] b = refl
    same_params (table ∷ from) b = same_params from (with_fact s side round b table)

    same_vars : (from : List ℕ) (b : Branch) → (with_facts s side round b from).vars ≡ b.vars
    same_vars [] b = refl
    same_vars (table ∷ from) b = same_vars from (with_fact s side round b table)

    fact_tidy : (b : Branch) (table : ℕ) → IsTable s table → IsTidy p b → IsTidy p (with_fact s side round b table)
    fact_tidy b table is_table h =
        let new = with_fact s side round b table in
        record {
          facts = more_facts b table is_table h.facts;
          goal = row_there_more b.known new.known (more_unknowns s side round b table) b.goal h.goal;
          goal_wide = h.goal_wide;
          params = h.params;
          vars = h.vars;
          laid = fact_laid b table h.laid;
        }

    facts_tidy : (from : List ℕ) (b : Branch) → All (IsTable s) from → IsTidy p b → IsTidy p (with_facts s side round b from)
    facts_tidy [] b tables h = h
    facts_tidy (table ∷ from) b tables h =
        facts_tidy from (with_fact s side round b table) (All-tail (IsTable s) table from tables) (fact_tidy b table (All-head (IsTable s) table from tables) h)

    case_tidy : (b : Branch) (row : List Term) (part : Part) (new : Branch) → HasTables s part → IsTidy p b → IsCase s b side round row part new → IsTidy p new
    case_tidy b row part new tables h case =
        subst (IsTidy p) (sym case.new_is)
        (lessons_tidy (with_facts s side round b part.from) (case.atoms ++ case.heads) (facts_tidy part.from b tables h))

    cases_tidy : (b : Branch) (row : List Term) (parts : List Part) (cases : List Branch) → All (HasTables s) parts → IsTidy p b →
        AllZip (IsCase s b side round row) parts cases → All (IsTidy p) cases
    cases_tidy b row [] [] tables h zip = All-nil (IsTidy p)
    cases_tidy b row [] (new ∷ cases) tables h zip = absurd zip
    cases_tidy b row (part ∷ parts) [] tables h zip = absurd zip
    cases_tidy b row (part ∷ parts) (new ∷ cases) tables h zip =
        All-cons (IsTidy p) new cases (case_tidy b row part new (All-head (HasTables s) part parts tables) h zip.0)
        (cases_tidy b row parts cases (All-tail (HasTables s) part parts tables) h zip.1)

  tables_of : (params vars : List Kind) (q : Query) → QueryFits s params vars q → All (HasTables s) q.parts
  tables_of params vars q fits = All-weaker (PartFits s params vars fits.kinds) (HasTables s) (λ part it. it.tables) q.parts fits.parts

  one_tidy : (b : Branch) (cases : List Branch) → cases ≡ b ∷ [] → IsTidy p b → All (IsTidy p) cases
  one_tidy b cases e h = subst (All (IsTidy p)) (sym e) (All-cons (IsTidy p) b [] h (All-nil (IsTidy p)))

  none_tidy : (cases : List Branch) → cases ≡ [] → All (IsTidy p) cases
  none_tidy cases e = subst (All (IsTidy p)) (sym e) (All-nil (IsTidy p))

  -- ---- steps

  module _ (fits : ProblemFits p) where
    target_is_table : (b : Branch) (link fact : ℕ) (cases : List Branch) (leads : LinkLeads p b link fact cases) → IsTable s leads.passes.it.target
    target_is_table b link fact cases leads =
        let links = All-at (λ (table : Table). All (LinkFits s) table.links) s.tables leads.passes.f.table leads.passes.link_of.table fits.links leads.passes.link_of.table_is in
        let it = All-at (LinkFits s) leads.passes.link_of.table.links link leads.passes.it links leads.passes.link_of.link_is in
        λ e. cc (it.target_is)

    leads_tidy : (b : Branch) (step : Step) (cases : List Branch) → IsTidy p b → Leads p b step cases → All (IsTidy p) cases
    leads_tidy b (steps.Entry branch entry) cases h leads =
        let it = All-at (EntryFits p) p.entries entry leads.passes.it fits.entries leads.passes.there in
        cases_tidy One leads.round b leads.row leads.passes.it.query.parts cases (tables_of (kinds_of p.policy.params) p.vars leads.passes.it.query it.query.fits) h leads.cases_are
    leads_tidy b (steps.Key branch key left right) cases h leads = one_tidy (with_lessons b _) cases leads.cases_are (lessons_tidy b _ h)
    leads_tidy b (steps.Link branch link fact) cases h leads =
        let target = fact_tidy leads.passes.f.side (1 + leads.passes.f.round) b leads.passes.it.target (target_is_table b link fact cases leads) h in
        one_tidy (with_lessons (with_fact s leads.passes.f.side (1 + leads.passes.f.round) b leads.passes.it.target) leads.lessons) cases leads.cases_are
        (lessons_tidy (with_fact s leads.passes.f.side (1 + leads.passes.f.round) b leads.passes.it.target) leads.lessons target)
    leads_tidy b (steps.Rule branch rule part facts) cases h leads =
        let it = All-at (RuleFits s) s.rules rule leads.passes.is_part.of fits.rules leads.passes.is_part.rule_is in
        cases_tidy leads.passes.side (1 + round_of b facts) b leads.next.row leads.passes.is_part.of.right.parts cases (tables_of [] [] leads.passes.is_part.of.right it.right.fits) h leads.next.cases_are
    leads_tidy b (steps.View branch view part facts) cases h leads =
        let it = All-at (λ (v : View). IsQuery s (kinds_of p.policy.params) [] v.query) p.policy.views view leads.passes.is_part.of (fits.policy).views leads.passes.is_part.view_is in
        cases_tidy Two (1 + round_of b facts) b leads.next.row leads.passes.is_part.of.query.parts cases (tables_of (kinds_of p.policy.params) [] leads.passes.is_part.of.query it.fits) h leads.next.cases_are
    leads_tidy b (steps.Split branch atom) cases h leads =
        subst (All (IsTidy p)) (sym leads.cases_are)
        (All-cons (IsTidy p) (with_lessons b _) (with_lessons b _ ∷ []) (lessons_tidy b _ h) (All-cons (IsTidy p) (with_lessons b _) [] (lessons_tidy b _ h) (All-nil (IsTidy p))))
    leads_tidy b (steps.Absurd branch) cases h leads = none_tidy cases leads.cases_are
    leads_tidy b (steps.Goal branch part facts) cases h leads = none_tidy cases leads.cases_are

    -- ---- starts

    start_tidy : (part : Part) (new : Branch) → PartFits s (kinds_of p.policy.params) p.vars fits.goal.fits.kinds part → IsStartOf p part new → IsTidy p new
    start_tidy part new of h =
        let rows = with_facts s One 0 (nothing_known p) part.from in
        let learned = with_lessons rows (h.atoms ++ h.assumed) in
        let there = facts_there s One 0 part.from (nothing_known p) (nothing_there p) in
        let goal_there = row_there rows (range_with_len 0 (length part.from)) part.head h.goal there h.goal_is in
        let kinds_wide = same_count (kind_of s (kinds_of p.policy.params) p.vars part.from) part.head fits.goal.fits.kinds of.head in
        let wide = same_count (term_of (rows_at rows (range_with_len 0 (length part.from)))) part.head h.goal h.goal_is in
        let it : IsTidy p (record learned { goal = h.goal }) =
        record {
          facts = All-weaker (FactIsTidy s rows.known) (FactIsTidy s learned.known) (fact_stays_tidy s rows.known learned.known (omega arith)) rows.facts
              (all_facts One 0 part.from (nothing_known p) of.tables (All-nil (FactIsTidy s (nothing_known p).known)));
          goal = row_there_more rows.known learned.known (omega arith) h.goal goal_there;
          goal_wide = All-weaker (PartFits s (kinds_of p.policy.params) p.vars fits.goal.fits.kinds) (λ (other : Part). length other.head ≡ length h.goal)
              (λ other fit. same_count (kind_of s (kinds_of p.policy.params) p.vars other.from) other.head fits.goal.fits.kinds fit.head ∙ (sym kinds_wide ∙ wide))
              p.goal.parts fits.goal.fits.parts;
          params = same_params One 0 part.from (nothing_known p);
          vars = same_vars One 0 part.from (nothing_known p);
          laid = facts_laid One 0 part.from (nothing_known p) refl;
        } in
        subst (IsTidy p) (sym h.new_is) it

    starts_tidy : (parts : List Part) (branches : List Branch) → All (PartFits s (kinds_of p.policy.params) p.vars fits.goal.fits.kinds) parts →
        AllZip (IsStartOf p) parts branches → All (IsTidy p) branches
    starts_tidy [] [] of h = All-nil (IsTidy p)
    starts_tidy [] (b ∷ branches) of h = absurd h
    starts_tidy (part ∷ parts) [] of h = absurd h
    starts_tidy (part ∷ parts) (b ∷ branches) of h =
        All-cons (IsTidy p) b branches (start_tidy part b (All-head (PartFits s (kinds_of p.policy.params) p.vars fits.goal.fits.kinds) part parts of) h.0)
        (starts_tidy parts branches (All-tail (PartFits s (kinds_of p.policy.params) p.vars fits.goal.fits.kinds) part parts of) h.1)

    -- ---- courses

    abbrev SlotIsTidy : Option Branch → Type 0
    SlotIsTidy None = Unit {0}
    SlotIsTidy (Some b) = IsTidy p b

    after_tidy : (slots : Slots) (n : ℕ) (cases : List Branch) → All SlotIsTidy slots → All (IsTidy p) cases → All SlotIsTidy (after slots n cases)
    after_tidy slots n [] all h = All-set SlotIsTidy slots n None tt all
    after_tidy slots n (b ∷ others) all h =
        All-append SlotIsTidy _ (map Some others) (All-set SlotIsTidy slots n (Some b) (All-head (IsTidy p) b others h) all)
        (All-map SlotIsTidy Some others (All-tail (IsTidy p) b others h))

    runs_tidy : {taken : List Step} {slots : Slots} → Runs p taken slots → All SlotIsTidy slots
    runs_tidy (start {slots = slots} h) =
        subst (All SlotIsTidy) (sym h.slots_are) (All-map SlotIsTidy Some h.branches (starts_tidy p.goal.parts h.branches fits.goal.fits.parts h.starts))
    runs_tidy (next {step = step} {old = old} {new = new} runs takes) =
        let before = runs_tidy runs in
        let tidy = All-at SlotIsTidy old (branch_of step) (Some takes.branch) before takes.open_ in
        subst (All SlotIsTidy) (sym takes.new_is) (after_tidy old (branch_of step) takes.cases before (leads_tidy takes.branch step takes.cases tidy takes.leads))

pub runs_are_tidy : RunsAreTidy
runs_are_tidy p taken slots fits runs n b is_open = All-at (SlotIsTidy p fits) slots n (Some b) (runs_tidy p fits runs) is_open
