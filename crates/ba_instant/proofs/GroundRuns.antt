-- The open branches of a course are grounded.
use Rattle.std.proofs.Common.{◌≡◌, ℕ, ◌+◌, ◌<◌, List, [], ◌∷◌, ◌++◌, length, map, refl, sym, subst}
use Rattle.std.proofs.lemmas.List.Elements.{All-append, All-cons, All-head, All-map, All-nil, All-set, All-tail}
use Rattle.std.proofs.lemmas.Option.{slice_get_within}
use Rattle.std.specs.List.{All, AllZip, range_with_len}
use Rattle.std.specs.Option.{option_map}
use Rattle.std.specs.Prelude.{Option, Some, None, slice_get}
use Rattle.ba_model.specs.declared.query.Op.{Op}
use Rattle.ba_model.specs.declared.query.Op.TheVariants.{Eq, Ne, Lt, Le, IsNull, NotNull}
use Rattle.ba_model.specs.declared.query.Operand.{Operand}
use Rattle.ba_model.specs.declared.query.Part.{Part}
use Rattle.ba_model.specs.declared.schema.Kind.{Kind}
use Rattle.ba_facts.specs.Knowing.{IsThere, LessonIsThere}
use Rattle.ba_facts.specs.Laws.{kind_of_term}
use Rattle.ba_facts.specs.Matches.{round_of, term_of, terms_at}
use Rattle.ba_facts.specs.declared.branch.Branch.{Branch}
use Rattle.ba_facts.specs.declared.term.Fact.{Fact}
use Rattle.ba_facts.specs.declared.term.Lesson.{Lesson}
use Rattle.ba_facts.specs.declared.term.Lesson.TheVariants.{Holds}
use Rattle.ba_facts.specs.declared.term.Side.TheVariants.{One, Two}
use Rattle.ba_facts.specs.declared.term.Sort.{Sort}
use Rattle.ba_facts.specs.declared.term.Term.{Term}
use Rattle.ba_facts.specs.declared.term.Term.TheVariants.{Unknown, Val, Param, Var}
use Rattle.ba_facts.specs.declared.term.TermAtom.{TermAtom}
use Rattle.ba_kernel.proofs.BuildNext.{row_there, tidy_there}
use Rattle.ba_kernel.proofs.BuildStarts.{nothing_there}
use Rattle.ba_kernel.proofs.StepFits.{All-at}
use Rattle.ba_kernel.proofs.TidyLemmas.{facts_there, operand_there, row_there_more, term_there, terms_there, unknowns_kept}
use Rattle.ba_kernel.proofs.TidyRuns.{runs_are_tidy}
use Rattle.ba_kernel.specs.Courses.{IsStartOf, ProblemFits, Runs, Slots, after, branch_of, nothing_known, start, next}
use Rattle.ba_kernel.specs.Effects.{negation, negation_of, rows_at, with_facts, with_lessons}
use Rattle.ba_kernel.specs.Steps.{KeyLeads, Leads, LinkLeads, SplitLeads}
use Rattle.ba_kernel.specs.SearchStates.{IsTidy}
use Rattle.ba_kernel.specs.Tidy.{FactsAreThere, TermsAreThere}
use Rattle.ba_kernel.specs.declared.problem.Problem.{Problem}
use Rattle.ba_kernel.specs.declared.step.Step.{Step}
use Rattle.ba_kernel.specs.declared.step.Step.TheVariants as steps
use Rattle.ba_instant.proofs.GroundLemmas.{LessonsAreThere, atoms_there, cases_there, facts_keep, lessons_more, links_there, pairs_there}
use Rattle.ba_instant.specs.Windows.{RunsAreGrounded}

-- ---- terms with a kind

kind_there : (b : Branch) (t : Term) (kind : Kind) → kind_of_term b t ≡ Some kind → IsThere b.known t
kind_there b (Unknown n) kind e = at (slice_get b.known.unknowns n) refl e
  where
    at : (o : Option Sort) → slice_get b.known.unknowns n ≡ o → option_map (λ sort. sort.kind) o ≡ Some kind → n < length b.known.unknowns
    at None is e = cc
    at (Some sort) is e = slice_get_within b.known.unknowns n sort is
kind_there b (Val v) kind e = tt
kind_there b (Param n) kind e = tt
kind_there b (Var n) kind e = tt

negation_there : (b : Branch) (op : Op) (x y : Term) → IsThere b.known x → IsThere b.known y → LessonIsThere b.known (Holds (negation_of op x y))
negation_there b Eq x y h g = (h, g)
negation_there b Ne x y h g = (h, g)
negation_there b Lt x y h g = (g, h)
negation_there b Le x y h g = (g, h)
negation_there b IsNull x y h g = (h, g)
negation_there b NotNull x y h g = (h, g)

-- ---- steps

module _ (p : Problem) where
  one_there : (cases : List Branch) (new : Branch) → cases ≡ new ∷ [] → LessonsAreThere new → All LessonsAreThere cases
  one_there cases new e h = subst (All LessonsAreThere) (sym e) (All-cons LessonsAreThere new [] h (All-nil LessonsAreThere))

  none_there : (cases : List Branch) → cases ≡ [] → All LessonsAreThere cases
  none_there cases e = subst (All LessonsAreThere) (sym e) (All-nil LessonsAreThere)

  fact_terms : (b : Branch) (n : ℕ) (f : Fact) → FactsAreThere b → slice_get b.facts n ≡ Some f → TermsAreThere b.known f.terms
  fact_terms b n f facts e = All-at (λ (fact : Fact). TermsAreThere b.known fact.terms) b.facts n f facts.facts e

  key_there : (b : Branch) (key left right : ℕ) (cases : List Branch) → FactsAreThere b → LessonsAreThere b → KeyLeads p b key left right cases → All LessonsAreThere cases
  key_there b key left right cases facts h leads =
      let f = fact_terms b left leads.passes.f facts leads.passes.pair.left_is in
      let g = fact_terms b right leads.passes.g facts leads.passes.pair.right_is in
      one_there cases _ leads.cases_are (lessons_more b _ h (pairs_there b.known leads.passes.f.terms leads.passes.g.terms f g))

  link_there : (b : Branch) (link fact : ℕ) (cases : List Branch) → FactsAreThere b → LessonsAreThere b → LinkLeads p b link fact cases → All LessonsAreThere cases
  link_there b link fact cases facts h leads =
      let s = p.policy.schema in
      let side = leads.passes.f.side in
      let round = 1 + leads.passes.f.round in
      let from = leads.passes.it.target ∷ [] in
      let mid = with_facts s side round b from in
      let mid_facts = facts_there s side round from b facts in
      let f = row_there_more b.known mid.known (unknowns_kept s side round from b) leads.passes.f.terms (fact_terms b fact leads.passes.f facts leads.passes.fact_is) in
      let lessons = links_there mid.known leads.passes.f.terms (terms_at mid (length b.facts)) f (terms_there mid (length b.facts) mid_facts) _ leads.lessons leads.lessons_are in
      one_there cases (with_lessons mid leads.lessons) leads.cases_are (lessons_more mid leads.lessons (facts_keep s side round from b h) lessons)

  split_there : (b : Branch) (atom : TermAtom) (cases : List Branch) → LessonsAreThere b → SplitLeads b atom cases → All LessonsAreThere cases
  split_there b atom cases h leads =
      let left = kind_there b atom.left leads.passes.kind leads.passes.sides.left in
      let right = kind_there b atom.right leads.passes.kind leads.passes.sides.right in
      let one : (lesson : Lesson) → LessonIsThere b.known lesson → LessonsAreThere (with_lessons b (lesson ∷ [])) =
      λ lesson is. lessons_more b (lesson ∷ []) h (All-cons (LessonIsThere b.known) lesson [] is (All-nil (LessonIsThere b.known))) in
      subst (All LessonsAreThere) (sym leads.cases_are)
      (All-cons LessonsAreThere (with_lessons b (Holds atom ∷ [])) (with_lessons b (Holds (negation atom) ∷ []) ∷ []) (one (Holds atom) (left, right))
      (All-cons LessonsAreThere (with_lessons b (Holds (negation atom) ∷ [])) [] (one (Holds (negation atom)) (negation_there b atom.op atom.left atom.right left right))
      (All-nil LessonsAreThere)))

  leads_there : (b : Branch) (step : Step) (cases : List Branch) → FactsAreThere b → LessonsAreThere b → Leads p b step cases → All LessonsAreThere cases
  leads_there b (steps.Entry branch entry) cases facts h leads =
      let row = row_there b [] leads.passes.it.row leads.row facts leads.row_is in
      cases_there p.policy.schema One leads.round b leads.row leads.passes.it.query.parts cases facts row h leads.cases_are
  leads_there b (steps.Key branch key left right) cases facts h leads = key_there b key left right cases facts h leads
  leads_there b (steps.Link branch link fact) cases facts h leads = link_there b link fact cases facts h leads
  leads_there b (steps.Rule branch rule part numbers) cases facts h leads =
      let row = row_there b numbers leads.passes.it.head leads.next.row facts leads.next.row_is in
      cases_there p.policy.schema leads.passes.side (1 + round_of b numbers) b leads.next.row leads.passes.is_part.of.right.parts cases facts row h leads.next.cases_are
  leads_there b (steps.View branch view part numbers) cases facts h leads =
      let row = row_there b numbers leads.passes.it.head leads.next.row facts leads.next.row_is in
      cases_there p.policy.schema Two (1 + round_of b numbers) b leads.next.row leads.passes.is_part.of.query.parts cases facts row h leads.next.cases_are
  leads_there b (steps.Split branch atom) cases facts h leads = split_there b atom cases h leads
  leads_there b (steps.Absurd branch) cases facts h leads = none_there cases leads.cases_are
  leads_there b (steps.Goal branch part numbers) cases facts h leads = none_there cases leads.cases_are

  -- ---- starts

  start_there : (part : Part) (new : Branch) → IsStartOf p part new → LessonsAreThere new
  start_there part new h =
      let s = p.policy.schema in
      let mid = with_facts s One 0 (nothing_known p) part.from in
      let numbers = range_with_len 0 (length part.from) in
      let mid_facts = facts_there s One 0 part.from (nothing_known p) (nothing_there p) in
      let there : (x : Operand) (t : Term) → term_of (rows_at mid numbers) x ≡ Some t → IsThere mid.known t = λ x t e. term_there mid numbers x t mid_facts e in
      let plain : (x : Operand) (t : Term) → term_of [] x ≡ Some t → IsThere mid.known t = λ x t e. operand_there mid.known [] x t (All-nil (TermsAreThere mid.known)) e in
      let lessons = All-append (LessonIsThere mid.known) h.atoms h.assumed (atoms_there mid.known (rows_at mid numbers) there part.conds h.atoms h.atoms_are)
      (atoms_there mid.known [] plain p.assumed h.assumed h.assumed_are) in
      let it : LessonsAreThere (record (with_lessons mid (h.atoms ++ h.assumed)) { goal = h.goal }) =
      lessons_more mid (h.atoms ++ h.assumed) (facts_keep s One 0 part.from (nothing_known p) (All-nil (LessonIsThere (nothing_known p).known))) lessons in
      subst LessonsAreThere (sym h.new_is) it

  starts_there : (parts : List Part) (branches : List Branch) → AllZip (IsStartOf p) parts branches → All LessonsAreThere branches
  starts_there [] [] h = All-nil LessonsAreThere
  starts_there [] (b ∷ branches) h = absurd h
  starts_there (part ∷ parts) [] h = absurd h
  starts_there (part ∷ parts) (b ∷ branches) h = All-cons LessonsAreThere b branches (start_there part b h.0) (starts_there parts branches h.1)

  -- ---- courses

  abbrev SlotIsThere : Option Branch → Type 0
  SlotIsThere None = Unit {0}
  SlotIsThere (Some b) = LessonsAreThere b

  after_there : (slots : Slots) (n : ℕ) (cases : List Branch) → All SlotIsThere slots → All LessonsAreThere cases → All SlotIsThere (after slots n cases)
  after_there slots n [] all h = All-set SlotIsThere slots n None tt all
  after_there slots n (b ∷ others) all h =
      All-append SlotIsThere _ (map Some others) (All-set SlotIsThere slots n (Some b) (All-head LessonsAreThere b others h) all)
      (All-map SlotIsThere Some others (All-tail LessonsAreThere b others h))

  runs_there : ProblemFits p → {taken : List Step} {slots : Slots} → Runs p taken slots → All SlotIsThere slots
  runs_there fits (start h) = subst (All SlotIsThere) (sym h.slots_are) (All-map SlotIsThere Some h.branches (starts_there p.goal.parts h.branches h.starts))
  runs_there fits (next {taken = taken} {step = step} {old = old} runs takes) =
      let before = runs_there fits runs in
      let lessons = All-at SlotIsThere old (branch_of step) (Some takes.branch) before takes.open_ in
      let facts = tidy_there p takes.branch (runs_are_tidy p taken old fits runs (branch_of step) takes.branch takes.open_) in
      subst (All SlotIsThere) (sym takes.new_is) (after_there old (branch_of step) takes.cases before (leads_there takes.branch step takes.cases facts lessons takes.leads))

pub runs_are_grounded : RunsAreGrounded
runs_are_grounded p taken slots number b fits runs is_open =
    let tidy : IsTidy p b = runs_are_tidy p taken slots fits runs number b is_open in
    record {
      facts = (tidy_there p b tidy).facts;
      goal = tidy.goal;
      lessons = All-at (SlotIsThere p) slots number (Some b) (runs_there p fits runs) is_open;
    }
