-- The terms of a question's open branches have values in its context.
use Rattle.std.proofs.Common.{◌≡◌, ℕ, zero, suc, ◌+◌, ◌<◌, List, [], ◌∷◌, ◌++◌, length, map, refl, sym, subst, arith}
use Rattle.std.proofs.lemmas.List.Elements.{All-append, All-cons, All-head, All-map, All-nil, All-push, All-set, All-tail}
use Rattle.std.specs.List.{All, AllZip, range_with_len}
use Rattle.std.specs.Option.{option_map}
use Rattle.std.specs.Prelude.{Option, Some, None, option_and_then, slice_get, unwrap_or}
use Rattle.ba_facts.specs.Knowing.{IsThere}
use Rattle.ba_facts.specs.Known.{Known}
use Rattle.ba_facts.specs.Matches.{round_of, term_of, terms_at}
use Rattle.ba_facts.specs.declared.branch.Branch.{Branch}
use Rattle.ba_facts.specs.declared.term.Fact.{Fact}
use Rattle.ba_facts.specs.declared.term.Lesson.{Lesson}
use Rattle.ba_facts.specs.declared.term.Side.{Side}
use Rattle.ba_facts.specs.declared.term.Side.TheVariants.{One, Two}
use Rattle.ba_facts.specs.declared.term.Term.{Term}
use Rattle.ba_facts.specs.declared.term.Term.TheVariants as terms
use Rattle.ba_kernel.proofs.StepFits.{All-at}
use Rattle.ba_kernel.specs.Courses.{IsStartOf, Runs, Slots, after, branch_of, nothing_known, start, next}
use Rattle.ba_kernel.specs.Effects.{IsCase, rows_at, with_fact, with_facts, with_lessons}
use Rattle.ba_kernel.specs.Steps.{Leads}
use Rattle.ba_kernel.specs.SearchStates.{FactIsTidy}
use Rattle.ba_kernel.specs.declared.problem.Problem.{Problem}
use Rattle.ba_kernel.specs.declared.step.Step.{Step}
use Rattle.ba_kernel.specs.declared.step.Step.TheVariants as steps
use Rattle.ba_model.specs.Conform.{IsOfKind}
use Rattle.ba_model.specs.Fit.{ContextFits, PartFits, kind_of, kinds_of}
use Rattle.ba_model.specs.SchemaFaults.{columns_of}
use Rattle.ba_model.specs.declared.policy.Context.{Context}
use Rattle.ba_model.specs.declared.query.Operand.{Operand}
use Rattle.ba_model.specs.declared.query.Operand.TheVariants.{Col, Val, Param, Var}
use Rattle.ba_model.specs.declared.query.Part.{Part}
use Rattle.ba_model.specs.declared.schema.Kind.{Kind}
use Rattle.ba_model.specs.declared.schema.Schema.{Schema}
use Rattle.ba_model.specs.declared.value.Value.{Value}
use Rattle.ba_refute.specs.Images.{FactIsValued, IsValued}

-- the term is an unknown, a literal, or a parameter that has a value
abbrev pub IsFixed : Context → Term → Type 0
IsFixed c (terms.Unknown n) = Unit {0}
IsFixed c (terms.Val v) = Unit {0}
IsFixed c (terms.Param n) = n < length c.values
IsFixed c (terms.Var n) = ⊥

abbrev pub AreFixed : Context → List Term → Type 0
AreFixed c ts = All (IsFixed c) ts

abbrev pub FactIsFixed : Context → Fact → Type 0
FactIsFixed c fact = AreFixed c fact.terms

pub record IsFixedOn (c : Context) (b : Branch) : Type 0 where
  pub facts : All (FactIsFixed c) b.facts
  pub goal : AreFixed c b.goal

-- ---- with what is there

given_of : (c : Context) (k : Known) (t : Term) → IsFixed c t → IsThere k t → IsValued (length k.unknowns) c t
given_of c k (terms.Unknown n) fixed there = there
given_of c k (terms.Val v) fixed there = tt
given_of c k (terms.Param n) fixed there = fixed
given_of c k (terms.Var n) fixed there = absurd fixed

pub all_given : (c : Context) (k : Known) (ts : List Term) → AreFixed c ts → All (IsThere k) ts → All (IsValued (length k.unknowns) c) ts
all_given c k [] fixed there = All-nil (IsValued (length k.unknowns) c)
all_given c k (t ∷ ts) fixed there =
    All-cons (IsValued (length k.unknowns) c) t ts (given_of c k t (All-head (IsFixed c) t ts fixed) (All-head (IsThere k) t ts there))
    (all_given c k ts (All-tail (IsFixed c) t ts fixed) (All-tail (IsThere k) t ts there))

pub facts_given : (c : Context) (s : Schema) (k : Known) (facts : List Fact) → All (FactIsFixed c) facts → All (FactIsTidy s k) facts → All (FactIsValued (length k.unknowns) c) facts
facts_given c s k [] fixed tidy = All-nil (FactIsValued (length k.unknowns) c)
facts_given c s k (f ∷ facts) fixed tidy =
    let it = All-head (FactIsTidy s k) f facts tidy in
    All-cons (FactIsValued (length k.unknowns) c) f facts (all_given c k f.terms (All-head (FactIsFixed c) f facts fixed) it.there)
    (facts_given c s k facts (All-tail (FactIsFixed c) f facts fixed) (All-tail (FactIsTidy s k) f facts tidy))

-- ---- facts and lessons that are added

unknowns_fixed : (c : Context) (ns : List ℕ) → AreFixed c (map terms.Unknown ns)
unknowns_fixed c [] = All-nil (IsFixed c)
unknowns_fixed c (n ∷ ns) = All-cons (IsFixed c) (terms.Unknown n) (map terms.Unknown ns) tt (unknowns_fixed c ns)

module _ (c : Context) (s : Schema) where
  lessons_fixed : (b : Branch) (lessons : List Lesson) → IsFixedOn c b → IsFixedOn c (with_lessons b lessons)
  lessons_fixed b lessons h = record { facts = h.facts; goal = h.goal }

  fact_fixed : (side : Side) (round : ℕ) (b : Branch) (table : ℕ) → IsFixedOn c b → IsFixedOn c (with_fact s side round b table)
  fact_fixed side round b table h = record {
    facts = All-push (FactIsFixed c) b.facts
        (record { side = side; table = table; terms = map terms.Unknown (range_with_len (length b.known.unknowns) (length (columns_of s.tables table))); round = round })
        h.facts (unknowns_fixed c (range_with_len (length b.known.unknowns) (length (columns_of s.tables table))));
    goal = h.goal;
  }

  facts_fixed : (side : Side) (round : ℕ) (from : List ℕ) (b : Branch) → IsFixedOn c b → IsFixedOn c (with_facts s side round b from)
  facts_fixed side round [] b h = h
  facts_fixed side round (table ∷ from) b h = facts_fixed side round from (with_fact s side round b table) (fact_fixed side round b table h)

  case_fixed : (side : Side) (round : ℕ) (b : Branch) (row : List Term) (part : Part) (new : Branch) → IsFixedOn c b → IsCase s b side round row part new → IsFixedOn c new
  case_fixed side round b row part new h case =
      subst (IsFixedOn c) (sym case.new_is) (lessons_fixed (with_facts s side round b part.from) (case.atoms ++ case.heads) (facts_fixed side round part.from b h))

  cases_fixed : (side : Side) (round : ℕ) (b : Branch) (row : List Term) (parts : List Part) (cases : List Branch) → IsFixedOn c b → AllZip (IsCase s b side round row) parts cases → All (IsFixedOn c) cases
  cases_fixed side round b row [] [] h zip = All-nil (IsFixedOn c)
  cases_fixed side round b row [] (new ∷ cases) h zip = absurd zip
  cases_fixed side round b row (part ∷ parts) [] h zip = absurd zip
  cases_fixed side round b row (part ∷ parts) (new ∷ cases) h zip =
      All-cons (IsFixedOn c) new cases (case_fixed side round b row part new h zip.0) (cases_fixed side round b row parts cases h zip.1)

-- ---- steps

module _ (c : Context) (p : Problem) where
  abbrev s : Schema
  s = p.policy.schema

  one_fixed : (b : Branch) (cases : List Branch) → cases ≡ b ∷ [] → IsFixedOn c b → All (IsFixedOn c) cases
  one_fixed b cases e h = subst (All (IsFixedOn c)) (sym e) (All-cons (IsFixedOn c) b [] h (All-nil (IsFixedOn c)))

  none_fixed : (cases : List Branch) → cases ≡ [] → All (IsFixedOn c) cases
  none_fixed cases e = subst (All (IsFixedOn c)) (sym e) (All-nil (IsFixedOn c))

  leads_fixed : (b : Branch) (step : Step) (cases : List Branch) → IsFixedOn c b → Leads p b step cases → All (IsFixedOn c) cases
  leads_fixed b (steps.Entry branch entry) cases h leads = cases_fixed c s One leads.round b leads.row leads.passes.it.query.parts cases h leads.cases_are
  leads_fixed b (steps.Key branch key left right) cases h leads = one_fixed (with_lessons b _) cases leads.cases_are (lessons_fixed c s b _ h)
  leads_fixed b (steps.Link branch link fact) cases h leads =
      let target = with_fact s leads.passes.f.side (1 + leads.passes.f.round) b leads.passes.it.target in
      one_fixed (with_lessons target leads.lessons) cases leads.cases_are
      (lessons_fixed c s target leads.lessons (fact_fixed c s leads.passes.f.side (1 + leads.passes.f.round) b leads.passes.it.target h))
  leads_fixed b (steps.Rule branch rule part facts) cases h leads =
      cases_fixed c s leads.passes.side (1 + round_of b facts) b leads.next.row leads.passes.is_part.of.right.parts cases h leads.next.cases_are
  leads_fixed b (steps.View branch view part facts) cases h leads =
      cases_fixed c s Two (1 + round_of b facts) b leads.next.row leads.passes.is_part.of.query.parts cases h leads.next.cases_are
  leads_fixed b (steps.Split branch atom) cases h leads =
      subst (All (IsFixedOn c)) (sym leads.cases_are)
      (All-cons (IsFixedOn c) (with_lessons b _) (with_lessons b _ ∷ []) (lessons_fixed c s b _ h)
      (All-cons (IsFixedOn c) (with_lessons b _) [] (lessons_fixed c s b _ h) (All-nil (IsFixedOn c))))
  leads_fixed b (steps.Absurd branch) cases h leads = none_fixed cases leads.cases_are
  leads_fixed b (steps.Goal branch part facts) cases h leads = none_fixed cases leads.cases_are

-- ---- the goal row

at_fixed : (c : Context) (o : Option Fact) → ((fact : Fact) → o ≡ Some fact → FactIsFixed c fact) → AreFixed c (unwrap_or (option_map (λ (fact : Fact). fact.terms) o) [])
at_fixed c None h = All-nil (IsFixed c)
at_fixed c (Some fact) h = h fact refl

rows_fixed : (c : Context) (b : Branch) (facts : List ℕ) → All (FactIsFixed c) b.facts → All (AreFixed c) (rows_at b facts)
rows_fixed c b [] h = All-nil (AreFixed c)
rows_fixed c b (n ∷ facts) h =
    All-cons (AreFixed c) (terms_at b n) (rows_at b facts) (at_fixed c (slice_get b.facts n) (λ fact is. All-at (FactIsFixed c) b.facts n fact h is)) (rows_fixed c b facts h)

cell_fixed : (c : Context) (rows : List (List Term)) (place column : ℕ) (t : Term) → All (AreFixed c) rows →
    option_and_then (λ row. slice_get row column) (slice_get rows place) ≡ Some t → IsFixed c t
cell_fixed c [] place column t h e = cc
cell_fixed c (row ∷ rows) zero column t h e = All-at (IsFixed c) row column t (All-head (AreFixed c) row rows h) e
cell_fixed c (row ∷ rows) (suc place) column t h e = cell_fixed c rows place column t (All-tail (AreFixed c) row rows h) e

param_below : (kinds : List Kind) (values : List Value) (n : ℕ) (kind : Kind) → AllZip IsOfKind kinds values → slice_get kinds n ≡ Some kind → n < length values
param_below [] [] n kind h e = cc
param_below [] (v ∷ values) n kind h e = cc
param_below (k ∷ kinds) [] n kind h e = absurd h
param_below (k ∷ kinds) (v ∷ values) zero kind h e = omega arith
param_below (k ∷ kinds) (v ∷ values) (suc n) kind h e = let below = param_below kinds values n kind h.1 e in omega arith

module _ (c : Context) (s : Schema) (params : List Kind) (from : List ℕ) (rows : List (List Term)) (fits : ContextFits params c) (fixed : All (AreFixed c) rows) where
  term_fixed : (x : Operand) (t : Term) (kind : Kind) → kind_of s params [] from x ≡ Some kind → term_of rows x ≡ Some t → IsFixed c t
  term_fixed (Col place column) t kind k e = cell_fixed c rows place column t fixed e
  term_fixed (Val v) t kind k e = subst (IsFixed c) (let is : terms.Val v ≡ t = cc in is) tt
  term_fixed (Param n) t kind k e = subst (IsFixed c) (let is : terms.Param n ≡ t = cc in is) (param_below params c.values n kind fits k)
  term_fixed (Var n) t kind k e = cc

  head_fixed : (head : List Operand) (goal : List Term) (kinds : List Kind) → map (kind_of s params [] from) head ≡ map Some kinds → map (term_of rows) head ≡ map Some goal → AreFixed c goal
  head_fixed [] [] kinds k e = All-nil (IsFixed c)
  head_fixed [] (t ∷ goal) kinds k e = cc
  head_fixed (x ∷ head) [] kinds k e = cc
  head_fixed (x ∷ head) (t ∷ goal) [] k e = cc
  head_fixed (x ∷ head) (t ∷ goal) (kind ∷ kinds) k e =
      let kind_is : kind_of s params [] from x ≡ Some kind = cc in
      let kinds_are : map (kind_of s params [] from) head ≡ map Some kinds = cc in
      let term_is : term_of rows x ≡ Some t = cc in
      let terms_are : map (term_of rows) head ≡ map Some goal = cc in
      All-cons (IsFixed c) t goal (term_fixed x t kind kind_is term_is) (head_fixed head goal kinds kinds_are terms_are)

-- ---- courses

module _ (c : Context) (p : Problem) (kinds : List Kind) (fits : ContextFits (kinds_of p.policy.params) c)
    (parts_fit : All (PartFits p.policy.schema (kinds_of p.policy.params) [] kinds) p.goal.parts) where
  start_fixed : (part : Part) (new : Branch) → PartFits p.policy.schema (kinds_of p.policy.params) [] kinds part → IsStartOf p part new → IsFixedOn c new
  start_fixed part new of h =
      let rows = with_facts p.policy.schema One 0 (nothing_known p) part.from in
      let numbers = range_with_len 0 (length part.from) in
      let fixed = facts_fixed c p.policy.schema One 0 part.from (nothing_known p) (record { facts = All-nil (FactIsFixed c); goal = All-nil (IsFixed c) }) in
      subst (IsFixedOn c) (sym h.new_is)
      (record {
        facts = fixed.facts;
        goal = head_fixed c p.policy.schema (kinds_of p.policy.params) part.from (rows_at rows numbers) fits (rows_fixed c rows numbers fixed.facts) part.head h.goal kinds of.head h.goal_is;
      })

  starts_fixed : (parts : List Part) (branches : List Branch) → All (PartFits p.policy.schema (kinds_of p.policy.params) [] kinds) parts →
      AllZip (IsStartOf p) parts branches → All (IsFixedOn c) branches
  starts_fixed [] [] of h = All-nil (IsFixedOn c)
  starts_fixed [] (b ∷ branches) of h = absurd h
  starts_fixed (part ∷ parts) [] of h = absurd h
  starts_fixed (part ∷ parts) (b ∷ branches) of h =
      All-cons (IsFixedOn c) b branches (start_fixed part b (All-head (PartFits p.policy.schema (kinds_of p.policy.params) [] kinds) part parts of) h.0)
      (starts_fixed parts branches (All-tail (PartFits p.policy.schema (kinds_of p.policy.params) [] kinds) part parts of) h.1)

  abbrev SlotIsFixed : Option Branch → Type 0
  SlotIsFixed None = Unit {0}
  SlotIsFixed (Some b) = IsFixedOn c b

  after_fixed : (slots : Slots) (n : ℕ) (cases : List Branch) → All SlotIsFixed slots → All (IsFixedOn c) cases → All SlotIsFixed (after slots n cases)
  after_fixed slots n [] all h = All-set SlotIsFixed slots n None tt all
  after_fixed slots n (b ∷ others) all h =
      All-append SlotIsFixed _ (map Some others) (All-set SlotIsFixed slots n (Some b) (All-head (IsFixedOn c) b others h) all)
      (All-map SlotIsFixed Some others (All-tail (IsFixedOn c) b others h))

  runs_fixed : {taken : List Step} {slots : Slots} → Runs p taken slots → All SlotIsFixed slots
  runs_fixed (start {slots = slots} h) =
      subst (All SlotIsFixed) (sym h.slots_are) (All-map SlotIsFixed Some h.branches (starts_fixed p.goal.parts h.branches parts_fit h.starts))
  runs_fixed (next {step = step} {old = old} {new = new} runs takes) =
      let before = runs_fixed runs in
      let fixed = All-at SlotIsFixed old (branch_of step) (Some takes.branch) before takes.open_ in
      subst (All SlotIsFixed) (sym takes.new_is) (after_fixed old (branch_of step) takes.cases before (leads_fixed c p takes.branch step takes.cases fixed takes.leads))

  pub open_fixed : (taken : List Step) (slots : Slots) (n : ℕ) (b : Branch) → Runs p taken slots → slice_get slots n ≡ Some (Some b) → IsFixedOn c b
  open_fixed taken slots n b runs is_open = All-at SlotIsFixed slots n (Some b) (runs_fixed runs) is_open
