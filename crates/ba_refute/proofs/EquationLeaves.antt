-- The image of a leaf of a question of equations meets the clauses of a counterexample.
use Rattle.std.proofs.Common.{◌≡◌, ◌∙◌, ℕ, zero, suc, ◌+◌, ◌<◌, ◌≤◌, ◌^◌, List, [], ◌∷◌, ◌++◌, All, Contains, Option, Some, None, length, map, refl, sym, ap, subst, arith, ◌⊎◌, inl, inr}
use Rattle.std.proofs.lemmas.List.Elements.{All-append, All-contains, All-head, All-map, All-nil, All-tail, All-weaker, Contains-append_left, Contains-append_right}
use Rattle.std.proofs.lemmas.Option.{same_Some, slice_get_within}
use Rattle.std.specs.List.{AllZip, flat_map, range_with_len, zip}
use Rattle.std.specs.Prelude.{slice_get}
use Rattle.std.specs.Option.{option_map}
use Rattle.ba_comply.proofs.ComplyLemmas.{All-from_contains}
use Rattle.ba_comply.specs.Comply.{Shows, Within}
use Rattle.ba_comply.specs.declared.trace.TraceEntry.{TraceEntry}
use Rattle.ba_facts.specs.Knowing.{IsThere}
use Rattle.ba_facts.specs.Known.{Equated, Learned, NotNullTerm, OneClass, column, equal, equated, itself, joined, left as left_full, literal as literal_term, null as null_equated, param, right as right_full, same, turned, var}
use Rattle.ba_facts.specs.Laws.{kind_of_term}
use Rattle.ba_facts.specs.Matches.{AreTheSame, IsAnswered, IsShown, term_of}
use Rattle.ba_facts.specs.Shown.{Absurd, IsEqual, ShowsOf, null as null_class}
use Rattle.ba_facts.specs.declared.branch.Branch.{Branch}
use Rattle.ba_facts.specs.declared.term.Lesson.{Lesson}
use Rattle.ba_facts.specs.declared.term.Lesson.TheVariants.{Same, Holds}
use Rattle.ba_facts.specs.declared.term.Side.{Side}
use Rattle.ba_facts.specs.declared.term.Side.TheVariants.{One, Two}
use Rattle.ba_facts.specs.declared.term.Sort.{Sort}
use Rattle.ba_facts.specs.declared.term.Term.{Term}
use Rattle.ba_facts.specs.declared.term.Term.TheVariants.{Unknown, Val, Param, Var}
use Rattle.ba_kernel.proofs.AskedLemmas.{question_is_problem}
use Rattle.ba_kernel.proofs.StepFits.{All-at, Contains-map, Contains-place, and_then_is, map_is}
use Rattle.ba_kernel.proofs.TidyRuns.{runs_are_tidy}
use Rattle.ba_kernel.specs.Asked.{QuestionFits, RecordFits}
use Rattle.ba_kernel.specs.Courses.{ProblemFits, Runs, branch_of}
use Rattle.ba_kernel.specs.Effects.{rows_at, holds_of}
use Rattle.ba_kernel.specs.News.{IsNewOn}
use Rattle.ba_kernel.specs.Problems.{entries_of, param_is, problem_of}
use Rattle.ba_kernel.specs.SearchStates.{FactIsTidy, IsTidy}
use Rattle.ba_kernel.specs.declared.problem.Problem.{Problem}
use Rattle.ba_kernel.specs.declared.problem.ProblemEntry.{ProblemEntry}
use Rattle.ba_kernel.specs.declared.step.Step.{Step}
use Rattle.ba_kernel.specs.declared.step.Step.TheVariants as steps
use Rattle.ba_model.proofs.ElementLemmas.{Contains-head, Contains-into_flat_map, Contains-later}
use Rattle.ba_model.specs.Conform.{Conforms}
use Rattle.ba_model.specs.Equations.{IsOfEquations}
use Rattle.ba_model.specs.Fit.{IsQuery, kind_of_value, kinds_of}
use Rattle.ba_model.specs.Meaning.{InAnswer}
use Rattle.ba_model.specs.RuleFaults.{RuleFits}
use Rattle.ba_model.specs.declared.policy.Context.{Context}
use Rattle.ba_model.specs.declared.policy.Policy.{Policy}
use Rattle.ba_model.specs.declared.policy.View.{View}
use Rattle.ba_model.specs.declared.query.Atom.{Atom}
use Rattle.ba_model.specs.declared.query.Op.TheVariants.{Eq, IsNull}
use Rattle.ba_model.specs.declared.query.Operand.TheVariants as operands
use Rattle.ba_model.specs.declared.query.Part.{Part}
use Rattle.ba_model.specs.declared.query.Query.{Query}
use Rattle.ba_model.specs.declared.schema.Kind.{Kind}
use Rattle.ba_model.specs.declared.schema.Rule.{Rule}
use Rattle.ba_model.specs.declared.value.RowSet.{RowSet}
use Rattle.ba_model.specs.declared.value.Value.{Value}
use Rattle.ba_model.specs.declared.value.Value.TheVariants.{Null}
use Rattle.ba_refute.proofs.GivenLemmas.{FactIsFixed, IsFixed, IsFixedOn, open_fixed}
use Rattle.ba_refute.specs.Counterexamples.{Meets}
use Rattle.ba_refute.specs.Images.{AreSideRows, IsImage, literals, literals_of_atom, literals_of_branch, literals_of_entry, literals_of_fact, literals_of_lesson, literals_of_operand, literals_of_problem, literals_of_query, literals_of_rule, literals_of_term, literals_of_view}
use Rattle.ba_refute.specs.declared.clause.Clause.{Clause}
use Rattle.ba_refute.specs.declared.clause.Clause.TheVariants.{Value as ValueClause, ConformOne, ConformTwo, Within as WithinClause, Shown, Asked, Absent}
use Rattle.ba_refute.specs.declared.clause.Counterexample.{Counterexample}
use Rattle.ba_settle.specs.Dues.{DueList}
use Rattle.ba_settle.specs.declared.ends.Leaf.{Leaf}
use Rattle.ba_refute.proofs.ClauseLemmas.{entry_shown, goal_absent, rules_hold, views_within}
use Rattle.ba_refute.proofs.ConformLemmas.{IsSorted, tables_conform}
use Rattle.ba_refute.proofs.CourseLemmas.{IsKept, open_kept}
use Rattle.ba_refute.proofs.GrowLemmas.{HasLearned, HasPair, IsPlainLesson}
use Rattle.ba_refute.proofs.PlainLemmas.{IsFilledSort, IsProblemOfEquations}
use Rattle.ba_refute.proofs.QueryLemmas.{context_values, no_params, query_in}
use Rattle.ba_refute.proofs.ImageRows.{IsImaged, answered, value_if}
use Rattle.ba_refute.proofs.SeenLemmas.{there_at}
use Rattle.ba_refute.proofs.SplitLemmas.{no_splits}
use Rattle.ba_refute.specs.EquationParts.{IsFactIn, IsPartIn, ArePartsIn}
use Rattle.ba_refute.specs.OfEquations.{IsDueLeafOf, IsQuestionOfEquations}
use Rattle.ba_refute.specs.TermValues.{KnowsEquationsAlone, AreLiterals, IsEquation, IsIn, value_at}

-- ---- the question's problem

entries_equate : (trace : List TraceEntry) → All (λ (entry : TraceEntry). IsOfEquations entry.query) trace → All (λ (entry : ProblemEntry). IsOfEquations entry.query) (flat_map entries_of trace)
entries_equate [] h = All-nil (λ (entry : ProblemEntry). IsOfEquations entry.query)
entries_equate (it ∷ trace) h =
    let own = All-head (λ (entry : TraceEntry). IsOfEquations entry.query) it trace h in
    let make : List Value → ProblemEntry = λ row. record { query = it.query; row = map operands.Val row } in
    All-append (λ (entry : ProblemEntry). IsOfEquations entry.query) (entries_of it) (flat_map entries_of trace)
    (All-map (λ (entry : ProblemEntry). IsOfEquations entry.query) make it.rows (All-from_contains (λ row. IsOfEquations it.query) it.rows (λ row g. own)))
    (entries_equate trace (All-tail (λ (entry : TraceEntry). IsOfEquations entry.query) it trace h))

pub problem_equates : (policy : Policy) (c : Context) (trace : List TraceEntry) (q : Query) → IsQuestionOfEquations policy trace q → IsProblemOfEquations (problem_of policy c trace q)
problem_equates policy c trace q h =
    let pairs = zip (range_with_len 0 (length c.values)) c.values in
    record {
      filled = h.policy_is.filled;
      rules = h.policy_is.right;
      views = h.policy_is.views;
      entries = entries_equate trace h.recorded;
      assumed = All-map (λ (atom : Atom). atom.op ≡ Eq) param_is pairs (All-from_contains (λ two. (param_is two).op ≡ Eq) pairs (λ two g. refl));
      goal = h.asked;
    }

param_pair : (start : ℕ) (values : List Value) (n : ℕ) (v : Value) → slice_get values n ≡ Some v → Contains (zip (range_with_len start (length values)) values) (start + n, v)
param_pair start [] n v e = cc
param_pair start (w ∷ values) zero v e =
    let at : start ≡ start + 0 = omega arith in
    let is : w ≡ v = same_Some w v e in
    subst (λ m. Contains (zip (range_with_len start (suc (length values))) (w ∷ values)) (m, v)) at
    (subst (λ x. Contains (zip (range_with_len start (suc (length values))) (w ∷ values)) (start, x)) is
    (Contains-head (start, w) (zip (range_with_len (start + 1) (length values)) values)))
param_pair start (w ∷ values) (suc n) v e =
    let at : (start + 1) + n ≡ start + suc n = omega arith in
    subst (λ m. Contains (zip (range_with_len start (suc (length values))) (w ∷ values)) (m, v)) at
    (Contains-later (start, w) (zip (range_with_len (start + 1) (length values)) values) ((start + 1) + n, v) (param_pair (start + 1) values n v e))

-- ---- literals of classes

module _ (b : Branch) (plain : All (IsPlainLesson b) b.known.learned) where
  abbrev IsMentioned : Term → Type 0
  IsMentioned t = (v : Value) → t ≡ Val v → Contains (flat_map literals_of_lesson b.known.learned) v

  term_literal : (t : Term) (v : Value) → t ≡ Val v → Contains (literals_of_term t) v
  term_literal t v e = subst (λ x. Contains (literals_of_term x) v) (sym e) (Contains-head v [])

  no_null_atom : (t u : Term) → Learned b.known IsNull t u → ⊥
  no_null_atom t u h = let it = All-contains (IsPlainLesson b) b.known.learned _ plain h in let e : IsNull ≡ Eq = it.0 in cc

  equated_mentioned : (t u : Term) → Equated b.known t u → IsMentioned t × IsMentioned u
  equated_mentioned t u (same h) = (
    λ v e. Contains-into_flat_map literals_of_lesson b.known.learned (Same t u) v h (Contains-append_left (literals_of_term t) (literals_of_term u) v (term_literal t v e)),
    λ v e. Contains-into_flat_map literals_of_lesson b.known.learned (Same t u) v h (Contains-append_right (literals_of_term t) (literals_of_term u) v (term_literal u v e)),
  )
  equated_mentioned t u (equal h) = (
    λ v e. Contains-into_flat_map literals_of_lesson b.known.learned _ v h (Contains-append_left (literals_of_term t) (literals_of_term u) v (term_literal t v e)),
    λ v e. Contains-into_flat_map literals_of_lesson b.known.learned _ v h (Contains-append_right (literals_of_term t) (literals_of_term u) v (term_literal u v e)),
  )
  equated_mentioned t u (null_equated {a = a} {b = d} h) = absurd (no_null_atom a d h)

  class_mentioned : {t u : Term} → OneClass b.known t u → (t ≡ u) ⊎ (IsMentioned t × IsMentioned u)
  class_mentioned (equated {a = t} {b = u} h) = inr (equated_mentioned t u h)
  class_mentioned itself = inl refl
  class_mentioned (turned {a = t} {b = u} h) = turn t u (class_mentioned h)
    where
      turn : (t u : Term) → (t ≡ u) ⊎ (IsMentioned t × IsMentioned u) → (u ≡ t) ⊎ (IsMentioned u × IsMentioned t)
      turn t u (inl e) = inl (sym e)
      turn t u (inr g) = inr (g.1, g.0)
  class_mentioned (joined {a = t} {b = u} {c = w} h g) = join t u w (class_mentioned h) (class_mentioned g)
    where
      join : (t u w : Term) → (t ≡ u) ⊎ (IsMentioned t × IsMentioned u) → (u ≡ w) ⊎ (IsMentioned u × IsMentioned w) → (t ≡ w) ⊎ (IsMentioned t × IsMentioned w)
      join t u w (inl e) (inl f) = inl (e ∙ f)
      join t u w (inl e) (inr f) = inr (subst IsMentioned (sym e) f.0, f.1)
      join t u w (inr e) (inl f) = inr (e.0, subst IsMentioned f e.1)
      join t u w (inr e) (inr f) = inr (e.0, f.1)

  class_literal : (n : ℕ) (v : Value) → OneClass b.known (Unknown n) (Val v) → Contains (flat_map literals_of_lesson b.known.learned) v
  class_literal n v h = at (class_mentioned h)
    where
      at : (Unknown n ≡ Val v) ⊎ (IsMentioned (Unknown n) × IsMentioned (Val v)) → Contains (flat_map literals_of_lesson b.known.learned) v
      at (inl e) = absurd cc
      at (inr g) = g.1 v refl

-- ---- kinds of classes

-- a term of a kind isn't NULL
kind_full : (b : Branch) → ((n : ℕ) → n < length b.known.unknowns → NotNullTerm b.known (Unknown n)) → (t : Term) (kind : Kind) → kind_of_term b t ≡ Some kind → NotNullTerm b.known t
kind_full b full (Unknown n) kind e =
    let sort = map_is (λ (sort : Sort). sort.kind) (slice_get b.known.unknowns n) kind e in
    full n (slice_get_within b.known.unknowns n sort.0 sort.1)
kind_full b full (Val v) kind e = literal_term (λ is. none (subst (λ w. kind_of_value w ≡ Some kind) is e))
  where
    none : None ≡ Some kind → ⊥
    none e = cc
kind_full b full (Param n) kind e = param
kind_full b full (Var n) kind e = var

-- ---- a leaf

module _ (policy : Policy) (c : Context) (trace : List TraceEntry) (q : Query) (leaf : Leaf) (it : Counterexample) (fits : QuestionFits policy c trace q)
    (of : IsQuestionOfEquations policy trace q) (is : IsDueLeafOf policy c trace q leaf) (few : length leaf.branch.known.unknowns ≤ 2 ^ 32) (image_is : IsImage leaf.problem c leaf.branch it) where
  abbrev p : Problem
  p = problem_of policy c trace q

  abbrev b : Branch
  b = leaf.branch

  abbrev all : List Value
  all = literals p leaf.branch

  pub image : IsImage p c b it
  image = subst (λ z. IsImage z c leaf.branch it) is.problem image_is

  runs : Runs p leaf.steps is.leaf_is.slots
  runs = subst (λ z. Runs z leaf.steps is.leaf_is.slots) is.problem is.leaf_is.runs

  due : DueList is.pick p leaf.steps is.slots
  due = subst (λ z. DueList is.pick z leaf.steps is.slots) is.problem is.due

  none_new : (step : Step) → branch_of step ≡ is.leaf_is.number → ¬ (IsNewOn p b step)
  none_new step e = subst (λ z. ¬ (IsNewOn z leaf.branch step)) is.problem (is.leaf_is.saturated.none_new step e)

  problem_fits : ProblemFits p
  problem_fits = question_is_problem policy c trace q fits

  kept : IsKept p b
  kept =
      open_kept p problem_fits fits.tables (problem_equates policy c trace q of) leaf.steps is.leaf_is.slots is.leaf_is.number leaf.branch runs (no_splits policy c trace q of is.pick due)
      is.leaf_is.saturated.open_

  tidy : IsTidy p b
  tidy = runs_are_tidy p leaf.steps is.leaf_is.slots problem_fits runs is.leaf_is.number leaf.branch is.leaf_is.saturated.open_

  fixed : IsFixedOn c b
  fixed = open_fixed c p fits.asked.fits.kinds fits.context fits.asked.fits.parts leaf.steps is.leaf_is.slots is.leaf_is.number leaf.branch runs is.leaf_is.saturated.open_

  sound : ¬ (Absurd b.known)
  sound h = none_new (steps.Absurd is.leaf_is.number) refl (record { passes = h; tells = tt })

  full : (n : ℕ) → n < length b.known.unknowns → NotNullTerm b.known (Unknown n)
  full n less =
      let sort = there_at b.known.unknowns n less in
      column sort.1 (All-at IsFilledSort b.known.unknowns n sort.0 kept.plain.filled sort.1)

  lesson_equation : (lesson : Lesson) → IsPlainLesson b lesson → IsEquation lesson
  lesson_equation (Same t u) h = tt
  lesson_equation (Holds atom) h = h.0

  are : KnowsEquationsAlone b.known
  are = record { learned = All-weaker (IsPlainLesson b) IsEquation lesson_equation b.known.learned kept.plain.lessons; sound = sound; filled = full }

  -- ---- literals

  of_branch : (v : Value) → Contains (literals_of_branch b) v → Contains all v
  of_branch v h = Contains-append_right (literals_of_problem p) (literals_of_branch b) v h

  of_problem : (v : Value) → Contains (literals_of_problem p) v → Contains all v
  of_problem v h = Contains-append_left (literals_of_problem p) (literals_of_branch b) v h

  abbrev rule_literals : List Value
  rule_literals = flat_map literals_of_rule policy.schema.rules

  abbrev view_literals : List Value
  view_literals = flat_map literals_of_view policy.views

  abbrev entry_literals : List Value
  entry_literals = flat_map literals_of_entry p.entries

  abbrev assumed_literals : List Value
  assumed_literals = flat_map literals_of_atom p.assumed

  abbrev last_literals : List Value
  last_literals = entry_literals ++ assumed_literals

  abbrev later_literals : List Value
  later_literals = literals_of_query q ++ last_literals

  of_rules : (v : Value) → Contains rule_literals v → Contains all v
  of_rules v h = of_problem v (Contains-append_left rule_literals (view_literals ++ later_literals) v h)

  of_views : (v : Value) → Contains view_literals v → Contains all v
  of_views v h = of_problem v (Contains-append_right rule_literals (view_literals ++ later_literals) v (Contains-append_left view_literals later_literals v h))

  of_later : (v : Value) → Contains later_literals v → Contains all v
  of_later v h = of_problem v (Contains-append_right rule_literals (view_literals ++ later_literals) v (Contains-append_right view_literals later_literals v h))

  of_goal : (v : Value) → Contains (literals_of_query q) v → Contains all v
  of_goal v h = of_later v (Contains-append_left (literals_of_query q) last_literals v h)

  of_entries : (v : Value) → Contains entry_literals v → Contains all v
  of_entries v h = of_later v (Contains-append_right (literals_of_query q) last_literals v (Contains-append_left entry_literals assumed_literals v h))

  of_assumed : (v : Value) → Contains assumed_literals v → Contains all v
  of_assumed v h = of_later v (Contains-append_right (literals_of_query q) last_literals v (Contains-append_right entry_literals assumed_literals v h))

  param_there : (n : ℕ) (v : Value) → slice_get c.values n ≡ Some v → Contains p.assumed (param_is (n, v))
  param_there n v e = Contains-map param_is (zip (range_with_len 0 (length c.values)) c.values) (n, v) (at (param_pair 0 c.values n v e))
    where
      at : Contains (zip (range_with_len 0 (length c.values)) c.values) (0 + n, v) → Contains (zip (range_with_len 0 (length c.values)) c.values) (n, v)
      at h = let same_one : 0 + n ≡ n = omega arith in subst (λ m. Contains (zip (range_with_len 0 (length c.values)) c.values) (m, v)) same_one h

  param_class : (n : ℕ) (v : Value) → slice_get c.values n ≡ Some v → OneClass b.known (Param n) (Val v)
  param_class n v e =
      let learned = All-contains (HasLearned b []) p.assumed (param_is (n, v)) kept.assumed.atoms (param_there n v e) in
      let lesson : Lesson = Holds (record { op = Eq; left = Param n; right = Val v }) in
      let same_one : lesson ≡ learned.lesson = same_Some lesson learned.lesson learned.is in
      equated (equal (subst (Contains b.known.learned) (sym same_one) learned.there))

  lits : AreLiterals b.known c all
  lits = record {
    params = param_class;
    values = All-from_contains (Contains all) c.values
        (λ v h.
        let n = Contains-place c.values v h in
        of_assumed v (Contains-into_flat_map literals_of_atom p.assumed (param_is (n.0, v)) v (param_there n.0 v n.1) (Contains-head v [])));
    classes = λ n v h. of_branch v (Contains-append_left (flat_map literals_of_lesson b.known.learned) (flat_map literals_of_fact b.facts ++ flat_map literals_of_term b.goal) v (class_literal b kept.plain.lessons n v h));
  }

  -- ---- terms of facts and of the goal row

  term_in : (t : Term) → IsFixed c t → IsThere b.known t → ((v : Value) → Contains (literals_of_term t) v → Contains all v) → IsIn b.known c all t
  term_in (Unknown n) h there among = there
  term_in (Val v) h there among = among v (Contains-head v [])
  term_in (Param n) h there among = h
  term_in (Var n) h there among = absurd h

  terms_in : (ts : List Term) → All (IsFixed c) ts → All (IsThere b.known) ts → ((v : Value) → Contains (flat_map literals_of_term ts) v → Contains all v) → All (IsIn b.known c all) ts
  terms_in ts h there among =
      All-from_contains (IsIn b.known c all) ts
      (λ t g. term_in t (All-contains (IsFixed c) ts t h g) (All-contains (IsThere b.known) ts t there g) (λ v e. among v (Contains-into_flat_map literals_of_term ts t v g e)))

  fact_literals : (v : Value) → Contains (flat_map literals_of_fact b.facts) v → Contains all v
  fact_literals v h =
      of_branch v
      (Contains-append_right (flat_map literals_of_lesson b.known.learned) (flat_map literals_of_fact b.facts ++ flat_map literals_of_term b.goal) v
      (Contains-append_left (flat_map literals_of_fact b.facts) (flat_map literals_of_term b.goal) v h))

  goal_literals : (v : Value) → Contains (flat_map literals_of_term b.goal) v → Contains all v
  goal_literals v h =
      of_branch v
      (Contains-append_right (flat_map literals_of_lesson b.known.learned) (flat_map literals_of_fact b.facts ++ flat_map literals_of_term b.goal) v
      (Contains-append_right (flat_map literals_of_fact b.facts) (flat_map literals_of_term b.goal) v h))

  facts_in : All (IsFactIn b.known c all) b.facts
  facts_in =
      All-from_contains (IsFactIn b.known c all) b.facts
      (λ fact h. terms_in fact.terms (All-contains (FactIsFixed c) b.facts fact fixed.facts h) (All-contains (FactIsTidy policy.schema b.known) b.facts fact tidy.facts h).there
      (λ v e. fact_literals v (Contains-into_flat_map literals_of_fact b.facts fact v h e)))

  pub goal_in : All (IsIn b.known c all) b.goal
  goal_in = terms_in b.goal fixed.goal tidy.goal goal_literals

  pub imaged : IsImaged policy.schema c all image.values b
  imaged = record { are = are; lits = lits; image = image.values_are; few = omega (arith, few); tidy = tidy.facts; facts = facts_in }

  -- ---- kinds

  pair_kinds : (t u : Term) → HasPair b t u → OneClass b.known t u → kind_of_term b t ≡ kind_of_term b u
  pair_kinds t u h class = at (h.pair).1
    where
      at : (kind_of_term b u ≡ Some h.kind) ⊎ (u ≡ Val Null) → kind_of_term b t ≡ kind_of_term b u
      at (inl e) = (h.pair).0 ∙ sym e
      at (inr e) =
          absurd (sound (null_class {a = t} (subst (λ x. OneClass b.known t x) e class)
          (record { other = t; class = itself; not_null = kind_full b full t h.kind (h.pair).0 })))

  equated_kinds : (t u : Term) → Equated b.known t u → kind_of_term b t ≡ kind_of_term b u
  equated_kinds t u (same h) = pair_kinds t u (All-contains (IsPlainLesson b) b.known.learned (Same t u) kept.plain.lessons h) (equated (same h))
  equated_kinds t u (equal h) = let found = All-contains (IsPlainLesson b) b.known.learned _ kept.plain.lessons h in (found.1).1 ∙ sym (found.1).2
  equated_kinds t u (null_equated {a = a} {b = d} h) = absurd (no_null_atom b kept.plain.lessons a d h)

  sorted : IsSorted policy.schema b
  sorted = record { facts = kept.plain.facts; classes = equated_kinds }

  -- ---- queries

  view_in : (view : View) → Contains policy.views view → ArePartsIn c all view.query
  view_in view h =
      let fit = All-contains (λ (v : View). IsQuery policy.schema (kinds_of policy.params) [] v.query) policy.views view fits.policy_fits.views h in
      query_in policy.schema (kinds_of policy.params) c all (context_values (kinds_of policy.params) c fits.context) view.query fit.fits
      (All-contains (λ (v : View). IsOfEquations v.query) policy.views view of.policy_is.views h)
      (λ v e. of_views v (Contains-into_flat_map literals_of_view policy.views view v h e))

  rule_in : (rule : Rule) → Contains policy.schema.rules rule → ArePartsIn c all rule.left × ArePartsIn c all rule.right
  rule_in rule h =
      let fit = All-contains (RuleFits policy.schema) policy.schema.rules rule fits.rules h in (
        query_in policy.schema [] c all (no_params c) rule.left fit.left.fits (All-contains (λ (r : Rule). IsOfEquations r.left) policy.schema.rules rule of.policy_is.left h)
            (λ v e. of_rules v (Contains-into_flat_map literals_of_rule policy.schema.rules rule v h (Contains-append_left (literals_of_query rule.left) (literals_of_query rule.right) v e))),
        query_in policy.schema [] c all (no_params c) rule.right fit.right.fits (All-contains (λ (r : Rule). IsOfEquations r.right) policy.schema.rules rule of.policy_is.right h)
            (λ v e. of_rules v (Contains-into_flat_map literals_of_rule policy.schema.rules rule v h (Contains-append_right (literals_of_query rule.left) (literals_of_query rule.right) v e))),
      )

  asked_in : ArePartsIn c all q
  asked_in =
      query_in policy.schema (kinds_of policy.params) c all (context_values (kinds_of policy.params) c fits.context) q fits.asked.fits of.asked of_goal

  -- ---- the clauses

  conforms : (side : Side) (d : RowSet) → AreSideRows c image.values b.facts (length policy.schema.tables) side d.tables → Conforms policy.schema d
  conforms side d rows = record {
    tables = tables_conform p c all image.values b imaged sorted fits.tables is.leaf_is.number none_new side d rows;
    rules = rules_hold p c all image.values b imaged is.leaf_is.number none_new side d rows fits.rules rule_in of.policy_is.right;
  }

  within : Within policy c it.one it.two
  within = record { views = views_within p c all image.values b imaged is.leaf_is.number none_new it.one it.two image.one image.two view_in of.policy_is.views }

  shown_entry : (entry : TraceEntry) → Contains trace entry → (row : List Value) → Contains entry.rows row → InAnswer entry.query c it.one row
  shown_entry entry h row g =
      let make : List Value → ProblemEntry = λ row. record { query = entry.query; row = map operands.Val row } in
      let own = make row in
      let there : Contains p.entries own = Contains-into_flat_map entries_of trace entry own h (Contains-map make entry.rows row g) in
      let fit = All-contains (RecordFits policy) trace entry fits.trace_fits h in
      let equations = All-contains (λ (e : TraceEntry). IsOfEquations e.query) trace entry of.recorded h in
      entry_shown p c all image.values b imaged is.leaf_is.number none_new it.one image.one own row there refl
      (All-from_contains (Contains all) row
      (λ v e. of_entries v (Contains-into_flat_map literals_of_entry p.entries own v there
      (Contains-append_right (literals_of_query entry.query) (flat_map literals_of_operand (map operands.Val row)) v
      (Contains-into_flat_map literals_of_operand (map operands.Val row) (operands.Val v) v (Contains-map operands.Val row v e) (Contains-head v []))))))
      (query_in policy.schema (kinds_of policy.params) c all (context_values (kinds_of policy.params) c fits.context) entry.query fit.query.fits equations
      (λ v e. of_entries v (Contains-into_flat_map literals_of_entry p.entries own v there (Contains-append_left (literals_of_query entry.query) (flat_map literals_of_operand (map operands.Val row)) v e))))
      equations

  shown : Shows trace c it.one
  shown = record {
    entries = All-from_contains (λ (entry : TraceEntry). All (InAnswer entry.query c it.one) entry.rows) trace
        (λ entry h. All-from_contains (InAnswer entry.query c it.one) entry.rows (shown_entry entry h));
  }

  learned_shown : (rows : List (List Term)) (atom : Atom) → atom.op ≡ Eq → HasLearned b rows atom → IsShown b.known rows atom
  learned_shown rows atom e h =
      let one = and_then_is (λ a. option_map (holds_of atom.op a) (term_of rows atom.right)) (term_of rows atom.left) h.lesson h.is in
      let two = map_is (holds_of atom.op one.0) (term_of rows atom.right) h.lesson one.2 in
      let there : Learned b.known atom.op one.0 two.0 = subst (Contains b.known.learned) (sym two.2) h.there in
      let known : Learned b.known Eq one.0 two.0 = subst (λ o. Learned b.known o one.0 two.0) e there in
      record {
        left = one.0;
        right = two.0;
        left_is = one.1;
        right_is = two.1;
        holds = subst (λ o. ShowsOf b.known o one.0 two.0) (sym e) (is_equal one.0 two.0 known);
      }
    where
      is_equal : (t u : Term) → Learned b.known Eq t u → IsEqual b.known t u
      is_equal t u g = record {
        not_null = record {
          left = record { other = t; class = itself; not_null = left_full g tt };
          right = record { other = u; class = itself; not_null = right_full g tt };
        };
        same = inl (equated (equal g));
      }

  itself_same : (ts : List Term) → AllZip (AreTheSame b.known) (map Some ts) (map Some ts)
  itself_same [] = tt
  itself_same (t ∷ ts) = (record { left = t; right = t; left_is = refl; right_is = refl; same = inl itself }, itself_same ts)

  some_values : (ts : List Term) → map (value_if c image.values) (map Some ts) ≡ map (value_at c image.values) ts
  some_values [] = refl
  some_values (t ∷ ts) = ap (λ vs. value_at c image.values t ∷ vs) (some_values ts)

  some_in : (ts : List Term) → All (IsIn b.known c all) ts → All (λ (o : Option Term). (t : Term) → o ≡ Some t → IsIn b.known c all t) (map Some ts)
  some_in ts h = All-map (λ (o : Option Term). (t : Term) → o ≡ Some t → IsIn b.known c all t) Some ts
      (All-weaker (IsIn b.known c all) (λ u. (t : Term) → Some u ≡ Some t → IsIn b.known c all t) (λ u g t e. subst (IsIn b.known c all) (same_Some u t e) g) ts h)

  asked : InAnswer q c it.one it.row
  asked =
      let start = kept.asked in
      let equations = All-contains (λ (part : Part). All (λ (atom : Atom). atom.op ≡ Eq) part.conds) q.parts start.part of.asked start.of in
      let part_is = All-contains (IsPartIn c all) q.parts start.part asked_in start.of in
      let row : IsAnswered b One start.part (map Some b.goal) =
      record {
        facts = start.facts;
        facts_of = start.mapping;
        shown = All-from_contains (IsShown b.known (rows_at b start.facts)) start.part.conds
            (λ atom h. learned_shown (rows_at b start.facts) atom (All-contains (λ (atom : Atom). atom.op ≡ Eq) start.part.conds atom equations h)
            (All-contains (HasLearned b (rows_at b start.facts)) start.part.conds atom start.conds h));
        head = subst (λ os. AllZip (AreTheSame b.known) os (map Some b.goal)) (sym start.goal) (itself_same b.goal);
      } in (
        start.part,
        start.of,
        answered policy.schema c all image.values b imaged One it.one image.one start.part (map Some b.goal) it.row part_is (some_in b.goal goal_in)
            (some_values b.goal ∙ image.row) row,
      )

  absent : InAnswer q c it.two it.row → ⊥
  absent h = goal_absent p c all image.values b imaged is.leaf_is.number none_new it.two image.two it.row image.row goal_in asked_in h

  pub meets : (clause : Clause) → ¬ (clause ≡ ValueClause) → Meets policy c trace q it clause
  meets ValueClause other = absurd (other refl)
  meets ConformOne other = conforms One it.one image.one
  meets ConformTwo other = conforms Two it.two image.two
  meets WithinClause other = within
  meets Shown other = shown
  meets Asked other = asked
  meets Absent other = absent
