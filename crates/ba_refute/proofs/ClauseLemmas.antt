-- The clauses of a counterexample, each from a kind of step that isn't new on the branch.
use Rattle.std.proofs.Common.{◌≡◌, ◌≢◌, ◌∙◌, ℕ, List, [], ◌∷◌, All, Contains, Option, Some, length, map, refl, sym, ap, subst}
use Rattle.std.proofs.lemmas.List.Elements.{All-cons, All-contains, All-head, All-nil, All-tail}
use Rattle.std.proofs.lemmas.Option.{same_Some}
use Rattle.std.specs.Prelude.{slice_get}
use Rattle.ba_comply.proofs.ComplyLemmas.{All-from_contains}
use Rattle.ba_comply.specs.Comply.{AnswerWithin}
use Rattle.ba_facts.specs.Matches.{IsFactOf, IsMapping, row_of}
use Rattle.ba_facts.specs.declared.branch.Branch.{Branch}
use Rattle.ba_facts.specs.declared.term.Fact.{Fact}
use Rattle.ba_facts.specs.declared.term.Side.{Side}
use Rattle.ba_facts.specs.declared.term.Side.TheVariants.{One, Two}
use Rattle.ba_facts.specs.declared.term.Term.{Term}
use Rattle.ba_facts.specs.declared.term.Term.TheVariants as terms
use Rattle.ba_kernel.proofs.StepFits.{Contains-place}
use Rattle.ba_kernel.proofs.StepParts.{part_fixed}
use Rattle.ba_kernel.specs.Courses.{branch_of}
use Rattle.ba_kernel.specs.News.{IsNewOn}
use Rattle.ba_kernel.specs.Steps.{EntryIsMet, IsGiven, RuleIsMet, ViewIsMet}
use Rattle.ba_kernel.specs.declared.problem.Problem.{Problem}
use Rattle.ba_kernel.specs.declared.problem.ProblemEntry.{ProblemEntry}
use Rattle.ba_kernel.specs.declared.step.Step.{Step}
use Rattle.ba_kernel.specs.declared.step.Step.TheVariants as steps
use Rattle.ba_model.specs.Conform.{RuleHolds, no_context}
use Rattle.ba_model.specs.Equations.{IsOfEquations}
use Rattle.ba_model.specs.Fit.{PartFits, QueryFits}
use Rattle.ba_model.specs.Meaning.{InAnswer}
use Rattle.ba_model.specs.RuleFaults.{RuleFits}
use Rattle.ba_model.specs.declared.policy.Context.{Context}
use Rattle.ba_model.specs.declared.policy.View.{View}
use Rattle.ba_model.specs.declared.query.Operand.TheVariants as operands
use Rattle.ba_model.specs.declared.query.Part.{Part}
use Rattle.ba_model.specs.declared.query.Query.{Query}
use Rattle.ba_model.specs.declared.schema.Rule.{Rule}
use Rattle.ba_model.specs.declared.schema.Schema.{Schema}
use Rattle.ba_model.specs.declared.value.RowSet.{RowSet}
use Rattle.ba_model.specs.declared.value.Value.{Value}
use Rattle.ba_refute.specs.Images.{AreSideRows, IsRowAt}
use Rattle.ba_refute.proofs.DecideLemmas.{answer_decided, stable}
use Rattle.ba_refute.proofs.ImageRows.{In, IsImaged, IsPassed, given_in, head_in, passed, same_head, value_if}
use Rattle.ba_refute.specs.EquationParts.{IsPartIn, ArePartsIn}
use Rattle.ba_refute.specs.TermValues.{IsIn}

-- ---- sides

fact_side : (b : Branch) (side other : Side) (table n : ℕ) → IsFactOf b side table n → IsFactOf b other table n → other ≡ side
fact_side b side other table n h g =
    let same : h.fact ≡ g.fact = same_Some h.fact g.fact (sym h.there ∙ g.there) in
    sym g.side_is ∙ ap (λ (f : Fact). f.side) (sym same) ∙ h.side_is

-- facts of a part are of one side
one_side : (b : Branch) (side other : Side) (from facts : List ℕ) → from ≢ [] → IsMapping b side from facts → IsMapping b other from facts → other ≡ side
one_side b side other [] facts some h g = absurd (some refl)
one_side b side other (table ∷ from) [] some h g = absurd h
one_side b side other (table ∷ from) (n ∷ facts) some h g = fact_side b side other table n h.0 g.0

-- the values of a row that is given
value_terms : (c : Context) (values row : List Value) → map (value_if c values) (map (λ (v : Value). Some (terms.Val v)) row) ≡ map Some row
value_terms c values [] = refl
value_terms c values (v ∷ row) = ap (λ vs. Some v ∷ vs) (value_terms c values row)

module _ (p : Problem) (c : Context) (all values : List Value) (b : Branch) (it : IsImaged p.policy.schema c all values b) (number : ℕ)
    (none_new : (step : Step) → branch_of step ≡ number → ¬ (IsNewOn p b step)) where
  abbrev s : Schema
  s = p.policy.schema

  abbrev IsSide : Side → RowSet → Type 0
  IsSide side d = AreSideRows c values b.facts (length s.tables) side d.tables

  -- ---- views

  module _ (one two : RowSet) (one_is : IsSide One one) (two_is : IsSide Two two) where
    view_given : (view : View) (part : Part) (n m : ℕ) (facts : List ℕ) → slice_get p.policy.views n ≡ Some view → slice_get view.query.parts m ≡ Some part →
        ViewIsMet p b n m facts → IsGiven b Two (row_of b facts part.head) view.query.parts
    view_given view part n m facts view_at part_at met =
        let view_same : met.it ≡ view = same_Some met.it view (sym met.view_is ∙ view_at) in
        let at : slice_get view.query.parts m ≡ Some met.of = subst (λ (v : View). slice_get v.query.parts m ≡ Some met.of) view_same met.part_is in
        let part_same : met.of ≡ part = same_Some met.of part (sym at ∙ part_at) in
        subst (λ (x : Part). IsGiven b Two (row_of b facts x.head) view.query.parts) part_same
        (subst (λ (v : View). IsGiven b Two (row_of b facts met.of.head) v.query.parts) view_same met.given)

    view_within : (view : View) → Contains p.policy.views view → ArePartsIn c all view.query → IsOfEquations view.query → AnswerWithin view.query c one two
    view_within view there of equations = record {
      rows = λ r h.
          let part = h.0 in
          let part_of = All-contains (IsPartIn c all) view.query.parts part of h.1 in
          let pass : IsPassed s c all values b it One one one_is part r = passed s c all values b it One one one_is part r part_of h.2 in
          let n = Contains-place p.policy.views view there in
          let m = Contains-place view.query.parts part h.1 in
          stable (answer_decided two c view.query equations r)
          (λ no. none_new (steps.View number n.0 m.0 pass.facts) refl
          (record {
            passes = record { it = part; is_part = record { of = view; view_is = n.1; part_is = m.1 }; pass = pass.pass };
            tells = λ met.
                no (given_in s c all values b it Two two two_is view.query.parts (row_of b pass.facts part.head) r of
                (head_in s c all values b it pass.facts part.head part_of.head) pass.head (view_given view part n.0 m.0 pass.facts n.1 m.1 met));
          }));
    }

    pub views_within : ((view : View) → Contains p.policy.views view → ArePartsIn c all view.query) → All (λ (view : View). IsOfEquations view.query) p.policy.views →
        All (λ (view : View). AnswerWithin view.query c one two) p.policy.views
    views_within of equations =
        All-from_contains (λ (view : View). AnswerWithin view.query c one two) p.policy.views
        (λ view there. view_within view there (of view there) (All-contains (λ (it : View). IsOfEquations it.query) p.policy.views view equations there))

  -- ---- rules

  module _ (side : Side) (d : RowSet) (is : IsSide side d) where
    rule_given : (rule : Rule) (part : Part) (n m : ℕ) (facts : List ℕ) → slice_get s.rules n ≡ Some rule → slice_get rule.left.parts m ≡ Some part → part.from ≢ [] →
        IsMapping b side part.from facts → RuleIsMet p b n m facts → IsGiven b side (row_of b facts part.head) rule.right.parts
    rule_given rule part n m facts rule_at part_at some mapping met =
        let rule_same : met.it ≡ rule = same_Some met.it rule (sym met.rule_is ∙ rule_at) in
        let at : slice_get rule.left.parts m ≡ Some met.left = subst (λ (v : Rule). slice_get v.left.parts m ≡ Some met.left) rule_same met.part_is in
        let part_same : met.left ≡ part = same_Some met.left part (sym at ∙ part_at) in
        let own : IsMapping b met.side part.from facts = subst (λ (x : Part). IsMapping b met.side x.from facts) part_same met.mapping in
        let side_same : met.side ≡ side = one_side b side met.side part.from facts some mapping own in
        subst (λ z. IsGiven b z (row_of b facts part.head) rule.right.parts) side_same
        (subst (λ (x : Part). IsGiven b met.side (row_of b facts x.head) rule.right.parts) part_same
        (subst (λ (v : Rule). IsGiven b met.side (row_of b facts met.left.head) v.right.parts) rule_same met.given))

    -- a query without parameters has the same rows under every context
    answer_moves : (other : Context) (q : Query) (more : Context) (fits : QueryFits s [] [] q) (r : List Value) → InAnswer q other d r → InAnswer q more d r
    answer_moves other q more fits r h =
        (h.0, h.1, part_fixed s other more d fits.kinds h.0 r (All-contains (PartFits s [] [] fits.kinds) q.parts h.0 fits.parts h.1) h.2)

    rule_holds : (rule : Rule) → Contains s.rules rule → RuleFits s rule → ArePartsIn c all rule.left → ArePartsIn c all rule.right → IsOfEquations rule.right → RuleHolds d rule
    rule_holds rule there fits left_of right_of equations r h =
        let here : InAnswer rule.left c d r = answer_moves no_context rule.left c fits.left.fits r h in
        let part = here.0 in
        let part_of = All-contains (IsPartIn c all) rule.left.parts part left_of here.1 in
        let pass : IsPassed s c all values b it side d is part r = passed s c all values b it side d is part r part_of here.2 in
        let n = Contains-place s.rules rule there in
        let m = Contains-place rule.left.parts part here.1 in
        answer_moves c rule.right no_context fits.right.fits r
        (stable (answer_decided d c rule.right equations r)
        (λ no. none_new (steps.Rule number n.0 m.0 pass.facts) refl
        (record {
          passes = record { it = part; is_part = record { of = rule; rule_is = n.1; part_is = m.1 }; side = side; pass = pass.pass };
          tells = λ met.
              no (given_in s c all values b it side d is rule.right.parts (row_of b pass.facts part.head) r right_of
              (head_in s c all values b it pass.facts part.head part_of.head) pass.head
              (rule_given rule part n.0 m.0 pass.facts n.1 m.1 part_of.some_table pass.pass.mapping met));
        })))

    pub rules_hold : All (RuleFits s) s.rules → ((rule : Rule) → Contains s.rules rule → ArePartsIn c all rule.left × ArePartsIn c all rule.right) →
        All (λ (rule : Rule). IsOfEquations rule.right) s.rules → All (RuleHolds d) s.rules
    rules_hold fit of equations =
        All-from_contains (RuleHolds d) s.rules
        (λ rule there. rule_holds rule there (All-contains (RuleFits s) s.rules rule fit there) (of rule there).0 (of rule there).1
        (All-contains (λ (it : Rule). IsOfEquations it.right) s.rules rule equations there))

  -- ---- recorded rows

  module _ (one : RowSet) (one_is : IsSide One one) where
    entry_given : (entry : ProblemEntry) (n : ℕ) → slice_get p.entries n ≡ Some entry → EntryIsMet p b n → IsGiven b One (row_of b [] entry.row) entry.query.parts
    entry_given entry n at met =
        let same : met.it ≡ entry = same_Some met.it entry (sym met.there ∙ at) in
        subst (λ (x : ProblemEntry). IsGiven b One (row_of b [] x.row) x.query.parts) same met.given

    literal_row : (row : List Value) → row_of b [] (map operands.Val row) ≡ map (λ (v : Value). Some (terms.Val v)) row
    literal_row [] = refl
    literal_row (v ∷ row) = ap (λ vs. Some (terms.Val v) ∷ vs) (literal_row row)

    pub entry_shown : (entry : ProblemEntry) (row : List Value) → Contains p.entries entry → entry.row ≡ map operands.Val row → (All (Contains all) row) → ArePartsIn c all entry.query →
        IsOfEquations entry.query → InAnswer entry.query c one row
    entry_shown entry row there row_is among of equations =
        let n = Contains-place p.entries entry there in
        let terms_are : row_of b [] entry.row ≡ map (λ (v : Value). Some (terms.Val v)) row = ap (row_of b []) row_is ∙ literal_row row in
        stable (answer_decided one c entry.query equations row)
        (λ no. none_new (steps.Entry number n.0) refl
        (record {
          passes = record { it = entry; there = n.1 };
          tells = λ met.
              no (given_in s c all values b it One one one_is entry.query.parts (row_of b [] entry.row) row of
              (subst (All (λ (o : Option Term). (t : Term) → o ≡ Some t → In s c all values b it t)) (sym terms_are) (literals_in row among))
              (ap (map (value_if c values)) terms_are ∙ value_terms c values row) (entry_given entry n.0 n.1 met));
        }))
      where
        literals_in : (row : List Value) → All (Contains all) row → All (λ (o : Option Term). (t : Term) → o ≡ Some t → In s c all values b it t)
            (map (λ (v : Value). Some (terms.Val v)) row)
        literals_in [] h = All-nil (λ (o : Option Term). (t : Term) → o ≡ Some t → In s c all values b it t)
        literals_in (v ∷ row) h =
            All-cons (λ (o : Option Term). (t : Term) → o ≡ Some t → In s c all values b it t) (Some (terms.Val v))
            (map (λ (v : Value). Some (terms.Val v)) row)
            (λ t e. subst (In s c all values b it) (same_Some (terms.Val v) t e) (All-head (Contains all) v row h))
            (literals_in row (All-tail (Contains all) v row h))

  -- ---- the goal

  module _ (two : RowSet) (two_is : IsSide Two two) (row : List Value) (row_is : IsRowAt c values b.goal row) (goal_in : All (IsIn b.known c all) b.goal) where
    pub goal_absent : ArePartsIn c all p.goal → InAnswer p.goal c two row → ⊥
    goal_absent of h =
        let part = h.0 in
        let part_of = All-contains (IsPartIn c all) p.goal.parts part of h.1 in
        let pass : IsPassed s c all values b it Two two two_is part row = passed s c all values b it Two two two_is part row part_of h.2 in
        let m = Contains-place p.goal.parts part h.1 in
        none_new (steps.Goal number m.0 pass.facts) refl
        (record {
          passes = record {
            it = part;
            is_part = m.1;
            pass = pass.pass;
            head = same_head s c all values b it pass.facts part.head b.goal row part_of.head goal_in pass.head row_is;
          };
          tells = tt;
        })
