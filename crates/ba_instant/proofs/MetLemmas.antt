-- What was met is met, and what passed passes, where a branch has further facts and what was known is known.
use Rattle.std.proofs.Common.{◌≡◌, ◌∙◌, ℕ, List, [], ◌∷◌, ◌++◌, map, ap, sym, subst}
use Rattle.std.proofs.lemmas.List.Elements.{All-weaker}
use Rattle.std.specs.List.{All, AllZip, Any, zip}
use Rattle.std.specs.Prelude.{Option}
use Rattle.ba_model.specs.declared.query.Atom.{Atom}
use Rattle.ba_model.specs.declared.query.Operand.{Operand}
use Rattle.ba_model.specs.declared.query.Part.{Part}
use Rattle.ba_facts.specs.Known.{Known}
use Rattle.ba_facts.specs.Matches.{AreTheSame, IsAnswered, IsShown, row_of, term_of, terms_at}
use Rattle.ba_facts.specs.declared.branch.Branch.{Branch}
use Rattle.ba_facts.specs.declared.term.Fact.{Fact}
use Rattle.ba_facts.specs.declared.term.Side.{Side}
use Rattle.ba_facts.specs.declared.term.Side.TheVariants.{One, Two}
use Rattle.ba_facts.specs.declared.term.Term.{Term}
use Rattle.ba_kernel.specs.Steps.{AreEqualIn, EntryIsMet, FactsPass, IsNotNullAt, LinkIsMet, LinkPasses, Passes, RuleIsMet, RulePasses, Tells, ViewIsMet, ViewPasses}
use Rattle.ba_kernel.specs.declared.problem.Problem.{Problem}
use Rattle.ba_kernel.specs.declared.step.Step.{Step}
use Rattle.ba_kernel.specs.declared.step.Step.TheVariants as steps
use Rattle.ba_instant.proofs.CarryLemmas.{Carries, equal, not_null, shows, the_same}
use Rattle.ba_instant.proofs.OldFactLemmas.{AreKept, are_kept, fact_kept, fact_of_kept, mapping_kept, rows_kept, terms_kept}
use Rattle.ba_instant.proofs.OldMappingLemmas.{any_weaker}
use Rattle.ba_instant.proofs.OldTermLemmas.{under}
use Rattle.ba_instant.specs.ToldSteps.{IsTold, Lasts}

module _ (p : Problem) (b c : Branch) (carries : Carries b.known c.known (λ t. t)) (more : List Fact) (facts_are : c.facts ≡ b.facts ++ more) where
  abbrev k : Known
  k = b.known

  abbrev l : Known
  l = c.known

  -- ---- rows

  two_on : (x y : Option Term) → AreTheSame k x y → AreTheSame l x y
  two_on x y h = record { left = h.left; right = h.right; left_is = h.left_is; right_is = h.right_is; same = the_same k l (λ t. t) carries h.same }

  row_on : (xs ys : List (Option Term)) → AllZip (AreTheSame k) xs ys → AllZip (AreTheSame l) xs ys
  row_on [] [] h = tt
  row_on [] (y ∷ ys) h = absurd h
  row_on (x ∷ xs) [] h = absurd h
  row_on (x ∷ xs) (y ∷ ys) h = (two_on x y h.0, row_on xs ys h.1)

  row_kept : (facts : List ℕ) (head : List Operand) → AreKept b c facts → row_of c facts head ≡ row_of b facts head
  row_kept facts head kept = ap (λ rows. map (term_of rows) head) (rows_kept b c facts kept)

  -- ---- parts

  atom_on : (rows : List (List Term)) (atom : Atom) → IsShown k rows atom → IsShown l rows atom
  atom_on rows atom h = under rows atom (λ x y left right. shows k l (λ t. t) carries atom.op x y) h

  shown_on : (facts : List ℕ) (conds : List Atom) → AreKept b c facts → All (IsShown k (map (terms_at b) facts)) conds → All (IsShown l (map (terms_at c) facts)) conds
  shown_on facts conds kept h =
      let rows = map (terms_at b) facts in
      subst (λ rows. All (IsShown l rows) conds) (sym (rows_kept b c facts kept))
      (All-weaker (IsShown k rows) (IsShown l rows) (atom_on rows) conds h)

  answered_on : (side : Side) (part : Part) (row : List (Option Term)) → IsAnswered b side part row → IsAnswered c side part row
  answered_on side part row h =
      let kept = are_kept b c more facts_are side part.from h.facts h.facts_of in
      record {
        facts = h.facts;
        facts_of = mapping_kept b c more facts_are side part.from h.facts h.facts_of;
        shown = shown_on h.facts part.conds kept h.shown;
        head = subst (λ head. AllZip (AreTheSame l) head row) (sym (row_kept h.facts part.head kept)) (row_on (row_of b h.facts part.head) row h.head);
      }

  given_on : (side : Side) (facts : List ℕ) (head : List Operand) (parts : List Part) → AreKept b c facts → Any (λ part. IsAnswered b side part (row_of b facts head)) parts →
      Any (λ part. IsAnswered c side part (row_of c facts head)) parts
  given_on side facts head parts kept h =
      let row = row_of b facts head in
      subst (λ row. Any (λ part. IsAnswered c side part row) parts) (sym (row_kept facts head kept))
      (any_weaker (λ part. IsAnswered b side part row) (λ part. IsAnswered c side part row) (λ part. answered_on side part row) parts h)

  facts_pass : (side : Side) (part : Part) (facts : List ℕ) → FactsPass b side part facts → FactsPass c side part facts
  facts_pass side part facts h = record {
    mapping = mapping_kept b c more facts_are side part.from facts h.mapping;
    shown = shown_on facts part.conds (are_kept b c more facts_are side part.from facts h.mapping) h.shown;
  }

  -- ---- steps that pass

  link_passes : (link fact : ℕ) → LinkPasses p.policy.schema b link fact → LinkPasses p.policy.schema c link fact
  link_passes link fact h = record {
    f = h.f;
    fact_is = fact_kept b c more facts_are fact h.f h.fact_is;
    it = h.it;
    link_of = h.link_of;
    not_null = All-weaker (IsNotNullAt b h.f.terms) (IsNotNullAt c h.f.terms)
        (λ column at. record { a = at.a; there = at.there; not_null = not_null k l (λ t. t) carries at.not_null }) h.it.columns h.not_null;
  }

  rule_passes : (rule part : ℕ) (facts : List ℕ) → RulePasses p b rule part facts → RulePasses p c rule part facts
  rule_passes rule part facts h = record { it = h.it; is_part = h.is_part; side = h.side; pass = facts_pass h.side h.it facts h.pass }

  view_passes : (view part : ℕ) (facts : List ℕ) → ViewPasses p b view part facts → ViewPasses p c view part facts
  view_passes view part facts h = record { it = h.it; is_part = h.is_part; pass = facts_pass One h.it facts h.pass }

  -- ---- steps that are met

  entry_met : (entry : ℕ) → EntryIsMet p b entry → EntryIsMet p c entry
  entry_met entry h = record { it = h.it; there = h.there; given = given_on One [] h.it.row h.it.query.parts tt h.given }

  link_met : (link fact : ℕ) → LinkIsMet p.policy.schema b link fact → LinkIsMet p.policy.schema c link fact
  link_met link fact h =
      let us = terms_at b h.number in
      let same : terms_at c h.number ≡ us = terms_kept b c h.number (fact_kept b c more facts_are h.number h.target.fact h.target.there ∙ sym h.target.there) in
      record {
        f = h.f;
        fact_is = fact_kept b c more facts_are fact h.f h.fact_is;
        it = h.it;
        link_of = h.link_of;
        number = h.number;
        target = fact_of_kept b c more facts_are h.f.side h.it.target h.number h.target;
        equal = subst (λ us. All (AreEqualIn c h.f.terms us) (zip h.it.columns h.it.target_columns)) (sym same)
            (All-weaker (AreEqualIn b h.f.terms us) (AreEqualIn c h.f.terms us)
            (λ columns at. record { a = at.a; c = at.c; left_is = at.left_is; right_is = at.right_is; equal = equal k l (λ t. t) carries at.equal })
            (zip h.it.columns h.it.target_columns) h.equal);
      }

  rule_met : (rule part : ℕ) (facts : List ℕ) → RuleIsMet p b rule part facts → RuleIsMet p c rule part facts
  rule_met rule part facts h = record {
    it = h.it;
    rule_is = h.rule_is;
    left = h.left;
    part_is = h.part_is;
    side = h.side;
    mapping = mapping_kept b c more facts_are h.side h.left.from facts h.mapping;
    given = given_on h.side facts h.left.head h.it.right.parts (are_kept b c more facts_are h.side h.left.from facts h.mapping) h.given;
  }

  view_met : (view part : ℕ) (facts : List ℕ) → AreKept b c facts → ViewIsMet p b view part facts → ViewIsMet p c view part facts
  view_met view part facts kept h = record { it = h.it; view_is = h.view_is; of = h.of; part_is = h.part_is; given = given_on Two facts h.of.head h.it.query.parts kept h.given }

  -- ---- any of these

  pub still_passes : (step : Step) → Lasts step → Passes p b step → Passes p c step
  still_passes (steps.Entry branch entry) lasts h = h
  still_passes (steps.Key branch key left right) lasts h = absurd lasts
  still_passes (steps.Link branch link fact) lasts h = link_passes link fact h
  still_passes (steps.Rule branch rule part facts) lasts h = rule_passes rule part facts h
  still_passes (steps.View branch view part facts) lasts h = view_passes view part facts h
  still_passes (steps.Split branch atom) lasts h = absurd lasts
  still_passes (steps.Absurd branch) lasts h = absurd lasts
  still_passes (steps.Goal branch part facts) lasts h = absurd lasts

  still_met : (step : Step) → Lasts step → IsTold p b step → Tells p c step → ⊥
  still_met (steps.Entry branch entry) lasts h tells = h.none (λ met. tells (entry_met entry met))
  still_met (steps.Key branch key left right) lasts h tells = absurd lasts
  still_met (steps.Link branch link fact) lasts h tells = h.none (λ met. tells (link_met link fact met))
  still_met (steps.Rule branch rule part facts) lasts h tells = h.none (λ met. tells (rule_met rule part facts met))
  still_met (steps.View branch view part facts) lasts h tells =
      let passes : ViewPasses p b view part facts = h.passes in
      let kept = are_kept b c more facts_are One passes.it.from facts passes.pass.mapping in
      h.none (λ met. tells (view_met view part facts kept met))
  still_met (steps.Split branch atom) lasts h tells = absurd lasts
  still_met (steps.Absurd branch) lasts h tells = absurd lasts
  still_met (steps.Goal branch part facts) lasts h tells = absurd lasts

  pub still_told : (step : Step) → Lasts step → IsTold p b step → IsTold p c step
  still_told step lasts h = record { passes = still_passes step lasts h.passes; none = still_met step lasts h }
