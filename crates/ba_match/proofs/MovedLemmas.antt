-- Steps that close a problem close it with other entries too, once each entry has its number there.
use Rattle.std.proofs.Common.{◌≡◌, ◌∙◌, ℕ, List, [], ◌∷◌, inl, inr, map, refl, sym, ap, subst}
use Rattle.std.proofs.lemmas.List.{map-append}
use Rattle.std.specs.Prelude.{Some, slice_get}
use Rattle.std.specs.List.{AllZip}
use Rattle.ba_model.specs.declared.query.Operand.{Operand}
use Rattle.ba_model.specs.declared.query.Part.{Part}
use Rattle.ba_facts.specs.declared.branch.Branch.{Branch}
use Rattle.ba_kernel.specs.Courses.{IsOpen, IsStartOf, Runs, Slots, Takes, after, branch_of}
use Rattle.ba_kernel.specs.Effects.{IsEntryRound, SharesLiteral}
use Rattle.ba_kernel.specs.Replays.{Closes}
use Rattle.ba_kernel.specs.Steps.{Leads}
use Rattle.ba_kernel.specs.declared.problem.Problem.{Problem}
use Rattle.ba_kernel.specs.declared.problem.ProblemEntry.{ProblemEntry}
use Rattle.ba_kernel.specs.declared.step.Step.{Step}
use Rattle.ba_kernel.specs.declared.step.Step.TheVariants as steps
use Rattle.ba_match.specs.Instances.{number_in}

-- the step with these numbers for entries
abbrev pub renumbered : List ℕ → Step → Step
renumbered numbers (steps.Entry branch entry) = steps.Entry branch (number_in numbers entry)
renumbered numbers (steps.Key branch key left right) = steps.Key branch key left right
renumbered numbers (steps.Link branch link fact) = steps.Link branch link fact
renumbered numbers (steps.Rule branch rule part facts) = steps.Rule branch rule part facts
renumbered numbers (steps.View branch view part facts) = steps.View branch view part facts
renumbered numbers (steps.Split branch atom) = steps.Split branch atom
renumbered numbers (steps.Absurd branch) = steps.Absurd branch
renumbered numbers (steps.Goal branch part facts) = steps.Goal branch part facts

branch_kept : (numbers : List ℕ) (step : Step) → branch_of (renumbered numbers step) ≡ branch_of step
branch_kept numbers (steps.Entry branch entry) = refl
branch_kept numbers (steps.Key branch key left right) = refl
branch_kept numbers (steps.Link branch link fact) = refl
branch_kept numbers (steps.Rule branch rule part facts) = refl
branch_kept numbers (steps.View branch view part facts) = refl
branch_kept numbers (steps.Split branch atom) = refl
branch_kept numbers (steps.Absurd branch) = refl
branch_kept numbers (steps.Goal branch part facts) = refl

module _ (p : Problem) (entries : List ProblemEntry) (numbers : List ℕ)
    (there : (n : ℕ) (it : ProblemEntry) → slice_get p.entries n ≡ Some it → slice_get entries (number_in numbers n) ≡ Some it) where
  abbrev moved : Problem
  moved = record p { entries = entries }

  round_kept : (row : List Operand) (round : ℕ) → IsEntryRound p row round → IsEntryRound moved row round
  round_kept row round (inl (h, is)) = inl (record { value = h.value; in_row = h.in_row; in_goal = h.in_goal }, is)
  round_kept row round (inr (none, is)) = inr ((λ (h : SharesLiteral moved row). none (record { value = h.value; in_row = h.in_row; in_goal = h.in_goal })), is)

  leads_kept : (b : Branch) (step : Step) (cases : List Branch) → Leads p b step cases → Leads moved b (renumbered numbers step) cases
  leads_kept b (steps.Entry branch entry) cases h = record {
    passes = record { it = h.passes.it; there = there entry h.passes.it h.passes.there };
    row = h.row;
    row_is = h.row_is;
    round = h.round;
    round_is = round_kept h.passes.it.row h.round h.round_is;
    cases_are = h.cases_are;
  }
  leads_kept b (steps.Key branch key left right) cases h = record { passes = h.passes; cases_are = h.cases_are }
  leads_kept b (steps.Link branch link fact) cases h = record { passes = h.passes; lessons = h.lessons; lessons_are = h.lessons_are; cases_are = h.cases_are }
  leads_kept b (steps.Rule branch rule part facts) cases h = record {
    passes = record {
      it = h.passes.it;
      is_part = record { of = h.passes.is_part.of; rule_is = h.passes.is_part.rule_is; part_is = h.passes.is_part.part_is };
      side = h.passes.side;
      pass = h.passes.pass;
    };
    next = h.next;
  }
  leads_kept b (steps.View branch view part facts) cases h = record {
    passes = record {
      it = h.passes.it;
      is_part = record { of = h.passes.is_part.of; view_is = h.passes.is_part.view_is; part_is = h.passes.is_part.part_is };
      pass = h.passes.pass;
    };
    next = h.next;
  }
  leads_kept b (steps.Split branch atom) cases h = h
  leads_kept b (steps.Absurd branch) cases h = h
  leads_kept b (steps.Goal branch part facts) cases h = record {
    passes = record { it = h.passes.it; is_part = h.passes.is_part; pass = h.passes.pass; head = h.passes.head };
    cases_are = h.cases_are;
  }

  takes_kept : (old new : Slots) (step : Step) → Takes p old step new → Takes moved old (renumbered numbers step) new
  takes_kept old new step t =
      let same = branch_kept numbers step in
      record {
        branch = t.branch;
        open_ = subst (λ n. IsOpen old n t.branch) (sym same) t.open_;
        cases = t.cases;
        leads = leads_kept t.branch step t.cases t.leads;
        new_is = t.new_is ∙ ap (λ n. after old n t.cases) (sym same);
      }

  start_kept : (part : Part) (b : Branch) → IsStartOf p part b → IsStartOf moved part b
  start_kept part b h = record {
    atoms = h.atoms;
    assumed = h.assumed;
    goal = h.goal;
    atoms_are = h.atoms_are;
    assumed_are = h.assumed_are;
    goal_is = h.goal_is;
    new_is = h.new_is;
  }

  starts_kept : (parts : List Part) (branches : List Branch) → AllZip (IsStartOf p) parts branches → AllZip (IsStartOf moved) parts branches
  starts_kept [] [] h = tt
  starts_kept [] (b ∷ branches) h = absurd h
  starts_kept (part ∷ parts) [] h = absurd h
  starts_kept (part ∷ parts) (b ∷ branches) h = (start_kept part b h.0, starts_kept parts branches h.1)

  runs_kept : (taken : List Step) (slots : Slots) → Runs p taken slots → Runs moved (map (renumbered numbers) taken) slots
  runs_kept taken slots (Runs.start h) =
      Runs.start (record { branches = h.branches; starts = starts_kept p.goal.parts h.branches h.starts; slots_are = h.slots_are })
  runs_kept taken slots (Runs.next {taken = front} {step = step} {old = old} h t) =
      subst (λ all. Runs moved all slots) (sym (map-append (renumbered numbers) front (step ∷ [])))
      (Runs.next (runs_kept front old h) (takes_kept old slots step t))

  pub closes_kept : (taken : List Step) → Closes p taken → Closes moved (map (renumbered numbers) taken)
  closes_kept taken h = record { slots = h.slots; runs = runs_kept taken h.slots h.runs; closed = h.closed }
