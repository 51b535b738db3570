-- Where equations alone are used no split is new.
use Rattle.std.proofs.Common.{◌≡◌, ◌∙◌, ℕ, List, All, Contains, sym, subst}
use Rattle.std.proofs.lemmas.List.Elements.{All-contains, All-nil, All-push}
use Rattle.std.specs.List.{Any}
use Rattle.ba_comply.specs.declared.trace.TraceEntry.{TraceEntry}
use Rattle.ba_facts.specs.Matches.{GivesAtom}
use Rattle.ba_facts.specs.declared.branch.Branch.{Branch}
use Rattle.ba_facts.specs.declared.term.Term.{Term}
use Rattle.ba_facts.specs.declared.term.TermAtom.{TermAtom}
use Rattle.ba_kernel.specs.Courses.{Slots}
use Rattle.ba_kernel.specs.News.{IsNewOn}
use Rattle.ba_kernel.specs.Problems.{problem_of}
use Rattle.ba_kernel.specs.Steps.{IsCandidate, IsOfNewKind, of_goal, of_rule, of_view}
use Rattle.ba_kernel.specs.declared.problem.Problem.{Problem}
use Rattle.ba_kernel.specs.declared.step.Step.{Step}
use Rattle.ba_kernel.specs.declared.step.Step.TheVariants as steps
use Rattle.ba_model.specs.Equations.{AreEquations as EquationsAlone, IsOfEquations}
use Rattle.ba_model.specs.declared.policy.Context.{Context}
use Rattle.ba_model.specs.declared.policy.Policy.{Policy}
use Rattle.ba_model.specs.declared.policy.View.{View}
use Rattle.ba_model.specs.declared.query.Atom.{Atom}
use Rattle.ba_model.specs.declared.query.Op.TheVariants.{Eq}
use Rattle.ba_model.specs.declared.query.Part.{Part}
use Rattle.ba_model.specs.declared.query.Query.{Query}
use Rattle.ba_model.specs.declared.schema.Rule.{Rule}
use Rattle.ba_settle.specs.Dues.{DueList, next, start}
use Rattle.ba_settle.specs.declared.order.Pick.{Pick}
use Rattle.ba_refute.specs.OfEquations.{IsQuestionOfEquations}

-- the step splits no branch by an atom
abbrev pub IsNoSplit : Step → Type 0
IsNoSplit (steps.Entry branch entry) = Unit {0}
IsNoSplit (steps.Key branch key left right) = Unit {0}
IsNoSplit (steps.Link branch link fact) = Unit {0}
IsNoSplit (steps.Rule branch rule part facts) = Unit {0}
IsNoSplit (steps.View branch view part facts) = Unit {0}
IsNoSplit (steps.Split branch atom) = ⊥
IsNoSplit (steps.Absurd branch) = Unit {0}
IsNoSplit (steps.Goal branch part facts) = Unit {0}

atom_equation : (rows : List (List Term)) (atom : TermAtom) (conds : List Atom) → EquationsAlone conds → Any (GivesAtom rows atom) conds → atom.op ≡ Eq
atom_equation rows atom conds h (i, cond, below, at, gives) = sym gives.op ∙ All-contains (λ (a : Atom). a.op ≡ Eq) conds cond h (i, below, at)

part_equation : (q : Query) (part : Part) → IsOfEquations q → Contains q.parts part → EquationsAlone part.conds
part_equation q part h there = All-contains (λ (part : Part). EquationsAlone part.conds) q.parts part h there

module _ (policy : Policy) (c : Context) (trace : List TraceEntry) (q : Query) (of : IsQuestionOfEquations policy trace q) where
  abbrev p : Problem
  p = problem_of policy c trace q

  candidate_equation : (b : Branch) (atom : TermAtom) (facts : List ℕ) → IsCandidate p b atom facts → atom.op ≡ Eq
  candidate_equation b atom facts (of_view {view = view} {part = part} h g live) =
      atom_equation _ atom part.conds (part_equation view.query part (All-contains (λ (v : View). IsOfEquations v.query) policy.views view of.policy_is.views h) g) live.stands
  candidate_equation b atom facts (of_goal {part = part} g live) = atom_equation _ atom part.conds (part_equation q part of.asked g) live.stands
  candidate_equation b atom facts (of_rule {rule = rule} {part = part} side h g live) =
      atom_equation _ atom part.conds (part_equation rule.left part (All-contains (λ (r : Rule). IsOfEquations r.left) policy.schema.rules rule of.policy_is.left h) g) live.stands

  new_is_no_split : (b : Branch) (step : Step) → IsNewOn p b step → IsNoSplit step
  new_is_no_split b (steps.Entry branch entry) h = tt
  new_is_no_split b (steps.Key branch key left right) h = tt
  new_is_no_split b (steps.Link branch link fact) h = tt
  new_is_no_split b (steps.Rule branch rule part facts) h = tt
  new_is_no_split b (steps.View branch view part facts) h = tt
  new_is_no_split b (steps.Split branch atom) h =
      let e = candidate_equation b atom h.tells.facts h.tells.candidate in
      subst (λ o. IsOfNewKind b.known o atom.left atom.right) e h.tells.kind
  new_is_no_split b (steps.Absurd branch) h = tt
  new_is_no_split b (steps.Goal branch part facts) h = tt

  pub no_splits : (pick : Pick) {taken : List Step} {slots : Slots} → DueList pick p taken slots → All IsNoSplit taken
  no_splits pick (start h) = All-nil IsNoSplit
  no_splits pick (next {taken = taken} {step = step} before picked takes) =
      All-push IsNoSplit taken step (no_splits pick before) (new_is_no_split picked.due.branch step picked.due.new_)
