-- A step has one round.
use Rattle.std.proofs.Common.{◌≡◌, ◌∙◌, ℕ, ◌≤◌, inl, inr, sym, subst, arith}
use Rattle.std.specs.Prelude.{Option, Some, None}
use Rattle.ba_facts.specs.Matches.{round_of}
use Rattle.ba_facts.specs.declared.branch.Branch.{Branch}
use Rattle.ba_facts.specs.declared.term.TermAtom.{TermAtom}
use Rattle.ba_kernel.specs.Effects.{IsEntryRound, SharesLiteral}
use Rattle.ba_kernel.specs.News.{IsNewAt, IsNewRound}
use Rattle.ba_kernel.specs.Steps.{IsRound, IsSplitRound}
use Rattle.ba_kernel.specs.declared.problem.Problem.{Problem}
use Rattle.ba_kernel.specs.declared.problem.ProblemEntry.{ProblemEntry}
use Rattle.ba_kernel.specs.declared.step.Step.{Step}
use Rattle.ba_kernel.specs.declared.step.Step.TheVariants as steps
use Rattle.ba_instant.specs.Offers.{IsRoundAt}

some_inj : {X : Type 0} (o : Option X) (x y : X) → o ≡ Some x → o ≡ Some y → x ≡ y
some_inj o x y left right = cc

entry_round_once : (p : Problem) (it other : ProblemEntry) (m n : ℕ) → it ≡ other → IsEntryRound p it.row m → IsEntryRound p other.row n → m ≡ n
entry_round_once p it other m n same (inl h) (inl k) = h.1 ∙ sym k.1
entry_round_once p it other m n same (inl h) (inr k) = absurd (k.0 (subst (λ e. SharesLiteral p e.row) same h.0))
entry_round_once p it other m n same (inr h) (inl k) = absurd (h.0 (subst (λ e. SharesLiteral p e.row) (sym same) k.0))
entry_round_once p it other m n same (inr h) (inr k) = h.1 ∙ sym k.1

split_round_once : (p : Problem) (b : Branch) (atom : TermAtom) (m n : ℕ) → IsSplitRound p b atom m → IsSplitRound p b atom n → m ≡ n
split_round_once p b atom m n h k =
    let one : round_of b h.facts ≤ round_of b k.facts = h.least k.facts k.candidate in
    let other : round_of b k.facts ≤ round_of b h.facts = k.least h.facts h.candidate in
    omega (arith, h.round_is, k.round_is, one, other)

pub round_once : (p : Problem) (b : Branch) (step : Step) (m n : ℕ) → IsRound p b step m → IsRound p b step n → m ≡ n
round_once p b (steps.Entry branch entry) m n h k = entry_round_once p h.it k.it m n (some_inj _ h.it k.it h.there k.there) h.round_is k.round_is
round_once p b (steps.Key branch key left right) m n h k = h ∙ sym k
round_once p b (steps.Link branch link fact) m n h k = h ∙ sym k
round_once p b (steps.Rule branch rule part facts) m n h k = h ∙ sym k
round_once p b (steps.View branch view part facts) m n h k = h ∙ sym k
round_once p b (steps.Split branch atom) m n h k = split_round_once p b atom m n h k
round_once p b (steps.Absurd branch) m n h k = h ∙ sym k
round_once p b (steps.Goal branch part facts) m n h k = h ∙ sym k

pub round_at_once : (p : Problem) (at : Option Branch) (step : Step) (m n : ℕ) → IsRoundAt p at step m → IsRoundAt p at step n → m ≡ n
round_at_once p None step m n h k = absurd h
round_at_once p (Some b) step m n h k = round_once p b step m n h k

-- ---- what the kernel tells of a step

pub not_new : (p : Problem) (at : Option Branch) (step : Step) → IsNewRound p at step None → IsNewAt p at step → ⊥
not_new p None step h new = absurd new
not_new p (Some b) step h new = h new

pub is_new : (p : Problem) (at : Option Branch) (step : Step) (round : ℕ) → IsNewRound p at step (Some round) → IsNewAt p at step × IsRoundAt p at step round
is_new p None step round h = absurd (let wrong : Some round ≡ None = h in cc)
is_new p (Some b) step round h = h
