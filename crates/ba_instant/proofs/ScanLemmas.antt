-- What isn't new on a branch that is quiet up to a round.
use Rattle.std.proofs.Common.{◌≡◌, ℕ, ◌+◌, ◌<◌, ◌≤◌, ◌⊎◌, inl, inr, List, [], ◌∷◌, refl, sym, ap, subst, arith}
use Rattle.std.proofs.lemmas.Bool.{cases_lt}
use Rattle.std.specs.List.{Any, Contains}
use Rattle.std.specs.Prelude.{Option, Some, option_map, slice_get, unwrap_or}
use Rattle.ba_facts.specs.Matches.{round_of}
use Rattle.ba_facts.specs.declared.branch.Branch.{Branch}
use Rattle.ba_facts.specs.declared.term.Fact.{Fact}
use Rattle.ba_kernel.specs.Courses.{branch_of}
use Rattle.ba_kernel.specs.Effects.{SharesLiteral}
use Rattle.ba_kernel.specs.Steps.{IsRound, IsRoundOfEntry, LinkPasses}
use Rattle.ba_kernel.specs.SearchStates.{Course, open_at}
use Rattle.ba_kernel.specs.declared.problem.ProblemEntry.{ProblemEntry}
use Rattle.ba_kernel.specs.declared.step.Step.{Step}
use Rattle.ba_kernel.specs.declared.step.Step.TheVariants as steps
use Rattle.ba_instant.proofs.ChaseLemmas.{new_on}
use Rattle.ba_instant.proofs.DueLemmas.{round_in, round_on, telling_on}
use Rattle.ba_instant.proofs.LateLemmas.{improves_untimely}
use Rattle.ba_instant.proofs.OfferLemmas.{improves_as, improves_none}
use Rattle.ba_instant.proofs.RoundLemmas.{round_at_once}
use Rattle.ba_instant.specs.Scans.{AreRecent, IsScanOf, IsTimely, KeysAreLate}
use Rattle.ba_instant.specs.Offers.{Improves, IsEntryOf, IsLinkOfFact, IsLinkStep, IsNewIn, IsRoundIn, IsTelling, fact_round}
use Rattle.ba_instant.specs.declared.batch.Batch.{Batch}
use Rattle.ba_settle.specs.declared.order.Pick.{Pick}

pub round_least : (c : Course) (step : Step) (round other : ℕ) → IsRoundIn c step round → IsRoundIn c step other → round ≤ other
round_least c step round other is its = let same = round_at_once c.problem (open_at c.slots (branch_of step)) step round other is its in omega (arith, same)

-- ---- recent facts

round_is : (b : Branch) (fact : ℕ) (f : Fact) → slice_get b.facts fact ≡ Some f → fact_round b fact ≡ f.round
round_is b fact f there = ap (λ found. unwrap_or (option_map (λ it. it.round) found) 0) there

pub recent_or : (b : Branch) (bound : ℕ) (recent : List ℕ) → AreRecent b bound recent → (fact : ℕ) (f : Fact) → slice_get b.facts fact ≡ Some f →
    Contains recent fact ⊎ (fact_round b fact < bound)
recent_or b bound recent are fact f there = elim (cases_lt (fact_round b fact) bound) [
  | inl old ↦ inr old
  | inr late ↦
      let is = round_is b fact f there in
      inl (are fact f there (omega (arith, late, is)))
]

module _ (c : Course) (n quiet : ℕ) (b : Branch) (recent : List ℕ) (look : IsScanOf c n b quiet recent) where
  -- ---- rounds of what is new

  pub telling_late : (step : Step) (round : ℕ) → IsTelling n step → branch_of step ≡ n → IsNewIn c step → IsRound c.problem b step round → quiet < round
  telling_late step round telling on new is = look.quiet_ step round telling (new_on c n b step look.open_ on new) is

  pub telling_later : (step : Step) → IsTelling n step → branch_of step ≡ n → (round : ℕ) → IsNewIn c step → IsRoundIn c step round → quiet + 1 ≤ round
  telling_later step telling on round new is =
      let late = telling_late step round telling on new (round_on c n b look.open_ step round on is) in
      omega (arith, late)

  -- what tells something
  pub telling_untimely : (pick : Pick) (P : Step → Type 0) (best : Option Batch) → (IsTimely quiet best → ⊥) → ((step : Step) → P step → IsTelling n step) → Improves c pick P best best
  telling_untimely pick P best untimely tells =
      improves_untimely c pick P quiet best untimely
      (λ it h.
      let t = tells it.step h.of in
      let late = telling_later it.step t (telling_on c pick n it.step t) it.round h.new_ h.round_is in
      omega (arith, late))

  -- ---- keys

  pub keys_late : KeysAreLate c.problem b n quiet
  keys_late step round h is_new round_is = look.quiet_ step round (inl (inl (inl (inr h)))) is_new round_is

  -- ---- entries

  entry_past_two : (entry : ℕ) (it : ProblemEntry) → slice_get c.problem.entries entry ≡ Some it → IsNewIn c (steps.Entry n entry) → 2 ≤ quiet → ⊥
  entry_past_two entry it there new two =
      let telling : IsTelling n (steps.Entry n entry) = inl (inl (inl (inl (inl (entry, refl))))) in
      let unshared : SharesLiteral c.problem it.row → ⊥ =
      λ shares.
      let late = telling_late (steps.Entry n entry) 1 telling refl new (record { it = it; there = there; round_is = inl (shares, refl) }) in
      omega (arith, late, two) in
      let late = telling_late (steps.Entry n entry) 2 telling refl new (record { it = it; there = there; round_is = inr (unshared, refl) }) in
      omega (arith, late, two)

  pub entries_past : (pick : Pick) (old : Option Batch) → 2 ≤ quiet → Improves c pick (IsEntryOf n) old old
  entries_past pick old two =
      improves_none c pick (IsEntryOf n) old
      (λ step e new.
      let at : IsNewIn c (steps.Entry n e.0) = subst (IsNewIn c) e.1 new in
      let passes = (new_on c n b (steps.Entry n e.0) look.open_ refl at).passes in
      entry_past_two e.0 passes.it passes.there at two)

  -- a round that isn't past the quiet ones
  pub entry_past : (pick : Pick) (entry round : ℕ) (old : Option Batch) → IsRoundOfEntry c.problem entry round → round ≤ quiet → Improves c pick (λ step. step ≡ steps.Entry n entry) old old
  entry_past pick entry round old is past =
      improves_none c pick (λ step. step ≡ steps.Entry n entry) old
      (λ step same new.
      let late = telling_late (steps.Entry n entry) round (inl (inl (inl (inl (inl (entry, refl)))))) refl (subst (IsNewIn c) same new) is in
      omega (arith, late, past))

  pub entry_in : (entry round its : ℕ) → IsRoundOfEntry c.problem entry round → its ≡ round → IsRoundIn c (steps.Entry n entry) its
  entry_in entry round its is same = subst (IsRoundIn c (steps.Entry n entry)) (sym same) (round_in c n b look.open_ (steps.Entry n entry) round refl is)

  pub link_in : (fact link round : ℕ) → round ≡ 1 + fact_round b fact → IsRoundIn c (steps.Link n link fact) round
  link_in fact link round is = round_in c n b look.open_ (steps.Link n link fact) round refl (let at : round ≡ 1 + round_of b (fact ∷ []) = omega (arith, is) in at)

  -- ---- links

  link_recent : (fact link : ℕ) → IsNewIn c (steps.Link n link fact) → Contains recent fact
  link_recent fact link new =
      let passes : LinkPasses c.problem.policy.schema b link fact = (new_on c n b (steps.Link n link fact) look.open_ refl new).passes in
      elim (recent_or b quiet recent look.recent_ fact passes.f passes.fact_is) [
        | inl in_ ↦ in_
        | inr old ↦
            let late : quiet < 1 + round_of b (fact ∷ []) =
            telling_late (steps.Link n link fact) (1 + round_of b (fact ∷ [])) (inl (inl (inl (inl (inr (fact, (link, refl))))))) refl new refl in
            absurd (let no : ⊥ = omega (arith, late, old) in no)
      ]

  pub links_all : (pick : Pick) (old new : Option Batch) → Improves c pick (λ step. Any (λ fact. IsLinkOfFact n fact step) recent) old new → Improves c pick (IsLinkStep n) old new
  links_all pick old new h =
      improves_as c pick (λ step. Any (λ fact. IsLinkOfFact n fact step) recent) (IsLinkStep n) old new (λ step e is. (e.1, e.4))
      (λ step e is.
      let in_ = link_recent e.0 (e.1).0 (subst (IsNewIn c) (e.1).1 is) in
      (in_.0, e.0, in_.1, in_.2, e.1)) h
