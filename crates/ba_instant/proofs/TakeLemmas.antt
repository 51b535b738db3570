-- The facts that are chosen for a part's tables: none that can't lead to what is new and comes before what was found.
use Rattle.std.proofs.Common.{◌≡◌, ◌∙◌, ℕ, ◌+◌, ◌<◌, ◌≤◌, inl, inr, List, [], ◌∷◌, ◌++◌, refl, sym, ap, subst, arith, append_assoc}
use Rattle.std.proofs.lemmas.Option.{slice_get_within}
use Rattle.std.specs.Prelude.{◌≢◌, Option, None, max}
use Rattle.ba_model.specs.declared.query.Part.{Part}
use Rattle.ba_facts.proofs.WalkLemmas.{completes_last}
use Rattle.ba_facts.specs.Matches.{IsFactOf, round_of}
use Rattle.ba_facts.specs.Walks.{every}
use Rattle.ba_facts.specs.declared.branch.Branch.{Branch}
use Rattle.ba_facts.specs.declared.walk.Wanted.TheVariants.{Shown}
use Rattle.ba_facts.specs.declared.term.Side.{Side}
use Rattle.ba_kernel.specs.Courses.{branch_of}
use Rattle.ba_kernel.specs.Steps.{IsRound}
use Rattle.ba_kernel.specs.SearchStates.{Course}
use Rattle.ba_kernel.specs.declared.step.Step.{Step}
use Rattle.ba_kernel.specs.declared.step.Step.TheVariants as steps
use Rattle.ba_instant.proofs.DueLemmas.{round_in, round_on}
use Rattle.ba_instant.proofs.LateLemmas.{improves_behind, untimely_reaches, untimely_some}
use Rattle.ba_instant.proofs.ScanLemmas.{recent_or, telling_late}
use Rattle.ba_instant.proofs.MapLemmas.{From}
use Rattle.ba_instant.proofs.OfferLemmas.{improves_as}
use Rattle.ba_instant.proofs.OfferWalks.{in_every}
use Rattle.ba_instant.specs.Scans.{AreOld, IsScanOf, IsTimelyOf, TellsOf, least_round}
use Rattle.ba_instant.specs.Offers.{Among, Improves, IsNewOf, IsNewIn, IsRoundIn, IsTelling, Reaches, fact_round, step_of}
use Rattle.ba_instant.specs.declared.batch.Batch.{Batch}
use Rattle.ba_instant.specs.declared.scan.NewStep.{NewStep}
use Rattle.ba_instant.specs.declared.mapped.Form.{Form}
use Rattle.ba_instant.specs.declared.mapped.Form.TheVariants.{OfRule, OfView, OfGoal}
use Rattle.ba_settle.specs.declared.order.Pick.{Pick}

-- ---- rounds of facts

round_push : (b : Branch) (facts : List ℕ) (n : ℕ) → round_of b (facts ++ n ∷ []) ≡ max (round_of b facts) (fact_round b n)
round_push b [] n = omega arith
round_push b (m ∷ facts) n = let rest = round_push b facts n in omega (arith, rest)

round_has : (b : Branch) (before : List ℕ) (n : ℕ) (after : List ℕ) → fact_round b n ≤ round_of b (before ++ n ∷ after)
round_has b [] n after = omega arith
round_has b (m ∷ before) n after = let rest = round_has b before n after in omega (arith, rest)

-- ---- the steps of a form

pub form_branch : (n : ℕ) (form : Form) (facts : List ℕ) → branch_of (step_of n form facts) ≡ n
form_branch n (OfRule rule part) facts = refl
form_branch n (OfView view part) facts = refl
form_branch n (OfGoal part) facts = refl

form_tells : (n : ℕ) (form : Form) (facts : List ℕ) → TellsOf form → IsTelling n (step_of n form facts)
form_tells n (OfRule rule part) facts t = inl (inl (inr (rule, (part, (facts, refl)))))
form_tells n (OfView view part) facts t = inl (inr (view, (part, (facts, refl))))
form_tells n (OfGoal part) facts t = absurd t

form_round : (c : Course) (b : Branch) (n : ℕ) (form : Form) (facts : List ℕ) → TellsOf form → IsRound c.problem b (step_of n form facts) (1 + round_of b facts)
form_round c b n (OfRule rule part) facts t = refl
form_round c b n (OfView view part) facts t = refl
form_round c b n (OfGoal part) facts t = absurd t

form_has : (c : Course) (b : Branch) (n : ℕ) (form : Form) (facts : List ℕ) → TellsOf form → IsRound c.problem b (step_of n form facts) (least_round b form facts)
form_has c b n (OfRule rule part) facts t = refl
form_has c b n (OfView view part) facts t = refl
form_has c b n (OfGoal part) facts t = absurd t

form_least : (c : Course) (b : Branch) (n : ℕ) (form : Form) (facts : List ℕ) (round : ℕ) → IsRound c.problem b (step_of n form facts) round → least_round b form facts ≤ round
form_least c b n (OfRule rule part) facts round is = omega (arith, is)
form_least c b n (OfView view part) facts round is = omega (arith, is)
form_least c b n (OfGoal part) facts round is = omega arith

module _ (c : Course) (pick : Pick) (b : Branch) (n : ℕ) (form : Form) (side : Side) (part : Part) (quiet : ℕ) (recent : List ℕ) (look : IsScanOf c n b quiet recent) where
  -- its round is at least so much
  pub least_late : (facts : List ℕ) (step : Step) (least : ℕ) → step ≡ step_of n form facts → least ≡ least_round b form facts → (round : ℕ) → IsNewIn c step →
      IsRoundIn c step round → least ≤ round
  least_late facts step least is least_is round new h =
      let at : IsRoundIn c (step_of n form facts) round = subst (λ s. IsRoundIn c s round) is h in
      let more = form_least c b n form facts round (round_on c n b look.open_ (step_of n form facts) round (form_branch n form facts) at) in
      omega (arith, more, least_is)

  -- what tells something has that round
  pub shown_round : (facts : List ℕ) (step : Step) (least : ℕ) → step ≡ step_of n form facts → least ≡ least_round b form facts → TellsOf form → IsRoundIn c step least
  shown_round facts step least is least_is tells =
      let at : IsRoundIn c (step_of n form facts) (least_round b form facts) =
      round_in c n b look.open_ (step_of n form facts) (least_round b form facts) (form_branch n form facts) (form_has c b n form facts tells) in
      subst (λ s. IsRoundIn c s least) (sym is) (subst (IsRoundIn c (step_of n form facts)) (sym least_is) at)

  -- a step on old facts isn't new
  none_old : (facts : List ℕ) (step : Step) → step ≡ step_of n form facts → AreOld b quiet form facts → IsNewIn c step → ⊥
  none_old facts step is old new =
      let late : quiet < 1 + round_of b facts =
      telling_late c n quiet b recent look (step_of n form facts) (1 + round_of b facts) (form_tells n form facts old.0) (form_branch n form facts) (subst (IsNewIn c) is new)
      (form_round c b n form facts old.0) in
      let less = old.1 in
      omega (arith, late, less)

  module _ (table : ℕ) (rest chosen : List ℕ) where
    abbrev pub One : ℕ → Step → Type 0
    One fact step = IsFactOf b side table fact × From c pick b n form side part rest (chosen ++ fact ∷ []) step

    -- a step on facts of which this is one
    late_at : (form : Form) (fact : ℕ) (facts after : List ℕ) (it : NewStep) (P : Step → Type 0) (best : Option Batch) → it.step ≡ step_of n form facts → facts ≡ chosen ++ fact ∷ after →
        IsNewOf c P it → (IsTimelyOf b form fact best → ⊥) → Reaches pick best it
    late_at (OfRule rule number) fact facts after it P best is are h untimely =
        let on : branch_of it.step ≡ n = ap branch_of is in
        let round : IsRound c.problem b (steps.Rule n rule number facts) it.round = subst (λ s. IsRound c.problem b s it.round) is (round_on c n b look.open_ it.step it.round on h.round_is) in
        let has : fact_round b fact ≤ round_of b facts = subst (λ xs. fact_round b fact ≤ round_of b xs) (sym are) (round_has b chosen fact after) in
        untimely_reaches pick (fact_round b fact) best it untimely (omega (arith, round, has))
    late_at (OfView view number) fact facts after it P best is are h untimely =
        let on : branch_of it.step ≡ n = ap branch_of is in
        let round : IsRound c.problem b (steps.View n view number facts) it.round = subst (λ s. IsRound c.problem b s it.round) is (round_on c n b look.open_ it.step it.round on h.round_is) in
        let has : fact_round b fact ≤ round_of b facts = subst (λ xs. fact_round b fact ≤ round_of b xs) (sym are) (round_has b chosen fact after) in
        untimely_reaches pick (fact_round b fact) best it untimely (omega (arith, round, has))
    late_at (OfGoal number) fact facts after it P best is are h untimely = absurd (untimely tt)

    late_some : (form : Form) (fact : ℕ) (best : Option Batch) → (IsTimelyOf b form fact best → ⊥) → best ≢ None
    late_some (OfRule rule number) fact best untimely = untimely_some (fact_round b fact) best untimely
    late_some (OfView view number) fact best untimely = untimely_some (fact_round b fact) best untimely
    late_some (OfGoal number) fact best untimely = absurd (untimely tt)

    -- no step on it comes first
    pub not_timely : (fact : ℕ) (best : Option Batch) → (IsTimelyOf b form fact best → ⊥) → Improves c pick (One fact) best best
    not_timely fact best untimely =
        improves_behind c pick (One fact) best
        (λ it h.
        let from = (h.of).1 in
        let completes = from.2 in
        late_at form fact from.0 completes.rest it (One fact) best from.1 (completes.facts_are ∙ append_assoc chosen (fact ∷ []) completes.rest) h untimely)
        (λ step e new. late_some form fact best untimely)

  -- ---- the last table

  module _ (table : ℕ) (chosen : List ℕ) where
    abbrev Last : List ℕ → Step → Type 0
    Last = Among b side (From c pick b n form side part) (table ∷ []) chosen

    last_recent : AreOld b quiet form chosen → (step : Step) → Last (every b) step → IsNewIn c step → Last recent step
    last_recent old step (fact, has, is, from) new = elim (recent_or b quiet recent look.recent_ fact is.fact is.there) [
      | inl in_ ↦ (fact, in_, is, from)
      | inr below ↦
          let push = round_push b chosen fact in
          let less = old.1 in
          absurd (none_old (chosen ++ fact ∷ []) step
          (from.1 ∙ ap (step_of n form) (completes_last b side part Shown (chosen ++ fact ∷ []) from.0 from.2))
          (old.0, omega (arith, push, less, below)) new)
    ]

    -- the last fact is recent, since the chosen ones aren't
    pub last_all : AreOld b quiet form chosen → (old new : Option Batch) → Improves c pick (Last recent) old new → Improves c pick (Last (every b)) old new
    last_all are_old old new h =
        improves_as c pick (Last recent) (Last (every b)) old new
        (λ step e is. (e.0, in_every b e.0 (slice_get_within b.facts e.0 (e.2).fact (e.2).there), e.2, e.3)) (λ step e is. last_recent are_old step e is) h
