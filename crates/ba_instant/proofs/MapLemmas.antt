-- Steps on facts that a part is mapped to.
use Rattle.std.proofs.Common.{◌≡◌, ◌∙◌, ℕ, ◌<◌, ◌≤◌, inl, inr, List, [], ◌∷◌, ◌++◌, length, map, refl, sym, ap, subst, arith, append_assoc}
use Rattle.std.proofs.lemmas.Option.{slice_get_within}
use Rattle.std.specs.List.{All, Any}
use Rattle.std.specs.Prelude.{Option, Some, slice_get}
use Rattle.ba_model.specs.declared.policy.View.{View}
use Rattle.ba_model.specs.declared.query.Part.{Part}
use Rattle.ba_model.specs.declared.schema.Rule.{Rule}
use Rattle.ba_facts.proofs.WalkLemmas.{completes_last, last_completes, pruned}
use Rattle.ba_facts.specs.Matches.{IsFactOf, IsMapping, IsShown, terms_at}
use Rattle.ba_facts.specs.Walks.{FailsAt}
use Rattle.ba_facts.specs.declared.branch.Branch.{Branch}
use Rattle.ba_facts.specs.declared.walk.Wanted.TheVariants.{Shown}
use Rattle.ba_facts.specs.declared.term.Side.{Side}
use Rattle.ba_facts.specs.declared.term.Side.TheVariants.{One, Two}
use Rattle.ba_kernel.specs.Courses.{IsOpen}
use Rattle.ba_kernel.specs.SearchStates.{Course}
use Rattle.ba_kernel.specs.Steps.{FactsPass, GoalPasses, RulePasses, ViewPasses}
use Rattle.ba_kernel.specs.declared.step.Step.{Step}
use Rattle.ba_kernel.specs.declared.step.Step.TheVariants as steps
use Rattle.ba_instant.proofs.ChaseLemmas.{new_on}
use Rattle.ba_instant.proofs.OfferLemmas.{improves_as, improves_none}
use Rattle.ba_instant.specs.Offers.{Improves, IsMapped, IsMappedFrom, IsNewIn, IsOfForm, IsOfSides, step_of}
use Rattle.ba_instant.specs.declared.batch.Batch.{Batch}
use Rattle.ba_instant.specs.declared.mapped.Form.{Form}
use Rattle.ba_instant.specs.declared.mapped.Form.TheVariants.{OfRule, OfView, OfGoal}
use Rattle.ba_settle.specs.declared.order.Pick.{Pick}

-- ---- the walk over a part's tables

module _ (c : Course) (pick : Pick) (b : Branch) (n : ℕ) (form : Form) (side : Side) (part : Part) where
  abbrev pub From : List ℕ → List ℕ → Step → Type 0
  From = IsMappedFrom b n form side part

  pub mapped_hopeless : (from chosen : List ℕ) (old : Option Batch) → Any (FailsAt b.known Shown (map (terms_at b) chosen)) part.conds →
      Improves c pick (From from chosen) old old
  mapped_hopeless from chosen old any = improves_none c pick (From from chosen) old (λ step e new. pruned b side part Shown from chosen any e.0 e.2)

  -- no table is left
  pub mapped_on : (facts : List ℕ) (step : Step) (old new : Option Batch) → step ≡ step_of n form facts → All (IsShown b.known (map (terms_at b) facts)) part.conds →
      Improves c pick (λ it. it ≡ step) old new → Improves c pick (From [] facts) old new
  mapped_on facts step old new is shown h =
      improves_as c pick (λ it. it ≡ step) (From [] facts) old new
      (λ it e new. (facts, e ∙ is, last_completes b side part Shown facts shown))
      (λ it e new. e.1 ∙ (ap (step_of n form) (completes_last b side part Shown facts e.0 e.2) ∙ sym is)) h

  pub mapped_off : (facts : List ℕ) (old : Option Batch) → (All (IsShown b.known (map (terms_at b) facts)) part.conds → ⊥) → Improves c pick (From [] facts) old old
  mapped_off facts old hidden =
      improves_none c pick (From [] facts) old
      (λ step e new. hidden (subst (λ xs. All (IsShown b.known (map (terms_at b) xs)) part.conds) (completes_last b side part Shown facts e.0 e.2) (e.2).meets))

  -- a table is left: one of its facts is chosen
  pub mapped_joined : (table : ℕ) (rest chosen : List ℕ) (fact : ℕ) (step : Step) → IsFactOf b side table fact → From rest (chosen ++ fact ∷ []) step →
      From (table ∷ rest) chosen step
  mapped_joined table rest chosen fact step is (facts, same, h) =
      (facts, same, record { rest = fact ∷ h.rest; facts_are = h.facts_are ∙ append_assoc chosen (fact ∷ []) h.rest; facts_of = (is, h.facts_of); meets = h.meets })

  pub mapped_parted : (table : ℕ) (rest chosen : List ℕ) (step : Step) → From (table ∷ rest) chosen step →
      (fact : ℕ) × IsFactOf b side table fact × From rest (chosen ++ fact ∷ []) step
  mapped_parted table rest chosen step (facts, same, h) = at h.rest h.facts_are h.facts_of
    where
      at : (left : List ℕ) → facts ≡ chosen ++ left → IsMapping b side (table ∷ rest) left →
          (fact : ℕ) × IsFactOf b side table fact × From rest (chosen ++ fact ∷ []) step
      at [] are of = absurd of
      at (fact ∷ left) are of =
          (fact, of.0, (facts, same, record { rest = left; facts_are = are ∙ sym (append_assoc chosen (fact ∷ []) left); facts_of = of.1; meets = h.meets }))

  -- all tables
  pub mapped_whole : (from chosen : List ℕ) (old new : Option Batch) → from ≡ part.from → chosen ≡ [] → Improves c pick (From from chosen) old new →
      Improves c pick (IsMapped b n form side part) old new
  mapped_whole from chosen old new is none h =
      improves_as c pick (From part.from []) (IsMapped b n form side part) old new
      (λ step e is. (e.0, e.1, record { mapping = subst (IsMapping b side part.from) (sym (e.2).facts_are) (e.2).facts_of; shown = (e.2).meets }))
      (λ step e is. (e.0, e.1, record { rest = e.0; facts_are = refl; facts_of = (e.2).mapping; meets = (e.2).shown }))
      (subst (λ xs. Improves c pick (From xs []) old new) is (subst (λ xs. Improves c pick (From from xs) old new) none h))

-- ---- views, rules and the goal

some_inj : {X : Type 0} (o : Option X) (x y : X) → o ≡ Some x → o ≡ Some y → x ≡ y
some_inj o x y left right = cc

past_end : {X : Type 0} (xs : List X) (i : ℕ) (x : X) → slice_get xs i ≡ Some x → length xs ≤ i → ⊥
past_end xs i x there past =
    let below : i < length xs = slice_get_within xs i x there in
    omega (arith, below, past)

module _ (c : Course) (n : ℕ) (b : Branch) (open_ : IsOpen c.slots n b) where
  view_passes : (view part : ℕ) (facts : List ℕ) (step : Step) → step ≡ steps.View n view part facts → IsNewIn c step → ViewPasses c.problem b view part facts
  view_passes view part facts step is new = (new_on c n b (steps.View n view part facts) open_ refl (subst (IsNewIn c) is new)).passes

  pub view_past : (view : ℕ) (step : Step) → length c.problem.policy.views ≤ view → (part : ℕ) × IsOfForm n (OfView view part) step → IsNewIn c step → ⊥
  view_past view step past (part, (facts, is)) new =
      let h = view_passes view part facts step is new in
      past_end c.problem.policy.views view h.is_part.of h.is_part.view_is past

  module _ (view : ℕ) (it : View) (there : slice_get c.problem.policy.views view ≡ Some it) where
    pub view_part_past : (part : ℕ) (step : Step) → length it.query.parts ≤ part → IsOfForm n (OfView view part) step → IsNewIn c step → ⊥
    view_part_past part step past (facts, is) new =
        let h = view_passes view part facts step is new in
        let same : h.is_part.of ≡ it = some_inj _ h.is_part.of it h.is_part.view_is there in
        past_end it.query.parts part h.it (subst (λ v. slice_get v.query.parts part ≡ Some h.it) same h.is_part.part_is) past

    pub view_mapped : (pick : Pick) (part : ℕ) (of : Part) (old new : Option Batch) → slice_get it.query.parts part ≡ Some of →
        Improves c pick (IsMapped b n (OfView view part) One of) old new → Improves c pick (IsOfForm n (OfView view part)) old new
    view_mapped pick part of old new part_is h =
        improves_as c pick (IsMapped b n (OfView view part) One of) (IsOfForm n (OfView view part)) old new (λ step e is. (e.0, e.1))
        (λ step e is.
        let k = view_passes view part e.0 step e.1 is in
        let same : k.is_part.of ≡ it = some_inj _ k.is_part.of it k.is_part.view_is there in
        let one : k.it ≡ of = some_inj _ k.it of (subst (λ v. slice_get v.query.parts part ≡ Some k.it) same k.is_part.part_is) part_is in
        (e.0, e.1, subst (λ q. FactsPass b One q e.0) one k.pass)) h

  goal_passes : (part : ℕ) (facts : List ℕ) (step : Step) → step ≡ steps.Goal n part facts → IsNewIn c step → GoalPasses c.problem b part facts
  goal_passes part facts step is new = (new_on c n b (steps.Goal n part facts) open_ refl (subst (IsNewIn c) is new)).passes

  pub goal_past : (part : ℕ) (step : Step) → length c.problem.goal.parts ≤ part → IsOfForm n (OfGoal part) step → IsNewIn c step → ⊥
  goal_past part step past (facts, is) new =
      let h = goal_passes part facts step is new in
      past_end c.problem.goal.parts part h.it h.is_part past

  pub goal_mapped : (pick : Pick) (part : ℕ) (of : Part) (old new : Option Batch) → slice_get c.problem.goal.parts part ≡ Some of →
      Improves c pick (IsMapped b n (OfGoal part) Two of) old new → Improves c pick (IsOfForm n (OfGoal part)) old new
  goal_mapped pick part of old new part_is h =
      improves_as c pick (IsMapped b n (OfGoal part) Two of) (IsOfForm n (OfGoal part)) old new (λ step e is. (e.0, e.1))
      (λ step e is.
      let k = goal_passes part e.0 step e.1 is in
      let one : k.it ≡ of = some_inj _ k.it of k.is_part part_is in
      (e.0, e.1, subst (λ q. FactsPass b Two q e.0) one k.pass)) h

  rule_passes : (rule part : ℕ) (facts : List ℕ) (step : Step) → step ≡ steps.Rule n rule part facts → IsNewIn c step → RulePasses c.problem b rule part facts
  rule_passes rule part facts step is new = (new_on c n b (steps.Rule n rule part facts) open_ refl (subst (IsNewIn c) is new)).passes

  pub rule_past : (rule : ℕ) (step : Step) → length c.problem.policy.schema.rules ≤ rule → (part : ℕ) × IsOfForm n (OfRule rule part) step → IsNewIn c step → ⊥
  rule_past rule step past (part, (facts, is)) new =
      let h = rule_passes rule part facts step is new in
      past_end c.problem.policy.schema.rules rule h.is_part.of h.is_part.rule_is past

  on_side : (form : Form) (of : Part) (step : Step) (side : Side) → IsMapped b n form side of step → IsOfSides b n form of step
  on_side form of step One h = inl h
  on_side form of step Two h = inr h

  module _ (rule : ℕ) (it : Rule) (there : slice_get c.problem.policy.schema.rules rule ≡ Some it) where
    pub rule_part_past : (part : ℕ) (step : Step) → length it.left.parts ≤ part → IsOfForm n (OfRule rule part) step → IsNewIn c step → ⊥
    rule_part_past part step past (facts, is) new =
        let h = rule_passes rule part facts step is new in
        let same : h.is_part.of ≡ it = some_inj _ h.is_part.of it h.is_part.rule_is there in
        past_end it.left.parts part h.it (subst (λ v. slice_get v.left.parts part ≡ Some h.it) same h.is_part.part_is) past

    pub rule_mapped : (pick : Pick) (part : ℕ) (of : Part) (old new : Option Batch) → slice_get it.left.parts part ≡ Some of →
        Improves c pick (IsOfSides b n (OfRule rule part) of) old new → Improves c pick (IsOfForm n (OfRule rule part)) old new
    rule_mapped pick part of old new part_is h =
        improves_as c pick (IsOfSides b n (OfRule rule part) of) (IsOfForm n (OfRule rule part)) old new
        (λ step e is. elim e [ inl m ↦ (m.0, m.1) | inr m ↦ (m.0, m.1) ])
        (λ step e is.
        let k = rule_passes rule part e.0 step e.1 is in
        let same : k.is_part.of ≡ it = some_inj _ k.is_part.of it k.is_part.rule_is there in
        let one : k.it ≡ of = some_inj _ k.it of (subst (λ v. slice_get v.left.parts part ≡ Some k.it) same k.is_part.part_is) part_is in
        on_side (OfRule rule part) of step k.side (e.0, e.1, subst (λ q. FactsPass b k.side q e.0) one k.pass)) h
