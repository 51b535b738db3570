-- What is told on a branch, and on those that come of it.
use Rattle.std.proofs.Common.{◌≡◌, ◌∙◌, ℕ, zero, suc, ◌<◌, ◌≤◌, ◌⊎◌, ◌+◌, inl, inr, List, [], ◌∷◌, ◌++◌, drop, length, map, refl, sym, ap, subst, take, arith}
use Rattle.std.proofs.lemmas.List.{append-nil, length-append, length-set, length_push, take-append-drop}
use Rattle.std.proofs.lemmas.List.Elements.{All-head, All-map, All-tail, Contains-append_cases, Contains-append_left, Contains-append_right, Contains-push_cases}
use Rattle.std.proofs.lemmas.Option.{slice_get-get_or, slice_get_within}
use Rattle.std.specs.List.{All, insert}
use Rattle.std.specs.Prelude.{◌≢◌, Contains, OnOk, Option, Some, None, Result, Ok, Err, slice_get, slice_index_or, slice_set}
use Rattle.ba_facts.specs.Knowing.{sort_of}
use Rattle.ba_facts.specs.declared.branch.Branch.{Branch}
use Rattle.ba_facts.specs.declared.term.Fact.{Fact}
use Rattle.ba_facts.specs.declared.term.Lesson.{Lesson}
use Rattle.ba_facts.specs.declared.term.Side.{Side}
use Rattle.ba_model.specs.SchemaFaults.{columns_of}
use Rattle.ba_kernel.proofs.StepFits.{All-at}
use Rattle.ba_kernel.specs.Courses.{IsOpen, Slots, Takes, after, branch_of}
use Rattle.ba_kernel.specs.Effects.{with_fact, with_lessons}
use Rattle.ba_kernel.specs.News.{IsNewAt}
use Rattle.ba_kernel.specs.SearchStates.{Course, open_at}
use Rattle.ba_kernel.specs.Steps.{Leads, Passes, Tells}
use Rattle.ba_kernel.specs.declared.problem.Problem.{Problem}
use Rattle.ba_kernel.specs.declared.step.Step.{Step}
use Rattle.ba_kernel.specs.declared.step.Step.TheVariants as steps
use Rattle.ba_instant.proofs.CarryLemmas.{Carries}
use Rattle.ba_instant.proofs.ChaseLemmas.{new_on, open_is}
use Rattle.ba_instant.proofs.FilledRuns.{leads_keep}
use Rattle.ba_instant.proofs.GrowthLemmas.{carries_on, get_cases}
use Rattle.ba_instant.proofs.MetLemmas.{still_passes, still_told}
use Rattle.ba_instant.proofs.NextLemmas.{was_open}
use Rattle.ba_instant.proofs.OfferLemmas.{improves_none}
use Rattle.ba_instant.proofs.TakeLemmas.{form_branch}
use Rattle.ba_instant.specs.Offers.{Improves, IsNewIn, step_of}
use Rattle.ba_instant.specs.Scans.{TellsOf}
use Rattle.ba_instant.specs.ToldSteps.{AddsStep, AreRemembered, AreTold, IsMoved, IsTold, Lasts, Remembers, StaysTold, on_branch}
use Rattle.ba_instant.specs.declared.batch.Batch.{Batch}
use Rattle.ba_instant.specs.declared.mapped.Form.{Form}
use Rattle.ba_instant.specs.declared.mapped.Form.TheVariants.{OfRule, OfView, OfGoal}
use Rattle.ba_instant.specs.declared.memory.Memory.{Memory}
use Rattle.ba_instant.specs.declared.told.Told.{Told}
use Rattle.ba_instant.specs.declared.told.ToldEntry.{ToldEntry}
use Rattle.ba_instant.specs.declared.told.ToldLink.{ToldLink}
use Rattle.ba_instant.specs.declared.told.ToldMapping.{ToldMapping}
use Rattle.ba_settle.specs.declared.order.Pick.{Pick}

-- ---- steps that are remembered

lasts_of : (told : Told) (step : Step) → Remembers told step → Lasts step
lasts_of told (steps.Entry branch entry) h = tt
lasts_of told (steps.Key branch key left right) h = absurd h
lasts_of told (steps.Link branch link fact) h = tt
lasts_of told (steps.Rule branch rule part facts) h = tt
lasts_of told (steps.View branch view part facts) h = tt
lasts_of told (steps.Split branch atom) h = absurd h
lasts_of told (steps.Absurd branch) h = absurd h
lasts_of told (steps.Goal branch part facts) h = absurd h

nowhere : {X : Type 0} (x : X) → Contains [] x → ⊥
nowhere x (k, below, e) = omega (arith, below)

-- nothing is remembered at first
none_has : (step : Step) → Remembers (record { entries = []; links = []; mappings = [] }) step → ⊥
none_has (steps.Entry branch entry) h = nowhere _ h
none_has (steps.Key branch key left right) h = h
none_has (steps.Link branch link fact) h = nowhere _ h
none_has (steps.Rule branch rule part facts) h = nowhere _ h
none_has (steps.View branch view part facts) h = nowhere _ h
none_has (steps.Split branch atom) h = h
none_has (steps.Absurd branch) h = h
none_has (steps.Goal branch part facts) h = h

pub none_told : (p : Problem) (b : Branch) (told : Told) → told ≡ record { entries = []; links = []; mappings = [] } → AreTold p b told
none_told p b told is = record { each = λ step h. absurd (none_has step (subst (λ t. Remembers t step) is h)) }

-- the form's step on the facts is, if it tells something
pub form_told : (told : Told) (n : ℕ) (form : Form) (facts : List ℕ) → TellsOf form → Contains told.mappings (record { form = form; facts = facts }) → Remembers told (step_of n form facts)
form_told told n (OfRule rule part) facts tells h = h
form_told told n (OfView view part) facts tells h = h
form_told told n (OfGoal part) facts tells h = absurd tells

-- ---- one more

pub insert_has : {X : Type 0} (xs : List X) (i : ℕ) (y x : X) → Contains (insert xs i y) x → Contains xs x ⊎ (y ≡ x)
insert_has xs i y x h = elim (Contains-append_cases (take i xs) (y ∷ drop i xs) x h) [
  | inl front ↦ inl (subst (λ zs. Contains zs x) (take-append-drop i xs) (Contains-append_left (take i xs) (drop i xs) x front))
  | inr rest ↦ elim (Contains-append_cases (y ∷ []) (drop i xs) x rest) [
    | inl one ↦ elim (Contains-push_cases [] y x one) [ inl none ↦ absurd (nowhere x none) | inr same ↦ inr same ]
    | inr back ↦ inl (subst (λ zs. Contains zs x) (take-append-drop i xs) (Contains-append_right (take i xs) (drop i xs) x back))
  ]
]

module _ (old new : Told) where
  pub entry_added : (branch entry : ℕ) → ((x : ToldEntry) → Contains new.entries x → Contains old.entries x ⊎ (record { entry = entry } ≡ x)) → new.links ≡ old.links → new.mappings ≡ old.mappings →
      AddsStep (steps.Entry branch entry) old new
  entry_added branch entry entries links mappings = record { from = at }
    where
      at : (other : Step) → Remembers new other → Remembers old other ⊎ (on_branch branch other ≡ Some (steps.Entry branch entry))
      at (steps.Entry on other) h = elim (entries (record { entry = other }) h) [
        | inl was ↦ inl was
        | inr same ↦ inr (sym (ap (λ (x : ToldEntry). Some (steps.Entry branch x.entry)) same))
      ]
      at (steps.Key on key left right) h = absurd h
      at (steps.Link on other to) h = inl (subst (λ xs. Contains xs (record { fact = to; link = other })) links h)
      at (steps.Rule on rule part facts) h = inl (subst (λ xs. Contains xs (record { form = OfRule rule part; facts = facts })) mappings h)
      at (steps.View on view part facts) h = inl (subst (λ xs. Contains xs (record { form = OfView view part; facts = facts })) mappings h)
      at (steps.Split on atom) h = absurd h
      at (steps.Absurd on) h = absurd h
      at (steps.Goal on part facts) h = absurd h

  pub link_added : (branch link fact : ℕ) → ((x : ToldLink) → Contains new.links x → Contains old.links x ⊎ (record { fact = fact; link = link } ≡ x)) → new.entries ≡ old.entries → new.mappings ≡ old.mappings →
      AddsStep (steps.Link branch link fact) old new
  link_added branch link fact links entries mappings = record { from = at }
    where
      at : (other : Step) → Remembers new other → Remembers old other ⊎ (on_branch branch other ≡ Some (steps.Link branch link fact))
      at (steps.Entry on entry) h = inl (subst (λ xs. Contains xs (record { entry = entry })) entries h)
      at (steps.Key on key left right) h = absurd h
      at (steps.Link on other to) h = elim (links (record { fact = to; link = other }) h) [
        | inl was ↦ inl was
        | inr same ↦ inr (sym (ap (λ (x : ToldLink). Some (steps.Link branch x.link x.fact)) same))
      ]
      at (steps.Rule on rule part facts) h = inl (subst (λ xs. Contains xs (record { form = OfRule rule part; facts = facts })) mappings h)
      at (steps.View on view part facts) h = inl (subst (λ xs. Contains xs (record { form = OfView view part; facts = facts })) mappings h)
      at (steps.Split on atom) h = absurd h
      at (steps.Absurd on) h = absurd h
      at (steps.Goal on part facts) h = absurd h

  pub mapping_added : (branch : ℕ) (form : Form) (facts : List ℕ) → ((x : ToldMapping) → Contains new.mappings x → Contains old.mappings x ⊎ (record { form = form; facts = facts } ≡ x)) → new.entries ≡ old.entries → new.links ≡ old.links →
      AddsStep (step_of branch form facts) old new
  mapping_added branch form facts mappings entries links = record { from = at }
    where
      on_it : branch_of (step_of branch form facts) ≡ branch
      on_it = form_branch branch form facts

      at : (other : Step) → Remembers new other → Remembers old other ⊎ (on_branch (branch_of (step_of branch form facts)) other ≡ Some (step_of branch form facts))
      at (steps.Entry on entry) h = inl (subst (λ xs. Contains xs (record { entry = entry })) entries h)
      at (steps.Key on key left right) h = absurd h
      at (steps.Link on other to) h = inl (subst (λ xs. Contains xs (record { fact = to; link = other })) links h)
      at (steps.Rule on rule part its) h = elim (mappings (record { form = OfRule rule part; facts = its }) h) [
        | inl was ↦ inl was
        | inr same ↦ inr (ap (λ n. Some (steps.Rule n rule part its)) on_it ∙ sym (ap (λ (x : ToldMapping). Some (step_of branch x.form x.facts)) same))
      ]
      at (steps.View on view part its) h = elim (mappings (record { form = OfView view part; facts = its }) h) [
        | inl was ↦ inl was
        | inr same ↦ inr (ap (λ n. Some (steps.View n view part its)) on_it ∙ sym (ap (λ (x : ToldMapping). Some (step_of branch x.form x.facts)) same))
      ]
      at (steps.Split on atom) h = absurd h
      at (steps.Absurd on) h = absurd h
      at (steps.Goal on part facts) h = absurd h

-- so it is where memory lacked for none
pub entry_added_by : {T E : Type 0} (old new : Told) (step : Step) (branch entry : ℕ) → step ≡ steps.Entry branch entry → (r : Result T E) →
    OnOk r ((x : ToldEntry) → Contains new.entries x → Contains old.entries x ⊎ (record { entry = entry } ≡ x)) → OnOk r (new.links ≡ old.links) → OnOk r (new.mappings ≡ old.mappings) → OnOk r (AddsStep step old new)
entry_added_by old new step branch entry is (Ok it) entries links mappings = subst (λ s. AddsStep s old new) (sym is) (entry_added old new branch entry entries links mappings)
entry_added_by old new step branch entry is (Err e) entries links mappings = tt

pub link_added_by : {T E : Type 0} (old new : Told) (step : Step) (branch link fact : ℕ) → step ≡ steps.Link branch link fact → (r : Result T E) →
    OnOk r ((x : ToldLink) → Contains new.links x → Contains old.links x ⊎ (record { fact = fact; link = link } ≡ x)) → OnOk r (new.entries ≡ old.entries) → OnOk r (new.mappings ≡ old.mappings) → OnOk r (AddsStep step old new)
link_added_by old new step branch link fact is (Ok it) links entries mappings = subst (λ s. AddsStep s old new) (sym is) (link_added old new branch link fact links entries mappings)
link_added_by old new step branch link fact is (Err e) links entries mappings = tt

pub mapping_added_by : {T E : Type 0} (old new : Told) (step : Step) (branch : ℕ) (form : Form) (facts : List ℕ) → step ≡ step_of branch form facts → (r : Result T E) →
    OnOk r ((x : ToldMapping) → Contains new.mappings x → Contains old.mappings x ⊎ (record { form = form; facts = facts } ≡ x)) → OnOk r (new.entries ≡ old.entries) → OnOk r (new.links ≡ old.links) → OnOk r (AddsStep step old new)
mapping_added_by old new step branch form facts is (Ok it) mappings entries links = subst (λ s. AddsStep s old new) (sym is) (mapping_added old new branch form facts mappings entries links)
mapping_added_by old new step branch form facts is (Err e) mappings entries links = tt

-- what is told isn't new
module _ (c : Course) (n : ℕ) (b : Branch) (told : Told) (open_ : IsOpen c.slots n b) (are : AreTold c.problem b told) where
  pub told_not_new : (step : Step) → branch_of step ≡ n → Remembers told step → IsNewIn c step → ⊥
  told_not_new step on has new = (are.each step has).none (new_on c n b step open_ on new).tells

  pub entry_told : (pick : Pick) (entry : ℕ) (old : Option Batch) → Contains told.entries (record { entry = entry }) → Improves c pick (λ it. it ≡ steps.Entry n entry) old old
  entry_told pick entry old has =
      improves_none c pick (λ it. it ≡ steps.Entry n entry) old (λ step is new. told_not_new (steps.Entry n entry) refl has (subst (IsNewIn c) is new))

  pub link_told : (pick : Pick) (link fact : ℕ) (old : Option Batch) → Contains told.links (record { fact = fact; link = link }) → Improves c pick (λ it. it ≡ steps.Link n link fact) old old
  link_told pick link fact old has =
      improves_none c pick (λ it. it ≡ steps.Link n link fact) old (λ step is new. told_not_new (steps.Link n link fact) refl has (subst (IsNewIn c) is new))

-- ---- the step itself, where it isn't new

same_tells : (p : Problem) (b : Branch) (n : ℕ) (step other : Step) → on_branch n other ≡ Some step → Tells p b other → Tells p b step
same_tells p b n step (steps.Entry on entry) e h = let is : steps.Entry n entry ≡ step = cc (e) in subst (Tells p b) is h
same_tells p b n step (steps.Key on key left right) e h = cc
same_tells p b n step (steps.Link on link fact) e h = let is : steps.Link n link fact ≡ step = cc (e) in subst (Tells p b) is h
same_tells p b n step (steps.Rule on rule part facts) e h = let is : steps.Rule n rule part facts ≡ step = cc (e) in subst (Tells p b) is h
same_tells p b n step (steps.View on view part facts) e h = let is : steps.View n view part facts ≡ step = cc (e) in subst (Tells p b) is h
same_tells p b n step (steps.Split on atom) e h = cc
same_tells p b n step (steps.Absurd on) e h = cc
same_tells p b n step (steps.Goal on part facts) e h = cc

same_passes : (p : Problem) (b : Branch) (n : ℕ) (step other : Step) → on_branch n other ≡ Some step → Passes p b step → Passes p b other
same_passes p b n step (steps.Entry on entry) e h = let is : step ≡ steps.Entry n entry = cc (e) in subst (Passes p b) is h
same_passes p b n step (steps.Key on key left right) e h = cc
same_passes p b n step (steps.Link on link fact) e h = let is : step ≡ steps.Link n link fact = cc (e) in subst (Passes p b) is h
same_passes p b n step (steps.Rule on rule part facts) e h = let is : step ≡ steps.Rule n rule part facts = cc (e) in subst (Passes p b) is h
same_passes p b n step (steps.View on view part facts) e h = let is : step ≡ steps.View n view part facts = cc (e) in subst (Passes p b) is h
same_passes p b n step (steps.Split on atom) e h = cc
same_passes p b n step (steps.Absurd on) e h = cc
same_passes p b n step (steps.Goal on part facts) e h = cc

-- it is on the branch of the number
pub on_it : (n : ℕ) (step here : Step) → on_branch n step ≡ Some here → branch_of here ≡ n
on_it n (steps.Entry on entry) here e = let is : steps.Entry n entry ≡ here = cc (e) in sym (ap branch_of is)
on_it n (steps.Key on key left right) here e = cc
on_it n (steps.Link on link fact) here e = let is : steps.Link n link fact ≡ here = cc (e) in sym (ap branch_of is)
on_it n (steps.Rule on rule part facts) here e = let is : steps.Rule n rule part facts ≡ here = cc (e) in sym (ap branch_of is)
on_it n (steps.View on view part facts) here e = let is : steps.View n view part facts ≡ here = cc (e) in sym (ap branch_of is)
on_it n (steps.Split on atom) here e = cc
on_it n (steps.Absurd on) here e = cc
on_it n (steps.Goal on part facts) here e = cc

lasts_still : (n : ℕ) (step here : Step) → on_branch n step ≡ Some here → Lasts step
lasts_still n (steps.Entry on entry) here e = tt
lasts_still n (steps.Key on key left right) here e = cc
lasts_still n (steps.Link on link fact) here e = tt
lasts_still n (steps.Rule on rule part facts) here e = tt
lasts_still n (steps.View on view part facts) here e = tt
lasts_still n (steps.Split on atom) here e = cc
lasts_still n (steps.Absurd on) here e = cc
lasts_still n (steps.Goal on part facts) here e = cc

lasts_made : (n : ℕ) (step here : Step) → on_branch n step ≡ Some here → Lasts here
lasts_made n (steps.Entry on entry) here e = let is : steps.Entry n entry ≡ here = cc (e) in subst Lasts is tt
lasts_made n (steps.Key on key left right) here e = cc
lasts_made n (steps.Link on link fact) here e = let is : steps.Link n link fact ≡ here = cc (e) in subst Lasts is tt
lasts_made n (steps.Rule on rule part facts) here e = let is : steps.Rule n rule part facts ≡ here = cc (e) in subst Lasts is tt
lasts_made n (steps.View on view part facts) here e = let is : steps.View n view part facts ≡ here = cc (e) in subst Lasts is tt
lasts_made n (steps.Split on atom) here e = cc
lasts_made n (steps.Absurd on) here e = cc
lasts_made n (steps.Goal on part facts) here e = cc

passes_there : (p : Problem) (b : Branch) (n : ℕ) (step here : Step) → on_branch n step ≡ Some here → Passes p b step → Passes p b here
passes_there p b n (steps.Entry on entry) here e h = let is : steps.Entry n entry ≡ here = cc (e) in subst (Passes p b) is h
passes_there p b n (steps.Key on key left right) here e h = cc
passes_there p b n (steps.Link on link fact) here e h = let is : steps.Link n link fact ≡ here = cc (e) in subst (Passes p b) is h
passes_there p b n (steps.Rule on rule part facts) here e h = let is : steps.Rule n rule part facts ≡ here = cc (e) in subst (Passes p b) is h
passes_there p b n (steps.View on view part facts) here e h = let is : steps.View n view part facts ≡ here = cc (e) in subst (Passes p b) is h
passes_there p b n (steps.Split on atom) here e h = cc
passes_there p b n (steps.Absurd on) here e h = cc
passes_there p b n (steps.Goal on part facts) here e h = cc

-- on another number it is told in the same way
pub stays_there : (p : Problem) (b : Branch) (n : ℕ) (step here : Step) (told : Told) → on_branch n step ≡ Some here → StaysTold p b step told → StaysTold p b here told
stays_there p b n step here told e h = record { told = h.told; passes = λ lasts. passes_there p b n step here e (h.passes (lasts_still n step here e)) }

pub added_told : (c : Course) (b : Branch) (step : Step) (old new : Told) → IsOpen c.slots (branch_of step) b → (IsNewAt c.problem (open_at c.slots (branch_of step)) step → ⊥) → AddsStep step old new →
    StaysTold c.problem b step old → AreTold c.problem b new
added_told c b step old new open_ not_new adds h = record { each = λ other has. at other (adds.from other has) }
  where
    no_more : Passes c.problem b step → Tells c.problem b step → ⊥
    no_more passes tells = not_new (subst (λ at. IsNewAt c.problem at step) (sym (open_is c.slots (branch_of step) b open_)) (record { passes = passes; tells = tells }))

    at : (other : Step) → Remembers old other ⊎ (on_branch (branch_of step) other ≡ Some step) → IsTold c.problem b other
    at other (inl was) = h.told.each other was
    at other (inr is) =
        let passes : Passes c.problem b step = h.passes (lasts_made (branch_of step) other step is) in
        record {
          passes = same_passes c.problem b (branch_of step) step other is passes;
          none = λ tells. no_more passes (same_tells c.problem b (branch_of step) step other is tells);
        }

-- so it is where memory lacked for none
pub added_told_by : {T E : Type 0} (c : Course) (step : Step) (old new : Told) → (IsNewAt c.problem (open_at c.slots (branch_of step)) step → ⊥) →
    ((b : Branch) → IsOpen c.slots (branch_of step) b → StaysTold c.problem b step old) → (r : Result T E) → OnOk r (AddsStep step old new) →
    OnOk r ((b : Branch) → IsOpen c.slots (branch_of step) b → AreTold c.problem b new)
added_told_by c step old new not_new stays (Ok it) adds = λ b open_. added_told c b step old new open_ not_new adds (stays b open_)
added_told_by c step old new not_new stays (Err e) adds = tt

-- ---- branches that grow

module _ (p : Problem) (step : Step) (told : Told) where
  abbrev Stays : Branch → Type 0
  Stays b = StaysTold p b step told

  grown : (b c : Branch) → Carries b.known c.known (λ t. t) → (more : List Fact) → c.facts ≡ b.facts ++ more → Stays b → Stays c
  grown b c carries more facts_are h = record {
    told = record { each = λ other has. still_told p b c carries more facts_are other (lasts_of told other has) (h.told.each other has) };
    passes = λ lasts. still_passes p b c carries more facts_are step lasts (h.passes lasts);
  }

  fact_more : (side : Side) (round : ℕ) (b : Branch) (table : ℕ) → Stays b → Stays (with_fact p.policy.schema side round b table)
  fact_more side round b table h =
      let c = with_fact p.policy.schema side round b table in
      grown b c (carries_on b.known c.known (map sort_of (columns_of p.policy.schema.tables table)) [] refl (sym (append-nil b.known.learned))) _ refl h

  lessons_more : (b : Branch) (lessons : List Lesson) → Stays b → Stays (with_lessons b lessons)
  lessons_more b lessons h =
      let c = with_lessons b lessons in
      grown b c (carries_on b.known c.known [] lessons (sym (append-nil b.known.unknowns)) refl) [] (sym (append-nil b.facts)) h

  cases_stay : (b : Branch) (cases : List Branch) → Stays b → Leads p b step cases → All Stays cases
  cases_stay b cases h leads = leads_keep p Stays fact_more lessons_more b step cases h leads

led_passes : (p : Problem) (b : Branch) (step : Step) (cases : List Branch) → Leads p b step cases → Lasts step → Passes p b step
led_passes p b (steps.Entry branch entry) cases h lasts = h.passes
led_passes p b (steps.Key branch key left right) cases h lasts = absurd lasts
led_passes p b (steps.Link branch link fact) cases h lasts = h.passes
led_passes p b (steps.Rule branch rule part facts) cases h lasts = h.passes
led_passes p b (steps.View branch view part facts) cases h lasts = h.passes
led_passes p b (steps.Split branch atom) cases h lasts = absurd lasts
led_passes p b (steps.Absurd branch) cases h lasts = absurd lasts
led_passes p b (steps.Goal branch part facts) cases h lasts = absurd lasts

-- ---- the branches after a step

-- after a write an element is the one that was written, or what was at another place
at_or : {X : Type 0} (xs : List X) (n m : ℕ) (y z : X) → slice_get (slice_set xs n y) m ≡ Some z → ((m ≡ n) × (y ≡ z)) ⊎ ((m ≢ n) × (slice_get xs m ≡ Some z))
at_or [] n m y z e = inr ((λ same. cc), e)
at_or (x ∷ xs) zero zero y z e = let is : y ≡ z = cc (e) in inl (refl, is)
at_or (x ∷ xs) zero (suc m) y z e = inr ((λ same. omega (arith, same)), e)
at_or (x ∷ xs) (suc n) zero y z e = inr ((λ same. omega (arith, same)), e)
at_or (x ∷ xs) (suc n) (suc m) y z e = elim (at_or xs n m y z e) [
  | inl here ↦ inl (ap suc here.0, here.1)
  | inr other ↦ inr ((λ same. other.0 (omega (arith, same))), other.1)
]

at_set : {X : Type 0} (xs : List X) (n : ℕ) (y z : X) → slice_get (slice_set xs n y) n ≡ Some z → y ≡ z
at_set xs n y z e = elim (at_or xs n n y z e) [ inl here ↦ here.1 | inr other ↦ absurd (other.0 refl) ]

longer : (slots : Slots) (n : ℕ) (cases : List Branch) → length slots ≤ length (after slots n cases)
longer slots n [] = omega (arith, length-set slots n None)
longer slots n (b ∷ others) = omega (arith, length-set slots n (Some b), length-append (slice_set slots n (Some b)) (map Some others))

module _ (P : Branch → Type 0) where
  abbrev Has : Option Branch → Type 0
  Has None = Unit {0}
  Has (Some b) = P b

  case_has : (slots : Slots) (n m : ℕ) (cases : List Branch) (b : Branch) → All P cases → (m ≡ n) ⊎ (length slots ≤ m) → IsOpen (after slots n cases) m b → P b
  case_has slots n m [] b all (inl same) e =
      let wrong : None ≡ Some b = at_set slots n None (Some b) (subst (λ i. slice_get (slice_set slots n None) i ≡ Some (Some b)) same e) in cc
  case_has slots n m [] b all (inr past) e =
      let below : m < length (slice_set slots n None) = slice_get_within (slice_set slots n None) m (Some b) e in
      absurd (let no : ⊥ = omega (arith, below, past, length-set slots n None) in no)
  case_has slots n m (first ∷ others) b all wh e = elim (get_cases (slice_set slots n (Some first)) (map Some others) m (Some b) e) [
    | inl here ↦ first_has wh here
    | inr there ↦ All-at Has (map Some others) there.0 (Some b) (All-map Has Some others (All-tail P first others all)) there.2
  ]
    where
      first_has : (m ≡ n) ⊎ (length slots ≤ m) → slice_get (slice_set slots n (Some first)) m ≡ Some (Some b) → P b
      first_has (inl same) here =
          let it : Some first ≡ Some b = at_set slots n (Some first) (Some b) (subst (λ i. slice_get (slice_set slots n (Some first)) i ≡ Some (Some b)) same here) in
          let is : first ≡ b = cc (it) in
          subst P is (All-head P first others all)
      first_has (inr past) here =
          let below : m < length (slice_set slots n (Some first)) = slice_get_within (slice_set slots n (Some first)) m (Some b) here in
          absurd (let no : ⊥ = omega (arith, below, past, length-set slots n (Some first)) in no)

-- what is remembered before a step
pub memory_moves : (c new : Course) (step : Step) (memory : Memory) → AreRemembered c memory → Takes c.problem c.slots step new.slots → new.problem ≡ c.problem → IsMoved new step memory
memory_moves c new step memory was takes problem_is =
    let count = was.count in
    record {
      there = (let below : branch_of step < length c.slots = slice_get_within c.slots (branch_of step) (Some takes.branch) takes.open_ in omega (arith, below, count));
      within = (let more : length c.slots ≤ length new.slots = subst (λ slots. length c.slots ≤ length slots) (sym takes.new_is) (longer c.slots (branch_of step) takes.cases) in omega (arith, more, count));
      others = λ number b told other is there.
          let inside : number < length memory.each.items = slice_get_within memory.each.items number told there in
          let open_ : IsOpen c.slots number b =
          was_open c.slots (branch_of step) number takes.cases b (omega (arith, inside, count)) other (subst (λ slots. IsOpen slots number b) takes.new_is is) in
          subst (λ p. AreTold p b told) (sym problem_is) (was.told number b told open_ there);
      cases = λ number b told wh is there.
          let stays : StaysTold c.problem takes.branch step told =
          record { told = was.told (branch_of step) takes.branch told takes.open_ there; passes = led_passes c.problem takes.branch step takes.cases takes.leads } in
          let all = cases_stay c.problem step told takes.branch takes.cases stays takes.leads in
          let where_ : (number ≡ branch_of step) ⊎ (length c.slots ≤ number) = elim wh [ inl same ↦ inl same | inr past ↦ inr (omega (arith, past, count)) ] in
          subst (λ p. StaysTold p b step told) (sym problem_is)
          (case_has (λ d. StaysTold c.problem d step told) c.slots (branch_of step) number takes.cases b all where_ (subst (λ slots. IsOpen slots number b) takes.new_is is));
    }

-- what is taken out of a list
pub was_at : (xs : List Told) (n m : ℕ) (it x : Told) → n ≡ m → m < length xs → x ≡ slice_index_or xs n x → it ≡ x → slice_get xs m ≡ Some it
was_at xs n m it x same below is e = subst (λ k. slice_get xs k ≡ Some it) same (slice_get-get_or xs n x (omega (arith, same, below)) ∙ ap Some (sym is ∙ sym e))

-- ---- the memory

module _ (c : Course) where
  -- of each open branch what is remembered is told
  pub record AreToldSo (each : List Told) : Type 0 where
    pub told : (number : ℕ) (b : Branch) (told : Told) → IsOpen c.slots number b → slice_get each number ≡ Some told → AreTold c.problem b told

  abbrev pub IsToldAt : ℕ → Told → Type 0
  IsToldAt number told = (b : Branch) → IsOpen c.slots number b → AreTold c.problem b told

  pub told_set : (each : List Told) (n : ℕ) (it : Told) → AreToldSo each → IsToldAt n it → AreToldSo (slice_set each n it)
  told_set each n it are h = record {
    told = λ number b told open_ there. elim (at_or each n number it told there) [
      | inl here ↦ subst (AreTold c.problem b) here.1 (h b (subst (λ m. IsOpen c.slots m b) here.0 open_))
      | inr other ↦ are.told number b told open_ other.1
    ];
  }

  pub told_push : (each : List Told) (n : ℕ) (it : Told) → length each ≡ n → AreToldSo each → IsToldAt n it → AreToldSo (each ++ it ∷ [])
  told_push each n it count are h = record {
    told = λ number b told open_ there. elim (get_cases each (it ∷ []) number told there) [
      | inl before ↦ are.told number b told open_ before
      | inr last ↦ at last.0 number b told (last.1 ∙ ap (λ m. m + last.0) count) open_ last.2
    ];
  }
    where
      at : (k number : ℕ) (b : Branch) (told : Told) → number ≡ n + k → IsOpen c.slots number b → slice_get (it ∷ []) k ≡ Some told → AreTold c.problem b told
      at zero number b told same open_ e = let is : it ≡ told = cc (e) in let here : number ≡ n = omega (arith, same) in subst (AreTold c.problem b) is (h b (subst (λ m. IsOpen c.slots m b) here open_))
      at (suc k) number b told same open_ e = cc

  pub told_more : (each new : List Told) (n : ℕ) (it : Told) → new ≡ each ++ it ∷ [] → length each ≡ n → AreToldSo each → IsToldAt n it → (length new ≡ n + 1) × AreToldSo new
  told_more each new n it is count are h =
      (let more = ap length is in omega (arith, more, count, length_push each it), subst AreToldSo (sym is) (told_push each n it count are h))

  -- the step's own is taken out
  pub told_out : (step : Step) (memory : Memory) (n : ℕ) (nothing : Told) → n ≡ branch_of step → nothing ≡ record { entries = []; links = []; mappings = [] } → IsMoved c step memory → AreToldSo (slice_set memory.each.items n nothing)
  told_out step memory n nothing own is h = record {
    told = λ number b told open_ there. elim (at_or memory.each.items n number nothing told there) [
      | inl here ↦ none_told c.problem b told (sym here.1 ∙ is)
      | inr other ↦ h.others number b told (λ same. other.0 (same ∙ sym own)) open_ other.1
    ];
  }

  pub told_nothing : AreToldSo []
  told_nothing = record { told = λ number b told open_ there. absurd (nothing_at number told there) }
    where
      nothing_at : (n : ℕ) (told : Told) → slice_get [] n ≡ Some told → ⊥
      nothing_at n told e = cc

  pub remembered : (memory : Memory) → length memory.each.items ≡ length c.slots → AreToldSo memory.each.items → AreRemembered c memory
  remembered memory count are = record { count = count; told = are.told }
