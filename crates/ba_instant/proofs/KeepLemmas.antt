-- After a quiet step the branch of its number stays quiet up to each round before the step's.
use Rattle.std.proofs.Common.{◌≡◌, ◌∙◌, ℕ, zero, suc, ◌+◌, ◌<◌, ◌≤◌, ◌⊎◌, inl, inr, List, [], ◌∷◌, ◌++◌, length, map, refl, ap, sym, subst, arith}
use Rattle.std.proofs.lemmas.List.{append-nil, length-set}
use Rattle.std.proofs.lemmas.List.Elements.{All-cons, All-nil, All-weaker}
use Rattle.std.proofs.lemmas.Option.{same_Some, slice_get_within}
use Rattle.std.specs.List.{All, AllZip, IsDistinct, range_with_len, zip}
use Rattle.std.specs.Prelude.{Some, None, nat_eq, slice_get, slice_set}
use Rattle.ba_model.specs.SchemaFaults.{columns_of}
use Rattle.ba_model.specs.declared.policy.View.{View}
use Rattle.ba_model.specs.declared.query.Part.{Part}
use Rattle.ba_model.specs.declared.schema.Link.{Link}
use Rattle.ba_model.specs.declared.schema.Rule.{Rule}
use Rattle.ba_model.specs.declared.schema.Table.{Table}
use Rattle.ba_facts.specs.Knowing.{IsThere}
use Rattle.ba_facts.specs.Matches.{Under, round_of, row_of, term_of}
use Rattle.ba_facts.specs.declared.branch.Branch.{Branch}
use Rattle.ba_facts.specs.declared.term.Fact.{Fact}
use Rattle.ba_facts.specs.declared.term.Lesson.TheVariants.{Same}
use Rattle.ba_facts.specs.declared.term.Side.TheVariants.{One, Two}
use Rattle.ba_facts.specs.declared.term.Term.{Term}
use Rattle.ba_facts.specs.declared.term.Term.TheVariants.{Unknown}
use Rattle.ba_kernel.proofs.BuildNext.{row_there}
use Rattle.ba_kernel.proofs.StepFits.{All-at}
use Rattle.ba_kernel.specs.Courses.{IsOpen, ProblemFits, Slots, after, branch_of}
use Rattle.ba_kernel.specs.Effects.{IsCase, rows_at, with_fact, with_lessons}
use Rattle.ba_kernel.specs.News.{IsNewOn}
use Rattle.ba_kernel.specs.Steps.{EntryLeads, IsLinkOf, IsRound, KeyLeads, Leads, LinkLeads, RuleLeads, ViewLeads}
use Rattle.ba_kernel.specs.declared.problem.Problem.{Problem}
use Rattle.ba_kernel.specs.declared.problem.ProblemEntry.{ProblemEntry}
use Rattle.ba_kernel.specs.declared.step.Step.{Step}
use Rattle.ba_kernel.specs.declared.step.Step.TheVariants as steps
use Rattle.ba_instant.proofs.FilledRuns.{runs_are_filled}
use Rattle.ba_instant.proofs.FreshLemmas.{told_of_rows}
use Rattle.ba_instant.proofs.FreshStepLemmas.{new_before}
use Rattle.ba_instant.proofs.GivenLemmas.{case_grows}
use Rattle.ba_instant.proofs.GroundRuns.{runs_are_grounded}
use Rattle.ba_instant.proofs.LinkRowLemmas.{link_grows}
use Rattle.ba_instant.proofs.OldFactLemmas.{round_is}
use Rattle.ba_instant.proofs.OldSplitLemmas.{get_within_front}
use Rattle.ba_instant.proofs.QuietLemmas.{new_was_new, quiet_stays}
use Rattle.ba_instant.proofs.QuietStepLemmas.{pass_gives}
use Rattle.ba_instant.proofs.RoundLemmas.{round_once}
use Rattle.ba_instant.proofs.SilentLemmas.{AreOfOne, silent_stays}
use Rattle.ba_instant.specs.Agendas.{IsSilent}
use Rattle.ba_instant.specs.Offers.{IsTelling}
use Rattle.ba_instant.specs.QuietKeys.{AreOne, IsQuietKey}
use Rattle.ba_instant.specs.QuietSteps.{AddsToOne, FactsAreFilled, GivesRow, IsOfOne, IsPlain, IsQuietEntry, IsQuietLink, IsQuietRule, IsQuietStep, IsQuietView, NewAfterQuietStep, QuietStepKeeps, TakesQuietly}
use Rattle.ba_instant.specs.Windows.{GrowsQuietly, IsGrounded, IsQuietUpto}

-- ---- the case that keeps the number

set_at : {X : Type 0} (xs : List X) (n : ℕ) (y : X) → n < length xs → slice_get (slice_set xs n y) n ≡ Some y
set_at [] n y below = absurd (let no : ⊥ = omega (arith, below) in no)
set_at (x ∷ xs) zero y below = refl
set_at (x ∷ xs) (suc n) y below = set_at xs n y (omega (arith, below))

-- the cases begin with this one
abbrev pub BeginsWith : List Branch → Branch → Type 0
BeginsWith [] c = ⊥
BeginsWith (d ∷ others) c = d ≡ c

pub first_case : (slots : Slots) (n : ℕ) (cases : List Branch) (c : Branch) → n < length slots → IsOpen (after slots n cases) n c → BeginsWith cases c
first_case slots n [] c below e = let none = set_at slots n None below in cc
first_case slots n (d ∷ others) c below e =
    let counted = length-set slots n (Some d) in
    let here = get_within_front (slice_set slots n (Some d)) (map Some others) n (omega (arith, below, counted)) ∙ set_at slots n (Some d) below in
    same_Some d c (same_Some (Some d) (Some c) (sym here ∙ e))

of_first : {X : Type 0} (R : X → Branch → Type 0) (parts : List X) (cases : List Branch) (of : X) (c : Branch) → AllZip R parts cases → slice_get parts 0 ≡ Some of → BeginsWith cases c → R of c
of_first R [] [] of c h e begins = absurd begins
of_first R [] (d ∷ cases) of c h e begins = absurd h
of_first R (part ∷ parts) [] of c h e begins = absurd begins
of_first R (part ∷ parts) (d ∷ cases) of c h e begins = subst (λ x. R x c) (same_Some part of e) (subst (R part) begins h.0)

of_one : (cases : List Branch) (new c : Branch) → cases ≡ new ∷ [] → BeginsWith cases c → new ≡ c
of_one cases new c e begins = subst (λ cs. BeginsWith cs c) e begins

rows_same : (xs ys : List Term) → map Some xs ≡ map Some ys → xs ≡ ys
rows_same [] [] e = refl
rows_same [] (y ∷ ys) e = cc
rows_same (x ∷ xs) [] e = cc
rows_same (x ∷ xs) (y ∷ ys) e =
    let first : x ≡ y = cc in
    let rest = rows_same xs ys (let r : map Some xs ≡ map Some ys = cc in r) in
    cc

at_least : (bound round : ℕ) (b c : Branch) → bound ≤ round → GrowsQuietly round b c → GrowsQuietly bound b c
at_least bound round b c low h =
    record {
      growth = h.growth;
      late = All-weaker (λ (fact : Fact). round ≤ fact.round) (λ (fact : Fact). bound ≤ fact.round)
          (λ fact (it : round ≤ fact.round). let all : bound ≤ fact.round = omega (arith, low, it) in all) h.growth.facts h.late;
    }

-- ---- each kind

-- of the steps that tell the branch of the number something none is new on c that wasn't on b, and each has the round that it had
abbrev pub NoneIsNew : Problem → Branch → Branch → ℕ → Type 0
NoneIsNew p b c n = (step : Step) (round : ℕ) → IsTelling n step → IsNewOn p c step × IsRound p c step round → IsNewOn p b step × IsRound p b step round

-- the branch grows quietly, or has the same facts and nothing new that wasn't
abbrev pub IsKept : Problem → Branch → Branch → ℕ → ℕ → Type 0
IsKept p b c n round = GrowsQuietly round b c ⊎ (NoneIsNew p b c n × (c.facts ≡ b.facts))

module _ (p : Problem) (b c : Branch) (grounded : IsGrounded b) (filled : FactsAreFilled p.policy.schema b) where
  entry_grows : (branch entry round : ℕ) (cases : List Branch) → EntryLeads p b entry cases → BeginsWith cases c → IsQuietEntry p b entry → IsRound p b (steps.Entry branch entry) round →
      GrowsQuietly round b c
  entry_grows branch entry round cases leads begins quiet round_at =
      let it : quiet.it ≡ leads.passes.it = same_Some quiet.it leads.passes.it (sym quiet.there ∙ leads.passes.there) in
      let round_same : leads.round ≡ round = round_once p b (steps.Entry branch entry) leads.round round (record { it = leads.passes.it; there = leads.passes.there; round_is = leads.round_is }) round_at in
      let part_is : slice_get leads.passes.it.query.parts 0 ≡ Some quiet.of = subst (λ (e : ProblemEntry). slice_get e.query.parts 0 ≡ Some quiet.of) it quiet.part_is in
      let row : quiet.row ≡ leads.row =
      rows_same quiet.row leads.row (sym (subst (λ (e : ProblemEntry). map (term_of []) e.row ≡ map Some quiet.row) it quiet.row_is) ∙ leads.row_is) in
      let gives = subst (GivesRow p.policy.schema b quiet.of quiet.rows) row quiet.gives in
      let case = of_first (IsCase p.policy.schema b One leads.round leads.row) leads.passes.it.query.parts cases quiet.of c leads.cases_are part_is begins in
      let there = row_there b [] leads.passes.it.row leads.row (record { facts = grounded.facts }) leads.row_is in
      subst (λ r. GrowsQuietly r b c) round_same (case_grows p.policy.schema b One leads.round quiet.of quiet.rows leads.row gives c there case)

  rule_grows : (rule part : ℕ) (facts : List ℕ) (cases : List Branch) → RuleLeads p b rule part facts cases → BeginsWith cases c → IsQuietRule p b rule part facts →
      GrowsQuietly (1 + round_of b facts) b c
  rule_grows rule part facts cases leads begins quiet =
      let it : quiet.it ≡ leads.passes.is_part.of = same_Some quiet.it leads.passes.is_part.of (sym quiet.rule_is ∙ leads.passes.is_part.rule_is) in
      let left : quiet.left ≡ leads.passes.it =
      same_Some quiet.left leads.passes.it (sym (subst (λ (r : Rule). slice_get r.left.parts part ≡ Some quiet.left) it quiet.left_is) ∙ leads.passes.is_part.part_is) in
      let part_is : slice_get leads.passes.is_part.of.right.parts 0 ≡ Some quiet.of = subst (λ (r : Rule). slice_get r.right.parts 0 ≡ Some quiet.of) it quiet.part_is in
      let row : quiet.row ≡ leads.next.row =
      rows_same quiet.row leads.next.row (sym (subst (λ (q : Part). row_of b facts q.head ≡ map Some quiet.row) left quiet.row_is) ∙ leads.next.row_is) in
      let gives = subst (GivesRow p.policy.schema b quiet.of quiet.rows) row quiet.gives in
      let case = of_first (IsCase p.policy.schema b leads.passes.side (1 + round_of b facts) leads.next.row) leads.passes.is_part.of.right.parts cases quiet.of c leads.next.cases_are part_is begins in
      let there = row_there b facts leads.passes.it.head leads.next.row (record { facts = grounded.facts }) leads.next.row_is in
      case_grows p.policy.schema b leads.passes.side (1 + round_of b facts) quiet.of quiet.rows leads.next.row gives c there case

  view_grows : (view part : ℕ) (facts : List ℕ) (cases : List Branch) → ViewLeads p b view part facts cases → BeginsWith cases c → IsQuietView p b view part facts →
      GrowsQuietly (1 + round_of b facts) b c
  view_grows view part facts cases leads begins quiet =
      let s = p.policy.schema in
      let it : quiet.it ≡ leads.passes.is_part.of = same_Some quiet.it leads.passes.is_part.of (sym quiet.view_is ∙ leads.passes.is_part.view_is) in
      let part_is : slice_get leads.passes.is_part.of.query.parts 0 ≡ Some quiet.of = subst (λ (v : View). slice_get v.query.parts 0 ≡ Some quiet.of) it quiet.part_is in
      let of : quiet.of ≡ leads.passes.it = same_Some quiet.of leads.passes.it (sym part_is ∙ subst (λ n. slice_get leads.passes.is_part.of.query.parts n ≡ Some leads.passes.it) quiet.first leads.passes.is_part.part_is) in
      let plain = subst (λ (q : Part). All (Under (IsPlain b.known) (rows_at b facts)) q.conds) of quiet.plain in
      let gives = pass_gives s b filled One leads.passes.it facts leads.next.row leads.passes.pass leads.next.row_is plain in
      let first : slice_get leads.passes.is_part.of.query.parts 0 ≡ Some leads.passes.it = part_is ∙ ap Some of in
      let case = of_first (IsCase s b Two (1 + round_of b facts) leads.next.row) leads.passes.is_part.of.query.parts cases leads.passes.it c leads.next.cases_are first begins in
      let there = row_there b facts leads.passes.it.head leads.next.row (record { facts = grounded.facts }) leads.next.row_is in
      case_grows s b Two (1 + round_of b facts) leads.passes.it (rows_at b facts) leads.next.row gives c there case

  link_same : (link : ℕ) (f g : Fact) (it other : Link) → f ≡ g → IsLinkOf p.policy.schema f link it → IsLinkOf p.policy.schema g link other → it ≡ other
  link_same link f g it other same h k =
      let table : h.table ≡ k.table =
      same_Some h.table k.table (sym h.table_is ∙ subst (λ (x : Fact). slice_get p.policy.schema.tables x.table ≡ Some k.table) (sym same) k.table_is) in
      same_Some it other (sym (subst (λ (t : Table). slice_get t.links link ≡ Some it) table h.link_is) ∙ k.link_is)

  link_grows_by : (link fact : ℕ) (cases : List Branch) → LinkLeads p b link fact cases → BeginsWith cases c → IsQuietLink p.policy.schema b link fact →
      GrowsQuietly (1 + round_of b (fact ∷ [])) b c
  link_grows_by link fact cases leads begins quiet =
      let s = p.policy.schema in
      let f : quiet.f ≡ leads.passes.f = same_Some quiet.f leads.passes.f (sym quiet.fact_is ∙ leads.passes.fact_is) in
      let it : quiet.it ≡ leads.passes.it = link_same link quiet.f leads.passes.f quiet.it leads.passes.it f quiet.link_of leads.passes.link_of in
      let distinct = subst (λ (l : Link). IsDistinct nat_eq l.target_columns) it quiet.distinct in
      let there = All-at (λ (x : Fact). All (IsThere b.known) x.terms) b.facts fact leads.passes.f grounded.facts leads.passes.fact_is in
      let at = round_is b fact leads.passes.f leads.passes.fact_is in
      let same : 1 + leads.passes.f.round ≡ 1 + round_of b (fact ∷ []) = omega (arith, at) in
      let new = with_lessons (with_fact s leads.passes.f.side (1 + leads.passes.f.round) b leads.passes.it.target) leads.lessons in
      subst (GrowsQuietly (1 + round_of b (fact ∷ [])) b) (of_one cases new c leads.cases_are begins)
      (subst (λ r. GrowsQuietly r b new) same (link_grows s b leads.passes.f leads.passes.it there leads.passes.not_null distinct leads.lessons leads.lessons_are))

  key_adds : (n key one other : ℕ) (cases : List Branch) → KeyLeads p b key one other cases → BeginsWith cases c → IsQuietKey p b one other → NoneIsNew p b c n
  key_adds n key one other cases leads begins quiet =
      let f : quiet.f ≡ leads.passes.f = same_Some quiet.f leads.passes.f (sym quiet.left_is ∙ leads.passes.pair.left_is) in
      let g : quiet.g ≡ leads.passes.g = same_Some quiet.g leads.passes.g (sym quiet.right_is ∙ leads.passes.pair.right_is) in
      let rows : AreOne b.known quiet.moves leads.passes.f.terms leads.passes.g.terms =
      subst (λ (x : Fact). AreOne b.known quiet.moves x.terms leads.passes.g.terms) f (subst (λ (x : Fact). AreOne b.known quiet.moves quiet.f.terms x.terms) g quiet.one) in
      let lessons = map (λ (two : Term × Term). Same two.0 two.1) (zip leads.passes.f.terms leads.passes.g.terms) in
      subst (λ (d : Branch). (step : Step) (round : ℕ) → IsTelling n step → IsNewOn p d step × IsRound p d step round → IsNewOn p b step × IsRound p b step round)
      (of_one cases (with_lessons b lessons) c leads.cases_are begins)
      (λ step round. new_before p b quiet.moves lessons quiet.quiet (told_of_rows b.known quiet.moves leads.passes.f.terms leads.passes.g.terms rows) n step round)

  key_keeps : (key one other : ℕ) (cases : List Branch) → KeyLeads p b key one other cases → BeginsWith cases c → c.facts ≡ b.facts
  key_keeps key one other cases leads begins =
      let lessons = map (λ (two : Term × Term). Same two.0 two.1) (zip leads.passes.f.terms leads.passes.g.terms) in
      subst (λ (d : Branch). d.facts ≡ b.facts) (of_one cases (with_lessons b lessons) c leads.cases_are begins) refl

  step_grows : (step : Step) (cases : List Branch) (round : ℕ) → Leads p b step cases → BeginsWith cases c → IsQuietStep p b step → IsRound p b step round → IsKept p b c (branch_of step) round
  step_grows (steps.Entry branch entry) cases round leads begins quiet round_at =
      inl (entry_grows branch entry round cases leads begins quiet round_at)
  step_grows (steps.Key branch key left right) cases round leads begins quiet round_at = inr (key_adds branch key left right cases leads begins quiet, key_keeps key left right cases leads begins)
  step_grows (steps.Link branch link fact) cases round leads begins quiet round_at =
      inl (subst (λ r. GrowsQuietly r b c) (sym round_at) (link_grows_by link fact cases leads begins quiet))
  step_grows (steps.Rule branch rule part facts) cases round leads begins quiet round_at =
      inl (subst (λ r. GrowsQuietly r b c) (sym round_at) (rule_grows rule part facts cases leads begins quiet))
  step_grows (steps.View branch view part facts) cases round leads begins quiet round_at =
      inl (subst (λ r. GrowsQuietly r b c) (sym round_at) (view_grows view part facts cases leads begins quiet))
  step_grows (steps.Split branch atom) cases round leads begins quiet round_at = absurd quiet
  step_grows (steps.Absurd branch) cases round leads begins quiet round_at = absurd quiet
  step_grows (steps.Goal branch part facts) cases round leads begins quiet round_at = absurd quiet

  -- ---- by a link of a fact of side One

  -- there are more facts, all of side One
  abbrev GainsOnes : Branch → Type 0
  GainsOnes d = (more : List Fact) × (d.facts ≡ b.facts ++ more) × AreOfOne more

  link_ones : (link fact : ℕ) (cases : List Branch) → LinkLeads p b link fact cases → BeginsWith cases c → IsOfOne b fact → GainsOnes c
  link_ones link fact cases leads begins one =
      let same : one.f ≡ leads.passes.f = same_Some one.f leads.passes.f (sym one.fact_is ∙ leads.passes.fact_is) in
      let side : leads.passes.f.side ≡ One = subst (λ (x : Fact). x.side ≡ One) same one.side_is in
      let mid = with_fact p.policy.schema leads.passes.f.side (1 + leads.passes.f.round) b leads.passes.it.target in
      let row : Fact = record { side = leads.passes.f.side; table = leads.passes.it.target; terms = map Unknown (range_with_len (length b.known.unknowns) (length (columns_of p.policy.schema.tables leads.passes.it.target))); round = 1 + leads.passes.f.round } in
      subst GainsOnes (of_one cases (with_lessons mid leads.lessons) c leads.cases_are begins)
      (row ∷ [], refl, All-cons (λ (f : Fact). f.side ≡ One) row [] side (All-nil (λ (f : Fact). f.side ≡ One)))

  silent_step : (step : Step) (cases : List Branch) → Leads p b step cases → BeginsWith cases c → IsQuietStep p b step → AddsToOne b step → IsSilent p (branch_of step) b →
      IsSilent p (branch_of step) c
  silent_step (steps.Entry branch entry) cases leads begins quiet adds = absurd adds
  silent_step (steps.Key branch key left right) cases leads begins quiet adds = absurd adds
  silent_step (steps.Link branch link fact) cases leads begins quiet one =
      let grows = link_grows_by link fact cases leads begins quiet in
      let more = link_ones link fact cases leads begins one in
      silent_stays p b c grounded grows.growth more.0 more.1 more.2 branch
  silent_step (steps.Rule branch rule part facts) cases leads begins quiet adds = absurd adds
  silent_step (steps.View branch view part facts) cases leads begins quiet adds = absurd adds
  silent_step (steps.Split branch atom) cases leads begins quiet adds = absurd adds
  silent_step (steps.Absurd branch) cases leads begins quiet adds = absurd adds
  silent_step (steps.Goal branch part facts) cases leads begins quiet adds = absurd adds

module _ (p : Problem) (taken : List Step) (step : Step) (old new : Slots) (b c : Branch) (round : ℕ) (fits : ProblemFits p) (it : TakesQuietly p taken step old new b c round) where
  grounded_there : IsGrounded b
  grounded_there = runs_are_grounded p taken old (branch_of step) b fits it.runs it.from

  filled_there : FactsAreFilled p.policy.schema b
  filled_there = runs_are_filled p taken old (branch_of step) b it.runs it.from

  leads_there : Leads p b step it.takes.cases
  leads_there =
      let same : it.takes.branch ≡ b = same_Some it.takes.branch b (same_Some (Some it.takes.branch) (Some b) (sym it.takes.open_ ∙ it.from)) in
      subst (λ d. Leads p d step it.takes.cases) same it.takes.leads

  begins_there : BeginsWith it.takes.cases c
  begins_there =
      let n = branch_of step in
      first_case old n it.takes.cases c (slice_get_within old n (Some b) it.from) (subst (λ slots. IsOpen slots n c) it.takes.new_is it.to)

  kept_there : IsKept p b c (branch_of step) round
  kept_there = step_grows p b c grounded_there filled_there step it.takes.cases round leads_there begins_there it.quiet it.round_is

  pub more_facts : (more : List Fact) × (c.facts ≡ b.facts ++ more)
  more_facts = elim kept_there as (λ _. (more : List Fact) × (c.facts ≡ b.facts ++ more)) [
    | inl grows ↦ (grows.growth.facts, grows.growth.facts_are)
    | inr none ↦ ([], none.1 ∙ sym (append-nil b.facts))
  ]

  pub stays_silent : AddsToOne b step → IsSilent p (branch_of step) b → IsSilent p (branch_of step) c
  stays_silent = silent_step p b c grounded_there filled_there step it.takes.cases leads_there begins_there it.quiet

  pub was_new : (other : Step) (its_round : ℕ) → IsTelling (branch_of step) other → IsNewOn p c other → IsRound p c other its_round → its_round ≤ round →
      IsNewOn p b other × IsRound p b other its_round
  was_new other its_round telling is_new its low = elim kept_there as (λ _. IsNewOn p b other × IsRound p b other its_round) [
    | inl grows ↦ new_was_new p b c (branch_of step) round other its_round grounded_there grows telling low is_new its
    | inr none ↦ none.0 other its_round telling (is_new, its)
  ]

  pub stays_quiet : (bound : ℕ) → bound ≤ round → IsQuietUpto p b (branch_of step) bound → IsQuietUpto p c (branch_of step) bound
  stays_quiet bound low quiet = elim kept_there as (λ _. IsQuietUpto p c (branch_of step) bound) [
    | inl grows ↦ quiet_stays p b c (branch_of step) (branch_of step) bound grounded_there (at_least bound round b c low grows) quiet
    | inr none ↦ λ other its_round telling is_new its. let old = none.0 other its_round telling (is_new, its) in quiet other its_round telling old.0 old.1
  ]

pub new_after_quiet_step : NewAfterQuietStep
new_after_quiet_step p taken step old new b c round other its_round fits it telling is_new its low =
    was_new p taken step old new b c round fits it other its_round telling is_new its low

pub quiet_step_keeps : QuietStepKeeps
quiet_step_keeps p taken step old new b c round bound fits it low quiet = stays_quiet p taken step old new b c round fits it bound low quiet
