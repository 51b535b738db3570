-- A step makes one list of cases of a branch, and passes its tests there; a problem has one start.
use Rattle.std.proofs.Common.{◌≡◌, ◌∙◌, ℕ, ◌+◌, inl, inr, List, [], ◌∷◌, ◌++◌, length, map, refl, sym, ap, ap₂, subst}
use Rattle.std.proofs.lemmas.Option.{same_Some}
use Rattle.std.specs.List.{AllZip, zip}
use Rattle.std.specs.Prelude.{Option, Some, slice_get}
use Rattle.ba_model.specs.declared.policy.View.{View}
use Rattle.ba_model.specs.declared.query.Operand.{Operand}
use Rattle.ba_model.specs.declared.query.Part.{Part}
use Rattle.ba_model.specs.declared.schema.Link.{Link}
use Rattle.ba_model.specs.declared.schema.Rule.{Rule}
use Rattle.ba_model.specs.declared.schema.Schema.{Schema}
use Rattle.ba_model.specs.declared.schema.Table.{Table}
use Rattle.ba_facts.specs.Matches.{IsMapping, round_of, row_of, term_of, terms_at}
use Rattle.ba_facts.specs.declared.branch.Branch.{Branch}
use Rattle.ba_facts.specs.declared.term.Fact.{Fact}
use Rattle.ba_facts.specs.declared.term.Lesson.{Lesson}
use Rattle.ba_facts.specs.declared.term.Lesson.TheVariants.{Same}
use Rattle.ba_facts.specs.declared.term.Side.{Side}
use Rattle.ba_facts.specs.declared.term.Side.TheVariants.{One, Two}
use Rattle.ba_facts.specs.declared.term.Term.{Term}
use Rattle.ba_kernel.proofs.NewLemmas.{rule_some, side_is}
use Rattle.ba_kernel.specs.Courses.{IsStart, IsStartOf, ProblemFits, Slots, Takes, after, branch_of, nothing_known}
use Rattle.ba_kernel.specs.Effects.{IsCase, IsEntryRound, same_at, with_fact, with_facts, with_lessons}
use Rattle.ba_kernel.specs.Steps.{EntryLeads, KeyLeads, Leads, LinkLeads, Passes, RuleLeads, ViewLeads}
use Rattle.ba_kernel.specs.declared.problem.Problem.{Problem}
use Rattle.ba_kernel.specs.declared.problem.ProblemEntry.{ProblemEntry}
use Rattle.ba_kernel.specs.declared.step.Step.{Step}
use Rattle.ba_kernel.specs.declared.step.Step.TheVariants as steps

-- ---- lists

pub some_inj : {X : Type 0} (o : Option X) (x y : X) → o ≡ Some x → o ≡ Some y → x ≡ y
some_inj o x y left right = cc

pub map_some_inj : {X : Type 0} (xs ys : List X) → map Some xs ≡ map Some ys → xs ≡ ys
map_some_inj [] [] e = refl
map_some_inj [] (y ∷ ys) e = cc
map_some_inj (x ∷ xs) [] e = cc
map_some_inj (x ∷ xs) (y ∷ ys) e =
    let first : x ≡ y = cc in
    let rest : map Some xs ≡ map Some ys = cc in
    ap₂ (λ z zs. z ∷ zs) first (map_some_inj xs ys rest)

pub zip_one : {X Y : Type 0} (R : X → Y → Type 0) → ((x : X) (y z : Y) → R x y → R x z → y ≡ z) →
    (xs : List X) (ys zs : List Y) → AllZip R xs ys → AllZip R xs zs → ys ≡ zs
zip_one R one [] [] [] left right = refl
zip_one R one [] [] (z ∷ zs) left right = absurd right
zip_one R one [] (y ∷ ys) zs left right = absurd left
zip_one R one (x ∷ xs) [] zs left right = absurd left
zip_one R one (x ∷ xs) (y ∷ ys) [] left right = absurd right
zip_one R one (x ∷ xs) (y ∷ ys) (z ∷ zs) left right = ap₂ (λ v vs. v ∷ vs) (one x y z left.0 right.0) (zip_one R one xs ys zs left.1 right.1)

-- ---- a part's case

case_one : (s : Schema) (b : Branch) (side : Side) (round : ℕ) (row : List Term) (part : Part) (new other : Branch) →
    IsCase s b side round row part new → IsCase s b side round row part other → new ≡ other
case_one s b side round row part new other left right =
    let atoms = map_some_inj left.atoms right.atoms (sym left.atoms_are ∙ right.atoms_are) in
    let heads = map_some_inj left.heads right.heads (sym left.heads_are ∙ right.heads_are) in
    left.new_is ∙ (ap₂ (λ (xs ys : List Lesson). with_lessons (with_facts s side round b part.from) (xs ++ ys)) atoms heads ∙ sym right.new_is)

cases_one : (s : Schema) (b : Branch) (side : Side) (round : ℕ) (row : List Term) (parts : List Part) (cases others : List Branch) →
    AllZip (IsCase s b side round row) parts cases → AllZip (IsCase s b side round row) parts others → cases ≡ others
cases_one s b side round row parts cases others left right = zip_one (IsCase s b side round row) (case_one s b side round row) parts cases others left right

-- ---- each kind of step

round_one : (p : Problem) (row : List Operand) (m n : ℕ) → IsEntryRound p row m → IsEntryRound p row n → m ≡ n
round_one p row m n (inl (shares, m_is)) (inl (again, n_is)) = m_is ∙ sym n_is
round_one p row m n (inl (shares, m_is)) (inr (none, n_is)) = absurd (none shares)
round_one p row m n (inr (none, m_is)) (inl (shares, n_is)) = absurd (none shares)
round_one p row m n (inr (none, m_is)) (inr (again, n_is)) = m_is ∙ sym n_is

module _ (p : Problem) (b : Branch) (cases others : List Branch) where
  entry_one : (entry : ℕ) → EntryLeads p b entry cases → EntryLeads p b entry others → cases ≡ others
  entry_one entry left right =
      let s = p.policy.schema in
      let it : left.passes.it ≡ right.passes.it = some_inj _ _ _ left.passes.there right.passes.there in
      let rows : map (term_of []) left.passes.it.row ≡ map (term_of []) right.passes.it.row = ap (λ (e : ProblemEntry). map (term_of []) e.row) it in
      let row : left.row ≡ right.row = map_some_inj left.row right.row (sym left.row_is ∙ (rows ∙ right.row_is)) in
      let round : left.round ≡ right.round =
      round_one p left.passes.it.row left.round right.round left.round_is (subst (λ (e : ProblemEntry). IsEntryRound p e.row right.round) (sym it) right.round_is) in
      let at_round = subst (λ n. AllZip (IsCase s b One n right.row) right.passes.it.query.parts others) (sym round) right.cases_are in
      let at_row = subst (λ r. AllZip (IsCase s b One left.round r) right.passes.it.query.parts others) (sym row) at_round in
      let own = subst (λ (e : ProblemEntry). AllZip (IsCase s b One left.round left.row) e.query.parts others) (sym it) at_row in
      cases_one s b One left.round left.row left.passes.it.query.parts cases others left.cases_are own

  key_one : (key first second : ℕ) → KeyLeads p b key first second cases → KeyLeads p b key first second others → cases ≡ others
  key_one key first second left right =
      let f : left.passes.f ≡ right.passes.f = some_inj _ _ _ left.passes.pair.left_is right.passes.pair.left_is in
      let g : left.passes.g ≡ right.passes.g = some_inj _ _ _ left.passes.pair.right_is right.passes.pair.right_is in
      left.cases_are ∙ (ap₂ (λ (x y : Fact). with_lessons b (map (λ two. Same two.0 two.1) (zip x.terms y.terms)) ∷ []) f g ∙ sym right.cases_are)

  link_one : (link fact : ℕ) → LinkLeads p b link fact cases → LinkLeads p b link fact others → cases ≡ others
  link_one link fact left right =
      let s = p.policy.schema in
      let f : left.passes.f ≡ right.passes.f = some_inj _ _ _ left.passes.fact_is right.passes.fact_is in
      let tables : slice_get s.tables left.passes.f.table ≡ Some right.passes.link_of.table = ap (λ (g : Fact). slice_get s.tables g.table) f ∙ right.passes.link_of.table_is in
      let table : left.passes.link_of.table ≡ right.passes.link_of.table = some_inj _ _ _ left.passes.link_of.table_is tables in
      let it : left.passes.it ≡ right.passes.it = some_inj _ _ _ left.passes.link_of.link_is (ap (λ (t : Table). slice_get t.links link) table ∙ right.passes.link_of.link_is) in
      let targets =
      ap₂ (λ (g : Fact) (l : Link). map (same_at g.terms (terms_at (with_fact s g.side (1 + g.round) b l.target) (length b.facts))) (zip l.columns l.target_columns)) f it in
      let lessons : left.lessons ≡ right.lessons = map_some_inj left.lessons right.lessons (sym left.lessons_are ∙ (targets ∙ right.lessons_are)) in
      left.cases_are ∙ (ap (λ ls. with_lessons (with_fact s left.passes.f.side (1 + left.passes.f.round) b left.passes.it.target) ls ∷ []) lessons ∙
      (ap₂ (λ (g : Fact) (l : Link). with_lessons (with_fact s g.side (1 + g.round) b l.target) right.lessons ∷ []) f it ∙ sym right.cases_are))

  rule_one : ProblemFits p → (rule part : ℕ) (facts : List ℕ) → RuleLeads p b rule part facts cases → RuleLeads p b rule part facts others → cases ≡ others
  rule_one fits rule part facts left right =
      let s = p.policy.schema in
      let it : left.passes.is_part.of ≡ right.passes.is_part.of = some_inj _ _ _ left.passes.is_part.rule_is right.passes.is_part.rule_is in
      let of : left.passes.it ≡ right.passes.it = some_inj _ _ _ left.passes.is_part.part_is (ap (λ (r : Rule). slice_get r.left.parts part) it ∙ right.passes.is_part.part_is) in
      let mapped : IsMapping b right.passes.side left.passes.it.from facts = subst (λ (q : Part). IsMapping b right.passes.side q.from facts) (sym of) right.passes.pass.mapping in
      let some = rule_some p fits rule part left.passes.is_part.of left.passes.it left.passes.is_part.rule_is left.passes.is_part.part_is in
      let side : left.passes.side ≡ right.passes.side = side_is b left.passes.it.from facts left.passes.side right.passes.side some left.passes.pass.mapping mapped in
      let heads : row_of b facts left.passes.it.head ≡ row_of b facts right.passes.it.head = ap (λ (q : Part). row_of b facts q.head) of in
      let row : left.next.row ≡ right.next.row = map_some_inj left.next.row right.next.row (sym left.next.row_is ∙ (heads ∙ right.next.row_is)) in
      let at_row = subst (λ r. AllZip (IsCase s b right.passes.side (1 + round_of b facts) r) right.passes.is_part.of.right.parts others) (sym row) right.next.cases_are in
      let at_side = subst (λ t. AllZip (IsCase s b t (1 + round_of b facts) left.next.row) right.passes.is_part.of.right.parts others) (sym side) at_row in
      let own = subst (λ (r : Rule). AllZip (IsCase s b left.passes.side (1 + round_of b facts) left.next.row) r.right.parts others) (sym it) at_side in
      cases_one s b left.passes.side (1 + round_of b facts) left.next.row left.passes.is_part.of.right.parts cases others left.next.cases_are own

  view_one : (view part : ℕ) (facts : List ℕ) → ViewLeads p b view part facts cases → ViewLeads p b view part facts others → cases ≡ others
  view_one view part facts left right =
      let s = p.policy.schema in
      let it : left.passes.is_part.of ≡ right.passes.is_part.of = some_inj _ _ _ left.passes.is_part.view_is right.passes.is_part.view_is in
      let of : left.passes.it ≡ right.passes.it = some_inj _ _ _ left.passes.is_part.part_is (ap (λ (v : View). slice_get v.query.parts part) it ∙ right.passes.is_part.part_is) in
      let heads : row_of b facts left.passes.it.head ≡ row_of b facts right.passes.it.head = ap (λ (q : Part). row_of b facts q.head) of in
      let row : left.next.row ≡ right.next.row = map_some_inj left.next.row right.next.row (sym left.next.row_is ∙ (heads ∙ right.next.row_is)) in
      let at_row = subst (λ r. AllZip (IsCase s b Two (1 + round_of b facts) r) right.passes.is_part.of.query.parts others) (sym row) right.next.cases_are in
      let own = subst (λ (v : View). AllZip (IsCase s b Two (1 + round_of b facts) left.next.row) v.query.parts others) (sym it) at_row in
      cases_one s b Two (1 + round_of b facts) left.next.row left.passes.is_part.of.query.parts cases others left.next.cases_are own

  pub leads_one : ProblemFits p → (step : Step) → Leads p b step cases → Leads p b step others → cases ≡ others
  leads_one fits (steps.Entry branch entry) left right = entry_one entry left right
  leads_one fits (steps.Key branch key first second) left right = key_one key first second left right
  leads_one fits (steps.Link branch link fact) left right = link_one link fact left right
  leads_one fits (steps.Rule branch rule part facts) left right = rule_one fits rule part facts left right
  leads_one fits (steps.View branch view part facts) left right = view_one view part facts left right
  leads_one fits (steps.Split branch atom) left right = left.cases_are ∙ sym right.cases_are
  leads_one fits (steps.Absurd branch) left right = left.cases_are ∙ sym right.cases_are
  leads_one fits (steps.Goal branch part facts) left right = left.cases_are ∙ sym right.cases_are

-- a step that leads to cases passes its tests
pub leads_pass : (p : Problem) (b : Branch) (step : Step) (cases : List Branch) → Leads p b step cases → Passes p b step
leads_pass p b (steps.Entry branch entry) cases leads = leads.passes
leads_pass p b (steps.Key branch key first second) cases leads = leads.passes
leads_pass p b (steps.Link branch link fact) cases leads = leads.passes
leads_pass p b (steps.Rule branch rule part facts) cases leads = leads.passes
leads_pass p b (steps.View branch view part facts) cases leads = leads.passes
leads_pass p b (steps.Split branch atom) cases leads = leads.passes
leads_pass p b (steps.Absurd branch) cases leads = leads.passes
leads_pass p b (steps.Goal branch part facts) cases leads = leads.passes

-- ---- what a step leaves, and the start

pub takes_one : (p : Problem) → ProblemFits p → (old : Slots) (step : Step) (new other : Slots) → Takes p old step new → Takes p old step other → new ≡ other
takes_one p fits old step new other left right =
    let branch : left.branch ≡ right.branch = same_Some left.branch right.branch (some_inj _ _ _ left.open_ right.open_) in
    let own = subst (λ b. Leads p b step right.cases) (sym branch) right.leads in
    let cases = leads_one p left.branch left.cases right.cases fits step left.leads own in
    left.new_is ∙ (ap (after old (branch_of step)) cases ∙ sym right.new_is)

start_of_one : (p : Problem) (part : Part) (new other : Branch) → IsStartOf p part new → IsStartOf p part other → new ≡ other
start_of_one p part new other left right =
    let s = p.policy.schema in
    let atoms = map_some_inj left.atoms right.atoms (sym left.atoms_are ∙ right.atoms_are) in
    let assumed = map_some_inj left.assumed right.assumed (sym left.assumed_are ∙ right.assumed_are) in
    let goal = map_some_inj left.goal right.goal (sym left.goal_is ∙ right.goal_is) in
    let lessons : left.atoms ++ left.assumed ≡ right.atoms ++ right.assumed = ap₂ (λ (xs ys : List Lesson). xs ++ ys) atoms assumed in
    left.new_is ∙ (ap₂ (λ (ls : List Lesson) (row : List Term). record (with_lessons (with_facts s One 0 (nothing_known p) part.from) ls) { goal = row }) lessons goal ∙
    sym right.new_is)

pub start_one : (p : Problem) (slots others : Slots) → IsStart p slots → IsStart p others → slots ≡ others
start_one p slots others left right =
    let branches = zip_one (IsStartOf p) (start_of_one p) p.goal.parts left.branches right.branches left.starts right.starts in
    left.slots_are ∙ (ap (map Some) branches ∙ sym right.slots_are)
