-- No entry, key or link is new past those that there are.
use Rattle.std.proofs.Common.{◌≡◌, ◌∙◌, ℕ, ◌<◌, ◌≤◌, [], length, refl, ap, subst, arith}
use Rattle.std.proofs.lemmas.Option.{slice_get_within}
use Rattle.std.specs.Prelude.{Option, Some, None, option_and_then, option_map, slice_get, unwrap_or}
use Rattle.ba_model.specs.declared.schema.Schema.{Schema}
use Rattle.ba_model.specs.declared.schema.Table.{Table}
use Rattle.ba_facts.specs.declared.branch.Branch.{Branch}
use Rattle.ba_facts.specs.declared.term.Fact.{Fact}
use Rattle.ba_kernel.specs.Courses.{IsOpen, Slots, branch_of}
use Rattle.ba_kernel.specs.News.{IsNewAt, IsNewOn}
use Rattle.ba_kernel.specs.Steps.{KeyPasses, LinkPasses, Passes}
use Rattle.ba_kernel.specs.SearchStates.{Course, open_at}
use Rattle.ba_kernel.specs.declared.problem.Problem.{Problem}
use Rattle.ba_kernel.specs.declared.step.Step.{Step}
use Rattle.ba_kernel.specs.declared.step.Step.TheVariants as steps
use Rattle.ba_instant.specs.Offers.{IsNewIn, keys_at, links_at, table_at}

-- ---- branches

pub open_is : (slots : Slots) (n : ℕ) (b : Branch) → IsOpen slots n b → open_at slots n ≡ Some b
open_is slots n b h = ap (λ found. option_and_then (λ slot. slot) found) h

pub new_on : (c : Course) (n : ℕ) (b : Branch) (step : Step) → IsOpen c.slots n b → branch_of step ≡ n → IsNewIn c step → IsNewOn c.problem b step
new_on c n b step h on new =
    subst (λ at. IsNewAt c.problem at step) (open_is c.slots n b h) (subst (λ m. IsNewAt c.problem (open_at c.slots m) step) on new)

-- a step that is new passes its tests on some branch
passes_at : (p : Problem) (at : Option Branch) (step : Step) → IsNewAt p at step → (b : Branch) × Passes p b step
passes_at p None step h = absurd h
passes_at p (Some b) step h = (b, h.passes)

-- ---- entries

pub entry_past : (c : Course) (n entry : ℕ) (step : Step) → length c.problem.entries ≤ entry → step ≡ steps.Entry n entry → IsNewIn c step → ⊥
entry_past c n entry step past is new =
    let at : IsNewIn c (steps.Entry n entry) = subst (IsNewIn c) is new in
    let passes = passes_at c.problem (open_at c.slots n) (steps.Entry n entry) at in
    let below : entry < length c.problem.entries = slice_get_within c.problem.entries entry (passes.1).it (passes.1).there in
    omega (arith, past, below)

-- ---- keys and links

table_is : (s : Schema) (b : Branch) (fact : ℕ) (f : Fact) (table : Table) → slice_get b.facts fact ≡ Some f → slice_get s.tables f.table ≡ Some table →
    table_at s b fact ≡ Some table
table_is s b fact f table there is = ap (λ found. option_and_then (λ it. slice_get s.tables it.table) found) there ∙ is

module _ (c : Course) (n : ℕ) (b : Branch) (open_ : IsOpen c.slots n b) where
  key_passes : (key left right : ℕ) (step : Step) → step ≡ steps.Key n key left right → IsNewIn c step → KeyPasses c.problem.policy.schema b key left right
  key_passes key left right step is new =
      let at : IsNewIn c (steps.Key n key left right) = subst (IsNewIn c) is new in
      (new_on c n b (steps.Key n key left right) open_ refl at).passes

  pub key_past : (key left right : ℕ) (step : Step) → length (keys_at c.problem.policy.schema b left) ≤ key → step ≡ steps.Key n key left right → IsNewIn c step → ⊥
  key_past key left right step past is new =
      let h = key_passes key left right step is new in
      let keys : keys_at c.problem.policy.schema b left ≡ h.key_of.table.keys =
      ap (λ found. unwrap_or (option_map (λ table. table.keys) found) []) (table_is c.problem.policy.schema b left h.f h.key_of.table h.pair.left_is h.key_of.table_is) in
      let below : key < length h.key_of.table.keys = slice_get_within h.key_of.table.keys key h.columns h.key_of.key_is in
      let past_them : length h.key_of.table.keys ≤ key = subst (λ xs. length xs ≤ key) keys past in
      omega (arith, past_them, below)

  link_passes : (link fact : ℕ) (step : Step) → step ≡ steps.Link n link fact → IsNewIn c step → LinkPasses c.problem.policy.schema b link fact
  link_passes link fact step is new =
      let at : IsNewIn c (steps.Link n link fact) = subst (IsNewIn c) is new in
      (new_on c n b (steps.Link n link fact) open_ refl at).passes

  pub link_fact_past : (link fact : ℕ) (step : Step) → length b.facts ≤ fact → step ≡ steps.Link n link fact → IsNewIn c step → ⊥
  link_fact_past link fact step past is new =
      let h = link_passes link fact step is new in
      let below : fact < length b.facts = slice_get_within b.facts fact h.f h.fact_is in
      omega (arith, past, below)

  pub link_past : (link fact : ℕ) (step : Step) → length (links_at c.problem.policy.schema b fact) ≤ link → step ≡ steps.Link n link fact → IsNewIn c step → ⊥
  link_past link fact step past is new =
      let h = link_passes link fact step is new in
      let links : links_at c.problem.policy.schema b fact ≡ h.link_of.table.links =
      ap (λ found. unwrap_or (option_map (λ table. table.links) found) []) (table_is c.problem.policy.schema b fact h.f h.link_of.table h.fact_is h.link_of.table_is) in
      let below : link < length h.link_of.table.links = slice_get_within h.link_of.table.links link h.it h.link_of.link_is in
      let past_them : length h.link_of.table.links ≤ link = subst (λ xs. length xs ≤ link) links past in
      omega (arith, past_them, below)
