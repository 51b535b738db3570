-- The tables of the facts of each branch, which the steps alone tell.
use Rattle.std.specs.Prelude.{◌≡◌, ℕ, zero, suc, List, [], ◌∷◌, ◌++◌, All, length, map, Option, Some, None, slice_get, slice_set, unwrap_or, option_map, option_and_then}
use Rattle.std.specs.List.{AllZip, sum_by}
use Rattle.ba_model.specs.SchemaFaults.{columns_of}
use Rattle.ba_model.specs.declared.query.Part.{Part}
use Rattle.ba_model.specs.declared.schema.Link.{Link}
use Rattle.ba_model.specs.declared.schema.Schema.{Schema}
use Rattle.ba_model.specs.declared.schema.Table.{Table}
use Rattle.ba_facts.specs.declared.branch.Branch.{Branch}
use Rattle.ba_kernel.specs.Courses.{Runs, Slots, Takes, branch_of}
use Rattle.ba_kernel.specs.declared.problem.Problem.{Problem}
use Rattle.ba_kernel.specs.declared.step.Step.{Step}
use Rattle.ba_kernel.specs.declared.step.Step.TheVariants as steps

-- for each number that was given to a branch the tables of its facts, in order; those of a closed branch are left as they were
abbrev pub Layout : Type 0
Layout = List (List ℕ)

-- an open branch has facts of these tables
abbrev pub IsLaidOut : Option Branch → List ℕ → Type 0
IsLaidOut None tables = Unit {0}
IsLaidOut (Some b) tables = map (λ fact. fact.table) b.facts ≡ tables

abbrev pub IsLayoutOf : Slots → Layout → Type 0
IsLayoutOf slots layout = AllZip IsLaidOut slots layout

-- how many unknowns facts of these tables have
abbrev pub wide : Schema → List ℕ → ℕ
wide s tables = sum_by (λ table. length (columns_of s.tables table)) tables

-- of each branch
abbrev pub counts : Problem → Layout → List ℕ
counts p layout = map (wide p.policy.schema) layout

-- each unknown of an open branch stands in one of its facts: there are as many as the facts' tables have columns
abbrev pub HasItsUnknowns : Problem → Option Branch → Type 0
HasItsUnknowns p None = Unit {0}
HasItsUnknowns p (Some b) = length b.known.unknowns ≡ wide p.policy.schema (map (λ fact. fact.table) b.facts)

abbrev pub IsFilledOut : Problem → Slots → Type 0
IsFilledOut p slots = All (HasItsUnknowns p) slots

-- ---- what a step adds, case by case

abbrev pub from_of : List Part → Layout
from_of parts = map (λ part. part.from) parts

abbrev pub one_of_table : Option ℕ → Layout
one_of_table None = []
one_of_table (Some table) = (table ∷ []) ∷ []

-- the link's target, if the fact's table has such a link
abbrev pub target_of : Problem → List ℕ → ℕ → ℕ → Layout
target_of p tables link fact =
    one_of_table (option_map (λ (link : Link). link.target) (option_and_then (λ n. option_and_then (λ (table : Table). slice_get table.links link) (slice_get p.policy.schema.tables n)) (slice_get tables fact)))

abbrev pub entry_adds : Problem → ℕ → Layout
entry_adds p entry = unwrap_or (option_map (λ it. from_of it.query.parts) (slice_get p.entries entry)) []

abbrev pub rule_adds : Problem → ℕ → Layout
rule_adds p rule = unwrap_or (option_map (λ it. from_of it.right.parts) (slice_get p.policy.schema.rules rule)) []

abbrev pub view_adds : Problem → ℕ → Layout
view_adds p view = unwrap_or (option_map (λ it. from_of it.query.parts) (slice_get p.policy.views view)) []

-- to a branch with facts of these tables
abbrev pub adds : Problem → List ℕ → Step → Layout
adds p tables (steps.Entry branch entry) = entry_adds p entry
adds p tables (steps.Key branch key left right) = [] ∷ []
adds p tables (steps.Link branch link fact) = target_of p tables link fact
adds p tables (steps.Rule branch rule part facts) = rule_adds p rule
adds p tables (steps.View branch view part facts) = view_adds p view
adds p tables (steps.Split branch atom) = [] ∷ [] ∷ []
adds p tables (steps.Absurd branch) = []
adds p tables (steps.Goal branch part facts) = []

-- ---- layouts of a course

abbrev pub start_layout : Problem → Layout
start_layout p = from_of p.goal.parts

abbrev pub tables_on : Layout → ℕ → List ℕ
tables_on layout n = unwrap_or (slice_get layout n) []

abbrev pub put_cases : Layout → ℕ → List ℕ → Layout → Layout
put_cases layout n tables [] = layout
put_cases layout n tables (added ∷ others) = slice_set layout n (tables ++ added) ++ map (λ more. tables ++ more) others

-- the case of the number: the first in the branch's place, another one behind all
abbrev pub put_at : Layout → ℕ → ℕ → List ℕ → Layout
put_at layout n zero tables = slice_set layout n tables
put_at layout n (suc number) tables = layout ++ tables ∷ []

abbrev pub layout_after : Problem → Layout → Step → Layout
layout_after p layout step = put_cases layout (branch_of step) (tables_on layout (branch_of step)) (adds p (tables_on layout (branch_of step)) step)

-- the branches of a course are filled out, and the layouts of its steps are theirs
abbrev pub RunsAreLaidOut : Type 0
RunsAreLaidOut = (p : Problem) (taken : List Step) (old new : Slots) (step : Step) (layout : Layout) → Runs p taken old → Takes p old step new →
    IsLayoutOf old layout → IsFilledOut p old × IsFilledOut p new × IsLayoutOf new (layout_after p layout step)
