-- The tables and the unknowns of each branch of a course.
use Rattle.std.proofs.Common.{◌≡◌, ℕ, zero, suc, ◌+◌, List, [], ◌∷◌, ◌++◌, length, map, refl, sym, ap, ◌∙◌, subst, append_assoc, append-nil, arith}
use Rattle.std.specs.Prelude.{All, Some, None, slice_get, slice_set, unwrap_or, option_map, option_and_then}
use Rattle.std.specs.List.{AllZip}
use Rattle.std.proofs.lemmas.List.{length-append, length-map, map-append}
use Rattle.std.proofs.lemmas.List.Elements.{All-append, All-cons, All-nil, All-set}
use Rattle.std.proofs.lemmas.List.Sums.{sum_by-append, sum_by-cons}
use Rattle.std.proofs.lemmas.Option.{none-some}
use Rattle.ba_facts.specs.Knowing.{sort_of}
use Rattle.ba_facts.specs.declared.branch.Branch.{Branch}
use Rattle.ba_facts.specs.declared.term.Fact.{Fact}
use Rattle.ba_facts.specs.declared.term.Lesson.{Lesson}
use Rattle.ba_facts.specs.declared.term.Side.{Side}
use Rattle.ba_facts.specs.declared.term.Side.TheVariants.{One, Two}
use Rattle.ba_facts.specs.declared.term.Term.{Term}
use Rattle.ba_kernel.proofs.CaseFactLemmas.{zip_append}
use Rattle.ba_kernel.specs.Courses.{IsOpen, IsStartOf, Runs, Slots, Takes, after, branch_of, nothing_known}
use Rattle.ba_kernel.specs.Effects.{IsCase, with_fact, with_facts, with_lessons}
use Rattle.ba_kernel.specs.Steps.{Leads}
use Rattle.ba_kernel.specs.declared.problem.Problem.{Problem}
use Rattle.ba_kernel.specs.declared.step.Step.{Step}
use Rattle.ba_kernel.specs.declared.step.Step.TheVariants as steps
use Rattle.ba_model.specs.SchemaFaults.{columns_of}
use Rattle.ba_model.specs.declared.query.Part.{Part}
use Rattle.ba_model.specs.declared.schema.Link.{Link}
use Rattle.ba_model.specs.declared.schema.Schema.{Schema}
use Rattle.ba_model.specs.declared.schema.Table.{Table}
use Rattle.ba_general.specs.Layouts.{HasItsUnknowns, IsFilledOut, IsLaidOut, IsLayoutOf, Layout, RunsAreLaidOut, adds, from_of, layout_after, one_of_table, put_cases, start_layout, tables_on, wide}

abbrev pub tables_of : Branch → List ℕ
tables_of b = map (λ (fact : Fact). fact.table) b.facts

-- the case has facts of these tables more, and their unknowns
pub record CaseAdds (s : Schema) (b : Branch) (added : List ℕ) (new : Branch) : Type 0 where
  pub tables : tables_of new ≡ tables_of b ++ added
  pub unknowns : length new.known.unknowns ≡ length b.known.unknowns + wide s added

-- ---- cases

facts_tables : (s : Schema) (side : Side) (round : ℕ) (b : Branch) (from : List ℕ) → tables_of (with_facts s side round b from) ≡ tables_of b ++ from
facts_tables s side round b [] = sym (append-nil (tables_of b))
facts_tables s side round b (table ∷ from) =
    let new : Branch = with_fact s side round b table in
    let here : tables_of new ≡ tables_of b ++ table ∷ [] = map-append (λ (fact : Fact). fact.table) b.facts _ in
    facts_tables s side round new from ∙ (ap (λ ts. ts ++ from) here ∙ append_assoc (tables_of b) (table ∷ []) from)

add_three : (a b c : ℕ) → (a + b) + c ≡ a + (b + c)
add_three a b c = omega arith

facts_unknowns : (s : Schema) (side : Side) (round : ℕ) (b : Branch) (from : List ℕ) →
    length (with_facts s side round b from).known.unknowns ≡ length b.known.unknowns + wide s from
facts_unknowns s side round b [] = let e : length b.known.unknowns ≡ length b.known.unknowns + 0 = omega arith in e
facts_unknowns s side round b (table ∷ from) =
    let new : Branch = with_fact s side round b table in
    let here : length new.known.unknowns ≡ length b.known.unknowns + length (columns_of s.tables table) =
    length-append b.known.unknowns (map sort_of (columns_of s.tables table)) ∙ ap (λ n. length b.known.unknowns + n) (length-map (columns_of s.tables table) sort_of) in
    let later : length (with_facts s side round new from).known.unknowns ≡ length new.known.unknowns + wide s from = facts_unknowns s side round new from in
    later ∙ (ap (λ n. n + wide s from) here ∙ (add_three (length b.known.unknowns) (length (columns_of s.tables table)) (wide s from) ∙
    ap (λ n. length b.known.unknowns + n) (sym (sum_by-cons (λ t. length (columns_of s.tables t)) table from))))

facts_added : (s : Schema) (side : Side) (round : ℕ) (b new : Branch) (from : List ℕ) (lessons : List Lesson) →
    new ≡ with_lessons (with_facts s side round b from) lessons → CaseAdds s b from new
facts_added s side round b new from lessons e =
    record { tables = ap tables_of e ∙ facts_tables s side round b from; unknowns = ap (λ c. length c.known.unknowns) e ∙ facts_unknowns s side round b from }

nothing_added : (s : Schema) (b new : Branch) (lessons : List Lesson) → new ≡ with_lessons b lessons → CaseAdds s b [] new
nothing_added s b new lessons e = facts_added s One 0 b new [] lessons e

parts_added : (s : Schema) (b : Branch) (side : Side) (round : ℕ) (row : List Term) (parts : List Part) (cases : List Branch) →
    AllZip (IsCase s b side round row) parts cases → AllZip (CaseAdds s b) (from_of parts) cases
parts_added s b side round row [] [] h = tt
parts_added s b side round row [] (new ∷ cases) h = absurd h
parts_added s b side round row (part ∷ parts) [] h = absurd h
parts_added s b side round row (part ∷ parts) (new ∷ cases) h =
    (facts_added s side round b new part.from (h.0.atoms ++ h.0.heads) h.0.new_is, parts_added s b side round row parts cases h.1)

table_at : (facts : List Fact) (n : ℕ) (f : Fact) → slice_get facts n ≡ Some f → slice_get (map (λ (fact : Fact). fact.table) facts) n ≡ Some f.table
table_at [] n f e = absurd (none-some f e)
table_at (g ∷ facts) zero f e = let same : g ≡ f = cc in ap (λ (fact : Fact). Some fact.table) same
table_at (g ∷ facts) (suc n) f e = table_at facts n f e

one_added : (s : Schema) (b : Branch) (added : List ℕ) (new : Branch) (cases : List Branch) → cases ≡ new ∷ [] → CaseAdds s b added new →
    AllZip (CaseAdds s b) (added ∷ []) cases
one_added s b added new cases e h = subst (AllZip (CaseAdds s b) (added ∷ [])) (sym e) (h, tt)

abbrev Added : Problem → Branch → Step → List Branch → Type 0
Added p b step cases = AllZip (CaseAdds p.policy.schema b) (adds p (tables_of b) step) cases

pub cases_add : (p : Problem) (b : Branch) (step : Step) (cases : List Branch) → Leads p b step cases → Added p b step cases
cases_add p b (steps.Entry branch entry) cases h =
    subst (λ (ts : Layout). AllZip (CaseAdds p.policy.schema b) ts cases)
    (sym (ap (λ it. unwrap_or (option_map (λ e. from_of e.query.parts) it) []) h.passes.there))
    (parts_added p.policy.schema b One h.round h.row h.passes.it.query.parts cases h.cases_are)
cases_add p b (steps.Key branch key left right) cases h =
    one_added p.policy.schema b [] _ cases h.cases_are (nothing_added p.policy.schema b _ _ refl)
cases_add p b (steps.Link branch link fact) cases h =
    let at : slice_get (tables_of b) fact ≡ Some h.passes.f.table = table_at b.facts fact h.passes.f h.passes.fact_is in
    let target : option_and_then (λ n. option_and_then (λ (table : Table). slice_get table.links link) (slice_get p.policy.schema.tables n)) (slice_get (tables_of b) fact) ≡ Some h.passes.it =
    ap (option_and_then (λ n. option_and_then (λ (table : Table). slice_get table.links link) (slice_get p.policy.schema.tables n))) at ∙
    (ap (option_and_then (λ (table : Table). slice_get table.links link)) h.passes.link_of.table_is ∙ h.passes.link_of.link_is) in
    subst (λ (ts : Layout). AllZip (CaseAdds p.policy.schema b) ts cases)
    (sym (ap (λ o. one_of_table (option_map (λ (it : Link). it.target) o)) target))
    (one_added p.policy.schema b (h.passes.it.target ∷ []) _ cases h.cases_are
    (facts_added p.policy.schema h.passes.f.side (1 + h.passes.f.round) b _ (h.passes.it.target ∷ []) h.lessons refl))
cases_add p b (steps.Rule branch rule part facts) cases h =
    subst (λ (ts : Layout). AllZip (CaseAdds p.policy.schema b) ts cases)
    (sym (ap (λ it. unwrap_or (option_map (λ e. from_of e.right.parts) it) []) h.passes.is_part.rule_is))
    (parts_added p.policy.schema b h.passes.side _ h.next.row h.passes.is_part.of.right.parts cases h.next.cases_are)
cases_add p b (steps.View branch view part facts) cases h =
    subst (λ (ts : Layout). AllZip (CaseAdds p.policy.schema b) ts cases)
    (sym (ap (λ it. unwrap_or (option_map (λ e. from_of e.query.parts) it) []) h.passes.is_part.view_is))
    (parts_added p.policy.schema b Two _ h.next.row h.passes.is_part.of.query.parts cases h.next.cases_are)
cases_add p b (steps.Split branch atom) cases h =
    subst (AllZip (CaseAdds p.policy.schema b) ([] ∷ [] ∷ [])) (sym h.cases_are)
    (nothing_added p.policy.schema b _ _ refl, (nothing_added p.policy.schema b _ _ refl, tt))
cases_add p b (steps.Absurd branch) cases h = subst (AllZip (CaseAdds p.policy.schema b) []) (sym h.cases_are) tt
cases_add p b (steps.Goal branch part facts) cases h = subst (AllZip (CaseAdds p.policy.schema b) []) (sym h.cases_are) tt

-- ---- slots

set_zip : {X Y : Type 0} (R : X → Y → Type 0) (xs : List X) (ys : List Y) (n : ℕ) (x : X) (y : Y) → AllZip R xs ys → R x y → AllZip R (slice_set xs n x) (slice_set ys n y)
set_zip R [] [] n x y h k = tt
set_zip R [] (w ∷ ys) n x y h k = absurd h
set_zip R (z ∷ xs) [] n x y h k = absurd h
set_zip R (z ∷ xs) (w ∷ ys) zero x y h k = (k, h.1)
set_zip R (z ∷ xs) (w ∷ ys) (suc n) x y h k = (h.0, set_zip R xs ys n x y h.1 k)

closed_zip : (slots : Slots) (layout : Layout) (n : ℕ) → IsLayoutOf slots layout → IsLayoutOf (slice_set slots n None) layout
closed_zip [] [] n h = tt
closed_zip [] (ts ∷ layout) n h = absurd h
closed_zip (slot ∷ slots) [] n h = absurd h
closed_zip (slot ∷ slots) (ts ∷ layout) zero h = (tt, h.1)
closed_zip (slot ∷ slots) (ts ∷ layout) (suc n) h = (h.0, closed_zip slots layout n h.1)

-- an open branch's tables
pub tables_at : (slots : Slots) (layout : Layout) (n : ℕ) (b : Branch) → IsLayoutOf slots layout → IsOpen slots n b → tables_of b ≡ tables_on layout n
tables_at [] layout n b h open_ = absurd (none-some (Some b) open_)
tables_at (slot ∷ slots) [] n b h open_ = absurd h
tables_at (slot ∷ slots) (ts ∷ layout) zero b h open_ =
    let here : slot ≡ Some b = cc in
    subst (λ s. IsLaidOut s ts) here h.0
tables_at (slot ∷ slots) (ts ∷ layout) (suc n) b h open_ = tables_at slots layout n b h.1 open_

others_laid : (s : Schema) (b : Branch) (tables : List ℕ) (more : Layout) (cases : List Branch) → tables_of b ≡ tables → AllZip (CaseAdds s b) more cases →
    IsLayoutOf (map Some cases) (map (λ ts. tables ++ ts) more)
others_laid s b tables [] [] e h = tt
others_laid s b tables [] (c ∷ cases) e h = absurd h
others_laid s b tables (ts ∷ more) [] e h = absurd h
others_laid s b tables (ts ∷ more) (c ∷ cases) e h = (h.0.tables ∙ ap (λ us. us ++ ts) e, others_laid s b tables more cases e h.1)

after_laid : (s : Schema) (slots : Slots) (layout : Layout) (n : ℕ) (b : Branch) (tables : List ℕ) (more : Layout) (cases : List Branch) → IsLayoutOf slots layout →
    tables_of b ≡ tables → AllZip (CaseAdds s b) more cases → IsLayoutOf (after slots n cases) (put_cases layout n tables more)
after_laid s slots layout n b tables [] [] h e k = closed_zip slots layout n h
after_laid s slots layout n b tables [] (c ∷ cases) h e k = absurd k
after_laid s slots layout n b tables (ts ∷ more) [] h e k = absurd k
after_laid s slots layout n b tables (ts ∷ more) (c ∷ cases) h e k =
    zip_append IsLaidOut (slice_set slots n (Some c)) (map Some cases) (slice_set layout n (tables ++ ts)) (map (λ us. tables ++ us) more)
    (set_zip IsLaidOut slots layout n (Some c) (tables ++ ts) h (k.0.tables ∙ ap (λ us. us ++ ts) e))
    (others_laid s b tables more cases e k.1)

-- ---- unknowns

case_filled : (p : Problem) (b : Branch) (ts : List ℕ) (c : Branch) → HasItsUnknowns p (Some b) → CaseAdds p.policy.schema b ts c → HasItsUnknowns p (Some c)
case_filled p b ts c filled h =
    h.unknowns ∙ (ap (λ n. n + wide p.policy.schema ts) filled ∙
    (sym (sum_by-append (λ table. length (columns_of p.policy.schema.tables table)) (tables_of b) ts) ∙ ap (wide p.policy.schema) (sym h.tables)))

others_filled : (p : Problem) (b : Branch) (more : Layout) (cases : List Branch) → HasItsUnknowns p (Some b) → AllZip (CaseAdds p.policy.schema b) more cases →
    All (HasItsUnknowns p) (map Some cases)
others_filled p b [] [] filled h = All-nil (HasItsUnknowns p)
others_filled p b [] (c ∷ cases) filled h = absurd h
others_filled p b (ts ∷ more) [] filled h = absurd h
others_filled p b (ts ∷ more) (c ∷ cases) filled h =
    All-cons (HasItsUnknowns p) (Some c) (map Some cases) (case_filled p b ts c filled h.0) (others_filled p b more cases filled h.1)

pub open_filled : (p : Problem) (slots : Slots) (n : ℕ) (b : Branch) → IsFilledOut p slots → IsOpen slots n b → HasItsUnknowns p (Some b)
open_filled p [] n b h open_ = absurd (none-some (Some b) open_)
open_filled p (slot ∷ slots) zero b h open_ =
    let here : slot ≡ Some b = cc in
    subst (HasItsUnknowns p) here (h 0 slot (omega arith))
open_filled p (slot ∷ slots) (suc n) b h open_ = open_filled p slots n b (λ i d below. h (suc i) d (omega arith)) open_

after_filled : (p : Problem) (slots : Slots) (n : ℕ) (b : Branch) (more : Layout) (cases : List Branch) → IsFilledOut p slots → HasItsUnknowns p (Some b) →
    AllZip (CaseAdds p.policy.schema b) more cases → IsFilledOut p (after slots n cases)
after_filled p slots n b [] [] h filled k = All-set (HasItsUnknowns p) slots n None tt h
after_filled p slots n b [] (c ∷ cases) h filled k = absurd k
after_filled p slots n b (ts ∷ more) [] h filled k = absurd k
after_filled p slots n b (ts ∷ more) (c ∷ cases) h filled k =
    All-append (HasItsUnknowns p) (slice_set slots n (Some c)) (map Some cases)
    (All-set (HasItsUnknowns p) slots n (Some c) (case_filled p b ts c filled k.0) h)
    (others_filled p b more cases filled k.1)

-- ---- courses

pub next_filled : (p : Problem) (old new : Slots) (step : Step) → IsFilledOut p old → Takes p old step new → IsFilledOut p new
next_filled p old new step h t =
    subst (IsFilledOut p) (sym t.new_is)
    (after_filled p old (branch_of step) t.branch (adds p (tables_of t.branch) step) t.cases h (open_filled p old (branch_of step) t.branch h t.open_)
    (cases_add p t.branch step t.cases t.leads))

starts_filled : (p : Problem) (parts : List Part) (branches : List Branch) → AllZip (IsStartOf p) parts branches → IsFilledOut p (map Some branches)
starts_filled p [] [] h = All-nil (HasItsUnknowns p)
starts_filled p [] (b ∷ branches) h = absurd h
starts_filled p (part ∷ parts) [] h = absurd h
starts_filled p (part ∷ parts) (b ∷ branches) h =
    let start = h.0 in
    let here : HasItsUnknowns p (Some b) =
    ap (λ c. length c.known.unknowns) start.new_is ∙ (facts_unknowns p.policy.schema One 0 (nothing_known p) part.from ∙
    ((let e : 0 + wide p.policy.schema part.from ≡ wide p.policy.schema part.from = omega arith in e) ∙
    ap (wide p.policy.schema) (sym (ap tables_of start.new_is ∙ facts_tables p.policy.schema One 0 (nothing_known p) part.from)))) in
    All-cons (HasItsUnknowns p) (Some b) (map Some branches) here (starts_filled p parts branches h.1)

pub runs_filled : (p : Problem) (taken : List Step) (slots : Slots) → Runs p taken slots → IsFilledOut p slots
runs_filled p taken slots (Runs.start is) = subst (IsFilledOut p) (sym is.slots_are) (starts_filled p p.goal.parts is.branches is.starts)
runs_filled p taken slots (Runs.next {taken = front} {step = step} {old = old} h t) = next_filled p old slots step (runs_filled p front old h) t

pub next_laid : (p : Problem) (old new : Slots) (step : Step) (layout : Layout) → Takes p old step new → IsLayoutOf old layout →
    IsLayoutOf new (layout_after p layout step)
next_laid p old new step layout t h =
    let n : ℕ = branch_of step in
    let same : tables_of t.branch ≡ tables_on layout n = tables_at old layout n t.branch h t.open_ in
    subst (λ slots. IsLayoutOf slots (layout_after p layout step)) (sym t.new_is)
    (after_laid p.policy.schema old layout n t.branch (tables_on layout n) (adds p (tables_on layout n) step) t.cases h same
    (subst (λ ts. AllZip (CaseAdds p.policy.schema t.branch) (adds p ts step) t.cases) same (cases_add p t.branch step t.cases t.leads)))

pub laid_out : RunsAreLaidOut
laid_out p taken old new step layout runs t h =
    let filled = runs_filled p taken old runs in (filled, next_filled p old new step filled t, next_laid p old new step layout t h)

-- ---- the layout before a step

starts_laid : (p : Problem) (parts : List Part) (branches : List Branch) → AllZip (IsStartOf p) parts branches → IsLayoutOf (map Some branches) (from_of parts)
starts_laid p [] [] h = tt
starts_laid p [] (b ∷ branches) h = absurd h
starts_laid p (part ∷ parts) [] h = absurd h
starts_laid p (part ∷ parts) (b ∷ branches) h =
    (ap tables_of h.0.new_is ∙ facts_tables p.policy.schema One 0 (nothing_known p) part.from, starts_laid p parts branches h.1)

-- the layout after some steps
abbrev pub layout_of : Problem → Layout → List Step → Layout
layout_of p layout [] = layout
layout_of p layout (step ∷ later) = layout_of p (layout_after p layout step) later

layout_more : (p : Problem) (layout : Layout) (front : List Step) (step : Step) → layout_of p layout (front ++ step ∷ []) ≡ layout_after p (layout_of p layout front) step
layout_more p layout [] step = refl
layout_more p layout (first ∷ front) step = layout_more p (layout_after p layout first) front step

pub runs_laid : (p : Problem) (taken : List Step) (slots : Slots) → Runs p taken slots → IsLayoutOf slots (layout_of p (start_layout p) taken)
runs_laid p taken slots (Runs.start is) = subst (λ s. IsLayoutOf s (start_layout p)) (sym is.slots_are) (starts_laid p p.goal.parts is.branches is.starts)
runs_laid p taken slots (Runs.next {taken = front} {step = step} {old = old} h t) =
    subst (IsLayoutOf slots) (sym (layout_more p (start_layout p) front step))
    (next_laid p old slots step (layout_of p (start_layout p) front) t (runs_laid p front old h))
