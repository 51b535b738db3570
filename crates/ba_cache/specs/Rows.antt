-- A shelf: its shapes with their templates, the shape that was used last first, and the calls on it.
use Rattle.std.specs.Prelude.{◌≡◌, ◌≢◌, ℕ, ◌-◌, Bool, true, false, List, [], ◌∷◌, ◌++◌, All, Contains, count_by, drop, length, map, take, ◌⊎◌}
use Rattle.std.specs.List.{flat_map}
use Rattle.ba_model.specs.Limits.{most_alike, most_shapes}
use Rattle.ba_kernel.specs.Problems.{StrongAll}
use Rattle.ba_kernel.specs.SearchStates.{Proof}
use Rattle.ba_template.specs.Shapes.{shape_of}
use Rattle.ba_template.specs.Templates.{IsTemplate}
use Rattle.ba_template.specs.declared.shapes.Shape.{Shape}
use Rattle.ba_cache.specs.declared.call.Admit.{Admit}
use Rattle.ba_cache.specs.declared.call.Admit.TheVariants.{Added, Known}
use Rattle.ba_cache.specs.declared.call.Kept.{Kept}
use Rattle.ba_cache.specs.declared.call.ShelfCall.{ShelfCall}
use Rattle.ba_cache.specs.declared.call.ShelfCall.TheVariants as calls

-- ---- rows

-- a shape and its templates, the oldest first
abbrev pub Row : Type 0
Row = Shape × List Kept

abbrev pub HasOther : Shape → Row → Type 0
HasOther shape row = row.0 ≢ shape

-- the shape has these templates, and these are the other rows in their order
pub record Stands (shape : Shape) (rows : List Row) (templates : List Kept) (rest : List Row) : Type 0 where
  pub before : List Row
  pub after : List Row
  pub rows_are : rows ≡ before ++ (shape, templates) ∷ after
  pub rest_is : rest ≡ before ++ after
  pub first : All (HasOther shape) before

-- the shape isn't there, and has no templates
pub record IsAbsent (shape : Shape) (rows : List Row) (templates : List Kept) (rest : List Row) : Type 0 where
  pub absent : All (HasOther shape) rows
  pub none : templates ≡ []
  pub rest_is : rest ≡ rows

-- every instance of the template that meets its condition is strongly compliant
abbrev pub IsSound : Kept → Type 0
IsSound k = StrongAll k.template.problem

-- the templates that a shape has, the oldest first
abbrev pub templates_under : List Kept → List Proof
templates_under its = map (λ (k : Kept). k.template) its

-- all templates of the rows: row by row, and of a row the oldest first
abbrev pub templates_in : List Row → List Proof
templates_in rows = flat_map (λ (row : Row). templates_under row.1) rows

-- ---- calls

-- a look that finds the shape brings it to the front
pub record Finds (old : List Row) (shape : Shape) (found : List Kept) (new : List Row) : Type 0 where
  pub rest : List Row
  pub stands : Stands shape old found rest
  pub front : new ≡ (shape, found) ∷ rest

-- a look finds the templates of the shape, or it finds nothing and changes nothing
abbrev pub Looks : List Row → Shape → List Kept → List Row → Type 0
Looks old shape found new = Finds old shape found new ⊎ IsAbsent shape old found new

-- the shape of a template's goal
abbrev pub shape_of_template : Proof → Shape
shape_of_template t = shape_of t.problem.vars t.problem.goal

abbrev pub kept : ℕ → Proof → Kept
kept id t = record { id = id; template = t }

-- an equal template stands under the shape, with this number; the shape comes to the front
pub record IsKnown (old : List Row) (t : Proof) (id : ℕ) (new : List Row) : Type 0 where
  pub templates : List Kept
  pub rest : List Row
  pub stands : Stands (shape_of_template t) old templates rest
  pub equal : Contains templates (kept id t)
  pub front : new ≡ (shape_of_template t, templates) ∷ rest

-- the last eight templates of a shape stay
abbrev pub latest : List Kept → List Kept
latest ts = drop (length ts - most_alike) ts

abbrev pub IsOther : Proof → Kept → Type 0
IsOther t k = k.template ≢ t

-- No equal template stands under the shape, and this one becomes its newest, with the number of those that were added before it: a ninth one drops the oldest.
-- The shape comes to the front: a 129th one drops the last.
pub record IsAdded (count : ℕ) (old : List Row) (t : Proof) (id : ℕ) (new : List Row) : Type 0 where
  pub templates : List Kept
  pub rest : List Row
  pub under : Stands (shape_of_template t) old templates rest ⊎ IsAbsent (shape_of_template t) old templates rest
  pub fresh : All (IsOther t) templates
  pub number : id ≡ count
  pub front : new ≡ take most_shapes ((shape_of_template t, latest (templates ++ kept id t ∷ [])) ∷ rest)

-- what an admit answers, and what it does, where so many templates were added before
abbrev pub Admits : ℕ → List Row → Proof → Admit → List Row → Type 0
Admits count old t (Added id) new = IsAdded count old t id new
Admits count old t (Known id) new = IsKnown old t id new

-- the call takes the old rows to the new ones, with its answer
abbrev pub Steps : ℕ → List Row → ShelfCall → List Row → Type 0
Steps count old (calls.Look shape found) new = Looks old shape.value found.value new
Steps count old (calls.Admit t answer) new = IsTemplate t.value.problem t.value.steps × Admits count old t.value answer new
Steps count old calls.Refused new = new ≡ old

-- ---- histories

abbrev pub is_added : ShelfCall → Bool
is_added (calls.Look shape found) = false
is_added (calls.Admit t (Added id)) = true
is_added (calls.Admit t (Known id)) = false
is_added calls.Refused = false

-- how many templates the answer says were added
abbrev pub added_by : Admit → ℕ
added_by (Added id) = 1
added_by (Known id) = 0

-- how many templates these calls added
abbrev pub count_added : List ShelfCall → ℕ
count_added made = count_by is_added made

-- the calls were made in turn, from an empty shelf on, and left these rows
pub data Legal : List ShelfCall → List Row → Type 0 where
  start : Legal [] []
  next : {made : List ShelfCall} {old new : List Row} (call : ShelfCall) → Legal made old → Steps (count_added made) old call new → Legal (made ++ call ∷ []) new
