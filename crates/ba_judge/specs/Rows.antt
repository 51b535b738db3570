-- The rows of a shelf: its shapes with their templates, the shape that was used last first.
use Rattle.std.specs.Prelude.{◌≡◌, ◌⊎◌, ◌-◌, List, [], ◌∷◌, ◌++◌, Contains, drop, length, unwrap_or}
use Rattle.std.specs.Map.{lookup}
use Rattle.lru.specs.LruCache.{lru_cache, promoted, put_entries}
use Rattle.ba_cache.specs.Keys.{same_shape}
use Rattle.ba_kernel.specs.SearchStates.{Proof}
use Rattle.ba_model.specs.Limits.{most_alike, most_shapes}
use Rattle.ba_template.specs.Shapes.{shape_of}
use Rattle.ba_template.specs.declared.shapes.Shape.{Shape}

-- a shape and its templates, the oldest first
abbrev pub Row : Type 0
Row = Shape × List Proof

-- the templates that stand under the shape, the oldest first, or none
abbrev pub under : Shape → List Row → List Proof
under shape rows = unwrap_or (lookup (same_shape shape) rows) []

-- the shape comes to the front, if it stands there
abbrev pub used : Shape → List Row → List Row
used shape rows = promoted (same_shape shape) rows

-- the shape of a template's goal
abbrev pub shape_of_template : Proof → Shape
shape_of_template t = shape_of t.problem.vars t.problem.goal

-- the last eight of the templates
abbrev pub latest : List Proof → List Proof
latest ts = drop (length ts - most_alike) ts

-- the shape comes to the front with these templates: a 129th one drops the last
abbrev pub with_templates : Shape → List Proof → List Row → List Row
with_templates shape templates rows =
    put_entries same_shape (lru_cache rows most_shapes) shape templates

-- an equal template stands under the shape, which comes to the front
pub record IsKnown (t : Proof) (old new : List Row) : Type 0 where
  pub known : Contains (under (shape_of_template t) old) t
  pub front : new ≡ used (shape_of_template t) old

-- no equal one stands there, and this one becomes the newest: a ninth one drops the oldest
pub record IsAdded (t : Proof) (old new : List Row) : Type 0 where
  pub fresh : ¬ (Contains (under (shape_of_template t) old) t)
  pub front : new ≡
      with_templates (shape_of_template t) (latest (under (shape_of_template t) old ++ t ∷ [])) old

-- what an admit does
abbrev pub Admits : Proof → List Row → List Row → Type 0
Admits t old new = IsKnown t old new ⊎ IsAdded t old new
