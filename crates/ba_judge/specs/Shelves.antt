-- Shelves of one thread, and what stands on them.
use Rattle.std.specs.Prelude.{◌≡◌, ◌≢◌, ℕ, List, [], ◌∷◌, ◌++◌, map, slice_index_or}
use Rattle.ba_general.specs.Generals.{IsGeneralised}
use Rattle.ba_kernel.specs.SearchStates.{Proof}
use Rattle.ba_judge.specs.Rows.{Admits, Row, shape_of_template, under, used}
use Rattle.ba_judge.specs.declared.shelves.Shelf.{Shelf}
use Rattle.ba_judge.specs.declared.shelves.Shelves.{Shelves}
use Rattle.ba_model.specs.declared.query.Query.{Query}
use Rattle.ba_template.specs.Shapes.{shape_of, shard_of}
use Rattle.ba_template.specs.declared.shapes.Shape.{Shape}

abbrev pub rows_of : Shelf → List Row
rows_of shelf = shelf.rows.entries

abbrev pub rows_in : List Shelf → ℕ → List Row
rows_in shelves k = slice_index_or (map rows_of shelves) k []

-- the rows of the shelf k
abbrev pub rows_on : Shelves → ℕ → List Row
rows_on it k = rows_in it.shelves.items k

-- the templates that stand under the shape, on the shelf of its shard
abbrev pub standing : Shelves → Shape → List Proof
standing it shape = under shape (rows_on it (shard_of shape))

-- the templates that stand for the question's shape
abbrev pub standing_for : Shelves → Query → List Proof
standing_for it query = standing it (shape_of [] query)

pub record IsEmpty (it : Shelves) : Type 0 where
  pub each : (k : ℕ) → rows_on it k ≡ []

-- the rows of the shelf k change so, and those of the others stay
pub record Changes (k : ℕ) (So : List Row → List Row → Type 0) (old new : Shelves) : Type 0 where
  pub own : So (rows_on old k) (rows_on new k)
  pub others : (i : ℕ) → i ≢ k → rows_on new i ≡ rows_on old i

-- the rows of all shelves stay
pub record Stays (old new : Shelves) : Type 0 where
  pub each : (k : ℕ) → rows_on new k ≡ rows_on old k

-- the template is admitted to the shelf of its shard
abbrev pub Takes : Proof → Shelves → Shelves → Type 0
Takes template old new = Changes (shard_of (shape_of_template template)) (Admits template) old new

-- the shape comes to the front of the shelf of its shard, if it stands there
abbrev pub Looks : Shape → Shelves → Shelves → Type 0
Looks shape old new = Changes (shard_of shape) (λ before after. after ≡ used shape before) old new

-- the proof's template is admitted
pub record IsKept (proved : Proof) (old new : Shelves) : Type 0 where
  pub template : Proof
  pub is_its : IsGeneralised proved template
  pub takes : Takes template old new

-- what stands on shelves that were empty once these templates were admitted, one after another
pub data AreTaken : List Proof → Shelves → Type 0 where
  nothing : {it : Shelves} → IsEmpty it → AreTaken [] it
  more : {before : List Proof} {template : Proof} {old new : Shelves} → AreTaken before old →
      Takes template old new → AreTaken (before ++ template ∷ []) new

-- What judgements do to shelves: shapes are looked for, and templates of proofs are admitted. So
-- none that stands there is lost, but for those that come.
pub data Learns : Shelves → Shelves → Type 0 where
  nothing : {old new : Shelves} → Stays old new → Learns old new
  looks : {old new : Shelves} (shape : Shape) → Looks shape old new → Learns old new
  keeps : {old new : Shelves} (proved : Proof) → IsKept proved old new → Learns old new
  both : {old between new : Shelves} → Learns old between → Learns between new → Learns old new
