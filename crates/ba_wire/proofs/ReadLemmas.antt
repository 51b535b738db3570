-- The objects of reads have no float, and are not deep.
use Rattle.std.proofs.Common.{◌≡◌, ℕ, List, [], ◌∷◌, false, ◌≤◌, max, map, refl, arith, ap}
use Rattle.serde_json.specs.Data.{depth, items_depth, string}
use Rattle.serde_json.specs.Read.{max_depth}
use Rattle.serde_json.specs.View.{items_of}
use Rattle.serde_json.specs.Written.{has_float, items_have_float}
use Rattle.ba_wire.specs.Printed.{by_name, read_json}
use Rattle.ba_wire.specs.Said.{allowed_read, said_json}
use Rattle.ba_wire.specs.declared.line.By.{By}

names_whole : (bys : List By) → items_have_float (items_of (map (λ by. string (by_name by)) bys)) ≡ false
names_whole [] = refl
names_whole (by ∷ bys) = names_whole bys

names_depth : (bys : List By) → items_depth (items_of (map (λ by. string (by_name by)) bys)) ≡ 0
names_depth [] = refl
names_depth (by ∷ bys) = ap (max 0) (names_depth bys)

pub read_whole : (bys : List By) (key : List ℕ) (line : ℕ) (request : List ℕ) (version : ℕ) → has_float (read_json bys key line request version) ≡ false
unfolding read_json
read_whole bys key line request version = rw (names_whole bys) refl

pub read_flat : (bys : List By) (key : List ℕ) (line : ℕ) (request : List ℕ) (version : ℕ) → depth (read_json bys key line request version) ≤ max_depth
unfolding read_json
read_flat bys key line request version = rw (names_depth bys) (omega arith)

pub allowed_whole : (bys : List By) (key : List ℕ) (line : ℕ) (request : List ℕ) → has_float (said_json (allowed_read bys key line request)) ≡ false
unfolding said_json
allowed_whole bys key line request = rw (names_whole bys) refl

pub allowed_flat : (bys : List By) (key : List ℕ) (line : ℕ) (request : List ℕ) → depth (said_json (allowed_read bys key line request)) ≤ max_depth
unfolding said_json
allowed_flat bys key line request = rw (names_depth bys) (omega arith)
