-- The items of an array as a list.
use Rattle.std.proofs.Common.{◌≡◌, List, [], ◌∷◌, refl, ap}
use Rattle.serde_json.specs.Data.{Data}
use Rattle.serde_json.specs.View.{items_of}
use Rattle.ba_proof.specs.Shapes.{items_list}

pub items_are : (ds : List Data) → items_list (items_of ds) ≡ ds
items_are [] = refl
items_are (d ∷ ds) = ap (λ all. d ∷ all) (items_are ds)
