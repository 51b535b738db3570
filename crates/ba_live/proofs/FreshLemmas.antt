-- Templates are put on the shelves of a new service.
use Rattle.std.proofs.Common.{◌≡◌, ◌∙◌, ℕ, ◌+◌, ◌<◌, List, [], ◌∷◌, ◌++◌, length, take, sym, ap, subst, get_or}
use Rattle.std.proofs.lemmas.List.{take_more}
use Rattle.ba_judge.specs.Shelves.{AreTaken, Takes}
use Rattle.ba_judge.specs.Shelves.AreTaken.{more}
use Rattle.ba_judge.specs.declared.shelves.Shelves.{Shelves}
use Rattle.ba_kernel.specs.SearchStates.{Proof}

pub taken_more : (loaded : List Proof) (i : ℕ) (item template : Proof) (old new : Shelves) → i < length loaded → item ≡ get_or loaded i item → template ≡ item
    → AreTaken (take i loaded) old → Takes template old new → AreTaken (take (i + 1) loaded) new
taken_more loaded i item template old new below is same taken takes =
    subst (λ ts. AreTaken ts new) (sym (take_more loaded i item below ∙ ap (λ t. take i loaded ++ t ∷ []) (sym is))) (more taken (subst (λ t. Takes t old new) same takes))
