-- The terms of new unknowns.
use Rattle.std.proofs.Common.{◌≡◌, ◌∙◌, ℕ, ◌+◌, List, ◌++◌, ◌∷◌, [], ap, map, refl, sym}
use Rattle.std.specs.List.{range_with_len}
use Rattle.std.proofs.lemmas.List.FromFn.{map-range_with_len_more}
use Rattle.ba_facts.specs.declared.term.Term.{Term}
use Rattle.ba_facts.specs.declared.term.Term.TheVariants.{Unknown}

-- one more
pub unknowns_more : (first i : ℕ) (items new : List Term) → new ≡ items ++ Unknown (first + i) ∷ [] → items ≡ map Unknown (range_with_len first i) →
    new ≡ map Unknown (range_with_len first (i + 1))
unknowns_more first i items new pushed so_far =
    pushed ∙ (ap (λ xs. xs ++ Unknown (first + i) ∷ []) so_far ∙ sym (map-range_with_len_more Unknown first i (first + i) refl))
