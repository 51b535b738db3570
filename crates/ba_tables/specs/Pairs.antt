-- The pairs of columns of a link, each once.
use Rattle.std.specs.Prelude.{◌≡◌, ◌↔◌, ℕ, Bool, ◌==◌, ◌&&◌, List, [], ◌∷◌, ◌++◌, map, length, if◌then◌else◌}
use Rattle.std.specs.List.{IsDistinct, list_any, zip}
use Rattle.ba_model.specs.declared.schema.Link.{Link}
use Rattle.ba_model.specs.declared.value.RowSet.{RowSet}
use Rattle.ba_model.specs.declared.value.Value.{Value}
use Rattle.ba_tables.specs.Breaks.{BreaksLink}

-- the columns and the target columns at the same places
abbrev pub pairs_of : Link → List (ℕ × ℕ)
pairs_of link = zip link.columns link.target_columns

abbrev pub same_pair : ℕ × ℕ → ℕ × ℕ → Bool
same_pair p q = (p.0 == q.0) && (p.1 == q.1)

-- each pair where it stands first, unless it stands before, too
unfoldable pub firsts_after : List (ℕ × ℕ) → List (ℕ × ℕ) → List (ℕ × ℕ)
firsts_after before [] = []
firsts_after before (pair ∷ pairs) =
    if list_any (same_pair pair) before then firsts_after (before ++ pair ∷ []) pairs else pair ∷ firsts_after (before ++ pair ∷ []) pairs

abbrev pub of_pairs : ℕ → List (ℕ × ℕ) → Link
of_pairs target pairs = record { columns = map (λ p. p.0) pairs; target = target; target_columns = map (λ p. p.1) pairs }

-- a link of as many columns as target columns over its distinct pairs; another link as it is
abbrev pub with_pairs_once : Link → Link
with_pairs_once link = if length link.columns == length link.target_columns then of_pairs link.target (firsts_after [] (pairs_of link)) else link

-- over its distinct pairs a link is broken by the same rows as over all of them
pub record CountsPairsOnce : Type 0 where
  pub same : (d : RowSet) (rows : List (List Value)) (link : Link) (number : ℕ) → BreaksLink d rows (with_pairs_once link) number ↔ BreaksLink d rows link number
  pub once : (link : Link) → length link.columns ≡ length link.target_columns → IsDistinct same_pair (pairs_of (with_pairs_once link))
