-- Maps of open requests that a call leaves as they were.
use Rattle.std.proofs.Common.{◌≡◌, ◌∙◌, ℕ, Some, Result, Ok, Err, ap, sym}
use Rattle.std.proofs.lemmas.Map.Steps.{set_value_same}
use Rattle.std.specs.BTreeMap.{BTreeMap, IsUnchanged, get, is_at}
use Rattle.std.specs.Map.{set_value}
use Rattle.std.specs.Ordering.{nat_cmp}
use Rattle.std.specs.Result.{OnErr}
use Rattle.ba_core.specs.declared.opened.Opened.{Opened}

-- what is so holds after an error
pub after_error : {T E P : Type 0} (r : Result T E) → P → OnErr r P
after_error (Ok x) p = tt
after_error (Err e) p = p

-- what was found, written back
pub unwritten : (m n : BTreeMap ℕ Opened) (k : ℕ) (found written : Opened) → get nat_cmp m k ≡ Some found → written ≡ found
    → n.entries ≡ set_value (is_at (nat_cmp k)) m.entries written → IsUnchanged m n
unwritten m n k found written is same e = e ∙ set_value_same (is_at (nat_cmp k)) m.entries written (is ∙ ap Some (sym same))
