-- What a call on a source in memory leaves.
use Rattle.std.proofs.Common.{◌≡◌, ◌∙◌, ℕ, zero, suc, ◌+◌, List, [], ◌∷◌, drop, Some, add-one, ap, refl, sym}
use Rattle.std.specs.Prelude.{Vec, slice_get}
use Rattle.std.specs.declared.alloc.Global.{Global}
use Rattle.ba_source.specs.MemSource.{lines_of}
use Rattle.ba_source.specs.Taking.{TakesFirst}

some_is : {X : Type 0} (x y : X) → Some x ≡ Some y → x ≡ y
some_is x y e = cc

-- the line at a place is the first of those that are left there
left_at : (lines : List (Vec ℕ Global)) (next : ℕ) (line : Vec ℕ Global) → slice_get lines next ≡ Some line → drop next lines ≡ line ∷ drop (suc next) lines
left_at [] next line at = cc
left_at (x ∷ lines) zero line at = ap (λ first. first ∷ lines) (some_is x line at)
left_at (x ∷ lines) (suc next) line at = left_at lines next line at

pub takes_next : (P : List ℕ → Type 0) (left : List (List ℕ)) (lines : List (Vec ℕ Global)) (next : ℕ) (line : Vec ℕ Global) → left ≡ lines_of (drop next lines) → slice_get lines next ≡ Some line → P line.items
    → TakesFirst P left (Some (lines_of (drop (next + 1) lines)))
takes_next P left lines next line is at p =
    record {
      line = line.items;
      rest = lines_of (drop (next + 1) lines);
      lines_are = is ∙ (ap lines_of (left_at lines next line at) ∙ ap (λ n. line.items ∷ lines_of (drop n lines)) (sym (add-one next)));
      is = p;
      new_is = refl;
    }
