-- What is counted over lines, line by line.
use Rattle.std.proofs.Common.{◌≡◌, ◌∙◌, refl, sym, ap, ℕ, ◌+◌, List, [], ◌∷◌, ◌++◌, length, count_by, sum_by, length-append, zero-add, cond, append-nil}
use Rattle.std.proofs.lemmas.Grind.{flat_map-append}
use Rattle.std.proofs.lemmas.List.Sums.{sum_by-append}
use Rattle.std.specs.List.{flat_map}
use Rattle.ba_printed.specs.declared.line.PrintedLine.{PrintedLine}
use Rattle.ba_audit.specs.Audits.{unaudited_of}
use Rattle.ba_audit.specs.Lines.{Line, Reading, is_unaudited, said_by, said_in, unaudited_in, used_at, used_in}
use Rattle.ba_audit.specs.declared.numbered.Numbered.{Numbered}

-- what a function lists of lines, and of one more
pub listed-push : {A : Type 0} (f : Line → List A) (ls : List Line) (l : Line) → flat_map f (ls ++ l ∷ []) ≡ flat_map f ls ++ f l
listed-push f ls l = flat_map-append f ls (l ∷ []) ∙ ap (λ z. flat_map f ls ++ z) (append-nil (f l))

pub used-push : (ls : List Line) (l : Line) → used_in (ls ++ l ∷ []) ≡ used_in ls ++ used_at l.place l.reading
used-push ls l = listed-push (λ line. used_at line.place line.reading) ls l

pub unaudited-push : (ls : List Line) (l : Line) → unaudited_in (ls ++ l ∷ []) ≡ unaudited_in ls + count_by is_unaudited (said_by l.reading)
unaudited-push ls l =
    ap (count_by is_unaudited) (listed-push (λ line. said_by line.reading) ls l) ∙ sum_by-append (λ line. cond (is_unaudited line) 1 0) (said_in ls) (said_by l.reading)

pub unaudited-cons : (r : Reading) (rs : List Reading) → unaudited_of (r ∷ rs) ≡ count_by is_unaudited (said_by r) + unaudited_of rs
unaudited-cons r rs = sum_by-append (λ line. cond (is_unaudited line) 1 0) (said_by r) (flat_map said_by rs)
