-- A text of JSON lines is read line by line.
use Rattle.std.proofs.Common.{◌≡◌, ◌∙◌, ℕ, ◌+◌, ◌==◌, false, cond, List, [], ◌∷◌, ap, arith, length, map, refl}
use Rattle.std.proofs.lemmas.Bool.{and_parts, ltb-true, ne_eqb}
use Rattle.std.proofs.lemmas.List.Sums.{sum_by-append, sum_by-cons}
use Rattle.std.specs.List.{concat}
use Rattle.serde_json.specs.Data.{Data}
use Rattle.serde_json.specs.Written.{compact_text}
use Rattle.ba_script.specs.Lines.{script_lines}
use Rattle.ba_store.proofs.PrintLemmas.{IsInner, is_inner, line_first, text_inner}
use Rattle.ba_audit.specs.Audits.{feeds}
use Rattle.ba_wire.specs.Printed.{json_line}
use Rattle.std.specs.List.{list_all}

-- the lines of the values
abbrev pub lines_of_values : List Data → List (List ℕ)
lines_of_values ds = map json_line ds

pub read_lines : (ds : List Data) → script_lines (concat (lines_of_values ds)) ≡ map compact_text ds
read_lines [] = refl
read_lines (d ∷ ds) = line_first (compact_text d) (concat (lines_of_values ds)) (text_inner d) ∙ ap (λ ls. compact_text d ∷ ls) (read_lines ds)

-- ---- line feeds

no_feeds : (xs : List ℕ) → IsInner xs → feeds xs ≡ 0
no_feeds [] e = refl
no_feeds (x ∷ xs) e =
    let p = and_parts (is_inner x) (list_all is_inner xs) e in
    let here = ltb-true 31 x p.0 in
    let none : (x == 10) ≡ false = ne_eqb x 10 (λ is. omega (arith, is, here)) in
    sum_by-cons (λ b. cond (b == 10) 1 0) x xs ∙ ap (λ t. cond t 1 0 + feeds xs) none ∙ ap (λ n. 0 + n) (no_feeds xs p.1)

line_feeds : (d : Data) → feeds (json_line d) ≡ 1
line_feeds d = sum_by-append (λ b. cond (b == 10) 1 0) (compact_text d) (10 ∷ []) ∙ ap (λ n. n + 1) (no_feeds (compact_text d) (text_inner d))

pub text_feeds : (ds : List Data) → feeds (concat (lines_of_values ds)) ≡ length ds
text_feeds [] = refl
text_feeds (d ∷ ds) =
    let e = sum_by-append (λ b. cond (b == 10) 1 0) (json_line d) (concat (lines_of_values ds)) in
    let one = line_feeds d in
    let more = text_feeds ds in
    omega (arith, e, one, more)
