-- The tokens of an answer's line, and what it reads as.
use Rattle.std.proofs.Common.{◌≡◌, ℕ, ◌<◌, ◌≤◌, ◌^◌, ◌∷◌, [], ◌++◌, List, map, max, suc, Some, codes, option_and_then, refl, sym, ap, ap₂, ◌∙◌, arith, append_assoc, append-nil}
use Rattle.json.specs.Json as json
use Rattle.json.specs.Lex.{tokens}
use Rattle.json.specs.Print.{print}
use Rattle.json.specs.Token.{Token, begin_object, end_object, key}
use Rattle.json.specs.Tree as tree
use Rattle.json.specs.Written.{Written}
use Rattle.json.proofs.Printed.Trees.{value-json_tokens}
use Rattle.serde_json.specs.Data.{Data, Items, Members, null, boolean, number, string, array, object, no_items, item, no_members, member, depth, items_depth, members_depth}
use Rattle.serde_json.specs.Read.{max_depth, of_json, read}
use Rattle.serde_json.specs.View.{items_of}
use Rattle.serde_json.specs.Written.{compact_text, outline, items_outline, members_outline}
use Rattle.serde_json.proofs.Numbers.{number_of-decimal}
use Rattle.serde_json.proofs.Texts.{print-outline}
use Rattle.std.specs.Fmt.{decimal}
use Rattle.ba_model.specs.declared.value.Value.{Value}
use Rattle.ba_model.specs.declared.value.Value.TheVariants as value
use Rattle.ba_wire.specs.Printed.{ReadsBack, answer_json, json_line, row_json, rows_json, value_json}
use Rattle.ba_wire.specs.Appended.{Adds, Puts}

-- ---- tokens one after another

pub puts_one : {t : Token} {old new : Written} → new.before ≡ old.before → new.tokens ≡ old.tokens ++ t ∷ [] → Puts (t ∷ []) old new
puts_one before tokens = record { before = before; tokens = tokens }

pub puts_then : {ts us : List Token} {old mid new : Written} → Puts ts old mid → Puts us mid new → Puts (ts ++ us) old new
puts_then {ts} {us} {old} {mid} {new} first second = record {
  before = second.before ∙ first.before;
  tokens = second.tokens ∙ (ap (λ xs. xs ++ us) first.tokens ∙ append_assoc old.tokens ts us);
}

pub puts_added : {d : Data} {old new : Written} → Adds d old new → Puts (tree.json_tokens (outline d)) old new
puts_added h = record { before = h.before; tokens = h.tokens }

-- ---- the object of an answer

answer_reads : (by : List ℕ) (line : ℕ) (request : List ℕ) (rows : List (List Value)) (version : ℕ) → line < 2 ^ 64 → version < 2 ^ 64 → of_json (outline (rows_json rows)) ≡ Some (rows_json rows) → of_json (outline (answer_json by line request rows version)) ≡ Some (answer_json by line request rows version)
answer_reads by line request rows version fits small reads = rw (number_of-decimal line fits, number_of-decimal version small, reads) refl

pub answer_added : (by : List ℕ) (line : ℕ) (request : List ℕ) (rows : List (List Value)) (version : ℕ) {start opened by_named numbered asked called filled versioned end : Written} → line < 2 ^ 64 → version < 2 ^ 64
    → Puts (begin_object ∷ []) start opened → Puts (key (codes "by") ∷ Token.string by ∷ []) opened by_named → Puts (key (codes "line") ∷ Token.number (decimal line) ∷ []) by_named numbered → Puts (key (codes "request") ∷ Token.string request ∷ []) numbered asked
    → Puts (key (codes "rows") ∷ []) asked called → Adds (rows_json rows) called filled → Puts (key (codes "version") ∷ Token.number (decimal version) ∷ []) filled versioned → Puts (end_object ∷ []) versioned end → Adds (answer_json by line request rows version) start end
answer_added by line request rows version fits small bracket first second third name all fourth close =
    let front = puts_then (puts_then (puts_then (puts_then bracket first) second) third) name in
    let puts = puts_then (puts_then front (puts_added all)) (puts_then fourth close) in
    record { before = puts.before; tokens = puts.tokens; reads = answer_reads by line request rows version fits small all.reads }

-- ---- what was written reads as the value

mutual
  depth-outline : (d : Data) → tree.depth (outline d) ≡ depth d
  depth-outline null = refl
  depth-outline (boolean b) = refl
  depth-outline (number n) = refl
  depth-outline (string s) = refl
  depth-outline (array ds) = ap suc (items_depth-outline ds)
  depth-outline (object ms) = ap suc (members_depth-outline ms)

  items_depth-outline : (ds : Items) → tree.items_depth (items_outline ds) ≡ items_depth ds
  items_depth-outline no_items = refl
  items_depth-outline (item d ds) = ap₂ max (depth-outline d) (items_depth-outline ds)

  members_depth-outline : (ms : Members) → tree.members_depth (members_outline ms) ≡ members_depth ms
  members_depth-outline no_members = refl
  members_depth-outline (member k d ms) = ap₂ max (depth-outline d) (members_depth-outline ms)

added_reads : (d : Data) (ts : List Token) → ts ≡ tree.json_tokens (outline d) → tokens (print ts) ≡ ts → of_json (outline d) ≡ Some d → depth d ≤ max_depth → read (compact_text d) ≡ Some d
added_reads d ts is back reads shallow =
    ap read (sym (ap print is ∙ print-outline d))
    ∙ (ap (λ us. option_and_then of_json (option_and_then (λ p. json.if_last p.0 p.1) (json.value max_depth us))) (back ∙ (is ∙ sym (append-nil (tree.json_tokens (outline d)))))
    ∙ (ap (λ r. option_and_then of_json (option_and_then (λ p. json.if_last p.0 p.1) r)) (value-json_tokens (outline d) max_depth [] (let same = depth-outline d in omega (arith, same, shallow))) ∙ reads))

pub text_printed : (d : Data) (ts : List Token) (text : List ℕ) → ts ≡ tree.json_tokens (outline d) → text ≡ print ts → text ≡ compact_text d
text_printed d ts text is printed = printed ∙ (ap print is ∙ print-outline d)

pub line_printed : (d : Data) (ts : List Token) (text : List ℕ) → ts ≡ tree.json_tokens (outline d) → text ≡ print ts ++ 10 ∷ [] → text ≡ json_line d
line_printed d ts text is printed = printed ∙ ap (λ bytes. bytes ++ 10 ∷ []) (ap print is ∙ print-outline d)

pub line_reads : (d : Data) (ts : List Token) (text : List ℕ) → ts ≡ tree.json_tokens (outline d) → text ≡ print ts ++ 10 ∷ [] → tokens (print ts) ≡ ts → of_json (outline d) ≡ Some d → depth d ≤ max_depth → ReadsBack text d
line_reads d ts text is printed back reads shallow = record { text = compact_text d; ends = line_printed d ts text is printed; reads = added_reads d ts is back reads shallow }

pub all_written : (d : Data) {old new : Written} → Adds d old new → old.tokens ≡ [] → new.tokens ≡ tree.json_tokens (outline d)
all_written d h none = h.tokens ∙ ap (λ ts. ts ++ tree.json_tokens (outline d)) none

row_flat : (vs : List Value) → items_depth (items_of (map value_json vs)) ≤ 0
row_flat [] = omega arith
row_flat (value.Null ∷ vs) = let rest = row_flat vs in omega arith
row_flat (value.Int n ∷ vs) = let rest = row_flat vs in omega arith
row_flat (value.Text s ∷ vs) = let rest = row_flat vs in omega arith

rows_flat : (rs : List (List Value)) → items_depth (items_of (map row_json rs)) ≤ 1
rows_flat [] = omega arith
rows_flat (r ∷ rs) = let first = row_flat r in let rest = rows_flat rs in omega arith

pub answer_shallow : (by : List ℕ) (line : ℕ) (request : List ℕ) (rows : List (List Value)) (version : ℕ) → depth (answer_json by line request rows version) ≤ max_depth
answer_shallow by line request rows version = let flat = rows_flat rows in omega arith
