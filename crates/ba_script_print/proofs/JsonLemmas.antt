-- A compact text is UTF-8 and reads as its value, where the value's texts are UTF-8, its numbers have
-- 64 bits and its members are in order.
use Rattle.std.proofs.Common.{◌≡◌, ◌∙◌, ℕ, suc, pos, negsuc, ◌^◌, ◌<◌, ◌≤◌, Bool, true, false, Ordering, Less, Equal, Greater, List, [], ◌∷◌, ◌++◌, Some, refl, sym, ap, ap₂, subst, decimal}
use Rattle.std.specs.Prelude.{max, option_map, option_and_then}
use Rattle.std.specs.Cmp.Lexicographic.{slice_cmp}
use Rattle.std.specs.Fmt.{signed_decimal}
use Rattle.std.specs.Ordering.{nat_cmp, match_ordering, ordering_reverse}
use Rattle.std.specs.Str.{IsUtf8}
use Rattle.std.proofs.lemmas.Cmp.{nat_list_cmp_total}
use Rattle.std.proofs.lemmas.Fmt.{IsAscii-decimal, IsAscii-signed}
use Rattle.std.proofs.lemmas.List.{append-nil}
use Rattle.std.proofs.lemmas.Str.{IsUtf8-append, IsUtf8-from_ascii}
use Rattle.json.specs.Json as json
use Rattle.json.specs.Lex.{tokens}
use Rattle.json.specs.Print.{IsNumber}
use Rattle.json.specs.Tree as tree
use Rattle.json.proofs.Printed.Decimals.{IsNumber-decimal, IsNumber-signed_decimal}
use Rattle.json.proofs.Printed.Tokens.{tokens-print}
use Rattle.json.proofs.Printed.Trees.{ArePrintable-json_tokens, value-json_tokens}
use Rattle.json.proofs.Printed.Utf8.{IsUtf8-are_ascii, IsUtf8-boolean, IsUtf8-quoted}
use Rattle.serde_json.specs.Data.{Data, Members, Num, null, boolean, number, string, array, object, unsigned, negative, float, no_members, member, put, depth, members_depth}
use Rattle.serde_json.specs.Read.{max_depth, number_of, of_json, of_members, read}
use Rattle.serde_json.specs.Written.{comma_if, compact_text, members_outline, members_text, number_text, outline}
use Rattle.serde_json.proofs.Numbers.{number_of-decimal, number_of-negative}
use Rattle.serde_json.proofs.Texts.{print-outline}
use Rattle.ba_script.specs.Script.{IsJson}

-- ---- what may be written

abbrev pub NumberIsHeld : Num → Type 0
NumberIsHeld (unsigned n) = n < 2 ^ 64
NumberIsHeld (negative (pos n)) = ⊥
NumberIsHeld (negative (negsuc n)) = n < 2 ^ 63
NumberIsHeld (float x) = ⊥

-- each key comes after the text
abbrev pub AreAfter : List ℕ → Members → Type 0
AreAfter k no_members = Unit {0}
AreAfter k (member l d ms) = (slice_cmp nat_cmp k l ≡ Less) × AreAfter k ms

abbrev pub Rise : Members → Type 0
Rise no_members = Unit {0}
Rise (member k d ms) = AreAfter k ms × Rise ms

-- a value without lists
abbrev mutual
  pub Held : Data → Type 0
  Held null = Unit {0}
  Held (boolean b) = Unit {0}
  Held (number n) = NumberIsHeld n
  Held (string s) = IsUtf8 s
  Held (array ds) = ⊥
  Held (object ms) = Rise ms × MembersHeld ms

  pub MembersHeld : Members → Type 0
  MembersHeld no_members = Unit {0}
  MembersHeld (member k d ms) = IsUtf8 k × (Held d × MembersHeld ms)

-- ---- UTF-8

number_utf8 : (n : Num) → NumberIsHeld n → IsUtf8 (number_text n)
number_utf8 (unsigned n) h = IsUtf8-from_ascii (decimal n) (IsAscii-decimal n h)
number_utf8 (negative (pos n)) h = absurd h
number_utf8 (negative (negsuc n)) h = IsUtf8-from_ascii (signed_decimal (negsuc n)) (IsAscii-signed (negsuc n) h)
number_utf8 (float x) h = absurd h

comma_utf8 : (b : Bool) → IsUtf8 (comma_if b)
comma_utf8 true = IsUtf8-are_ascii (44 ∷ []) refl
comma_utf8 false = IsUtf8-are_ascii [] refl

mutual
  text_utf8 : (d : Data) → Held d → IsUtf8 (compact_text d)
  text_utf8 null h = IsUtf8-are_ascii _ refl
  text_utf8 (boolean b) h = IsUtf8-boolean b
  text_utf8 (number n) h = number_utf8 n h
  text_utf8 (string s) h = IsUtf8-quoted s h
  text_utf8 (array ds) h = absurd h
  text_utf8 (object ms) h = IsUtf8-append (123 ∷ []) (members_text false ms) (IsUtf8-are_ascii (123 ∷ []) refl) (members_utf8 false ms h.1)

  members_utf8 : (later : Bool) (ms : Members) → MembersHeld ms → IsUtf8 (members_text later ms)
  members_utf8 later no_members h = IsUtf8-are_ascii (125 ∷ []) refl
  members_utf8 later (member k d ms) h =
      let value = IsUtf8-append (compact_text d) (members_text true ms) (text_utf8 d h.1.0) (members_utf8 true ms h.1.1) in
      let colon = IsUtf8-append (58 ∷ []) (compact_text d ++ members_text true ms) (IsUtf8-are_ascii (58 ∷ []) refl) value in
      let rest = 58 ∷ (compact_text d ++ members_text true ms) in
      IsUtf8-append (comma_if later) _ (comma_utf8 later) (IsUtf8-append _ rest (IsUtf8-quoted k h.0) colon)

-- ---- numbers of JSON

number_is : (n : Num) → NumberIsHeld n → IsNumber (number_text n)
number_is (unsigned n) h = IsNumber-decimal n h
number_is (negative (pos n)) h = absurd h
number_is (negative (negsuc n)) h = IsNumber-signed_decimal (negsuc n) h
number_is (float x) h = absurd h

mutual
  numbers_are : (d : Data) → Held d → tree.HasNumbers (outline d)
  numbers_are null h = tt
  numbers_are (boolean b) h = tt
  numbers_are (number n) h = number_is n h
  numbers_are (string s) h = tt
  numbers_are (array ds) h = absurd h
  numbers_are (object ms) h = members_are ms h.1

  members_are : (ms : Members) → MembersHeld ms → tree.MembersHaveNumbers (members_outline ms)
  members_are no_members h = tt
  members_are (member k d ms) h = (numbers_are d h.1.0, members_are ms h.1.1)

-- ---- how deep

mutual
  as_deep : (d : Data) → Held d → tree.depth (outline d) ≡ depth d
  as_deep null h = refl
  as_deep (boolean b) h = refl
  as_deep (number n) h = refl
  as_deep (string s) h = refl
  as_deep (array ds) h = absurd h
  as_deep (object ms) h = ap suc (members_as_deep ms h.1)

  members_as_deep : (ms : Members) → MembersHeld ms → tree.members_depth (members_outline ms) ≡ members_depth ms
  members_as_deep no_members h = refl
  members_as_deep (member k d ms) h = ap₂ max (as_deep d h.1.0) (members_as_deep ms h.1.1)

-- ---- members that are put in order

abbrev pushed : Members → List ℕ → Data → Members
pushed no_members k d = member k d no_members
pushed (member l e ms) k d = member l e (pushed ms k d)

abbrev joined : Members → Members → Members
joined no_members ms = ms
joined (member l e found) ms = member l e (joined found ms)

joined_none : (found : Members) → joined found no_members ≡ found
joined_none no_members = refl
joined_none (member l e found) = ap (member l e) (joined_none found)

joined_push : (found : Members) (k : List ℕ) (d : Data) (ms : Members) → joined (pushed found k d) ms ≡ joined found (member k d ms)
joined_push no_members k d ms = refl
joined_push (member l e found) k d ms = ap (member l e) (joined_push found k d ms)

after_in : (l : List ℕ) (found : Members) (k : List ℕ) (d : Data) (ms : Members) → AreAfter l (joined found (member k d ms)) → slice_cmp nat_cmp l k ≡ Less
after_in l no_members k d ms h = h.0
after_in l (member m e found) k d ms h = after_in l found k d ms h.1

put_last : (found : Members) (k : List ℕ) (d : Data) (ms : Members) → Rise (joined found (member k d ms)) → put k d found ≡ pushed found k d
put_last no_members k d ms h = refl
put_last (member l e found) k d ms h =
    let greater : slice_cmp nat_cmp k l ≡ Greater = nat_list_cmp_total.antisymm k l ∙ ap ordering_reverse (after_in l found k d ms h.0) in
    ap (λ o. match_ordering o (member k d (member l e found)) (member l d found) (member l e (put k d found))) greater ∙ ap (member l e) (put_last found k d ms h.1)

number_back : (n : Num) → NumberIsHeld n → number_of (number_text n) ≡ Some n
number_back (unsigned n) h = number_of-decimal n h
number_back (negative (pos n)) h = absurd h
number_back (negative (negsuc n)) h = number_of-negative n h
number_back (float x) h = absurd h

mutual
  value_back : (d : Data) → Held d → of_json (outline d) ≡ Some d
  value_back null h = refl
  value_back (boolean b) h = refl
  value_back (number n) h = ap (option_map number) (number_back n h)
  value_back (string s) h = refl
  value_back (array ds) h = absurd h
  value_back (object ms) h = ap (option_map object) (members_back ms no_members h.0 h.1)

  members_back : (ms found : Members) → Rise (joined found ms) → MembersHeld ms → of_members (members_outline ms) found ≡ Some (joined found ms)
  members_back no_members found rise h = ap Some (sym (joined_none found))
  members_back (member k d ms) found rise h =
      ap (λ o. option_and_then (λ e. of_members (members_outline ms) (put k e found)) o) (value_back d h.1.0)
      ∙ ap (of_members (members_outline ms)) (put_last found k d ms rise)
      ∙ members_back ms (pushed found k d) (subst Rise (sym (joined_push found k d ms)) rise) h.1.1
      ∙ ap Some (joined_push found k d ms)

-- ---- the text

text_read : (d : Data) → Held d → depth d ≤ max_depth → read (compact_text d) ≡ Some d
text_read d h shallow =
    let j = outline d in
    let few : tree.depth j ≤ max_depth = subst (λ n. n ≤ max_depth) (sym (as_deep d h)) shallow in
    ap (λ ts. option_and_then of_json (option_and_then (λ p. json.if_last p.0 p.1) (json.value max_depth ts)))
    (ap tokens (sym (print-outline d)) ∙ tokens-print (tree.json_tokens j) (ArePrintable-json_tokens j (numbers_are d h)) ∙ sym (append-nil (tree.json_tokens j)))
    ∙ ap (λ r. option_and_then of_json (option_and_then (λ p. json.if_last p.0 p.1) r)) (value-json_tokens j max_depth [] few) ∙ value_back d h

pub is_json : (d : Data) → Held d → depth d ≤ max_depth → IsJson (compact_text d) d
is_json d h shallow = record { utf8 = text_utf8 d h; reads = text_read d h shallow }

-- ---- members that were put

after_put : (l k : List ℕ) (d : Data) (ms : Members) → slice_cmp nat_cmp l k ≡ Less → AreAfter l ms → AreAfter l (put k d ms)
after_put l k d no_members less h = (less, tt)
after_put l k d (member m e ms) less h = by (slice_cmp nat_cmp k m) (after_put l k d ms less h.1)
  where
    by : (o : Ordering) → AreAfter l (put k d ms) → AreAfter l (match_ordering o (member k d (member m e ms)) (member m d ms) (member m e (put k d ms)))
    by Less rest = (less, h)
    by Equal rest = h
    by Greater rest = (h.0, rest)

after_less : (k l : List ℕ) (ms : Members) → slice_cmp nat_cmp k l ≡ Less → AreAfter l ms → AreAfter k ms
after_less k l no_members less h = tt
after_less k l (member m e ms) less h = (nat_list_cmp_total.trans k l m less h.0, after_less k l ms less h.1)

pub rise_put : (k : List ℕ) (d : Data) (ms : Members) → Rise ms → Rise (put k d ms)
rise_put k d no_members h = (tt, tt)
rise_put k d (member l e ms) h = by (slice_cmp nat_cmp k l) refl (rise_put k d ms h.1)
  where
    less_of : slice_cmp nat_cmp k l ≡ Greater → slice_cmp nat_cmp l k ≡ Less
    less_of greater = nat_list_cmp_total.antisymm l k ∙ ap ordering_reverse greater

    by : (o : Ordering) → slice_cmp nat_cmp k l ≡ o → Rise (put k d ms) → Rise (match_ordering o (member k d (member l e ms)) (member l d ms) (member l e (put k d ms)))
    by Less is rest = ((is, after_less k l ms is h.0), h)
    by Equal is rest = h
    by Greater is rest = (after_put l k d ms (less_of is) h.0, rest)

pub held_put : (k : List ℕ) (d : Data) (ms : Members) → IsUtf8 k → Held d → MembersHeld ms → MembersHeld (put k d ms)
held_put k d no_members name value h = (name, (value, tt))
held_put k d (member l e ms) name value h = by (slice_cmp nat_cmp k l) (held_put k d ms name value h.1.1)
  where
    by : (o : Ordering) → MembersHeld (put k d ms) → MembersHeld (match_ordering o (member k d (member l e ms)) (member l d ms) (member l e (put k d ms)))
    by Less rest = (name, (value, h))
    by Equal rest = (h.0, (value, h.1.1))
    by Greater rest = (h.0, (h.1.0, rest))
