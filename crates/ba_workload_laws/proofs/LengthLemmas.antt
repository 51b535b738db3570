-- No text of a workload is longer than a file may be.
use Rattle.std.proofs.Common.{◌≡◌, ℕ, zero, suc, pos, ◌+◌, ◌*◌, ◌^◌, ◌<◌, ◌≤◌, ◌/◌, ◌%◌, Bool, true, false, cond, nat_lt, List, [], ◌∷◌, ◌++◌, length, ap, arith, codes, decimal, length-append}
use Rattle.std.specs.Char.{digit_char}
use Rattle.std.proofs.lemmas.Bool.{le-ltb}
use Rattle.std.proofs.lemmas.Fmt.{length-decimal-le}
use Rattle.std.proofs.lemmas.Grind.{flat_map-append}
use Rattle.std.proofs.lemmas.Nat.{mod_below}
use Rattle.json.specs.Print.{escape, escape_byte, escape_letter, quoted}
use Rattle.serde_json.specs.Data.{Data, Members, number, object, string, no_members, member}
use Rattle.serde_json.specs.Find.{of_integer}
use Rattle.serde_json.specs.Written.{compact_text, members_text}
use Rattle.ba_model.specs.Limits.{most_file_bytes, most_requests}
use Rattle.ba_model.specs.declared.value.Value.{Value}
use Rattle.ba_model.specs.declared.value.Value.TheVariants.{Int}
use Rattle.ba_script.specs.declared.entry.ScriptEntry.TheVariants as entry
use Rattle.ba_script_print.specs.Texts.{ask_json, begin_json, context_json, entries_text, entry_line}
use Rattle.ba_workload.specs.Chosen.{attended, event_at, event_of, events, other_event, user_of, users}
use Rattle.ba_workload.specs.Draws.{draw, drawn, state_after}
use Rattle.ba_workload.specs.Files.{workload_text}
use Rattle.ba_workload.specs.Lists.{all_of, each_of}
use Rattle.ba_workload.specs.Script.{attendance_query, context_of, entries_of, name_of, request_entries, title_query}
use Rattle.ba_workload.specs.Standard.{params}
use Rattle.ba_workload.specs.Tables.{attendance_row, attendance_rows, attendances_of, attendances_text, duration_of, event_row, event_rows, events_text, field_of, line_of, lines_of, named, next_field, time_of, user_row, user_rows, users_text}

-- ---- strings

one_of : (b d : Bool) (x y h l : ℕ) → length (cond b (92 ∷ y ∷ []) (cond d (92 ∷ 117 ∷ 48 ∷ 48 ∷ h ∷ l ∷ []) (x ∷ []))) ≤ 6
one_of true d x y h l = omega arith
one_of false true x y h l = omega arith
one_of false false x y h l = omega arith

byte_short : (x : ℕ) → length (escape_byte x) ≤ 6
unfolding escape_byte
byte_short x = one_of (nat_lt 0 (escape_letter x)) (nat_lt x 32) x (escape_letter x) (digit_char (x / 16)) (digit_char (x % 16))

escape_short : (s : List ℕ) → length (escape s) ≤ 6 * length s
escape_short [] = omega arith
escape_short (x ∷ s) =
    let both = length-append (escape_byte x) (escape s) in
    let one = byte_short x in
    let rest = escape_short s in
    omega (arith, both, one, rest)

quoted_short : (s : List ℕ) → length (quoted s) ≤ 6 * length s + 2
quoted_short s =
    let ends : List ℕ = 34 ∷ [] in
    let all = length-append (escape s) ends in
    let inner = escape_short s in
    omega (arith, all, inner)

-- ---- members

-- a member, and those behind it
member_short : (b : Bool) (k : List ℕ) (d : Data) (ms : Members) → length (members_text b (member k d ms)) ≤ 6 * length k + (length (compact_text d) + (length (members_text true ms) + 4))
member_short true k d ms =
    let rest = compact_text d ++ members_text true ms in
    let one = length-append (quoted k) (58 ∷ rest) in
    let two = length-append (compact_text d) (members_text true ms) in
    let name = quoted_short k in
    omega (arith, one, two, name)
member_short false k d ms =
    let rest = compact_text d ++ members_text true ms in
    let one = length-append (quoted k) (58 ∷ rest) in
    let two = length-append (compact_text d) (members_text true ms) in
    let name = quoted_short k in
    omega (arith, one, two, name)

-- ---- numbers

-- a number below ten thousand has four digits
few_digits : (n : ℕ) → n < 10000 → length (decimal n) ≤ 4
few_digits n h = length-decimal-le 4 n (omega arith) (omega (arith, h)) (omega (arith, h))

name_short : (k : ℕ) → k < 10000 → length (name_of k) ≤ 5
unfolding name_of
name_short k h =
    let digits = few_digits k h in
    let all = length-append (codes "q") (decimal k) in
    omega (arith, digits, all)

title_short : (e : ℕ) → e < 10000 → length (title_query e) ≤ 50
unfolding title_query
title_short e h =
    let digits = few_digits e h in
    let all = length-append (codes "SELECT Title FROM Events WHERE EId = ") (decimal e) in
    omega (arith, digits, all)

attendance_short : (u e : ℕ) → u < 10000 → e < 10000 → length (attendance_query u e) ≤ 70
unfolding attendance_query
attendance_short u e h k =
    let user = few_digits u h in
    let event = few_digits e k in
    let back = length-append (codes " AND EId = ") (decimal e) in
    let mid = length-append (decimal u) (codes " AND EId = " ++ decimal e) in
    let all = length-append (codes "SELECT UId, EId, At FROM Attendances WHERE UId = ") (decimal u ++ (codes " AND EId = " ++ decimal e)) in
    omega (arith, user, event, back, mid, all)

-- ---- lines

ask_short : (k : ℕ) (name query : List ℕ) → length name ≤ 5 → length query ≤ 70 → length (entry_line params [] (entry.Ask k name query)) ≤ 1000
unfolding ask_json
ask_short k name query few some =
    let last = member (codes "query") (string query) no_members in
    let outer = member_short false (codes "ask") (string name) last in
    let inner = member_short true (codes "query") (string query) no_members in
    let first = quoted_short name in
    let second = quoted_short query in
    let feed = length-append (compact_text (ask_json name query)) (10 ∷ []) in
    omega (arith, outer, inner, first, second, feed, few, some)

end_short : (k : ℕ) (name : List ℕ) → length name ≤ 5 → length (entry_line params [] (entry.End k name)) ≤ 1000
end_short k name few =
    let outer = member_short false (codes "end") (string name) no_members in
    let first = quoted_short name in
    let feed = length-append (compact_text (object (member (codes "end") (string name) no_members))) (10 ∷ []) in
    omega (arith, outer, first, feed, few)

begin_short : (k u : ℕ) (name : List ℕ) → length name ≤ 5 → u < 10000 → length (entry_line params [] (entry.Begin k name (context_of u))) ≤ 1000
unfolding begin_json
begin_short k u name few h =
    let values = context_json params (context_of u) in
    let outer = member_short false (codes "begin") (string name) (member (codes "context") values no_members) in
    let inner = member_short true (codes "context") values no_members in
    let value = member_short false (codes "MyUId") (number (of_integer (pos u))) no_members in
    let digits = few_digits u h in
    let first = quoted_short name in
    let feed = length-append (compact_text (begin_json params name (context_of u))) (10 ∷ []) in
    omega (arith, outer, inner, value, digits, first, feed, few)

-- ---- requests

request_short : (k user event : ℕ) → k < 10000 → user < 10000 → event < 10000 → other_event event < 10000 → length (entries_text params [] (request_entries k user event)) ≤ 8192
request_short k user event few who what other =
    let name = name_of k in
    let short = name_short k few in
    let e0 = entry.Begin k name (context_of user) in
    let e1 = entry.Ask k name (attendance_query user event) in
    let e2 = entry.Ask k name (title_query event) in
    let e3 = entry.Ask k name (title_query (other_event event)) in
    let e4 = entry.End k name in
    let t3 = entries_text params [] (e4 ∷ []) in
    let t2 = entries_text params [] (e3 ∷ e4 ∷ []) in
    let t1 = entries_text params [] (e2 ∷ e3 ∷ e4 ∷ []) in
    let t0 = entries_text params [] (e1 ∷ e2 ∷ e3 ∷ e4 ∷ []) in
    let s0 = length-append (entry_line params [] e0) t0 in
    let s1 = length-append (entry_line params [] e1) t1 in
    let s2 = length-append (entry_line params [] e2) t2 in
    let s3 = length-append (entry_line params [] e3) t3 in
    let s4 = length-append (entry_line params [] e4) [] in
    let l0 = begin_short k user name short who in
    let l1 = let long = attendance_short user event who what in ask_short k name (attendance_query user event) short long in
    let l2 = let long = title_short event what in ask_short k name (title_query event) short (omega (arith, long)) in
    let l3 = let long = title_short (other_event event) other in ask_short k name (title_query (other_event event)) short (omega (arith, long)) in
    let l4 = end_short k name short in
    omega (arith, s0, s1, s2, s3, s4, l0, l1, l2, l3, l4)

small_user : (seed k : ℕ) → user_of seed k < 10000
unfolding drawn
small_user seed k = let low : draw seed (2 * k) users < users = mod_below (state_after seed (2 * k + 1) / 2 ^ 33) users (omega arith) in omega (arith, low)

small_event : (seed k : ℕ) → event_at seed k < 10000
small_event seed k = let low = mod_below (7 * user_of seed k + 13 * draw seed (2 * k + 1) attended) events (omega arith) in omega (arith, low)

small_other : (e : ℕ) → other_event e < 10000
small_other e = let low = mod_below e events (omega arith) in omega (arith, low)

requests_short : (seed k n : ℕ) → k + n ≤ most_requests → length (entries_text params [] (all_of (entries_of seed) k n)) ≤ 8192 * n
unfolding all_of
requests_short seed k zero few = omega arith
requests_short seed k (suc n) few =
    let front = entries_of seed k in
    let back = all_of (entries_of seed) (k + 1) n in
    let is = ap length (flat_map-append (entry_line params []) front back) in
    let both = length-append (entries_text params [] front) (entries_text params [] back) in
    let one = request_short k (user_of seed k) (event_at seed k) (omega (arith, few)) (small_user seed k) (small_event seed k) (small_other (event_at seed k)) in
    let rest = requests_short seed (k + 1) n (omega (arith, few)) in
    omega (arith, is, both, one, rest)

not_below : (n : ℕ) → n ≤ most_file_bytes → nat_lt most_file_bytes n ≡ false
not_below n h = le-ltb most_file_bytes n h

-- as much as a file may have, and no more
pub script_is_short : (seed requests : ℕ) → requests ≤ most_requests → nat_lt most_file_bytes (length (workload_text seed requests)) ≡ false
unfolding workload_text
script_is_short seed requests few = let long = requests_short seed 0 requests (omega (arith, few)) in not_below (length (workload_text seed requests)) (omega (arith, long, few))

-- ---- table files

int_short : (n : ℕ) → n < 10000 → length (field_of (Int (pos n))) ≤ 4
int_short n h = few_digits n h

named_short : (letter n : ℕ) → n < 10000 → length (field_of (named (letter ∷ []) n)) ≤ 5
named_short letter n h = let digits = few_digits n h in omega (arith, digits)

-- a line of two fields, and of three
two_fields : (v w : Value) → length (line_of (v ∷ w ∷ [])) ≤ length (field_of v) + (length (field_of w) + 2)
two_fields v w =
    let behind = length-append (next_field w) [] in
    let fields = length-append (field_of v) (next_field w ++ []) in
    let line = length-append (field_of v ++ (next_field w ++ [])) (10 ∷ []) in
    omega (arith, behind, fields, line)

three_fields : (v w x : Value) → length (line_of (v ∷ w ∷ x ∷ [])) ≤ length (field_of v) + (length (field_of w) + (length (field_of x) + 3))
three_fields v w x =
    let last = length-append (next_field x) [] in
    let behind = length-append (next_field w) (next_field x ++ []) in
    let fields = length-append (field_of v) (next_field w ++ (next_field x ++ [])) in
    let line = length-append (field_of v ++ (next_field w ++ (next_field x ++ []))) (10 ∷ []) in
    omega (arith, last, behind, fields, line)

-- a line for each of some numbers
lines_short : (row : ℕ → List Value) (most first n : ℕ) → ((k : ℕ) → k < most → length (line_of (row k)) ≤ 40) → first + n ≤ most → length (lines_of (each_of row first n)) ≤ 40 * n
unfolding each_of
lines_short row most first zero short few = omega arith
lines_short row most first (suc n) short few =
    let both = length-append (line_of (row first)) (lines_of (each_of row (first + 1) n)) in
    let one = short first (omega (arith, few)) in
    let rest = lines_short row most (first + 1) n short (omega (arith, few)) in
    omega (arith, both, one, rest)

user_short : (u : ℕ) → u < 10000 → length (line_of (user_row u)) ≤ 40
unfolding user_row
user_short u h =
    let first = int_short u h in
    let second = named_short 117 u h in
    let all = two_fields (Int (pos u)) (named (117 ∷ []) u) in
    omega (arith, first, second, all)

event_short : (e : ℕ) → e < 10000 → length (line_of (event_row e)) ≤ 40
unfolding event_row
event_short e h =
    let first = int_short e h in
    let second = named_short 101 e h in
    let low = mod_below e 7 (omega arith) in
    let third = int_short (duration_of e) (omega (arith, low)) in
    let all = three_fields (Int (pos e)) (named (101 ∷ []) e) (Int (pos (duration_of e))) in
    omega (arith, first, second, third, all)

attendance_line_short : (u j : ℕ) → u < 65 → j < 4 → length (line_of (attendance_row u j)) ≤ 40
unfolding attendance_row
attendance_line_short u j h few =
    let first = int_short u (omega (arith, h)) in
    let low = mod_below (7 * u + 13 * j) events (omega arith) in
    let second = int_short (event_of u j) (omega (arith, low)) in
    let third = int_short (time_of u j) (omega (arith, h, few)) in
    let all = three_fields (Int (pos u)) (Int (pos (event_of u j))) (Int (pos (time_of u j))) in
    omega (arith, first, second, third, all)

attendances_short_from : (first n : ℕ) → first + n ≤ 65 → length (lines_of (all_of attendances_of first n)) ≤ 160 * n
unfolding all_of
attendances_short_from first zero few = omega arith
attendances_short_from first (suc n) few =
    let is = ap length (flat_map-append line_of (attendances_of first) (all_of attendances_of (first + 1) n)) in
    let both = length-append (lines_of (attendances_of first)) (lines_of (all_of attendances_of (first + 1) n)) in
    let one = lines_short (attendance_row first) 4 0 4 (λ j h. attendance_line_short first j (omega (arith, few)) h) (omega arith) in
    let rest = attendances_short_from (first + 1) n (omega (arith, few)) in
    omega (arith, is, both, one, rest)

pub users_short : nat_lt most_file_bytes (length users_text) ≡ false
unfolding users_text
users_short =
    let lines = lines_short user_row 10000 1 users user_short (omega arith) in
    let all = length-append (codes "UId,Name\n") (lines_of user_rows) in
    not_below (length users_text) (omega (arith, lines, all))

pub events_short : nat_lt most_file_bytes (length events_text) ≡ false
unfolding events_text
events_short =
    let lines = lines_short event_row 10000 1 events event_short (omega arith) in
    let all = length-append (codes "EId,Title,Duration\n") (lines_of event_rows) in
    not_below (length events_text) (omega (arith, lines, all))

pub attendances_short : nat_lt most_file_bytes (length attendances_text) ≡ false
unfolding attendances_text
attendances_short =
    let lines = attendances_short_from 1 users (omega arith) in
    let all = length-append (codes "UId,EId,At\n") (lines_of attendance_rows) in
    not_below (length attendances_text) (omega (arith, lines, all))
