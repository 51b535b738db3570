-- The script can be spelled, so that its text reads back.
use Rattle.std.proofs.Common.{◌≡◌, ◌∙◌, ℕ, zero, suc, pos, ◌+◌, ◌*◌, ◌/◌, ◌^◌, ◌<◌, ◌≤◌, Bool, true, false, cond, List, [], ◌∷◌, ◌++◌, length, Some, None, refl, sym, ap, subst, arith, codes, decimal, append_assoc, length-append}
use Rattle.std.specs.List.{AllByRecursion}
use Rattle.std.specs.Str.{IsUtf8, bytes_eq}
use Rattle.std.proofs.lemmas.Bool.{lt-ltb}
use Rattle.std.proofs.lemmas.Fmt.{IsAscii-decimal, length-decimal-le}
use Rattle.std.proofs.lemmas.List.Elements.{All-from_recursion}
use Rattle.std.proofs.lemmas.Nat.{mod_below}
use Rattle.std.proofs.lemmas.Slice.Eq.{bytes_eq-Decides}
use Rattle.std.proofs.lemmas.Str.{IsUtf8-append, IsUtf8-from_ascii}
use Rattle.json.proofs.Printed.Utf8.{IsUtf8-are_ascii}
use Rattle.ba_model.specs.Limits.{most_asks, most_requests}
use Rattle.ba_model.specs.declared.policy.Context.{Context}
use Rattle.ba_script.proofs.MeaningLemmas.{context_is}
use Rattle.ba_script.proofs.OpenLemmas.{is_free, is_open}
use Rattle.ba_script.proofs.TrackingLemmas.{begun-push}
use Rattle.ba_script.specs.Contexts as contexts
use Rattle.ba_script.specs.Reading.{begun, open_after, open_by, open_from}
use Rattle.ba_script.specs.Script.{IsName}
use Rattle.ba_script.specs.Scripts.{Says, asks, begins, ends}
use Rattle.ba_script.specs.declared.entry.ScriptEntry.{ScriptEntry}
use Rattle.ba_script.specs.declared.entry.ScriptEntry.TheVariants as entry
use Rattle.ba_script.specs.declared.line.Given.TheVariants.{Int}
use Rattle.ba_script.specs.declared.line.Member.{Member}
use Rattle.ba_script.specs.declared.line.ScriptLine.TheVariants as line
use Rattle.ba_script_print.proofs.HeldLemmas.{text_reads_back}
use Rattle.ba_script_print.specs.ReadBack.{AreSaid, CanBeSpelled, EntryIsHeld, IsHeld, IsSaid, KeyIsHeld, ParameterIsHeld, ValueIsHeld}
use Rattle.ba_workload.proofs.TableLemmas.{append_all}
use Rattle.ba_workload.specs.Chosen.{attended, event_at, events, other_event, user_of, users}
use Rattle.ba_workload.specs.Draws.{draw, drawn, state_after}
use Rattle.ba_workload.specs.Files.{workload_text}
use Rattle.ba_workload.specs.Lists.{all_of}
use Rattle.ba_workload.specs.Reads.{ScriptReadsBack}
use Rattle.ba_workload.specs.Script.{attendance_query, context_of, entries_of, name_of, request_entries, script, title_query}
use Rattle.ba_workload.specs.Standard.{params}

-- ---- what is open

open_from-append : (name : List ℕ) (o : _) (front back : List ScriptEntry) → open_from name o (front ++ back) ≡ open_from name (open_from name o front) back
open_from-append name o [] back = refl
open_from-append name o (e ∷ front) back = open_from-append name (open_by name o e) front back

same_name : (name : List ℕ) → bytes_eq name name ≡ true
same_name name = (bytes_eq-Decides name name).1 refl

-- after a begin line, and after a question more
opens : (before : List ScriptEntry) (k user : ℕ) (name : List ℕ) → open_after (before ++ entry.Begin k name (context_of user) ∷ []) name ≡ Some (record { request = k; asks = 0 })
opens before k user name =
    open_from-append name None before (entry.Begin k name (context_of user) ∷ []) ∙ ap (λ b. cond b (Some (record { request = k; asks = 0 })) (open_after before name)) (same_name name)

asks_on : (before : List ScriptEntry) (k n : ℕ) (name query : List ℕ) → open_after before name ≡ Some (record { request = k; asks = n }) → open_after (before ++ entry.Ask k name query ∷ []) name ≡ Some (record { request = k; asks = n + 1 })
asks_on before k n name query is =
    open_from-append name None before (entry.Ask k name query ∷ []) ∙ ap (λ o. open_by name o (entry.Ask k name query)) is
    ∙ ap (λ b. cond b (Some (record { request = k; asks = n + 1 })) (Some (record { request = k; asks = n }))) (same_name name)

-- a request leaves nothing open
closes : (k user event : ℕ) (q : List ℕ) → open_from q None (request_entries k user event) ≡ None
closes k user event q = by (bytes_eq (name_of k) q) refl
  where
    by : (b : Bool) → bytes_eq (name_of k) q ≡ b → open_from q None (request_entries k user event) ≡ None
    by true e = rw e refl
    by false e = rw e refl

put_five : (before : List ScriptEntry) (a b c d e : ScriptEntry) → before ++ a ∷ [] ++ b ∷ [] ++ c ∷ [] ++ d ∷ [] ++ e ∷ [] ≡ before ++ (a ∷ b ∷ c ∷ d ∷ e ∷ [])
put_five before a b c d e = simp append_assoc

begun_on : (before : List ScriptEntry) (k : ℕ) (context : Context) (name a b c : List ℕ)
    → begun (before ++ (entry.Begin k name context ∷ entry.Ask k name a ∷ entry.Ask k name b ∷ entry.Ask k name c ∷ entry.End k name ∷ [])) ≡ begun before + 1
begun_on before k context name a b c =
    let b1 = before ++ entry.Begin k name context ∷ [] in
    let b2 = b1 ++ entry.Ask k name a ∷ [] in
    let b3 = b2 ++ entry.Ask k name b ∷ [] in
    let b4 = b3 ++ entry.Ask k name c ∷ [] in
    sym (ap begun (put_five before (entry.Begin k name context) (entry.Ask k name a) (entry.Ask k name b) (entry.Ask k name c) (entry.End k name)))
    ∙ begun-push b4 (entry.End k name) ∙ begun-push b3 (entry.Ask k name c) ∙ begun-push b2 (entry.Ask k name b) ∙ begun-push b1 (entry.Ask k name a) ∙ begun-push before (entry.Begin k name context)

-- nothing is open after these entries, which begin so many requests
record IsQuiet (before : List ScriptEntry) (k : ℕ) : Type 0 where
  quiet : (q : List ℕ) → open_after before q ≡ None
  count : begun before ≡ k

quiet_on : (before : List ScriptEntry) (k user event : ℕ) → IsQuiet before k → IsQuiet (before ++ request_entries k user event) (k + 1)
quiet_on before k user event h = record {
  quiet = λ q. open_from-append q None before (request_entries k user event) ∙ ap (λ o. open_from q o (request_entries k user event)) (h.quiet q) ∙ closes k user event q;
  count = begun_on before k (context_of user) (name_of k) (attendance_query user event) (title_query event) (title_query (other_event event)) ∙ ap (λ n. n + 1) h.count;
}

-- ---- one request

-- numbers that are written in a request's lines
record AreSmall (k user event : ℕ) : Type 0 where
  number : k < most_requests
  user_small : user ≤ users
  event_small : event ≤ events

-- a name has a letter and at most twenty digits
name_short : (k : ℕ) → k < 2 ^ 64 → IsName (name_of k)
unfolding name_of
name_short k fits =
    let digits = length-decimal-le 20 k (omega arith) (omega (arith, fits)) fits in
    record { least = omega (arith, length-append (codes "q") (decimal k)); most = omega (arith, digits, length-append (codes "q") (decimal k)) }

user_member : ℕ → Member
user_member u = record { name = codes "MyUId"; value = Int (pos u) }

gives_user : (u : ℕ) → contexts.IsContext params (user_member u ∷ []) (context_of u)
unfolding user_member contexts.context_of contexts.is_declared contexts.is_called
gives_user u = context_is params (user_member u ∷ []) (context_of u) refl

begin_said : (before : List ScriptEntry) (k user : ℕ) → IsQuiet before k → k < most_requests → IsName (name_of k) → IsSaid params [] before (entry.Begin k (name_of k) (context_of user))
begin_said before k user h few short =
    let name = name_of k in
    let fewer : begun before < most_requests = subst (λ n. n < most_requests) (sym h.count) few in
    record {
      line = line.Begin name (user_member user ∷ []);
      names = short;
      says = subst (λ n. Says params [] before (line.Begin name (user_member user ∷ [])) (entry.Begin n name (context_of user))) h.count (begins (is_free before name (h.quiet name)) (gives_user user) fewer);
    }

ask_said : (before : List ScriptEntry) (k n : ℕ) (name query : List ℕ) → open_after before name ≡ Some (record { request = k; asks = n }) → n < most_asks → IsName name → IsSaid params [] before (entry.Ask k name query)
ask_said before k n name query is few short = record { line = line.Ask name query; names = short; says = asks (is_open before name (record { request = k; asks = n }) is) few }

end_said : (before : List ScriptEntry) (k n : ℕ) (name : List ℕ) → open_after before name ≡ Some (record { request = k; asks = n }) → IsName name → IsSaid params [] before (entry.End k name)
end_said before k n name is short = record { line = line.End name; names = short; says = ends (is_open before name (record { request = k; asks = n }) is) }

request_said : (before : List ScriptEntry) (k user event : ℕ) (rest : List ScriptEntry) → IsQuiet before k → k < most_requests → AreSaid params [] (before ++ request_entries k user event) rest
    → AreSaid params [] before (request_entries k user event ++ rest)
request_said before k user event rest h few more =
    let name = name_of k in
    let short = name_short k (omega (arith, few)) in
    let first = attendance_query user event in
    let title = title_query event in
    let hidden = title_query (other_event event) in
    let e0 = entry.Begin k name (context_of user) in
    let e1 = entry.Ask k name first in
    let e2 = entry.Ask k name title in
    let e3 = entry.Ask k name hidden in
    let e4 = entry.End k name in
    let b1 = before ++ e0 ∷ [] in
    let b2 = b1 ++ e1 ∷ [] in
    let b3 = b2 ++ e2 ∷ [] in
    let b4 = b3 ++ e3 ∷ [] in
    let o1 = opens before k user name in
    let o2 = asks_on b1 k 0 name first o1 in
    let o3 = asks_on b2 k 1 name title o2 in
    let o4 = asks_on b3 k 2 name hidden o3 in (
      begin_said before k user h few short,
      (
        ask_said b1 k 0 name first o1 (omega arith) short,
        (
          ask_said b2 k 1 name title o2 (omega arith) short,
          (
            ask_said b3 k 2 name hidden o3 (omega arith) short,
            (end_said b4 k 3 name o4 short, subst (λ es. AreSaid params [] es rest) (sym (put_five before e0 e1 e2 e3 e4)) more),
          ),
        ),
      ),
    )

-- ---- all requests

requests_said : (seed k n : ℕ) (before : List ScriptEntry) → IsQuiet before k → k + n ≤ most_requests → AreSaid params [] before (all_of (entries_of seed) k n)
unfolding all_of
requests_said seed k zero before h few = tt
requests_said seed k (suc n) before h few =
    request_said before k (user_of seed k) (event_at seed k) (all_of (entries_of seed) (k + 1) n) h (omega (arith, few))
    (requests_said seed (k + 1) n (before ++ entries_of seed k) (quiet_on before k (user_of seed k) (event_at seed k) h) (omega (arith, few)))

length-entries : (seed k n : ℕ) → length (all_of (entries_of seed) k n) ≡ 5 * n
unfolding all_of
length-entries seed k zero = refl
length-entries seed k (suc n) = let rest = length-entries seed (k + 1) n in omega (arith, rest)

can_be_spelled : (seed requests : ℕ) → requests ≤ most_requests → CanBeSpelled params [] (script seed requests)
can_be_spelled seed requests few = record {
  few_entries = let long = length-entries seed 0 requests in omega (arith, long, few);
  said = requests_said seed 0 requests [] (record { quiet = λ q. refl; count = refl }) (omega (arith, few));
}

-- ---- texts and numbers

small_at : (seed k : ℕ) → k < most_requests → AreSmall k (user_of seed k) (event_at seed k)
unfolding drawn
small_at seed k number = record {
  number = number;
  user_small = let low : draw seed (2 * k) users < users = mod_below (state_after seed (2 * k + 1) / 2 ^ 33) users (omega arith) in omega (arith, low);
  event_small = let low = mod_below (7 * user_of seed k + 13 * draw seed (2 * k + 1) attended) events (omega arith) in omega (arith, low);
}

fits_in : (n most : ℕ) → n ≤ most → most ≤ 8192 → n < 2 ^ 63
fits_in n most h few = omega (arith, h, few)

wide_in : (n : ℕ) → n < 2 ^ 63 → n < 2 ^ 64
wide_in n h = omega (arith, h)

other_small : (e : ℕ) → other_event e ≤ events
other_small e = let low = mod_below e events (omega arith) in omega (arith, low)

decimal_utf8 : (n : ℕ) → n < 2 ^ 64 → IsUtf8 (decimal n)
decimal_utf8 n h = IsUtf8-from_ascii (decimal n) (IsAscii-decimal n h)

name_utf8 : (k : ℕ) → k < 2 ^ 64 → IsUtf8 (name_of k)
unfolding name_of
name_utf8 k h = IsUtf8-append (codes "q") (decimal k) (IsUtf8-are_ascii (codes "q") refl) (decimal_utf8 k h)

title_utf8 : (e : ℕ) → e < 2 ^ 64 → IsUtf8 (title_query e)
unfolding title_query
title_utf8 e h = IsUtf8-append (codes "SELECT Title FROM Events WHERE EId = ") (decimal e) (IsUtf8-are_ascii (codes "SELECT Title FROM Events WHERE EId = ") refl) (decimal_utf8 e h)

attendance_utf8 : (u e : ℕ) → u < 2 ^ 64 → e < 2 ^ 64 → IsUtf8 (attendance_query u e)
unfolding attendance_query
attendance_utf8 u e h k =
    IsUtf8-append (codes "SELECT UId, EId, At FROM Attendances WHERE UId = ") (decimal u ++ (codes " AND EId = " ++ decimal e)) (IsUtf8-are_ascii (codes "SELECT UId, EId, At FROM Attendances WHERE UId = ") refl)
    (IsUtf8-append (decimal u) (codes " AND EId = " ++ decimal e) (decimal_utf8 u h) (IsUtf8-append (codes " AND EId = ") (decimal e) (IsUtf8-are_ascii (codes " AND EId = ") refl) (decimal_utf8 e k)))

context_held : (u : ℕ) → u < 2 ^ 63 → AllByRecursion ValueIsHeld (context_of u).values
context_held u h = (lt-ltb u (2 ^ 63) h, tt)

request_held : (k user event : ℕ) → AreSmall k user event → AllByRecursion EntryIsHeld (request_entries k user event)
request_held k user event small =
    let number : k < 2 ^ 64 = wide_in k (fits_in k 8192 (omega (arith, small.number)) (omega arith)) in
    let who : user < 2 ^ 63 = fits_in user users small.user_small (omega arith) in
    let what : event < 2 ^ 64 = wide_in event (fits_in event events small.event_small (omega arith)) in
    let other : other_event event < 2 ^ 64 = wide_in (other_event event) (fits_in (other_event event) events (other_small event) (omega arith)) in
    let name = name_utf8 k number in (
      (name, All-from_recursion ValueIsHeld (context_of user).values (context_held user who)),
      ((name, attendance_utf8 user event (wide_in user who) what), ((name, title_utf8 event what), ((name, title_utf8 (other_event event) other), (name, tt)))),
    )

requests_held : (seed k n : ℕ) → k + n ≤ most_requests → AllByRecursion EntryIsHeld (all_of (entries_of seed) k n)
unfolding all_of
requests_held seed k zero few = tt
requests_held seed k (suc n) few =
    append_all EntryIsHeld (entries_of seed k) (all_of (entries_of seed) (k + 1) n) (request_held k (user_of seed k) (event_at seed k) (small_at seed k (omega (arith, few))))
    (requests_held seed (k + 1) n (omega (arith, few)))

is_held : (seed requests : ℕ) → requests ≤ most_requests → IsHeld params [] (script seed requests)
is_held seed requests few = record {
  each_parameter = All-from_recursion ParameterIsHeld params (IsUtf8-are_ascii (codes "MyUId") refl, tt);
  each_key = All-from_recursion KeyIsHeld [] tt;
  each_entry = All-from_recursion EntryIsHeld (script seed requests).entries (requests_held seed 0 requests (omega (arith, few)));
}

-- ---- the text

pub reads_back : ScriptReadsBack
unfolding workload_text
reads_back seed requests few = text_reads_back params [] (script seed requests) (is_held seed requests few) (can_be_spelled seed requests few)
