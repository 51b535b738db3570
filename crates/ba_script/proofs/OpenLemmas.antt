-- What is open under a name after entries, and since when.
use Rattle.std.proofs.Common.{◌≡◌, ◌∙◌, ◌⊎◌, inl, inr, ℕ, ◌+◌, List, [], ◌∷◌, ◌++◌, Bool, true, false, cond, Option, Some, None, option_map, refl, sym, ap, add-zero}
use Rattle.std.specs.List.{fold, AllByRecursion}
use Rattle.std.specs.Str.{bytes_eq}
use Rattle.std.proofs.lemmas.List.Elements.{All-from_recursion, recursion_from_All}
use Rattle.std.proofs.lemmas.Slice.Eq.{bytes_eq-Decides}
use Rattle.ba_model.specs.declared.policy.Context.{Context}
use Rattle.ba_script.specs.Reading.{asked, asked_more, open_after, open_by, open_from}
use Rattle.ba_script.specs.Scripts.{IsFree, IsOpen, Leaves, questions_under}
use Rattle.ba_script.specs.declared.entry.ScriptEntry.{ScriptEntry}
use Rattle.ba_script.specs.declared.entry.ScriptEntry.TheVariants as entry
use Rattle.ba_script.specs.declared.requests.Opened.{Opened}

abbrev held : ℕ → ℕ → Opened
held request asks = record { request = request; asks = asks }

-- a count of questions with those of more entries
abbrev counted : List ℕ → ℕ → List ScriptEntry → ℕ
counted name n es = fold (λ m e. m + questions_under name e) n es

-- ---- from what is open

asked_by : (b : Bool) (request n : ℕ) → cond b (Some (held request (n + 1))) (Some (held request n)) ≡ Some (held request (n + cond b 1 0))
asked_by true request n = refl
asked_by false request n = ap (λ m. Some (held request m)) (sym (add-zero n))

read_by : (b : Bool) (request n more : ℕ) → cond b (Some (held request (n + more))) (Some (held request n)) ≡ Some (held request (n + cond b more 0))
read_by true request n more = refl
read_by false request n more = ap (λ m. Some (held request m)) (sym (add-zero n))

stays_by : (name : List ℕ) (request n : ℕ) (e : ScriptEntry) → Leaves name e → open_by name (Some (held request n)) e ≡ Some (held request (n + questions_under name e))
unfolding questions_under
stays_by name request n (entry.Begin r it context) other =
    ap (λ b. cond b (Some (held r 0)) (Some (held request n))) other ∙ ap (λ m. Some (held request m)) (sym (add-zero n))
stays_by name request n (entry.Ask r it query) other = asked_by (bytes_eq it name) request n
stays_by name request n (entry.Read r it key arguments questions) other = read_by (bytes_eq it name) request n questions
stays_by name request n (entry.End r it) other = ap (λ b. cond b None (Some (held request n))) other ∙ ap (λ m. Some (held request m)) (sym (add-zero n))
stays_by name request n (entry.Publish number set) other = ap (λ m. Some (held request m)) (sym (add-zero n))

stays_from : (name : List ℕ) (request n : ℕ) (es : List ScriptEntry) → AllByRecursion (Leaves name) es → open_from name (Some (held request n)) es ≡ Some (held request (counted name n es))
stays_from name request n [] stays = refl
stays_from name request n (e ∷ es) stays =
    ap (λ o. open_from name o es) (stays_by name request n e stays.0) ∙ stays_from name request (n + questions_under name e) es stays.1

open_from-append : (name : List ℕ) (o : Option Opened) (front back : List ScriptEntry) → open_from name o (front ++ back) ≡ open_from name (open_from name o front) back
open_from-append name o [] back = refl
open_from-append name o (e ∷ front) back = open_from-append name (open_by name o e) front back

begun_anew : (name : List ℕ) (request : ℕ) (o : Option Opened) → cond (bytes_eq name name) (Some (held request 0)) o ≡ Some (held request 0)
begun_anew name request o = ap (λ b. cond b (Some (held request 0)) o) ((bytes_eq-Decides name name).1 refl)

pub open_is : (before : List ScriptEntry) (name : List ℕ) (request asks : ℕ) → IsOpen before name request asks → open_after before name ≡ Some (held request asks)
open_is before name request asks h =
    ap (open_from name None) h.begins ∙ open_from-append name None h.front (entry.Begin request name h.context ∷ h.since)
    ∙ ap (λ o. open_from name o h.since) (begun_anew name request (open_from name None h.front))
    ∙ stays_from name request 0 h.since (recursion_from_All (Leaves name) h.since h.stays) ∙ ap (λ n. Some (held request n)) (sym h.count)

-- ---- to what is open

-- what was open before these entries still is
record Kept (name : List ℕ) (o : Option Opened) (es : List ScriptEntry) (x : Opened) : Type 0 where
  was : Opened
  is : o ≡ Some was
  stays : AllByRecursion (Leaves name) es
  more : x ≡ held was.request (counted name was.asks es)

abbrev Traced : List ℕ → Option Opened → List ScriptEntry → Opened → Type 0
Traced name o es x = IsOpen es name x.request x.asks ⊎ Kept name o es x

later : (name : List ℕ) (e : ScriptEntry) (es : List ScriptEntry) (x : Opened) → IsOpen es name x.request x.asks → IsOpen (e ∷ es) name x.request x.asks
later name e es x h = record { front = e ∷ h.front; context = h.context; since = h.since; begins = ap (λ more. e ∷ more) h.begins; stays = h.stays; count = h.count }

-- it began at the first of these entries
begins_here : (name it : List ℕ) (request : ℕ) (context : Context) (es : List ScriptEntry) (x was : Opened) → bytes_eq it name ≡ true → held request 0 ≡ was → AllByRecursion (Leaves name) es
    → x ≡ held was.request (counted name was.asks es) → IsOpen (entry.Begin request it context ∷ es) name x.request x.asks
begins_here name it request context es x was same new stays more =
    let now : x ≡ held request (counted name 0 es) = more ∙ ap (λ (h : Opened). held h.request (counted name h.asks es)) (sym new) in
    record {
      front = [];
      context = context;
      since = es;
      begins = ap (λ n. entry.Begin n it context ∷ es) (sym (ap (λ (h : Opened). h.request) now)) ∙ ap (λ n. entry.Begin x.request n context ∷ es) ((bytes_eq-Decides it name).0 same);
      stays = All-from_recursion (Leaves name) es stays;
      count = ap (λ (h : Opened). h.asks) now;
    }

-- some questions more
asks_here : (name : List ℕ) (o : Option Opened) (e : ScriptEntry) (es : List ScriptEntry) (x was : Opened) (count : ℕ) → questions_under name e ≡ count → Leaves name e → option_map (asked_more count) o ≡ Some was
    → AllByRecursion (Leaves name) es → x ≡ held was.request (counted name was.asks es) → Kept name o (e ∷ es) x
asks_here name None e es x was count ask leaves is stays more = cc is
asks_here name (Some h) e es x was count ask leaves is stays more =
    let new : asked_more count h ≡ was = cc is in
    record {
      was = h;
      is = refl;
      stays = (leaves, stays);
      more = more ∙ ap (λ (k : Opened). held k.request (counted name k.asks es)) (sym new) ∙ ap (λ n. held h.request (counted name (h.asks + n) es)) (sym ask);
    }

-- an entry that changes nothing
passed_here : (name : List ℕ) (o : Option Opened) (e : ScriptEntry) (es : List ScriptEntry) (x was : Opened) → questions_under name e ≡ 0 → Leaves name e → o ≡ Some was
    → AllByRecursion (Leaves name) es → x ≡ held was.request (counted name was.asks es) → Kept name o (e ∷ es) x
passed_here name o e es x was ask leaves is stays more = record {
  was = was;
  is = is;
  stays = (leaves, stays);
  more = more ∙ ap (λ n. held was.request (counted name n es)) (sym (add-zero was.asks)) ∙ ap (λ n. held was.request (counted name (was.asks + n) es)) (sym ask);
}

kept_on : (name : List ℕ) (o : Option Opened) (e : ScriptEntry) (es : List ScriptEntry) (x was : Opened) → open_by name o e ≡ Some was → AllByRecursion (Leaves name) es
    → x ≡ held was.request (counted name was.asks es) → Traced name o (e ∷ es) x
unfolding questions_under
kept_on name o (entry.Begin r it context) es x was is stays more = by (bytes_eq it name) refl is
  where
    by : (b : Bool) → bytes_eq it name ≡ b → cond b (Some (held r 0)) o ≡ Some was → Traced name o (entry.Begin r it context ∷ es) x
    by true same e = let new : held r 0 ≡ was = cc e in inl (begins_here name it r context es x was same new stays more)
    by false same e = inr (passed_here name o (entry.Begin r it context) es x was refl same e stays more)
kept_on name o (entry.Ask r it query) es x was is stays more = by (bytes_eq it name) refl is
  where
    by : (b : Bool) → bytes_eq it name ≡ b → cond b (option_map asked o) o ≡ Some was → Traced name o (entry.Ask r it query ∷ es) x
    by true same e = inr (asks_here name o (entry.Ask r it query) es x was 1 (ap (λ c. cond c 1 0) same) tt e stays more)
    by false same e = inr (passed_here name o (entry.Ask r it query) es x was (ap (λ c. cond c 1 0) same) tt e stays more)
kept_on name o (entry.Read r it key arguments questions) es x was is stays more = by (bytes_eq it name) refl is
  where
    by : (b : Bool) → bytes_eq it name ≡ b → cond b (option_map (asked_more questions) o) o ≡ Some was → Traced name o (entry.Read r it key arguments questions ∷ es) x
    by true same e = inr (asks_here name o (entry.Read r it key arguments questions) es x was questions (ap (λ c. cond c questions 0) same) tt e stays more)
    by false same e = inr (passed_here name o (entry.Read r it key arguments questions) es x was (ap (λ c. cond c questions 0) same) tt e stays more)
kept_on name o (entry.End r it) es x was is stays more = by (bytes_eq it name) refl is
  where
    by : (b : Bool) → bytes_eq it name ≡ b → cond b None o ≡ Some was → Traced name o (entry.End r it ∷ es) x
    by true same e = cc e
    by false same e = inr (passed_here name o (entry.End r it) es x was refl same e stays more)
kept_on name o (entry.Publish number set) es x was is stays more = inr (passed_here name o (entry.Publish number set) es x was refl tt is stays more)

traced : (name : List ℕ) (o : Option Opened) (es : List ScriptEntry) (x : Opened) → open_from name o es ≡ Some x → Traced name o es x
traced name o [] x is = inr (record { was = x; is = is; stays = tt; more = refl })
traced name o (e ∷ es) x is = by (traced name (open_by name o e) es x is)
  where
    by : Traced name (open_by name o e) es x → Traced name o (e ∷ es) x
    by (inl h) = inl (later name e es x h)
    by (inr h) = kept_on name o e es x h.was h.is h.stays h.more

pub is_open : (before : List ScriptEntry) (name : List ℕ) (x : Opened) → open_after before name ≡ Some x → IsOpen before name x.request x.asks
is_open before name x is = by (traced name None before x is)
  where
    by : Traced name None before x → IsOpen before name x.request x.asks
    by (inl h) = h
    by (inr h) = cc (h.is)

-- ---- nothing is open

pub is_free : (before : List ScriptEntry) (name : List ℕ) → open_after before name ≡ None → IsFree before name
is_free before name none request asks h = cc (sym none ∙ open_is before name request asks h)

pub free_is : (before : List ScriptEntry) (name : List ℕ) → IsFree before name → open_after before name ≡ None
free_is before name free = by (open_after before name) refl
  where
    by : (o : Option Opened) → open_after before name ≡ o → o ≡ None
    by None is = refl
    by (Some x) is = absurd (free x.request x.asks (is_open before name x is))
