-- What the entries of a script that was read have to do with one another.
use Rattle.std.proofs.Common.{◌≡◌, ◌∙◌, ℕ, ◌+◌, ◌<◌, ◌≤◌, List, [], ◌∷◌, ◌++◌, length, slice_get, Some, Ok, refl, sym, ap, ap₂, subst, arith}
use Rattle.std.specs.List.{AllByRecursion, AllZip}
use Rattle.std.proofs.lemmas.List.Elements.{All-from_recursion}
use Rattle.ba_model.specs.Conform.{IsOfKind}
use Rattle.ba_model.specs.Fit.{kinds_of}
use Rattle.ba_model.specs.declared.policy.CacheKey.{CacheKey}
use Rattle.ba_model.specs.declared.policy.Parameter.{Parameter}
use Rattle.ba_model.specs.declared.schema.Kind.{Kind}
use Rattle.ba_model.specs.declared.schema.Kind.TheVariants.{Int as IntKind, Text as TextKind}
use Rattle.ba_model.specs.declared.value.Value.{Value}
use Rattle.ba_model.specs.declared.value.Value.TheVariants as value
use Rattle.ba_script.proofs.SaysLemmas.{length-say, script_reads}
use Rattle.ba_script.proofs.TrackingLemmas.{begun-push, published-push}
use Rattle.ba_script.specs.Contexts.{IsValueFor, of_kind}
use Rattle.ba_script.specs.Lines.{script_lines}
use Rattle.ba_script.specs.Reading.{begun, published, script_of}
use Rattle.ba_script.specs.Scripts.{BeginFits, EntriesFit, EntryFits, IsLine, IsOpen, IsScript, LinesSay, NumberedFrom, PublishedFrom, ReadFits, Says, begins, asks, reads, ends, publishes}
use Rattle.ba_script.specs.declared.entry.Script.{Script}
use Rattle.ba_script.specs.declared.entry.ScriptEntry.{ScriptEntry}
use Rattle.ba_script.specs.declared.entry.ScriptEntry.TheVariants as entry
use Rattle.ba_script.specs.declared.line.Given.{Given}
use Rattle.ba_script.specs.declared.line.Given.TheVariants as given
use Rattle.ba_script.specs.declared.line.Member.{Member}
use Rattle.ba_script.specs.declared.line.ScriptLine.{ScriptLine}
use Rattle.ba_script.specs.declared.line.ScriptLine.TheVariants as line

-- ---- contexts

kind_fits : (k : Kind) (g : Given) (v : Value) → of_kind k g ≡ Some v → IsOfKind k v
kind_fits IntKind (given.Int n) value.Null e = cc e
kind_fits IntKind (given.Int n) (value.Int m) e = tt
kind_fits IntKind (given.Int n) (value.Text t) e = cc e
kind_fits IntKind (given.Text s) v e = cc e
kind_fits IntKind given.Other v e = cc e
kind_fits TextKind (given.Int n) v e = cc e
kind_fits TextKind (given.Text s) value.Null e = cc e
kind_fits TextKind (given.Text s) (value.Int m) e = cc e
kind_fits TextKind (given.Text s) (value.Text t) e = tt
kind_fits TextKind given.Other v e = cc e

values_fit : (members : List Member) (params : List Parameter) (vs : List Value) → AllZip (IsValueFor members) params vs → AllZip IsOfKind (kinds_of params) vs
values_fit members [] [] h = tt
values_fit members [] (v ∷ vs) h = absurd h
values_fit members (param ∷ params) [] h = absurd h
values_fit members (param ∷ params) (v ∷ vs) h = (kind_fits param.kind h.0.0 v h.0.2, values_fit members params vs h.1)

begin_fits : (params : List Parameter) (keys : List CacheKey) (before : List ScriptEntry) (l : ScriptLine) (e : ScriptEntry) → Says params keys before l e → BeginFits params e
begin_fits params keys before (line.Begin name members) e (begins {context} free is few) = values_fit members params context.values is.values
begin_fits params keys before (line.Ask name query) e (asks is few) = tt
begin_fits params keys before (line.Read name key_name members) e (reads is has context few) = tt
begin_fits params keys before (line.End name) e (ends is) = tt
begin_fits params keys before (line.Publish set) e publishes = tt

contexts_fit : (params : List Parameter) (keys : List CacheKey) (before : List ScriptEntry) (lines : List (List ℕ)) (es : List ScriptEntry) → LinesSay params keys before lines es → AllByRecursion (BeginFits params) es
contexts_fit params keys before [] [] h = tt
contexts_fit params keys before [] (e ∷ es) h = absurd h
contexts_fit params keys before (bytes ∷ lines) [] h = absurd h
contexts_fit params keys before (bytes ∷ lines) (e ∷ es) h = (begin_fits params keys before h.0.0 e h.0.2, contexts_fit params keys (before ++ e ∷ []) lines es h.1)

read_fits : (params : List Parameter) (keys : List CacheKey) (before : List ScriptEntry) (l : ScriptLine) (e : ScriptEntry) → Says params keys before l e → ReadFits keys e
read_fits params keys before (line.Begin name members) e (begins free is few) = tt
read_fits params keys before (line.Ask name query) e (asks is few) = tt
read_fits params keys before (line.Read name key_name members) e (reads {request} {asked} {number} {key} {arguments} is has context few) =
    let there : slice_get keys number ≡ Some key = ap₂ (λ (ks : List CacheKey) (n : ℕ). slice_get ks n) has.are has.number_is ∙ at_front has.front has.back key in
    (key, there, values_fit members key.arguments arguments.values context.values, refl)
  where
    at_front : (front back : List CacheKey) (key : CacheKey) → slice_get (front ++ key ∷ back) (length front) ≡ Some key
    at_front [] back key = refl
    at_front (k ∷ front) back key = at_front front back key
read_fits params keys before (line.End name) e (ends is) = tt
read_fits params keys before (line.Publish set) e publishes = tt

reads_fit : (params : List Parameter) (keys : List CacheKey) (before : List ScriptEntry) (lines : List (List ℕ)) (es : List ScriptEntry) → LinesSay params keys before lines es → AllByRecursion (ReadFits keys) es
reads_fit params keys before [] [] h = tt
reads_fit params keys before [] (e ∷ es) h = absurd h
reads_fit params keys before (bytes ∷ lines) [] h = absurd h
reads_fit params keys before (bytes ∷ lines) (e ∷ es) h = (read_fits params keys before h.0.0 e h.0.2, reads_fit params keys (before ++ e ∷ []) lines es h.1)

-- ---- names

entry_fits : (params : List Parameter) (keys : List CacheKey) (before : List ScriptEntry) (bytes : List ℕ) (l : ScriptLine) (e : ScriptEntry) → IsLine bytes l → Says params keys before l e → EntryFits before e
entry_fits params keys before bytes (line.Begin name members) e read (begins free is few) = (free, few)
entry_fits params keys before bytes (line.Ask name query) e read (asks {asked} is few) = (asked, is, few)
entry_fits params keys before bytes (line.Read name key_name members) e read (reads {asked} is has context few) = (asked, is, few)
entry_fits params keys before bytes (line.End name) e read (ends {asked} is) = (asked, is)
entry_fits params keys before bytes (line.Publish set) e read publishes = read.2.0

entries_fit : (params : List Parameter) (keys : List CacheKey) (before : List ScriptEntry) (lines : List (List ℕ)) (es : List ScriptEntry) → LinesSay params keys before lines es → EntriesFit before es
entries_fit params keys before [] [] h = tt
entries_fit params keys before [] (e ∷ es) h = absurd h
entries_fit params keys before (bytes ∷ lines) [] h = absurd h
entries_fit params keys before (bytes ∷ lines) (e ∷ es) h = (entry_fits params keys before bytes h.0.0 e h.0.1 h.0.2, entries_fit params keys (before ++ e ∷ []) lines es h.1)

-- ---- numbers

-- a request that began has a number below n
abbrev Below : ℕ → ScriptEntry → Type 0
Below n (entry.Begin request name context) = request < n
Below n (entry.Ask request name query) = Unit {0}
Below n (entry.Read request name key arguments questions) = Unit {0}
Below n (entry.End request name) = Unit {0}
Below n (entry.Publish number set) = Unit {0}

below_more : (n : ℕ) (e : ScriptEntry) → Below n e → Below (n + 1) e
below_more n (entry.Begin request name context) h = omega arith
below_more n (entry.Ask request name query) h = tt
below_more n (entry.Read request name key arguments questions) h = tt
below_more n (entry.End request name) h = tt
below_more n (entry.Publish number set) h = tt

all_more : (n : ℕ) (es : List ScriptEntry) → AllByRecursion (Below n) es → AllByRecursion (Below (n + 1)) es
all_more n [] h = tt
all_more n (e ∷ es) h = (below_more n e h.0, all_more n es h.1)

all_push : (n : ℕ) (es : List ScriptEntry) (e : ScriptEntry) → AllByRecursion (Below n) es → Below n e → AllByRecursion (Below n) (es ++ e ∷ [])
all_push n [] e h last = (last, tt)
all_push n (x ∷ es) e h last = (h.0, all_push n es e h.1 last)

below_in : (n : ℕ) (front : List ScriptEntry) (e : ScriptEntry) (back : List ScriptEntry) → AllByRecursion (Below n) (front ++ e ∷ back) → Below n e
below_in n [] e back h = h.0
below_in n (x ∷ front) e back h = below_in n front e back h.1

open_below : (n : ℕ) (before : List ScriptEntry) (name : List ℕ) (request asked : ℕ) → AllByRecursion (Below n) before → IsOpen before name request asked → request < n
open_below n before name request asked all h = below_in n h.front (entry.Begin request name h.context) h.since (subst (AllByRecursion (Below n)) h.begins all)

number_on : (params : List Parameter) (keys : List CacheKey) (before : List ScriptEntry) (n : ℕ) (l : ScriptLine) (e : ScriptEntry) (es : List ScriptEntry) → Says params keys before l e → begun before ≡ n
    → AllByRecursion (Below n) before → ((m : ℕ) → begun (before ++ e ∷ []) ≡ m → AllByRecursion (Below m) (before ++ e ∷ []) → NumberedFrom m es) → NumberedFrom n (e ∷ es)
number_on params keys before n (line.Begin name members) e es (begins {context} free is few) count all rest =
    let fresh : begun before < n + 1 = omega arith in
    (count, rest (n + 1) (begun-push before (entry.Begin (begun before) name context) ∙ ap (λ m. m + 1) count) (all_push (n + 1) before (entry.Begin (begun before) name context) (all_more n before all) fresh))
number_on params keys before n (line.Ask name query) e es (asks {request} {asked} is few) count all rest =
    (open_below n before name request asked all is, rest n (begun-push before (entry.Ask request name query) ∙ count) (all_push n before (entry.Ask request name query) all tt))
number_on params keys before n (line.Read name key_name members) e es (reads {request} {asked} {number} {key} {arguments} is has context few) count all rest =
    let it : ScriptEntry = entry.Read request name number arguments (length key.queries) in
    (open_below n before name request asked all is, rest n (begun-push before it ∙ count) (all_push n before it all tt))
number_on params keys before n (line.End name) e es (ends {request} {asked} is) count all rest =
    (open_below n before name request asked all is, rest n (begun-push before (entry.End request name) ∙ count) (all_push n before (entry.End request name) all tt))
number_on params keys before n (line.Publish set) e es publishes count all rest =
    rest n (begun-push before (entry.Publish (published before) set) ∙ count) (all_push n before (entry.Publish (published before) set) all tt)

numbered : (params : List Parameter) (keys : List CacheKey) (before : List ScriptEntry) (n : ℕ) (lines : List (List ℕ)) (es : List ScriptEntry) → LinesSay params keys before lines es → begun before ≡ n
    → AllByRecursion (Below n) before → NumberedFrom n es
numbered params keys before n [] [] h count all = tt
numbered params keys before n [] (e ∷ es) h count all = absurd h
numbered params keys before n (bytes ∷ lines) [] h count all = absurd h
numbered params keys before n (bytes ∷ lines) (e ∷ es) h count all =
    number_on params keys before n h.0.0 e es h.0.2 count all (λ m. numbered params keys (before ++ e ∷ []) m lines es h.1)

published_on : (params : List Parameter) (keys : List CacheKey) (before : List ScriptEntry) (n : ℕ) (l : ScriptLine) (e : ScriptEntry) (es : List ScriptEntry) → Says params keys before l e → published before ≡ n
    → ((m : ℕ) → published (before ++ e ∷ []) ≡ m → PublishedFrom m es) → PublishedFrom n (e ∷ es)
published_on params keys before n (line.Begin name members) e es (begins {context} free is few) count rest = rest n (published-push before (entry.Begin (begun before) name context) ∙ count)
published_on params keys before n (line.Ask name query) e es (asks {request} is few) count rest = rest n (published-push before (entry.Ask request name query) ∙ count)
published_on params keys before n (line.Read name key_name members) e es (reads {request} {asked} {number} {key} {arguments} is has context few) count rest =
    rest n (published-push before (entry.Read request name number arguments (length key.queries)) ∙ count)
published_on params keys before n (line.End name) e es (ends {request} is) count rest = rest n (published-push before (entry.End request name) ∙ count)
published_on params keys before n (line.Publish set) e es publishes count rest =
    (count, rest (n + 1) (published-push before (entry.Publish (published before) set) ∙ ap (λ m. m + 1) count))

sets_numbered : (params : List Parameter) (keys : List CacheKey) (before : List ScriptEntry) (n : ℕ) (lines : List (List ℕ)) (es : List ScriptEntry) → LinesSay params keys before lines es → published before ≡ n → PublishedFrom n es
sets_numbered params keys before n [] [] h count = tt
sets_numbered params keys before n [] (e ∷ es) h count = absurd h
sets_numbered params keys before n (bytes ∷ lines) [] h count = absurd h
sets_numbered params keys before n (bytes ∷ lines) (e ∷ es) h count = published_on params keys before n h.0.0 e es h.0.2 count (λ m. sets_numbered params keys (before ++ e ∷ []) m lines es h.1)

pub is_script : (params : List Parameter) (keys : List CacheKey) (bytes : List ℕ) (s : Script) → script_of params keys bytes ≡ Ok s → IsScript params keys s
is_script params keys bytes s e =
    let h = script_reads params keys bytes s e in
    record {
      few_entries = subst (λ n. n ≤ 65536) (sym (length-say params keys [] (script_lines bytes) s.entries h.entries)) h.few_lines;
      contexts = All-from_recursion (BeginFits params) s.entries (contexts_fit params keys [] (script_lines bytes) s.entries h.entries);
      reads = All-from_recursion (ReadFits keys) s.entries (reads_fit params keys [] (script_lines bytes) s.entries h.entries);
      numbered = numbered params keys [] 0 (script_lines bytes) s.entries h.entries refl tt;
      published = sets_numbered params keys [] 0 (script_lines bytes) s.entries h.entries refl;
      fit = entries_fit params keys [] (script_lines bytes) s.entries h.entries;
    }
