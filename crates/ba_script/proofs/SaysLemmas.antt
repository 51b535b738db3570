-- What one line says after entries, and what all lines say.
use Rattle.std.proofs.Common.{◌≡◌, ◌⊎◌, ◌∙◌, inl, inr, ℕ, suc, ◌+◌, ◌≤◌, List, [], ◌∷◌, ◌++◌, length, nat_lt, Bool, true, false, cond, Option, Some, None, Result, Ok, Err, refl, sym, ap, subst, append-nil, append_assoc}
use Rattle.std.proofs.lemmas.Bool.{ltb-true, ltb-false, lt-ltb, le-ltb}
use Rattle.serde_json.specs.Data.{Data}
use Rattle.ba_model.specs.declared.policy.CacheKey.{CacheKey}
use Rattle.ba_model.specs.declared.policy.Context.{Context}
use Rattle.ba_model.specs.declared.policy.Parameter.{Parameter}
use Rattle.ba_model.specs.Readings.{◌>>=◌, widened}
use Rattle.ba_model.specs.Limits.{most_asks, most_lines, most_requests}
use Rattle.ba_model.specs.declared.limits.Counted.TheVariants as what
use Rattle.ba_script.proofs.FormLemmas.{line_is, line_not, only_shape, spelled}
use Rattle.ba_script.proofs.MeaningLemmas.{context_is, context_none, is_context, no_context}
use Rattle.ba_script.proofs.KeyLemmas.{has_key, has_no_key, key_is, no_key_is}
use Rattle.ba_script.proofs.OpenLemmas.{free_is, is_free, is_open, open_is}
use Rattle.ba_script.proofs.ScriptLemmas.{json_of_line, line_of_json, no_line_is, no_line_of_no_json}
use Rattle.ba_script.specs.Contexts.{context_of}
use Rattle.ba_script.specs.Lines.{script_lines}
use Rattle.ba_script.specs.Reading.{arguments_at, ask_of, begin_of, begun, context_at, counted, end_of, entries_from, entry_at, entry_of, key_from, key_read, numbered, open_after, read_of, script_from, script_of, script_with}
use Rattle.ba_script.specs.Script.{IsJson, Spells, line_at as line_of_data, script_line_of}
use Rattle.ba_script.specs.Scripts.{HasBadLine, IsFree, IsLine, IsNoScript, IsOpen, LineFails, LineSays, LinesSay, ReadsScript, HasKey, Says, SaysNone, begins, asks, reads, ends, publishes, begun_twice, asks_unbegun, reads_unbegun, ends_unbegun, no_context as lacks_context, no_key, no_arguments, many_reads, many_requests, many_asks, json, shape, says_none, many_lines, bad_line}
use Rattle.ba_script.specs.declared.entry.Script.{Script}
use Rattle.ba_script.specs.declared.entry.ScriptEntry.{ScriptEntry}
use Rattle.ba_script.specs.declared.entry.ScriptEntry.TheVariants as entry
use Rattle.ba_script.specs.declared.fault.ScriptFault.{ScriptFault}
use Rattle.ba_script.specs.declared.fault.ScriptFault.TheVariants.{BadLine, TooMany}
use Rattle.ba_script.specs.declared.requests.Opened.{Opened}
use Rattle.ba_script.specs.declared.fault.LineFault.{LineFault}
use Rattle.ba_script.specs.declared.fault.LineFault.TheVariants.{Json, Shape}
use Rattle.ba_script.specs.declared.line.Member.{Member}
use Rattle.ba_script.specs.declared.line.ScriptLine.{ScriptLine}
use Rattle.ba_script.specs.declared.line.ScriptLine.TheVariants as line

-- ---- one line, once it is read

-- what is told of a line that is an entry, or none
abbrev Told : List Parameter → List CacheKey → List ScriptEntry → ℕ → ScriptLine → Result ScriptEntry ScriptFault → Type 0
Told params keys before n l (Ok e) = Says params keys before l e
Told params keys before n l (Err f) = SaysNone params keys before n l f

begin_few : (params : List Parameter) (keys : List CacheKey) (before : List ScriptEntry) (n : ℕ) (name : List ℕ) (members : List Member) (context : Context) (b : Bool) → nat_lt (begun before) most_requests ≡ b
    → IsFree before name → context_of params members ≡ Some context
    → Told params keys before n (line.Begin name members) (cond b (Ok (entry.Begin (begun before) name context)) (Err (TooMany what.Requests most_requests)))
begin_few params keys before n name members context true less free found = begins free (context_is params members context found) (ltb-true _ _ less)
begin_few params keys before n name members context false more free found = many_requests free (context_is params members context found) (ltb-false _ _ more)

begin_by : (params : List Parameter) (keys : List CacheKey) (before : List ScriptEntry) (n : ℕ) (name : List ℕ) (members : List Member) (found : Option Context) → IsFree before name → context_of params members ≡ found
    → Told params keys before n (line.Begin name members) (context_at n found >>= numbered name (begun before))
begin_by params keys before n name members None free none = lacks_context free (no_context params members none)
begin_by params keys before n name members (Some context) free found = begin_few params keys before n name members context (nat_lt (begun before) most_requests) refl free found

begin_told : (params : List Parameter) (keys : List CacheKey) (before : List ScriptEntry) (n : ℕ) (name : List ℕ) (members : List Member) (o : Option Opened) → open_after before name ≡ o
    → Told params keys before n (line.Begin name members) (begin_of params n name members o (begun before))
unfolding begin_of
begin_told params keys before n name members (Some x) is = begun_twice (is_open before name x is)
begin_told params keys before n name members None is = begin_by params keys before n name members (context_of params members) (is_free before name is) refl

ask_told : (params : List Parameter) (keys : List CacheKey) (before : List ScriptEntry) (n : ℕ) (name query : List ℕ) (o : Option Opened) → open_after before name ≡ o
    → Told params keys before n (line.Ask name query) (ask_of n name query o)
unfolding ask_of
ask_told params keys before n name query None is = asks_unbegun (is_free before name is)
ask_told params keys before n name query (Some x) is = few (nat_lt x.asks most_asks) refl
  where
    few : (b : Bool) → nat_lt x.asks most_asks ≡ b → Told params keys before n (line.Ask name query) (cond b (Ok (entry.Ask x.request name query)) (Err (TooMany what.Asks most_asks)))
    few true less = asks (is_open before name x is) (ltb-true _ _ less)
    few false more = many_asks (is_open before name x is) (ltb-false _ _ more)

read_few : (params : List Parameter) (keys : List CacheKey) (before : List ScriptEntry) (n : ℕ) (name key_name : List ℕ) (members : List Member) (x : Opened) (number : ℕ) (key : CacheKey) (arguments : Context) (b : Bool)
    → nat_lt most_asks (x.asks + length key.queries) ≡ b → IsOpen before name x.request x.asks → HasKey keys key_name number key → context_of key.arguments members ≡ Some arguments
    → Told params keys before n (line.Read name key_name members) (cond b (Err (TooMany what.Asks most_asks)) (Ok (entry.Read x.request name number arguments (length key.queries))))
read_few params keys before n name key_name members x number key arguments true more is has found = many_reads is has (context_is key.arguments members arguments found) (ltb-true _ _ more)
read_few params keys before n name key_name members x number key arguments false few is has found = reads is has (context_is key.arguments members arguments found) (ltb-false _ _ few)

read_by : (params : List Parameter) (keys : List CacheKey) (before : List ScriptEntry) (n : ℕ) (name key_name : List ℕ) (members : List Member) (x : Opened) (number : ℕ) (key : CacheKey) (found : Option Context)
    → IsOpen before name x.request x.asks → HasKey keys key_name number key → context_of key.arguments members ≡ found
    → Told params keys before n (line.Read name key_name members) (arguments_at n found >>= counted name x number (length key.queries))
read_by params keys before n name key_name members x number key None is has none = no_arguments is has (no_context key.arguments members none)
read_by params keys before n name key_name members x number key (Some arguments) is has found =
    read_few params keys before n name key_name members x number key arguments (nat_lt most_asks (x.asks + length key.queries)) refl is has found

key_told : (params : List Parameter) (keys : List CacheKey) (before : List ScriptEntry) (n : ℕ) (name key_name : List ℕ) (members : List Member) (x : Opened) (found : Option (ℕ × CacheKey)) → IsOpen before name x.request x.asks
    → key_from 0 key_name keys ≡ found → Told params keys before n (line.Read name key_name members) (key_read n name members x found)
unfolding key_read
key_told params keys before n name key_name members x None is none = no_key is (has_no_key keys key_name none)
key_told params keys before n name key_name members x (Some found) is there =
    read_by params keys before n name key_name members x found.0 found.1 (context_of found.1.arguments members) is (has_key keys key_name found.0 found.1 there) refl

read_told : (params : List Parameter) (keys : List CacheKey) (before : List ScriptEntry) (n : ℕ) (name key_name : List ℕ) (members : List Member) (o : Option Opened) → open_after before name ≡ o
    → Told params keys before n (line.Read name key_name members) (read_of keys n name key_name members o)
unfolding read_of
read_told params keys before n name key_name members None is = reads_unbegun (is_free before name is)
read_told params keys before n name key_name members (Some x) is = key_told params keys before n name key_name members x (key_from 0 key_name keys) (is_open before name x is) refl

end_told : (params : List Parameter) (keys : List CacheKey) (before : List ScriptEntry) (n : ℕ) (name : List ℕ) (o : Option Opened) → open_after before name ≡ o → Told params keys before n (line.End name) (end_of n name o)
unfolding end_of
end_told params keys before n name None is = ends_unbegun (is_free before name is)
end_told params keys before n name (Some x) is = ends (is_open before name x is)

pub told : (params : List Parameter) (keys : List CacheKey) (before : List ScriptEntry) (n : ℕ) (l : ScriptLine) → Told params keys before n l (entry_of params keys before n l)
told params keys before n (line.Begin name members) = begin_told params keys before n name members (open_after before name) refl
told params keys before n (line.Ask name query) = ask_told params keys before n name query (open_after before name) refl
told params keys before n (line.Read name key_name members) = read_told params keys before n name key_name members (open_after before name) refl
told params keys before n (line.End name) = end_told params keys before n name (open_after before name) refl
told params keys before n (line.Publish set) = publishes

-- what a line says is its entry
says_entry : (params : List Parameter) (keys : List CacheKey) (before : List ScriptEntry) (n : ℕ) (l : ScriptLine) (e : ScriptEntry) → Says params keys before l e → entry_of params keys before n l ≡ Ok e
unfolding begin_of ask_of end_of read_of key_read
says_entry params keys before n (line.Begin name members) e (begins {context} free is few) =
    ap (λ o. begin_of params n name members o (begun before)) (free_is before name free) ∙ ap (λ o. context_at n o >>= numbered name (begun before)) (is_context params members context is)
    ∙ ap (λ b. cond b (Ok (entry.Begin (begun before) name context)) (Err (TooMany what.Requests most_requests))) (lt-ltb _ _ few)
says_entry params keys before n (line.Ask name query) e (asks {request} {asked} is few) =
    ap (ask_of n name query) (open_is before name request asked is) ∙ ap (λ b. cond b (Ok (entry.Ask request name query)) (Err (TooMany what.Asks most_asks))) (lt-ltb _ _ few)
says_entry params keys before n (line.Read name key_name members) e (reads {request} {asked} {number} {key} {arguments} is has context few) =
    ap (read_of keys n name key_name members) (open_is before name request asked is) ∙ ap (key_read n name members (record { request = request; asks = asked })) (key_is keys key_name number key has)
    ∙ ap (λ o. arguments_at n o >>= counted name (record { request = request; asks = asked }) number (length key.queries)) (is_context key.arguments members arguments context)
    ∙ ap (λ b. cond b (Err (TooMany what.Asks most_asks)) (Ok (entry.Read request name number arguments (length key.queries)))) (le-ltb _ _ few)
says_entry params keys before n (line.End name) e (ends {request} {asked} is) = ap (end_of n name) (open_is before name request asked is)
says_entry params keys before n (line.Publish set) e publishes = refl

-- why a line says nothing is its fault
none_fault : (params : List Parameter) (keys : List CacheKey) (before : List ScriptEntry) (n : ℕ) (l : ScriptLine) (f : ScriptFault) → SaysNone params keys before n l f → entry_of params keys before n l ≡ Err f
unfolding begin_of ask_of end_of read_of key_read
none_fault params keys before n (line.Begin name members) f (begun_twice {request} {asked} is) =
    ap (λ o. begin_of params n name members o (begun before)) (open_is before name request asked is)
none_fault params keys before n (line.Begin name members) f (lacks_context free none) =
    ap (λ o. begin_of params n name members o (begun before)) (free_is before name free) ∙ ap (λ o. context_at n o >>= numbered name (begun before)) (context_none params members none)
none_fault params keys before n (line.Begin name members) f (many_requests {context} free is many) =
    ap (λ o. begin_of params n name members o (begun before)) (free_is before name free) ∙ ap (λ o. context_at n o >>= numbered name (begun before)) (is_context params members context is)
    ∙ ap (λ b. cond b (Ok (entry.Begin (begun before) name context)) (Err (TooMany what.Requests most_requests))) (le-ltb _ _ many)
none_fault params keys before n (line.Ask name query) f (asks_unbegun free) = ap (ask_of n name query) (free_is before name free)
none_fault params keys before n (line.Ask name query) f (many_asks {request} {asked} is many) =
    ap (ask_of n name query) (open_is before name request asked is) ∙ ap (λ b. cond b (Ok (entry.Ask request name query)) (Err (TooMany what.Asks most_asks))) (le-ltb _ _ many)
none_fault params keys before n (line.Read name key_name members) f (reads_unbegun free) = ap (read_of keys n name key_name members) (free_is before name free)
none_fault params keys before n (line.Read name key_name members) f (no_key {request} {asked} is none) =
    ap (read_of keys n name key_name members) (open_is before name request asked is) ∙ ap (key_read n name members (record { request = request; asks = asked })) (no_key_is keys key_name none)
none_fault params keys before n (line.Read name key_name members) f (no_arguments {request} {asked} {number} {key} is has none) =
    ap (read_of keys n name key_name members) (open_is before name request asked is) ∙ ap (key_read n name members (record { request = request; asks = asked })) (key_is keys key_name number key has)
    ∙ ap (λ o. arguments_at n o >>= counted name (record { request = request; asks = asked }) number (length key.queries)) (context_none key.arguments members none)
none_fault params keys before n (line.Read name key_name members) f (many_reads {request} {asked} {number} {key} {arguments} is has context many) =
    ap (read_of keys n name key_name members) (open_is before name request asked is) ∙ ap (key_read n name members (record { request = request; asks = asked })) (key_is keys key_name number key has)
    ∙ ap (λ o. arguments_at n o >>= counted name (record { request = request; asks = asked }) number (length key.queries)) (is_context key.arguments members arguments context)
    ∙ ap (λ b. cond b (Err (TooMany what.Asks most_asks)) (Ok (entry.Read request name number arguments (length key.queries)))) (lt-ltb _ _ many)
none_fault params keys before n (line.End name) f (ends_unbegun free) = ap (end_of n name) (free_is before name free)
none_fault params keys before n (line.Publish set) f none = elim none [ ]

-- ---- one line's bytes

line_read : (bytes : List ℕ) (l : ScriptLine) → script_line_of bytes ≡ Ok l → IsLine bytes l
line_read bytes l e = let found = json_of_line bytes l e in (found.0, found.1, line_is found.0 l found.2)

read_line : (bytes : List ℕ) (l : ScriptLine) → IsLine bytes l → script_line_of bytes ≡ Ok l
read_line bytes l (d, is, spells) = line_of_json bytes d is.utf8 is.reads ∙ spelled d l spells

json_read : (bytes : List ℕ) → script_line_of bytes ≡ Err Json → (d : Data) → ¬ (IsJson bytes d)
json_read bytes e d is = line_not d (sym (line_of_json bytes d is.utf8 is.reads) ∙ e)

shape_read : (bytes : List ℕ) (d : Data) → IsJson bytes d → script_line_of bytes ≡ Err Shape → (l : ScriptLine) → ¬ (Spells d l)
shape_read bytes d is e l spells = cc (sym e ∙ read_line bytes l (d, is, spells))

pub read_shape : (bytes : List ℕ) (d : Data) → IsJson bytes d → ((l : ScriptLine) → ¬ (Spells d l)) → script_line_of bytes ≡ Err Shape
read_shape bytes d is none = line_of_json bytes d is.utf8 is.reads ∙ by (line_of_data d) refl
  where
    by : (r : Result ScriptLine LineFault) → line_of_data d ≡ r → r ≡ Err Shape
    by (Ok l) e = absurd (none l (line_is d l e))
    by (Err f) e = ap Err (only_shape d f e)

-- bytes without a line's shape are the JSON of a value that spells none
shape_from : (bytes : List ℕ) → script_line_of bytes ≡ Err Shape → (Shape ≡ Json) ⊎ ((d : Data) × IsJson bytes d × (line_of_data d ≡ Err Shape))
    → (d : Data) × IsJson bytes d × ((l : ScriptLine) → ¬ (Spells d l))
shape_from bytes e (inl same) = cc same
shape_from bytes e (inr (d, is, no_line)) = (d, is, shape_read bytes d is e)

pub shape_is : (bytes : List ℕ) → script_line_of bytes ≡ Err Shape → (d : Data) × IsJson bytes d × ((l : ScriptLine) → ¬ (Spells d l))
shape_is bytes e = shape_from bytes e (no_line_is bytes Shape e)

-- what is told of bytes that are an entry's line, or none
abbrev BytesTold : List Parameter → List CacheKey → List ScriptEntry → ℕ → List ℕ → Result ScriptEntry ScriptFault → Type 0
BytesTold params keys before n bytes (Ok e) = LineSays params keys before bytes e
BytesTold params keys before n bytes (Err f) = LineFails params keys before n bytes f

line_told : (params : List Parameter) (keys : List CacheKey) (before : List ScriptEntry) (n : ℕ) (bytes : List ℕ) (l : ScriptLine) (r : Result ScriptEntry ScriptFault) → IsLine bytes l → Told params keys before n l r
    → BytesTold params keys before n bytes r
line_told params keys before n bytes l (Ok e) is h = (l, is, h)
line_told params keys before n bytes l (Err f) is h = says_none l is h

none_by : (params : List Parameter) (keys : List CacheKey) (before : List ScriptEntry) (n : ℕ) (bytes : List ℕ) (f : LineFault) → script_line_of bytes ≡ Err f
    → (f ≡ Json) ⊎ ((d : Data) × IsJson bytes d × (line_of_data d ≡ Err f)) → LineFails params keys before n bytes (BadLine n f)
none_by params keys before n bytes f e (inl same) = subst (λ g. LineFails params keys before n bytes (BadLine n g)) (sym same) (json (json_read bytes (e ∙ ap Err same)))
none_by params keys before n bytes f e (inr (d, is, no_line)) =
    let same = only_shape d f no_line in
    subst (λ g. LineFails params keys before n bytes (BadLine n g)) (sym same) (shape d is (shape_read bytes d is (e ∙ ap Err same)))

bytes_by : (params : List Parameter) (keys : List CacheKey) (before : List ScriptEntry) (n : ℕ) (bytes : List ℕ) (r : Result ScriptLine LineFault) → script_line_of bytes ≡ r
    → BytesTold params keys before n bytes (widened (BadLine n) r >>= entry_of params keys before n)
bytes_by params keys before n bytes (Ok l) e = line_told params keys before n bytes l (entry_of params keys before n l) (line_read bytes l e) (told params keys before n l)
bytes_by params keys before n bytes (Err f) e = none_by params keys before n bytes f e (no_line_is bytes f e)

bytes_told : (params : List Parameter) (keys : List CacheKey) (before : List ScriptEntry) (bytes : List ℕ) → BytesTold params keys before (length before + 1) bytes (entry_at params keys before bytes)
unfolding entry_at
bytes_told params keys before bytes = bytes_by params keys before (length before + 1) bytes (script_line_of bytes) refl

at_line : (params : List Parameter) (keys : List CacheKey) (before : List ScriptEntry) (bytes : List ℕ) (l : ScriptLine) → IsLine bytes l → entry_at params keys before bytes ≡ entry_of params keys before (length before + 1) l
unfolding entry_at
at_line params keys before bytes l is = ap (λ r. widened (BadLine (length before + 1)) r >>= entry_of params keys before (length before + 1)) (read_line bytes l is)

at_none : (params : List Parameter) (keys : List CacheKey) (before : List ScriptEntry) (bytes : List ℕ) (reason : LineFault) → script_line_of bytes ≡ Err reason
    → entry_at params keys before bytes ≡ Err (BadLine (length before + 1) reason)
unfolding entry_at
at_none params keys before bytes reason e = ap (λ r. widened (BadLine (length before + 1)) r >>= entry_of params keys before (length before + 1)) e

says_at : (params : List Parameter) (keys : List CacheKey) (before : List ScriptEntry) (bytes : List ℕ) (e : ScriptEntry) → LineSays params keys before bytes e → entry_at params keys before bytes ≡ Ok e
says_at params keys before bytes e (l, is, says) = at_line params keys before bytes l is ∙ says_entry params keys before (length before + 1) l e says

fails_at : (params : List Parameter) (keys : List CacheKey) (before : List ScriptEntry) (bytes : List ℕ) (f : ScriptFault) → LineFails params keys before (length before + 1) bytes f → entry_at params keys before bytes ≡ Err f
fails_at params keys before bytes f (json none) = at_none params keys before bytes Json (no_line_of_no_json bytes none)
fails_at params keys before bytes f (shape d is none) = at_none params keys before bytes Shape (read_shape bytes d is none)
fails_at params keys before bytes f (says_none l is none) = at_line params keys before bytes l is ∙ none_fault params keys before (length before + 1) l f none

-- ---- all lines

-- what is told of the lines behind these entries
record Said (params : List Parameter) (keys : List CacheKey) (before : List ScriptEntry) (lines : List (List ℕ)) (all : List ScriptEntry) : Type 0 where
  es : List ScriptEntry
  are : all ≡ before ++ es
  says : LinesSay params keys before lines es

record Broken (params : List Parameter) (keys : List CacheKey) (before : List ScriptEntry) (lines : List (List ℕ)) (f : ScriptFault) : Type 0 where
  front : List (List ℕ)
  bytes : List ℕ
  rest : List (List ℕ)
  es : List ScriptEntry
  splits : lines ≡ front ++ bytes ∷ rest
  says : LinesSay params keys before front es
  fails : entry_at params keys (before ++ es) bytes ≡ Err f

abbrev LinesTold : List Parameter → List CacheKey → List ScriptEntry → List (List ℕ) → Result (List ScriptEntry) ScriptFault → Type 0
LinesTold params keys before lines (Ok all) = Said params keys before lines all
LinesTold params keys before lines (Err f) = Broken params keys before lines f

one_told : (params : List Parameter) (keys : List CacheKey) (before : List ScriptEntry) (bytes : List ℕ) (lines : List (List ℕ)) (e : ScriptEntry) (r : Result (List ScriptEntry) ScriptFault)
    → LineSays params keys before bytes e → LinesTold params keys (before ++ e ∷ []) lines r → LinesTold params keys before (bytes ∷ lines) r
one_told params keys before bytes lines e (Ok all) says h = record { es = e ∷ h.es; are = h.are ∙ append_assoc before (e ∷ []) h.es; says = (says, h.says) }
one_told params keys before bytes lines e (Err f) says h = record {
  front = bytes ∷ h.front;
  bytes = h.bytes;
  rest = h.rest;
  es = e ∷ h.es;
  splits = ap (λ more. bytes ∷ more) h.splits;
  says = (says, h.says);
  fails = ap (λ es. entry_at params keys es h.bytes) (sym (append_assoc before (e ∷ []) h.es)) ∙ h.fails;
}

lines_by : (params : List Parameter) (keys : List CacheKey) (before : List ScriptEntry) (bytes : List ℕ) (lines : List (List ℕ)) (r : Result ScriptEntry ScriptFault) → entry_at params keys before bytes ≡ r
    → BytesTold params keys before (length before + 1) bytes r → ((e : ScriptEntry) → LinesTold params keys (before ++ e ∷ []) lines (entries_from params keys (before ++ e ∷ []) lines))
    → LinesTold params keys before (bytes ∷ lines) (r >>= λ e. entries_from params keys (before ++ e ∷ []) lines)
lines_by params keys before bytes lines (Ok e) is says others = one_told params keys before bytes lines e (entries_from params keys (before ++ e ∷ []) lines) says (others e)
lines_by params keys before bytes lines (Err f) is fails others = record {
  front = [];
  bytes = bytes;
  rest = lines;
  es = [];
  splits = refl;
  says = tt;
  fails = ap (λ es. entry_at params keys es bytes) (append-nil before) ∙ is;
}

lines_told : (params : List Parameter) (keys : List CacheKey) (before : List ScriptEntry) (lines : List (List ℕ)) → LinesTold params keys before lines (entries_from params keys before lines)
lines_told params keys before [] = record { es = []; are = sym (append-nil before); says = tt }
lines_told params keys before (bytes ∷ lines) =
    lines_by params keys before bytes lines (entry_at params keys before bytes) refl (bytes_told params keys before bytes) (λ e. lines_told params keys (before ++ e ∷ []) lines)

say_lines : (params : List Parameter) (keys : List CacheKey) (before : List ScriptEntry) (lines : List (List ℕ)) (es : List ScriptEntry) (rest : List (List ℕ)) → LinesSay params keys before lines es
    → entries_from params keys before (lines ++ rest) ≡ entries_from params keys (before ++ es) rest
say_lines params keys before [] [] rest h = ap (λ es. entries_from params keys es rest) (sym (append-nil before))
say_lines params keys before [] (e ∷ es) rest h = absurd h
say_lines params keys before (bytes ∷ lines) [] rest h = absurd h
say_lines params keys before (bytes ∷ lines) (e ∷ es) rest h =
    ap (λ r. r >>= λ x. entries_from params keys (before ++ x ∷ []) (lines ++ rest)) (says_at params keys before bytes e h.0) ∙ say_lines params keys (before ++ e ∷ []) lines es rest h.1
    ∙ ap (λ all. entries_from params keys all rest) (append_assoc before (e ∷ []) es)

pub length-say : (params : List Parameter) (keys : List CacheKey) (before : List ScriptEntry) (lines : List (List ℕ)) (es : List ScriptEntry) → LinesSay params keys before lines es → length es ≡ length lines
length-say params keys before [] [] h = refl
length-say params keys before [] (e ∷ es) h = absurd h
length-say params keys before (bytes ∷ lines) [] h = absurd h
length-say params keys before (bytes ∷ lines) (e ∷ es) h = ap suc (length-say params keys (before ++ e ∷ []) lines es h.1)

-- ---- the script

bad_of : (params : List Parameter) (keys : List CacheKey) (lines : List (List ℕ)) (f : ScriptFault) → Broken params keys [] lines f → HasBadLine params keys lines f
bad_of params keys lines f h = record {
  front = h.front;
  bytes = h.bytes;
  rest = h.rest;
  before = h.es;
  splits = h.splits;
  says = h.says;
  fails = subst (λ n. LineFails params keys h.es (n + 1) h.bytes f) (length-say params keys [] h.front h.es h.says) (subst (BytesTold params keys h.es (length h.es + 1) h.bytes) h.fails (bytes_told params keys h.es h.bytes));
}

bad_is : (params : List Parameter) (keys : List CacheKey) (lines : List (List ℕ)) (f : ScriptFault) → HasBadLine params keys lines f → entries_from params keys [] lines ≡ Err f
bad_is params keys lines f h =
    let fails : LineFails params keys h.before (length h.before + 1) h.bytes f = subst (λ n. LineFails params keys h.before (n + 1) h.bytes f) (sym (length-say params keys [] h.front h.before h.says)) h.fails in
    ap (entries_from params keys []) h.splits ∙ say_lines params keys [] h.front h.before (h.bytes ∷ h.rest) h.says
    ∙ ap (λ r. r >>= λ x. entries_from params keys (h.before ++ x ∷ []) h.rest) (fails_at params keys h.before h.bytes f fails)

abbrev ScriptTold : List Parameter → List CacheKey → List ℕ → Result Script ScriptFault → Type 0
ScriptTold params keys bytes (Ok s) = ReadsScript params keys bytes s
ScriptTold params keys bytes (Err f) = IsNoScript params keys bytes f

script_by : (params : List Parameter) (keys : List CacheKey) (bytes : List ℕ) (r : Result (List ScriptEntry) ScriptFault) → length (script_lines bytes) ≤ most_lines → LinesTold params keys [] (script_lines bytes) r
    → ScriptTold params keys bytes (r >>= λ es. Ok (script_with es))
script_by params keys bytes (Ok es) few h = record { few_lines = few; entries = subst (LinesSay params keys [] (script_lines bytes)) (sym h.are) h.says }
script_by params keys bytes (Err f) few h = bad_line few (bad_of params keys (script_lines bytes) f h)

limit_by : (params : List Parameter) (keys : List CacheKey) (bytes : List ℕ) (b : Bool) → nat_lt most_lines (length (script_lines bytes)) ≡ b
    → ScriptTold params keys bytes (cond b (Err (TooMany what.Lines most_lines)) (script_from params keys (script_lines bytes)))
limit_by params keys bytes true more = many_lines (ltb-true _ _ more)
limit_by params keys bytes false few = script_by params keys bytes (entries_from params keys [] (script_lines bytes)) (ltb-false _ _ few) (lines_told params keys [] (script_lines bytes))

script_told : (params : List Parameter) (keys : List CacheKey) (bytes : List ℕ) → ScriptTold params keys bytes (script_of params keys bytes)
unfolding script_of
script_told params keys bytes = limit_by params keys bytes (nat_lt most_lines (length (script_lines bytes))) refl

few_lines : (params : List Parameter) (keys : List CacheKey) (bytes : List ℕ) → length (script_lines bytes) ≤ most_lines → script_of params keys bytes ≡ script_from params keys (script_lines bytes)
unfolding script_of
few_lines params keys bytes few = ap (λ b. cond b (Err (TooMany what.Lines most_lines)) (script_from params keys (script_lines bytes))) (le-ltb _ _ few)

pub script_reads : (params : List Parameter) (keys : List CacheKey) (bytes : List ℕ) (s : Script) → script_of params keys bytes ≡ Ok s → ReadsScript params keys bytes s
script_reads params keys bytes s e = subst (ScriptTold params keys bytes) e (script_told params keys bytes)

pub reads_script : (params : List Parameter) (keys : List CacheKey) (bytes : List ℕ) (s : Script) → ReadsScript params keys bytes s → script_of params keys bytes ≡ Ok s
reads_script params keys bytes s h =
    few_lines params keys bytes h.few_lines
    ∙ ap (λ r. r >>= λ es. Ok (script_with es)) (ap (entries_from params keys []) (sym (append-nil (script_lines bytes))) ∙ say_lines params keys [] (script_lines bytes) s.entries [] h.entries)

pub script_refuses : (params : List Parameter) (keys : List CacheKey) (bytes : List ℕ) (f : ScriptFault) → script_of params keys bytes ≡ Err f → IsNoScript params keys bytes f
script_refuses params keys bytes f e = subst (ScriptTold params keys bytes) e (script_told params keys bytes)

pub refuses_script : (params : List Parameter) (keys : List CacheKey) (bytes : List ℕ) (f : ScriptFault) → IsNoScript params keys bytes f → script_of params keys bytes ≡ Err f
unfolding script_of
refuses_script params keys bytes f (many_lines more) = ap (λ b. cond b (Err (TooMany what.Lines most_lines)) (script_from params keys (script_lines bytes))) (lt-ltb _ _ more)
refuses_script params keys bytes f (bad_line few bad) = few_lines params keys bytes few ∙ ap (λ r. r >>= λ es. Ok (script_with es)) (bad_is params keys (script_lines bytes) f bad)

pub script_of_entries : (params : List Parameter) (keys : List CacheKey) (bytes : List ℕ) (es : List ScriptEntry) → length (script_lines bytes) ≤ most_lines → entries_from params keys [] (script_lines bytes) ≡ Ok es
    → script_of params keys bytes ≡ Ok (script_with es)
script_of_entries params keys bytes es few e = few_lines params keys bytes few ∙ ap (λ r. r >>= λ all. Ok (script_with all)) e
