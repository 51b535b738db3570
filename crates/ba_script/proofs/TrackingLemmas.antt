-- What is kept of the open names follows each entry.
use Rattle.std.proofs.Common.{◌≡◌, ◌∙◌, ℕ, ◌+◌, ◌<◌, ◌≤◌, List, [], ◌∷◌, ◌++◌, length, Bool, true, false, cond, Option, Some, None, option_map, Result, Ok, Err, refl, sym, ap, ap₂, arith, length-append}
use Rattle.std.specs.BTreeMap.{is_at}
use Rattle.std.specs.Cmp.Lexicographic.{slice_cmp, texts_ties}
use Rattle.std.specs.List.{fold}
use Rattle.std.specs.Ordering.{nat_cmp}
use Rattle.std.specs.Str.{bytes_eq}
use Rattle.std.proofs.lemmas.List.Sums.{count_by-le-length}
use Rattle.std.proofs.lemmas.Slice.Eq.{bytes_eq-Decides}
use Rattle.ba_model.specs.Limits.{most_lines}
use Rattle.ba_model.specs.declared.policy.CacheKey.{CacheKey}
use Rattle.ba_model.specs.declared.policy.Parameter.{Parameter}
use Rattle.ba_model.specs.Readings.{◌>>=◌, Gives, widened}
use Rattle.ba_model.specs.declared.failure.Failure.{Failure}
use Rattle.ba_model.specs.declared.failure.Failure.TheVariants as errors
use Rattle.ba_script.specs.Reading.{ask_of, asked, asked_more, begin_of, begun, begun_by, end_of, entries_from, entry_at, entry_of, is_begin, is_publish, open_by, open_from, published, published_by, read_of}
use Rattle.ba_script.specs.Script.{script_line_of}
use Rattle.ba_script.specs.Tracking.{Moves, Tracks, kept_entry_at, kept_entry_of}
use Rattle.ba_script.specs.declared.entry.ScriptEntry.{ScriptEntry}
use Rattle.ba_script.specs.declared.entry.ScriptEntry.TheVariants as entry
use Rattle.ba_script.specs.declared.fault.ScriptFault.{ScriptFault}
use Rattle.ba_script.specs.declared.fault.ScriptFault.TheVariants.{BadLine}
use Rattle.ba_script.specs.declared.requests.Opened.{Opened}
use Rattle.ba_script.specs.declared.requests.Requests.{Requests}
use Rattle.ba_script.specs.declared.line.ScriptLine.{ScriptLine}
use Rattle.ba_script.specs.declared.line.ScriptLine.TheVariants as line

pub same_name : (a b : List ℕ) → is_at (slice_cmp nat_cmp a) b ≡ bytes_eq a b
same_name a b = sym (texts_ties a b)

-- a look-up that is a choice by the order is one by the bytes
pub chosen : {X : Type 0} (a b : List ℕ) (x y z : Option X) → z ≡ cond (is_at (slice_cmp nat_cmp a) b) x y → z ≡ cond (bytes_eq a b) x y
chosen a b x y z e = e ∙ ap (λ t. cond t x y) (same_name a b)

asked_at : (f : List ℕ → Option Opened) (a q : List ℕ) (o : Opened) (ask : Opened → Opened) (b : Bool) → bytes_eq a q ≡ b → f a ≡ Some o
    → cond b (Some (ask o)) (f q) ≡ cond b (option_map ask (f q)) (f q)
asked_at f a q o ask true same is = ap (option_map ask) (sym is ∙ ap f ((bytes_eq-Decides a q).0 same))
asked_at f a q o ask false same is = refl

-- a name whose request asked once more
pub asked_once : (f : List ℕ → Option Opened) (a q : List ℕ) (o : Opened) (z : Option Opened) → f a ≡ Some o → z ≡ cond (is_at (slice_cmp nat_cmp a) q) (Some (asked o)) (f q)
    → z ≡ cond (bytes_eq a q) (option_map asked (f q)) (f q)
asked_once f a q o z is e = chosen a q (Some (asked o)) (f q) z e ∙ asked_at f a q o asked (bytes_eq a q) refl is

-- a name whose request read, with so many questions
pub asked_several : (f : List ℕ → Option Opened) (a q : List ℕ) (o : Opened) (n : ℕ) (z : Option Opened) → f a ≡ Some o → z ≡ cond (is_at (slice_cmp nat_cmp a) q) (Some (asked_more n o)) (f q)
    → z ≡ cond (bytes_eq a q) (option_map (asked_more n) (f q)) (f q)
asked_several f a q o n z is e = chosen a q (Some (asked_more n o)) (f q) z e ∙ asked_at f a q o (asked_more n) (bytes_eq a q) refl is

-- a name that a copy of it was put under
pub begun_under : (copy a q : List ℕ) (x y z : Option Opened) → copy ≡ a → z ≡ cond (is_at (slice_cmp nat_cmp copy) q) x y → z ≡ cond (bytes_eq a q) x y
begun_under copy a q x y z same e = chosen copy q x y z e ∙ ap (λ k. cond (bytes_eq k q) x y) same

-- ---- what is kept against the entries before

open_from-push : (name : List ℕ) (held : Option Opened) (es : List ScriptEntry) (e : ScriptEntry) → open_from name held (es ++ e ∷ []) ≡ open_by name (open_from name held es) e
open_from-push name held [] e = refl
open_from-push name held (x ∷ es) e = open_from-push name (open_by name held x) es e

fold-push : (f : ℕ → ScriptEntry → ℕ) (n : ℕ) (es : List ScriptEntry) (e : ScriptEntry) → fold f n (es ++ e ∷ []) ≡ f (fold f n es) e
fold-push f n [] e = refl
fold-push f n (x ∷ es) e = fold-push f (f n x) es e

begun-one : (n : ℕ) (e : ScriptEntry) → n + cond (is_begin e) 1 0 ≡ begun_by n e
unfolding is_begin
begun-one n (entry.Begin request name context) = refl
begun-one n (entry.Ask request name query) = omega arith
begun-one n (entry.Read request name key arguments questions) = omega arith
begun-one n (entry.End request name) = omega arith
begun-one n (entry.Publish number set) = omega arith

pub begun-push : (es : List ScriptEntry) (e : ScriptEntry) → begun (es ++ e ∷ []) ≡ begun_by (begun es) e
begun-push es e = fold-push (λ n x. n + cond (is_begin x) 1 0) 0 es e ∙ begun-one (begun es) e

published-one : (n : ℕ) (e : ScriptEntry) → n + cond (is_publish e) 1 0 ≡ published_by n e
unfolding is_publish
published-one n (entry.Begin request name context) = omega arith
published-one n (entry.Ask request name query) = omega arith
published-one n (entry.Read request name key arguments questions) = omega arith
published-one n (entry.End request name) = omega arith
published-one n (entry.Publish number set) = refl

pub published-push : (es : List ScriptEntry) (e : ScriptEntry) → published (es ++ e ∷ []) ≡ published_by (published es) e
published-push es e = fold-push (λ n x. n + cond (is_publish x) 1 0) 0 es e ∙ published-one (published es) e

pub tracks_on : (before : List ScriptEntry) (e : ScriptEntry) (old new : Requests) → Tracks before old → Moves e old new → Tracks (before ++ e ∷ []) new
tracks_on before e old new tracks moves = record {
  names = λ name. moves.names name ∙ ap (λ held. open_by name held e) (tracks.names name) ∙ sym (open_from-push name None before e);
  count = moves.count ∙ ap (λ n. begun_by n e) tracks.count ∙ sym (begun-push before e);
  sets = moves.sets ∙ ap (λ n. published_by n e) tracks.sets ∙ sym (published-push before e);
}

pub entry_kept : (params : List Parameter) (keys : List CacheKey) (before : List ScriptEntry) (it : Requests) (n : ℕ) (l : ScriptLine) → Tracks before it → kept_entry_of params keys it n l ≡ entry_of params keys before n l
entry_kept params keys before it n (line.Begin name members) tracks = ap₂ (λ held number. begin_of params n name members held number) (tracks.names name) tracks.count
entry_kept params keys before it n (line.Ask name query) tracks = ap (ask_of n name query) (tracks.names name)
entry_kept params keys before it n (line.Read name key members) tracks = ap (read_of keys n name key members) (tracks.names name)
entry_kept params keys before it n (line.End name) tracks = ap (end_of n name) (tracks.names name)
entry_kept params keys before it n (line.Publish set) tracks = ap (λ number. Ok (entry.Publish number set)) tracks.sets

bind_kept : (params : List Parameter) (keys : List CacheKey) (before : List ScriptEntry) (it : Requests) (n : ℕ) (r : Result ScriptLine ScriptFault) → Tracks before it
    → (r >>= kept_entry_of params keys it n) ≡ (r >>= entry_of params keys before n)
bind_kept params keys before it n (Ok l) tracks = entry_kept params keys before it n l tracks
bind_kept params keys before it n (Err e) tracks = refl

pub kept_at : (params : List Parameter) (keys : List CacheKey) (before : List ScriptEntry) (it : Requests) (bytes : List ℕ) → Tracks before it
    → kept_entry_at params keys it (length before + 1) bytes ≡ entry_at params keys before bytes
unfolding entry_at
kept_at params keys before it bytes tracks = bind_kept params keys before it (length before + 1) (widened (BadLine (length before + 1)) (script_line_of bytes)) tracks

-- what the next line gives, and the lines behind it
next_line : (params : List Parameter) (keys : List CacheKey) (before : List ScriptEntry) (it : Requests) (n : ℕ) (bytes : List ℕ) (lines items : List (List ℕ)) (r : Result ScriptEntry ScriptFault)
    → Tracks before it → n ≡ length before → items ≡ bytes ∷ lines → kept_entry_at params keys it (n + 1) bytes ≡ r
    → entries_from params keys before items ≡ (r >>= λ x. entries_from params keys (before ++ x ∷ []) lines)
next_line params keys before it n bytes lines items r tracks number first gives =
    ap (entries_from params keys before) first
    ∙ ap (λ x. x >>= λ y. entries_from params keys (before ++ y ∷ []) lines) (sym (kept_at params keys before it bytes tracks) ∙ ap (λ m. kept_entry_at params keys it (m + 1) bytes) (sym number) ∙ gives)

-- one more line is an entry
pub read_more : (params : List Parameter) (keys : List CacheKey) (before after : List ScriptEntry) (it : Requests) (n : ℕ) (bytes : List ℕ) (lines items : List (List ℕ)) (e : ScriptEntry) (whole : Result (List ScriptEntry) ScriptFault)
    → Tracks before it → n ≡ length before → items ≡ bytes ∷ lines → kept_entry_at params keys it (n + 1) bytes ≡ Ok e → after ≡ before ++ e ∷ []
    → entries_from params keys before items ≡ whole → entries_from params keys after lines ≡ whole
read_more params keys before after it n bytes lines items e whole tracks number first gives pushed is =
    ap (λ es. entries_from params keys es lines) pushed ∙ sym (next_line params keys before it n bytes lines items (Ok e) tracks number first gives) ∙ is

-- one more line is none
pub read_none : (params : List Parameter) (keys : List CacheKey) (before : List ScriptEntry) (it : Requests) (n : ℕ) (bytes : List ℕ) (lines items : List (List ℕ)) (e : Failure ScriptFault) (whole : Result (List ScriptEntry) ScriptFault)
    → Tracks before it → n ≡ length before → items ≡ bytes ∷ lines → Gives {Y = ScriptEntry} (Err e) (kept_entry_at params keys it (n + 1) bytes)
    → entries_from params keys before items ≡ whole → Gives {Y = List ScriptEntry} (Err e) whole
read_none params keys before it n bytes lines items errors.NoMemory whole tracks number first gives is = tt
read_none params keys before it n bytes lines items (errors.Fault f) whole tracks number first gives is =
    sym is ∙ next_line params keys before it n bytes lines items (Err f) tracks number first gives

-- ---- how many lines there are

-- the number of one more table set is below the number of lines
pub room_for : (before : List ScriptEntry) (it : Requests) (bytes : List ℕ) (lines items : List (List ℕ)) → Tracks before it → items ≡ bytes ∷ lines → length before + length items ≤ most_lines
    → it.published < most_lines
room_for before it bytes lines items tracks first few = omega (arith, tracks.sets, count_by-le-length is_publish before, ap length first, few)

pub few_more : (before after : List ScriptEntry) (e : ScriptEntry) (bytes : List ℕ) (lines items : List (List ℕ)) → items ≡ bytes ∷ lines → after ≡ before ++ e ∷ []
    → length before + length items ≤ most_lines → length after + length lines ≤ most_lines
few_more before after e bytes lines items first pushed few = omega (arith, ap length first, ap length pushed, length-append before (e ∷ []), few)
