-- A script whose texts are UTF-8 and whose numbers have 64 bits has a text.
use Rattle.std.proofs.Common.{ℕ, zero, suc, ◌^◌, pos, negsuc, List, [], ◌∷◌, All, Option, refl, arith, codes}
use Rattle.std.specs.Prelude.{slice_get}
use Rattle.std.specs.List.{AllByRecursion, fold, zip}
use Rattle.std.specs.Str.{IsUtf8}
use Rattle.std.proofs.lemmas.Bool.{ltb-true}
use Rattle.std.proofs.lemmas.List.Elements.{All-from_recursion, recursion_from_All}
use Rattle.std.proofs.lemmas.Str.{IsUtf8-nil}
use Rattle.json.proofs.Printed.Utf8.{IsUtf8-are_ascii}
use Rattle.serde_json.specs.Data.{Members, no_members, put}
use Rattle.ba_model.specs.declared.policy.CacheKey.{CacheKey}
use Rattle.ba_model.specs.declared.policy.Context.{Context}
use Rattle.ba_model.specs.declared.policy.Parameter.{Parameter}
use Rattle.ba_model.specs.declared.value.Value.{Value}
use Rattle.ba_model.specs.declared.value.Value.TheVariants.{Null, Int, Text}
use Rattle.ba_script.specs.declared.entry.ScriptEntry.{ScriptEntry}
use Rattle.ba_script.specs.declared.entry.ScriptEntry.TheVariants as entry
use Rattle.ba_script_print.proofs.FlatLemmas.{entry_shallow}
use Rattle.ba_script_print.proofs.JsonLemmas.{Held, MembersHeld, Rise, held_put, is_json, rise_put}
use Rattle.ba_script_print.proofs.ReadBackLemmas.{reads_back}
use Rattle.ba_script_print.specs.ReadBack.{ContextHasBits, EntryHasBits, EntryIsHeld, HasText, KeyIsHeld, ParameterIsHeld, TextReadsBack, ValueHasBits, ValueIsHeld}
use Rattle.ba_script_print.specs.Texts.{arguments_of, ask_json, begin_json, context_members, entry_json, name_of, read_json, value_json, with_value}

-- ---- values

value_held : (v : Value) → ValueIsHeld v → Held (value_json v)
value_held Null h = tt
value_held (Int (pos n)) h = let few = ltb-true n (2 ^ 63) h in omega (arith, few)
value_held (Int (negsuc n)) h = ltb-true n (2 ^ 63) h
value_held (Text s) h = h

value_bits : (v : Value) → ValueIsHeld v → ValueHasBits v
value_bits Null h = tt
value_bits (Int n) h = h
value_bits (Text s) h = tt

-- ---- contexts

record Fits (ms : Members) : Type 0 where
  rise : Rise ms
  held : MembersHeld ms

fits_all : (params : List Parameter) (vs : List Value) (ms : Members) → AllByRecursion ParameterIsHeld params → AllByRecursion ValueIsHeld vs → Fits ms → Fits (fold with_value ms (zip params vs))
fits_all [] vs ms p v h = h
fits_all (q ∷ params) [] ms p v h = h
fits_all (q ∷ params) (x ∷ vs) ms p v h =
    fits_all params vs (put q.name (value_json x) ms) p.1 v.1
    (record { rise = rise_put q.name (value_json x) ms h.rise; held = held_put q.name (value_json x) ms p.0 (value_held x v.0) h.held })

context_fits : (params : List Parameter) (context : Context) → All ParameterIsHeld params → All ValueIsHeld context.values → Fits (context_members params context)
context_fits params context p v =
    fits_all params context.values no_members (recursion_from_All ParameterIsHeld params p) (recursion_from_All ValueIsHeld context.values v) (record { rise = tt; held = tt })

bits_all : (params : List Parameter) (vs : List Value) → AllByRecursion ValueIsHeld vs → AllByRecursion (λ given. ValueHasBits given.1) (zip params vs)
bits_all [] vs v = tt
bits_all (q ∷ params) [] v = tt
bits_all (q ∷ params) (x ∷ vs) v = (value_bits x v.0, bits_all params vs v.1)

context_bits : (params : List Parameter) (context : Context) → All ValueIsHeld context.values → ContextHasBits params context
context_bits params context v = All-from_recursion (λ given. ValueHasBits given.1) (zip params context.values) (bits_all params context.values (recursion_from_All ValueIsHeld context.values v))

-- ---- entries

begin_held : (params : List Parameter) (name : List ℕ) (context : Context) → All ParameterIsHeld params → IsUtf8 name → All ValueIsHeld context.values → Held (begin_json params name context)
unfolding begin_json
begin_held params name context p n v =
    let h = context_fits params context p v in
    (((refl, tt), (tt, tt)), (IsUtf8-are_ascii (codes "begin") refl, (n, (IsUtf8-are_ascii (codes "context") refl, ((h.rise, h.held), tt)))))

ask_held : (name query : List ℕ) → IsUtf8 name → IsUtf8 query → Held (ask_json name query)
unfolding ask_json
ask_held name query n q = (((refl, tt), (tt, tt)), (IsUtf8-are_ascii (codes "ask") refl, (n, (IsUtf8-are_ascii (codes "query") refl, (q, tt)))))

read_held : (name : List ℕ) (key : Option CacheKey) (arguments : Context) → IsUtf8 name → IsUtf8 (name_of key) → All ParameterIsHeld (arguments_of key) → All ValueIsHeld arguments.values
    → Held (read_json name key arguments)
unfolding read_json
read_held name key arguments n k p v =
    let h = context_fits (arguments_of key) arguments p v in (
      ((refl, (refl, tt)), ((refl, tt), (tt, tt))),
      (IsUtf8-are_ascii (codes "args") refl, ((h.rise, h.held), (IsUtf8-are_ascii (codes "key") refl, (k, (IsUtf8-are_ascii (codes "read") refl, (n, tt)))))),
    )

-- the parts of a key, if it is there
key_held : (keys : List CacheKey) (number : ℕ) → AllByRecursion KeyIsHeld keys → IsUtf8 (name_of (slice_get keys number)) × All ParameterIsHeld (arguments_of (slice_get keys number))
key_held [] number h = (IsUtf8-nil, All-from_recursion ParameterIsHeld [] tt)
key_held (key ∷ keys) zero h = h.0
key_held (key ∷ keys) (suc number) h = key_held keys number h.1

module _ (params : List Parameter) (keys : List CacheKey) (p : All ParameterIsHeld params) (k : AllByRecursion KeyIsHeld keys) where
  entry_held : (e : ScriptEntry) → EntryIsHeld e → Held (entry_json params keys e)
  entry_held (entry.Begin request name context) h = begin_held params name context p h.0 h.1
  entry_held (entry.Ask request name query) h = ask_held name query h.0 h.1
  entry_held (entry.Read request name number arguments questions) h = let key = key_held keys number k in read_held name (slice_get keys number) arguments h.0 key.0 key.1 h.1
  entry_held (entry.End request name) h = ((tt, tt), (IsUtf8-are_ascii (codes "end") refl, (h, tt)))
  entry_held (entry.Publish count set) h = ((tt, tt), (IsUtf8-are_ascii (codes "publish") refl, (h, tt)))

  entry_bits : (e : ScriptEntry) → EntryIsHeld e → EntryHasBits params keys e
  entry_bits (entry.Begin request name context) h = context_bits params context h.1
  entry_bits (entry.Ask request name query) h = tt
  entry_bits (entry.Read request name number arguments questions) h = context_bits (arguments_of (slice_get keys number)) arguments h.1
  entry_bits (entry.End request name) h = tt
  entry_bits (entry.Publish count set) h = tt

  entry_has : (e : ScriptEntry) → EntryIsHeld e → HasText params keys e
  entry_has e h = record { json = is_json (entry_json params keys e) (entry_held e h) (entry_shallow params keys e); bits = entry_bits e h }

  entries_have : (es : List ScriptEntry) → AllByRecursion EntryIsHeld es → AllByRecursion (HasText params keys) es
  entries_have [] h = tt
  entries_have (e ∷ es) h = (entry_has e h.0, entries_have es h.1)

pub text_reads_back : TextReadsBack
text_reads_back params keys script held spelled =
    reads_back params keys script
    (All-from_recursion (HasText params keys) script.entries
    (entries_have params keys held.each_parameter (recursion_from_All KeyIsHeld keys held.each_key) script.entries (recursion_from_All EntryIsHeld script.entries held.each_entry))) spelled
