-- No entry's JSON has a float, and none nests deeper than the reader goes.
use Rattle.std.proofs.Common.{◌≡◌, ℕ, ◌≤◌, ◌||◌, Bool, true, false, Ordering, Less, Equal, Greater, List, [], ◌∷◌, Option, pos, negsuc, refl, ap₂, arith}
use Rattle.std.specs.Prelude.{max, slice_get}
use Rattle.std.specs.Cmp.Lexicographic.{slice_cmp}
use Rattle.std.specs.List.{fold, zip}
use Rattle.std.specs.Ordering.{nat_cmp, match_ordering}
use Rattle.serde_json.specs.Data.{Data, Members, depth, member, members_depth, no_members, put}
use Rattle.serde_json.specs.Read.{max_depth}
use Rattle.serde_json.specs.Written.{has_float, members_have_float}
use Rattle.ba_model.specs.declared.policy.CacheKey.{CacheKey}
use Rattle.ba_model.specs.declared.policy.Context.{Context}
use Rattle.ba_model.specs.declared.policy.Parameter.{Parameter}
use Rattle.ba_model.specs.declared.value.Value.{Value}
use Rattle.ba_model.specs.declared.value.Value.TheVariants.{Null, Int, Text}
use Rattle.ba_script.specs.declared.entry.ScriptEntry.{ScriptEntry}
use Rattle.ba_script.specs.declared.entry.ScriptEntry.TheVariants as entry
use Rattle.ba_script_print.specs.Texts.{arguments_of, ask_json, begin_json, context_members, entry_json, read_json, value_json, with_value}

-- what holds of each value that is put
record Flat (ms : Members) : Type 0 where
  whole : members_have_float ms ≡ false
  flat : members_depth ms ≡ 0

value_whole : (v : Value) → has_float (value_json v) ≡ false
value_whole Null = refl
value_whole (Int (pos n)) = refl
value_whole (Int (negsuc n)) = refl
value_whole (Text s) = refl

value_flat : (v : Value) → depth (value_json v) ≡ 0
value_flat Null = refl
value_flat (Int n) = refl
value_flat (Text s) = refl

either : (a b : Bool) → a ≡ false → b ≡ false → (a || b) ≡ false
either a b e f = rw (e, f) refl

first_part : (a b : Bool) → (a || b) ≡ false → a ≡ false
first_part true b e = cc e
first_part false b e = refl

second_part : (a b : Bool) → (a || b) ≡ false → b ≡ false
second_part true b e = cc e
second_part false b e = e

put_flat : (k : List ℕ) (d : Data) (ms : Members) → has_float d ≡ false → depth d ≡ 0 → Flat ms → Flat (put k d ms)
put_flat k d no_members whole flat h = record { whole = either (has_float d) false whole refl; flat = ap₂ max flat refl }
put_flat k d (member l e ms) whole flat h =
    by (slice_cmp nat_cmp k l) (put_flat k d ms whole flat (record { whole = second_part (has_float e) (members_have_float ms) h.whole; flat = rest }))
  where
    own : depth e ≡ 0
    own = let both : max (depth e) (members_depth ms) ≡ 0 = h.flat in omega (arith, both)

    rest : members_depth ms ≡ 0
    rest = let both : max (depth e) (members_depth ms) ≡ 0 = h.flat in omega (arith, both)

    by : (o : Ordering) → Flat (put k d ms) → Flat (match_ordering o (member k d (member l e ms)) (member l d ms) (member l e (put k d ms)))
    by Less more = record { whole = either (has_float d) (has_float e || members_have_float ms) whole h.whole; flat = ap₂ max flat h.flat }
    by Equal more = record { whole = either (has_float d) (members_have_float ms) whole (second_part (has_float e) (members_have_float ms) h.whole); flat = ap₂ max flat rest }
    by Greater more = record { whole = either (has_float e) (members_have_float (put k d ms)) (first_part (has_float e) (members_have_float ms) h.whole) more.whole; flat = ap₂ max own more.flat }

values_flat : (params : List Parameter) (vs : List Value) (ms : Members) → Flat ms → Flat (fold with_value ms (zip params vs))
values_flat [] vs ms h = h
values_flat (p ∷ params) [] ms h = h
values_flat (p ∷ params) (v ∷ vs) ms h = values_flat params vs (put p.name (value_json v) ms) (put_flat p.name (value_json v) ms (value_whole v) (value_flat v) h)

context_flat : (params : List Parameter) (context : Context) → Flat (context_members params context)
context_flat params context = values_flat params context.values no_members (record { whole = refl; flat = refl })

-- ---- entries

begin_whole : (params : List Parameter) (name : List ℕ) (context : Context) → has_float (begin_json params name context) ≡ false
unfolding begin_json
begin_whole params name context = let h = context_flat params context in rw h.whole refl

read_whole : (name : List ℕ) (key : Option CacheKey) (arguments : Context) → has_float (read_json name key arguments) ≡ false
unfolding read_json
read_whole name key arguments = let h = context_flat (arguments_of key) arguments in rw h.whole refl

pub entry_whole : (params : List Parameter) (keys : List CacheKey) (e : ScriptEntry) → has_float (entry_json params keys e) ≡ false
unfolding ask_json
entry_whole params keys (entry.Begin request name context) = begin_whole params name context
entry_whole params keys (entry.Ask request name query) = refl
entry_whole params keys (entry.Read request name key arguments questions) = read_whole name (slice_get keys key) arguments
entry_whole params keys (entry.End request name) = refl
entry_whole params keys (entry.Publish count set) = refl

begin_shallow : (params : List Parameter) (name : List ℕ) (context : Context) → depth (begin_json params name context) ≤ max_depth
unfolding begin_json
begin_shallow params name context = let h = context_flat params context in let flat = h.flat in omega (arith, flat)

read_shallow : (name : List ℕ) (key : Option CacheKey) (arguments : Context) → depth (read_json name key arguments) ≤ max_depth
unfolding read_json
read_shallow name key arguments = let h = context_flat (arguments_of key) arguments in let flat = h.flat in omega (arith, flat)

pub entry_shallow : (params : List Parameter) (keys : List CacheKey) (e : ScriptEntry) → depth (entry_json params keys e) ≤ max_depth
unfolding ask_json
entry_shallow params keys (entry.Begin request name context) = begin_shallow params name context
entry_shallow params keys (entry.Ask request name query) = omega arith
entry_shallow params keys (entry.Read request name key arguments questions) = read_shallow name (slice_get keys key) arguments
entry_shallow params keys (entry.End request name) = omega arith
entry_shallow params keys (entry.Publish count set) = omega arith
