-- A text reads back as the script that it was written for.
use Rattle.std.proofs.Common.{◌≡◌, ◌∙◌, ℕ, suc, ◌+◌, ◌≤◌, List, [], ◌∷◌, ◌++◌, length, map, All, Some, Ok, refl, sym, ap, ap₂, subst}
use Rattle.std.specs.Prelude.{slice_get}
use Rattle.std.specs.List.{AllByRecursion}
use Rattle.std.proofs.lemmas.List.Elements.{recursion_from_All}
use Rattle.serde_json.specs.Data.{Data}
use Rattle.serde_json.specs.Written.{compact_text}
use Rattle.ba_model.specs.Limits.{most_asks, most_lines}
use Rattle.ba_model.specs.declared.policy.CacheKey.{CacheKey}
use Rattle.ba_model.specs.declared.policy.Context.{Context}
use Rattle.ba_model.specs.declared.policy.Parameter.{Parameter}
use Rattle.ba_script.proofs.SaysLemmas.{length-say, reads_script, script_reads}
use Rattle.ba_script.specs.Lines.{script_lines}
use Rattle.ba_script.specs.Contexts.{IsContext}
use Rattle.ba_script.specs.Reading.{published, script_of}
use Rattle.ba_script.specs.Script.{IsJson, IsName, Spells, given_members}
use Rattle.ba_script.specs.Scripts.{HasKey, IsOpen, LineSays, LinesSay, Says, begins, asks, reads, ends, publishes}
use Rattle.ba_script.specs.declared.entry.Script.{Script}
use Rattle.ba_script.specs.declared.entry.ScriptEntry.{ScriptEntry}
use Rattle.ba_script.specs.declared.entry.ScriptEntry.TheVariants as entry
use Rattle.ba_script.specs.declared.line.Member.{Member}
use Rattle.ba_script.specs.declared.line.ScriptLine.{ScriptLine}
use Rattle.ba_script.specs.declared.line.ScriptLine.TheVariants as line
use Rattle.ba_script_print.proofs.ContextLemmas.{context_printed}
use Rattle.ba_script_print.proofs.TextLemmas.{line_first, text_inner}
use Rattle.ba_script_print.specs.ReadBack.{AreSaid, CanBeSpelled, ContextHasBits, HasNames, HasText, OnlySpelledAreRead}
use Rattle.ba_script_print.specs.Texts.{arguments_of, ask_json, begin_json, context_members, entries_text, entry_json, entry_text, read_json, script_text}

module _ (params : List Parameter) (keys : List CacheKey) where
  -- ---- one entry

  -- the key of a read is the one of its number
  key_there : (name : List ℕ) (number : ℕ) (key : CacheKey) → HasKey keys name number key → slice_get keys number ≡ Some key
  key_there name number key has = ap₂ (λ (ks : List CacheKey) (n : ℕ). slice_get ks n) has.are has.number_is ∙ at_front has.front has.back key
    where
      at_front : (front back : List CacheKey) (key : CacheKey) → slice_get (front ++ key ∷ back) (length front) ≡ Some key
      at_front [] back key = refl
      at_front (k ∷ front) back key = at_front front back key

  says_read : (before : List ScriptEntry) (name key_name : List ℕ) (members : List Member) (request asked number : ℕ) (key : CacheKey) (arguments : Context) → IsName name
      → IsOpen before name request asked → HasKey keys key_name number key → IsContext key.arguments members arguments → asked + length key.queries ≤ most_asks
      → IsJson (compact_text (read_json name (Some key) arguments)) (read_json name (Some key) arguments) → ContextHasBits key.arguments arguments
      → LineSays params keys before (compact_text (read_json name (Some key) arguments)) (entry.Read request name number arguments (length key.queries))
  unfolding read_json
  says_read before name key_name members request asked number key arguments fits is has context few json bits = (
    line.Read name key.name (given_members (context_members key.arguments arguments)),
    (read_json name (Some key) arguments, json, (fits, (context_members key.arguments arguments, refl, refl))),
    reads is (subst (λ n. HasKey keys n number key) (sym has.named) has) (context_printed key.arguments members arguments context bits) few,
  )

  entry_says : (before : List ScriptEntry) (l : ScriptLine) (e : ScriptEntry) → HasNames l → Says params keys before l e → HasText params keys e → LineSays params keys before (entry_text params keys e) e
  unfolding begin_json ask_json
  entry_says before (line.Begin name members) e names (begins {context} free is few) h = (
    line.Begin name (given_members (context_members params context)),
    (begin_json params name context, h.json, (names, (context_members params context, refl, refl))),
    begins free (context_printed params members context is h.bits) few,
  )
  entry_says before (line.Ask name query) e names (asks is few) h = (line.Ask name query, (ask_json name query, h.json, (names, refl)), asks is few)
  entry_says before (line.Read name key_name members) e names (reads {request} {asked} {number} {key} {arguments} is has context few) h =
      let there = key_there key_name number key has in
      subst (λ o. LineSays params keys before (compact_text (read_json name o arguments)) (entry.Read request name number arguments (length key.queries))) (sym there)
      (says_read before name key_name members request asked number key arguments names is has context few
      (subst (λ o. IsJson (compact_text (read_json name o arguments)) (read_json name o arguments)) there h.json)
      (subst (λ o. ContextHasBits (arguments_of o) arguments) there h.bits))
  entry_says before (line.End name) e names (ends {request} is) h = (line.End name, (entry_json params keys (entry.End request name), h.json, (names, refl)), ends is)
  entry_says before (line.Publish set) e names publishes h = (line.Publish set, (entry_json params keys (entry.Publish (published before) set), h.json, (names, refl)), publishes)

  -- ---- all of them

  lines_are : (es : List ScriptEntry) → script_lines (entries_text params keys es) ≡ map (entry_text params keys) es
  lines_are [] = refl
  lines_are (e ∷ es) =
      line_first (entry_text params keys e) (entries_text params keys es) (text_inner (entry_json params keys e)) ∙ ap (λ ls. entry_text params keys e ∷ ls) (lines_are es)

  all_say : (before es : List ScriptEntry) → AreSaid params keys before es → AllByRecursion (HasText params keys) es → LinesSay params keys before (map (entry_text params keys) es) es
  all_say before [] said have = tt
  all_say before (e ∷ es) said have = (entry_says before said.0.line e said.0.names said.0.says have.0, all_say (before ++ e ∷ []) es said.1 have.1)

  length_map : {X Y : Type 0} (f : X → Y) (xs : List X) → length (map f xs) ≡ length xs
  length_map f [] = refl
  length_map f (x ∷ xs) = ap suc (length_map f xs)

  pub reads_back : (script : Script) → All (HasText params keys) script.entries → CanBeSpelled params keys script → script_of params keys (script_text params keys script) ≡ Ok script
  reads_back script have h =
      let lines = lines_are script.entries in
      reads_script params keys (script_text params keys script) script (record {
        few_lines = subst (λ n. n ≤ most_lines) (sym (ap length lines ∙ length_map (entry_text params keys) script.entries)) h.few_entries;
        entries = subst (λ ls. LinesSay params keys [] ls script.entries) (sym lines) (all_say [] script.entries h.said (recursion_from_All (HasText params keys) script.entries have));
      })

  -- ---- what is read

  spelled_names : (l : ScriptLine) (d : Data) → Spells d l → HasNames l
  spelled_names (line.Begin name members) d h = h.0
  spelled_names (line.Ask name query) d h = h.0
  spelled_names (line.Read name key_name members) d h = h.0
  spelled_names (line.End name) d h = h.0
  spelled_names (line.Publish set) d h = h.0

  all_said : (before : List ScriptEntry) (lines : List (List ℕ)) (es : List ScriptEntry) → LinesSay params keys before lines es → AreSaid params keys before es
  all_said before [] [] h = tt
  all_said before [] (e ∷ es) h = absurd h
  all_said before (bytes ∷ lines) [] h = absurd h
  all_said before (bytes ∷ lines) (e ∷ es) h =
      (record { line = h.0.0; names = spelled_names h.0.0 h.0.1.0 h.0.1.2; says = h.0.2 }, all_said (before ++ e ∷ []) lines es h.1)

pub only_spelled : OnlySpelledAreRead
only_spelled params keys bytes script e =
    let h = script_reads params keys bytes script e in
    record {
      few_entries = subst (λ n. n ≤ most_lines) (sym (length-say params keys [] (script_lines bytes) script.entries h.entries)) h.few_lines;
      said = all_said params keys [] (script_lines bytes) script.entries h.entries;
    }

-- the text of lists that are the script's
pub text_back : (params ps : List Parameter) (keys ks : List CacheKey) (script : Script) (es : List ScriptEntry) (text : List ℕ) → ps ≡ params → ks ≡ keys → es ≡ script.entries
    → text ≡ entries_text ps ks es → All (HasText ps ks) es → CanBeSpelled params keys script → script_of params keys text ≡ Ok script
text_back params ps keys ks script es text p k e is have h =
    let own : All (HasText params keys) script.entries = subst (λ xs. All (HasText params keys) xs) e (subst (λ xs. All (HasText params xs) es) k (subst (λ xs. All (HasText xs ks) es) p have)) in
    let here : text ≡ script_text params keys script = is ∙ ap (λ xs. entries_text xs ks es) p ∙ ap (λ xs. entries_text params xs es) k ∙ ap (entries_text params keys) e in
    ap (script_of params keys) here ∙ reads_back params keys script own h
