-- Entries that are written one after another.
use Rattle.std.proofs.Common.{◌≡◌, ◌∙◌, ℕ, ◌+◌, ◌<◌, ◌≤◌, false, List, [], ◌∷◌, ◌++◌, length, take, get_or, All, Some, None, Result, Ok, Err, refl, sym, ap, ap₂, subst, arith, append_assoc}
use Rattle.std.specs.Prelude.{IfOk, slice_get}
use Rattle.std.specs.List.{AllByRecursion, fold, zip}
use Rattle.std.specs.Str.{IsUtf8}
use Rattle.std.proofs.lemmas.Grind.{flat_map-append}
use Rattle.std.proofs.lemmas.List.{append-nil, length-take-le, take_more}
use Rattle.std.proofs.lemmas.List.Elements.{All-append, All-from_recursion}
use Rattle.std.proofs.lemmas.List.Sums.{fold-append}
use Rattle.serde_json.specs.Data.{Data, Members, depth, no_members, put}
use Rattle.serde_json.specs.Read.{max_depth, read}
use Rattle.serde_json.specs.Written.{compact_text, has_float}
use Rattle.ba_model.specs.declared.policy.CacheKey.{CacheKey}
use Rattle.ba_model.specs.declared.policy.Parameter.{Parameter}
use Rattle.ba_model.specs.declared.value.Value.{Value}
use Rattle.ba_script.specs.declared.entry.ScriptEntry.{ScriptEntry}
use Rattle.ba_script_print.proofs.FlatLemmas.{entry_shallow, entry_whole}
use Rattle.ba_script_print.specs.ReadBack.{EntryHasBits, HasText, ValueHasBits}
use Rattle.ba_script_print.specs.Texts.{entries_text, entry_json, entry_line, entry_text, value_json, with_value}

pub ok_both : {T E : Type 0} (r : Result T E) (P Q R : T → Type 0) → ((x : T) → P x → Q x → R x) → IfOk r P → IfOk r Q → IfOk r R
ok_both (Ok x) P Q R f p q = f x p q
ok_both (Err e) P Q R f p q = tt

module _ (params : List Parameter) (keys : List CacheKey) where
  module _ (e : ScriptEntry) (d : Data) (bytes : List ℕ) (made : d ≡ entry_json params keys e) where
    pub text_is : (has_float d ≡ false → bytes ≡ compact_text d) → bytes ≡ entry_text params keys e
    text_is writes = writes (ap has_float made ∙ entry_whole params keys e) ∙ ap compact_text made

    pub has_text : EntryHasBits params keys e → IsUtf8 bytes → (has_float d ≡ false → bytes ≡ compact_text d) → (depth d ≤ max_depth → read bytes ≡ Some d) → HasText params keys e
    has_text bits utf8 writes reading =
        let is = text_is writes in
        record {
          json = record {
            utf8 = subst IsUtf8 is utf8;
            reads = ap read (sym is) ∙ reading (subst (λ x. depth x ≤ max_depth) (sym made) (entry_shallow params keys e)) ∙ ap Some made;
          };
          bits = bits;
        }

  module _ (entries : List ScriptEntry) (i : ℕ) (it : ScriptEntry) (lt : i < length entries) (is : it ≡ get_or entries i it) where
    next_is : take (i + 1) entries ≡ take i entries ++ it ∷ []
    next_is = take_more entries i it lt ∙ ap (λ x. take i entries ++ x ∷ []) (sym is)

    pub line_more : (before text mid after : List ℕ) → before ≡ entries_text params keys (take i entries) → text ≡ entry_text params keys it → mid ≡ before ++ text → after ≡ mid ++ 10 ∷ []
        → after ≡ entries_text params keys (take (i + 1) entries)
    line_more before text mid after so_far own added ended =
        ended ∙ ap (λ x. x ++ 10 ∷ []) (added ∙ ap₂ (λ x y. x ++ y) so_far own)
        ∙ append_assoc (entries_text params keys (take i entries)) (entry_text params keys it) (10 ∷ [])
        ∙ ap (λ x. entries_text params keys (take i entries) ++ x) (sym (append-nil (entry_line params keys it)))
        ∙ sym (flat_map-append (entry_line params keys) (take i entries) (it ∷ []))
        ∙ ap (entries_text params keys) (sym next_is)

    pub have_more : All (HasText params keys) (take i entries) → HasText params keys it → All (HasText params keys) (take (i + 1) entries)
    have_more before own = subst (All (HasText params keys)) (sym next_is) (All-append (HasText params keys) (take i entries) (it ∷ []) before (All-from_recursion (HasText params keys) (it ∷ []) (own, tt)))

-- ---- a parameter's value

zip_some : {K X : Type 0} (xs : List K) (x : K) (vs : List X) (v : X) → slice_get vs (length xs) ≡ Some v → zip (xs ++ x ∷ []) vs ≡ zip xs vs ++ (x, v) ∷ []
zip_some [] x [] v e = cc e
zip_some [] x (w ∷ vs) v e = let same : w ≡ v = cc e in ap (λ u. (x, u) ∷ []) same
zip_some (y ∷ xs) x [] v e = cc e
zip_some (y ∷ xs) x (w ∷ vs) v e = ap (λ ps. (y, w) ∷ ps) (zip_some xs x vs v e)

zip_none : {K X : Type 0} (xs : List K) (x : K) (vs : List X) → slice_get vs (length xs) ≡ None → zip (xs ++ x ∷ []) vs ≡ zip xs vs
zip_none [] x [] e = refl
zip_none [] x (w ∷ vs) e = cc e
zip_none (y ∷ xs) x [] e = refl
zip_none (y ∷ xs) x (w ∷ vs) e = ap (λ ps. (y, w) ∷ ps) (zip_none xs x vs e)

append_all : {X : Type 0} (P : X → Type 0) (xs : List X) (x : X) → AllByRecursion P xs → P x → AllByRecursion P (xs ++ x ∷ [])
append_all P [] x h k = (k, tt)
append_all P (y ∷ xs) x h k = (h.0, append_all P xs x h.1 k)

module _ (params : List Parameter) (vs : List Value) (i : ℕ) (p : Parameter) (lt : i < length params) (is : p ≡ get_or params i p) where
  next_param : take (i + 1) params ≡ take i params ++ p ∷ []
  next_param = take_more params i p lt ∙ ap (λ x. take i params ++ x ∷ []) (sym is)

  so_many : length (take i params) ≡ i
  so_many = length-take-le i params (omega (arith, lt))

  with_one : (v : Value) → slice_get vs i ≡ Some v → zip (take (i + 1) params) vs ≡ zip (take i params) vs ++ (p, v) ∷ []
  with_one v e = ap (λ ps. zip ps vs) next_param ∙ zip_some (take i params) p vs v (ap (slice_get vs) so_many ∙ e)

  pub without : slice_get vs i ≡ None → zip (take (i + 1) params) vs ≡ zip (take i params) vs
  without e = ap (λ ps. zip ps vs) next_param ∙ zip_none (take i params) p vs (ap (slice_get vs) so_many ∙ e)

  pub members_more : (v : Value) (before after : Members) → slice_get vs i ≡ Some v → before ≡ fold with_value no_members (zip (take i params) vs) → after ≡ put p.name (value_json v) before
      → after ≡ fold with_value no_members (zip (take (i + 1) params) vs)
  members_more v before after e so_far one =
      one ∙ ap (put p.name (value_json v)) so_far ∙ sym (fold-append with_value no_members (zip (take i params) vs) ((p, v) ∷ [])) ∙ ap (fold with_value no_members) (sym (with_one v e))

  pub bits_more : (v : Value) → slice_get vs i ≡ Some v → AllByRecursion (λ given. ValueHasBits given.1) (zip (take i params) vs) → ValueHasBits v → AllByRecursion (λ given. ValueHasBits given.1) (zip (take (i + 1) params) vs)
  bits_more v e before own = subst (AllByRecursion (λ given. ValueHasBits given.1)) (sym (with_one v e)) (append_all (λ given. ValueHasBits given.1) (zip (take i params) vs) (p, v) before own)
