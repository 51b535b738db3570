-- The key of a name, one key after another.
use Rattle.std.proofs.Common.{◌≡◌, ◌∙◌, ℕ, ◌+◌, ◌<◌, List, ◌∷◌, length, true, false, cond, drop, Option, Some, sym, ap}
use Rattle.std.specs.Prelude.{slice_index_or}
use Rattle.std.specs.Str.{bytes_eq}
use Rattle.std.proofs.lemmas.List.{at_drop_more}
use Rattle.ba_model.specs.declared.policy.CacheKey.{CacheKey}
use Rattle.ba_live.specs.Steps.{key_named}

at_key : (name : List ℕ) (keys : List CacheKey) (i : ℕ) (key : CacheKey) → i < length keys → key ≡ slice_index_or keys i key → key_named name (drop i keys) ≡ key_named name (key ∷ drop (i + 1) keys)
at_key name keys i key lt is = at_drop_more (key_named name) keys i key lt ∙ ap (λ x. key_named name (x ∷ drop (i + 1) keys)) (sym is)

pub found_key : (name : List ℕ) (keys : List CacheKey) (i : ℕ) (key : CacheKey) (whole : Option CacheKey) → i < length keys → key ≡ slice_index_or keys i key
    → key_named name (drop i keys) ≡ whole → bytes_eq key.name name ≡ true → Some key ≡ whole
found_key name keys i key whole lt is before test =
    sym (ap (λ b. cond b (Some key) (key_named name (drop (i + 1) keys))) test) ∙ sym (at_key name keys i key lt is) ∙ before

pub passed_key : (name : List ℕ) (keys : List CacheKey) (i : ℕ) (key : CacheKey) (whole : Option CacheKey) → i < length keys → key ≡ slice_index_or keys i key
    → key_named name (drop i keys) ≡ whole → bytes_eq key.name name ≡ false → key_named name (drop (i + 1) keys) ≡ whole
passed_key name keys i key whole lt is before test =
    sym (ap (λ b. cond b (Some key) (key_named name (drop (i + 1) keys))) test) ∙ sym (at_key name keys i key lt is) ∙ before
