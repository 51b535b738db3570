-- The fields of a record, one after the other.
use Rattle.std.proofs.Common.{◌≡◌, ◌≢◌, ℕ, zero, suc, ◌+◌, ◌<◌, ◌≤◌, Bool, true, false, ◌&&◌, List, [], ◌∷◌, length, drop, Option, Some, None, refl, arith, sym, ap, add-one, Bor, not, Result, Ok, Err}
use Rattle.std.proofs.lemmas.Str.{IsUtf8-from_is_utf8, is_utf8-from_IsUtf8}
use Rattle.std.specs.List.{list_all}
use Rattle.std.specs.Option.{option_eq, option_map}
use Rattle.std.specs.Prelude.{slice_get}
use Rattle.std.specs.Result.{MatchResult, is_err}
use Rattle.std.specs.Str.{IsUtf8, bytes_eq, is_utf8}
use Rattle.csv.specs.Records.{field_at}
use Rattle.ba_model.specs.declared.schema.Column.{Column}
use Rattle.ba_tables.specs.TableFile.{is_header}

from_field : (fs : List (List ℕ)) (i : ℕ) (f : List ℕ) → field_at fs i ≡ Some f → drop i fs ≡ f ∷ drop (suc i) fs
unfolding field_at
from_field [] i f e = cc e
from_field (g ∷ fs) zero f e = let same : g ≡ f = cc e in cc
from_field (g ∷ fs) (suc i) f e = from_field fs i f e

from_element : {X : Type 0} (xs : List X) (i : ℕ) (x : X) → slice_get xs i ≡ Some x → drop i xs ≡ x ∷ drop (suc i) xs
from_element [] i x e = cc e
from_element (y ∷ xs) zero x e = let same : y ≡ x = cc e in cc
from_element (y ∷ xs) (suc i) x e = from_element xs i x e

-- the element at a place begins what is left from that place on
pub drop_field : (fs : List (List ℕ)) (i : ℕ) (f : List ℕ) → field_at fs i ≡ Some f → drop i fs ≡ f ∷ drop (i + 1) fs
drop_field fs i f e = rw add-one (from_field fs i f e)

pub drop_element : {X : Type 0} (xs : List X) (i : ℕ) (x : X) → slice_get xs i ≡ Some x → drop i xs ≡ x ∷ drop (i + 1) xs
drop_element xs i x e = rw add-one (from_element xs i x e)

pub no_field : (fs : List (List ℕ)) (i : ℕ) → field_at fs i ≡ None → length fs ≤ i
unfolding field_at
no_field [] i e = omega arith
no_field (g ∷ fs) zero e = cc e
no_field (g ∷ fs) (suc i) e = let h = no_field fs i e in omega arith

pub some_field : (fs : List (List ℕ)) (i : ℕ) (f : List ℕ) → field_at fs i ≡ Some f → i < length fs
unfolding field_at
some_field [] i f e = cc e
some_field (g ∷ fs) zero f e = omega arith
some_field (g ∷ fs) (suc i) f e = let h = some_field fs i f e in omega arith

-- UTF-8 from a place on
pub text_at : (fs : List (List ℕ)) (i : ℕ) (f : List ℕ) → field_at fs i ≡ Some f → list_all is_utf8 (drop i fs) ≡ (is_utf8 f && list_all is_utf8 (drop (i + 1) fs))
text_at fs i f e = rw (drop_field fs i f e) refl

pub not_text : (f : List ℕ) → ¬ (IsUtf8 f) → is_utf8 f ≡ false
not_text f n = by (is_utf8 f) refl
  where
    by : (b : Bool) → is_utf8 f ≡ b → b ≡ false
    by true e = absurd (n (IsUtf8-from_is_utf8 f e))
    by false e = refl

and_left : (a b : Bool) → (a && b) ≡ true → a ≡ true
and_left true b e = refl
and_left false b e = cc e

and_right : (a b : Bool) → (a && b) ≡ true → b ≡ true
and_right true b e = e
and_right false b e = cc e

-- each field of a row of text is text
pub field_is_text : (fs : List (List ℕ)) (i : ℕ) (f : List ℕ) → list_all is_utf8 fs ≡ true → field_at fs i ≡ Some f → IsUtf8 f
unfolding field_at
field_is_text [] i f h e = cc e
field_is_text (g ∷ fs) zero f h e = let same : g ≡ f = cc e in IsUtf8-from_is_utf8 f (rw (← same) (and_left (is_utf8 g) (list_all is_utf8 fs) h))
field_is_text (g ∷ fs) (suc i) f h e = field_is_text fs i f (and_right (is_utf8 g) (list_all is_utf8 fs) h) e

-- the header from a place on
pub header_at : (columns : List Column) (fs : List (List ℕ)) (i : ℕ) (c : Column) (f : List ℕ) → slice_get columns i ≡ Some c → field_at fs i ≡ Some f
    → is_header (drop i columns) (drop i fs) ≡ (bytes_eq f c.name && is_header (drop (i + 1) columns) (drop (i + 1) fs))
header_at columns fs i c f h e = rw (drop_field fs i f e, drop_element columns i c h) refl

pub other_width : (columns : List Column) (fs : List (List ℕ)) → length fs ≢ length columns → is_header columns fs ≡ false
other_width [] [] n = absurd (n refl)
other_width [] (f ∷ fs) n = refl
other_width (c ∷ columns) [] n = refl
other_width (c ∷ columns) (f ∷ fs) n = last (bytes_eq f c.name) (other_width columns fs (λ e. n (ap suc e)))
  where
    last : (b : Bool) → is_header columns fs ≡ false → (b && is_header columns fs) ≡ false
    last true e = e
    last false e = refl

is_false : (b : Bool) → true ≡ not b → b ≡ false
is_false true e = cc e
is_false false e = refl

is_true : (b : Bool) → false ≡ not b → b ≡ true
is_true true e = refl
is_true false e = cc e

-- what the test of a name against a field has told
pub other_name : (columns : List Column) (fs : List (List ℕ)) (i : ℕ) (c : Column) (o : Option (Bor (List ℕ))) (name : Bor (List ℕ)) → length fs ≡ length columns → i < length columns
    → option_map (λ s. s.now) o ≡ field_at fs i → slice_get columns i ≡ Some c → name.now ≡ c.name → true ≡ not (option_eq (λ x y. bytes_eq x.now y.now) o (Some name))
    → is_header (drop i columns) (drop i fs) ≡ false
other_name columns fs i c None name w h f g n t = absurd (omega (arith, no_field fs i (sym f)))
other_name columns fs i c (Some field) name w h f g n t = rw (header_at columns fs i c field.now g (sym f), ← n, is_false _ t) refl

pub same_name : (columns : List Column) (fs : List (List ℕ)) (i : ℕ) (c : Column) (o : Option (Bor (List ℕ))) (name : Bor (List ℕ)) → length fs ≡ length columns → i < length columns
    → option_map (λ s. s.now) o ≡ field_at fs i → slice_get columns i ≡ Some c → name.now ≡ c.name → false ≡ not (option_eq (λ x y. bytes_eq x.now y.now) o (Some name))
    → is_header (drop (i + 1) columns) (drop (i + 1) fs) ≡ is_header (drop i columns) (drop i fs)
same_name columns fs i c None name w h f g n t = absurd (omega (arith, no_field fs i (sym f)))
same_name columns fs i c (Some field) name w h f g n t = rw (header_at columns fs i c field.now g (sym f), ← n, is_true _ t) refl

-- what a test of UTF-8 has told
pub text_told : {A E : Type 0} (P : A → Type 0) (Q : E → Type 0) (f : List ℕ) (r : Result A E) → MatchResult r (λ s. P s × IsUtf8 f) (λ e. ¬ (IsUtf8 f) × Q e) → is_utf8 f ≡ not (is_err r)
text_told P Q f (Ok s) h = is_utf8-from_IsUtf8 f h.1
text_told P Q f (Err e) h = not_text f h.0
