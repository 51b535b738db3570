-- The value of a field, by whether it says NULL.
use Rattle.std.proofs.Common.{◌≡◌, inl, inr, ℕ, zero, suc, ◌<◌, ◌==◌, ◌⊎◌, true, false, List, [], ◌∷◌, length, Result, Ok, refl, arith}
use Rattle.std.proofs.lemmas.Bool.{and_from, and_parts, both_ways, eqb-true, false_from_ne_true, or_cases, or_left, or_right}
use Rattle.std.proofs.lemmas.Slice.Eq.{bytes_eq-Decides}
use Rattle.std.proofs.lemmas.Str.{IsUtf8-from_ascii}
use Rattle.std.specs.Str.{IsAscii, IsUtf8, bytes_eq}
use Rattle.ba_model.specs.declared.schema.Column.{Column}
use Rattle.ba_model.specs.declared.schema.Kind.{Kind}
use Rattle.ba_model.specs.declared.schema.Kind.TheVariants.{Int as IntKind, Text as TextKind}
use Rattle.ba_model.specs.declared.value.Value.{Value}
use Rattle.ba_model.specs.declared.value.Value.TheVariants.{Null}
use Rattle.ba_tables.specs.Spelling.{IsNullText, SaysNull}
use Rattle.ba_tables.specs.TableFile.{is_null_text, null_field, says_null, some_value, value_at}
use Rattle.ba_tables.specs.declared.fault.TableFault.{TableFault}

-- ---- what says NULL

no_bytes : (f : List ℕ) → length f ≡ 0 → f ≡ []
no_bytes [] e = refl
no_bytes (c ∷ cs) e = absurd (omega arith)

no_length : (f : List ℕ) → f ≡ [] → (length f == 0) ≡ true
no_length f e = rw e refl

spelled_told : (k : Kind) (f : List ℕ) → is_null_text k f ≡ true → IsNullText k f
spelled_told IntKind f e = by (or_cases (length f == 0) (bytes_eq f null_field) e)
  where
    by : ((length f == 0) ≡ true) ⊎ (bytes_eq f null_field ≡ true) → (f ≡ []) ⊎ (f ≡ null_field)
    by (inl h) = inl (no_bytes f (eqb-true (length f) 0 h))
    by (inr h) = inr ((bytes_eq-Decides f null_field).0 h)
spelled_told TextKind f e = (bytes_eq-Decides f null_field).0 e

spelled_test : (k : Kind) (f : List ℕ) → IsNullText k f → is_null_text k f ≡ true
spelled_test IntKind f (inl h) = or_left (length f == 0) (bytes_eq f null_field) (no_length f h)
spelled_test IntKind f (inr h) = or_right (length f == 0) (bytes_eq f null_field) ((bytes_eq-Decides f null_field).1 h)
spelled_test TextKind f h = (bytes_eq-Decides f null_field).1 h

pub null_told : (c : Column) (f : List ℕ) → says_null c f ≡ true → SaysNull c f
null_told c f e = let p = and_parts c.nullable (is_null_text c.kind f) e in record { may_be = p.0; spelled = spelled_told c.kind f p.1 }

pub null_test : (c : Column) (f : List ℕ) → SaysNull c f → says_null c f ≡ true
null_test c f h = and_from c.nullable (is_null_text c.kind f) h.may_be (spelled_test c.kind f h.spelled)

pub some_told : (c : Column) (f : List ℕ) → says_null c f ≡ false → ¬ SaysNull c f
some_told c f e h = both_ways (says_null c f) e (null_test c f h)

pub some_test : (c : Column) (f : List ℕ) → ¬ SaysNull c f → says_null c f ≡ false
some_test c f h = false_from_ne_true (says_null c f) (λ e. h (null_told c f e))

-- ---- it is UTF-8

pub none_ascii : IsAscii []
none_ascii i = omega arith

pub cons_ascii : (c : ℕ) (cs : List ℕ) → c < 128 → IsAscii cs → IsAscii (c ∷ cs)
cons_ascii c cs h k zero = omega arith
cons_ascii c cs h k (suc i) = k i

null_field_text : IsUtf8 null_field
null_field_text = IsUtf8-from_ascii null_field (cons_ascii 92 (78 ∷ []) (omega arith) (cons_ascii 78 [] (omega arith) none_ascii))

pub null_text : (k : Kind) (f : List ℕ) → IsNullText k f → IsUtf8 f
null_text IntKind f (inl h) = rw h (IsUtf8-from_ascii [] none_ascii)
null_text IntKind f (inr h) = rw h null_field_text
null_text TextKind f h = rw h null_field_text

-- ---- the value

pub null_is : (row i : ℕ) (c : Column) (f : List ℕ) → says_null c f ≡ true → value_at row i c f ≡ Ok Null
unfolding value_at
null_is row i c f e = rw e refl

pub some_is : (row i : ℕ) (c : Column) (f : List ℕ) → says_null c f ≡ false → value_at row i c f ≡ some_value row i c.kind f
unfolding value_at
some_is row i c f e = rw e refl

pub value_same : (v w : Value) → ◌≡◌ {A = Result Value TableFault} (Ok v) (Ok w) → v ≡ w
value_same v w e = cc e
