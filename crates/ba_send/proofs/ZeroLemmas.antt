-- What an operand is with the context's values in place.
use Rattle.std.proofs.Common.{◌≡◌, ℕ, ◌+◌, ◌<◌, Bool, true, false, ◌||◌, List, [], ◌∷◌, ◌++◌, length, map, take, get_or, slice_get, Option, Some, None, refl, sym, ap, subst, ◌∙◌, arith}
use Rattle.std.specs.List.{All, list_any}
use Rattle.std.proofs.lemmas.List.{map-append, take_more}
use Rattle.std.proofs.lemmas.List.Elements.{All-append}
use Rattle.std.proofs.lemmas.List.Folds.{list_any-append}
use Rattle.ba_keys.specs.Literals.{literal_or, operand_with}
use Rattle.ba_model.specs.declared.query.Operand.{Operand}
use Rattle.ba_model.specs.declared.query.Operand.TheVariants.{Col, Val, Param, Var}
use Rattle.ba_model.specs.declared.value.Value.{Value}
use Rattle.ba_model.specs.declared.schema.Schema.{Schema}
use Rattle.ba_target.specs.declared.target.Database.{Database}
use Rattle.ba_send.specs.Sent.{Piece, column_piece, literal_of, literal_pieces, operand_pieces, value_pieces}
use Rattle.ba_send.proofs.ClosedLemmas.{param_closed}
use Rattle.ba_send.proofs.GrowLemmas.{grows_none}
use Rattle.std.specs.Result.{OnOk}
use Rattle.std.proofs.Common.{Result}
use Rattle.ba_send.specs.Sent.{pieces_text}

pub closed_value : (values : List Value) (v : Value) → operand_with 0 values (Val v) ≡ Val v
unfolding operand_with
closed_value values v = refl

pub closed_column : (values : List Value) (place column : ℕ) → operand_with 0 values (Col place column) ≡ Col place column
unfolding operand_with
closed_column values place column = refl

pub closed_variable : (values : List Value) (n : ℕ) → operand_with 0 values (Var n) ≡ Var n
unfolding operand_with
closed_variable values n = refl

pub closed_some : (values : List Value) (p : ℕ) (v : Value) → slice_get values p ≡ Some v → operand_with 0 values (Param p) ≡ Val v
closed_some values p v e = param_closed values p ∙ ap (literal_or p) e

pub closed_none : (values : List Value) (p : ℕ) → slice_get values p ≡ None → operand_with 0 values (Param p) ≡ Param p
closed_none values p e = param_closed values p ∙ ap (literal_or p) e

-- ---- one more element, changed by g

pub any_more : {X Y : Type 0} (test : Y → Bool) (g : X → Y) (xs : List X) (i : ℕ) (x : X) (found here now : Bool) → i < length xs → x ≡ get_or xs i x
    → found ≡ list_any test (map g (take i xs)) → here ≡ test (g x) → now ≡ (found || here) → now ≡ list_any test (map g (take (i + 1) xs))
any_more {X} test g xs i x found here now lt is so_far e f =
    let next : take (i + 1) xs ≡ take i xs ++ x ∷ [] = take_more xs i x lt ∙ ap (λ (y : X). take i xs ++ y ∷ []) (sym is) in
    f ∙ ap (λ (b : Bool). b || here) so_far ∙ ap (λ (b : Bool). list_any test (map g (take i xs)) || b) (e ∙ sym (or_false (test (g x))))
    ∙ sym (list_any-append test (map g (take i xs)) (g x ∷ [])) ∙ ap (list_any test) (sym (ap (map g) next ∙ map-append g (take i xs) (x ∷ [])))
  where
    or_false : (b : Bool) → (b || false) ≡ b
    or_false true = refl
    or_false false = refl

pub all_more : {X Y : Type 0} (P : Y → Type 0) (g : X → Y) (xs : List X) (i : ℕ) (x : X) → i < length xs → x ≡ get_or xs i x
    → All P (map g (take i xs)) → P (g x) → All P (map g (take (i + 1) xs))
all_more {X} {Y} P g xs i x lt is so_far h =
    let next : take (i + 1) xs ≡ take i xs ++ x ∷ [] = take_more xs i x lt ∙ ap (λ (y : X). take i xs ++ y ∷ []) (sym is) in
    subst (All P) (sym (ap (map g) next ∙ map-append g (take i xs) (x ∷ []))) (All-append P (map g (take i xs)) (g x ∷ []) so_far (alone (g x) h))
  where
    alone : (y : Y) → P y → All P (y ∷ [])
    alone y h k d lt = only k lt h
      where
        only : (k : ℕ) → k < 1 → P y → P (get_or (y ∷ []) k d)
        only k lt h = subst (λ (j : ℕ). P (get_or (y ∷ []) j d)) (let z : 0 ≡ k = omega (arith, lt) in z) h

pub literal_param : (values : List Value) (p : ℕ) → literal_of (operand_with 0 values (Param p)) ≡ slice_get values p
literal_param values p = ap literal_of (param_closed values p) ∙ by (slice_get values p)
  where
    by : (o : Option Value) → literal_of (literal_or p o) ≡ o
    by None = refl
    by (Some v) = refl

pub literal_value : (values : List Value) (v : Value) → literal_of (operand_with 0 values (Val v)) ≡ Some v
literal_value values v = ap literal_of (closed_value values v)

pub literal_column : (values : List Value) (place column : ℕ) → literal_of (operand_with 0 values (Col place column)) ≡ None
literal_column values place column = ap literal_of (closed_column values place column)

pub literal_variable : (values : List Value) (n : ℕ) → literal_of (operand_with 0 values (Var n)) ≡ None
literal_variable values n = ap literal_of (closed_variable values n)

pub ruleset literals = (literal_param, literal_value, literal_column, literal_variable)

-- ---- what is printed of it

pub param_pieces : (d : Database) (s : Schema) (from : List ℕ) (exact : Bool) (values : List Value) (p : ℕ)
    → operand_pieces d s from exact (operand_with 0 values (Param p)) ≡ literal_pieces d exact (slice_get values p)
unfolding operand_pieces
param_pieces d s from exact values p = ap (operand_pieces d s from exact) (param_closed values p) ∙ by (slice_get values p)
  where
    by : (o : Option Value) → operand_pieces d s from exact (literal_or p o) ≡ literal_pieces d exact o
    by None = refl
    by (Some v) = refl

pub value_printed : (d : Database) (s : Schema) (from : List ℕ) (exact : Bool) (values : List Value) (v : Value)
    → operand_pieces d s from exact (operand_with 0 values (Val v)) ≡ value_pieces d exact v
unfolding operand_pieces operand_with
value_printed d s from exact values v = refl

pub column_printed : (d : Database) (s : Schema) (from : List ℕ) (exact : Bool) (values : List Value) (place column : ℕ)
    → operand_pieces d s from exact (operand_with 0 values (Col place column)) ≡ column_piece s from place column ∷ []
unfolding operand_pieces operand_with
column_printed d s from exact values place column = refl

pub variable_printed : (d : Database) (s : Schema) (from : List ℕ) (exact : Bool) (values : List Value) (n : ℕ)
    → operand_pieces d s from exact (operand_with 0 values (Var n)) ≡ []
unfolding operand_pieces operand_with
variable_printed d s from exact values n = refl

pub ruleset printed = (param_pieces, value_printed, column_printed, variable_printed)

pub literal_at : (values : List Value) (p : ℕ) (x : Operand) → x ≡ Param p → literal_of (operand_with 0 values x) ≡ slice_get values p
literal_at values p x e = ap (λ (y : Operand). literal_of (operand_with 0 values y)) e ∙ literal_param values p

pub no_pieces : (d : Database) (s : Schema) (from : List ℕ) (exact : Bool) (values : List Value) (n : ℕ) (x : Operand) (start : List ℕ) → x ≡ Var n
    → start ≡ start ++ pieces_text d (operand_pieces d s from exact (operand_with 0 values x))
no_pieces d s from exact values n x start e =
    grows_none d start start refl
    ∙ ap (λ (ps : List Piece). start ++ pieces_text d ps) (sym (ap (λ (y : Operand). operand_pieces d s from exact (operand_with 0 values y)) e ∙ variable_printed d s from exact values n))

pub param_grows : {E : Type 0} (d : Database) (s : Schema) (from : List ℕ) (exact : Bool) (values : List Value) (p : ℕ) (x : Operand) (r : Result (Unit {0}) E)
    (new start : List ℕ) (o : Option Value) → x ≡ Param p → o ≡ slice_get values p
    → OnOk r (new ≡ start ++ pieces_text d (literal_pieces d exact o))
    → OnOk r (new ≡ start ++ pieces_text d (operand_pieces d s from exact (operand_with 0 values x)))
param_grows d s from exact values p x r new start o e f h =
    let same : literal_pieces d exact o ≡ operand_pieces d s from exact (operand_with 0 values x) =
    ap (literal_pieces d exact) f ∙ sym (ap (λ (y : Operand). operand_pieces d s from exact (operand_with 0 values y)) e ∙ param_pieces d s from exact values p) in
    subst (λ (ps : List Piece). OnOk r (new ≡ start ++ pieces_text d ps)) same h
