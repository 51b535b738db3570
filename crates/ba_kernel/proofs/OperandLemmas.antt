-- The values of operands at an instance, by the values of the terms that they stand for.
use Rattle.std.proofs.Common.{◌≡◌, ℕ, zero, suc, List, [], ◌∷◌, ◌++◌, map, refl, ap₂, sym}
use Rattle.std.specs.List.{AllZip}
use Rattle.std.specs.Prelude.{Option, Some, None, slice_get, option_and_then}
use Rattle.ba_model.specs.Meaning.{value_of}
use Rattle.ba_model.specs.declared.policy.Context.{Context}
use Rattle.ba_model.specs.declared.query.Operand.{Operand}
use Rattle.ba_model.specs.declared.query.Operand.TheVariants as operands
use Rattle.ba_model.specs.declared.value.RowSet.{RowSet}
use Rattle.ba_model.specs.declared.value.Value.{Value}
use Rattle.ba_facts.specs.Fits.{FactHolds, Instance, LessonHolds, value_of_term}
use Rattle.ba_facts.specs.Matches.{term_of}
use Rattle.ba_facts.specs.declared.term.Fact.{Fact}
use Rattle.ba_facts.specs.declared.term.Lesson.{Lesson}
use Rattle.ba_facts.specs.declared.term.Lesson.TheVariants.{Same, Holds}
use Rattle.ba_facts.specs.declared.term.Term.{Term}
use Rattle.ba_facts.specs.declared.term.Term.TheVariants.{Unknown, Val, Param, Var}
use Rattle.ba_kernel.specs.Problems.{operand_at, variable_at}

-- ---- rows of terms and their values

-- where each of the first gives its own of the second, so does what stands at a place
pub given_at : {X Y : Type 0} (f : X → Option Y) (xs : List X) (ys : List Y) (k : ℕ) → map f xs ≡ map Some ys →
    slice_get ys k ≡ option_and_then f (slice_get xs k)
given_at f [] [] k e = refl
given_at f [] (y ∷ ys) k e = cc
given_at f (x ∷ xs) [] k e = cc
given_at f (x ∷ xs) (y ∷ ys) zero e = let first : f x ≡ Some y = cc in sym first
given_at f (x ∷ xs) (y ∷ ys) (suc k) e = given_at f xs ys k (let rest : map f xs ≡ map Some ys = cc in rest)

-- the terms have these values
abbrev pub TermsAre : Instance → List Value → List Term → List Value → Type 0
TermsAre i values terms row = map (value_of_term i values) terms ≡ map Some row

-- so has each row of terms
abbrev pub RowsAre : Instance → List Value → List (List Term) → List (List Value) → Type 0
RowsAre i values terms rows = AllZip (TermsAre i values) terms rows

-- what stands in a column of the row at a place
abbrev cell : {X : Type 0} → List (List X) → ℕ → ℕ → Option X
cell rows place column = option_and_then (λ row. slice_get row column) (slice_get rows place)

column_value : (i : Instance) (values : List Value) (terms : List (List Term)) (rows : List (List Value)) (place column : ℕ) → RowsAre i values terms rows →
    cell rows place column ≡ option_and_then (value_of_term i values) (cell terms place column)
column_value i values [] [] place column h = refl
column_value i values [] (vs ∷ rows) place column h = absurd h
column_value i values (ts ∷ terms) [] place column h = absurd h
column_value i values (ts ∷ terms) (vs ∷ rows) zero column h = given_at (value_of_term i values) ts vs column h.0
column_value i values (ts ∷ terms) (vs ∷ rows) (suc place) column h = column_value i values terms rows place column h.1

variable_value : (c : Context) (rows : List (List Value)) (n : ℕ) (o : Option Value) → value_of c rows (variable_at n o) ≡ o
variable_value c rows n None = refl
variable_value c rows n (Some v) = refl

-- the value of an operand at the instance is the value of the term that it stands for
pub operand_value : (i : Instance) (values : List Value) (terms : List (List Term)) (rows : List (List Value)) → RowsAre i values terms rows →
    (o : Operand) → value_of i.context rows (operand_at i.vars o) ≡ option_and_then (value_of_term i values) (term_of terms o)
operand_value i values terms rows h (operands.Col place column) = column_value i values terms rows place column h
operand_value i values terms rows h (operands.Val v) = refl
operand_value i values terms rows h (operands.Param n) = refl
operand_value i values terms rows h (operands.Var n) = variable_value i.context rows n (slice_get i.vars n)

-- ---- more values

-- each term that has a value has it among the new values too
abbrev pub IsKept : Instance → List Value → List Value → Type 0
IsKept i old new = (t : Term) (v : Value) → value_of_term i old t ≡ Some v → value_of_term i new t ≡ Some v

-- what stands at a place stays as more is put behind it
pub get_kept : {X : Type 0} (xs ys : List X) (k : ℕ) (x : X) → slice_get xs k ≡ Some x → slice_get (xs ++ ys) k ≡ Some x
get_kept [] ys k x e = cc
get_kept (y ∷ xs) ys zero x e = e
get_kept (y ∷ xs) ys (suc k) x e = get_kept xs ys k x e

pub kept_by_append : (i : Instance) (values more : List Value) → IsKept i values (values ++ more)
kept_by_append i values more (Unknown n) v e = get_kept values more n v e
kept_by_append i values more (Val w) v e = e
kept_by_append i values more (Param n) v e = e
kept_by_append i values more (Var n) v e = e

map_kept : {X Y : Type 0} (f g : X → Option Y) → ((x : X) (y : Y) → f x ≡ Some y → g x ≡ Some y) → (xs : List X) (ys : List Y) →
    map f xs ≡ map Some ys → map g xs ≡ map Some ys
map_kept f g h [] [] e = refl
map_kept f g h [] (y ∷ ys) e = cc
map_kept f g h (x ∷ xs) [] e = cc
map_kept f g h (x ∷ xs) (y ∷ ys) e =
    let first : f x ≡ Some y = cc in
    let rest : map f xs ≡ map Some ys = cc in
    ap₂ (λ z zs. z ∷ zs) (h x y first) (map_kept f g h xs ys rest)

module _ (i : Instance) (old new : List Value) (kept : IsKept i old new) where
  pub row_kept : (terms : List Term) (row : List Value) → TermsAre i old terms row → TermsAre i new terms row
  row_kept terms row e = map_kept (value_of_term i old) (value_of_term i new) kept terms row e

  pub fact_kept : (d e : RowSet) (fact : Fact) → FactHolds i old d e fact → FactHolds i new d e fact
  fact_kept d e fact h = record { row = h.row; terms = row_kept fact.terms h.row h.terms; there = h.there }

  pub lesson_kept : (lesson : Lesson) → LessonHolds i old lesson → LessonHolds i new lesson
  lesson_kept (Same a b) h = record { value = h.value; left_is = kept a h.value h.left_is; right_is = kept b h.value h.right_is }
  lesson_kept (Holds atom) h =
      record { left = h.left; right = h.right; left_is = kept atom.left h.left h.left_is; right_is = kept atom.right h.right h.right_is; compared = h.compared }
