-- Terms of rows that aren't moved.
use Rattle.std.proofs.Common.{◌≡◌, ℕ, zero, suc, List, [], ◌∷◌, Bool, true, false, Contains, nat_eq, eqb-true, if◌then◌else◌, ap, refl, sym, subst, ◌∙◌, arith}
use Rattle.std.proofs.lemmas.Bool.{eq-eqb}
use Rattle.std.proofs.lemmas.List.Elements.{All-cons, All-contains, All-head, All-nil, All-tail}
use Rattle.std.specs.List.{All, Any}
use Rattle.std.specs.Prelude.{Option, Some, None, option_and_then, slice_get}
use Rattle.ba_model.specs.declared.query.Atom.{Atom}
use Rattle.ba_model.specs.declared.query.Operand.{Operand}
use Rattle.ba_model.specs.declared.query.Operand.TheVariants as operands
use Rattle.ba_model.specs.declared.query.Part.{Part}
use Rattle.ba_facts.specs.Matches.{GivesAtom, term_of}
use Rattle.ba_facts.specs.declared.term.Term.{Term}
use Rattle.ba_facts.specs.declared.term.Term.TheVariants.{Val, Param, Var}
use Rattle.ba_facts.specs.declared.term.TermAtom.{TermAtom}
use Rattle.ba_instant.specs.QuietKeys.{IsUnmoved, IsUnmovedIf, ReadsUnmoved, UnmovedSides, term_at}
use Rattle.ba_instant.specs.declared.moves.Move.{Move}

-- ---- lists

pub everywhere : {X : Type 0} (P : X → Type 0) → ((x : X) → P x) → (xs : List X) → All P xs
everywhere P f [] = All-nil P
everywhere P f (x ∷ xs) = All-cons P x xs (f x) (everywhere P f xs)

-- of each that is among them
pub of_each : {X : Type 0} (P : X → Type 0) (xs : List X) → ((x : X) → Contains xs x → P x) → All P xs
of_each P [] f = All-nil P
of_each P (x ∷ xs) f = All-cons P x xs (f x (0, omega arith, refl)) (of_each P xs (λ y has. f y (suc has.0, omega (arith, has.1), has.2)))

pub both_weaker : {X : Type 0} (P Q R : X → Type 0) → ((x : X) → P x → Q x → R x) → (xs : List X) → All P xs → All Q xs → All R xs
both_weaker P Q R f [] h g = All-nil R
both_weaker P Q R f (x ∷ xs) h g =
    All-cons R x xs (f x (All-head P x xs h) (All-head Q x xs g)) (both_weaker P Q R f xs (All-tail P x xs h) (All-tail Q x xs g))

-- ---- what a row at a place tells

cell_found : (rows : List (List Term)) (place other column : ℕ) (row : List Term) (t : Term) (one : Bool) → nat_eq other place ≡ one → slice_get rows place ≡ Some row →
    (if one then slice_get row column else None) ≡ Some t → option_and_then (λ its. slice_get its column) (slice_get rows other) ≡ Some t
cell_found rows place other column row t true is at e =
    let here : slice_get rows other ≡ Some row = subst (λ q. slice_get rows q ≡ Some row) (sym (eqb-true other place is)) at in
    ap (λ (o : Option (List Term)). option_and_then (λ its. slice_get its column) o) here ∙ e
cell_found rows place other column row t false is at e = cc

-- it is what the operand stands for
pub term_found : (rows : List (List Term)) (place : ℕ) (row : List Term) (x : Operand) (t : Term) → slice_get rows place ≡ Some row → term_at place row x ≡ Some t → term_of rows x ≡ Some t
term_found rows place row (operands.Col other column) t at e = cell_found rows place other column row t (nat_eq other place) refl at e
term_found rows place row (operands.Val v) t at e = e
term_found rows place row (operands.Param n) t at e = e
term_found rows place row (operands.Var n) t at e = e

module _ (moves : List Move) where
  pub at_unmoved : (o : Option Term) (t : Term) → o ≡ Some t → IsUnmovedIf moves o → IsUnmoved moves t
  at_unmoved o t e h = subst (IsUnmovedIf moves) e h

  abbrev pub AreUnmoved : List Term → Type 0
  AreUnmoved terms = All (IsUnmoved moves) terms

  -- ---- rows without moved terms

  pub cell_unmoved : (terms : List Term) → AreUnmoved terms → (column : ℕ) → IsUnmovedIf moves (slice_get terms column)
  cell_unmoved [] h column = tt
  cell_unmoved (t ∷ terms) h zero = All-head (IsUnmoved moves) t terms h
  cell_unmoved (t ∷ terms) h (suc column) = cell_unmoved terms (All-tail (IsUnmoved moves) t terms h) column

  cell_if : (row : List Term) (column : ℕ) (one : Bool) → AreUnmoved row → IsUnmovedIf moves (if one then slice_get row column else None)
  cell_if row column true h = cell_unmoved row h column
  cell_if row column false h = tt

  term_unmoved : (place : ℕ) (row : List Term) → AreUnmoved row → (x : Operand) → IsUnmovedIf moves (term_at place row x)
  term_unmoved place row h (operands.Col other column) = cell_if row column (nat_eq other place) h
  term_unmoved place row h (operands.Val v) = tt
  term_unmoved place row h (operands.Param n) = tt
  term_unmoved place row h (operands.Var n) = tt

  pub row_read : (part : Part) (place : ℕ) (row : List Term) → AreUnmoved row → ReadsUnmoved moves part place row
  row_read part place row h =
      record {
        conds = everywhere (UnmovedSides moves place row) (λ atom. (term_unmoved place row h atom.left, term_unmoved place row h atom.right)) part.conds;
        head = everywhere (λ (x : Operand). IsUnmovedIf moves (term_at place row x)) (term_unmoved place row h) part.head;
      }

  -- ---- operands that stand for no moved term

  abbrev pub IsOldOn : List (List Term) → Operand → Type 0
  IsOldOn rows x = (t : Term) → term_of rows x ≡ Some t → IsUnmoved moves t

  abbrev pub AreOldOn : List (List Term) → Atom → Type 0
  AreOldOn rows atom = IsOldOn rows atom.left × IsOldOn rows atom.right

  cell_old : (rows : List (List Term)) (place column : ℕ) (o : Option (List Term)) (t : Term) → slice_get rows place ≡ o → option_and_then (λ row. slice_get row column) o ≡ Some t →
      ((q : ℕ) (row : List Term) → slice_get rows q ≡ Some row → IsUnmovedIf moves (term_at q row (operands.Col place column))) → IsUnmoved moves t
  cell_old rows place column None t is e reads = cc
  cell_old rows place column (Some row) t is e reads =
      at_unmoved (slice_get row column) t e
      (subst (λ (one : Bool). IsUnmovedIf moves (if one then slice_get row column else None)) (eq-eqb place place refl) (reads place row is))

  operand_old : (rows : List (List Term)) (x : Operand) → ((place : ℕ) (row : List Term) → slice_get rows place ≡ Some row → IsUnmovedIf moves (term_at place row x)) → IsOldOn rows x
  operand_old rows (operands.Col place column) reads t e = cell_old rows place column (slice_get rows place) t refl e reads
  operand_old rows (operands.Val v) reads t e = let is : Val v ≡ t = cc in subst (IsUnmoved moves) is tt
  operand_old rows (operands.Param n) reads t e = let is : Param n ≡ t = cc in subst (IsUnmoved moves) is tt
  operand_old rows (operands.Var n) reads t e = let is : Var n ≡ t = cc in subst (IsUnmoved moves) is tt

  -- where the part reads no moved term in any of the rows
  module _ (part : Part) (rows : List (List Term)) (reads : (place : ℕ) (row : List Term) → slice_get rows place ≡ Some row → ReadsUnmoved moves part place row) where
    pub conds_old : All (AreOldOn rows) part.conds
    conds_old =
        of_each (AreOldOn rows) part.conds
        (λ atom has. (
          operand_old rows atom.left (λ place row at. (All-contains (UnmovedSides moves place row) part.conds atom (reads place row at).conds has).0),
          operand_old rows atom.right (λ place row at. (All-contains (UnmovedSides moves place row) part.conds atom (reads place row at).conds has).1),
        ))

    pub head_old : All (IsOldOn rows) part.head
    head_old =
        of_each (IsOldOn rows) part.head
        (λ x has. operand_old rows x (λ place row at. All-contains (λ (y : Operand). IsUnmovedIf moves (term_at place row y)) part.head x (reads place row at).head has))

    pub sides_old : (atom : TermAtom) → Any (GivesAtom rows atom) part.conds → IsUnmoved moves atom.left × IsUnmoved moves atom.right
    sides_old atom (n, cond, below, is, gives) =
        let both = All-contains (AreOldOn rows) part.conds cond conds_old (n, below, is) in
        (both.0 atom.left gives.left, both.1 atom.right gives.right)
