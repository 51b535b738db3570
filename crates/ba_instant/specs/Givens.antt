-- Rows of terms in place of facts, by which a row may be given already.
use Rattle.std.specs.Prelude.{◌≡◌, List, [], ◌∷◌, All, Some, map}
use Rattle.std.specs.List.{AllZip}
use Rattle.ba_model.specs.declared.query.Operand.{Operand}
use Rattle.ba_model.specs.declared.query.Part.{Part}
use Rattle.ba_model.specs.declared.schema.Schema.{Schema}
use Rattle.ba_facts.specs.Known.{Known}
use Rattle.ba_facts.specs.Matches.{IsShown, Under, term_of}
use Rattle.ba_facts.specs.declared.branch.Branch.{Branch}
use Rattle.ba_facts.specs.declared.term.Term.{Term}
use Rattle.ba_instant.specs.QuietSteps.{GivesRow, IsOneWith, IsPlain, IsRowFor}

-- the operand stands for a term, with which the place is of one class
pub record IsHeadPlace (k : Known) (rows : List (List Term)) (x y : Operand) : Type 0 where
  pub term : Term
  pub is : term_of [] y ≡ Some term
  pub one : IsOneWith k (term_of rows x) term

-- place by place, the head over the rows is of one class with what the row's operands stand for
abbrev pub IsHeadOf : Known → List (List Term) → List Operand → List Operand → Type 0
IsHeadOf k rows [] [] = Unit {0}
IsHeadOf k rows [] (y ∷ row) = ⊥
IsHeadOf k rows (x ∷ head) [] = ⊥
IsHeadOf k rows (x ∷ head) (y ∷ row) = IsHeadPlace k rows x y × IsHeadOf k rows head row

-- the rows of terms fit the part's tables, and its atoms and head are known of them
pub record GivesBy (s : Schema) (b : Branch) (part : Part) (rows : List (List Term))
    (row : List Operand) : Type 0 where
  pub rows_for : AllZip (IsRowFor s b.known) part.from rows
  pub shown : All (IsShown b.known rows) part.conds
  pub plain : All (Under (IsPlain b.known) rows) part.conds
  pub head : IsHeadOf b.known rows part.head row

-- some rows of terms give what the operands stand for
pub record GivesSome (s : Schema) (b : Branch) (part : Part) (operands : List Operand)
    : Type 0 where
  pub row : List Term
  pub row_is : map (term_of []) operands ≡ map Some row
  pub rows : List (List Term)
  pub gives : GivesRow s b part rows row
