-- Rows of terms that were chosen give an entry's row.
use Rattle.std.proofs.Common.{◌≡◌, ℕ, List, [], ◌∷◌, map, refl}
use Rattle.std.specs.List.{AllZip}
use Rattle.std.specs.Prelude.{Some, slice_get}
use Rattle.ba_model.specs.declared.query.Operand.{Operand}
use Rattle.ba_model.specs.declared.query.Part.{Part}
use Rattle.ba_model.specs.declared.schema.Schema.{Schema}
use Rattle.ba_facts.specs.Known.{Known}
use Rattle.ba_facts.specs.Matches.{term_of}
use Rattle.ba_facts.specs.declared.branch.Branch.{Branch}
use Rattle.ba_facts.specs.declared.term.Term.{Term}
use Rattle.ba_kernel.specs.declared.problem.Problem.{Problem}
use Rattle.ba_kernel.specs.declared.problem.ProblemEntry.{ProblemEntry}
use Rattle.ba_instant.proofs.QuietStepLemmas.{told_as_shown}
use Rattle.ba_instant.specs.Givens.{GivesBy, GivesSome, IsHeadOf}
use Rattle.ba_instant.specs.QuietSteps.{IsOneWith, IsQuietEntry}

-- what the row's operands stand for
pub record IsRowOf (k : Known) (rows : List (List Term)) (head operands : List Operand) : Type 0 where
  pub row : List Term
  pub row_is : map (term_of []) operands ≡ map Some row
  pub same : AllZip (IsOneWith k) (map (term_of rows) head) row

pub row_of_head : (k : Known) (rows : List (List Term)) (head operands : List Operand) → IsHeadOf k rows head operands → IsRowOf k rows head operands
row_of_head k rows [] [] h = record { row = []; row_is = refl; same = tt }
row_of_head k rows [] (y ∷ operands) h = absurd h
row_of_head k rows (x ∷ head) [] h = absurd h
row_of_head k rows (x ∷ head) (y ∷ operands) h =
    let rest = row_of_head k rows head operands h.1 in
    let first = h.0 in
    record {
      row = first.term ∷ rest.row;
      row_is = λ i. first.is i ∷ rest.row_is i;
      same = (first.one, rest.same);
    }

pub gives_some : (s : Schema) (b : Branch) (part : Part) (rows : List (List Term)) (operands : List Operand) → GivesBy s b part rows operands → GivesSome s b part operands
gives_some s b part rows operands h =
    let head = row_of_head b.known rows part.head operands h.head in
    record {
      row = head.row;
      row_is = head.row_is;
      rows = rows;
      gives = record { rows_for = h.rows_for; told = told_as_shown b rows part.conds h.shown h.plain; head = head.same };
    }

pub quiet_entry : (p : Problem) (b : Branch) (entry : ℕ) (it : ProblemEntry) (of : Part) → slice_get p.entries entry ≡ Some it → slice_get it.query.parts 0 ≡ Some of →
    GivesSome p.policy.schema b of it.row → IsQuietEntry p b entry
quiet_entry p b entry it of there part_is h = record {
  it = it;
  there = there;
  of = of;
  part_is = part_is;
  row = h.row;
  row_is = h.row_is;
  rows = h.rows;
  gives = h.gives;
}
