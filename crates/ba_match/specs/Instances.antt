-- A template's steps with a match's values and places: steps of the question's own problem.
use Rattle.std.specs.Prelude.{◌≡◌, ℕ, ◌+◌, List, [], ◌∷◌, Option, Some, None, length, map, slice_get, take, unwrap_or}
use Rattle.std.specs.List.{AllZip, sum_by}
use Rattle.ba_model.specs.declared.value.Value.{Value}
use Rattle.ba_comply.specs.declared.trace.TraceEntry.{TraceEntry}
use Rattle.ba_facts.specs.declared.term.Term.{Term}
use Rattle.ba_facts.specs.declared.term.Term.TheVariants.{Unknown, Val, Param, Var}
use Rattle.ba_facts.specs.declared.term.TermAtom.{TermAtom}
use Rattle.ba_kernel.specs.declared.step.Step.{Step}
use Rattle.ba_kernel.specs.declared.step.Step.TheVariants as steps
use Rattle.ba_template.specs.declared.found.Match.{Match}

-- a variable is replaced by its value
abbrev pub variable_with : ℕ → Option Value → Term
variable_with n None = Var n
variable_with n (Some v) = Val v

abbrev pub term_with : List Value → Term → Term
term_with values (Unknown n) = Unknown n
term_with values (Val v) = Val v
term_with values (Param n) = Param n
term_with values (Var n) = variable_with n (slice_get values n)

abbrev pub atom_with : List Value → TermAtom → TermAtom
atom_with values atom = record {
  op = atom.op;
  left = term_with values atom.left;
  right = term_with values atom.right;
}

-- an entry's number is replaced by the one that is listed for it
abbrev pub number_in : List ℕ → ℕ → ℕ
number_in numbers entry = unwrap_or (slice_get numbers entry) entry

-- the step with these values for variables, and these numbers for entries
unfoldable pub step_with : List Value → List ℕ → Step → Step
step_with values numbers (steps.Entry branch entry) = steps.Entry branch (number_in numbers entry)
step_with values numbers (steps.Key branch key left right) = steps.Key branch key left right
step_with values numbers (steps.Link branch link fact) = steps.Link branch link fact
step_with values numbers (steps.Rule branch rule part facts) = steps.Rule branch rule part facts
step_with values numbers (steps.View branch view part facts) = steps.View branch view part facts
step_with values numbers (steps.Split branch atom) = steps.Split branch (atom_with values atom)
step_with values numbers (steps.Absurd branch) = steps.Absurd branch
step_with values numbers (steps.Goal branch part facts) = steps.Goal branch part facts

abbrev pub steps_with : List Value → List ℕ → List Step → List Step
steps_with values numbers taken = map (step_with values numbers) taken

-- how many rows the first entries of a trace have, so many
abbrev pub rows_before : List TraceEntry → ℕ → ℕ
rows_before trace count = sum_by (λ (it : TraceEntry). length it.rows) (take count trace)

-- The number of the row at a place: the problem of a question after the trace has an entry for each
-- recorded row, in order, and this is the number of the row's.
abbrev pub number_at : List TraceEntry → ℕ × ℕ → ℕ
number_at trace place = rows_before trace place.0 + place.1

-- the instance of a template's steps after the trace: the match's values stand for the variables,
-- and the number of the row at its place for each entry
abbrev pub instance_of : Match → List TraceEntry → List Step → List Step
instance_of found trace taken =
    steps_with found.values (map (number_at trace) found.places) taken

-- the row at the place alone, with its query
pub record IsToldAt (trace : List TraceEntry) (place : ℕ × ℕ) (it : TraceEntry) : Type 0 where
  pub of : TraceEntry
  pub row : List Value
  pub entry_is : slice_get trace place.0 ≡ Some of
  pub row_is : slice_get of.rows place.1 ≡ Some row
  pub is : it ≡ record { query = of.query; rows = row ∷ [] }

-- the rows at the places, each with its query, in the places' order
abbrev pub AreToldAt : List TraceEntry → List (ℕ × ℕ) → List TraceEntry → Type 0
AreToldAt trace places told = AllZip (IsToldAt trace) places told
