-- Decision templates: a proved problem whose variables stand for the literals of a question and of what was shown before it.
use Rattle.std.specs.Prelude.{ℕ, ◌<◌, List, [], ◌∷◌, ◌++◌, Contains, length}
use Rattle.std.specs.List.{flat_map}
use Rattle.ba_model.specs.declared.query.Atom.{Atom}
use Rattle.ba_model.specs.declared.query.Operand.{Operand}
use Rattle.ba_model.specs.declared.query.Operand.TheVariants.{Var}
use Rattle.ba_model.specs.declared.query.Part.{Part}
use Rattle.ba_model.specs.declared.query.Query.{Query}
use Rattle.ba_kernel.specs.Courses.{ProblemFits}
use Rattle.ba_kernel.specs.SearchStates.{IsProved}
use Rattle.ba_kernel.specs.declared.problem.Problem.{Problem}
use Rattle.ba_kernel.specs.declared.problem.ProblemEntry.{ProblemEntry}
use Rattle.ba_kernel.specs.declared.step.Step.{Step}

-- ---- the operands of a problem, in printed order: part by part the head, then the atoms, left before right

abbrev pub sides : Atom → List Operand
sides atom = atom.left ∷ atom.right ∷ []

abbrev pub operands_of_part : Part → List Operand
operands_of_part part = part.head ++ flat_map sides part.conds

abbrev pub operands_of : Query → List Operand
operands_of q = flat_map operands_of_part q.parts

-- of an entry its query's, then its row's
abbrev pub operands_of_entry : ProblemEntry → List Operand
operands_of_entry entry = operands_of entry.query ++ entry.row

-- the goal's, then those of each entry
abbrev pub operands_of_problem : Problem → List Operand
operands_of_problem p = operands_of p.goal ++ flat_map operands_of_entry p.entries

-- ---- templates

-- each variable stands in the goal or an entry
pub record EachVarStands (p : Problem) : Type 0 where
  pub stands : (n : ℕ) → n < length p.vars → Contains (operands_of_problem p) (Var n)

-- The problem is well formed; the steps prove it: they are at most 100,000, are accepted from its start and leave no branch open, and each instance that meets
-- what is assumed is strongly compliant; and each variable stands in the goal or an entry.
pub record IsTemplate (p : Problem) (steps : List Step) : Type 0 where
  pub fits : ProblemFits p
  pub proved : IsProved p steps
  pub stands : EachVarStands p
