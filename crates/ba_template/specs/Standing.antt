-- The test of a variable: whether it is among operands.
use Rattle.std.specs.Prelude.{ℕ, Bool, false, ◌||◌, ◌==◌}
use Rattle.std.specs.List.{list_any}
use Rattle.ba_model.specs.declared.query.Atom.{Atom}
use Rattle.ba_model.specs.declared.query.Operand.{Operand}
use Rattle.ba_model.specs.declared.query.Operand.TheVariants.{Col, Val, Param, Var}
use Rattle.ba_model.specs.declared.query.Part.{Part}
use Rattle.ba_model.specs.declared.query.Query.{Query}
use Rattle.ba_kernel.specs.declared.problem.Problem.{Problem}
use Rattle.ba_kernel.specs.declared.problem.ProblemEntry.{ProblemEntry}

abbrev pub is_var : ℕ → Operand → Bool
is_var n (Col place column) = false
is_var n (Val v) = false
is_var n (Param m) = false
is_var n (Var m) = m == n

abbrev pub in_atom : ℕ → Atom → Bool
in_atom n atom = is_var n atom.left || is_var n atom.right

abbrev pub in_part : ℕ → Part → Bool
in_part n part = list_any (is_var n) part.head || list_any (in_atom n) part.conds

abbrev pub in_query : ℕ → Query → Bool
in_query n q = list_any (in_part n) q.parts

abbrev pub in_entry : ℕ → ProblemEntry → Bool
in_entry n entry = in_query n entry.query || list_any (is_var n) entry.row

abbrev pub in_problem : ℕ → Problem → Bool
in_problem n p = in_query n p.goal || list_any (in_entry n) p.entries
