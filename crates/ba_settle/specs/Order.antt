-- The order of steps, and that in which a search takes them.
use Rattle.std.specs.Prelude.{ℕ, List, [], Option, Some, None}
use Rattle.std.specs.Option.{option_cmp}
use Rattle.std.specs.Ordering.{flip_args, nat_cmp, on, then_cmp}
use Rattle.std.specs.Cmp.Lexicographic.{slice_cmp}
use Rattle.std.specs.declared.cmp.Ordering.{Ordering}
use Rattle.ba_model.specs.Order.{value_cmp}
use Rattle.ba_model.specs.declared.query.Op.{Op}
use Rattle.ba_model.specs.declared.query.Op.TheVariants.{Eq, Ne, Lt, Le, IsNull, NotNull}
use Rattle.ba_model.specs.declared.value.Value.{Value}
use Rattle.ba_facts.specs.declared.term.Term.{Term}
use Rattle.ba_facts.specs.declared.term.Term.TheVariants.{Unknown, Val, Param, Var}
use Rattle.ba_facts.specs.declared.term.TermAtom.{TermAtom}
use Rattle.ba_kernel.specs.Courses.{branch_of}
use Rattle.ba_kernel.specs.declared.step.Step.{Step}
use Rattle.ba_kernel.specs.declared.step.Step.TheVariants as steps
use Rattle.ba_settle.specs.declared.order.Pick.{Pick}
use Rattle.ba_settle.specs.declared.order.Pick.TheVariants.{First, Last}

-- ---- terms and atoms

-- unknowns, literals, parameters, variables
abbrev pub term_rank : Term → ℕ
term_rank (Unknown n) = 0
term_rank (Val v) = 1
term_rank (Param n) = 2
term_rank (Var n) = 3

-- the number of what has one
abbrev pub term_number : Term → ℕ
term_number (Unknown n) = n
term_number (Val v) = 0
term_number (Param n) = n
term_number (Var n) = n

abbrev pub term_value : Term → Option Value
term_value (Unknown n) = None
term_value (Val v) = Some v
term_value (Param n) = None
term_value (Var n) = None

-- by kind, then by number, or for literals by value
abbrev pub term_cmp : Term → Term → Ordering
term_cmp =
    then_cmp (then_cmp (on term_rank nat_cmp) (on term_number nat_cmp))
    (on term_value (option_cmp value_cmp))

abbrev pub op_rank : Op → ℕ
op_rank Eq = 0
op_rank Ne = 1
op_rank Lt = 2
op_rank Le = 3
op_rank IsNull = 4
op_rank NotNull = 5

-- by the comparison, then by the left and the right term
abbrev pub atom_cmp : TermAtom → TermAtom → Ordering
atom_cmp =
    then_cmp (then_cmp (on (λ atom. op_rank atom.op) nat_cmp) (on (λ atom. atom.left) term_cmp))
    (on (λ atom. atom.right) term_cmp)

-- ---- steps

abbrev pub step_rank : Step → ℕ
step_rank (steps.Entry branch entry) = 0
step_rank (steps.Key branch key left right) = 1
step_rank (steps.Link branch link fact) = 2
step_rank (steps.Rule branch rule part facts) = 3
step_rank (steps.View branch view part facts) = 4
step_rank (steps.Split branch atom) = 5
step_rank (steps.Absurd branch) = 6
step_rank (steps.Goal branch part facts) = 7

-- what stands behind the branch and before the list of facts, from left to right, and 0 where
-- nothing stands
abbrev pub step_numbers : Step → ℕ × ℕ × ℕ
step_numbers (steps.Entry branch entry) = (entry, 0, 0)
step_numbers (steps.Key branch key left right) = (key, left, right)
step_numbers (steps.Link branch link fact) = (link, fact, 0)
step_numbers (steps.Rule branch rule part facts) = (rule, part, 0)
step_numbers (steps.View branch view part facts) = (view, part, 0)
step_numbers (steps.Split branch atom) = (0, 0, 0)
step_numbers (steps.Absurd branch) = (0, 0, 0)
step_numbers (steps.Goal branch part facts) = (part, 0, 0)

abbrev pub step_facts : Step → List ℕ
step_facts (steps.Entry branch entry) = []
step_facts (steps.Key branch key left right) = []
step_facts (steps.Link branch link fact) = []
step_facts (steps.Rule branch rule part facts) = facts
step_facts (steps.View branch view part facts) = facts
step_facts (steps.Split branch atom) = []
step_facts (steps.Absurd branch) = []
step_facts (steps.Goal branch part facts) = facts

abbrev pub step_atom : Step → Option TermAtom
step_atom (steps.Entry branch entry) = None
step_atom (steps.Key branch key left right) = None
step_atom (steps.Link branch link fact) = None
step_atom (steps.Rule branch rule part facts) = None
step_atom (steps.View branch view part facts) = None
step_atom (steps.Split branch atom) = Some atom
step_atom (steps.Absurd branch) = None
step_atom (steps.Goal branch part facts) = None

-- by branch and kind
abbrev pub kind_cmp : Step → Step → Ordering
kind_cmp = then_cmp (on branch_of nat_cmp) (on step_rank nat_cmp)

-- by the numbers from left to right
abbrev pub numbers_cmp : Step → Step → Ordering
numbers_cmp =
    then_cmp (then_cmp (then_cmp (on (λ s. (step_numbers s).0) nat_cmp)
    (on (λ s. (step_numbers s).1) nat_cmp)) (on (λ s. (step_numbers s).2) nat_cmp))
    (on step_facts (slice_cmp nat_cmp))

-- The order of steps: by branch, then by kind, then by their numbers from left to right; splits by
-- their atoms.
unfoldable pub step_cmp : Step → Step → Ordering
step_cmp = then_cmp (then_cmp kind_cmp numbers_cmp) (on step_atom (option_cmp atom_cmp))

-- what a search takes earlier is less
unfoldable pub pick_cmp : Pick → Step → Step → Ordering
pick_cmp First = step_cmp
pick_cmp Last = flip_args step_cmp
