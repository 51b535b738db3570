-- The orders of steps are total.
use Rattle.std.specs.Cmp.{IsTotalOrder, back_total, nat_cmp_total, on_total, then_total}
use Rattle.std.specs.Cmp.Lexicographic.{nat_list_cmp_total, options_total}
use Rattle.ba_model.specs.OrderLaws.{value_total}
use Rattle.ba_facts.specs.declared.term.TermAtom.{TermAtom}
use Rattle.ba_kernel.specs.Courses.{branch_of}
use Rattle.ba_kernel.specs.declared.step.Step.{Step}
use Rattle.ba_settle.specs.Order.{atom_cmp, kind_cmp, numbers_cmp, op_rank, pick_cmp, step_atom, step_cmp, step_facts, step_numbers, step_rank, term_cmp, term_number, term_rank, term_value}
use Rattle.ba_settle.specs.declared.order.Pick.{Pick}
use Rattle.ba_settle.specs.declared.order.Pick.TheVariants.{First, Last}

term_total : IsTotalOrder term_cmp
term_total = then_total (then_total (on_total term_rank nat_cmp_total) (on_total term_number nat_cmp_total)) (on_total term_value (options_total value_total))

atom_total : IsTotalOrder atom_cmp
atom_total =
    then_total (then_total (on_total (λ (atom : TermAtom). op_rank atom.op) nat_cmp_total) (on_total (λ (atom : TermAtom). atom.left) term_total))
    (on_total (λ (atom : TermAtom). atom.right) term_total)

kind_total : IsTotalOrder kind_cmp
kind_total = then_total (on_total branch_of nat_cmp_total) (on_total step_rank nat_cmp_total)

numbers_total : IsTotalOrder numbers_cmp
numbers_total =
    then_total
    (then_total (then_total (on_total (λ (s : Step). (step_numbers s).0) nat_cmp_total) (on_total (λ (s : Step). (step_numbers s).1) nat_cmp_total))
    (on_total (λ (s : Step). (step_numbers s).2) nat_cmp_total))
    (on_total step_facts nat_list_cmp_total)

pub step_total : IsTotalOrder step_cmp
unfolding step_cmp
step_total = then_total (then_total kind_total numbers_total) (on_total step_atom (options_total atom_total))

pub pick_total : (pick : Pick) → IsTotalOrder (pick_cmp pick)
unfolding pick_cmp
pick_total First = step_total
pick_total Last = back_total step_total
