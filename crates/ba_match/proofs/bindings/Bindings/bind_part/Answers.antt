use Rattle.std.proofs.Common.{◌≡◌, map}
use Rattle.std.proofs.lemmas.Result.{IfOk-weaker}
use Rattle.ba_kernel.specs.Problems.{operand_at, part_at}
use Rattle.ba_match.proofs.PatternLemmas.{part_told}
use Rattle.ba_match.specs.Bindings.{Narrows}
use Rattle.ba_match.proofs.bindings.Bindings.bind_part.Goals as goal

pub returns : goal.returns
returns c =
    IfOk-weaker c.bind_operands.result
    (Narrows (λ v. map (operand_at v) c.args.pattern.now.head ≡ c.args.part.now.head) c.bind_atoms.new.self c.bind_operands.new.self)
    (Narrows (λ v. part_at v c.args.pattern.now ≡ c.args.part.now) c.args.self.now c.bind_operands.new.self)
    (λ told h. part_told c.args.pattern.now c.args.part.now c.args.self.now c.bind_atoms.new.self c.bind_operands.new.self c.in_ok-told.told told
    (c.same.ensures.0 c.if-not-same.false) c.if-not-told.false (rw (c.as_slice.ensures, c.as_slice-2.ensures) at c.in_ok-told.ensures) h)
    (rw (c.as_slice-3.ensures, c.as_slice-4.ensures) at c.bind_operands.ensures)
