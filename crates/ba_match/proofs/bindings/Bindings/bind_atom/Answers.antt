use Rattle.std.proofs.Common.{◌≡◌}
use Rattle.std.proofs.lemmas.Result.{IfOk-weaker}
use Rattle.ba_kernel.specs.Problems.{atom_at, operand_at}
use Rattle.ba_match.proofs.PatternLemmas.{atom_told}
use Rattle.ba_match.specs.Bindings.{Narrows}
use Rattle.ba_match.proofs.bindings.Bindings.bind_atom.Goals as goal

pub returns : goal.returns
returns c =
    IfOk-weaker c.bind_operand-2.result
    (Narrows (λ v. operand_at v c.args.pattern.now.right ≡ c.args.atom.now.right) c.bind_operand.new.self c.bind_operand-2.new.self)
    (Narrows (λ v. atom_at v c.args.pattern.now ≡ c.args.atom.now) c.args.self.now c.bind_operand-2.new.self)
    (λ told h. atom_told c.args.pattern.now c.args.atom.now c.args.self.now c.bind_operand.new.self c.bind_operand-2.new.self c.in_ok-told.told told
    (c.same.ensures.0 c.if-not-same.false) c.if-not-told.false c.in_ok-told.ensures h)
    c.bind_operand-2.ensures
