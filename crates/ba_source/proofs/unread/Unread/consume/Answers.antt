use Rattle.std.proofs.Common.{◌∙◌, ◌≤◌, ap, drop, length, subst, sym}
use Rattle.ba_source.proofs.StdLemmas.{taken_from}
use Rattle.ba_source.proofs.unread.Unread.consume.Goals as goal

pub returns : goal.returns
returns c =
    let some = subst (λ xs. c.args.count ≤ length xs) (sym c.self.view_is) c.requires in
    taken_from c.self.inside.piece.items c.self.inside.from c.self.inside.to c.args.count some ∙ ap (drop c.args.count) c.self.view_is
