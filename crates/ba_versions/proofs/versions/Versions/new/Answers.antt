use Rattle.std.proofs.Common.{◌∙◌, ◌∷◌, ◌++◌, [], List, ap, arith}
use Rattle.ba_tables.specs.TableSet.{TableSet}
use Rattle.ba_versions.proofs.Legal.{conform_is, starts}
use Rattle.ba_versions.proofs.versions.Versions.new.Goals as goal

pub invariant_of-result : goal.invariant_of-result
invariant_of-result c =
    let conforms = conform_is _ _ c.args.tables c.deref-2.ensures c.schema-conforming.ensures.is c.schema-conforming.ensures.conform in
    let k = starts c.of-opening.result.value c.args.tables c.new.result.items c.push_reserved.new.self.items (c.of-opening.ensures ∙ c.deref.ensures) conforms c.new.ensures.items (c.push_reserved.ensures.items ∙ ap (λ (l : List TableSet). l ++ c.args.tables ∷ []) c.in_ok-list.ensures.items) in
    let one = c.push_reserved.ensures.len in
    let none = c.in_ok-list.ensures.len in
    record { legal = k.0; schemas = k.1; some = omega arith; few = omega arith }
