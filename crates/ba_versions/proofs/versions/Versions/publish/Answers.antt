use Rattle.std.proofs.Common.{◌∙◌, ◌∷◌, ◌++◌, [], ap, rules, arith}
use Rattle.std.specs.declared.snapshot.Snapshot.{Snapshot}
use Rattle.ba_tables.specs.TableSet.{TableSet}
use Rattle.ba_versions.proofs.Legal.{conform_is, goes_on, one_more, told_is}
use Rattle.ba_versions.specs.Reads.{published}
use Rattle.ba_versions.specs.declared.call.VersionCall.TheVariants.{Publish}
use Rattle.ba_versions.proofs.versions.Versions.publish.Goals as goal

pub invariant_of-self : goal.invariant_of-self
invariant_of-self c =
    let v = c.args.self.now in
    let told = told_is c.of-told.result c.args.tables (c.of-told.ensures ∙ c.deref-2.ensures) in
    let conforms = conform_is _ _ c.args.tables c.deref.ensures c.schema-conforming.ensures.is c.schema-conforming.ensures.conform in
    let legal = goes_on v.opening.value v.calls.items _ v.tables.items _ (published c.args.tables c.len-number.result) v.legal (record { version = record { schema = c.requires.schema; conforms = conforms }; number = search rules; appended = c.push_reserved.ensures.items }) (c.push_reserved-2.ensures.items ∙ ap (λ (s : Snapshot TableSet). v.calls.items ++ Publish s c.len-number.result ∷ []) told) in
    let tables_len = c.push_reserved.ensures.len in
    let calls_len = c.push_reserved-2.ensures.len in
    let some = v.some in
    let few = v.few in
    record {
      legal = legal;
      schemas = one_more v.opening.value v.tables.items _ c.args.tables v.schemas c.requires.schema c.push_reserved.ensures.items;
      some = omega arith;
      few = omega arith;
    }

pub returns-clause-call : goal.returns-clause-call
returns-clause-call c =
    let told = told_is c.of-told.result c.args.tables (c.of-told.ensures ∙ c.deref-2.ensures) in
    c.push_reserved-2.ensures.items ∙ ap (λ (s : Snapshot TableSet). c.args.self.now.calls.items ++ Publish s c.len-number.result ∷ []) told
