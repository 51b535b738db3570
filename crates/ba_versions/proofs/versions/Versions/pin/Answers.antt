use Rattle.std.proofs.Common.{◌∙◌, ◌-◌, ◌∷◌, ◌++◌, [], ap, refl, arith}
use Rattle.std.specs.declared.snapshot.Snapshot.{Snapshot}
use Rattle.ba_tables.specs.TableSet.{TableSet}
use Rattle.ba_versions.proofs.Legal.{conform_is, goes_on, last_is, told_is}
use Rattle.ba_versions.specs.declared.call.VersionCall.TheVariants.{Pin, Refused}
use Rattle.ba_versions.proofs.versions.Versions.pin.Goals as goal

pub invariant_of-self : goal.invariant_of-self
invariant_of-self c =
    let v = c.args.self.now in
    let n = c.len-number.result - 1 in
    let told = told_is c.of-told.result c.in-Ok.tables (c.of-told.ensures ∙ c.deref-in-Ok.ensures) in
    let conforms = conform_is _ _ c.in-Ok.tables c.deref.ensures c.schema-conforming.ensures.is c.schema-conforming.ensures.conform in
    let last = last_is v.opening.value v.tables.items c.len-number.result n c.in-Ok.tables c.index.result.now (c.len-number.ensures ∙ v.tables.ok.0) (omega (arith, c.len-number.ensures, v.some)) refl c.index.ensures c.in-Ok.ensures conforms v.schemas in
    let calls_len = c.push_reserved.ensures.len in
    let few = v.few in
    record {
      legal = goes_on v.opening.value v.calls.items _ v.tables.items v.tables.items (Pin n (record { marker = record {}; value = c.in-Ok.tables })) v.legal last.0 (c.push_reserved.ensures.items ∙ ap (λ (s : Snapshot TableSet). v.calls.items ++ Pin n s ∷ []) told);
      schemas = v.schemas;
      some = v.some;
      few = omega arith;
    }

pub invariant_of-self-in-Err : goal.invariant_of-self-in-Err
invariant_of-self-in-Err c =
    let v = c.args.self.now in
    let calls_len = c.push_reserved-in-Err.ensures.len in
    let few = v.few in
    record {
      legal = goes_on v.opening.value v.calls.items _ v.tables.items v.tables.items Refused v.legal refl c.push_reserved-in-Err.ensures.items;
      schemas = v.schemas;
      some = v.some;
      few = omega arith;
    }

pub returns-in-Ok-clause-step : goal.returns-in-Ok-clause-step
returns-in-Ok-clause-step c =
    let v = c.args.self.now in
    let conforms = conform_is _ _ c.in-Ok.tables c.deref.ensures c.schema-conforming.ensures.is c.schema-conforming.ensures.conform in
    (last_is v.opening.value v.tables.items c.len-number.result (c.len-number.result - 1) c.in-Ok.tables c.index.result.now (c.len-number.ensures ∙ v.tables.ok.0) (omega (arith, c.len-number.ensures, v.some)) refl c.index.ensures c.in-Ok.ensures conforms v.schemas).0

pub returns-in-Ok-clause-version : goal.returns-in-Ok-clause-version
returns-in-Ok-clause-version c =
    let v = c.args.self.now in
    let conforms = conform_is _ _ c.in-Ok.tables c.deref.ensures c.schema-conforming.ensures.is c.schema-conforming.ensures.conform in
    (last_is v.opening.value v.tables.items c.len-number.result (c.len-number.result - 1) c.in-Ok.tables c.index.result.now (c.len-number.ensures ∙ v.tables.ok.0) (omega (arith, c.len-number.ensures, v.some)) refl c.index.ensures c.in-Ok.ensures conforms v.schemas).1

pub returns-in-Ok-clause-call : goal.returns-in-Ok-clause-call
returns-in-Ok-clause-call c =
    let v = c.args.self.now in
    let n = c.len-number.result - 1 in
    let told = told_is c.of-told.result c.in-Ok.tables (c.of-told.ensures ∙ c.deref-in-Ok.ensures) in
    c.push_reserved.ensures.items ∙ ap (λ (s : Snapshot TableSet). v.calls.items ++ Pin n s ∷ []) told
