use Rattle.std.proofs.Common.{◌≡◌, ◌∙◌, ◌∷◌, ◌++◌, [], ap, refl, arith}
use Rattle.ba_cache.proofs.Histories.{counts, goes_on, told_is}
use Rattle.ba_cache.specs.declared.call.ShelfCall.TheVariants.{Look, Refused}
use Rattle.ba_cache.proofs.shelf.Shelf.look.Goals as goal

pub invariant_of-self : goal.invariant_of-self
invariant_of-self c =
    let v = c.args.self.now in
    let call = Look (record { marker = record {}; value = c.args.shape.now }) (record { marker = record {}; value = c.in-Ok.templates }) in
    let told = told_is c.of-told.result c.args.shape.now c.of-told.ensures in
    let found = told_is c.of-found.result c.in-Ok.templates c.of-found.ensures in
    let more : c.push_reserved.new.self.items ≡ v.calls.items ++ call ∷ [] = c.push_reserved.ensures.items ∙ (λ i. v.calls.items ++ Look (told i) (found i) ∷ []) in
    let count = counts v.calls.items c.push_reserved.new.self.items call v.added 0 v.counted more refl in
    let few = v.few in
    let len = c.push_reserved.ensures.len in
    record {
      legal = goes_on v.calls.items c.push_reserved.new.self.items v.rows.entries c.look.new.rows.entries v.added call v.legal v.counted c.in-Ok.ensures.looks more;
      counted = omega arith;
      few = omega arith;
      most = c.look.ensures.cap ∙ v.most;
    }

pub invariant_of-self-in-Err : goal.invariant_of-self-in-Err
invariant_of-self-in-Err c =
    let v = c.args.self.now in
    let more = c.push_reserved-in-Err.ensures.items in
    let count = counts v.calls.items c.push_reserved-in-Err.new.self.items Refused v.added 0 v.counted more refl in
    let few = v.few in
    let len = c.push_reserved-in-Err.ensures.len in
    record {
      legal = goes_on v.calls.items c.push_reserved-in-Err.new.self.items v.rows.entries c.look.new.rows.entries v.added Refused v.legal v.counted (ap (λ r. r.entries) c.in-Err.ensures.err) more;
      counted = omega arith;
      few = omega arith;
      most = c.look.ensures.cap ∙ v.most;
    }

pub returns-in-Ok-clause-call : goal.returns-in-Ok-clause-call
returns-in-Ok-clause-call c =
    let told = told_is c.of-told.result c.args.shape.now c.of-told.ensures in
    let found = told_is c.of-found.result c.in-Ok.templates c.of-found.ensures in
    c.push_reserved.ensures.items ∙ (λ i. c.args.self.now.calls.items ++ Look (told i) (found i) ∷ [])
