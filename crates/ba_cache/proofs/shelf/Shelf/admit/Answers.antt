use Rattle.std.proofs.Common.{◌≡◌, ◌∙◌, ◌∷◌, ◌++◌, [], ap, refl, arith}
use Rattle.std.specs.declared.snapshot.Snapshot.{Snapshot}
use Rattle.ba_kernel.specs.SearchStates.{Proof}
use Rattle.ba_cache.proofs.Histories.{added_here, counts, goes_on, is_template, most_one, told_is}
use Rattle.ba_cache.specs.Rows.{added_by}
use Rattle.ba_cache.specs.declared.call.ShelfCall.TheVariants.{Admit, Refused}
use Rattle.ba_cache.proofs.shelf.Shelf.admit.Goals as goal

pub invariant_of-self : goal.invariant_of-self
invariant_of-self c =
    let v = c.args.self.now in
    let t = c.args.template in
    let snap : Snapshot Proof = record { marker = record {}; value = t } in
    let call = Admit snap c.in-Ok.answer in
    let told = told_is c.of-told.result t (c.of-told.ensures ∙ c.deref.ensures) in
    let more : c.push_reserved.new.self.items ≡ v.calls.items ++ call ∷ [] = c.push_reserved.ensures.items ∙ (λ i. v.calls.items ++ Admit (told i) c.in-Ok.answer ∷ []) in
    let template = is_template c.deref-2.result.now t c.steps-steps.result.now c.deref-2.ensures c.steps-steps.ensures.is c.steps-steps.ensures.template in
    let count = counts v.calls.items c.push_reserved.new.self.items call v.added (added_by c.in-Ok.answer) v.counted more (added_here snap c.in-Ok.answer) in
    let after = c.count_after-self.ensures in
    let one = most_one c.in-Ok.answer in
    let few = v.few in
    let len = c.push_reserved.ensures.len in
    record {
      legal = goes_on v.calls.items c.push_reserved.new.self.items v.rows.entries c.admit.new.rows.entries v.added call v.legal v.counted (template, c.in-Ok.ensures.admits) more;
      counted = after ∙ count;
      few = omega arith;
      most = c.admit.ensures.cap ∙ v.most;
    }

pub invariant_of-self-in-Err : goal.invariant_of-self-in-Err
invariant_of-self-in-Err c =
    let v = c.args.self.now in
    let more = c.push_reserved-in-Err.ensures.items in
    let count = counts v.calls.items c.push_reserved-in-Err.new.self.items Refused v.added 0 v.counted more refl in
    let few = v.few in
    let len = c.push_reserved-in-Err.ensures.len in
    record {
      legal = goes_on v.calls.items c.push_reserved-in-Err.new.self.items v.rows.entries c.admit.new.rows.entries v.added Refused v.legal v.counted (ap (λ r. r.entries) c.in-Err.ensures.err) more;
      counted = omega arith;
      few = omega arith;
      most = c.admit.ensures.cap ∙ v.most;
    }

pub returns-in-Ok-clause-call : goal.returns-in-Ok-clause-call
returns-in-Ok-clause-call c =
    let told = told_is c.of-told.result c.args.template (c.of-told.ensures ∙ c.deref.ensures) in
    c.push_reserved.ensures.items ∙ (λ i. c.args.self.now.calls.items ++ Admit (told i) c.in-Ok.answer ∷ [])
