use Rattle.std.proofs.Common.{◌≡◌, ◌∙◌, sym}
use Rattle.ba_printed.proofs.KeyLemmas.{ended, no_more, one_more, ran_out}
use Rattle.ba_printed.proofs.shapes.keys_are.Goals as goal

pub returns-in-None : goal.returns-in-None
returns-in-None c =
    let left = c.in-None.ensures.steps.0 in
    ran_out (λ s. s.now) c.args.names.now c.loop-name.name-index _ c.loop-name-test.true (rw left at c.loop-name.invariant.2)

pub loop-name-preserved : goal.loop-name-preserved
loop-name-preserved c =
    let left = c.in-Some.ensures.steps in
    (tt, tt, one_more (λ s. s.now) c.args.names.now c.loop-name.name-index _ _ _ _ _ _ _ c.loop-name-test.true c.as_str.ensures.value (sym c.if-not-is_text.false ∙ c.is_text.ensures) (rw left at c.loop-name.invariant.2))

pub returns : goal.returns
returns c =
    let end = no_more (λ s. s.now) c.args.names.now c.loop-name.name-index _ _ c.loop-name-test.false c.loop-name.invariant.2 in
    ended (λ x. (x.0.now, x.1.now)) c.next-2.result c.loop-name.rest c.next-2.new.self c.is_none.result _ c.next-2.ensures.steps c.is_none.ensures end

pub returns-then-not-is_text : goal.returns-then-not-is_text
returns-then-not-is_text c =
    let left = c.in-Some.ensures.steps in
    one_more (λ s. s.now) c.args.names.now c.loop-name.name-index _ _ _ _ _ _ _ c.loop-name-test.true c.as_str.ensures.value (sym c.if-not-is_text.true ∙ c.is_text.ensures) (rw left at c.loop-name.invariant.2)
