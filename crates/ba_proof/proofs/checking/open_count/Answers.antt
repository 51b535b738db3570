use Rattle.std.proofs.Common.{◌≡◌, ◌∙◌, ◌<◌, length, sym, ap, arith}
use Rattle.std.specs.Prelude.{is_some}
use Rattle.ba_kernel.specs.SearchStates.{open_at}
use Rattle.ba_proof.proofs.CheckLemmas.{is_some_map, none_open, one_open}
use Rattle.ba_proof.proofs.checking.open_count.Goals as goal
use Rattle.ba_proof.proofs.checking.open_count.Goals.{then-is_some, else-is_some}

pub loop-number-preserved : goal.loop-number-preserved
loop-number-preserved c =
    let slots = c.args.search.now.slots in
    let n = c.loop-number.number in
    let before = c.loop-number.invariant in
    let within : n < length slots = omega (arith, c.loop-number-test.true, c.branches-number-end.ensures) in
    let test : c.is_some.result ≡ is_some (open_at slots n) =
    c.is_some.ensures ∙ (sym (is_some_map _ c.branch-search.result) ∙ ap is_some c.branch-search.ensures) in
    elim c.if-is_some.branch [
      | then-is_some w ↦ (
        w.count-is ∙ one_open slots n c.loop-number.count within (sym test ∙ w.if-is_some.true) before.0,
        omega (arith, w.count-is, before.1),
      )
      | else-is_some w ↦ (
        w.count-is ∙ none_open slots n c.loop-number.count within (sym test ∙ w.if-is_some.false) before.0,
        omega (arith, w.count-is, before.1),
      )
    ]
