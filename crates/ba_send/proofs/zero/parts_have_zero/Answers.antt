use Rattle.std.proofs.Common.{◌≡◌, ◌∙◌, ◌||◌, Bool, List, ap, subst, sym, map}
use Rattle.ba_keys.specs.Literals.{part_with}
use Rattle.ba_send.specs.Sendable.{part_has_zero}
use Rattle.ba_sql_print.specs.Spelling.{PartInRange}
use Rattle.ba_send.proofs.ZeroLemmas.{all_more, any_more}
use Rattle.ba_send.proofs.zero.parts_have_zero.Goals.{then-found, else-found}
use Rattle.std.specs.List.{All}
use Rattle.std.proofs.lemmas.List.{take_all}
use Rattle.ba_model.specs.declared.query.Part.{Part}
use Rattle.ba_send.proofs.zero.parts_have_zero.Goals as goal

pub loop-part-preserved : goal.loop-part-preserved
loop-part-preserved c =
    let here : Bool = c.part_has_zero-here.result in
    let joins : c.if-found.found ≡ (c.loop-part.found || here) = elim c.if-found.branch [
      | then-found w ↦ w.found-is ∙ w.if-found.true ∙ sym (ap (λ (b : Bool). b || here) w.if-found.true)
      | else-found w ↦ w.found-is ∙ sym (ap (λ (b : Bool). b || here) w.if-found.false)
    ] in (
      any_more part_has_zero (part_with 0 c.args.values.now) c.args.parts.now c.loop-part.part-index c.part-item.result c.loop-part.found here c.if-found.found c.loop-part-test.true c.part-item.is
          c.loop-part.invariant.0 c.part_has_zero-here.ensures.zero joins,
      all_more PartInRange (part_with 0 c.args.values.now) c.args.parts.now c.loop-part.part-index c.part-item.result c.loop-part-test.true c.part-item.is c.loop-part.invariant.1 c.part_has_zero-here.ensures.range,
    )

pub returns-clause-range : goal.returns-clause-range
returns-clause-range c =
    subst (λ (ps : List Part). All PartInRange (map (part_with 0 c.args.values.now) ps))
    (take_all c.loop-part.part-index c.args.parts.now c.loop-part-test.false) c.loop-part.invariant.1
