use Rattle.std.proofs.Common.{[], subst, sym}
use Rattle.std.specs.Prelude.{All}
use Rattle.ba_kernel.proofs.BuildLemmas.{all_at}
use Rattle.ba_kernel.specs.Problems.{part_at}
use Rattle.ba_general.proofs.NamesLemmas.{all_none, all_pushed, names_more, names_nil}
use Rattle.ba_general.specs.Patterns.{NamesAll, PartIsAsked, PartRepeats, printed_part}
use Rattle.ba_general.proofs.naming.Naming.query.Goals as goal

pub loop-part-init : goal.loop-part-init
loop-part-init c =
    record {
      names = subst (NamesAll part_at printed_part c.args.self.now [] c.args.self.now) (sym c.new-parts.ensures) (names_nil part_at printed_part c.args.self.now);
      repeats = all_none PartRepeats c.new-parts.result c.new-parts.ensures;
    }

pub part-requires : goal.part-requires
part-requires c =
    all_at PartIsAsked c.as_slice-part-items.result.now c.loop-part.part-index c.part-item.result (subst (All PartIsAsked) (sym c.as_slice-part-items.ensures) c.requires)
    c.loop-part-test.true c.part-item.is

pub loop-part-preserved : goal.loop-part-preserved
loop-part-preserved c =
    record {
      names =
          names_more part_at printed_part c.args.self.now c.loop-part.self c.part.new.self c.as_slice-part-items.result.now c.loop-part.part-index c.part-item.result
          c.in_ok-part.field-0 c.loop-part.parts c.push.new.self c.loop-part-test.true c.part-item.is c.loop-part.invariant.names c.in_ok-part.ensures.names c.in_ok-push.ensures.ok;
      repeats = all_pushed PartRepeats c.loop-part.parts c.push.new.self c.in_ok-part.field-0 c.loop-part.invariant.repeats c.in_ok-part.ensures.repeats c.in_ok-push.ensures.ok;
    }
