use Rattle.std.proofs.Common.{length}
use Rattle.ba_kernel.proofs.BuildLemmas.{all_at, zip_all, zip_more}
use Rattle.ba_kernel.specs.Effects.{IsCase}
use Rattle.ba_kernel.specs.Tidy.{IsPartFor}
use Rattle.ba_kernel.proofs.cases.build.copied_cases.Goals as goal

pub part_case-requires : goal.part_case-requires
part_case-requires c = record {
  ready = c.requires.ready;
  fits = all_at (IsPartFor c.args.problem.now.policy.schema (length c.args.row.now)) c.args.parts.now c.loop-part.part-index c.part-item.result c.requires.fits c.loop-part-test.true
      c.part-item.is;
}

pub loop-part-preserved : goal.loop-part-preserved
loop-part-preserved c =
    zip_more (IsCase c.args.problem.now.policy.schema c.args.old.now c.args.side c.args.round c.args.row.now) c.args.parts.now c.loop-part.part-index c.part-item.result
    c.loop-part.cases.items c.push.new.self.items c.in_ok-part_case.field-0 c.loop-part-test.true c.part-item.is c.loop-part.invariant
    c.in_ok-part_case.ensures c.in_ok-push.ensures.items

pub returns : goal.returns
returns c =
    zip_all (IsCase c.args.problem.now.policy.schema c.args.old.now c.args.side c.args.round c.args.row.now) c.args.parts.now c.loop-part.part-index c.loop-part.cases.items
    c.loop-part-test.false c.loop-part.invariant
