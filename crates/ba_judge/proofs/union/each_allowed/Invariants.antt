use Rattle.std.proofs.Common.{take}
use Rattle.std.specs.List.{AllZip}
use Rattle.ba_judge.specs.Judging.{IsAllowedBy, ServesFirstSince, effort_in, part_of, seen}
use Rattle.ba_judge.specs.Shelves.{Learns}
use Rattle.ba_judge.specs.declared.verdict.Allowed.TheVariants.{Whole}
use Rattle.ba_judge.specs.declared.verdict.Judgement.TheVariants as judged
use Rattle.ba_judge.proofs.union.each_allowed.Given as goal

-- the parts so far are allowed, each by what stood for it
abbrev pub invariant-loop-part : goal.invariant-loop-part
invariant-loop-part g l = record {
  allowed : AllZip (λ part by. IsAllowedBy (part_of (seen l.asked) part) (effort_in (g.S.Settle.orders l.settle) l.budget) by) (take l.part-index l.part-items) l.grounds;
  first : AllZip (λ part by. ServesFirstSince (part_of (seen l.asked) part) l.initial.shelves (judged.Allowed (Whole by))) (take l.part-index l.part-items) l.grounds;
  learns : Learns l.initial.shelves l.shelves;
}
