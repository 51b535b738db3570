use Rattle.std.proofs.Common.{arith, refl}
use Rattle.ba_judge.specs.Judging.{effort_in}
use Rattle.ba_decide.proofs.ServeLemmas.{answered_budget, answered_memory, answered_more, answered_write, served_done, served_full, serving_start}
use Rattle.ba_decide.proofs.serve.serve.Goals as goal

pub loop-line-init : goal.loop-line-init
loop-line-init g c = (c.requires.live, refl, serving_start c.args.evidence (effort_in (g.E.Settle.orders c.args.settle.now) c.args.live.now.budget) c.args.live.now (g.L.Source.seen c.args.source.now) (g.S.Sink.seen c.args.sink.now))

pub returns-in-Err-Failed : goal.returns-in-Err-Failed
returns-in-Err-Failed g c =
    answered_write c.args.evidence (g.E.Settle.orders c.args.settle.now) c.args.live.now c.loop-line.live c.take_next.new.live c.loop-line.line
    (g.L.Source.seen c.args.source.now) (g.L.Source.seen c.loop-line.source) (g.L.Source.seen c.take_next.new.source)
    (g.S.Sink.seen c.args.sink.now) (g.S.Sink.seen c.loop-line.sink) (g.S.Sink.seen c.say.new.sink) c.in-Answered.answer
    c.loop-line.invariant.1 c.loop-line.invariant.2 c.in-Answered.ensures.next (rw c.in-Err-Failed.field-0-is at c.in-Err-Failed.ensures)

pub returns-in-Err-NoMemory : goal.returns-in-Err-NoMemory
returns-in-Err-NoMemory g c =
    answered_memory c.args.evidence (g.E.Settle.orders c.args.settle.now) c.args.live.now c.loop-line.live c.take_next.new.live c.loop-line.line
    (g.L.Source.seen c.args.source.now) (g.L.Source.seen c.loop-line.source) (g.L.Source.seen c.take_next.new.source)
    (g.S.Sink.seen c.args.sink.now) (g.S.Sink.seen c.loop-line.sink) (g.S.Sink.seen c.say.new.sink) c.in-Answered.answer
    c.loop-line.invariant.1 c.loop-line.invariant.2 c.in-Answered.ensures.next (rw c.in-Err-NoMemory.field-0-is at c.in-Err-NoMemory.ensures)

pub loop-line-preserved : goal.loop-line-preserved
loop-line-preserved g c = (
  c.take_next.ensures.live,
  answered_budget c.args.evidence (g.E.Settle.orders c.args.settle.now) c.args.live.now c.loop-line.live c.take_next.new.live c.loop-line.line
      (g.L.Source.seen c.args.source.now) (g.L.Source.seen c.loop-line.source) (g.L.Source.seen c.take_next.new.source)
      (g.S.Sink.seen c.args.sink.now) (g.S.Sink.seen c.loop-line.sink) (g.S.Sink.seen c.say.new.sink) c.in-Answered.answer
      c.loop-line.invariant.1 c.loop-line.invariant.2 c.in-Answered.ensures.next,
  answered_more c.args.evidence (g.E.Settle.orders c.args.settle.now) c.args.live.now c.loop-line.live c.take_next.new.live c.loop-line.line
      (g.L.Source.seen c.args.source.now) (g.L.Source.seen c.loop-line.source) (g.L.Source.seen c.take_next.new.source)
      (g.S.Sink.seen c.args.sink.now) (g.S.Sink.seen c.loop-line.sink) (g.S.Sink.seen c.say.new.sink) c.in-Answered.answer
      c.loop-line.invariant.1 c.loop-line.invariant.2 c.in-Answered.ensures.next c.in-Ok.field-0 c.in-Ok.ensures,
)

pub returns : goal.returns
returns g c =
    served_full c.args.evidence (effort_in (g.E.Settle.orders c.args.settle.now) c.args.live.now.budget) c.args.live.now c.loop-line.live c.loop-line.line
    (g.L.Source.seen c.args.source.now) (g.L.Source.seen c.loop-line.source) (g.S.Sink.seen c.args.sink.now) (g.S.Sink.seen c.loop-line.sink)
    c.loop-line.invariant.2 (omega arith)

pub returns-in-End : goal.returns-in-End
returns-in-End g c =
    served_done c.args.evidence (effort_in (g.E.Settle.orders c.args.settle.now) c.args.live.now.budget) c.args.live.now c.loop-line.live c.loop-line.line
    (g.L.Source.seen c.args.source.now) (g.L.Source.seen c.loop-line.source) (g.L.Source.seen c.take_next.new.source) (g.S.Sink.seen c.args.sink.now) (g.S.Sink.seen c.loop-line.sink)
    c.loop-line.invariant.2 c.in-End.ensures.next.0
