use Rattle.std.proofs.Common.{◌≡◌, []}
use Rattle.ba_turn.specs.Knowing.{with_ticket}
use Rattle.ba_turn.proofs.turn.Turn.take.Given as goal

abbrev pub invariant-loop : goal.invariant-loop
invariant-loop g l = record {
  table : l.pass.seat.table_id ≡ l.fn.pass.seat.table_id;
  me : l.pass.seat.me ≡ (with_ticket l.ticket l.fn.pass.seat.me.0, []);
  number : l.pass.number ≡ l.fn.pass.number;
  splits : l.pass.splits ≡ l.fn.pass.splits;
}
