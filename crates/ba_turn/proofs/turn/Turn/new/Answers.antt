use Rattle.std.proofs.Common.{rules, arith, ◌∙◌, sym, ap}
use Rattle.ba_turn.proofs.Steps.{starts}
use Rattle.ba_turn.proofs.turn.Turn.new.Goals as goal

pub new-requires : goal.new-requires
new-requires g c =
    let room = c.in_ok-reserve.ensures.room in
    let same = c.in_ok-reserve.ensures.same in
    let by = c.in_ok-by.ensures in
    let slots = c.in_ok-slots.ensures in
    let pushed = c.push_reserved.ensures.items in
    starts g.S.Storied.opening g.S.Storied.history g.S.Storied.room c.of.result.value c.args.allowance (record { value = c.reserve.new.self; by = c.in_ok-by.by }) _ (search rules) (record {
      opening_is = ap g.S.Storied.opening (sym c.of.ensures);
      history_is = same.1 ∙ c.requires.no_history;
      numbers_are = by.items;
      room_is = omega arith;
      numbers_room = by.capacity;
    }) (omega arith)
