use Rattle.ba_turn.proofs.Ends.{closed, closes_with}
use Rattle.ba_turn.proofs.turn.Turn.close.Goals as goal

pub unreachable-requires : goal.unreachable-requires
unreachable-requires g c =
    let k = closed g.S.Storied.opening g.S.Storied.history g.S.Storied.room c.args.self.table.shared.key.start.value c.args.self.table.shared.key.allowance _ _ _ _ _ c.requires.free.of.live c.requires.all c.close_with-closed.ensures.values.2 c.take.ensures.value in
    c.in_default.not-Some k.0 k.1

pub returns-clause-opening : goal.returns-clause-opening
returns-clause-opening g c =
    let end = closes_with g.S.Storied.opening g.S.Storied.history g.S.Storied.room c.args.self.table.shared.key.start.value c.args.self.table.shared.key.allowance _ c.args.pass.seat.me.0 _ _ c.take.result c.in-Some.kept c.requires.free.of.live c.requires.all c.close_with-closed.ensures.values.2 c.take.ensures.value c.in-Some.is in
    end.stands.opening_is

pub returns-clause-history : goal.returns-clause-history
returns-clause-history g c =
    let end = closes_with g.S.Storied.opening g.S.Storied.history g.S.Storied.room c.args.self.table.shared.key.start.value c.args.self.table.shared.key.allowance _ c.args.pass.seat.me.0 _ _ c.take.result c.in-Some.kept c.requires.free.of.live c.requires.all c.close_with-closed.ensures.values.2 c.take.ensures.value c.in-Some.is in
    end.stands.history_is

pub returns-clause-numbers : goal.returns-clause-numbers
returns-clause-numbers g c =
    let end = closes_with g.S.Storied.opening g.S.Storied.history g.S.Storied.room c.args.self.table.shared.key.start.value c.args.self.table.shared.key.allowance _ c.args.pass.seat.me.0 _ _ c.take.result c.in-Some.kept c.requires.free.of.live c.requires.all c.close_with-closed.ensures.values.2 c.take.ensures.value c.in-Some.is in
    end.stands.numbers_are

pub returns-clause-own : goal.returns-clause-own
returns-clause-own g c =
    let end = closes_with g.S.Storied.opening g.S.Storied.history g.S.Storied.room c.args.self.table.shared.key.start.value c.args.self.table.shared.key.allowance _ c.args.pass.seat.me.0 _ _ c.take.result c.in-Some.kept c.requires.free.of.live c.requires.all c.close_with-closed.ensures.values.2 c.take.ensures.value c.in-Some.is in
    end.made

pub returns-clause-joined : goal.returns-clause-joined
returns-clause-joined g c =
    let end = closes_with g.S.Storied.opening g.S.Storied.history g.S.Storied.room c.args.self.table.shared.key.start.value c.args.self.table.shared.key.allowance _ c.args.pass.seat.me.0 _ _ c.take.result c.in-Some.kept c.requires.free.of.live c.requires.all c.close_with-closed.ensures.values.2 c.take.ensures.value c.in-Some.is in
    end.joined

pub returns-clause-distinct : goal.returns-clause-distinct
returns-clause-distinct g c =
    let end = closes_with g.S.Storied.opening g.S.Storied.history g.S.Storied.room c.args.self.table.shared.key.start.value c.args.self.table.shared.key.allowance _ c.args.pass.seat.me.0 _ _ c.take.result c.in-Some.kept c.requires.free.of.live c.requires.all c.close_with-closed.ensures.values.2 c.take.ensures.value c.in-Some.is in
    end.apart

pub returns-clause-whole : goal.returns-clause-whole
returns-clause-whole g c =
    let end = closes_with g.S.Storied.opening g.S.Storied.history g.S.Storied.room c.args.self.table.shared.key.start.value c.args.self.table.shared.key.allowance _ c.args.pass.seat.me.0 _ _ c.take.result c.in-Some.kept c.requires.free.of.live c.requires.all c.close_with-closed.ensures.values.2 c.take.ensures.value c.in-Some.is in
    end.all
