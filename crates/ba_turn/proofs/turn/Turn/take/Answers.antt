use Rattle.std.proofs.Common.{rules, ◌∙◌, ap, Some}
use mathlib.Core.Option.{none}
use Rattle.atomic_table.specs.Table.{step}
use Rattle.ba_turn.proofs.Steps.{draws, looks_on, got_turn, took, has_room, rest_is}
use Rattle.ba_turn.proofs.turn.Turn.take.Goals as goal

pub fetch_add-ticket-requires : goal.fetch_add-ticket-requires
fetch_add-ticket-requires g c =
    let f = c.requires.free in
    (f.of.table, search rules, draws g.S.Storied.opening g.S.Storied.history g.S.Storied.room _ _ _ _ _ f.of.live f.no_ticket f.no_turn c.requires.left)

pub load-serving-requires : goal.load-serving-requires
load-serving-requires g c =
    let f = c.requires.free in
    let inv = c.loop.invariant in
    (inv.table ∙ f.of.table, search rules, looks_on g.S.Storied.opening g.S.Storied.history g.S.Storied.room _ _ _ _ c.args.pass.now.seat.me.0 c.fetch_add-ticket.result _ inv.me f.of.live f.no_turn)

pub exchange-requires : goal.exchange-requires
exchange-requires g c =
    let f = c.requires.free in
    let inv = c.loop.invariant in
    let got = got_turn g.S.Storied.opening g.S.Storied.history g.S.Storied.room c.args.self.now.table.shared.key.start.value c.args.self.now.table.shared.key.allowance (step 1 1 0 0 none) c.args.pass.now.seat.me.0 c.fetch_add-ticket.result c.loop.pass.seat.me c.load-serving.new.seat.me c.load-serving.result inv.me c.load-serving.ensures.2 c.if-serving-ticket.true in
    (c.load-serving.ensures.0 ∙ (inv.table ∙ f.of.table), (Some got.1, rest_is c.load-serving.new.seat.me.1 (0, Some got.1) (ap (λ m. m.1) got.2)))

pub returns-then-serving-ticket-clause-value : goal.returns-then-serving-ticket-clause-value
returns-then-serving-ticket-clause-value g c =
    let f = c.requires.free in
    let inv = c.loop.invariant in
    let got = got_turn g.S.Storied.opening g.S.Storied.history g.S.Storied.room c.args.self.now.table.shared.key.start.value c.args.self.now.table.shared.key.allowance (step 1 1 0 0 none) c.args.pass.now.seat.me.0 c.fetch_add-ticket.result c.loop.pass.seat.me c.load-serving.new.seat.me c.load-serving.result inv.me c.load-serving.ensures.2 c.if-serving-ticket.true in
    let x = c.exchange.ensures in
    (took g.S.Storied.opening g.S.Storied.history g.S.Storied.room _ _ c.args.pass.now.seat.me.0 c.fetch_add-ticket.result got.0 got.1 c.in-Some-exchange.kept c.load-serving.new.seat.me c.exchange.new.seat.me c.exchange.result got.2 got.3 x.2 c.in-Some-exchange.is x.3 f.of.start f.of.allowance).0

pub returns-then-serving-ticket-clause-room : goal.returns-then-serving-ticket-clause-room
returns-then-serving-ticket-clause-room g c =
    let f = c.requires.free in
    let inv = c.loop.invariant in
    let got = got_turn g.S.Storied.opening g.S.Storied.history g.S.Storied.room c.args.self.now.table.shared.key.start.value c.args.self.now.table.shared.key.allowance (step 1 1 0 0 none) c.args.pass.now.seat.me.0 c.fetch_add-ticket.result c.loop.pass.seat.me c.load-serving.new.seat.me c.load-serving.result inv.me c.load-serving.ensures.2 c.if-serving-ticket.true in
    let x = c.exchange.ensures in
    let at = took g.S.Storied.opening g.S.Storied.history g.S.Storied.room _ _ c.args.pass.now.seat.me.0 c.fetch_add-ticket.result got.0 got.1 c.in-Some-exchange.kept c.load-serving.new.seat.me c.exchange.new.seat.me c.exchange.result got.2 got.3 x.2 c.in-Some-exchange.is x.3 f.of.start f.of.allowance in
    has_room g.S.Storied.opening g.S.Storied.history g.S.Storied.room c.args.self.now.table.shared.key.start.value c.args.self.now.table.shared.key.allowance _ _ at.0 at.1
