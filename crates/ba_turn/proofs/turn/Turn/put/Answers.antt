use Rattle.std.proofs.Common.{rules, ◌∙◌, sym, refl}
use mathlib.Core.Option.{none}
use Rattle.atomic_table.specs.Table.{step}
use Rattle.ba_turn.proofs.Steps.{puts, has_put}
use Rattle.ba_turn.proofs.Calls.{whole_call}
use Rattle.ba_turn.proofs.turn.Turn.put.Goals as goal

pub fetch_add-served-requires : goal.fetch_add-served-requires
fetch_add-served-requires g c =
    let x = c.exchange-nothing.ensures in
    let t = c.requires.turn in
    let grown = c.requires.grown in
    let pushed = c.push_reserved.ensures in (
      x.0 ∙ t.of.table,
      search rules,
      puts g.S.Storied.opening g.S.Storied.history g.S.Storied.room c.args.self.now c.args.pass.now _ _ c.exchange-nothing.new.seat.me grown.0 c.args.held
          (record { value = c.args.held.kept.value; by = c.push_reserved.new.self }) c.args.pass.now.number x.3 t grown.1 refl pushed.items c.args.pass.now.same.0 pushed.capacity,
    )

pub invariant_of-pass : goal.invariant_of-pass
invariant_of-pass g c =
    let x = c.exchange-nothing.ensures in
    let t = c.requires.turn in
    let put = has_put g.S.Storied.opening g.S.Storied.history g.S.Storied.room c.args.self.now c.args.pass.now (step 1 1 1 0 none) c.exchange-nothing.new.seat.me c.fetch_add-served.new.seat.me c.fetch_add-served.result c.args.held
    (record { value = c.args.held.kept.value; by = c.push_reserved.new.self }) c.requires.grown.0 x.3 t refl c.requires.grown.1 c.fetch_add-served.ensures.2 in
    record { same = (c.args.pass.now.same.0 ∙ sym put.number, c.args.pass.now.same.1 ∙ sym put.splits) }

pub returns-clause-free : goal.returns-clause-free
returns-clause-free g c =
    let x = c.exchange-nothing.ensures in
    let t = c.requires.turn in
    let put = has_put g.S.Storied.opening g.S.Storied.history g.S.Storied.room c.args.self.now c.args.pass.now (step 1 1 1 0 none) c.exchange-nothing.new.seat.me c.fetch_add-served.new.seat.me c.fetch_add-served.result c.args.held
    (record { value = c.args.held.kept.value; by = c.push_reserved.new.self }) c.requires.grown.0 x.3 t refl c.requires.grown.1 c.fetch_add-served.ensures.2 in
    record {
      of = record { table = c.fetch_add-served.ensures.0 ∙ (x.0 ∙ t.of.table); start = put.start ∙ t.of.start; allowance = put.allowance ∙ t.of.allowance; live = put.live ∙ t.of.live };
      no_ticket = put.no_ticket;
      no_turn = put.no_turn;
      no_slot = put.no_slot;
    }

pub returns-clause-known : goal.returns-clause-known
returns-clause-known g c =
    let x = c.exchange-nothing.ensures in
    let t = c.requires.turn in
    let put = has_put g.S.Storied.opening g.S.Storied.history g.S.Storied.room c.args.self.now c.args.pass.now (step 1 1 1 0 none) c.exchange-nothing.new.seat.me c.fetch_add-served.new.seat.me c.fetch_add-served.result c.args.held
    (record { value = c.args.held.kept.value; by = c.push_reserved.new.self }) c.requires.grown.0 x.3 t refl c.requires.grown.1 c.fetch_add-served.ensures.2 in
    put.known

pub returns-clause-history : goal.returns-clause-history
returns-clause-history g c =
    let x = c.exchange-nothing.ensures in
    let t = c.requires.turn in
    let put = has_put g.S.Storied.opening g.S.Storied.history g.S.Storied.room c.args.self.now c.args.pass.now (step 1 1 1 0 none) c.exchange-nothing.new.seat.me c.fetch_add-served.new.seat.me c.fetch_add-served.result c.args.held
    (record { value = c.args.held.kept.value; by = c.push_reserved.new.self }) c.requires.grown.0 x.3 t refl c.requires.grown.1 c.fetch_add-served.ensures.2 in
    put.history_is

pub returns-clause-seen : goal.returns-clause-seen
returns-clause-seen g c =
    let x = c.exchange-nothing.ensures in
    let t = c.requires.turn in
    let put = has_put g.S.Storied.opening g.S.Storied.history g.S.Storied.room c.args.self.now c.args.pass.now (step 1 1 1 0 none) c.exchange-nothing.new.seat.me c.fetch_add-served.new.seat.me c.fetch_add-served.result c.args.held
    (record { value = c.args.held.kept.value; by = c.push_reserved.new.self }) c.requires.grown.0 x.3 t refl c.requires.grown.1 c.fetch_add-served.ensures.2 in
    put.seen

pub returns-clause-own : goal.returns-clause-own
returns-clause-own g c =
    let x = c.exchange-nothing.ensures in
    let t = c.requires.turn in
    let put = has_put g.S.Storied.opening g.S.Storied.history g.S.Storied.room c.args.self.now c.args.pass.now (step 1 1 1 0 none) c.exchange-nothing.new.seat.me c.fetch_add-served.new.seat.me c.fetch_add-served.result c.args.held
    (record { value = c.args.held.kept.value; by = c.push_reserved.new.self }) c.requires.grown.0 x.3 t refl c.requires.grown.1 c.fetch_add-served.ensures.2 in
    put.own

pub returns-clause-sums : goal.returns-clause-sums
returns-clause-sums g c =
    let x = c.exchange-nothing.ensures in
    let t = c.requires.turn in
    let put = has_put g.S.Storied.opening g.S.Storied.history g.S.Storied.room c.args.self.now c.args.pass.now (step 1 1 1 0 none) c.exchange-nothing.new.seat.me c.fetch_add-served.new.seat.me c.fetch_add-served.result c.args.held
    (record { value = c.args.held.kept.value; by = c.push_reserved.new.self }) c.requires.grown.0 x.3 t refl c.requires.grown.1 c.fetch_add-served.ensures.2 in
    put.sums

pub returns-clause-call : goal.returns-clause-call
returns-clause-call g c =
    let x = c.exchange-nothing.ensures in
    let t = c.requires.turn in
    let put = has_put g.S.Storied.opening g.S.Storied.history g.S.Storied.room c.args.self.now c.args.pass.now (step 1 1 1 0 none) c.exchange-nothing.new.seat.me c.fetch_add-served.new.seat.me c.fetch_add-served.result c.args.held
    (record { value = c.args.held.kept.value; by = c.push_reserved.new.self }) c.requires.grown.0 x.3 t refl c.requires.grown.1 c.fetch_add-served.ensures.2 in
    λ v e left taken grown. whole_call v (c.args.pass.now.seat.me.0) c.fetch_add-served.new.seat.me.0 e left taken (put.known e grown) put.seen put.own put.sums
