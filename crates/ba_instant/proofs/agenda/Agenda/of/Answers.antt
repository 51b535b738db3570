use Rattle.std.proofs.Common.{◌≡◌, ◌++◌, false, refl}
use Rattle.std.specs.Prelude.{option_to_list}
use Rattle.ba_instant.proofs.AgendaLemmas.{agenda_of}
use Rattle.ba_instant.proofs.agenda.Agenda.of.Goals as goal

pub returns : goal.returns
returns c =
    let are : c.add_single.new.steps.items ≡ c.args.batch.steps ++ option_to_list c.args.batch.single = cc (c.in_ok-add_single.ensures, c.into_vec-steps.ensures) in
    agenda_of c.args.pick c.args.batch c.add_single.new.steps.items c.put_in_turn.new.steps.items are c.put_in_turn.ensures
    (record { round = c.args.batch.round; older = 0; silent = false; steps = c.put_in_turn.new.steps }) refl refl
