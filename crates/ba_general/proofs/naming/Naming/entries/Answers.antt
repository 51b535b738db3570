use Rattle.std.proofs.Common.{ℕ, [], get_or, subst, sym}
use Rattle.std.proofs.lemmas.List.{get_or_default}
use Rattle.std.proofs.lemmas.Option.{get_or_from_slice_get, slice_get_within}
use Rattle.ba_kernel.proofs.BuildLemmas.{all_at}
use Rattle.ba_general.proofs.NamesLemmas.{all_none, all_pushed, entries_all, entries_more, entries_none}
use Rattle.ba_general.specs.Patterns.{EntryIsAsked, EntryRepeats, NamesEntries}
use Rattle.ba_general.proofs.naming.Naming.entries.Goals as goal

pub loop-number-init : goal.loop-number-init
loop-number-init c =
    record {
      names = subst (NamesEntries c.args.self.now c.args.problem.now.entries [] c.args.self.now) (sym c.new-entries.ensures) (entries_none c.args.self.now c.args.problem.now.entries);
      repeats = all_none EntryRepeats c.new-entries.result c.new-entries.ensures;
    }

pub entry-requires : goal.entry-requires
entry-requires c =
    all_at EntryIsAsked c.args.problem.now.entries (get_or c.args.numbers.now c.loop-number.number-index 0) c.get.result.now c.requires.asked
    (slice_get_within c.args.problem.now.entries _ _ c.get.ensures) (sym (get_or_from_slice_get c.args.problem.now.entries _ _ _ c.get.ensures))

pub loop-number-preserved : goal.loop-number-preserved
loop-number-preserved c =
    let number : ℕ = get_or c.args.numbers.now c.loop-number.number-index 0 in
    record {
      names =
          entries_more c.args.self.now c.loop-number.self c.entry.new.self c.args.problem.now.entries c.args.numbers.now c.loop-number.number-index number c.get.result.now
          c.in_ok-entry.entry c.loop-number.entries c.push.new.self c.loop-number-test.true
          (get_or_default c.args.numbers.now c.loop-number.number-index 0 number c.loop-number-test.true) c.get.ensures c.loop-number.invariant.names c.in_ok-entry.ensures.names
          c.in_ok-push.ensures.ok;
      repeats =
          all_pushed EntryRepeats c.loop-number.entries c.push.new.self c.in_ok-entry.entry c.loop-number.invariant.repeats c.in_ok-entry.ensures.repeats c.in_ok-push.ensures.ok;
    }

pub returns-clause-names : goal.returns-clause-names
returns-clause-names c =
    entries_all c.args.self.now c.loop-number.self c.args.problem.now.entries c.args.numbers.now c.loop-number.entries c.loop-number.number-index c.loop-number-test.false
    c.loop-number.invariant.names
