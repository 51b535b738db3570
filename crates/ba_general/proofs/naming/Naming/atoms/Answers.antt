use Rattle.std.proofs.Common.{[], subst, sym}
use Rattle.ba_kernel.specs.Problems.{atom_at}
use Rattle.ba_general.proofs.NamesLemmas.{all_none, all_pushed, names_more, names_nil}
use Rattle.ba_general.specs.Patterns.{AtomRepeats, NamesAtoms, printed_sides}
use Rattle.ba_general.proofs.naming.Naming.atoms.Goals as goal

pub loop-atom-init : goal.loop-atom-init
loop-atom-init c =
    record {
      names = subst (NamesAtoms c.args.self.now [] c.args.self.now) (sym c.new-all.ensures) (names_nil atom_at (λ x. printed_sides x.op x.left x.right) c.args.self.now);
      repeats = all_none AtomRepeats c.new-all.result c.new-all.ensures;
    }

pub loop-atom-preserved : goal.loop-atom-preserved
loop-atom-preserved c =
    record {
      names =
          names_more atom_at (λ x. printed_sides x.op x.left x.right) c.args.self.now c.loop-atom.self c.atom.new.self c.args.atoms.now c.loop-atom.atom-index c.atom-item.result
          c.in_ok-atom.field-0 c.loop-atom.all c.push.new.self c.loop-atom-test.true c.atom-item.is c.loop-atom.invariant.names c.in_ok-atom.ensures.names c.in_ok-push.ensures.ok;
      repeats = all_pushed AtomRepeats c.loop-atom.all c.push.new.self c.in_ok-atom.field-0 c.loop-atom.invariant.repeats c.in_ok-atom.ensures.repeats c.in_ok-push.ensures.ok;
    }
