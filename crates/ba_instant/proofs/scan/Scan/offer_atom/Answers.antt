use Rattle.std.proofs.Common.{arith, inr, refl}
use Rattle.ba_kernel.specs.declared.step.Step.TheVariants.{Split}
use Rattle.ba_instant.proofs.DueLemmas.{round_on}
use Rattle.ba_instant.proofs.ScanLemmas.{telling_later}
use Rattle.ba_instant.proofs.StandingLemmas.{split_past}
use Rattle.ba_instant.proofs.scan.Scan.offer_atom.Goals as goal

pub offer_late-requires : goal.offer_late-requires
offer_late-requires c = λ round new is.
    let scan = c.args.self.now in
    let atom = c.in_ok-atom-in-Some-Some.atom in
    let late = telling_later scan.search.now scan.number scan.quiet scan.branch.now scan.recent.now c.requires.of (Split scan.number atom) (inr (atom, refl)) refl round new is in
    let stands = split_past scan.search.now.problem scan.branch.now atom round c.least_standing.result c.least_standing.ensures
    (round_on scan.search.now scan.number scan.branch.now c.requires.of.open_ (Split scan.number atom) round refl is) in
    omega (arith, late, stands, c.max-before.ensures, c.from.ensures)
