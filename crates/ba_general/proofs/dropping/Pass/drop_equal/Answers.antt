use Rattle.std.proofs.Common.{◌+◌, ◌-◌, ◌/◌, ◌≤◌, ap, arith, length, refl, subst, sym, ◌∙◌}
use Rattle.ba_general.proofs.AtOnceLemmas.{last_moved}
use Rattle.ba_general.proofs.DroppingLemmas.{halves_run}
use Rattle.ba_general.proofs.GuessLemmas.{guess_moved}
use Rattle.ba_general.proofs.RunLemmas.{back_kept, front_kept, middle_in, run_moved}
use Rattle.ba_general.specs.Conditions.{AtomsFit}
use Rattle.ba_general.specs.Dropping.{IsAccepted}
use Rattle.ba_general.proofs.dropping.Pass.drop_equal.Goals as goal

pub drop_run-requires-clause-kept : goal.drop_run-requires-clause-kept
drop_run-requires-clause-kept c =
    let half = middle_in c.args.first c.args.end (c.args.first + (c.args.end - c.args.first) / 2) c.requires.first refl in
    back_kept c.args.self.now.kept.items c.args.first (c.args.first + (c.args.end - c.args.first) / 2) c.args.end half.0 half.1
    (omega (arith, c.requires.flags, c.requires.there)) c.requires.kept

pub drop_run-requires-2-clause-atoms : goal.drop_run-requires-2-clause-atoms
drop_run-requires-2-clause-atoms c =
    let same = c.drop_run.ensures.same in
    subst (λ p. AtomsFit p.now.problem c.drop_run.new.self.atoms.items) (sym same.1)
    (subst (λ xs. AtomsFit c.args.self.now.pattern.now.problem xs.items) (sym same.0) c.requires.atoms)

pub drop_run-requires-2-clause-there : goal.drop_run-requires-2-clause-there
drop_run-requires-2-clause-there c =
    let half = middle_in c.args.first c.args.end (c.args.first + (c.args.end - c.args.first) / 2) c.requires.first refl in
    subst (λ xs. c.args.first + (c.args.end - c.args.first) / 2 ≤ length xs.items) (sym c.drop_run.ensures.same.0) (omega (arith, half.1, c.requires.there))

pub drop_run-requires-2-clause-kept : goal.drop_run-requires-2-clause-kept
drop_run-requires-2-clause-kept c =
    let half = middle_in c.args.first c.args.end (c.args.first + (c.args.end - c.args.first) / 2) c.requires.first refl in
    front_kept c.args.self.now.kept.items c.drop_run.new.self.kept.items c.args.first (c.args.first + (c.args.end - c.args.first) / 2) c.args.end half.0 half.1
    (omega (arith, c.requires.flags, c.requires.there)) c.requires.kept c.in_ok-drop_run.ensures.run.before

pub returns-clause-run : goal.returns-clause-run
returns-clause-run c =
    let self = c.args.self.now in
    let one = c.drop_run.ensures.same in
    let two = c.drop_run-2.ensures.same in
    let half = middle_in c.args.first c.args.end (c.args.first + (c.args.end - c.args.first) / 2) c.requires.first refl in
    halves_run (IsAccepted self.pattern.now.problem self.steps.now) self.atoms.items self.kept.items c.drop_run.new.self.kept.items c.drop_run-2.new.self.kept.items
    c.args.first (c.args.first + (c.args.end - c.args.first) / 2) c.args.end half.0 half.1 c.requires.there c.requires.flags
    (c.in_ok-drop_run.ensures.flags ∙ ap (λ xs. length xs.items) one.0)
    (c.in_ok-drop_run-2.ensures.flags ∙ ap (λ xs. length xs.items) (two.0 ∙ one.0)) c.requires.kept c.in_ok-drop_run.ensures.run
    (run_moved c.drop_run.new.self.pattern.now.problem self.pattern.now.problem c.drop_run.new.self.steps.now self.steps.now c.drop_run.new.self.atoms.items self.atoms.items
    c.drop_run.new.self.kept.items c.drop_run.new.self.kept.items c.drop_run-2.new.self.kept.items c.args.first (c.args.first + (c.args.end - c.args.first) / 2)
    (ap (λ p. p.now.problem) one.1) (ap (λ s. s.now) one.2) (ap (λ xs. xs.items) one.0) refl c.in_ok-drop_run-2.ensures.run)

pub drop_run-requires-2-clause-last : goal.drop_run-requires-2-clause-last
drop_run-requires-2-clause-last c =
    let self = c.args.self.now in
    let one = c.drop_run.ensures.same in
    last_moved self.pattern.now.problem c.drop_run.new.self.pattern.now.problem self.steps.now c.drop_run.new.self.steps.now self.atoms.items c.drop_run.new.self.atoms.items
    c.drop_run.new.self.kept.items c.drop_run.new.self.kept.items c.drop_run.new.self.last c.drop_run.new.self.last (ap (λ p. p.now.problem) (sym one.1))
    (ap (λ s. s.now) (sym one.2)) (ap (λ xs. xs.items) (sym one.0)) refl refl c.in_ok-drop_run.ensures.last

pub returns-clause-last : goal.returns-clause-last
returns-clause-last c =
    let self = c.args.self.now in
    let one = c.drop_run.ensures.same in
    last_moved c.drop_run.new.self.pattern.now.problem self.pattern.now.problem c.drop_run.new.self.steps.now self.steps.now c.drop_run.new.self.atoms.items self.atoms.items
    c.drop_run-2.new.self.kept.items c.drop_run-2.new.self.kept.items c.drop_run-2.new.self.last c.drop_run-2.new.self.last (ap (λ p. p.now.problem) one.1)
    (ap (λ s. s.now) one.2) (ap (λ xs. xs.items) one.0) refl refl c.in_ok-drop_run-2.ensures.last

pub drop_run-requires-2-clause-guess : goal.drop_run-requires-2-clause-guess
drop_run-requires-2-clause-guess c =
    let self = c.args.self.now in
    guess_moved self.pattern.now.problem c.drop_run.new.self.pattern.now.problem self.steps.now c.drop_run.new.self.steps.now self.atoms.items c.drop_run.new.self.atoms.items c.args.guess.now
    (ap (λ p. p.now.problem) (sym c.drop_run.ensures.same.1))
    (ap (λ s. s.now) (sym c.drop_run.ensures.same.2))
    (ap (λ xs. xs.items) (sym c.drop_run.ensures.same.0)) c.requires.guess
