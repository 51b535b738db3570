use Rattle.std.proofs.Common.{◌≤◌, ap, arith, drop, length, refl, subst, sym, true, ◌∙◌}
use Rattle.std.proofs.lemmas.List.{length-replicate}
use Rattle.ba_general.proofs.AtOnceLemmas.{groups_at_once, last_moved, tried_gone, tried_kept}
use Rattle.ba_general.proofs.FullLemmas.{atoms_can}
use Rattle.ba_general.proofs.GuessLemmas.{guess_moved}
use Rattle.ba_general.proofs.WholePassLemmas.{behind, groups_dropped, still_kept}
use Rattle.ba_general.specs.Conditions.{AtomsFit, DropsGroups}
use Rattle.ba_general.specs.Dropping.{IsAccepted}
use Rattle.ba_general.proofs.dropping.Pass.drop_unequal.Goals as goal

pub drops-requires-clause-there : goal.drops-requires-clause-there
drops-requires-clause-there c = c.requires.ends.all

pub drops-requires-clause-flags : goal.drops-requires-clause-flags
drops-requires-clause-flags c = ap length c.requires.kept ∙ length-replicate (length c.args.self.now.atoms.items) true

pub drops-requires-clause-kept : goal.drops-requires-clause-kept
drops-requires-clause-kept c =
    still_kept c.args.self.now.kept.items c.args.self.now.kept.items (length c.args.self.now.atoms.items) 0 c.args.ends.apart c.requires.kept refl

pub returns-then-gone-clause-groups : goal.returns-then-gone-clause-groups
returns-then-gone-clause-groups c =
    let self = c.args.self.now in
    let told = tried_gone (IsAccepted self.pattern.now.problem self.steps.now) self.atoms.items self.kept.items c.drops.new.self.kept.items 0 c.args.ends.apart
    c.in_ok-gone.gone c.in_ok-gone.ensures.tried c.if-gone.true in
    groups_at_once self.pattern.now.problem self.steps.now self.atoms.items (atoms_can self.pattern.now.problem self.atoms.items c.requires.atoms) self.kept.items
    c.drops.new.self.kept.items c.args.ends c.requires.ends (ap length c.requires.kept ∙ length-replicate (length self.atoms.items) true) told.0 told.1

-- ---- group by group

pub drop_run-requires-clause-atoms : goal.drop_run-requires-clause-atoms
drop_run-requires-clause-atoms c =
    let same = c.drops.ensures.same in
    subst (λ p. AtomsFit p.now.problem c.drops.new.self.atoms.items) (sym same.1)
    (subst (λ xs. AtomsFit c.args.self.now.pattern.now.problem xs.items) (sym same.0) c.requires.atoms)

pub drop_run-requires-clause-there : goal.drop_run-requires-clause-there
drop_run-requires-clause-there c =
    let up = c.requires.ends in
    subst (λ xs. c.args.ends.fixed ≤ length xs.items) (sym c.drops.ensures.same.0) (omega (arith, up.less, up.apart, up.all))

pub drop_run-requires-clause-flags : goal.drop_run-requires-clause-flags
drop_run-requires-clause-flags c =
    let self = c.args.self.now in
    let kept = tried_kept (IsAccepted self.pattern.now.problem self.steps.now) self.atoms.items self.kept.items c.drops.new.self.kept.items 0 c.args.ends.apart
    c.in_ok-gone.gone c.in_ok-gone.ensures.tried c.if-gone.false in
    ap length (kept ∙ c.requires.kept) ∙ (length-replicate (length self.atoms.items) true ∙ ap (λ xs. length xs.items) (sym c.drops.ensures.same.0))

pub drop_run-requires-clause-kept : goal.drop_run-requires-clause-kept
drop_run-requires-clause-kept c =
    let self = c.args.self.now in
    let kept = tried_kept (IsAccepted self.pattern.now.problem self.steps.now) self.atoms.items self.kept.items c.drops.new.self.kept.items 0 c.args.ends.apart
    c.in_ok-gone.gone c.in_ok-gone.ensures.tried c.if-gone.false in
    still_kept self.kept.items c.drops.new.self.kept.items (length self.atoms.items) 0 c.args.ends.fixed c.requires.kept (ap (drop 0) kept)

pub drop_run-requires-2-clause-atoms : goal.drop_run-requires-2-clause-atoms
drop_run-requires-2-clause-atoms c =
    let same = c.drops.ensures.same in
    let one = c.drop_run.ensures.same in
    subst (λ p. AtomsFit p.now.problem c.drop_run.new.self.atoms.items) (sym (one.1 ∙ same.1))
    (subst (λ xs. AtomsFit c.args.self.now.pattern.now.problem xs.items) (sym (one.0 ∙ same.0)) c.requires.atoms)

pub drop_run-requires-2-clause-there : goal.drop_run-requires-2-clause-there
drop_run-requires-2-clause-there c =
    let up = c.requires.ends in
    subst (λ xs. c.args.ends.less ≤ length xs.items) (sym (c.drop_run.ensures.same.0 ∙ c.drops.ensures.same.0)) (omega (arith, up.apart, up.all))

pub drop_run-requires-2-clause-kept : goal.drop_run-requires-2-clause-kept
drop_run-requires-2-clause-kept c =
    let self = c.args.self.now in
    let kept = tried_kept (IsAccepted self.pattern.now.problem self.steps.now) self.atoms.items self.kept.items c.drops.new.self.kept.items 0 c.args.ends.apart
    c.in_ok-gone.gone c.in_ok-gone.ensures.tried c.if-gone.false in
    still_kept self.kept.items c.drop_run.new.self.kept.items (length self.atoms.items) c.args.ends.fixed c.args.ends.less c.requires.kept
    (c.in_ok-drop_run.ensures.run.after ∙ ap (drop c.args.ends.fixed) kept)

pub drop_run-requires-3-clause-atoms : goal.drop_run-requires-3-clause-atoms
drop_run-requires-3-clause-atoms c =
    let same = c.drops.ensures.same in
    let one = c.drop_run.ensures.same in
    let two = c.drop_run-2.ensures.same in
    subst (λ p. AtomsFit p.now.problem c.drop_run-2.new.self.atoms.items) (sym (two.1 ∙ (one.1 ∙ same.1)))
    (subst (λ xs. AtomsFit c.args.self.now.pattern.now.problem xs.items) (sym (two.0 ∙ (one.0 ∙ same.0))) c.requires.atoms)

pub drop_run-requires-3-clause-there : goal.drop_run-requires-3-clause-there
drop_run-requires-3-clause-there c =
    subst (λ xs. c.args.ends.apart ≤ length xs.items) (sym (c.drop_run-2.ensures.same.0 ∙ (c.drop_run.ensures.same.0 ∙ c.drops.ensures.same.0))) c.requires.ends.all

pub drop_run-requires-3-clause-kept : goal.drop_run-requires-3-clause-kept
drop_run-requires-3-clause-kept c =
    let self = c.args.self.now in
    let kept = tried_kept (IsAccepted self.pattern.now.problem self.steps.now) self.atoms.items self.kept.items c.drops.new.self.kept.items 0 c.args.ends.apart
    c.in_ok-gone.gone c.in_ok-gone.ensures.tried c.if-gone.false in
    still_kept self.kept.items c.drop_run-2.new.self.kept.items (length self.atoms.items) c.args.ends.less c.args.ends.apart c.requires.kept
    (c.in_ok-drop_run-2.ensures.run.after ∙
    behind c.drop_run.new.self.kept.items self.kept.items c.args.ends.fixed c.args.ends.less c.requires.ends.less
    (c.in_ok-drop_run.ensures.run.after ∙ ap (drop c.args.ends.fixed) kept))

pub returns-clause-groups : goal.returns-clause-groups
returns-clause-groups c =
    let self = c.args.self.now in
    let same = c.drops.ensures.same in
    let one = c.in_ok-drop_run.ensures in
    let two = c.in_ok-drop_run-2.ensures in
    let three = c.in_ok-drop_run-3.ensures in
    let kept = tried_kept (IsAccepted self.pattern.now.problem self.steps.now) self.atoms.items self.kept.items c.drops.new.self.kept.items 0 c.args.ends.apart
    c.in_ok-gone.gone c.in_ok-gone.ensures.tried c.if-gone.false in
    subst (λ ks. DropsGroups (IsAccepted self.pattern.now.problem self.steps.now) self.atoms.items ks c.drop_run-3.new.self.kept.items c.args.ends) kept
    (subst (λ xs. DropsGroups (IsAccepted self.pattern.now.problem self.steps.now) xs.items c.drops.new.self.kept.items c.drop_run-3.new.self.kept.items c.args.ends) same.0
    (groups_dropped self.pattern self.steps c.drops.new.self c.drop_run.new.self c.drop_run-2.new.self c.drop_run-3.new.self c.args.ends same.1 same.2
    (record {
      run = one.run;
      flags = one.flags;
      atoms = c.drop_run.ensures.same.0;
      pattern = c.drop_run.ensures.same.1;
      steps = c.drop_run.ensures.same.2;
    })
    (record {
      run = two.run;
      flags = two.flags;
      atoms = c.drop_run-2.ensures.same.0;
      pattern = c.drop_run-2.ensures.same.1;
      steps = c.drop_run-2.ensures.same.2;
    })
    (record {
      run = three.run;
      flags = three.flags;
      atoms = c.drop_run-3.ensures.same.0;
      pattern = c.drop_run-3.ensures.same.1;
      steps = c.drop_run-3.ensures.same.2;
    })))

pub drop_run-requires-clause-last : goal.drop_run-requires-clause-last
drop_run-requires-clause-last c =
    let self = c.args.self.now in
    let same = c.drops.ensures.same in
    last_moved self.pattern.now.problem c.drops.new.self.pattern.now.problem self.steps.now c.drops.new.self.steps.now self.atoms.items c.drops.new.self.atoms.items
    c.drops.new.self.kept.items c.drops.new.self.kept.items c.drops.new.self.last c.drops.new.self.last (ap (λ p. p.now.problem) (sym same.1))
    (ap (λ s. s.now) (sym same.2)) (ap (λ xs. xs.items) (sym same.0)) refl refl c.in_ok-gone.ensures.last

pub drop_run-requires-2-clause-last : goal.drop_run-requires-2-clause-last
drop_run-requires-2-clause-last c =
    let self = c.args.self.now in
    let same = c.drops.ensures.same in
    last_moved c.drops.new.self.pattern.now.problem c.drop_run.new.self.pattern.now.problem c.drops.new.self.steps.now c.drop_run.new.self.steps.now c.drops.new.self.atoms.items c.drop_run.new.self.atoms.items
    c.drop_run.new.self.kept.items c.drop_run.new.self.kept.items c.drop_run.new.self.last c.drop_run.new.self.last (ap (λ p. p.now.problem) (sym c.drop_run.ensures.same.1))
    (ap (λ s. s.now) (sym c.drop_run.ensures.same.2)) (ap (λ xs. xs.items) (sym c.drop_run.ensures.same.0)) refl refl c.in_ok-drop_run.ensures.last

pub drop_run-requires-3-clause-last : goal.drop_run-requires-3-clause-last
drop_run-requires-3-clause-last c =
    let self = c.args.self.now in
    let same = c.drops.ensures.same in
    last_moved c.drop_run.new.self.pattern.now.problem c.drop_run-2.new.self.pattern.now.problem c.drop_run.new.self.steps.now c.drop_run-2.new.self.steps.now c.drop_run.new.self.atoms.items c.drop_run-2.new.self.atoms.items
    c.drop_run-2.new.self.kept.items c.drop_run-2.new.self.kept.items c.drop_run-2.new.self.last c.drop_run-2.new.self.last (ap (λ p. p.now.problem) (sym c.drop_run-2.ensures.same.1))
    (ap (λ s. s.now) (sym c.drop_run-2.ensures.same.2)) (ap (λ xs. xs.items) (sym c.drop_run-2.ensures.same.0)) refl refl c.in_ok-drop_run-2.ensures.last

pub returns-clause-last : goal.returns-clause-last
returns-clause-last c =
    let self = c.args.self.now in
    let same = c.drops.ensures.same in
    last_moved c.drop_run-2.new.self.pattern.now.problem self.pattern.now.problem c.drop_run-2.new.self.steps.now self.steps.now c.drop_run-2.new.self.atoms.items self.atoms.items
    c.drop_run-3.new.self.kept.items c.drop_run-3.new.self.kept.items c.drop_run-3.new.self.last c.drop_run-3.new.self.last (ap (λ p. p.now.problem) (c.drop_run-2.ensures.same.1 ∙ (c.drop_run.ensures.same.1 ∙ same.1)))
    (ap (λ s. s.now) (c.drop_run-2.ensures.same.2 ∙ (c.drop_run.ensures.same.2 ∙ same.2))) (ap (λ xs. xs.items) (c.drop_run-2.ensures.same.0 ∙ (c.drop_run.ensures.same.0 ∙ same.0))) refl refl c.in_ok-drop_run-3.ensures.last

pub drop_run-requires-clause-guess : goal.drop_run-requires-clause-guess
drop_run-requires-clause-guess c =
    let self = c.args.self.now in
    guess_moved self.pattern.now.problem c.drops.new.self.pattern.now.problem self.steps.now c.drops.new.self.steps.now self.atoms.items c.drops.new.self.atoms.items c.args.guess.now
    (ap (λ p. p.now.problem) (sym c.drops.ensures.same.1))
    (ap (λ s. s.now) (sym c.drops.ensures.same.2))
    (ap (λ xs. xs.items) (sym c.drops.ensures.same.0)) c.requires.guess

pub drop_run-requires-2-clause-guess : goal.drop_run-requires-2-clause-guess
drop_run-requires-2-clause-guess c =
    let self = c.args.self.now in
    guess_moved self.pattern.now.problem c.drop_run.new.self.pattern.now.problem self.steps.now c.drop_run.new.self.steps.now self.atoms.items c.drop_run.new.self.atoms.items c.args.guess.now
    (ap (λ p. p.now.problem) (sym (c.drop_run.ensures.same.1 ∙ c.drops.ensures.same.1)))
    (ap (λ s. s.now) (sym (c.drop_run.ensures.same.2 ∙ c.drops.ensures.same.2)))
    (ap (λ xs. xs.items) (sym (c.drop_run.ensures.same.0 ∙ c.drops.ensures.same.0))) c.requires.guess

pub drop_run-requires-3-clause-guess : goal.drop_run-requires-3-clause-guess
drop_run-requires-3-clause-guess c =
    let self = c.args.self.now in
    guess_moved self.pattern.now.problem c.drop_run-2.new.self.pattern.now.problem self.steps.now c.drop_run-2.new.self.steps.now self.atoms.items c.drop_run-2.new.self.atoms.items c.args.guess.now
    (ap (λ p. p.now.problem) (sym (c.drop_run-2.ensures.same.1 ∙ (c.drop_run.ensures.same.1 ∙ c.drops.ensures.same.1))))
    (ap (λ s. s.now) (sym (c.drop_run-2.ensures.same.2 ∙ (c.drop_run.ensures.same.2 ∙ c.drops.ensures.same.2))))
    (ap (λ xs. xs.items) (sym (c.drop_run-2.ensures.same.0 ∙ (c.drop_run.ensures.same.0 ∙ c.drops.ensures.same.0)))) c.requires.guess
