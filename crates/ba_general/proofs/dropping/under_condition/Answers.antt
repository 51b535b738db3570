use Rattle.std.proofs.Common.{◌≡◌, ◌≤◌, ap, arith, length, refl, subst, sym, ◌∙◌}
use Rattle.ba_general.proofs.AtOnceLemmas.{last_moved, last_none}
use Rattle.ba_general.proofs.GuessLemmas.{guess_moved}
use Rattle.ba_general.proofs.LeftLemmas.{condition_accepted}
use Rattle.ba_general.proofs.WholePassLemmas.{all_fit, behind, condition_left, ends_up, pass_condition, proof_left, proof_of_pattern, still_kept}
use Rattle.ba_general.specs.Conditions.{AtomsFit}
use Rattle.ba_general.specs.Dropping.{IsAccepted, kept_atoms}
use Rattle.ba_general.proofs.dropping.under_condition.Goals as goal

pub guess-requires-clause-atoms : goal.guess-requires-clause-atoms
guess-requires-clause-atoms c =
    let pass = c.in_ok-pass.pass in
    let fit = all_fit c.args.pattern.now pass.atoms.items pass.ends c.requires.fits c.in_ok-pass.ensures.full.full in
    subst (λ p. AtomsFit p.now.problem c.in_ok-pass.pass.atoms.items) (sym c.in_ok-pass.ensures.of.0) fit

pub guess-requires-clause-first : goal.guess-requires-clause-first
guess-requires-clause-first c =
    let pass = c.in_ok-pass.pass in
    let up = ends_up c.args.pattern.now.operands pass.atoms.items pass.ends c.in_ok-pass.ensures.full.full in
    up.all

pub drop_unequal-requires-clause-atoms : goal.drop_unequal-requires-clause-atoms
drop_unequal-requires-clause-atoms c =
    let pass = c.in_ok-pass.pass in
    let fit = all_fit c.args.pattern.now pass.atoms.items pass.ends c.requires.fits c.in_ok-pass.ensures.full.full in
    subst (λ p. AtomsFit p.now.problem c.in_ok-pass.pass.atoms.items) (sym c.in_ok-pass.ensures.of.0) fit

pub drop_unequal-requires-clause-ends : goal.drop_unequal-requires-clause-ends
drop_unequal-requires-clause-ends c =
    let pass = c.in_ok-pass.pass in
    ends_up c.args.pattern.now.operands pass.atoms.items pass.ends c.in_ok-pass.ensures.full.full

pub drop_equal-requires-clause-atoms : goal.drop_equal-requires-clause-atoms
drop_equal-requires-clause-atoms c =
    let pass = c.in_ok-pass.pass in
    let one = c.drop_unequal.ensures.same in
    let fit = all_fit c.args.pattern.now pass.atoms.items pass.ends c.requires.fits c.in_ok-pass.ensures.full.full in
    subst (λ p. AtomsFit p.now.problem c.drop_unequal.new.self.atoms.items) (sym (one.1 ∙ c.in_ok-pass.ensures.of.0))
    (subst (λ xs. AtomsFit c.args.pattern.now.problem xs.items) (sym one.0) fit)

pub drop_equal-requires-clause-first : goal.drop_equal-requires-clause-first
drop_equal-requires-clause-first c =
    let pass = c.in_ok-pass.pass in
    let up = ends_up c.args.pattern.now.operands pass.atoms.items pass.ends c.in_ok-pass.ensures.full.full in
    omega (arith, up.all, c.len-all.ensures, c.in_ok-pass.pass.atoms.ok.0)

pub drop_equal-requires-clause-there : goal.drop_equal-requires-clause-there
drop_equal-requires-clause-there c =
    let pass = c.in_ok-pass.pass in
    let count : c.len-all.result ≡ length c.in_ok-pass.pass.atoms.items = omega (arith, c.len-all.ensures, c.in_ok-pass.pass.atoms.ok.0) in
    subst (λ xs. c.len-all.result ≤ length xs.items) (sym c.drop_unequal.ensures.same.0) (omega (arith, count))

pub drop_equal-requires-clause-flags : goal.drop_equal-requires-clause-flags
drop_equal-requires-clause-flags c = c.in_ok-drop_unequal.ensures.groups.flags ∙ ap (λ xs. length xs.items) (sym c.drop_unequal.ensures.same.0)

pub drop_equal-requires-clause-kept : goal.drop_equal-requires-clause-kept
drop_equal-requires-clause-kept c =
    let pass = c.in_ok-pass.pass in
    let p1 = c.drop_unequal.new.self in
    let up = ends_up c.args.pattern.now.operands pass.atoms.items pass.ends c.in_ok-pass.ensures.full.full in
    let groups = c.in_ok-drop_unequal.ensures.groups in
    still_kept pass.kept.items p1.kept.items (length pass.atoms.items) pass.ends.apart c.len-all.result c.in_ok-pass.ensures.full.kept_are
    (groups.apart.after ∙
    (behind groups.second groups.first pass.ends.less pass.ends.apart up.apart groups.less.after ∙
    behind groups.first pass.kept.items pass.ends.fixed pass.ends.apart (omega (arith, up.less, up.apart)) groups.fixed.after))

pub drop_unequal-requires-clause-last : goal.drop_unequal-requires-clause-last
drop_unequal-requires-clause-last c =
    let pass = c.in_ok-pass.pass in
    last_none pass.pattern.now.problem pass.steps.now pass.atoms.items pass.kept.items pass.last c.in_ok-pass.ensures.last

pub drop_equal-requires-clause-last : goal.drop_equal-requires-clause-last
drop_equal-requires-clause-last c =
    let pass = c.in_ok-pass.pass in
    let p1 = c.drop_unequal.new.self in
    let one = c.drop_unequal.ensures.same in
    last_moved pass.pattern.now.problem p1.pattern.now.problem pass.steps.now p1.steps.now pass.atoms.items p1.atoms.items p1.kept.items p1.kept.items p1.last p1.last
    (ap (λ p. p.now.problem) (sym one.1)) (ap (λ s. s.now) (sym one.2)) (ap (λ xs. xs.items) (sym one.0)) refl refl c.in_ok-drop_unequal.ensures.last

pub drop_equal-requires-clause-guess : goal.drop_equal-requires-clause-guess
drop_equal-requires-clause-guess c =
    let pass = c.in_ok-pass.pass in
    let p1 = c.drop_unequal.new.self in
    let one = c.drop_unequal.ensures.same in
    guess_moved pass.pattern.now.problem p1.pattern.now.problem pass.steps.now p1.steps.now pass.atoms.items p1.atoms.items c.in_ok-guess.guess
    (ap (λ p. p.now.problem) (sym one.1)) (ap (λ s. s.now) (sym one.2)) (ap (λ xs. xs.items) (sym one.0)) c.in_ok-guess.ensures

pub proof-requires-clause-guess : goal.proof-requires-clause-guess
proof-requires-clause-guess c =
    let pass = c.in_ok-pass.pass in
    let p2 = c.drop_equal.new.self in
    let one = c.drop_unequal.ensures.same in
    let two = c.drop_equal.ensures.same in
    guess_moved pass.pattern.now.problem p2.pattern.now.problem pass.steps.now p2.steps.now pass.atoms.items p2.atoms.items c.in_ok-guess.guess
    (ap (λ p. p.now.problem) (sym (two.1 ∙ one.1))) (ap (λ s. s.now) (sym (two.2 ∙ one.2))) (ap (λ xs. xs.items) (sym (two.0 ∙ one.0))) c.in_ok-guess.ensures

pub proof-requires-clause-atoms : goal.proof-requires-clause-atoms
proof-requires-clause-atoms c =
    let pass = c.in_ok-pass.pass in
    let one = c.drop_unequal.ensures.same in
    let two = c.drop_equal.ensures.same in
    let fit = all_fit c.args.pattern.now pass.atoms.items pass.ends c.requires.fits c.in_ok-pass.ensures.full.full in
    subst (λ p. AtomsFit p.now.problem c.drop_equal.new.self.atoms.items) (sym (two.1 ∙ (one.1 ∙ c.in_ok-pass.ensures.of.0)))
    (subst (λ xs. AtomsFit c.args.pattern.now.problem xs.items) (sym (two.0 ∙ one.0)) fit)

pub proof-requires-clause-last : goal.proof-requires-clause-last
proof-requires-clause-last c =
    let p1 = c.drop_unequal.new.self in
    let p2 = c.drop_equal.new.self in
    let two = c.drop_equal.ensures.same in
    last_moved p1.pattern.now.problem p2.pattern.now.problem p1.steps.now p2.steps.now p1.atoms.items p2.atoms.items p2.kept.items p2.kept.items p2.last p2.last
    (ap (λ p. p.now.problem) (sym two.1)) (ap (λ s. s.now) (sym two.2)) (ap (λ xs. xs.items) (sym two.0)) refl refl c.in_ok-drop_equal.ensures.last

pub proof-requires-clause-accepted : goal.proof-requires-clause-accepted
proof-requires-clause-accepted c =
    let pass = c.in_ok-pass.pass in
    let one = c.drop_unequal.ensures.same in
    let two = c.drop_equal.ensures.same in
    let left = c.in_ok-drop_equal.ensures in
    let p1 = c.drop_unequal.new.self in
    let p2 = c.drop_equal.new.self in
    let count : c.len-all.result ≡ length c.in_ok-pass.pass.atoms.items = omega (arith, c.len-all.ensures, c.in_ok-pass.pass.atoms.ok.0) in
    subst (λ p. IsAccepted p.now.problem c.drop_equal.new.self.steps.now (kept_atoms c.drop_equal.new.self.atoms.items c.drop_equal.new.self.kept.items))
    (sym (two.1 ∙ (one.1 ∙ c.in_ok-pass.ensures.of.0)))
    (subst (λ s. IsAccepted c.args.pattern.now.problem s.now (kept_atoms c.drop_equal.new.self.atoms.items c.drop_equal.new.self.kept.items))
    (sym (two.2 ∙ (one.2 ∙ c.in_ok-pass.ensures.of.1)))
    (condition_accepted c.args.pattern.now.problem c.args.pattern.now.operands c.args.steps.now (kept_atoms p2.atoms.items p2.kept.items)
    (pass_condition c.args.pattern c.args.steps pass p1 p2 c.len-all.result c.in_ok-pass.ensures.full c.in_ok-pass.ensures.of.0 c.in_ok-pass.ensures.of.1 c.requires.accepted
    count (record { groups = c.in_ok-drop_unequal.ensures.groups; atoms = one.0; pattern = one.1; steps = one.2 })
    (record { run = left.run; flags = left.flags; atoms = two.0; pattern = two.1; steps = two.2 }))))

pub returns-clause-condition : goal.returns-clause-condition
returns-clause-condition c =
    let pass = c.in_ok-pass.pass in
    let one = c.drop_unequal.ensures.same in
    let two = c.drop_equal.ensures.same in
    let left = c.in_ok-drop_equal.ensures in
    let p1 = c.drop_unequal.new.self in
    let p2 = c.drop_equal.new.self in
    let count : c.len-all.result ≡ length c.in_ok-pass.pass.atoms.items = omega (arith, c.len-all.ensures, c.in_ok-pass.pass.atoms.ok.0) in
    condition_left c.proof.result c.args.pattern.now.problem c.args.pattern.now.operands c.args.steps.now (kept_atoms p2.atoms.items p2.kept.items)
    (pass_condition c.args.pattern c.args.steps pass p1 p2 c.len-all.result c.in_ok-pass.ensures.full c.in_ok-pass.ensures.of.0 c.in_ok-pass.ensures.of.1 c.requires.accepted
    count (record { groups = c.in_ok-drop_unequal.ensures.groups; atoms = one.0; pattern = one.1; steps = one.2 })
    (record { run = left.run; flags = left.flags; atoms = two.0; pattern = two.1; steps = two.2 }))
    (proof_of_pattern c.proof.result p2.pattern.now.problem c.args.pattern.now.problem p2.steps.now c.args.steps.now (kept_atoms p2.atoms.items p2.kept.items)
    (ap (λ p. p.now.problem) (two.1 ∙ (one.1 ∙ c.in_ok-pass.ensures.of.0))) (ap (λ s. s.now) (two.2 ∙ (one.2 ∙ c.in_ok-pass.ensures.of.1))) c.proof.ensures)

pub returns-clause-is : goal.returns-clause-is
returns-clause-is c =
    let one = c.drop_unequal.ensures.same in
    let two = c.drop_equal.ensures.same in
    let p2 = c.drop_equal.new.self in
    proof_left c.proof.result c.args.pattern.now.problem c.args.steps.now (kept_atoms p2.atoms.items p2.kept.items)
    (proof_of_pattern c.proof.result p2.pattern.now.problem c.args.pattern.now.problem p2.steps.now c.args.steps.now (kept_atoms p2.atoms.items p2.kept.items)
    (ap (λ p. p.now.problem) (two.1 ∙ (one.1 ∙ c.in_ok-pass.ensures.of.0))) (ap (λ s. s.now) (two.2 ∙ (one.2 ∙ c.in_ok-pass.ensures.of.1))) c.proof.ensures)
