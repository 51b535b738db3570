use Rattle.std.proofs.Common.{◌≡◌, ◌+◌, ◌-◌, ◌/◌, ◌≤◌, arith, ap, length, refl, subst, sym, take, ◌∙◌}
use Rattle.std.proofs.lemmas.Bool.{false≢true}
use Rattle.ba_model.specs.Limits.{most_steps}
use Rattle.ba_general.proofs.AcceptedLemmas.{each_dropped}
use Rattle.ba_general.proofs.AtOnceLemmas.{earlier_refused, last_moved, refused_anyhow, refused_moved, tried_gone, tried_kept, tried_refused, without_long}
use Rattle.ba_general.proofs.DroppingLemmas.{halves_run}
use Rattle.ba_general.proofs.FullLemmas.{atoms_can}
use Rattle.ba_general.proofs.GuessLemmas.{guess_moved}
use Rattle.ba_general.proofs.PassLemmas.{empty_run, run_one, run_told}
use Rattle.ba_general.proofs.RunLemmas.{back_kept, front_kept, middle_in, run_moved}
use Rattle.ba_general.specs.Conditions.{AtomsFit, PatternFits}
use Rattle.ba_general.specs.Dropping.{AllKept, DropsRun, IsAccepted, IsRefusedAtOnce, between, kept_atoms, without_run}
use Rattle.ba_general.proofs.dropping.Pass.+drop_run.Goals as goal

pub returns-then-first-end-clause-run : goal.returns-then-first-end-clause-run
returns-then-first-end-clause-run t c =
    let self = c.args.self.now in
    empty_run self.pattern.now.problem self.steps.now self.atoms.items self.kept.items c.args.first c.args.end (IsAccepted self.pattern.now.problem self.steps.now)
    self.kept.items c.if-first-end.true refl

pub drops-requires-clause-first : goal.drops-requires-clause-first
drops-requires-clause-first t c = omega (arith, c.if-first-end.false)

pub returns-then-gone-clause-run : goal.returns-then-gone-clause-run
returns-then-gone-clause-run t c =
    let self = c.args.self.now in
    let new = c.drops.new.self.kept.items in
    let told = tried_gone (IsAccepted self.pattern.now.problem self.steps.now) self.atoms.items self.kept.items new c.args.first c.args.end c.in_ok-gone.gone
    c.in_ok-gone.ensures.tried c.if-gone.true in
    run_told self.pattern.now.problem self.steps.now self.atoms.items self.kept.items c.args.first c.args.end new (omega (arith, c.if-first-end.false)) c.requires.there
    c.requires.flags told.1 (atoms_can self.pattern.now.problem self.atoms.items c.requires.atoms) each_dropped
    (subst (λ ks. IsAccepted self.pattern.now.problem self.steps.now (kept_atoms self.atoms.items ks)) (sym told.1) told.0)

pub returns-then-gone-clause-gone : goal.returns-then-gone-clause-gone
returns-then-gone-clause-gone t c =
    let self = c.args.self.now in
    let told = tried_gone (IsAccepted self.pattern.now.problem self.steps.now) self.atoms.items self.kept.items c.drops.new.self.kept.items c.args.first c.args.end
    c.in_ok-gone.gone c.in_ok-gone.ensures.tried c.if-gone.true in
    (λ yes. told.1)

pub returns-then-gone-clause-flags : goal.returns-then-gone-clause-flags
returns-then-gone-clause-flags t c =
    let self = c.args.self.now in
    let told = tried_gone (IsAccepted self.pattern.now.problem self.steps.now) self.atoms.items self.kept.items c.drops.new.self.kept.items c.args.first c.args.end
    c.in_ok-gone.gone c.in_ok-gone.ensures.tried c.if-gone.true in
    ap length told.1 ∙
    (without_long self.kept.items c.args.first c.args.end (omega (arith, c.if-first-end.false)) (omega (arith, c.requires.flags, c.requires.there)) ∙
    (c.requires.flags ∙ ap (λ xs. length xs.items) (sym c.drops.ensures.same.0)))

pub returns-then-end-first-eq1-clause-run : goal.returns-then-end-first-eq1-clause-run
returns-then-end-first-eq1-clause-run t c =
    let self = c.args.self.now in
    let P = IsAccepted self.pattern.now.problem self.steps.now in
    let new = c.drops.new.self.kept.items in
    run_one self.pattern.now.problem self.steps.now self.atoms.items self.kept.items c.args.first c.args.end (without_run self.kept.items c.args.first c.args.end) new
    c.if-end-first-eq1.true c.requires.there c.requires.flags c.requires.kept refl
    (refused_anyhow (IsRefusedAtOnce P self.atoms.items self.kept.items c.args.first c.args.end) c.args.refused c.requires.refused
    (tried_refused P self.atoms.items self.kept.items new c.args.first c.args.end c.in_ok-gone.gone c.in_ok-gone.ensures.tried c.if-gone.false))
    (tried_kept P self.atoms.items self.kept.items new c.args.first c.args.end c.in_ok-gone.gone c.in_ok-gone.ensures.tried c.if-gone.false)

pub returns-then-end-first-eq1-clause-flags : goal.returns-then-end-first-eq1-clause-flags
returns-then-end-first-eq1-clause-flags t c =
    let self = c.args.self.now in
    ap length (tried_kept (IsAccepted self.pattern.now.problem self.steps.now) self.atoms.items self.kept.items c.drops.new.self.kept.items c.args.first c.args.end
    c.in_ok-gone.gone c.in_ok-gone.ensures.tried c.if-gone.false) ∙
    (c.requires.flags ∙ ap (λ xs. length xs.items) (sym c.drops.ensures.same.0))

pub drop_run-requires : goal.drop_run-requires
drop_run-requires t c =
    let self = c.args.self.now in
    let same = c.drops.ensures.same in
    let kept : c.drops.new.self.kept.items ≡ c.args.self.now.kept.items =
    tried_kept (IsAccepted self.pattern.now.problem self.steps.now) self.atoms.items self.kept.items c.drops.new.self.kept.items c.args.first c.args.end
    c.in_ok-gone.gone c.in_ok-gone.ensures.tried c.if-gone.false in
    let middle = middle_in c.args.first c.args.end (c.args.first + (c.args.end - c.args.first) / 2) (omega (arith, c.if-first-end.false)) refl in
    let fits = subst (λ p. PatternFits p.now) (sym same.1) c.requires.fits in
    let few = subst (λ s. length s.now ≤ most_steps) (sym same.2) c.requires.few in
    let atoms_fit = subst (λ p. AtomsFit p.now.problem c.drops.new.self.atoms.items) (sym same.1)
    (subst (λ xs. AtomsFit c.args.self.now.pattern.now.problem xs.items) (sym same.0) c.requires.atoms) in
    let there = subst (λ xs. c.args.end ≤ length xs.items) (sym same.0) c.requires.there in
    let flags = ap length kept ∙ (c.requires.flags ∙ ap (λ xs. length xs.items) (sym same.0)) in
    let all = subst (λ ks. AllKept (between (c.args.first + (c.args.end - c.args.first) / 2) c.args.end ks)) (sym kept)
    (back_kept self.kept.items c.args.first (c.args.first + (c.args.end - c.args.first) / 2) c.args.end middle.0 middle.1
    (omega (arith, c.requires.flags, c.requires.there)) c.requires.kept) in
    let last = last_moved self.pattern.now.problem c.drops.new.self.pattern.now.problem self.steps.now c.drops.new.self.steps.now self.atoms.items c.drops.new.self.atoms.items
    c.drops.new.self.kept.items c.drops.new.self.kept.items c.drops.new.self.last c.drops.new.self.last (ap (λ p. p.now.problem) (sym same.1)) (ap (λ s. s.now) (sym same.2))
    (ap (λ xs. xs.items) (sym same.0)) refl refl c.in_ok-gone.ensures.last in
    let guessed =
    guess_moved self.pattern.now.problem c.drops.new.self.pattern.now.problem self.steps.now c.drops.new.self.steps.now self.atoms.items c.drops.new.self.atoms.items c.args.guess.now
    (ap (λ p. p.now.problem) (sym c.drops.ensures.same.1))
    (ap (λ s. s.now) (sym c.drops.ensures.same.2))
    (ap (λ xs. xs.items) (sym c.drops.ensures.same.0)) c.requires.guess in
    (omega (arith, c.decreases, c.if-first-end.false, c.if-end-first-eq1.false), (fits, (few, (atoms_fit, (there, (flags, (all, (last, ((λ no. absurd (false≢true no)), guessed)))))))))

pub drop_run-requires-2 : goal.drop_run-requires-2
drop_run-requires-2 t c =
    let self = c.args.self.now in
    let P = IsAccepted self.pattern.now.problem self.steps.now in
    let same = c.drops.ensures.same in
    let atoms = c.drop_run.ensures.same.0 ∙ same.0 in
    let pattern = c.drop_run.ensures.same.1 ∙ same.1 in
    let steps = c.drop_run.ensures.same.2 ∙ same.2 in
    let kept : c.drops.new.self.kept.items ≡ c.args.self.now.kept.items =
    tried_kept (IsAccepted self.pattern.now.problem self.steps.now) self.atoms.items self.kept.items c.drops.new.self.kept.items c.args.first c.args.end
    c.in_ok-gone.gone c.in_ok-gone.ensures.tried c.if-gone.false in
    let middle = middle_in c.args.first c.args.end (c.args.first + (c.args.end - c.args.first) / 2) (omega (arith, c.if-first-end.false)) refl in
    let below : c.args.first + (c.args.end - c.args.first) / 2 ≤ length c.args.self.now.atoms.items = omega (arith, middle.1, c.requires.there) in
    let fits = subst (λ p. PatternFits p.now) (sym pattern) c.requires.fits in
    let few = subst (λ s. length s.now ≤ most_steps) (sym steps) c.requires.few in
    let atoms_fit = subst (λ p. AtomsFit p.now.problem c.drop_run.new.self.atoms.items) (sym pattern)
    (subst (λ xs. AtomsFit c.args.self.now.pattern.now.problem xs.items) (sym atoms) c.requires.atoms) in
    let there = subst (λ xs. c.args.first + (c.args.end - c.args.first) / 2 ≤ length xs.items) (sym atoms) below in
    let all = front_kept self.kept.items c.drop_run.new.self.kept.items c.args.first (c.args.first + (c.args.end - c.args.first) / 2) c.args.end middle.0 middle.1
    (omega (arith, c.requires.flags, c.requires.there)) c.requires.kept
    (c.in_ok-later.ensures.run.before ∙ ap (take (c.args.first + (c.args.end - c.args.first) / 2)) kept) in
    let one = c.drop_run.ensures.same in
    let last = last_moved c.drops.new.self.pattern.now.problem c.drop_run.new.self.pattern.now.problem c.drops.new.self.steps.now c.drop_run.new.self.steps.now
    c.drops.new.self.atoms.items c.drop_run.new.self.atoms.items c.drop_run.new.self.kept.items c.drop_run.new.self.kept.items c.drop_run.new.self.last c.drop_run.new.self.last
    (ap (λ p. p.now.problem) (sym one.1)) (ap (λ s. s.now) (sym one.2)) (ap (λ xs. xs.items) (sym one.0)) refl refl c.in_ok-later.ensures.last in
    let guessed =
    guess_moved self.pattern.now.problem c.drop_run.new.self.pattern.now.problem self.steps.now c.drop_run.new.self.steps.now self.atoms.items c.drop_run.new.self.atoms.items c.args.guess.now
    (ap (λ p. p.now.problem) (sym (c.drop_run.ensures.same.1 ∙ c.drops.ensures.same.1)))
    (ap (λ s. s.now) (sym (c.drop_run.ensures.same.2 ∙ c.drops.ensures.same.2)))
    (ap (λ xs. xs.items) (sym (c.drop_run.ensures.same.0 ∙ c.drops.ensures.same.0))) c.requires.guess in
    let whole : IsRefusedAtOnce (IsAccepted c.args.self.now.pattern.now.problem c.args.self.now.steps.now) c.args.self.now.atoms.items c.args.self.now.kept.items c.args.first c.args.end =
    refused_anyhow (IsRefusedAtOnce P self.atoms.items self.kept.items c.args.first c.args.end) c.args.refused c.requires.refused
    (tried_refused P self.atoms.items self.kept.items c.drops.new.self.kept.items c.args.first c.args.end c.in_ok-gone.gone c.in_ok-gone.ensures.tried
    c.if-gone.false) in (
      omega (arith, c.decreases, c.if-first-end.false, c.if-end-first-eq1.false),
      (
        fits,
        (
          few,
          (
            atoms_fit,
            (
              there,
              (
                c.in_ok-later.ensures.flags,
                (
                  all,
                  (
                    last,
                    (
                      (λ yes.
                          refused_moved self.pattern.now.problem c.drop_run.new.self.pattern.now.problem self.steps.now c.drop_run.new.self.steps.now self.atoms.items
                          c.drop_run.new.self.atoms.items c.drop_run.new.self.kept.items c.args.first (c.args.first + (c.args.end - c.args.first) / 2)
                          (ap (λ p. p.now.problem) (sym pattern)) (ap (λ s. s.now) (sym steps)) (ap (λ xs. xs.items) (sym atoms))
                          (earlier_refused P self.atoms.items self.kept.items c.drop_run.new.self.kept.items c.args.first (c.args.first + (c.args.end - c.args.first) / 2) c.args.end
                          middle.0 middle.1 (omega (arith, c.requires.flags, c.requires.there)) whole
                          (c.in_ok-later.ensures.gone yes ∙ ap (λ ks. without_run ks (c.args.first + (c.args.end - c.args.first) / 2) c.args.end) kept))),
                      guessed,
                    ),
                  ),
                ),
              ),
            ),
          ),
        ),
      ),
    )

pub returns-clause-run : goal.returns-clause-run
returns-clause-run t c =
    let self = c.args.self.now in
    let same = c.drops.ensures.same in
    let kept : c.drops.new.self.kept.items ≡ c.args.self.now.kept.items =
    tried_kept (IsAccepted self.pattern.now.problem self.steps.now) self.atoms.items self.kept.items c.drops.new.self.kept.items c.args.first c.args.end
    c.in_ok-gone.gone c.in_ok-gone.ensures.tried c.if-gone.false in
    let middle = middle_in c.args.first c.args.end (c.args.first + (c.args.end - c.args.first) / 2) (omega (arith, c.if-first-end.false)) refl in
    let back : DropsRun (IsAccepted self.pattern.now.problem self.steps.now) self.atoms.items self.kept.items c.drop_run.new.self.kept.items
    (c.args.first + (c.args.end - c.args.first) / 2) c.args.end =
    run_moved c.drops.new.self.pattern.now.problem self.pattern.now.problem c.drops.new.self.steps.now self.steps.now c.drops.new.self.atoms.items self.atoms.items
    c.drops.new.self.kept.items self.kept.items c.drop_run.new.self.kept.items (c.args.first + (c.args.end - c.args.first) / 2) c.args.end
    (ap (λ p. p.now.problem) same.1) (ap (λ s. s.now) same.2) (ap (λ xs. xs.items) same.0) kept c.in_ok-later.ensures.run in
    let flags : length c.drop_run.new.self.kept.items ≡ length c.args.self.now.atoms.items =
    c.in_ok-later.ensures.flags ∙ ap (λ xs. length xs.items) (c.drop_run.ensures.same.0 ∙ same.0) in
    halves_run (IsAccepted self.pattern.now.problem self.steps.now) self.atoms.items self.kept.items c.drop_run.new.self.kept.items c.drop_run-2.new.self.kept.items
    c.args.first (c.args.first + (c.args.end - c.args.first) / 2) c.args.end middle.0 middle.1 c.requires.there c.requires.flags flags
    (c.in_ok-drop_run.ensures.flags ∙ ap (λ xs. length xs.items) (c.drop_run-2.ensures.same.0 ∙ (c.drop_run.ensures.same.0 ∙ same.0))) c.requires.kept back
    (run_moved c.drop_run.new.self.pattern.now.problem self.pattern.now.problem c.drop_run.new.self.steps.now self.steps.now c.drop_run.new.self.atoms.items self.atoms.items
    c.drop_run.new.self.kept.items c.drop_run.new.self.kept.items c.drop_run-2.new.self.kept.items c.args.first (c.args.first + (c.args.end - c.args.first) / 2)
    (ap (λ p. p.now.problem) (c.drop_run.ensures.same.1 ∙ same.1)) (ap (λ s. s.now) (c.drop_run.ensures.same.2 ∙ same.2))
    (ap (λ xs. xs.items) (c.drop_run.ensures.same.0 ∙ same.0)) refl c.in_ok-drop_run.ensures.run)

pub returns-clause-last : goal.returns-clause-last
returns-clause-last t c =
    let self = c.args.self.now in
    let same = c.drops.ensures.same in
    let one = c.drop_run.ensures.same in
    last_moved c.drop_run.new.self.pattern.now.problem self.pattern.now.problem c.drop_run.new.self.steps.now self.steps.now c.drop_run.new.self.atoms.items self.atoms.items
    c.drop_run-2.new.self.kept.items c.drop_run-2.new.self.kept.items c.drop_run-2.new.self.last c.drop_run-2.new.self.last (ap (λ p. p.now.problem) (one.1 ∙ same.1))
    (ap (λ s. s.now) (one.2 ∙ same.2)) (ap (λ xs. xs.items) (one.0 ∙ same.0)) refl refl c.in_ok-drop_run.ensures.last
