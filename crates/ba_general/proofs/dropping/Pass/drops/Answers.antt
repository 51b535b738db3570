use Rattle.std.proofs.Common.{ap, arith, refl, subst, sym, ◌∙◌}
use Rattle.std.proofs.lemmas.Bool.{false≢true}
use Rattle.std.specs.Prelude.{Some, None}
use Rattle.ba_general.proofs.AtOnceLemmas.{last_moved, last_none, last_some, proof_moved}
use Rattle.ba_general.proofs.DroppingLemmas.{set_back}
use Rattle.ba_general.proofs.GuessLemmas.{accepted_moved, guess_moved}
use Rattle.ba_general.specs.Dropping.{IsProofBy, IsTriedAtOnce, kept_atoms, without_run}
use Rattle.ba_general.specs.Patterns.{assuming}
use Rattle.ba_general.proofs.dropping.Pass.drops.Goals as goal

pub returns-then-not-asked-clause-tried : goal.returns-then-not-asked-clause-tried
returns-then-not-asked-clause-tried c = IsTriedAtOnce.stays (λ asked. absurd (false≢true (sym c.if-not-asked.true ∙ asked))) refl

pub keeps-known-requires-clause-guess : goal.keeps-known-requires-clause-guess
keeps-known-requires-clause-guess c =
    let self = c.args.self.now in
    let same = c.set.ensures.same in
    guess_moved self.pattern.now.problem c.set.new.self.pattern.now.problem self.steps.now c.set.new.self.steps.now self.atoms.items c.set.new.self.atoms.items c.args.guess.now
    (ap (λ p. p.now.problem) (sym same.1)) (ap (λ s. s.now) (sym same.2)) (ap (λ xs. xs.items) (sym same.0)) c.requires.guess

pub returns-then-known-clause-tried : goal.returns-then-known-clause-tried
returns-then-known-clause-tried c =
    let self = c.args.self.now in
    let same = c.set.ensures.same in
    IsTriedAtOnce.gone
    (accepted_moved c.set.new.self.pattern.now.problem self.pattern.now.problem c.set.new.self.steps.now self.steps.now c.set.new.self.atoms.items self.atoms.items
    c.set.new.self.kept.items (without_run self.kept.items c.args.first c.args.end) (ap (λ p. p.now.problem) same.1) (ap (λ s. s.now) same.2)
    (ap (λ xs. xs.items) same.0) c.set.ensures.kept (c.keeps-known.ensures c.if-known.true))
    c.set.ensures.kept

pub returns-then-known-clause-last : goal.returns-then-known-clause-last
returns-then-known-clause-last c =
    let self = c.args.self.now in
    last_none self.pattern.now.problem self.steps.now self.atoms.items c.set.new.self.kept.items None refl

pub returns-in_default-clause-tried : goal.returns-in_default-clause-tried
returns-in_default-clause-tried c =
    let self = c.args.self.now in
    let same = c.set.ensures.same in
    let by : IsProofBy (assuming c.args.self.now.pattern.now.problem (kept_atoms c.args.self.now.atoms.items (without_run c.args.self.now.kept.items c.args.first c.args.end)))
    c.args.self.now.steps.now None =
    proof_moved c.set.new.self.pattern.now.problem self.pattern.now.problem c.set.new.self.steps.now self.steps.now c.set.new.self.atoms.items self.atoms.items
    c.set.new.self.kept.items (without_run self.kept.items c.args.first c.args.end) None (ap (λ p. p.now.problem) same.1) (ap (λ s. s.now) same.2) (ap (λ xs. xs.items) same.0)
    c.set.ensures.kept
    (subst (IsProofBy (assuming c.set.new.self.pattern.now.problem (kept_atoms c.set.new.self.atoms.items c.set.new.self.kept.items)) c.set.new.self.steps.now) c.in_default.is
    c.in_ok-proof.ensures) in
    IsTriedAtOnce.stays (λ asked. by)
    (set_back self.kept.items c.set.new.self.kept.items c.set-in_default.new.self.kept.items c.args.first c.args.end c.requires.first
    (omega (arith, c.requires.flags, c.requires.there)) c.requires.kept c.set.ensures.kept c.set-in_default.ensures.kept)

pub returns-in_default-clause-last : goal.returns-in_default-clause-last
returns-in_default-clause-last c =
    let self = c.args.self.now in
    last_moved self.pattern.now.problem self.pattern.now.problem self.steps.now self.steps.now self.atoms.items self.atoms.items self.kept.items c.set-in_default.new.self.kept.items
    self.last c.set-in_default.new.self.last refl refl refl
    (sym
    (set_back self.kept.items c.set.new.self.kept.items c.set-in_default.new.self.kept.items c.args.first c.args.end c.requires.first
    (omega (arith, c.requires.flags, c.requires.there)) c.requires.kept c.set.ensures.kept c.set-in_default.ensures.kept))
    (sym (c.set-in_default.ensures.same.4 ∙ c.set.ensures.same.4)) c.requires.last

pub returns-clause-tried : goal.returns-clause-tried
returns-clause-tried c =
    let self = c.args.self.now in
    let same = c.set.ensures.same in
    let by =
    proof_moved c.set.new.self.pattern.now.problem self.pattern.now.problem c.set.new.self.steps.now self.steps.now c.set.new.self.atoms.items self.atoms.items
    c.set.new.self.kept.items (without_run self.kept.items c.args.first c.args.end) (Some c.in-Some.proof) (ap (λ p. p.now.problem) same.1) (ap (λ s. s.now) same.2)
    (ap (λ xs. xs.items) same.0) c.set.ensures.kept
    (subst (IsProofBy (assuming c.set.new.self.pattern.now.problem (kept_atoms c.set.new.self.atoms.items c.set.new.self.kept.items)) c.set.new.self.steps.now) c.in-Some.is
    c.in_ok-proof.ensures) in
    IsTriedAtOnce.gone by.0 c.set.ensures.kept

pub returns-clause-last : goal.returns-clause-last
returns-clause-last c =
    let self = c.args.self.now in
    let same = c.set.ensures.same in
    let by =
    proof_moved c.set.new.self.pattern.now.problem self.pattern.now.problem c.set.new.self.steps.now self.steps.now c.set.new.self.atoms.items self.atoms.items
    c.set.new.self.kept.items c.set.new.self.kept.items (Some c.in-Some.proof) (ap (λ p. p.now.problem) same.1) (ap (λ s. s.now) same.2) (ap (λ xs. xs.items) same.0) refl
    (subst (IsProofBy (assuming c.set.new.self.pattern.now.problem (kept_atoms c.set.new.self.atoms.items c.set.new.self.kept.items)) c.set.new.self.steps.now) c.in-Some.is
    c.in_ok-proof.ensures) in
    last_some self.pattern.now.problem self.steps.now self.atoms.items c.set.new.self.kept.items c.in-Some.proof by.1
