use Rattle.std.proofs.Common.{◌≤◌, ◌∙◌, inl, inr, sym, subst, arith}
use Rattle.std.proofs.Math.Nat.{eq-or-lt_of_le}
use Rattle.std.proofs.lemmas.Bool.{false≢true}
use Rattle.ba_facts.specs.Known.{OneClass, itself}
use Rattle.ba_facts.specs.declared.term.Term.TheVariants.{Unknown}
use Rattle.ba_facts.proofs.web.Web.least_in.Goals as goal

pub loop-number-preserved : goal.loop-number-preserved
loop-number-preserved c = λ k w m below one.
    let most : m ≤ c.loop-number.number = omega (arith, below) in
    elim (eq-or-lt_of_le most) as (λ _. ⊥) [
      | inl same ↦ false≢true (sym c.if-has_class.false ∙ (c.has_class.ensures k (Unknown c.args.unknown) c.requires.numbered w).1 (subst (λ i. OneClass k (Unknown c.args.unknown) (Unknown i)) same one))
      | inr less ↦ c.loop-number.invariant k w m less one
    ]

pub returns : goal.returns
returns c = λ k w. record { one_class = itself; none_less = λ m below. c.loop-number.invariant k w m (omega (arith, below, c.loop-number-test.false)) }
