-- Strong compliance, and what breaks it.
use Rattle.ba_facts.proofs.DecideLemmas.{dec_answer}
use Rattle.ba_facts.specs.Laws.{StrongHasNoViolation}

-- what can't fail holds, where it is decided
unless : {A : Type 0} → Dec A → ¬ (¬ A) → A
unless (yes a) f = a
unless (no g) f = absurd (f g)

pub strong_has_no_violation : StrongHasNoViolation
strong_has_no_violation policy c trace q = (
  λ strong d e r it. it.absent ((strong.within d e it.one it.two it.within it.shown).rows r it.asked),
  λ none.
      record {
        within = λ d e one two within shown.
            record {
              rows = λ r asked.
                  unless (dec_answer q c e r)
                  (λ absent. none d e r (record { one = one; two = two; within = within; shown = shown; asked = asked; absent = absent }));
            };
      },
)
