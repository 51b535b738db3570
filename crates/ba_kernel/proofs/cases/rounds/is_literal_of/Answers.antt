use Rattle.std.proofs.Common.{rules}
use Rattle.std.proofs.lemmas.Iterator.{YieldsList-from_slice, cases_from_any}
use Rattle.ba_facts.proofs.PlaceLemmas.{any_found}
use Rattle.ba_kernel.specs.Tidy.{MentionsLiteral}
use Rattle.ba_kernel.proofs.cases.rounds.is_literal_of.Goals as goal

pub returns : goal.returns
returns c =
    any_found (MentionsLiteral c.args.value.now) c.any.result c.args.parts.now
    (cases_from_any _ _ _ (MentionsLiteral c.args.value.now) (λ part. MentionsLiteral c.args.value.now part → ⊥) c.any.ensures.ran
    (YieldsList-from_slice c.args.parts.now c.iter.ensures.rest) (λ x q h. search rules) (λ x q h. search rules))
