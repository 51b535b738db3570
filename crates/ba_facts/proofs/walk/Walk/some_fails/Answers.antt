use Rattle.std.proofs.Common.{map, rules}
use Rattle.std.proofs.lemmas.Iterator.{YieldsList-from_slice, cases_from_any}
use Rattle.ba_facts.proofs.PlaceLemmas.{any_found}
use Rattle.ba_facts.specs.Walks.{FailsAt}
use Rattle.ba_facts.specs.Matches.{terms_at}
use Rattle.ba_facts.proofs.walk.Walk.some_fails.Goals as goal

pub returns : goal.returns
returns c =
    let own = c.args.self.now in
    let rows = map (terms_at own.branch.now) c.args.chosen.now in
    any_found (FailsAt own.branch.now.known own.wanted rows) c.any.result c.args.atoms.now
    (cases_from_any _ _ _ (FailsAt own.branch.now.known own.wanted rows) (λ atom. FailsAt own.branch.now.known own.wanted rows atom → ⊥)
    c.any.ensures.ran (YieldsList-from_slice c.args.atoms.now c.iter.ensures.rest) (λ x q h. search rules) (λ x q h. search rules))
