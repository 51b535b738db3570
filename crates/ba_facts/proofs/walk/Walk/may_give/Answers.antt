use Rattle.std.proofs.Common.{map, rules}
use Rattle.std.proofs.lemmas.Iterator.{YieldsList-from_slice, cases_from_any}
use Rattle.ba_facts.proofs.PlaceLemmas.{any_found}
use Rattle.ba_facts.specs.Matches.{terms_at}
use Rattle.ba_facts.specs.Walks.{MayGive}
use Rattle.ba_facts.proofs.walk.Walk.may_give.Goals as goal

pub returns : goal.returns
returns c =
    let rows = map (terms_at c.args.self.now.branch.now) c.args.chosen.now in
    any_found (MayGive rows c.args.atom.now) c.any.result c.args.conds.now
    (cases_from_any _ _ _ (MayGive rows c.args.atom.now) (λ cond. MayGive rows c.args.atom.now cond → ⊥)
    c.any.ensures.ran (YieldsList-from_slice c.args.conds.now c.iter.ensures.rest) (λ x q h. search rules) (λ x q h. search rules))
