use Rattle.std.proofs.Common.{rules}
use Rattle.std.proofs.lemmas.Iterator.{cases_from_any, YieldsList-from_slice}
use Rattle.ba_facts.specs.Apart.{TellsApartAt}
use Rattle.ba_facts.specs.Known.{seen}
use Rattle.ba_facts.proofs.ApartLemmas.{some_found, recorded_apart_at}
use Rattle.ba_facts.proofs.knowledge.Knowledge.recorded_apart.Goals as goal

pub returns : goal.returns
returns c =
    let k = c.args.self.now in
    let a = seen c.args.a in
    let b = seen c.args.b in
    let from_slice = YieldsList-from_slice c.apart.result.now c.iter.ensures.rest in
    let cases = cases_from_any _ _ _ (λ place. TellsApartAt k place a b) (λ place. TellsApartAt k place a b → ⊥) c.any.ensures.ran from_slice
    (λ x q h. search rules) (λ x q h. search rules) in
    let found = some_found (λ place. TellsApartAt k place a b) c.any.result c.apart.result.now cases in
    let apart = recorded_apart_at k a b c.apart.result.now c.apart.ensures in
    (λ h. apart.0 (found.0 h), λ h. found.1 (apart.1 h))
