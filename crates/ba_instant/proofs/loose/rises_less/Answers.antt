use Rattle.ba_facts.specs.Known.{seen}
use Rattle.ba_instant.proofs.LooseLemmas.{none_rises}
use Rattle.ba_instant.proofs.loose.rises_less.Goals as goal

pub returns-in-None : goal.returns-in-None
returns-in-None c = λ _ sum gap.
    none_rises c.args.known.now c.args.from.now c.args.to.now (seen c.by_ref.result) (seen c.by_ref-2.result) c.bound.result c.by_ref.ensures c.by_ref-2.ensures c.in-None.is
    c.bound.ensures c.args.than sum gap
