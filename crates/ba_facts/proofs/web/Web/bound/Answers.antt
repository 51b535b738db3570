use Rattle.std.proofs.Common.{sym, ◌∙◌}
use Rattle.std.proofs.lemmas.Bool.{false≢true}
use Rattle.ba_facts.specs.Known.{seen}
use Rattle.ba_facts.proofs.BoundLemmas.{other_bound, same_bound}
use Rattle.ba_facts.proofs.web.Web.bound.Goals as goal

pub returns-then-one_class : goal.returns-then-one_class
returns-then-one_class c = λ k w. same_bound w (seen c.args.low) (seen c.args.high) c.requires.order ((c.one_class.ensures k w).0 c.if-one_class.true)

pub returns-else-one_class : goal.returns-else-one_class
returns-else-one_class c = λ k w.
    other_bound w (seen c.args.low) (seen c.args.high) c.bound_of_places.result
    (λ one. false≢true (sym c.if-one_class.false ∙ (c.one_class.ensures k w).1 one)) c.bound_of_places.ensures
