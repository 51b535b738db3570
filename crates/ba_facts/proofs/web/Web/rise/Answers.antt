use Rattle.std.proofs.Common.{◌≡◌, pos, ap, ◌∙◌, List}
use Rattle.std.specs.List.{slice_get}
use Rattle.ba_facts.specs.declared.term.Term.{Term}
use Rattle.ba_facts.proofs.WebLemmas.{rise_whole}
use Rattle.ba_facts.proofs.web.Web.rise.Goals as goal

pub returns-clause-ok : goal.returns-clause-ok
returns-clause-ok c = λ k h l a b is js d e r w.
    let names : c.place-high.new.self.names ≡ c.args.self.now.names = c.place-high.ensures.names ∙ c.place-low.ensures.names in
    rise_whole (pos c.args.gap) d e r (ap (λ (ts : List Term). slice_get ts c.args.x) names ∙ is) (ap (λ (ts : List Term). slice_get ts c.args.y) names ∙ js) (c.place-high.ensures.places c.args.x c.place-low.result c.place-low.ensures.place) c.place-high.ensures.place c.in_ok-raise.ensures.ok c.deny.ensures c.deny-2.ensures (c.place-high.ensures.kept k (c.place-low.ensures.kept k w))
