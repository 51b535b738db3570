use Rattle.std.proofs.Common.{refl, sym, ◌∙◌}
use Rattle.std.proofs.lemmas.Bool.{false≢true}
use Rattle.ba_facts.specs.Knowing.{literals}
use Rattle.ba_facts.proofs.QueryLemmas.{clashing_exact}
use Rattle.ba_facts.proofs.web.Web.clashes.Goals as goal

pub returns-then-self : goal.returns-then-self
returns-then-self c = λ k known w. (λ e. literals (w.terms_are.marked.flag.0 c.if-self.true).1, λ i. refl)

pub returns-else-self : goal.returns-else-self
returns-else-self c = λ k known w. clashing_exact c.not_null.result (λ two. false≢true (sym c.if-self.false ∙ w.terms_are.marked.flag.1 two)) (c.not_null.ensures k known w)
