use Rattle.ba_facts.specs.Webs.{IsWeb}
use Rattle.ba_facts.proofs.LessonLemmas.{on_ok, tell_same}
use Rattle.ba_facts.proofs.web.Web.tell.Goals as goal

pub returns-in-Same-clause-ok : goal.returns-in-Same-clause-ok
returns-in-Same-clause-ok c = on_ok c.unite.result (tell_same c.args.lesson.now _ _ c.in-Same.a c.in-Same.b c.args.unknowns.now (λ k. IsWeb k c.args.self.now) (λ k. IsWeb k c.unite.new.self) c.in-Same.is c.by_ref.ensures c.by_ref-in-Same.ensures) c.unite.ensures.ok
