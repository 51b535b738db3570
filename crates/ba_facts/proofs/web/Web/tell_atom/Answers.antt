use Rattle.ba_facts.specs.Known.{seen}
use Rattle.ba_facts.specs.Webs.{IsWeb}
use Rattle.ba_facts.proofs.LessonLemmas.{on_ok, tell_apart, tell_less, tell_at_most, tell_null, tell_not_null}
use Rattle.ba_facts.proofs.web.Web.tell_atom.Goals as goal

pub returns-in-Ne-clause-ok : goal.returns-in-Ne-clause-ok
returns-in-Ne-clause-ok c = on_ok c.part.result (tell_apart c.args.atom.now _ _ c.args.unknowns.now (λ k. IsWeb k c.args.self.now) (λ k. IsWeb k c.part.new.self) c.by_ref-left.ensures c.by_ref-right.ensures c.in-Ne.is) c.part.ensures.ok

pub returns-in-Lt-clause-ok : goal.returns-in-Lt-clause-ok
returns-in-Lt-clause-ok c = on_ok c.lift.result (tell_less c.args.atom.now _ _ c.args.unknowns.now (λ k. IsWeb k c.args.self.now) (λ k. IsWeb k c.lift.new.self) c.by_ref-left.ensures c.by_ref-right.ensures c.in-Lt.is) c.lift.ensures.ok

pub returns-in-Le-clause-ok : goal.returns-in-Le-clause-ok
returns-in-Le-clause-ok c = on_ok c.lift-in-Le.result (tell_at_most c.args.atom.now _ _ c.args.unknowns.now (λ k. IsWeb k c.args.self.now) (λ k. IsWeb k c.lift-in-Le.new.self) c.by_ref-left.ensures c.by_ref-right.ensures c.in-Le.is) c.lift-in-Le.ensures.ok

pub returns-in-IsNull-clause-ok : goal.returns-in-IsNull-clause-ok
returns-in-IsNull-clause-ok c = on_ok c.unite.result (tell_null c.args.atom.now _ (seen c.by_ref-right.result) c.args.unknowns.now (λ k. IsWeb k c.args.self.now) (λ k. IsWeb k c.unite.new.self) c.by_ref-left.ensures c.by_ref-right.ensures c.in-IsNull.is) c.unite.ensures.ok

pub returns-in-NotNull-clause-ok : goal.returns-in-NotNull-clause-ok
returns-in-NotNull-clause-ok c = on_ok c.part-in-NotNull.result (tell_not_null c.args.atom.now _ _ c.args.unknowns.now (λ k. IsWeb k c.args.self.now) (λ k. IsWeb k c.part-in-NotNull.new.self) c.by_ref-left.ensures c.by_ref-right.ensures c.in-NotNull.is) c.part-in-NotNull.ensures.ok
