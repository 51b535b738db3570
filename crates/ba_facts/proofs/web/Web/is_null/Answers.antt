use Rattle.std.proofs.lemmas.Bool.{false≢true}
use Rattle.ba_model.specs.declared.value.Value.TheVariants.{Null}
use Rattle.ba_facts.proofs.QueryLemmas.{null_alone}
use Rattle.ba_facts.proofs.web.Web.is_null.Goals as goal

pub returns-in-Absent : goal.returns-in-Absent
returns-in-Absent c = λ k w. (λ e. absurd (false≢true e), λ h. absurd (c.in-Absent.ensures k w Null h))

pub returns-in-One : goal.returns-in-One
returns-in-One c = λ k w. null_alone _ c.same.result (c.in-One.ensures k w).0 (c.in-One.ensures k w).1 c.same.ensures
