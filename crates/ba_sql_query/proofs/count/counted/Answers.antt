use Rattle.std.proofs.Common.{◌≡◌, ◌∙◌, Result, Ok, Err}
use Rattle.std.specs.Prelude.{IfOk}
use Rattle.ba_sql_query.specs.declared.count.Count.{Count}
use Rattle.ba_sql_query.proofs.CountLemmas.{members_count}
use Rattle.ba_sql_query.proofs.count.counted.Goals as goal

same_count : {E : Type 0} (r : Result Count E) (a b : Count) → IfOk r (λ count. count ≡ a) → a ≡ b → IfOk r (λ count. count ≡ b)
same_count (Ok c) a b h e = h ∙ e
same_count (Err f) a b h e = tt

pub returns : goal.returns
returns c = same_count c.count_run.result _ _ c.count_run.ensures (members_count c.args.condition.now)
