use Rattle.std.proofs.Common.{◌∙◌, subst}
use Rattle.ba_eval.proofs.GatherLemmas.{more_places, tables_more}
use Rattle.ba_eval.proofs.StepLemmas.{table_more, tables_within}
use Rattle.ba_eval.specs.Index.{IsPlace}
use Rattle.ba_eval.proofs.place.places_of.Goals as goal

pub loop-table-preserved : goal.loop-table-preserved
loop-table-preserved g c =
    let s = c.args.search.now in
    let is = subst (λ n. IsPlace s.bounded s.ctx.now s.rows.now s.part.now n c.in_ok-place.place) (c.len.ensures ∙ c.loop-table.places.ok.0) c.in_ok-place.ensures.place in
    record {
      tables = tables_more _ _ c.loop-table-test.true _ _ _ c.in_ok-push.ensures.items c.loop-table.invariant.tables c.in_ok-place.ensures.table;
      places = more_places _ _ _ _ _ _ _ c.in_ok-push.ensures.items c.loop-table.invariant.places is;
      steps = table_more _ _ _ c.loop-table-test.true _ _ _ c.loop-table.invariant.steps c.in_ok-place.ensures.steps;
    }

pub returns-in_err-push-clause-steps : goal.returns-in_err-push-clause-steps
returns-in_err-push-clause-steps g c =
    tables_within _ c.args.search.now.part.now _ c.as_slice-table-items.ensures _ _ _ (table_more _ _ _ c.loop-table-test.true _ _ _ c.loop-table.invariant.steps c.new.ensures.steps)
