use Rattle.std.proofs.Common.{◌≡◌, List, [], ◌∷◌, map, Ok, refl, ap, subst}
use Rattle.std.proofs.lemmas.Result.{err_from_is_err_and}
use Rattle.serde_json.specs.View.{view}
use Rattle.ba_model.specs.Readings.{Fails, each}
use Rattle.ba_proof.proofs.EachLemmas.{each_ends, each_fails, each_goes_on}
use Rattle.ba_printed.specs.Reading.{table_of}
use Rattle.ba_printed.proofs.rows.each_table.Goals as goal

itself : {A : Type 0} (xs : List A) → map (λ x. x) xs ≡ xs
itself [] = refl
itself (x ∷ xs) = ap (λ ys. x ∷ ys) (itself xs)

pub returns-in_err-rows : goal.returns-in_err-rows
returns-in_err-rows c =
    let p = err_from_is_err_and c.from_residual.result c.from_residual.ensures.1 in
    rw (p.1, p.2)
    (subst (λ tables. Fails c.in_err-rows.field-0.0 (each (table_of (view c.args.value.now)) tables)) (itself c.args.tables.now)
    (each_fails (λ table. table) (table_of (view c.args.value.now)) c.args.tables.now c.loop-table.table-index c.loop-table.sets c.table-item.result c.in_err-rows.field-0.0 c.loop-table.invariant c.loop-table-test.true c.table-item.is c.in_err-rows.ensures))

pub loop-table-preserved : goal.loop-table-preserved
loop-table-preserved c =
    each_goes_on (λ table. table) (table_of (view c.args.value.now)) c.args.tables.now c.loop-table.table-index c.loop-table.sets _ c.table-item.result c.in_ok-rows.rows c.loop-table.invariant c.loop-table-test.true c.table-item.is c.in_ok-rows.ensures c.in_ok-push.ensures.ok

pub returns : goal.returns
returns c =
    subst (λ tables. each (table_of (view c.args.value.now)) tables ≡ Ok c.loop-table.sets) (itself c.args.tables.now)
    (each_ends (λ table. table) (table_of (view c.args.value.now)) c.args.tables.now c.loop-table.table-index c.loop-table.sets c.loop-table.invariant c.loop-table-test.false)
