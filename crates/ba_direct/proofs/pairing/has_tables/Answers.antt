use Rattle.std.proofs.Common.{sym, ap, ◌∙◌, arith}
use Rattle.std.specs.Prelude.{Some, unwrap_or}
use Rattle.ba_direct.proofs.SearchLemmas.{tables_at, tables_more}
use Rattle.ba_direct.proofs.pairing.has_tables.Goals as goal

pub returns-then-there-tables : goal.returns-then-there-tables
returns-then-there-tables c = (
  λ e. cc,
  λ f.
      let k = tables_at _ _ _ c.loop-i.i f c.loop-i-test.true (omega arith) in
      absurd (c.if-there-tables.true (ap (λ o. unwrap_or o 0) (c.in-Some.ensures ∙ k))),
)

pub returns-in-None : goal.returns-in-None
returns-in-None c = (
  λ e. cc,
  λ f.
      let k = tables_at _ _ _ c.loop-i.i f c.loop-i-test.true (omega arith) in
      let h = c.in-None.ensures ∙ k in
      cc,
)

pub loop-i-preserved : goal.loop-i-preserved
loop-i-preserved c = tables_more _ _ _ _ c.loop-i.invariant (omega arith) (omega arith) (sym c.in-Some.ensures ∙ ap Some c.if-there-tables.false)
