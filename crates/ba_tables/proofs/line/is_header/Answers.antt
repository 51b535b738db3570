use Rattle.std.proofs.Common.{◌∙◌, sym, arith}
use Rattle.csv.specs.Records.{fields_of}
use Rattle.ba_tables.proofs.FieldLemmas.{other_name, other_width, same_name}
use Rattle.ba_tables.proofs.line.is_header.Goals as goal

pub returns-then-len-width : goal.returns-then-len-width
returns-then-len-width c = sym (other_width c.args.columns.now (fields_of c.args.line.now) (λ e. c.if-len-width.true (c.len.ensures ∙ (e ∙ sym c.len-width.ensures))))

pub returns-then-ne : goal.returns-then-ne
returns-then-ne c =
    sym (
    sym c.loop-i.invariant.1
    ∙ other_name c.args.columns.now (fields_of c.args.line.now) c.loop-i.i c.get-in-loop-i.result.now c.get.result c.as_bytes.result c.loop-i.invariant.0 (omega arith) c.get.ensures.value c.get-in-loop-i.ensures c.as_bytes.ensures (sym c.if-ne.true ∙ c.ne.ensures)
    )

pub loop-i-preserved : goal.loop-i-preserved
loop-i-preserved c = (
  c.loop-i.invariant.0,
  same_name c.args.columns.now (fields_of c.args.line.now) c.loop-i.i c.get-in-loop-i.result.now c.get.result c.as_bytes.result c.loop-i.invariant.0 (omega arith) c.get.ensures.value c.get-in-loop-i.ensures c.as_bytes.ensures (sym c.if-ne.false ∙ c.ne.ensures)
      ∙ c.loop-i.invariant.1,
)
