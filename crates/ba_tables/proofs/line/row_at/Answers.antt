use Rattle.std.proofs.Common.{◌∙◌, sym}
use Rattle.csv.specs.Records.{fields_of}
use Rattle.ba_tables.proofs.FrontLemmas.{no_text_is, other_width_is, row_is}
use Rattle.ba_tables.proofs.line.row_at.Goals as goal

pub returns-then-len-clause-reads : goal.returns-then-len-clause-reads
returns-then-len-clause-reads c = other_width_is c.args.row c.args.columns.now (fields_of c.args.line.now) (λ e. c.if-len.true (c.len.ensures ∙ (e ∙ sym c.len-2.ensures)))

pub returns-then-not-is_text-clause-reads : goal.returns-then-not-is_text-clause-reads
returns-then-not-is_text-clause-reads c = no_text_is c.args.row c.args.columns.now (fields_of c.args.line.now) (sym c.len.ensures ∙ (c.if-len.false ∙ c.len-2.ensures)) (sym c.is_text.ensures ∙ c.if-not-is_text.true)

pub returns-clause-reads : goal.returns-clause-reads
returns-clause-reads c = rw (row_is c.args.row c.args.columns.now (fields_of c.args.line.now) (sym c.len.ensures ∙ (c.if-len.false ∙ c.len-2.ensures)) (sym c.is_text.ensures ∙ c.if-not-is_text.false)) c.values_of.ensures
