use Rattle.std.proofs.Common.{arith, sym}
use Rattle.csv.specs.Records.{fields_of}
use Rattle.ba_tables.proofs.FieldLemmas.{field_is_text, no_field}
use Rattle.ba_tables.proofs.line.text_at.Goals as goal

pub unreachable-requires : goal.unreachable-requires
unreachable-requires c = absurd (omega (arith, no_field (fields_of c.args.line.now) c.args.i (sym c.in_default.ensures.value)))

pub unreachable-requires-in_default-from_utf8 : goal.unreachable-requires-in_default-from_utf8
unreachable-requires-in_default-from_utf8 c =
    c.in_default-from_utf8.ensures.cases.0 (field_is_text (fields_of c.args.line.now) c.args.i c.in-Some.field.now c.requires.text (sym c.in-Some.ensures.value))
