use Rattle.std.proofs.Common.{◌∙◌, List, ap, subst, map}
use Rattle.std.specs.List.{All, list_any}
use Rattle.ba_keys.specs.Literals.{part_with}
use Rattle.ba_model.specs.declared.query.Part.{Part}
use Rattle.ba_send.specs.Sendable.{part_has_zero}
use Rattle.ba_sql_print.specs.Spelling.{PartInRange}
use Rattle.ba_send.proofs.zero.query_has_zero.Goals as goal

pub returns : goal.returns
returns c = record {
  zero = c.parts_have_zero.ensures.zero ∙ ap (λ (ps : List Part). list_any part_has_zero (map (part_with 0 c.args.values.now) ps)) c.as_slice.ensures;
  range = subst (λ (ps : List Part). All PartInRange (map (part_with 0 c.args.values.now) ps)) c.as_slice.ensures c.parts_have_zero.ensures.range;
}
