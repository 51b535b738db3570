use Rattle.std.proofs.Common.{◌∙◌, ◌++◌, ap, refl, rules, string_bytes}
use Rattle.std.specs.List.{flat_map}
use Rattle.std.proofs.lemmas.List.{take_all}
use Rattle.ba_workload.proofs.LineLemmas.{field_more, none_yet}
use Rattle.ba_workload.specs.Tables.{next_field}
use Rattle.ba_workload.proofs.lines.push_next.Goals as goal

pub loop-value-init : goal.loop-value-init
loop-value-init c = none_yet (string_bytes c.args.text.now) (string_bytes c.args.text.now) refl

pub loop-value-preserved : goal.loop-value-preserved
loop-value-preserved c =
    field_more c.args.values.now c.loop-value.value-index c.value-item.result (string_bytes c.args.text.now) (string_bytes c.loop-value.text) (string_bytes c.push_str.new.self) (string_bytes c.push_field.new.text)
    c.loop-value-test.true c.value-item.is c.loop-value.invariant c.in_ok-push_str.ensures.bytes c.in_ok-push_field.ensures

pub returns : goal.returns
returns c = c.loop-value.invariant ∙ ap (λ vs. string_bytes c.args.text.now ++ flat_map next_field vs) (take_all c.loop-value.value-index c.args.values.now (search rules))
