use Rattle.std.proofs.Common.{◌∙◌, ap, rules, sym}
use Rattle.std.proofs.lemmas.Int.{to_z-of_z}
use Rattle.std.specs.Int.{w128}
use mir.Val.{SFits}
use Rattle.ba_model.specs.declared.value.Value.TheVariants.{Int}
use Rattle.std.proofs.lemmas.Bool.{false≢true}
use Rattle.ba_refute.proofs.ValueLemmas.{node_is_there, null_value, number_kind, number_value, text_found}
use Rattle.ba_refute.proofs.values.open_value.Goals as goal

pub returns-then-not-shown_not_null : goal.returns-then-not-shown_not_null
returns-then-not-shown_not_null c =
    null_value c.args.known.now c.args.marks c.args.nodes.now c.args.numbers.now c.args.least c.null.result c.requires.open
    (λ h. false≢true (sym c.if-not-shown_not_null.true ∙ c.shown_not_null.ensures.1 h)) c.null.ensures

pub returns-then-is_of_kind : goal.returns-then-is_of_kind
returns-then-is_of_kind c =
    text_found c.args.known.now c.args.marks c.args.nodes.now c.args.numbers.now c.args.least c.text_value.result
    (record { has_kind = c.is_of_kind.ensures.0 c.if-is_of_kind.true; no_literal = c.requires.open; not_null = c.shown_not_null.ensures.0 c.if-not-shown_not_null.false })
    c.text_value.ensures

pub unreachable-requires : goal.unreachable-requires
unreachable-requires c =
    c.in-None.ensures
    (node_is_there c.args.known.now c.args.nodes.now c.args.least c.requires.nodes c.requires.is_least
    (record {
      has_kind = number_kind c.args.known.now c.args.least c.requires.is_least.there (λ h. false≢true (sym c.if-is_of_kind.false ∙ c.is_of_kind.ensures.1 h));
      no_literal = c.requires.open;
      not_null = c.shown_not_null.ensures.0 c.if-not-shown_not_null.false;
    }))

pub returns : goal.returns
returns c =
    let fits : SFits w128 c.in-Some.number = search rules in
    number_value c.args.known.now c.args.marks c.args.nodes.now c.args.numbers.now c.args.least c.in-Some.number c.number.result
    (record {
      has_kind = number_kind c.args.known.now c.args.least c.requires.is_least.there (λ h. false≢true (sym c.if-is_of_kind.false ∙ c.is_of_kind.ensures.1 h));
      no_literal = c.requires.open;
      not_null = c.shown_not_null.ensures.0 c.if-not-shown_not_null.false;
    })
    c.in-Some.ensures (c.number.ensures ∙ ap Int (to_z-of_z w128 c.in-Some.number fits))
