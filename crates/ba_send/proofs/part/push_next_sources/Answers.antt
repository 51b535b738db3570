use Rattle.std.proofs.Common.{◌∙◌, ◌++◌, ◌+◌, List, ℕ, ap, arith, refl, string_bytes, sym}
use Rattle.std.proofs.lemmas.List.{take_all}
use Rattle.ba_lex.specs.declared.token.Sign.TheVariants.{Comma}
use Rattle.ba_send.specs.Sent.{following, pieces_text, sign, sources_from}
use Rattle.ba_send.proofs.GrowLemmas.{grows_none, grows_source}
use Rattle.ba_send.proofs.TextLemmas.{comma_text}
use Rattle.ba_send.proofs.part.push_next_sources.Goals as goal

pub loop-i-init : goal.loop-i-init
loop-i-init c = grows_none c.args.target.now.database (string_bytes c.args.out.now) (string_bytes c.args.out.now) refl

pub loop-i-preserved : goal.loop-i-preserved
loop-i-preserved c =
    grows_source c.args.target.now c.args.schema.now c.args.target.now.database (sign Comma) c.args.next.now c.loop-i.i (c.loop-i.i + 1) _ (string_bytes c.args.out.now)
    (string_bytes c.loop-i.out) (string_bytes c.push_str.new.self) (string_bytes c.push_source.new.out)
    (omega (arith, c.loop-i-test.true)) refl c.loop-i.invariant
    (c.in_ok-push_str.ensures.bytes ∙ ap (λ (t : List ℕ). string_bytes c.loop-i.out ++ t) (sym (comma_text c.args.target.now.database)))
    c.in_ok-push_source.ensures

pub returns : goal.returns
returns c =
    c.loop-i.invariant
    ∙ ap (λ (ts : List ℕ). string_bytes c.args.out.now ++ pieces_text c.args.target.now.database (following (sign Comma) (sources_from c.args.target.now c.args.schema.now 1 ts)))
    (take_all c.loop-i.i c.args.next.now (omega (arith, c.loop-i-test.false)))
