use Rattle.std.proofs.Common.{◌≡◌, ◌∙◌, ℕ, true, false, List, [], ◌∷◌, ◌++◌, Some, ap, sym}
use Rattle.std.specs.List.{list_any}
use Rattle.ba_model.specs.declared.policy.Parameter.{Parameter}
use Rattle.ba_policy.specs.Meaning.{same_name}
use Rattle.ba_policy.proofs.KeyLemmas.{repeating_found, repeating_goes_on, repeating_over}
use Rattle.ba_policy.proofs.cache_key.first_repeat.Goals as goal

pub returns-then-branch : goal.returns-then-branch
returns-then-branch c =
    let named = ap (λ (p : Parameter). p.name) c.argument.view_is in
    let found : list_any (same_name c.argument-item.result.name) (c.args.params.now ++ c.loop-argument.before) ≡ true = cc (c.in_ok-is_repeated.ensures.found, c.if-branch.true, named) in
    let copied : c.in_ok-copy.field-0 ≡ c.argument-item.result.name = cc (c.in_ok-copy.ensures, named) in
    ap (λ (n : List ℕ). Some n) copied
    ∙ sym (repeating_found c.args.params.now c.loop-argument.before c.args.arguments.now c.loop-argument.argument-index c.argument-item.result c.loop-argument.invariant c.loop-argument-test.true c.argument-item.is found)

pub loop-argument-preserved : goal.loop-argument-preserved
loop-argument-preserved c =
    let named = ap (λ (p : Parameter). p.name) c.argument.view_is in
    let none : list_any (same_name c.argument-item.result.name) (c.args.params.now ++ c.loop-argument.before) ≡ false = cc (c.in_ok-is_repeated.ensures.found, c.if-branch.false, named) in
    let more : c.is_repeated.new.before ≡ c.loop-argument.before ++ c.argument-item.result.name ∷ [] = cc (c.in_ok-is_repeated.ensures.added c.if-branch.false, named) in
    repeating_goes_on c.args.params.now c.loop-argument.before c.is_repeated.new.before c.args.arguments.now c.loop-argument.argument-index c.argument-item.result c.loop-argument.invariant c.loop-argument-test.true c.argument-item.is none more

pub returns : goal.returns
returns c = sym (repeating_over c.args.params.now c.loop-argument.before c.args.arguments.now c.loop-argument.argument-index c.loop-argument.invariant c.loop-argument-test.false)
