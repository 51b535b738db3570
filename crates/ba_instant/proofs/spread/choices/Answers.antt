use Rattle.std.proofs.Common.{◌∙◌, ◌++◌, ◌∷◌, [], ap}
use Rattle.std.proofs.lemmas.Result.{IfOk-weaker}
use Rattle.ba_instant.proofs.AlikeLemmas.{choices_alone, choices_named}
use Rattle.ba_instant.specs.Spreads.{AreChoices, AreLikes}
use Rattle.ba_instant.proofs.spread.choices.Goals as goal

pub returns-then-names : goal.returns-then-names
returns-then-names c =
    IfOk-weaker c.likes_of.result (λ it. AreLikes c.args.branch.now c.args.fact it.items) (λ it. AreChoices c.args.branch.now c.args.cond.now c.args.place c.args.fact it.items)
    (λ it h. choices_named c.args.branch.now c.args.cond.now c.args.place c.args.fact it.items h) c.likes_of.ensures

pub returns : goal.returns
returns c = choices_alone c.args.branch.now c.args.cond.now c.args.place c.args.fact c.push.new.self.items (c.in_ok-push.ensures.items ∙ ap (λ xs. xs ++ c.args.fact ∷ []) c.new-alone.ensures.items) (λ h. let t = c.names.ensures.1 h in cc)
