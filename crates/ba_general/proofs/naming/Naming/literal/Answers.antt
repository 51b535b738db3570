use Rattle.std.proofs.Common.{◌≡◌, ◌∷◌, ◌++◌, [], ap, ap₂, length, sym, ◌∙◌}
use Rattle.ba_general.proofs.NamesLemmas.{literal_named, null_stays}
use Rattle.ba_general.specs.Patterns.{Named}
use Rattle.ba_general.proofs.naming.Naming.literal.Goals as goal

pub returns-in_default : goal.returns-in_default
returns-in_default c = null_stays c.args.self.now c.args.value.now (sym c.kind.ensures ∙ c.in_default.is)

pub returns : goal.returns
returns c =
    let kinds : c.self.inside.kinds ≡ c.args.self.now.kinds = ap (λ (n : Named). n.kinds) c.self.view_is in
    let values : c.self.inside.values ≡ c.args.self.now.values = ap (λ (n : Named). n.values) c.self.view_is in
    literal_named c.args.self.now (record { kinds = c.push.new.self; values = c.push-2.new.self }) c.args.value.now c.in-Some.kind c.in_ok-number.number
    (sym c.kind.ensures ∙ c.in-Some.is)
    (c.in_ok-number.ensures.value ∙ (c.len.ensures ∙ ap length values))
    (c.in_ok-push.ensures.ok ∙ ap (λ ks. ks ++ c.in-Some.kind ∷ []) kinds)
    (c.in_ok-push-2.ensures.ok ∙ ap₂ (λ vs v. vs ++ v ∷ []) values c.in_ok-copy.ensures)
