use Rattle.std.proofs.Common.{◌≡◌, List, [], All, subst, sym}
use Rattle.std.proofs.lemmas.List.Elements.{All-nil}
use Rattle.ba_model.specs.Fit.{IsQuery, KeyFits, kinds_of}
use Rattle.ba_model.specs.declared.policy.CacheKey.{CacheKey}
use Rattle.ba_model.specs.declared.policy.Parameter.{Parameter}
use Rattle.ba_model.specs.declared.policy.Policy.{Policy}
use Rattle.ba_model.specs.declared.policy.View.{View}
use Rattle.ba_model.specs.declared.schema.Schema.{Schema}
use Rattle.ba_model.specs.RuleFaults.{RuleFits}
use Rattle.ba_kernel.specs.Courses.{LinksFit}
use Rattle.ba_kernel.specs.Drafts.{IsChecked}
use Rattle.ba_kernel_tests.proofs.tests.policies.policy.Goals as goal

-- a policy of parts that fit
checked_from : (made held seen : Schema) (params : List Parameter) (views : List View) (keys : List CacheKey) (policy : Policy) →
    policy ≡ record { schema = held; params = params; views = views; keys = keys } → held ≡ made → seen ≡ held → keys ≡ [] →
    LinksFit made → All (RuleFits made) made.rules → All (λ view. IsQuery seen (kinds_of params) [] view.query) views → IsChecked policy
checked_from made held seen params views keys policy is same seen_is no_keys links rules views_fit =
    let it : Policy = record { schema = held; params = params; views = views; keys = keys } in
    let checked : IsChecked it = record {
      links = subst LinksFit (sym same) links;
      rules = subst (λ (s : Schema). All (RuleFits s) s.rules) (sym same) rules;
      policy_fits = record {
        views = subst (λ (s : Schema). All (λ view. IsQuery s (kinds_of params) [] view.query) views) seen_is views_fit;
        keys = subst (All (KeyFits it)) (sym no_keys) (All-nil (KeyFits it));
      };
    } in
    subst IsChecked (sym is) checked

pub returns : goal.returns
returns g c =
    checked_from c.schema.result c.shared-schema.result c.deref.result.now c.push.new.self c.views-views.result c.new-keys.result c.shared.result
    c.shared.ensures c.shared-schema.ensures c.deref.ensures c.new-keys.ensures c.schema.ensures.links c.schema.ensures.rules c.views-views.ensures
