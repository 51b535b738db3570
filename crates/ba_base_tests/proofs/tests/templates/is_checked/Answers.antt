use Rattle.ba_base_tests.proofs.tests.templates.is_checked.Goals as goal

pub returns : goal.returns
returns c = λ e. record {
  links = c.own_links_fit.ensures c.if-not-own_links_fit.false;
  rules = c.own_rules_fit.ensures c.if-not-own_rules_fit.false;
  policy_fits = record { views = c.views_fit.ensures c.if-not-views_fit.false; keys = c.keys_fit.ensures e };
}
