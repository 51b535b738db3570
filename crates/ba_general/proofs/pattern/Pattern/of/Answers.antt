use Rattle.std.proofs.Common.{◌≡◌, ◌++◌, ap, ap₂, refl, subst, sym, ◌∙◌}
use Rattle.ba_general.proofs.AskedLemmas.{entries_asked, goal_asked, operands_made, pattern_made}
use Rattle.ba_general.specs.Conditions.{parameters_of, variables}
use Rattle.ba_general.specs.Patterns.{Named, NamesQuery, QueryIsAsked}
use Rattle.ba_general.proofs.pattern.Pattern.of.Goals as goal

pub query-requires : goal.query-requires
query-requires c = subst QueryIsAsked (sym c.deref.ensures) (goal_asked c.args.problem.now c.requires.fits c.requires.question)

pub entries-requires-clause-asked : goal.entries-requires-clause-asked
entries-requires-clause-asked c = entries_asked c.args.problem.now c.requires.fits c.requires.question

pub returns-clause-pattern : goal.returns-clause-pattern
returns-clause-pattern c =
    let kinds : c.naming-2.inside.kinds ≡ c.entries.new.self.kinds = ap (λ (n : Named). n.kinds) c.naming-2.view_is in
    let values : c.naming-2.inside.values ≡ c.entries.new.self.values = ap (λ (n : Named). n.values) c.naming-2.view_is in
    pattern_made c.args.problem.now c.args.numbers.now c.new-naming.result c.query.new.self c.entries.new.self c.in_ok-goal.goal c.in_ok-entries.entries
    (record { policy = c.in_ok-copy.field-0; vars = c.naming-2.inside.kinds; assumed = c.new.result; entries = c.in_ok-entries.entries; goal = c.in_ok-goal.goal })
    c.naming-2.inside.values c.new-naming.ensures
    (subst (λ q. NamesQuery c.new-naming.result q c.query.new.self c.in_ok-goal.goal) c.deref.ensures c.in_ok-goal.ensures.names) c.in_ok-entries.ensures.names
    c.in_ok-copy.ensures kinds c.new.ensures c.in_ok-goal.ensures.repeats c.in_ok-entries.ensures.repeats refl refl values

pub returns-clause-operands : goal.returns-clause-operands
returns-clause-operands c =
    operands_made c.args.problem.now c.naming-2.inside.values c.in_ok-operands.operands c.requires.question
    (c.in_ok-operands.ensures ∙ ap₂ (λ vs atoms. variables vs ++ parameters_of atoms) c.as_slice.ensures c.as_slice-2.ensures)
