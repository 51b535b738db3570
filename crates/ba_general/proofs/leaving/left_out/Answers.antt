use Rattle.std.proofs.Common.{◌≤◌, arith, length, subst}
use Rattle.ba_general.proofs.KeptLemmas.{made_wide, none_without, tried_gives, without_few}
use Rattle.ba_general.specs.Leaving.{IsWithout, MaybeIs}
use Rattle.ba_general.proofs.leaving.left_out.Goals as goal

pub returns-then-refused : goal.returns-then-refused
returns-then-refused c = c.requires.refused c.if-refused.true

pub without-requires-clause-made : goal.without-requires-clause-made
without-requires-clause-made c = made_wide c.args.problem.now c.args.taken.now.steps c.args.taken.now.made.items c.requires.made

pub returns-in_default : goal.returns-in_default
returns-in_default c =
    none_without c.args.problem.now c.args.taken.now.steps c.args.taken.now.made.items c.args.first c.args.end c.requires.made
    (subst (MaybeIs (IsWithout c.args.taken.now.steps c.args.taken.now.made.items c.args.first c.args.end)) c.in_default.is c.in_ok-rest.ensures)

pub tried-requires-clause-few : goal.tried-requires-clause-few
tried-requires-clause-few c =
    let few : length c.in-Some.rest ≤ length c.args.taken.now.steps =
    without_few c.args.taken.now.steps c.args.taken.now.made.items c.args.first c.args.end c.in-Some.rest
    (subst (MaybeIs (IsWithout c.args.taken.now.steps c.args.taken.now.made.items c.args.first c.args.end)) c.in-Some.is c.in_ok-rest.ensures) in
    omega (arith, few, c.requires.few)

pub returns : goal.returns
returns c =
    tried_gives c.args.problem.now c.args.taken.now.steps c.args.taken.now.made.items c.args.first c.args.end c.in-Some.rest c.tried.result c.requires.made
    (subst (MaybeIs (IsWithout c.args.taken.now.steps c.args.taken.now.made.items c.args.first c.args.end)) c.in-Some.is c.in_ok-rest.ensures)
    c.tried.ensures
