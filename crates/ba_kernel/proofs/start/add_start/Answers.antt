use Rattle.std.proofs.Common.{◌∙◌, length, map, refl}
use Rattle.ba_kernel.proofs.BuildCases.{added, atoms, heads, numbered, there, there_after}
use Rattle.ba_kernel.proofs.BuildStarts.{assumed_terms, nothing_there, part_for, start_is}
use Rattle.ba_kernel.specs.Courses.{nothing_known}
use Rattle.ba_kernel.specs.Effects.{lesson_of, rows_at}
use Rattle.ba_facts.specs.declared.term.Side.TheVariants.{One}
use Rattle.ba_kernel.proofs.start.add_start.Goals as goal

pub operand_row-requires : goal.operand_row-requires
operand_row-requires c =
    let s = c.args.problem.now.policy.schema in
    let old = nothing_known c.args.problem.now in
    let part = c.args.part.now in
    let new_is = added s One 0 old part c.args.new.now c.add_facts.new.new c.as_slice-from.result.now c.requires.nothing c.as_slice-from.ensures
    c.in_ok-add_facts.ensures in
    let facts_are = numbered s One 0 old part c.in_ok-numbers.numbers.items c.as_slice-facts.result.now 0 c.len.result refl c.len.ensures
    c.in_ok-numbers.ensures c.as_slice-facts.ensures.value in
    heads s One 0 old part c.add_facts.new.new c.as_slice-facts.result.now new_is facts_are
    (length part.head) (part_for c.args.problem.now part c.requires.part) c.as_slice-head.result.now c.as_slice-head.ensures

pub assume_all-requires-clause-there : goal.assume_all-requires-clause-there
assume_all-requires-clause-there c =
    let s = c.args.problem.now.policy.schema in
    let old = nothing_known c.args.problem.now in
    let part = c.args.part.now in
    let new_is = added s One 0 old part c.args.new.now c.add_facts.new.new c.as_slice-from.result.now c.requires.nothing c.as_slice-from.ensures
    c.in_ok-add_facts.ensures in
    let facts_are = numbered s One 0 old part c.in_ok-numbers.numbers.items c.as_slice-facts.result.now 0 c.len.result refl c.len.ensures
    c.in_ok-numbers.ensures c.as_slice-facts.ensures.value in
    there s One 0 old part c.add_facts.new.new c.as_slice-facts.result.now new_is facts_are
    (nothing_there c.args.problem.now)

pub assume_all-requires-clause-terms : goal.assume_all-requires-clause-terms
assume_all-requires-clause-terms c =
    let s = c.args.problem.now.policy.schema in
    let old = nothing_known c.args.problem.now in
    let part = c.args.part.now in
    let new_is = added s One 0 old part c.args.new.now c.add_facts.new.new c.as_slice-from.result.now c.requires.nothing c.as_slice-from.ensures
    c.in_ok-add_facts.ensures in
    let facts_are = numbered s One 0 old part c.in_ok-numbers.numbers.items c.as_slice-facts.result.now 0 c.len.result refl c.len.ensures
    c.in_ok-numbers.ensures c.as_slice-facts.ensures.value in
    atoms s One 0 old part c.add_facts.new.new c.as_slice-facts.result.now new_is facts_are
    (length part.head) (part_for c.args.problem.now part c.requires.part) c.as_slice-conds.result.now c.as_slice-conds.ensures

pub assume_all-requires-2-clause-there : goal.assume_all-requires-2-clause-there
assume_all-requires-2-clause-there c =
    let s = c.args.problem.now.policy.schema in
    let old = nothing_known c.args.problem.now in
    let part = c.args.part.now in
    let new_is = added s One 0 old part c.args.new.now c.add_facts.new.new c.as_slice-from.result.now c.requires.nothing c.as_slice-from.ensures
    c.in_ok-add_facts.ensures in
    let facts_are = numbered s One 0 old part c.in_ok-numbers.numbers.items c.as_slice-facts.result.now 0 c.len.result refl c.len.ensures
    c.in_ok-numbers.ensures c.as_slice-facts.ensures.value in
    there_after s One 0 old part c.add_facts.new.new c.as_slice-facts.result.now new_is facts_are
    (map (lesson_of (rows_at c.add_facts.new.new c.as_slice-facts.result.now)) c.as_slice-conds.result.now) c.assume_all.new.new
    c.in_ok-assume_all.ensures (nothing_there c.args.problem.now)

pub assume_all-requires-2-clause-terms : goal.assume_all-requires-2-clause-terms
assume_all-requires-2-clause-terms c = assumed_terms c.args.problem.now c.as_slice-assumed.result.now c.requires.fits c.as_slice-assumed.ensures

pub returns : goal.returns
returns c =
    let s = c.args.problem.now.policy.schema in
    let old = nothing_known c.args.problem.now in
    let part = c.args.part.now in
    let new_is = added s One 0 old part c.args.new.now c.add_facts.new.new c.as_slice-from.result.now c.requires.nothing c.as_slice-from.ensures
    c.in_ok-add_facts.ensures in
    let facts_are = numbered s One 0 old part c.in_ok-numbers.numbers.items c.as_slice-facts.result.now 0 c.len.result refl c.len.ensures
    c.in_ok-numbers.ensures c.as_slice-facts.ensures.value in
    start_is c.args.problem.now part c.add_facts.new.new c.assume_all.new.new c.assume_all-2.new.new c.as_slice-facts.result.now c.as_slice-conds.result.now
    c.as_slice-assumed.result.now c.as_slice-head.result.now c.in_ok-goal.goal.items c.in_ok-new.field-0 new_is facts_are c.as_slice-conds.ensures
    c.as_slice-assumed.ensures c.as_slice-head.ensures c.in_ok-goal.ensures (c.in_ok-new.ensures ∙ c.from_vec.ensures) c.in_ok-assume_all.ensures c.in_ok-assume_all-2.ensures
