use Rattle.std.proofs.Common.{length, map, refl}
use Rattle.ba_kernel.proofs.BuildCases.{added, atoms, case_is, heads_after, numbered, row_after, same_width, there, there_after}
use Rattle.ba_kernel.specs.Effects.{lesson_of, rows_at}
use Rattle.ba_kernel.proofs.cases.build.add_part.Goals as goal

pub assume_all-requires-clause-there : goal.assume_all-requires-clause-there
assume_all-requires-clause-there c =
    let new_is = added c.args.problem.now.policy.schema c.args.side c.args.round c.args.new.now c.args.part.now c.args.new.now c.add_facts.new.new c.as_slice-from.result.now
    refl c.as_slice-from.ensures c.in_ok-add_facts.ensures in
    let facts_are = numbered c.args.problem.now.policy.schema c.args.side c.args.round c.args.new.now c.args.part.now c.in_ok-numbers.numbers.items c.as_slice-facts.result.now
    c.len.result c.len-2.result c.len.ensures c.len-2.ensures c.in_ok-numbers.ensures c.as_slice-facts.ensures.value in
    there c.args.problem.now.policy.schema c.args.side c.args.round c.args.new.now c.args.part.now c.add_facts.new.new c.as_slice-facts.result.now new_is facts_are
    c.requires.ready.facts

pub assume_all-requires-clause-terms : goal.assume_all-requires-clause-terms
assume_all-requires-clause-terms c =
    let new_is = added c.args.problem.now.policy.schema c.args.side c.args.round c.args.new.now c.args.part.now c.args.new.now c.add_facts.new.new c.as_slice-from.result.now
    refl c.as_slice-from.ensures c.in_ok-add_facts.ensures in
    let facts_are = numbered c.args.problem.now.policy.schema c.args.side c.args.round c.args.new.now c.args.part.now c.in_ok-numbers.numbers.items c.as_slice-facts.result.now
    c.len.result c.len-2.result c.len.ensures c.len-2.ensures c.in_ok-numbers.ensures c.as_slice-facts.ensures.value in
    atoms c.args.problem.now.policy.schema c.args.side c.args.round c.args.new.now c.args.part.now c.add_facts.new.new c.as_slice-facts.result.now new_is facts_are
    (length c.args.row.now) c.requires.fits c.as_slice-conds.result.now c.as_slice-conds.ensures

pub equate_all-requires-clause-there : goal.equate_all-requires-clause-there
equate_all-requires-clause-there c =
    let new_is = added c.args.problem.now.policy.schema c.args.side c.args.round c.args.new.now c.args.part.now c.args.new.now c.add_facts.new.new c.as_slice-from.result.now
    refl c.as_slice-from.ensures c.in_ok-add_facts.ensures in
    let facts_are = numbered c.args.problem.now.policy.schema c.args.side c.args.round c.args.new.now c.args.part.now c.in_ok-numbers.numbers.items c.as_slice-facts.result.now
    c.len.result c.len-2.result c.len.ensures c.len-2.ensures c.in_ok-numbers.ensures c.as_slice-facts.ensures.value in
    there_after c.args.problem.now.policy.schema c.args.side c.args.round c.args.new.now c.args.part.now c.add_facts.new.new c.as_slice-facts.result.now new_is facts_are
    (map (lesson_of (rows_at c.add_facts.new.new c.as_slice-facts.result.now)) c.as_slice-conds.result.now)
    c.assume_all.new.new c.in_ok-assume_all.ensures c.requires.ready.facts

pub equate_all-requires-clause-terms : goal.equate_all-requires-clause-terms
equate_all-requires-clause-terms c =
    let new_is = added c.args.problem.now.policy.schema c.args.side c.args.round c.args.new.now c.args.part.now c.args.new.now c.add_facts.new.new c.as_slice-from.result.now
    refl c.as_slice-from.ensures c.in_ok-add_facts.ensures in
    let facts_are = numbered c.args.problem.now.policy.schema c.args.side c.args.round c.args.new.now c.args.part.now c.in_ok-numbers.numbers.items c.as_slice-facts.result.now
    c.len.result c.len-2.result c.len.ensures c.len-2.ensures c.in_ok-numbers.ensures c.as_slice-facts.ensures.value in
    heads_after c.args.problem.now.policy.schema c.args.side c.args.round c.args.new.now c.args.part.now c.add_facts.new.new c.as_slice-facts.result.now new_is facts_are
    (length c.args.row.now) c.requires.fits (map (lesson_of (rows_at c.add_facts.new.new c.as_slice-facts.result.now)) c.as_slice-conds.result.now)
    c.assume_all.new.new c.in_ok-assume_all.ensures c.as_slice-head.result.now c.as_slice-head.ensures

pub equate_all-requires-clause-row : goal.equate_all-requires-clause-row
equate_all-requires-clause-row c =
    let new_is = added c.args.problem.now.policy.schema c.args.side c.args.round c.args.new.now c.args.part.now c.args.new.now c.add_facts.new.new c.as_slice-from.result.now
    refl c.as_slice-from.ensures c.in_ok-add_facts.ensures in
    let facts_are = numbered c.args.problem.now.policy.schema c.args.side c.args.round c.args.new.now c.args.part.now c.in_ok-numbers.numbers.items c.as_slice-facts.result.now
    c.len.result c.len-2.result c.len.ensures c.len-2.ensures c.in_ok-numbers.ensures c.as_slice-facts.ensures.value in
    row_after c.args.problem.now.policy.schema c.args.side c.args.round c.args.new.now c.args.part.now c.add_facts.new.new c.as_slice-facts.result.now new_is facts_are
    (length c.args.row.now) c.requires.fits (map (lesson_of (rows_at c.add_facts.new.new c.as_slice-facts.result.now)) c.as_slice-conds.result.now)
    c.assume_all.new.new c.in_ok-assume_all.ensures c.args.row.now c.requires.ready.terms

pub returns : goal.returns
returns c =
    let new_is = added c.args.problem.now.policy.schema c.args.side c.args.round c.args.new.now c.args.part.now c.args.new.now c.add_facts.new.new c.as_slice-from.result.now
    refl c.as_slice-from.ensures c.in_ok-add_facts.ensures in
    let facts_are = numbered c.args.problem.now.policy.schema c.args.side c.args.round c.args.new.now c.args.part.now c.in_ok-numbers.numbers.items c.as_slice-facts.result.now
    c.len.result c.len-2.result c.len.ensures c.len-2.ensures c.in_ok-numbers.ensures c.as_slice-facts.ensures.value in
    case_is c.args.problem.now.policy.schema c.args.side c.args.round c.args.new.now c.args.part.now c.add_facts.new.new c.as_slice-facts.result.now new_is facts_are
    c.assume_all.new.new c.equate_all.new.new c.as_slice-conds.result.now c.as_slice-head.result.now c.args.row.now c.as_slice-conds.ensures c.as_slice-head.ensures
    (same_width c.args.problem.now.policy.schema (length c.args.row.now) c.args.part.now c.as_slice-head.result.now c.requires.fits c.as_slice-head.ensures)
    c.in_ok-assume_all.ensures c.in_ok-equate_all.ensures
