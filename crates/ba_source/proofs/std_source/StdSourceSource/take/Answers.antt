use Rattle.std.proofs.Common.{rules, ◌≡◌, ◌∙◌, [], ap, length, sym, subst}
use Rattle.std.specs.Prelude.{◌==◌}
use Rattle.std.specs.Io.KnownBytes.{IsAtEnd, prepend_known}
use Rattle.ba_source.specs.StdSource.{ahead}
use Rattle.ba_source.proofs.StdLemmas.{Begun, empty_is, found, held_fill, held_next, held_reader, last, onward, some_is, went_well}
use Rattle.ba_source.proofs.std_source.StdSourceSource.take.Goals as goal

pub returns-then-is_begun-clause-bytes : goal.returns-then-is_begun-clause-bytes
returns-then-is_begun-clause-bytes g c =
    let old = ahead g.R.Read.remaining c.args.self.now in
    let mid = ahead g.R.Read.remaining c.loop.self in
    let new = ahead g.R.Read.remaining c.fill.new.self in
    let begun = subst (λ b. Begun c.args.limit old mid c.loop.line b) c.if-is_begun.true c.loop.invariant.3 in
    let none = empty_is c.fill.new.self.unread (ap (λ xs. length xs == 0) (sym c.as_slice.ensures) ∙ (sym c.is_empty.ensures ∙ c.if-is_empty.true)) in
    let end = went_well (c.fill.new.self.unread ≡ [] → IsAtEnd new) c.fill.result (sym c.is_err.ensures.value ∙ c.if-is_err.false) c.fill.ensures.end none in
    last c.args.limit old mid new (ahead g.R.Read.remaining c.give.new.self) c.loop.line c.give.result begun c.fill.ensures.keeps end c.give.ensures.ahead c.give.ensures.tells

pub returns-then-take_from-clause-bytes : goal.returns-then-take_from-clause-bytes
returns-then-take_from-clause-bytes g c =
    let old = ahead g.R.Read.remaining c.args.self.now in
    let mid = ahead g.R.Read.remaining c.loop.self in
    let rest = g.R.Read.remaining c.fill.new.self.reader in
    let same = c.give-then-take_from.ensures.ahead ∙ ap (λ xs. prepend_known xs rest) c.take_from.ensures.rest in
    found c.args.limit old mid rest (ahead g.R.Read.remaining c.give-then-take_from.new.self) c.fill.new.self.unread c.loop.line c.take_from.new.self c.loop.is_begun c.give-then-take_from.result
    c.loop.invariant.3 c.fill.ensures.keeps (sym c.take_from.ensures.found ∙ c.if-take_from.true) c.take_from.ensures.stands same c.give-then-take_from.ensures.tells

pub loop-preserved : goal.loop-preserved
loop-preserved g c =
    let old = ahead g.R.Read.remaining c.args.self.now in
    let mid = ahead g.R.Read.remaining c.loop.self in
    let rest = g.R.Read.remaining c.fill.new.self.reader in
    let some = some_is c.fill.new.self.unread (ap (λ xs. length xs == 0) (sym c.as_slice.ensures) ∙ (sym c.is_empty.ensures ∙ c.if-is_empty.false)) in
    let same = ap (λ xs. prepend_known xs rest) c.take_from.ensures.rest in (
      search rules,
      search rules,
      search rules,
      onward c.args.limit old mid rest (prepend_known c.take_from.new.unread rest) c.fill.new.self.unread c.loop.line c.take_from.new.self c.loop.is_begun
          c.loop.invariant.3 c.fill.ensures.keeps (sym c.take_from.ensures.found ∙ c.if-take_from.false) some c.take_from.ensures.stands same,
      held_next c.args.self.now c.loop.self c.fill.new.self c.loop.is_begun c.loop.invariant.4 c.fill.ensures.waits (sym c.take_from.ensures.found ∙ c.if-take_from.false),
    )

pub returns-then-is_err-clause-waits : goal.returns-then-is_err-clause-waits
returns-then-is_err-clause-waits g c = λ feed. c.fail.ensures.reader ∙ (held_fill c.args.self.now c.loop.self c.fill.new.self c.loop.is_begun c.loop.invariant.4 c.fill.ensures.waits feed).0

pub returns-then-is_begun-clause-waits : goal.returns-then-is_begun-clause-waits
returns-then-is_begun-clause-waits g c = λ feed. c.give.ensures.reader ∙ (held_fill c.args.self.now c.loop.self c.fill.new.self c.loop.is_begun c.loop.invariant.4 c.fill.ensures.waits feed).0

pub returns-else-is_begun-clause-waits : goal.returns-else-is_begun-clause-waits
returns-else-is_begun-clause-waits g c = λ feed. (held_fill c.args.self.now c.loop.self c.fill.new.self c.loop.is_begun c.loop.invariant.4 c.fill.ensures.waits feed).0

pub returns-then-take_from-clause-waits : goal.returns-then-take_from-clause-waits
returns-then-take_from-clause-waits g c = λ feed.
    c.give-then-take_from.ensures.reader ∙ (held_fill c.args.self.now c.loop.self c.fill.new.self c.loop.is_begun c.loop.invariant.4 c.fill.ensures.waits feed).0

pub returns-clause-waits : goal.returns-clause-waits
returns-clause-waits g c = λ feed. c.fail-2.ensures.reader ∙ held_reader c.args.self.now c.loop.self c.loop.is_begun c.loop.invariant.4 feed
