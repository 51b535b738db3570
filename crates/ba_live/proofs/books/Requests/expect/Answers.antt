use Rattle.std.proofs.Common.{◌≡◌, ◌∙◌, Some, refl, sym, ap, subst}
use Rattle.std.specs.Option.{IsSome, option_copied_mut}
use Rattle.ba_live.proofs.BookLemmas.{after_error, written_same, written_under}
use Rattle.ba_live.specs.Askers.{with_line}
use Rattle.ba_live.specs.Books.{open_in}
use Rattle.ba_live.proofs.books.Requests.expect.Goals as goal

pub returns-in_err-expect-clause-err : goal.returns-in_err-expect-clause-err
returns-in_err-expect-clause-err c =
    let old = c.args.self.now in
    let before = c.in-Some.open.now in
    let was : open_in old c.args.name.now ≡ Some before = sym c.get_mut.ensures.value ∙ ap option_copied_mut c.in-Some.is in
    let written = c.get_mut.follows.holds c.expect.new.self in
    after_error c.from_residual.result
    (written_same c.args.name.now before c.expect.new.self old _ was (λ other. (written.3 (subst IsSome (sym was) refl)).0 other) c.in_err-expect.ensures.err)

pub returns-in_ok-expect-clause-ok : goal.returns-in_ok-expect-clause-ok
returns-in_ok-expect-clause-ok c = λ asker is.
    let old = c.args.self.now in
    let before = c.in-Some.open.now in
    let was : open_in old c.args.name.now ≡ Some before = sym c.get_mut.ensures.value ∙ ap option_copied_mut c.in-Some.is in
    let written = c.get_mut.follows.holds c.expect.new.self in
    written_under c.args.name.now asker before c.expect.new.self old _ is was (λ other. (written.3 (subst IsSome (sym was) refl)).0 other) (with_line c.args.line) c.in_ok-expect.ensures.ok
