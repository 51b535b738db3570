use Rattle.std.proofs.Common.{◌≡◌, ◌∙◌, Some, refl, sym, ap, subst}
use Rattle.std.specs.Option.{IsSome, option_copied_mut}
use Rattle.ba_live.proofs.BookLemmas.{after_error, written_under}
use Rattle.ba_live.specs.Askers.{with_front, with_told}
use Rattle.ba_live.specs.Books.{open_in}
use Rattle.ba_live.proofs.books.Requests.record.Goals as goal

pub returns-in_err-tell-clause-err : goal.returns-in_err-tell-clause-err
returns-in_err-tell-clause-err c =
    let old = c.args.self.now in
    let before = c.in-Some.open.now in
    let was : open_in old c.args.name.now ≡ Some before = sym c.get_mut.ensures.value ∙ ap option_copied_mut c.in-Some.is in
    let written = c.get_mut.follows.holds c.tell.new.self in
    let front = c.in_err-tell.ensures.err in
    after_error c.from_residual.result
    (λ asker is.
    record {
      count = front.count;
      opens = written_under c.args.name.now asker before c.tell.new.self old _ is was (λ other. (written.3 (subst IsSome (sym was) refl)).0 other) (with_front front.count c.args.entries.items) front.new_is;
    })

pub returns-in_ok-tell-clause-ok : goal.returns-in_ok-tell-clause-ok
returns-in_ok-tell-clause-ok c = λ asker is.
    let old = c.args.self.now in
    let before = c.in-Some.open.now in
    let was : open_in old c.args.name.now ≡ Some before = sym c.get_mut.ensures.value ∙ ap option_copied_mut c.in-Some.is in
    let written = c.get_mut.follows.holds c.tell.new.self in
    written_under c.args.name.now asker before c.tell.new.self old _ is was (λ other. (written.3 (subst IsSome (sym was) refl)).0 other) (with_told c.args.line c.args.entries.items) c.in_ok-tell.ensures.ok
