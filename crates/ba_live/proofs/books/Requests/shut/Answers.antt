use Rattle.std.proofs.Common.{◌≡◌, ◌∙◌, Some, refl, sym, ap, subst}
use Rattle.std.specs.Option.{IsSome, option_copied_mut}
use Rattle.ba_live.proofs.BookLemmas.{written_under}
use Rattle.ba_live.specs.Askers.{closed_now}
use Rattle.ba_live.specs.Books.{open_in}
use Rattle.ba_live.proofs.books.Requests.shut.Goals as goal

pub returns-in-Some-clause-closes : goal.returns-in-Some-clause-closes
returns-in-Some-clause-closes c = λ asker is.
    let old = c.args.self.now in
    let before = c.in-Some.open.now in
    let was : open_in old c.args.name.now ≡ Some before = sym c.get_mut.ensures.value ∙ ap option_copied_mut c.in-Some.is in
    let written = c.get_mut.follows.holds c.close.new.self in
    written_under c.args.name.now asker before c.close.new.self old _ is was (λ other. (written.3 (subst IsSome (sym was) refl)).0 other) closed_now c.close.ensures
