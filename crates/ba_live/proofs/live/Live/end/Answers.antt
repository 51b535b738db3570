use Rattle.std.proofs.Common.{◌≡◌, ◌∙◌, List, ℕ, Some, refl, sym, subst}
use Rattle.ba_live.proofs.AskLemmas.{forgets_name}
use Rattle.ba_live.proofs.BookLemmas.{none_closes}
use Rattle.ba_live.proofs.LiveLemmas.{closes_live, stays_live}
use Rattle.ba_live.specs.Books.{ForgetsAll, open_at}
use Rattle.ba_live.proofs.live.Live.end.Goals as goal

pub returns-in-Some-clause-decides : goal.returns-in-Some-clause-decides
returns-in-Some-clause-decides c =
    let old = c.args.self.now in
    let is : open_at old c.args.name.now ≡ Some c.in-Some.open = sym c.close.ensures.was ∙ c.in-Some.is in
    record {
      asker = c.in-Some.open;
      was_open = is;
      closes = c.close.ensures.closes;
      forgets = forgets_name c.args.name.now c.in-Some.open old _ c.requires.sound is (subst (λ (lines : List ℕ). ForgetsAll lines old.questions c.forget_all.new.self) c.as_slice.ensures c.forget_all.ensures);
    }

pub returns-in-Some-clause-live : goal.returns-in-Some-clause-live
returns-in-Some-clause-live c = λ next live.
    let old = c.args.self.now in
    let is : open_at old c.args.name.now ≡ Some c.in-Some.open = sym c.close.ensures.was ∙ c.in-Some.is in
    closes_live next c.args.name.now c.in-Some.open old _ live (record { policy = refl; budget = refl; target = refl })
    (record {
      was_open = is;
      closes = c.close.ensures.closes;
      forgets = forgets_name c.args.name.now c.in-Some.open old _ c.requires.sound is (subst (λ (lines : List ℕ). ForgetsAll lines old.questions c.forget_all.new.self) c.as_slice.ensures c.forget_all.ensures);
    })
    c.close.ensures.many

pub returns-in-None-clause-live : goal.returns-in-None-clause-live
returns-in-None-clause-live c = λ next live.
    let old = c.args.self.now in
    stays_live next old _ live (record { policy = refl; budget = refl; target = refl })
    (record { requests = none_closes c.args.name.now old.requests _ c.close.ensures.closes (sym c.close.ensures.was ∙ c.in-None.is); questions = record { each = λ line. refl } })
    c.close.ensures.many
