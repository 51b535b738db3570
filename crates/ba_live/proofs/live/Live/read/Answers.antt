use Rattle.std.proofs.Common.{◌≡◌, ◌∙◌, Some, refl, sym, ap}
use Rattle.std.specs.Option.{option_copied}
use Rattle.ba_model.specs.declared.policy.Policy.{Policy}
use Rattle.ba_live.proofs.AskLemmas.{given_fits, key_fits, questions_may}
use Rattle.ba_live.proofs.LiveLemmas.{counts_live, leaves_live, shuts_live}
use Rattle.ba_live.specs.Books.{open_at}
use Rattle.ba_live.specs.Limits.{most_open_asks}
use Rattle.ba_live.proofs.live.Live.read.Goals as goal

pub questions_left-requires : goal.questions_left-requires
questions_left-requires g c =
    let old = c.args.self.now in
    let asker = c.in-Some.open.now in
    let is : open_at old c.args.name.now ≡ Some asker = sym c.get.ensures ∙ ap option_copied c.in-Some.is in
    (c.requires.sound.askers c.args.name.now asker is).few

pub judge_read-requires-clause-fits : goal.judge_read-requires-clause-fits
judge_read-requires-clause-fits g c =
    let old = c.args.self.now in
    let asker = c.in-Some.open.now in
    let key = c.in-Some-key_named.key.now in
    let is : open_at old c.args.name.now ≡ Some asker = sym c.get.ensures ∙ ap option_copied c.in-Some.is in
    let fits = c.requires.sound.askers c.args.name.now asker is in
    record {
      tables = c.requires.sound.servable.tables;
      rules = c.requires.sound.servable.rules;
      policy_fits = c.requires.sound.servable.fits;
      context = fits.context;
      trace_fits = fits.trace;
      key = key_fits old c.args.key.now c.as_slice.result.now key c.requires.sound (c.as_slice.ensures ∙ ap (λ (p : Policy). p.keys) c.deref.ensures) (sym c.key_named.ensures ∙ ap option_copied c.in-Some-key_named.is);
      arguments = given_fits key.arguments c.as_slice-2.result.now c.as_slice-3.result.now c.in_ok-found.found c.in-Some-found.arguments c.as_slice-2.ensures c.in_ok-found.ensures c.in-Some-found.is;
    }

pub returns-in_err-read-clause-live : goal.returns-in_err-read-clause-live
returns-in_err-read-clause-live g c = λ next live.
    leaves_live next c.args.self.now _ live (record { policy = refl; budget = refl; target = refl }) (record { requests = record { each = λ name. refl }; questions = record { each = λ line. refl } }) refl

pub returns-clause-live : goal.returns-clause-live
returns-clause-live g c = λ next live.
    let old = c.args.self.now in
    let asker = c.in-Some.open.now in
    let asks = c.in-Some-questions_left.asks in
    let is : open_at old c.args.name.now ≡ Some asker = sym c.get.ensures ∙ ap option_copied c.in-Some.is in
    counts_live next asks c.args.name.now asker old _ live (record { policy = refl; budget = refl; target = refl }) is
    (questions_may most_open_asks asker.asks _ asks c.questions_left.result c.questions_left.ensures c.in-Some-questions_left.is)
    (c.count.ensures.counts asker is) (record { each = λ line. refl }) c.count.ensures.many

pub returns-then-contradicts-clause-live : goal.returns-then-contradicts-clause-live
returns-then-contradicts-clause-live g c = λ next live.
    let old = c.args.self.now in
    let asker = c.in-Some.open.now in
    let is : open_at old c.args.name.now ≡ Some asker = sym c.get.ensures ∙ ap option_copied c.in-Some.is in
    shuts_live next c.args.name.now asker old _ live (record { policy = refl; budget = refl; target = refl }) is (c.shut.ensures.closes asker is) (record { each = λ line. refl }) c.shut.ensures.many
