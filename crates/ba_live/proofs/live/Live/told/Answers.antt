use Rattle.std.proofs.Common.{◌≡◌, ◌∙◌, Some, refl, sym, ap, inr, subst}
use Rattle.std.specs.Option.{option_copied}
use Rattle.ba_model.specs.declared.policy.Policy.{Policy}
use Rattle.ba_model.specs.declared.schema.Schema.{Schema}
use Rattle.ba_parts.specs.Recording.{AreEntries}
use Rattle.ba_live.proofs.BookLemmas.{after_error, none_some}
use Rattle.ba_live.proofs.FitLemmas.{entries_fit}
use Rattle.ba_live.proofs.LiveLemmas.{part_live, records_live, shuts_live}
use Rattle.std.proofs.lemmas.List.Elements.{All-append}
use Rattle.std.specs.List.{All}
use Rattle.ba_kernel.specs.Asked.{RecordFits}
use Rattle.ba_live.specs.Books.{asked_at, open_at}
use Rattle.ba_live.proofs.live.Live.told.Goals as goal

pub returns-in_default-get-clause-decides : goal.returns-in_default-get-clause-decides
returns-in_default-get-clause-decides g c =
    let old = c.args.self.now in
    let question = c.in-Some.asked.now in
    let was : asked_at old c.args.line ≡ Some question = sym c.get.ensures ∙ ap option_copied c.in-Some.is in
    let it = c.requires.sound.questions c.args.line question was in
    absurd (none_some it.asker (open_at old question.name) (sym c.get-2.ensures ∙ ap option_copied c.in_default-get.is) it.is_open)

pub entries_of-requires : goal.entries_of-requires
entries_of-requires g c =
    let old = c.args.self.now in
    let question = c.in-Some.asked.now in
    let was : asked_at old c.args.line ≡ Some question = sym c.get.ensures ∙ ap option_copied c.in-Some.is in
    (c.requires.sound.questions c.args.line question was).query.few_parts

pub returns-in_err-record-clause-err : goal.returns-in_err-record-clause-err
returns-in_err-record-clause-err g c =
    let old = c.args.self.now in
    let question = c.in-Some.asked.now in
    let asker = c.in-Some-get.open.now in
    let was : asked_at old c.args.line ≡ Some question = sym c.get.ensures ∙ ap option_copied c.in-Some.is in
    let is : open_at old question.name ≡ Some asker = sym c.get-2.ensures ∙ ap option_copied c.in-Some-get.is in
    after_error c.from_residual-in_err-record.result
    (inr
    (record {
      question = question;
      asker = asker;
      may = record { was_asked = was; served = record { is_open = is; not_closed = c.if-open.false } };
      entries = c.in-Ok.entries.items;
      are = subst (λ (s : Schema). AreEntries s asker.context question.query c.args.rows c.in-Ok.entries.items) (c.deref-2.ensures ∙ ap (λ (p : Policy). p.schema) c.deref.ensures) c.in-Ok.ensures.entries;
      front = c.in_err-record.ensures.err asker is;
      asked = record { each = λ line. refl };
    }))

pub returns-in_err-record-clause-live : goal.returns-in_err-record-clause-live
returns-in_err-record-clause-live g c = λ next live.
    let old = c.args.self.now in
    let question = c.in-Some.asked.now in
    let asker = c.in-Some-get.open.now in
    let was : asked_at old c.args.line ≡ Some question = sym c.get.ensures ∙ ap option_copied c.in-Some.is in
    let is : open_at old question.name ≡ Some asker = sym c.get-2.ensures ∙ ap option_copied c.in-Some-get.is in
    let are = subst (λ (s : Schema). AreEntries s asker.context question.query c.args.rows c.in-Ok.entries.items) (c.deref-2.ensures ∙ ap (λ (p : Policy). p.schema) c.deref.ensures) c.in-Ok.ensures.entries in
    let fit = entries_fit old.policy asker.context question.query c.args.rows c.in-Ok.entries.items (c.requires.sound.questions c.args.line question was).query (c.requires.sound.askers question.name asker is).context are in
    let front = c.in_err-record.ensures.err asker is in
    part_live next front.count question.name c.in-Ok.entries.items asker old _ live (record { policy = refl; budget = refl; target = refl }) is fit front.opens (record { each = λ line. refl }) c.record.ensures.many

pub returns-clause-live : goal.returns-clause-live
returns-clause-live g c = λ next live.
    let old = c.args.self.now in
    let question = c.in-Some.asked.now in
    let asker = c.in-Some-get.open.now in
    let was : asked_at old c.args.line ≡ Some question = sym c.get.ensures ∙ ap option_copied c.in-Some.is in
    let is : open_at old question.name ≡ Some asker = sym c.get-2.ensures ∙ ap option_copied c.in-Some-get.is in
    let are = subst (λ (s : Schema). AreEntries s asker.context question.query c.args.rows c.in-Ok.entries.items) (c.deref-2.ensures ∙ ap (λ (p : Policy). p.schema) c.deref.ensures) c.in-Ok.ensures.entries in
    let fit = entries_fit old.policy asker.context question.query c.args.rows c.in-Ok.entries.items (c.requires.sound.questions c.args.line question was).query (c.requires.sound.askers question.name asker is).context are in
    records_live next c.args.line question asker c.in-Ok.entries.items old _ live (record { policy = refl; budget = refl; target = refl })
    (record { was_asked = was; was_open = is; opens = c.in_ok-record.ensures.ok asker is; expects = c.forget.ensures; fits = fit })
    c.record.ensures.many

pub finds_contradiction-requires-clause-fits : goal.finds_contradiction-requires-clause-fits
finds_contradiction-requires-clause-fits g c =
    let old = c.args.self.now in
    let question = c.in-Some.asked.now in
    let asker = c.in-Some-get.open.now in
    let was : asked_at old c.args.line ≡ Some question = sym c.get.ensures ∙ ap option_copied c.in-Some.is in
    let is : open_at old question.name ≡ Some asker = sym c.get-2.ensures ∙ ap option_copied c.in-Some-get.is in
    let are = subst (λ (s : Schema). AreEntries s asker.context question.query c.args.rows c.in-Ok.entries.items) (c.deref-2.ensures ∙ ap (λ (p : Policy). p.schema) c.deref.ensures) c.in-Ok.ensures.entries in
    let own = c.requires.sound.askers question.name asker is in
    let fit = entries_fit old.policy asker.context question.query c.args.rows c.in-Ok.entries.items (c.requires.sound.questions c.args.line question was).query own.context are in
    record {
      tables = c.requires.sound.servable.tables;
      rules = c.requires.sound.servable.rules;
      policy_fits = c.requires.sound.servable.fits;
      context = own.context;
      trace_fits = All-append (RecordFits old.policy) asker.trace c.as_slice.result.now own.trace (subst (All (RecordFits old.policy)) (sym c.as_slice.ensures.value) fit);
    }

pub returns-then-found-clause-live : goal.returns-then-found-clause-live
returns-then-found-clause-live g c = λ next live.
    let old = c.args.self.now in
    let question = c.in-Some.asked.now in
    let asker = c.in-Some-get.open.now in
    let is : open_at old question.name ≡ Some asker = sym c.get-2.ensures ∙ ap option_copied c.in-Some-get.is in
    shuts_live next question.name asker old _ live (record { policy = refl; budget = refl; target = refl }) is (c.shut.ensures.closes asker is) (record { each = λ line. refl }) c.shut.ensures.many
