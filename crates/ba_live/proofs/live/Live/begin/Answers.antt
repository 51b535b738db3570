use Rattle.std.proofs.Common.{◌∙◌, Some, refl, ap, arith, subst}
use Rattle.ba_model.specs.declared.policy.Policy.{Policy}
use Rattle.ba_live.proofs.AskLemmas.{given_fits}
use Rattle.ba_live.proofs.BookLemmas.{none_is}
use Rattle.ba_live.proofs.LiveLemmas.{leaves_live, starts_live}
use Rattle.ba_live.specs.Books.{Opens, open_at}
use Rattle.ba_live.specs.declared.open.Open.{Open}
use Rattle.ba_live.proofs.live.Live.begin.Goals as goal

pub returns-in_err-open-clause-live : goal.returns-in_err-open-clause-live
returns-in_err-open-clause-live c = λ next live.
    let old = c.args.self.now in
    leaves_live next old _ live (record { policy = refl; budget = refl; target = refl }) (record { requests = c.in_err-open.ensures.err; questions = record { each = λ line. refl } }) c.in_err-open.ensures.few

pub returns-clause-live : goal.returns-clause-live
returns-clause-live c = λ next live.
    let old = c.args.self.now in
    starts_live next c.args.name c.in-Some.context old _ live (record { policy = refl; budget = refl; target = refl })
    (record {
      free = none_is (open_at old c.args.name) c.has.result c.has.ensures c.if-has.false;
      opens = subst (λ (o : Open). Opens c.args.name (Some o) old.requests c.open.new.self) c.new.ensures c.in_ok-open.ensures.ok;
      asked = record { each = λ line. refl };
      fits = given_fits old.policy.params c.as_slice-params.result.now c.as_slice.result.now c.in_ok-found.found c.in-Some.context (c.as_slice-params.ensures ∙ ap (λ (p : Policy). p.params) c.deref.ensures) c.in_ok-found.ensures c.in-Some.is;
      few = omega (arith, c.in_ok-open.ensures.many, c.len.ensures, c.if-len-ge-MAX_OPEN.false);
    })
