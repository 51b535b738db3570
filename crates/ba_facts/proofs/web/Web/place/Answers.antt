use Rattle.std.proofs.Common.{refl, sym, ◌∙◌}
use Rattle.std.proofs.lemmas.Option.{none-some, slice_get-get_or}
use Rattle.ba_model.specs.declared.value.Value.TheVariants.{Null}
use Rattle.ba_facts.specs.declared.term.Term.TheVariants.{Val}
use Rattle.ba_classes.specs.Merged.{itself}
use Rattle.ba_facts.proofs.UpdateLemmas.{updated_here, updated_place}
use Rattle.ba_facts.proofs.WebLemmas.{place_whole}
use Rattle.ba_facts.proofs.web.Web.place.Goals as goal

pub returns-in-None-clause-place : goal.returns-in-None-clause-place
returns-in-None-clause-place c = record { mark = _; has_mark = updated_here c.set_mark.ensures c.args.x itself; place_is = refl }

pub returns-in-None-clause-places : goal.returns-in-None-clause-places
returns-in-None-clause-places c = updated_place c.set_mark.ensures c.mark_of-mark.result c.mark_of-mark.ensures (λ p e. absurd (none-some p (sym c.in-None.is ∙ e)))

pub returns-in-None-clause-kept : goal.returns-in-None-clause-kept
returns-in-None-clause-kept c = λ k w.
    place_whole w c.args.x _ _ c.mark_of-mark.result (slice_get-get_or c.args.self.now.names c.args.x (Val Null) c.requires.numbered) c.mark_of-mark.ensures c.in-None.is c.set_mark.ensures
