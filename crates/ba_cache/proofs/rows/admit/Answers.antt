use Rattle.std.proofs.Common.{◌∙◌, ◌∷◌, ◌++◌, [], List, ap, subst, sym}
use Rattle.std.specs.Prelude.{All, Contains}
use Rattle.ba_kernel.specs.SearchStates.{Proof}
use Rattle.ba_cache.proofs.RowLemmas.{adds_by_key, knows_by_key, none_was}
use Rattle.ba_cache.specs.Keys.{same_shape, shape_decides}
use Rattle.ba_cache.specs.Rows.{IsOther, kept, latest, shape_of_template}
use Rattle.ba_cache.specs.declared.call.Kept.{Kept}
use Rattle.ba_cache.proofs.rows.admit.Goals as goal

pub returns-in-Some-clause-admits : goal.returns-in-Some-clause-admits
returns-in-Some-clause-admits c =
    let key_is = c.in_ok-key.ensures ∙ c.shape.ensures ∙ ap shape_of_template c.deref.ensures in
    let equal = subst (λ (t : Proof). Contains c.templates_of.result.now (kept c.in-Some.id t)) c.deref-2.ensures c.in-Some.ensures.known in
    knows_by_key same_shape shape_decides c.args.template c.in_ok-key.key c.args.rows.now.entries c.promote.new.self.entries c.templates_of.result.now c.in-Some.id key_is c.templates_of.ensures equal (ap (λ r. r.entries) c.promote.ensures.entries)

pub returns-clause-admits : goal.returns-clause-admits
returns-clause-admits c =
    let key_is = c.in_ok-key.ensures ∙ c.shape.ensures ∙ ap shape_of_template c.deref.ensures in
    let found = none_was c.id_of.result c.in_default.not-Some c.id_of.ensures.fresh in
    let fresh = subst (λ (t : Proof). All (IsOther t) c.templates_of.result.now) c.deref-2.ensures found in
    let again = c.templates_of-2.ensures ∙ sym c.templates_of.ensures in
    let newest_is = c.in_ok-templates.ensures ∙ ap (λ (l : List Kept). latest (l ++ kept c.args.count c.args.template ∷ [])) again in
    adds_by_key same_shape shape_decides c.args.template c.in_ok-key.key c.args.rows.now.entries c.put.new.self.entries c.templates_of.result.now c.in_ok-templates.templates c.args.count c.args.rows.now.cap key_is c.requires.cap c.len-within_cap.ensures.valid.1 c.templates_of.ensures fresh newest_is (ap (λ r. r.entries) c.in_ok-put.ensures.entries)
