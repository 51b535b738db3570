use Rattle.std.proofs.Common.{◌∙◌, ◌∷◌, ◌++◌, [], List, ap, sym}
use Rattle.ba_kernel.specs.SearchStates.{Proof}
use Rattle.ba_judge.proofs.ShelfLemmas.{added, among, known}
use Rattle.ba_judge.specs.Rows.{latest, shape_of_template}
use Rattle.ba_judge.proofs.shelves.Shelf.admit.Goals as goal

pub returns-then-is_among-clause-ok : goal.returns-then-is_among-clause-ok
returns-then-is_among-clause-ok c =
    let key_is = c.in_ok-key.ensures ∙ c.shape.ensures ∙ ap shape_of_template c.deref.ensures in
    let tells = among c.as_slice.result.now c.in_ok-found.found c.deref-2.result.now c.args.template c.is_among.result c.as_slice.ensures c.deref-2.ensures c.is_among.ensures in
    known c.args.template c.in_ok-key.key c.args.self.now.rows.entries c.promote.new.self.entries c.in_ok-found.found key_is c.in_ok-found.ensures (tells.0 c.if-is_among.true) (ap (λ r. r.entries) c.promote.ensures.entries)

pub returns-clause-ok : goal.returns-clause-ok
returns-clause-ok c =
    let key_is = c.in_ok-key.ensures ∙ c.shape.ensures ∙ ap shape_of_template c.deref.ensures in
    let tells = among c.as_slice.result.now c.in_ok-found.found c.deref-2.result.now c.args.template c.is_among.result c.as_slice.ensures c.deref-2.ensures c.is_among.ensures in
    let newest_is = c.in_ok-newest.ensures ∙ ap (λ (l : List Proof). latest (l ++ c.args.template ∷ [])) c.as_slice-2.ensures in
    added c.args.template c.in_ok-key.key c.args.self.now.rows.entries c.put.new.self.entries c.in_ok-found.found c.in_ok-newest.newest c.args.self.now.rows.cap key_is c.args.self.now.most c.in_ok-found.ensures
    (λ there. absurd (cc (sym c.if-is_among.false ∙ tells.1 there))) newest_is (ap (λ r. r.entries) c.in_ok-put.ensures.entries)
