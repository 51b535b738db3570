use Rattle.std.proofs.Common.{◌≡◌, ℕ, true, length, refl, ap, ◌∙◌, eq-eqb}
use Rattle.std.specs.Option.{option_eq}
use Rattle.std.specs.Prelude.{Option, Some, slice_get, nat_eq}
use Rattle.ba_direct.proofs.SearchLemmas.{new_place, on_false, pair_at}
use Rattle.ba_direct.proofs.pairing.may_pair.Goals as goal

pub returns-then-count-ne0 : goal.returns-then-count-ne0
returns-then-count-ne0 c = λ more h. c.if-count-ne0.true (c.count.ensures ∙ new_place _ _ _ _ more h)

same_tables : (o p : Option ℕ) (t : ℕ) → o ≡ Some t → p ≡ Some t → option_eq nat_eq o p ≡ true
same_tables o p t e f = rw (e, f) (eq-eqb t t refl)

pub returns : goal.returns
returns c =
    on_false c.eq.result _
    (λ no more h.
    let t = pair_at c.args.view.now c.args.part.now c.args.to.now c.args.place more h in
    let mine : c.table-2.result ≡ Some t.0 = c.table-2.ensures ∙ (ap (λ ts. slice_get ts c.args.place) c.as_slice-2.ensures ∙ t.1) in
    let theirs : c.table.result ≡ Some t.0 = c.table.ensures ∙ (ap (λ ts. slice_get ts (length c.args.to.now)) c.as_slice.ensures ∙ t.2) in
    let yes = same_tables c.table.result c.table-2.result t.0 theirs mine in
    cc)
