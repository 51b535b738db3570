use Rattle.std.proofs.Common.{◌≡◌, ◌∙◌, ap, subst, sym}
use Rattle.std.specs.Option.{option_copied}
use Rattle.std.specs.Prelude.{◌↔◌, IsTrue, Some, slice_get}
use Rattle.ba_kernel.specs.Problems.{query_at}
use Rattle.ba_match.proofs.TestedLemmas.{row_of, stands_of, untold}
use Rattle.ba_template.specs.Found.{with_values}
use Rattle.ba_match.proofs.tested.stands_in.Goals as goal

pub returns-then-not-row_becomes : goal.returns-then-not-row_becomes
returns-then-not-row_becomes c =
    let is : slice_get c.args.told.now.rows c.args.n ≡ Some c.in-Some.row.now =
    subst (λ rows. slice_get rows c.args.n ≡ Some c.in-Some.row.now) c.deref.ensures (sym c.find.ensures ∙ ap option_copied c.in-Some.is) in
    untold c.row_becomes.result c.if-not-row_becomes.true
    (λ h. c.row_becomes.ensures.1 (row_of (with_values c.args.ctx.now c.args.values.now) c.args.entry.now c.args.told.now c.args.n c.in-Some.row.now c.as_slice.result.now c.as_slice-2.result.now is c.as_slice.ensures c.as_slice-2.ensures h))

pub returns : goal.returns
returns c =
    let is : slice_get c.args.told.now.rows c.args.n ≡ Some c.in-Some.row.now =
    subst (λ rows. slice_get rows c.args.n ≡ Some c.in-Some.row.now) c.deref.ensures (sym c.find.ensures ∙ ap option_copied c.in-Some.is) in
    let query : IsTrue c.query_becomes.result ↔ (query_at c.args.values.now c.args.entry.now.query ≡ c.args.told.now.query) =
    subst (λ q. IsTrue c.query_becomes.result ↔ (query_at c.args.values.now c.args.entry.now.query ≡ q)) c.deref-3.ensures
    (subst (λ q. IsTrue c.query_becomes.result ↔ (query_at c.args.values.now q ≡ c.deref-3.result.now)) c.deref-2.ensures c.query_becomes.ensures) in
    stands_of (with_values c.args.ctx.now c.args.values.now) c.args.entry.now c.args.told.now c.args.n c.in-Some.row.now c.as_slice.result.now c.as_slice-2.result.now is
    c.as_slice.ensures c.as_slice-2.ensures c.query_becomes.result (c.row_becomes.ensures.0 c.if-not-row_becomes.false) query
