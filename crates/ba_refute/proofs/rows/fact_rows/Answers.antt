use Rattle.std.proofs.Common.{◌≡◌, ◌∙◌, ◌+◌, ◌++◌, ◌∷◌, [], List, ap, subst, sym, take}
use Rattle.std.proofs.lemmas.Bool.{false≢true}
use Rattle.std.proofs.lemmas.List.{take_all, take_more}
use Rattle.ba_facts.specs.declared.term.Fact.{Fact}
use Rattle.ba_facts.specs.declared.term.Term.{Term}
use Rattle.ba_refute.specs.Images.{AreFactRows, IsRowAt}
use Rattle.ba_refute.proofs.RowLemmas.{nothing_yet, rows_more, rows_pass}
use Rattle.ba_refute.proofs.rows.fact_rows.Goals as goal
use Rattle.ba_refute.proofs.rows.fact_rows.Goals.{then-is_of+in_ok-row+in_ok-add_row, else-is_of}

pub loop-fact-init : goal.loop-fact-init
loop-fact-init c =
    let none = nothing_yet c.args.ctx.now c.args.values.now c.args.side c.args.table c.new-seen.result c.new-seen.ensures.empty in
    record { rows = rw c.new-rows.ensures.items none.0; seen = rw c.new-rows.ensures.items none.1 }

pub loop-fact-preserved : goal.loop-fact-preserved
loop-fact-preserved c =
    let ctx = c.args.ctx.now in
    let values = c.args.values.now in
    let facts = c.args.facts.now in
    let i = c.loop-fact.fact-index in
    let fact : Fact = c.fact-item.result in
    let side = c.args.side in
    let table = c.args.table in
    let more : take (i + 1) facts ≡ take i facts ++ fact ∷ [] =
    take_more facts i fact c.loop-fact-test.true ∙ ap (λ (f : Fact). take i facts ++ f ∷ []) (sym c.fact-item.is) in
    elim c.if-is_of.branch [
      | then-is_of+in_ok-row+in_ok-add_row w ↦
          (let own = subst (λ (f : Fact). (f.side ≡ side) × (f.table ≡ table)) c.deref.ensures (c.is_of.ensures.0 w.if-is_of.true) in
          let terms_are : w.as_slice.result.now ≡ fact.terms = w.as_slice.ensures ∙ ap (λ (f : Fact). f.terms) w.deref-then-is_of.ensures in
          let row_is = subst (λ (ts : List Term). IsRowAt ctx values ts w.in_ok-row.row) terms_are w.in_ok-row.ensures in
          rw (w.rows-is, w.seen-is)
          (record {
            rows = subst (λ (fs : List Fact). AreFactRows ctx values fs side table w.add_row.new.rows.items) (sym more)
                (rows_more ctx values (take i facts) side table fact c.loop-fact.rows.items c.loop-fact.invariant.rows w.in_ok-row.row own row_is w.add_row.new.rows.items w.in_ok-add_row.ensures.rows);
            seen = w.in_ok-add_row.ensures.seen;
          }))
      | else-is_of w ↦
          (let other : (fact.side ≡ side) × (fact.table ≡ table) → ⊥ = λ h. false≢true (sym w.if-is_of.false ∙ c.is_of.ensures.1 (subst (λ (f : Fact). (f.side ≡ side) × (f.table ≡ table)) (sym c.deref.ensures) h)) in
          rw (w.rows-is, w.seen-is)
          (record {
            rows = subst (λ (fs : List Fact). AreFactRows ctx values fs side table c.loop-fact.rows.items) (sym more)
                (rows_pass ctx values (take i facts) side table fact c.loop-fact.rows.items c.loop-fact.invariant.rows other);
            seen = c.loop-fact.invariant.seen;
          }))
    ]

pub returns : goal.returns
returns c =
    subst (λ (fs : List Fact). AreFactRows c.args.ctx.now c.args.values.now fs c.args.side c.args.table c.loop-fact.rows.items)
    (take_all c.loop-fact.fact-index c.args.facts.now c.loop-fact-test.false) c.loop-fact.invariant.rows
