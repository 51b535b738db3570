use Rattle.std.proofs.Common.{◌∙◌, sym, ap, List, ℕ, slice_index, length}
use Rattle.std.proofs.lemmas.Bool.{eqb-true}
use Rattle.ba_tables.proofs.NumberLemmas.{empty_is, parsed, plus_is}
use Rattle.ba_tables.proofs.field.number_of.Goals as goal
use Rattle.ba_tables.proofs.field.number_of.Goals.{then-is_empty-via-then-is_empty, then-is_empty-via-else-is_empty+then-bytes-eq-PLUS}

pub returns-then-is_empty : goal.returns-then-is_empty
returns-then-is_empty c =
    elim c.then-is_empty.branch [
      | then-is_empty-via-then-is_empty w ↦ empty_is c.args.field.now (sym (ap length c.as_bytes-bytes.ensures.value) ∙ eqb-true _ _ (sym c.is_empty.ensures ∙ w.if-is_empty.true))
      | then-is_empty-via-else-is_empty+then-bytes-eq-PLUS w ↦ plus_is c.args.field.now (sym (ap (λ (t : List ℕ). slice_index t 0) c.as_bytes-bytes.ensures.value) ∙ w.if-bytes-eq-PLUS.true)
    ]

pub returns : goal.returns
returns c = c.ok.ensures.value ∙ parsed c.args.field.now c.parse.result (λ e. c.if-bytes-eq-PLUS.false (ap (λ (t : List ℕ). slice_index t 0) c.as_bytes-bytes.ensures.value ∙ e)) c.parse.ensures.value.0
