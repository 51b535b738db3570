use Rattle.ba_eval.proofs.EntryLemmas.{entered_moved}
use Rattle.ba_eval.proofs.place.Place.made.Goals as goal

pub returns-clause-place : goal.returns-clause-place
returns-clause-place g c =
    let entered = c.in_ok-entries.ensures.entries in
    record {
      rows_are = c.rows_of_table-rows.ensures;
      source_is = record {
        ties_are = c.requires;
        entered = entered_moved _ _ _ _ _ _ _ _ c.put_in_order.ensures.moved (rw c.as_slice.ensures.value at entered);
        sorted = c.put_in_order.ensures.sorted;
      };
    }
