-- The sorted list of what the search finds is the answer.
use Rattle.std.proofs.Common.{◌≡◌, Bool, List, [], sym, subst, inl, inr}
use Rattle.std.proofs.lemmas.List.Kept.{IsStrictlySortedBy-dedup, Contains-dedup, Contains-from_dedup}
use Rattle.std.proofs.lemmas.List.Sorted.{Contains-permutation, IsPermutation-sym}
use Rattle.std.specs.Cmp.Lexicographic.{pointwise, lists_equiv}
use Rattle.std.specs.List.{dedup}
use Rattle.std.specs.List.Sorted.{IsPermutation, IsSorted}
use Rattle.std.specs.Ordering.{eq_by_cmp}
use Rattle.ba_model.proofs.ElementLemmas.{Contains-nil}
use Rattle.ba_model.specs.Meaning.{InAnswer, IsAnswer}
use Rattle.ba_model.specs.Order.{value_cmp, row_cmp}
use Rattle.ba_model.specs.OrderLaws.{value_equiv, row_decides, row_ties, row_total}
use Rattle.ba_model.specs.declared.policy.Context.{Context}
use Rattle.ba_model.specs.declared.query.Query.{Query}
use Rattle.ba_model.specs.declared.value.RowSet.{RowSet}
use Rattle.ba_model.specs.declared.value.Value.{Value}
use Rattle.ba_answer_tests.specs.PlainSearch.{Adds, IsRisingListOf}

abbrev pub same_row : List Value → List Value → Bool
same_row = pointwise (eq_by_cmp value_cmp)

pub rising_list : (found sorted rows : List (List Value)) → IsPermutation found sorted → IsSorted row_cmp sorted → rows ≡ dedup same_row sorted → IsRisingListOf found rows
rising_list found sorted rows moved up e =
    subst (IsRisingListOf found) (sym e)
    (record {
      rising = IsStrictlySortedBy-dedup row_total row_ties sorted up;
      kept = λ r h. Contains-dedup (lists_equiv value_equiv) (λ x y. (row_decides x y).0) sorted r (Contains-permutation found sorted r moved h);
      only = λ r h. Contains-permutation sorted found r (IsPermutation-sym found sorted moved) (Contains-from_dedup same_row sorted r h);
    })

pub is_answer : (q : Query) (c : Context) (d : RowSet) (found rows : List (List Value)) → Adds (InAnswer q c d) [] found → IsRisingListOf found rows → IsAnswer q c d rows
is_answer q c d found rows all h = record {
  rising = h.rising;
  sound = λ r k. elim (all.only r (h.only r k)) [ inl before ↦ absurd (Contains-nil r before) | inr in_answer ↦ in_answer ];
  complete = λ r k. h.kept r (all.added r k);
}
