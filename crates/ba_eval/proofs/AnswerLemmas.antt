-- The sorted list of what the search finds is the answer.
use Rattle.std.proofs.Common.{◌≡◌, Bool, List, [], ◌∷◌, ◌++◌, sym, subst, inl, inr}
use Rattle.std.proofs.lemmas.List.Kept.{IsStrictlySortedBy-dedup, Contains-dedup, Contains-from_dedup}
use Rattle.std.proofs.lemmas.List.Sorted.{Contains-permutation, IsPermutation-sym}
use Rattle.std.specs.Cmp.Lexicographic.{pointwise, lists_equiv}
use Rattle.std.proofs.lemmas.List.Elements.{Contains-push, Contains-push_cases, Contains-append_left}
use Rattle.std.specs.List.{Contains, dedup}
use Rattle.std.specs.List.Sorted.{IsPermutation, IsSorted}
use Rattle.std.specs.Ordering.{eq_by_cmp}
use Rattle.ba_model.proofs.ElementLemmas.{Contains-nil}
use Rattle.ba_model.specs.Meaning.{InAnswer, IsAnswer}
use Rattle.ba_model.specs.Order.{value_cmp, row_cmp}
use Rattle.ba_model.specs.OrderLaws.{value_equiv, row_decides, row_ties, row_total}
use Rattle.ba_model.specs.declared.policy.Context.{Context}
use Rattle.ba_model.specs.declared.query.Query.{Query}
use Rattle.ba_model.specs.declared.value.RowSet.{RowSet}
use Rattle.ba_model.specs.declared.value.Value.{Value}
use Rattle.ba_eval.specs.Search.{Adds, IsRisingListOf, SameRows}

abbrev pub same_row : List Value → List Value → Bool
same_row = pointwise (eq_by_cmp value_cmp)

pub rising_list : (found sorted rows : List (List Value)) → IsPermutation found sorted → IsSorted row_cmp sorted → rows ≡ dedup same_row sorted → IsRisingListOf found rows
rising_list found sorted rows moved up e =
    subst (IsRisingListOf found) (sym e)
    (record {
      rising = IsStrictlySortedBy-dedup row_total row_ties sorted up;
      kept = λ r h. Contains-dedup (lists_equiv value_equiv) (λ x y. (row_decides x y).0) sorted r (Contains-permutation found sorted r moved h);
      only = λ r h. Contains-permutation sorted found r (IsPermutation-sym found sorted moved) (Contains-from_dedup same_row sorted r h);
    })

pub is_answer : (q : Query) (c : Context) (d : RowSet) (found rows : List (List Value)) → Adds (InAnswer q c d) [] found → IsRisingListOf found rows → IsAnswer q c d rows
is_answer q c d found rows all h = record {
  rising = h.rising;
  sound = λ r k. elim (all.only r (h.only r k)) [ inl before ↦ absurd (Contains-nil r before) | inr in_answer ↦ in_answer ];
  complete = λ r k. h.kept r (all.added r k);
}

pub same_as_rising : (old new : List (List Value)) → IsRisingListOf old new → SameRows old new
same_as_rising old new h = record { kept = h.kept; only = h.only }

pub same_rows : (old new : List (List Value)) → new ≡ old → SameRows old new
same_rows old new e = record { kept = λ r h. subst (λ xs. Contains xs r) (sym e) h; only = λ r h. subst (λ xs. Contains xs r) e h }

pub adds_one : (old mid new : List (List Value)) (row : List Value) → SameRows old mid → new ≡ mid ++ row ∷ [] → Adds (λ r. r ≡ row) old new
adds_one old mid new row same e =
    subst (Adds (λ r. r ≡ row) old) (sym e)
    (record {
      kept = λ r h. Contains-append_left mid (row ∷ []) r (same.kept r h);
      added = λ r is. subst (Contains (mid ++ row ∷ [])) (sym is) (Contains-push mid row);
      only = λ r h. elim (Contains-push_cases mid row r h) [
        | inl before ↦ inl (same.only r before)
        | inr is ↦ inr (sym is)
      ];
    })
