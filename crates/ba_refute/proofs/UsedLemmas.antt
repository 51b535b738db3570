-- Sets of numbers that are used.
use Rattle.std.proofs.Common.{◌≡◌, ◌∙◌, ℕ, ◌+◌, ◌<◌, Bool, true, false, IsTrue, ℤ, pos, List, [], ◌∷◌, ◌++◌, Contains, length, get_or, take, rules, ap, cond, inl, inr, refl, subst, sym, ⊎_elim, ◌↔◌, ◌⊎◌}
use Rattle.std.proofs.lemmas.Bool.{false≢true}
use Rattle.std.proofs.lemmas.Cmp.{int_cmp_total}
use Rattle.std.proofs.lemmas.List.{take_more}
use Rattle.std.proofs.lemmas.List.Elements.{Contains-append_left, Contains-push, Contains-push_cases}
use Rattle.std.proofs.lemmas.Map.Lookups.{CmpEqualImpliesEq, exact_signed}
use Rattle.std.proofs.lemmas.Map.Views.{btree_set_contains_iff, tells_apart}
use Rattle.std.specs.BTreeSet.{BTreeSet, contains}
use Rattle.std.specs.Cmp.{IsTotalOrder, tied_itself}
use Rattle.std.specs.Ordering.{eq_by_cmp, int_cmp, is_eq}
use Rattle.std.specs.declared.cmp.Ordering.{Ordering}
use Rattle.ba_refute.specs.Used.{AreAllBelow, AreWith, HaveSame}

is_true : IsTrue true
is_true = search rules

module _ {K : Type 0} {R : K → K → Ordering} (o : IsTotalOrder R) (exact : CmpEqualImpliesEq R) (set new : BTreeSet K) (key : K)
    (updates : (q : K) → contains R new q ≡ cond (eq_by_cmp R key q) true (contains R set q)) where
  -- a set into which a key was put has it, and what it had before
  pub with_key : (q : K) → Contains new.keys q ↔ (Contains set.keys q ⊎ (q ≡ key))
  with_key q = by (eq_by_cmp R key q) refl
    where
      by : (b : Bool) → eq_by_cmp R key q ≡ b → Contains new.keys q ↔ (Contains set.keys q ⊎ (q ≡ key))
      by true e =
          let told : contains R new q ≡ true = updates q ∙ ap (λ b. cond b true (contains R set q)) e in
          (λ h. inr (sym (tells_apart exact key q e)), λ h. (btree_set_contains_iff o exact new q).0 (subst IsTrue (sym told) is_true))
      by false e =
          let told : contains R new q ≡ contains R set q = updates q ∙ ap (λ b. cond b true (contains R set q)) e in (
            λ h. inl ((btree_set_contains_iff o exact set q).0 (subst IsTrue told ((btree_set_contains_iff o exact new q).1 h))),
            λ h. ⊎_elim
                (λ (old : Contains set.keys q). (btree_set_contains_iff o exact new q).0 (subst IsTrue (sym told) ((btree_set_contains_iff o exact set q).1 old)))
                (λ (same : q ≡ key). absurd (false≢true (sym e ∙ subst (λ x. eq_by_cmp R key x ≡ true) (sym same) (ap is_eq (tied_itself o key)))))
                h,
          )

pub has_told : (set : BTreeSet ℤ) (n : ℤ) (found : Bool) → found ≡ contains int_cmp set n → IsTrue found ↔ Contains set.keys n
has_told set n found is =
    let iff = btree_set_contains_iff int_cmp_total exact_signed set n in
    (λ h. iff.0 (subst IsTrue is h), λ h. subst IsTrue (sym is) (iff.1 h))

pub with_number : (set new : BTreeSet ℤ) (key number : ℤ) → key ≡ number → ((q : ℤ) → contains int_cmp new q ≡ cond (eq_by_cmp int_cmp key q) true (contains int_cmp set q)) → AreWith set.keys number new.keys
with_number set new key number same updates = subst (λ k. AreWith set.keys k new.keys) same (with_key int_cmp_total exact_signed set new key updates)

pub all_below_stays : (old new : List ℤ) (number end : ℤ) → AreWith old number new → AreAllBelow old end → AreAllBelow new end
all_below_stays old new number end with all n from below = (with n).1 (inl (all n from below))

pub same_next : (list : List ℤ) (i : ℕ) (number : ℤ) (old new : List ℤ) → i < length list → number ≡ get_or list i (pos 0) → HaveSame old (take i list) → AreWith old number new → HaveSame new (take (i + 1) list)
same_next list i number old new less is so_far with =
    let item : ℤ = get_or list i (pos 0) in
    subst (HaveSame new) (sym (take_more list i (pos 0) less)) (λ n. (
      λ h. ⊎_elim
          (λ (was : Contains old n). Contains-append_left (take i list) _ _ ((so_far n).0 was))
          (λ (e : n ≡ number). subst (Contains (take i list ++ item ∷ [])) (sym (e ∙ is)) (Contains-push (take i list) item))
          ((with n).0 h),
      λ h. ⊎_elim
          (λ (was : Contains (take i list) n). (with n).1 (inl ((so_far n).1 was)))
          (λ (e : item ≡ n). (with n).1 (inr (sym e ∙ sym is)))
          (Contains-push_cases (take i list) item n h),
    ))
