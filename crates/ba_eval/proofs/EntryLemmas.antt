-- The entries of a table's rows, one row after another.
use Rattle.std.proofs.Common.{◌≡◌, ℕ, zero, suc, ◌+◌, ◌<◌, ◌⊎◌, inl, inr, Bool, false, List, [], ◌∷◌, ◌++◌, slice_get, Some, None, refl, sym, ap, ◌∙◌, subst, arith, eqb}
use Rattle.std.proofs.lemmas.Bool.Decides.{nat_tests}
use Rattle.std.proofs.lemmas.List.Elements.{All-from_recursion, All-head, All-nil, All-push, All-tail, All-weaker, Contains-push, Contains-append_left, recursion_from_All}
use Rattle.std.proofs.lemmas.List.Sorted.{All-permutation, Contains-permutation}
use Rattle.std.proofs.lemmas.Map.Keys.{IsDistinct-IsPermutation}
use Rattle.std.specs.List.{All, Contains, IsDistinct}
use Rattle.std.specs.List.Sorted.{IsPermutation}
use Rattle.ba_model.specs.declared.policy.Context.{Context}
use Rattle.ba_model.specs.declared.query.Atom.{Atom}
use Rattle.ba_model.specs.declared.value.Value.{Value}
use Rattle.ba_eval.proofs.HeadLemmas.{one_head}
use Rattle.ba_eval.specs.Index.{key_of, same_number, Entered, HasEntry, HasKey, IsEntry, IsEntryOf, MeetsWithin}
use Rattle.ba_eval.specs.declared.place.Entry.{Entry}
use Rattle.ba_eval.specs.declared.tie.Tie.{Tie}

distinct_push : {X : Type 0} (e : X → X → Bool) (xs : List X) (y : X) → All (λ x. e x y ≡ false) xs → IsDistinct e xs → IsDistinct e (xs ++ y ∷ [])
unfolding IsDistinct
distinct_push e [] y new h = (tt, tt)
distinct_push e (x ∷ xs) y new h =
    let of_x = All-push (λ z. e x z ≡ false) xs y (All-from_recursion (λ z. e x z ≡ false) xs h.0) (All-head (λ x. e x y ≡ false) x xs new) in
    (recursion_from_All (λ z. e x z ≡ false) (xs ++ y ∷ []) of_x, distinct_push e xs y (All-tail (λ x. e x y ≡ false) x xs new) h.1)

apart : (n m : ℕ) → n < m → eqb n m ≡ false
apart n m h = grind (arith, nat_tests)

eqb_flips : (n m : ℕ) → eqb n m ≡ eqb m n
eqb_flips n m = grind (arith, nat_tests)

same_place : {X : Type 0} (o : Rattle.std.specs.Prelude.Option X) (x y : X) → o ≡ Some x → o ≡ Some y → x ≡ y
same_place o x y a b = let e : Some x ≡ Some y = sym a ∙ b in cc

pub earlier_or_here : (k n : ℕ) → k < n + 1 → (k < n) ⊎ (k ≡ n)
earlier_or_here zero zero h = inr refl
earlier_or_here zero (suc n) h = inl (omega arith)
earlier_or_here (suc k) zero h = absurd (omega arith)
earlier_or_here (suc k) (suc n) h = elim (earlier_or_here k n (omega arith)) [ inl e ↦ inl (omega arith) | inr e ↦ inr (ap suc e) ]

one_key : (ties : List Tie) (row a b : List Value) → HasKey ties row a → HasKey ties row b → a ≡ b
one_key ties row a b h k = one_head a b (sym h ∙ k)

module _ (c : Context) (atoms : List Atom) (at : ℕ) (rows : List (List Value)) (ties : List Tie) where
  pub none_entered : Entered c atoms at rows ties 0 []
  unfolding IsDistinct
  none_entered = record {
    sound = All-nil (IsEntry c atoms at rows ties);
    below = All-nil (λ entry. entry.number < 0);
    complete = λ number row key below is within has. absurd (omega arith);
    distinct = tt;
  }

  module _ (n : ℕ) (row : List Value) (row_is : slice_get rows n ≡ Some row) (entries : List Entry) (before : Entered c atoms at rows ties n entries) where
    further : All (λ entry. entry.number < n + 1) entries
    further = All-weaker (λ entry. entry.number < n) (λ entry. entry.number < n + 1) (λ entry h. omega arith) entries before.below

    pub not_entered : IsEntryOf c atoms at row ties n None → Entered c atoms at rows ties (n + 1) entries
    not_entered none = record {
      sound = before.sound;
      below = further;
      complete = λ number r key below is within has.
          elim (earlier_or_here number n below) [
            | inl early ↦ before.complete number r key early is within has
            | inr here ↦
                let same : r ≡ row = same_place (slice_get rows n) r row (subst (λ m. slice_get rows m ≡ Some r) here is) row_is in
                absurd (none key (subst (λ x. MeetsWithin c at x atoms) same within) (subst (λ x. HasKey ties x key) same has))
          ];
      distinct = before.distinct;
    }

    pub entered : (own : Entry) (new : List Entry) → IsEntryOf c atoms at row ties n (Some own) → new ≡ entries ++ own ∷ [] → Entered c atoms at rows ties (n + 1) new
    entered own new is_own e =
        subst (Entered c atoms at rows ties (n + 1)) (sym e)
        (record {
          sound = All-push (IsEntry c atoms at rows ties) entries own before.sound (record { row = row; row_is = subst (λ m. slice_get rows m ≡ Some row) (sym is_own.0) row_is; within = is_own.1; key = is_own.2 });
          below = All-push (λ entry. entry.number < n + 1) entries own further (subst (λ m. m < n + 1) (sym is_own.0) (omega arith));
          complete = λ number r key below is within has.
              elim (earlier_or_here number n below) [
                | inl early ↦ kept number key (before.complete number r key early is within has)
                | inr here ↦ record {
                  entry = own;
                  there = Contains-push entries own;
                  number_is = is_own.0 ∙ sym here;
                  key_is =
                      let same : r ≡ row = same_place (slice_get rows n) r row (subst (λ m. slice_get rows m ≡ Some r) here is) row_is in
                      one_key ties row (key_of own) key is_own.2 (subst (λ x. HasKey ties x key) same has);
                }
              ];
          distinct = distinct_push same_number entries own (All-weaker (λ entry. entry.number < n) (λ entry. same_number entry own ≡ false) (λ entry h. apart entry.number own.number (subst (λ m. entry.number < m) (sym is_own.0) h)) entries before.below) before.distinct;
        })
      where
        kept : (number : ℕ) (key : List Value) → HasEntry entries number key → HasEntry (entries ++ own ∷ []) number key
        kept number key h = record { entry = h.entry; there = Contains-append_left entries (own ∷ []) h.entry h.there; number_is = h.number_is; key_is = h.key_is }

flips : (x y : Entry) → same_number x y ≡ same_number y x
flips x y = eqb_flips x.number y.number

-- the order of the entries doesn't matter
pub entered_moved : (c : Context) (atoms : List Atom) (at : ℕ) (rows : List (List Value)) (ties : List Tie) (n : ℕ) (old new : List Entry) → IsPermutation old new → Entered c atoms at rows ties n old → Entered c atoms at rows ties n new
entered_moved c atoms at rows ties n old new moved h = record {
  sound = All-permutation (IsEntry c atoms at rows ties) old new moved h.sound;
  below = All-permutation (λ entry. entry.number < n) old new moved h.below;
  complete = λ number row key below is within has.
      let e = h.complete number row key below is within has in
      record { entry = e.entry; there = Contains-permutation old new e.entry moved e.there; number_is = e.number_is; key_is = e.key_is };
  distinct = IsDistinct-IsPermutation same_number flips old new moved h.distinct;
}
