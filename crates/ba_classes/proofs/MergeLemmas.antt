-- Labels of terms: what they say of the merges, and that `new`, `add` and `merge` keep that.
use Rattle.std.proofs.Common.{◌≡◌, ℕ, ◌<◌, ◌≤◌, ◌↔◌, ◌++◌, ◌∷◌, [], List, Contains, length, map, min, max, slice_index, nat_eq, eqb, cond, IsTrue, suc, refl, sym, ap, ap₂, ◌∙◌, subst, ⊎_elim, arith, EachIndex, take, drop}
use Rattle.std.proofs.lemmas.List.{take-append-le, take-append-drop, take_all, length-take, get_or-map, get_or-take, get_or_append_left, get_or_push, get_or_past, length-map, length_push}
use Rattle.std.proofs.lemmas.List.Elements.{Contains-append_left, Contains-push, Contains-push_cases}
use Rattle.std.proofs.lemmas.Bool.{eqb-true, eqb-false, eq-eqb, ne_eqb, cases_lt, cond-false, cond_both}
use Rattle.std.proofs.Math.Nat.{le_antisymm}
use Rattle.ba_classes.specs.Merged.{Connected, merged, itself, turned, joined, IsLabel, IsLabelling}

-- more merges connect no fewer terms
pub Connected-more : {merges : List (ℕ × ℕ)} {a b : ℕ} (more : List (ℕ × ℕ)) → Connected merges a b → Connected (merges ++ more) a b
Connected-more {merges} more (merged h) = merged (Contains-append_left merges more _ h)
Connected-more more itself = itself
Connected-more more (turned h) = turned (Connected-more more h)
Connected-more more (joined h k) = joined (Connected-more more h) (Connected-more more k)

-- values that are equal on each merge are equal on connected terms
pub connected_agree : {A : Type 0} {merges : List (ℕ × ℕ)} {a b : ℕ} (value : ℕ → A) → ((x y : ℕ) → Contains merges (x, y) → value x ≡ value y) → Connected merges a b → value a ≡ value b
connected_agree value each (merged h) = each _ _ h
connected_agree value each itself = refl
connected_agree value each (turned h) = sym (connected_agree value each h)
connected_agree value each (joined h k) = connected_agree value each h ∙ connected_agree value each k

-- two terms are connected exactly where they have one label
pub connected_by_label : {merges : List (ℕ × ℕ)} {a b l m : ℕ} → IsLabel merges a l → IsLabel merges b m → Connected merges a b ↔ (l ≡ m)
connected_by_label {merges} {a} {b} {l} {m} left right = (
  λ h. le_antisymm (left.least m (joined h right.connected)) (right.least l (joined (turned h) left.connected)),
  λ e. joined left.connected (subst (λ k. Connected merges k b) (sym e) (turned right.connected)),
)

module _ (labels : List ℕ) (merges : List (ℕ × ℕ)) (labelling : IsLabelling labels merges) where
  -- connected terms have one label
  pub one_label : {a b : ℕ} → Connected merges a b → slice_index labels a ≡ slice_index labels b
  one_label (merged h) = labelling.kept _ _ h
  one_label itself = refl
  one_label (turned h) = sym (one_label h)
  one_label (joined h k) = one_label h ∙ one_label k

  pub same_decides : (a b : ℕ) → a < length labels → b < length labels → IsTrue (nat_eq (slice_index labels a) (slice_index labels b)) ↔ Connected merges a b
  same_decides a b left right = (
    λ e. joined (labelling.connected a left) (subst (λ l. Connected merges l b) (sym (eqb-true _ _ e)) (turned (labelling.connected b right))),
    λ h. eq-eqb _ _ (one_label h),
  )

  -- past the last term `slice_index` is 0
  label_below : (a : ℕ) → slice_index labels a ≤ a
  label_below a = ⊎_elim (labelling.below a) (λ (past : length labels ≤ a). rw get_or_past (omega arith)) (cases_lt a (length labels))

  pub label_is : (a : ℕ) → a < length labels → IsLabel merges a (slice_index labels a)
  label_is a within = record {
    connected = labelling.connected a within;
    least = λ b h. subst (λ l. l ≤ b) (sym (one_label h)) (label_below b);
  }

  pushed : (a : ℕ) → a < length labels → slice_index (labels ++ length labels ∷ []) a ≡ slice_index labels a
  pushed a h = get_or_append_left labels _ 0 a h

  -- what holds of each label and of the pushed one holds of each label after the push
  each_pushed : (P : ℕ → ℕ → Type 0) → ((a : ℕ) → a < length labels → P a (slice_index labels a)) → P (length labels) (length labels) → (a : ℕ) → a < length (labels ++ length labels ∷ []) → P a (slice_index (labels ++ length labels ∷ []) a)
  each_pushed P old new a h =
      ⊎_elim
      (λ below. subst (P a) (sym (pushed a below)) (old a below))
      (λ above. let last : a ≡ length labels = omega (arith, length_push labels (length labels)) in subst (λ i. P i (slice_index (labels ++ length labels ∷ []) i)) (sym last) (subst (P (length labels)) (sym (get_or_push labels (length labels) 0 (length labels) refl)) new))
      (cases_lt a (length labels))

  pub IsLabelling-push : IsLabelling (labels ++ length labels ∷ []) merges
  IsLabelling-push = record {
    connected = each_pushed (Connected merges) labelling.connected itself;
    below = each_pushed (λ a l. l ≤ a) labelling.below (omega arith);
    within = λ a b h. omega (arith, length_push labels (length labels), labelling.within a b h);
    kept = λ a b h. pushed a (labelling.within a b h).0 ∙ labelling.kept a b h ∙ sym (pushed b (labelling.within a b h).1);
  }

-- the label of a term that had the label l, once `from` is relabelled `to`
abbrev pub relabelled : ℕ → ℕ → ℕ → ℕ
relabelled from to l = cond (eqb l from) to l

abbrev pub relabelling : ℕ → ℕ → List ℕ → List ℕ
relabelling from to labels = map (λ l. cond (eqb l from) to l) labels

at_relabelling : (from to : ℕ) (labels : List ℕ) (a : ℕ) → a < length labels → slice_index (relabelling from to labels) a ≡ relabelled from to (slice_index labels a)
at_relabelling from to labels a h = get_or-map (relabelled from to) labels a 0 0 h

-- labels below `from` stay
lesser_kept : (from to : ℕ) (labels : List ℕ) → ((k : ℕ) → k < length labels → slice_index labels k < from) → relabelling from to labels ≡ labels
lesser_kept from to [] h = refl
lesser_kept from to (l ∷ labels) h =
    let less : l < from = h 0 (omega arith) in
    ap₂ (λ x xs. x ∷ xs) (cond-false (eqb l from) to l (ne_eqb l from (λ e. omega (arith, less, e)))) (lesser_kept from to labels (λ k within. h (suc k) (omega arith)))

-- so do those of the terms before the term `from`
pub front_kept : (from to n : ℕ) (labels : List ℕ) → ((k : ℕ) → k < length labels → slice_index labels k ≤ k) → n ≡ from →
    labels ≡ relabelling from to (take n labels) ++ drop n labels
front_kept from to n labels below is =
    let front : relabelling from to (take n labels) ≡ take n labels =
    lesser_kept from to (take n labels)
    (λ k within.
    let count = length-take n labels in
    let early : k < n = omega (arith, count, within) in
    let at : slice_index (take n labels) k ≡ slice_index labels k = get_or-take n labels k 0 early in
    let least : slice_index labels k ≤ k = below k (omega (arith, count, within)) in
    omega (arith, at, least, early, is)) in
    sym (ap (λ xs. xs ++ drop n labels) front ∙ take-append-drop n labels)

-- of two labels the lesser is kept
left_label : (x y : ℕ) → relabelled (max x y) (min x y) x ≡ min x y
left_label x y = cond_both (eqb x (max x y)) (min x y) x (λ l. l ≡ min x y) (λ _. refl) (λ e. let ne : x ≡ max x y → ⊥ = eqb-false x (max x y) e in omega arith)

right_label : (x y : ℕ) → relabelled (max x y) (min x y) y ≡ min x y
right_label x y = cond_both (eqb y (max x y)) (min x y) y (λ l. l ≡ min x y) (λ _. refl) (λ e. let ne : y ≡ max x y → ⊥ = eqb-false y (max x y) e in omega arith)

greater_to_lesser : (merges : List (ℕ × ℕ)) (x y : ℕ) → Connected merges x y → Connected merges (max x y) (min x y)
greater_to_lesser merges x y h =
    ⊎_elim
    (λ less. let greater : max x y ≡ y = omega arith in let lesser : min x y ≡ x = omega arith in rw (greater, lesser) (turned h))
    (λ more. let greater : max x y ≡ x = omega arith in let lesser : min x y ≡ y = omega arith in rw (greater, lesser) h)
    (cases_lt x y)

module _ (labels : List ℕ) (merges : List (ℕ × ℕ)) (labelling : IsLabelling labels merges) (a b : ℕ) (left : a < length labels) (right : b < length labels) where
  abbrev after : List (ℕ × ℕ)
  after = merges ++ (a, b) ∷ []

  abbrev from : ℕ
  from = max (slice_index labels a) (slice_index labels b)

  abbrev to : ℕ
  to = min (slice_index labels a) (slice_index labels b)

  across : Connected after from to
  across =
      greater_to_lesser after _ _
      (joined (turned (Connected-more _ (labelling.connected a left)))
      (joined (merged (Contains-push merges (a, b))) (Connected-more _ (labelling.connected b right))))

  connected_after : (k : ℕ) → k < length labels → Connected after k (relabelled from to (slice_index labels k))
  connected_after k h =
      let before : Connected after k (slice_index labels k) = Connected-more _ (labelling.connected k h) in
      cond_both (eqb (slice_index labels k) from) to (slice_index labels k) (Connected after k)
      (λ e. joined (subst (Connected after k) (eqb-true _ _ e) before) across)
      (λ _. before)

  below_after : (k : ℕ) → k < length labels → relabelled from to (slice_index labels k) ≤ k
  below_after k h =
      cond_both (eqb (slice_index labels k) from) to (slice_index labels k) (λ l. l ≤ k)
      (λ e. let same : slice_index labels k ≡ from = eqb-true _ _ e in omega (arith, labelling.below k h))
      (λ _. labelling.below k h)

  old_kept : (p q : ℕ) → Contains merges (p, q) → slice_index (relabelling from to labels) p ≡ slice_index (relabelling from to labels) q
  old_kept p q h =
      at_relabelling from to labels p (labelling.within p q h).0
      ∙ ap (relabelled from to) (labelling.kept p q h)
      ∙ sym (at_relabelling from to labels q (labelling.within p q h).1)

  new_kept : slice_index (relabelling from to labels) a ≡ slice_index (relabelling from to labels) b
  new_kept =
      at_relabelling from to labels a left ∙ left_label (slice_index labels a) (slice_index labels b)
      ∙ sym (at_relabelling from to labels b right ∙ right_label (slice_index labels a) (slice_index labels b))

  kept_after : (p q : ℕ) → Contains after (p, q) → slice_index (relabelling from to labels) p ≡ slice_index (relabelling from to labels) q
  kept_after p q h =
      ⊎_elim (old_kept p q)
      (λ e. subst (λ i. slice_index (relabelling from to labels) i ≡ slice_index (relabelling from to labels) q) (ap (λ (m : ℕ × ℕ). m.0) e)
      (subst (λ i. slice_index (relabelling from to labels) a ≡ slice_index (relabelling from to labels) i) (ap (λ (m : ℕ × ℕ). m.1) e) new_kept))
      (Contains-push_cases merges (a, b) (p, q) h)

  within_after : (p q : ℕ) → Contains after (p, q) → (p < length labels) × (q < length labels)
  within_after p q h =
      ⊎_elim (labelling.within p q)
      (λ e. (subst (λ i. i < length labels) (ap (λ (m : ℕ × ℕ). m.0) e) left, subst (λ i. i < length labels) (ap (λ (m : ℕ × ℕ). m.1) e) right))
      (Contains-push_cases merges (a, b) (p, q) h)

  pub IsLabelling-merge : IsLabelling (relabelling from to labels) after
  IsLabelling-merge = record {
    connected = λ k h. let in_old : k < length labels = rw length-map at h in subst (Connected after k) (sym (at_relabelling from to labels k in_old)) (connected_after k in_old);
    below = λ k h. let in_old : k < length labels = rw length-map at h in subst (λ l. l ≤ k) (sym (at_relabelling from to labels k in_old)) (below_after k in_old);
    within = λ p q h. rw length-map (within_after p q h);
    kept = kept_after;
  }

pub IsLabelling-new : (labels : List ℕ) → EachIndex labels (λ k. slice_index labels k ≡ k) → IsLabelling labels []
IsLabelling-new labels own = record {
  connected = λ a h. subst (Connected [] a) (sym (own a h)) itself;
  below = λ a h. omega (arith, own a h);
  within = λ a b h. absurd (omega (arith, h.1));
  kept = λ a b h. absurd (omega (arith, h.1));
}

-- a slice of the whole list that is written in full
written_whole : (labels after : List ℕ) (n : ℕ) → n ≡ length labels → length after ≡ length labels → take n (after ++ drop (length after) labels) ≡ after
written_whole labels after n whole same = take-append-le n after _ (omega arith) ∙ take_all n after (omega arith)

-- the step of `merge`, over what it read and wrote
pub IsLabelling-step : (labels after : List ℕ) (merges : List (ℕ × ℕ)) (n a b l r : ℕ) → IsLabelling labels merges → a < length labels → b < length labels → n ≡ length labels → l ≡ slice_index labels a → r ≡ slice_index labels b → after ≡ relabelling (max l r) (min l r) labels → IsLabelling (take n (after ++ drop (length after) labels)) (merges ++ (a, b) ∷ [])
IsLabelling-step labels after merges n a b l r labelling left right whole l-is r-is after-is =
    let same : length after ≡ length labels = ap length after-is ∙ length-map labels _ in
    rw (written_whole labels after n whole same, after-is, l-is, r-is) (IsLabelling-merge labels merges labelling a b left right)
