-- Classes of terms, and the merges of their numbers.
use Rattle.std.proofs.Common.{◌≡◌, ◌≢◌, ℕ, ◌≤◌, ◌++◌, ◌⊎◌, inl, inr, List, [], ◌∷◌, Contains, refl, sym, ap, ◌∙◌, subst, Some}
use Rattle.std.specs.List.{slice_get}
use Rattle.std.proofs.Math.Nat.{le_antisymm}
use Rattle.std.proofs.lemmas.Bool.{cases_eq}
use Rattle.std.proofs.lemmas.Option.{same_Some}
use Rattle.std.proofs.lemmas.List.Elements.{Contains-append_left, Contains-push, Contains-push_cases}
use Rattle.ba_classes.specs.Merged.{Connected, merged, itself, turned, joined, IsLabel}
use Rattle.ba_facts.specs.Known.{Known, OneClass, Equated, equated, itself, turned, joined}
use Rattle.ba_facts.specs.Webs.{AreLinked, AreConnected, IsLinked, Joins}
use Rattle.ba_facts.specs.declared.term.Term.{Term}

-- ---- classes as more is known

pub one_class_more : {k l : Known} {a b : Term} → ((t u : Term) → Equated k t u → Equated l t u) → OneClass k a b → OneClass l a b
one_class_more more (equated h) = equated (more _ _ h)
one_class_more more itself = itself
one_class_more more (turned h) = turned (one_class_more more h)
one_class_more more (joined h i) = joined (one_class_more more h) (one_class_more more i)

-- ---- where a and b became one

-- c and d are one, or each is one with another of a and b
abbrev pub Split : {A : Type 0} → (A → A → Type 0) → A → A → A → A → Type 0
Split R a b c d = R c d ⊎ ((R c a × R b d) ⊎ (R c b × R a d))

module _ {A : Type 0} (R : A → A → Type 0) (turn : (c d : A) → R c d → R d c) (join : (c m d : A) → R c m → R m d → R c d) (a b : A) where
  split_turned : (c d : A) → Split R a b c d → Split R a b d c
  split_turned c d (inl h) = inl (turn c d h)
  split_turned c d (inr (inl h)) = inr (inr (turn b d h.1, turn c a h.0))
  split_turned c d (inr (inr h)) = inr (inl (turn a d h.1, turn c b h.0))

  split_joined : (c m d : A) → Split R a b c m → Split R a b m d → Split R a b c d
  split_joined c m d (inl h) (inl i) = inl (join c m d h i)
  split_joined c m d (inl h) (inr (inl i)) = inr (inl (join c m a h i.0, i.1))
  split_joined c m d (inl h) (inr (inr i)) = inr (inr (join c m b h i.0, i.1))
  split_joined c m d (inr (inl h)) (inl i) = inr (inl (h.0, join b m d h.1 i))
  split_joined c m d (inr (inl h)) (inr (inl i)) = inr (inl (h.0, i.1))
  split_joined c m d (inr (inl h)) (inr (inr i)) = inl (join c a d h.0 i.1)
  split_joined c m d (inr (inr h)) (inl i) = inr (inr (h.0, join a m d h.1 i))
  split_joined c m d (inr (inr h)) (inr (inl i)) = inl (join c b d h.0 i.1)
  split_joined c m d (inr (inr h)) (inr (inr i)) = inr (inr (h.0, i.1))

split_equated : {k : Known} {a b c d : Term} → Equated k c d ⊎ ((c ≡ a) × (d ≡ b)) → Split (OneClass k) a b c d
split_equated (inl h) = inl (equated h)
split_equated {k} {a} {b} {c} {d} (inr e) = inr (inl (subst (λ t. OneClass k c t) e.0 itself, subst (λ t. OneClass k b t) (sym e.1) itself))

pub split : {k l : Known} {a b : Term} (c d : Term) → Joins k l a b → OneClass l c d → Split (OneClass k) a b c d
split c d j (equated h) = split_equated (j.only _ _ h)
split c d j itself = inl itself
split {k} {l} {a} {b} c d j (turned h) = split_turned (OneClass k) (λ t u g. turned g) (λ t u v g i. joined g i) a b d c (split _ _ j h)
split {k} {l} {a} {b} c d j (joined {b = m} h i) = split_joined (OneClass k) (λ t u g. turned g) (λ t u v g i. joined g i) a b c m d (split _ _ j h) (split _ _ j i)

split_merged : (merges : List (ℕ × ℕ)) (x y c d : ℕ) → Contains merges (c, d) ⊎ (◌≡◌ {A = ℕ × ℕ} (x, y) (c, d)) → Split (Connected merges) x y c d
split_merged merges x y c d (inl h) = inl (merged h)
split_merged merges x y c d (inr e) =
    let left : x ≡ c = ap (λ (m : ℕ × ℕ). m.0) e in
    let right : y ≡ d = ap (λ (m : ℕ × ℕ). m.1) e in
    inr (inl (subst (λ n. Connected merges c n) (sym left) itself, subst (λ n. Connected merges y n) right itself))

pub split_merge : (merges : List (ℕ × ℕ)) (x y c d : ℕ) → Connected (merges ++ (x, y) ∷ []) c d → Split (Connected merges) x y c d
split_merge merges x y c d (merged h) = split_merged merges x y c d (Contains-push_cases merges (x, y) (c, d) h)
split_merge merges x y c d itself = inl itself
split_merge merges x y c d (turned h) = split_turned (Connected merges) (λ t u g. turned g) (λ t u v g i. joined g i) x y d c (split_merge merges x y d c h)
split_merge merges x y c d (joined {b = m} h i) = split_joined (Connected merges) (λ t u g. turned g) (λ t u v g i. joined g i) x y c m d (split_merge merges x y c m h) (split_merge merges x y m d i)

-- the class of a after the join
pub joined_class : {k l : Known} {a b u : Term} → Joins k l a b → OneClass l a u → OneClass k a u ⊎ OneClass k b u
joined_class {k} {l} {a} {b} {u} j h = elim (split _ _ j h) as (λ _. OneClass k a u ⊎ OneClass k b u) [ inl o ↦ inl o | inr both ↦ elim both as (λ _. OneClass k a u ⊎ OneClass k b u) [ inl x ↦ inr x.1 | inr x ↦ inl x.1 ] ]

-- a class that isn't that of a is as it was
pub other_class : {k l : Known} {a b c d : Term} → Joins k l a b → ¬ (OneClass l c a) → OneClass l c d → OneClass k c d
other_class {k} {l} {a} {b} {c} {d} j apart h =
    elim (split _ _ j h) as (λ _. OneClass k c d) [
      | inl o ↦ o
      | inr both ↦ elim both as (λ _. OneClass k c d) [
        | inl x ↦ absurd (apart (one_class_more j.extends.equated x.0))
        | inr x ↦ absurd (apart (joined (one_class_more j.extends.equated x.0) (turned (equated j.new))))
      ]
    ]

-- ---- numbers and terms

linked_then : {k : Known} {terms : List Term} {i m j : ℕ} → AreLinked k terms i m → AreLinked k terms m j → AreLinked k terms i j
linked_then {k} {terms} {i} {m} {j} h g = record {
  left = h.left;
  right = g.right;
  left_is = h.left_is;
  right_is = g.right_is;
  class = joined h.class (subst (λ t. OneClass k t g.right) (same_Some _ _ (sym g.left_is ∙ h.right_is)) g.class);
}

join_links : {k : Known} {terms : List Term} {i m j : ℕ} → (i ≡ m) ⊎ AreLinked k terms i m → (m ≡ j) ⊎ AreLinked k terms m j → (i ≡ j) ⊎ AreLinked k terms i j
join_links (inl e) (inl f) = inl (e ∙ f)
join_links {k} {terms} {i} {m} {j} (inl e) (inr g) = inr (subst (λ n. AreLinked k terms n j) (sym e) g)
join_links {k} {terms} {i} {m} {j} (inr h) (inl f) = inr (subst (λ n. AreLinked k terms i n) f h)
join_links (inr h) (inr g) = inr (linked_then h g)

turn_link : {k : Known} {terms : List Term} {i j : ℕ} → (i ≡ j) ⊎ AreLinked k terms i j → (j ≡ i) ⊎ AreLinked k terms j i
turn_link (inl e) = inl (sym e)
turn_link (inr h) = inr (record { left = h.right; right = h.left; left_is = h.right_is; right_is = h.left_is; class = turned h.class })

pub connected_linked : {k : Known} {terms : List Term} {merges : List (ℕ × ℕ)} {i j : ℕ} → IsLinked k terms merges → Connected merges i j → (i ≡ j) ⊎ AreLinked k terms i j
connected_linked l (merged h) = inr (l.sound _ _ h)
connected_linked l itself = inl refl
connected_linked l (turned h) = turn_link (connected_linked l h)
connected_linked l (joined h g) = join_links (connected_linked l h) (connected_linked l g)

-- connected numbers are those of one class
pub connected_class : {k : Known} {terms : List Term} {merges : List (ℕ × ℕ)} {i j : ℕ} {a b : Term} → IsLinked k terms merges → slice_get terms i ≡ Some a → slice_get terms j ≡ Some b → Connected merges i j → OneClass k a b
connected_class {k} {terms} {merges} {i} {j} {a} {b} l left right h = elim (connected_linked l h) as (λ _. OneClass k a b) [
  | inl e ↦ subst (λ t. OneClass k a t) (same_Some a b (sym left ∙ ap (slice_get terms) e ∙ right)) itself
  | inr g ↦ subst (λ t. OneClass k t b) (same_Some _ _ (sym g.left_is ∙ left)) (subst (λ t. OneClass k g.left t) (same_Some _ _ (sym g.right_is ∙ right)) g.class)
]

abbrev Distinct : List Term → Type 0
Distinct terms = (n m : ℕ) (t : Term) → slice_get terms n ≡ Some t → slice_get terms m ≡ Some t → n ≡ m

join_connected : {terms : List Term} {merges : List (ℕ × ℕ)} {a b c : Term} → Distinct terms → (a ≡ b) ⊎ AreConnected terms merges a b → (b ≡ c) ⊎ AreConnected terms merges b c → (a ≡ c) ⊎ AreConnected terms merges a c
join_connected distinct (inl e) (inl f) = inl (e ∙ f)
join_connected {terms} {merges} {a} {b} {c} distinct (inl e) (inr g) = inr (subst (λ t. AreConnected terms merges t c) (sym e) g)
join_connected {terms} {merges} {a} {b} {c} distinct (inr h) (inl f) = inr (subst (λ t. AreConnected terms merges a t) f h)
join_connected {terms} {merges} {a} {b} {c} distinct (inr h) (inr g) = inr (record {
  left = h.left;
  right = g.right;
  left_is = h.left_is;
  right_is = g.right_is;
  connected = joined h.connected (subst (λ n. Connected merges n g.right) (distinct g.left h.right b g.left_is h.right_is) g.connected);
})

turn_connected : {terms : List Term} {merges : List (ℕ × ℕ)} {a b : Term} → (a ≡ b) ⊎ AreConnected terms merges a b → (b ≡ a) ⊎ AreConnected terms merges b a
turn_connected (inl e) = inl (sym e)
turn_connected (inr h) = inr (record { left = h.right; right = h.left; left_is = h.right_is; right_is = h.left_is; connected = turned h.connected })

-- terms of one class are one term, or have connected numbers
pub class_connected : {k : Known} {terms : List Term} {merges : List (ℕ × ℕ)} {a b : Term} → Distinct terms → IsLinked k terms merges → OneClass k a b → (a ≡ b) ⊎ AreConnected terms merges a b
class_connected distinct l (equated h) = inr (l.complete _ _ h)
class_connected distinct l itself = inl refl
class_connected distinct l (turned h) = turn_connected (class_connected distinct l h)
class_connected distinct l (joined h g) = join_connected distinct (class_connected distinct l h) (class_connected distinct l g)

-- the numbers of terms of one class are connected
pub class_numbers : {k : Known} {terms : List Term} {merges : List (ℕ × ℕ)} {i j : ℕ} {a b : Term} → Distinct terms → IsLinked k terms merges → slice_get terms i ≡ Some a → slice_get terms j ≡ Some b → OneClass k a b → Connected merges i j
class_numbers {k} {terms} {merges} {i} {j} {a} {b} distinct l left right h = elim (class_connected distinct l h) as (λ _. Connected merges i j) [
  | inl e ↦ subst (λ n. Connected merges i n) (distinct i j b (left ∙ ap Some e) right) itself
  | inr g ↦ subst (λ n. Connected merges n j) (distinct g.left i a g.left_is left) (subst (λ n. Connected merges g.left n) (distinct g.right j b g.right_is right) g.connected)
]

-- a term without a number is alone
pub alone : {k : Known} {terms : List Term} {merges : List (ℕ × ℕ)} {a b : Term} → Distinct terms → IsLinked k terms merges → ((n : ℕ) → slice_get terms n ≢ Some a) → OneClass k a b → a ≡ b
alone {k} {terms} {merges} {a} {b} distinct l none h = elim (class_connected distinct l h) as (λ _. a ≡ b) [ inl e ↦ e | inr g ↦ absurd (none g.left g.left_is) ]

-- ---- merges

pub connected_more : {merges : List (ℕ × ℕ)} {a b : ℕ} (more : List (ℕ × ℕ)) → Connected merges a b → Connected (merges ++ more) a b
connected_more {merges} more (merged h) = merged (Contains-append_left merges more _ h)
connected_more more itself = itself
connected_more more (turned h) = turned (connected_more more h)
connected_more more (joined h g) = joined (connected_more more h) (connected_more more g)

-- connected numbers have one label
pub one_label : {merges : List (ℕ × ℕ)} {a b l m : ℕ} → IsLabel merges a l → IsLabel merges b m → Connected merges a b → l ≡ m
one_label left right h = le_antisymm (left.least _ (joined h right.connected)) (right.least _ (joined (turned h) left.connected))

pub label_moves : {merges : List (ℕ × ℕ)} {a b l : ℕ} → IsLabel merges a l → Connected merges a b → IsLabel merges b l
label_moves left h = record { connected = joined (turned h) left.connected; least = λ c g. left.least c (joined h g) }

module _ (merges : List (ℕ × ℕ)) (x y : ℕ) where
  abbrev after : List (ℕ × ℕ)
  after = merges ++ (x, y) ∷ []

  across : Connected after x y
  across = merged (Contains-push merges (x, y))

  -- what was connected with x or y is connected with x
  pub to_x : (c : ℕ) → Connected merges c x ⊎ Connected merges c y → Connected after c x
  to_x c (inl h) = connected_more _ h
  to_x c (inr h) = joined (connected_more _ h) (turned across)

  pub from_x : (c : ℕ) → Connected after c x → Connected merges c x ⊎ Connected merges c y
  from_x c h = elim (split_merge merges x y c x h) as (λ _. Connected merges c x ⊎ Connected merges c y) [
    | inl o ↦ inl o
    | inr both ↦ elim both as (λ _. Connected merges c x ⊎ Connected merges c y) [ inl p ↦ inl p.0 | inr p ↦ inr p.0 ]
  ]

  -- a number that isn't connected with x is connected with no more than before
  pub apart_x : (c d : ℕ) → ¬ (Connected after c x) → Connected after c d → Connected merges c d
  apart_x c d apart h = elim (split_merge merges x y c d h) as (λ _. Connected merges c d) [
    | inl o ↦ o
    | inr both ↦ elim both as (λ _. Connected merges c d) [ inl p ↦ absurd (apart (to_x c (inl p.0))) | inr p ↦ absurd (apart (to_x c (inr p.0))) ]
  ]

  pub label_before : (n l : ℕ) → ¬ (Connected after n x) → IsLabel after n l → IsLabel merges n l
  label_before n l apart h = record { connected = apart_x n l apart h.connected; least = λ b g. h.least b (connected_more _ g) }

  pub label_after : (n l : ℕ) → ¬ (Connected after n x) → IsLabel merges n l → IsLabel after n l
  label_after n l apart h = record { connected = connected_more _ h.connected; least = λ b g. h.least b (apart_x n b apart g) }

-- a label is at most its number
pub label_below : {merges : List (ℕ × ℕ)} {n l : ℕ} → IsLabel merges n l → l ≤ n
label_below h = h.least _ itself

-- numbers with labels are connected or aren't
pub connected_cases : {merges : List (ℕ × ℕ)} {a b l m : ℕ} → IsLabel merges a l → IsLabel merges b m → Connected merges a b ⊎ ¬ (Connected merges a b)
connected_cases {merges} {a} {b} {l} {m} left right = elim (cases_eq l m) as (λ _. Connected merges a b ⊎ ¬ (Connected merges a b)) [
  | inl e ↦ inl (joined left.connected (subst (λ n. Connected merges n b) (sym e) (turned right.connected)))
  | inr ne ↦ inr (λ h. ne (one_label left right h))
]
