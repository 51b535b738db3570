-- Whether a row is one of a query, where equations alone stand in it.
use Rattle.std.proofs.Common.{◌≡◌, ◌≢◌, ℕ, List, [], ◌∷◌, All, Contains, Option, Some, None, map, refl, sym, ap, ap₂, subst, ⊎_elim, ◌⊎◌, inl, inr}
use Rattle.std.proofs.lemmas.List.Elements.{All-cons, All-head, All-nil, All-tail}
use Rattle.std.proofs.lemmas.Option.{none-some, same_Some}
use Rattle.std.specs.Prelude.{slice_get}
use Rattle.ba_model.proofs.ElementLemmas.{Contains-cases, Contains-head, Contains-later, Contains-nil}
use Rattle.ba_model.specs.Conform.{Match}
use Rattle.ba_model.specs.Meaning.{Compares, Gives, Holds, InAnswer, InPart, IsChoice, rows_of, value_of}
use Rattle.ba_model.specs.declared.policy.Context.{Context}
use Rattle.ba_model.specs.declared.query.Atom.{Atom}
use Rattle.ba_model.specs.declared.query.Op.{Op}
use Rattle.ba_model.specs.declared.query.Op.TheVariants.{Eq}
use Rattle.ba_model.specs.declared.query.Part.{Part}
use Rattle.ba_model.specs.declared.query.Query.{Query}
use Rattle.ba_model.specs.declared.value.RowSet.{RowSet}
use Rattle.ba_model.specs.declared.value.Value.{Value}
use Rattle.ba_model.specs.declared.value.Value.TheVariants.{Null}
use Rattle.ba_refute.proofs.ClassLemmas.{value_cases}

-- it holds or it doesn't
abbrev pub IsDecided : Type 0 → Type 0
IsDecided P = P ⊎ (P → ⊥)

pub both : {P Q : Type 0} → IsDecided P → IsDecided Q → IsDecided (P × Q)
both (inl p) (inl q) = inl (p, q)
both (inl p) (inr q) = inr (λ h. q h.1)
both (inr p) q = inr (λ h. p h.0)

pub moved : {P Q : Type 0} → (P → Q) → (Q → P) → IsDecided P → IsDecided Q
moved f g (inl p) = inl (f p)
moved f g (inr p) = inr (λ q. p (g q))

-- what can't fail to hold holds
pub stable : {P : Type 0} → IsDecided P → ((P → ⊥) → ⊥) → P
stable (inl p) h = p
stable (inr p) h = absurd (h p)

-- ---- lists

pub some_of : {X : Type 0} (P : X → Type 0) → ((x : X) → IsDecided (P x)) → (xs : List X) → IsDecided ((x : X) × Contains xs x × P x)
some_of P each [] = inr (λ h. Contains-nil h.0 h.1)
some_of P each (x ∷ xs) = at (each x) (some_of P each xs)
  where
    at : IsDecided (P x) → IsDecided ((y : _) × Contains xs y × P y) → IsDecided ((y : _) × Contains (x ∷ xs) y × P y)
    at (inl p) later = inl (x, Contains-head x xs, p)
    at (inr p) (inl h) = inl (h.0, Contains-later x xs h.0 h.1, h.2)
    at (inr p) (inr none) = inr (λ h. ⊎_elim (λ (e : x ≡ h.0). p (subst P (sym e) h.2)) (λ (later : Contains xs h.0). none (h.0, later, h.2)) (Contains-cases x xs h.0 h.1))

pub all_of : {X : Type 0} (P Q : X → Type 0) → ((x : X) → Q x → IsDecided (P x)) → (xs : List X) → All Q xs → IsDecided (All P xs)
all_of P Q each [] h = inl (All-nil P)
all_of P Q each (x ∷ xs) h =
    moved (λ it. All-cons P x xs it.0 it.1) (λ all. (All-head P x xs all, All-tail P x xs all))
    (both (each x (All-head Q x xs h)) (all_of P Q each xs (All-tail Q x xs h)))

pub options_same : (a b : Option Value) → IsDecided (a ≡ b)
options_same None None = inl refl
options_same None (Some w) = inr (λ e. none-some w e)
options_same (Some v) None = inr (λ e. none-some v (sym e))
options_same (Some v) (Some w) = moved (λ e. ap Some e) (λ e. same_Some v w e) (value_cases v w)

pub lists_same : (xs ys : List (Option Value)) → IsDecided (xs ≡ ys)
lists_same [] [] = inl refl
lists_same [] (y ∷ ys) = inr (λ e. cc)
lists_same (x ∷ xs) [] = inr (λ e. cc)
lists_same (x ∷ xs) (y ∷ ys) = moved (λ e. ap₂ (λ z zs. z ∷ zs) e.0 e.1) (λ e. (cc, cc)) (both (options_same x y) (lists_same xs ys))

pub rows_same : (r s : List Value) → IsDecided (r ≡ s)
rows_same [] [] = inl refl
rows_same [] (y ∷ ys) = inr (λ e. cc)
rows_same (x ∷ xs) [] = inr (λ e. cc)
rows_same (x ∷ xs) (y ∷ ys) = moved (λ e. ap₂ (λ z zs. z ∷ zs) e.0 e.1) (λ e. (cc, cc)) (both (value_cases x y) (rows_same xs ys))

-- ---- atoms and parts

abbrev pub OfEquations : Part → Type 0
OfEquations part = All (λ (atom : Atom). atom.op ≡ Eq) part.conds

module _ (c : Context) (rows : List (List Value)) where
  compares_decided : (op : Op) → op ≡ Eq → (v w : Value) → IsDecided (Compares op v w)
  compares_decided op e v w = subst (λ o. IsDecided (Compares o v w)) (sym e) (both (moved (λ (h : v ≢ Null). h) (λ (h : v ≢ Null). h) (at (value_cases v Null))) (value_cases v w))
    where
      at : (v ≡ Null) ⊎ (v ≢ Null) → IsDecided (v ≢ Null)
      at (inl h) = inr (λ g. g h)
      at (inr h) = inl h

  sides_decided : (op : Op) → op ≡ Eq → (a b : Option Value) → IsDecided ((v : Value) × (w : Value) × (a ≡ Some v) × (b ≡ Some w) × Compares op v w)
  sides_decided op e None b = inr (λ h. none-some h.0 h.2)
  sides_decided op e (Some v) None = inr (λ h. none-some h.1 h.3)
  sides_decided op e (Some v) (Some w) =
      moved (λ h. (v, w, refl, refl, h))
      (λ h. subst (λ x. Compares op x w) (sym (same_Some v h.0 h.2)) (subst (λ y. Compares op h.0 y) (sym (same_Some w h.1 h.3)) h.4))
      (compares_decided op e v w)

  holds_decided : (atom : Atom) → atom.op ≡ Eq → IsDecided (Holds c rows atom)
  holds_decided atom e =
      moved (λ h. record { left = h.0; right = h.1; left_is = h.2; right_is = h.3; compared = h.4 })
      (λ h. (h.left, h.right, h.left_is, h.right_is, h.compared))
      (sides_decided atom.op e (value_of c rows atom.left) (value_of c rows atom.right))

  gives_decided : (part : Part) → All (λ (atom : Atom). atom.op ≡ Eq) part.conds → (r : List Value) → IsDecided (Gives c rows part r)
  gives_decided part equations r =
      moved (λ h. record { conds = h.0; head = h.1 }) (λ h. (h.conds, h.head))
      (both (all_of (Holds c rows) (λ (atom : Atom). atom.op ≡ Eq) holds_decided part.conds equations) (lists_same (map (value_of c rows) part.head) (map Some r)))

module _ (d : RowSet) where
  choice_decided : (from : List ℕ) (P : List (List Value) → Type 0) → ((rows : List (List Value)) → IsDecided (P rows)) → IsDecided ((rows : List (List Value)) × IsChoice d from rows × P rows)
  choice_decided [] P each = moved (λ p. ([], tt, p)) (λ h. at h.0 h.1 h.2) (each [])
    where
      at : (rows : List (List Value)) → IsChoice d [] rows → P rows → P []
      at [] h p = p
      at (row ∷ rows) h p = absurd h
  choice_decided (table ∷ from) P each =
      moved (λ h. (h.0 ∷ (h.2).0, (h.1, (h.2).1), (h.2).2)) (λ h. at h.0 h.1 h.2)
      (some_of (λ row. (rows : List (List Value)) × IsChoice d from rows × P (row ∷ rows))
      (λ row. choice_decided from (λ rows. P (row ∷ rows)) (λ rows. each (row ∷ rows))) (rows_of d table))
    where
      at : (rows : List (List Value)) → IsChoice d (table ∷ from) rows → P rows →
          (row : List Value) × Contains (rows_of d table) row × ((others : List (List Value)) × IsChoice d from others × P (row ∷ others))
      at [] h p = absurd h
      at (row ∷ rows) h p = (row, h.0, (rows, h.1, p))

  pub part_decided : (c : Context) (part : Part) → All (λ (atom : Atom). atom.op ≡ Eq) part.conds → (r : List Value) → IsDecided (InPart c d part r)
  part_decided c part equations r = choice_decided part.from (λ rows. Gives c rows part r) (λ rows. gives_decided c rows part equations r)

  parts_decided : (c : Context) (parts : List Part) → All OfEquations parts → (r : List Value) →
      IsDecided ((part : Part) × Contains parts part × InPart c d part r)
  parts_decided c [] equations r = inr (λ h. Contains-nil h.0 h.1)
  parts_decided c (part ∷ parts) equations r = at (part_decided c part (All-head OfEquations part parts equations) r) (parts_decided c parts (All-tail OfEquations part parts equations) r)
    where
      at : IsDecided (InPart c d part r) → IsDecided ((it : Part) × Contains parts it × InPart c d it r) → IsDecided ((it : Part) × Contains (part ∷ parts) it × InPart c d it r)
      at (inl p) later = inl (part, Contains-head part parts, p)
      at (inr p) (inl h) = inl (h.0, Contains-later part parts h.0 h.1, h.2)
      at (inr p) (inr none) =
          inr (λ h. ⊎_elim (λ (e : part ≡ h.0). p (subst (λ it. InPart c d it r) (sym e) h.2)) (λ (later : Contains parts h.0). none (h.0, later, h.2)) (Contains-cases part parts h.0 h.1))

  pub answer_decided : (c : Context) (q : Query) → All OfEquations q.parts → (r : List Value) → IsDecided (InAnswer q c d r)
  answer_decided c q equations r = parts_decided c q.parts equations r

-- some row of these is equal to r on the columns
pub match_decided : (rows : List (List Value)) (r : List Value) (columns others : List ℕ) → IsDecided ((s : List Value) × Contains rows s × Match r columns s others)
match_decided rows r columns others = some_of (λ s. Match r columns s others) (λ s. lists_same (map (slice_get r) columns) (map (slice_get s) others)) rows
