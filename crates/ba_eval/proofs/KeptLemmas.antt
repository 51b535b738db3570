-- In an order of the table the rows whose front is the key of the chosen rows are those that make the place's equations true
-- beside them.
use Rattle.std.proofs.Common.{◌≡◌, ℕ, zero, suc, ◌+◌, ◌<◌, inl, inr, List, [], ◌∷◌, ◌++◌, length, get_or, map, take, Option, Some, None, slice_get, refl, sym, ap, ◌∙◌, subst, arith}
use Rattle.std.proofs.lemmas.List.Elements.{All-contains, Contains-push_cases}
use Rattle.std.proofs.lemmas.List.{length-append, map-append, take_more}
use Rattle.std.proofs.lemmas.Option.{slice_get_within}
use Rattle.std.specs.Borrow.{Bor}
use Rattle.std.specs.List.{All, Contains}
use Rattle.std.specs.Prelude.{option_and_then, Bool, true, false, not, ◌⊎◌, IfOk, IfSome, IsTrue, Result, Ok, Err}
use Rattle.ba_model.proofs.ElementLemmas.{Contains-nil}
use Rattle.ba_index.specs.Orders.{or_null, value_at, values_at, HasFront, HaveFront, IsInOrder, IsOrderOf}
use Rattle.ba_index.specs.declared.order.Order.{Order}
use Rattle.ba_model.specs.Meaning.{rows_of, value_of}
use Rattle.ba_model.specs.declared.policy.Context.{Context}
use Rattle.ba_model.specs.declared.query.Atom.{Atom}
use Rattle.ba_model.specs.declared.query.Operand.{Operand}
use Rattle.ba_model.specs.declared.query.Operand.TheVariants.{Col}
use Rattle.ba_model.specs.declared.query.Part.{Part}
use Rattle.ba_model.specs.declared.value.RowSet.{RowSet}
use Rattle.ba_model.specs.declared.value.Value.{Value}
use Rattle.ba_model.specs.declared.value.Value.TheVariants.{Null, Int, Text}
use Rattle.ba_eval.proofs.CandidateLemmas.{f, g, tied, none_tied, tie_known}
use Rattle.ba_eval.proofs.HeadLemmas.{one_head}
use Rattle.ba_eval.specs.Index.{known, AreCandidates, AreTies, HaveFrontIfAny, IsCovered, IsFront, IsKept, IsKey, IsTie, IsTied, IsTiedOrder, Ties}
use Rattle.ba_eval.specs.declared.kept.Kept.{Kept}
use Rattle.ba_eval.specs.declared.tie.Tie.{Tie}

-- a key of values that are there is the same as one with NULL for what isn't

read_known : (o : Option Value) (v : Value) → known o ≡ Some v → or_null o ≡ v
read_known None v e = cc
read_known (Some Null) v e = cc
read_known (Some (Int n)) v e = cc
read_known (Some (Text s)) v e = cc

no_null : (o : Option Value) → known o ≡ Some Null → ⊥
no_null None e = cc
no_null (Some Null) e = cc
no_null (Some (Int n)) e = cc
no_null (Some (Text s)) e = cc

known_read : (o : Option Value) (v : Value) → (v ≡ Null → ⊥) → or_null o ≡ v → known o ≡ Some v
known_read None v h e = absurd (h (sym e))
known_read (Some Null) v h e = absurd (h (sym e))
known_read (Some (Int n)) v h e = ap Some e
known_read (Some (Text s)) v h e = ap Some e

head_of : {X : Type 0} (a b : X) (xs ys : List X) → a ∷ xs ≡ b ∷ ys → a ≡ b
head_of a b xs ys e = cc

tail_of : {X : Type 0} (a b : X) (xs ys : List X) → a ∷ xs ≡ b ∷ ys → xs ≡ ys
tail_of a b xs ys e = cc

cons_both : {X : Type 0} (a b : X) (xs ys : List X) → a ≡ b → xs ≡ ys → a ∷ xs ≡ b ∷ ys
cons_both a b xs ys e h = cc

keys_read : (o : Tie → Option Value) (ties : List Tie) (key : List Value) → map (λ t. known (o t)) ties ≡ map Some key → map (λ t. or_null (o t)) ties ≡ key
keys_read o [] [] e = refl
keys_read o [] (v ∷ key) e = cc
keys_read o (t ∷ ties) [] e = cc
keys_read o (t ∷ ties) (v ∷ key) e = cons_both _ _ _ _ (read_known (o t) v (head_of _ _ _ _ e)) (keys_read o ties key (tail_of _ _ _ _ e))

keys_known : (o p : Tie → Option Value) (ties : List Tie) (key : List Value) → map (λ t. known (p t)) ties ≡ map Some key → map (λ t. or_null (o t)) ties ≡ key → map (λ t. known (o t)) ties ≡ map Some key
keys_known o p [] [] e h = refl
keys_known o p [] (v ∷ key) e h = cc
keys_known o p (t ∷ ties) [] e h = cc
keys_known o p (t ∷ ties) (v ∷ key) e h =
    cons_both _ _ _ _
    (known_read (o t) v (λ is. no_null (p t) (head_of _ _ _ _ e ∙ ap Some is)) (head_of _ _ _ _ h))
    (keys_known o p ties key (tail_of _ _ _ _ e) (tail_of _ _ _ _ h))

as_long : {X Y : Type 0} (u : X → Y) (v : Value → Y) (xs : List X) (ys : List Value) → map u xs ≡ map v ys → length ys ≡ length xs
as_long u v [] [] e = refl
as_long u v [] (y ∷ ys) e = cc
as_long u v (x ∷ xs) [] e = cc
as_long u v (x ∷ xs) (y ∷ ys) e = ap suc (as_long u v xs ys (tail_of _ _ _ _ e))

map_map : {X Y Z : Type 0} (u : Y → Z) (v : X → Y) (xs : List X) → map u (map v xs) ≡ map (λ x. u (v x)) xs
map_map u v [] = refl
map_map u v (x ∷ xs) = ap (λ ys. u (v x) ∷ ys) (map_map u v xs)

row_there : (rows : List (List Value)) (number : ℕ) → number < length rows → (row : List Value) × (slice_get rows number ≡ Some row)
row_there [] number h = absurd (omega arith)
row_there (r ∷ rows) zero h = (r, refl)
row_there (r ∷ rows) (suc n) h = row_there rows n (omega arith)

module _ (bounded : Bool) (c : Context) (d : RowSet) (part : Part) (chosen : List (List Value)) (table : ℕ) (rows : List (List Value)) (ties : List Tie) (order : Order) (rows_are : rows ≡ rows_of d table) (is : IsKept bounded part.conds (length chosen) rows ties order) where
  -- the values of a row of this number on the tied columns
  front_of_row : (number : ℕ) (row : List Value) → slice_get rows number ≡ Some row → (key : List Value) → length key ≡ length ties → values_at rows (take (length key) order.columns) number ≡ map (λ t. or_null (slice_get row t.column)) ties
  front_of_row number row at key long =
      let columns : take (length key) order.columns ≡ map (λ t. t.column) ties = ap (λ n. take n order.columns) long ∙ sym is.columns_are in
      ap (map (value_at rows number)) columns ∙ (map_map (value_at rows number) (λ t. t.column) ties ∙ ap (λ o. map (λ t. or_null (option_and_then (λ r. slice_get r t.column) o)) ties) at)

  module _ (key : List Value) (key_is : map (g c part chosen ties is.sound) ties ≡ map Some key) (numbers : List ℕ) (have : HaveFront rows order key numbers) where
    long : length key ≡ length ties
    long = as_long _ _ ties key key_is

    pub order_candidates : AreCandidates bounded c d part table chosen numbers
    order_candidates = record {
      sound = λ number h.
          let at = row_there rows number (All-contains (λ n. n < length rows) numbers number have.below h) in
          let has = All-contains (HasFront rows order.columns key) numbers number have.sound h in
          let known_key = keys_known (λ t. slice_get at.0 t.column) (λ t. value_of c chosen t.other.now) ties key key_is (sym (front_of_row number at.0 at.1 key long) ∙ has) in (
            at.0,
            subst (λ rows. slice_get rows number ≡ Some at.0) rows_are at.1,
            λ bound atom in_part due.
                let own = is.complete bound atom in_part due in
                tie_known c part chosen ties is.sound key key key_is at.0 known_key refl atom own.0 own.1 own.2,
          );
      complete = λ number row at due.
          let keys = tied c part chosen ties is.sound row due in
          let at_own = subst (λ rows. slice_get rows number ≡ Some row) (sym rows_are) at in
          let same = one_head keys.key key (sym keys.right ∙ key_is) in
          let has = keys_read (λ t. slice_get row t.column) ties key (subst (λ k. map (f c part chosen ties is.sound row) ties ≡ map Some k) same keys.left) in
          have.complete number (slice_get_within rows number row at_own) (front_of_row number row at_own key long ∙ has);
      distinct = have.distinct;
    }

  pub kept_candidates : (key : Option (List (Bor Value))) (numbers : List ℕ) → IsKey (g c part chosen ties is.sound) ties key → HaveFrontIfAny rows order key numbers → AreCandidates bounded c d part table chosen numbers
  kept_candidates None numbers k h = subst (AreCandidates bounded c d part table chosen) (sym h) (none_tied c part chosen ties is.sound bounded d table k)
  kept_candidates (Some key) numbers k h = order_candidates (map (λ v. v.now) key) k numbers h

-- a tie for each of the first n columns
pub record IsFrontOf (all : List Tie) (columns : List ℕ) (n : ℕ) (ties : List Tie) : Type 0 where
  pub some : (tie : Tie) → Contains ties tie → Contains all tie
  pub columns_are : map (λ tie. tie.column) ties ≡ take n columns
  pub long : length ties ≡ n

pub no_front : (all : List Tie) (columns : List ℕ) → IsFrontOf all columns 0 []
no_front all columns = record { some = λ tie h. absurd (Contains-nil tie h); columns_are = refl; long = refl }

pub front_more : (all : List Tie) (columns : List ℕ) (n : ℕ) → n < length columns → (ties new : List Tie) (tie : Tie) → new ≡ ties ++ tie ∷ [] → IsFrontOf all columns n ties → Contains all tie → tie.column ≡ get_or columns n 0 → IsFrontOf all columns (n + 1) new
front_more all columns n below ties new tie e h there is =
    subst (IsFrontOf all columns (n + 1)) (sym e)
    (record {
      some = λ t k. elim (Contains-push_cases ties tie t k) [ inl old ↦ h.some t old | inr same ↦ subst (Contains all) same there ];
      columns_are =
          let left : map (λ t. t.column) (ties ++ tie ∷ []) ≡ map (λ t. t.column) ties ++ tie.column ∷ [] = map-append (λ t. t.column) ties (tie ∷ []) in
          let right : take (n + 1) columns ≡ take n columns ++ get_or columns n 0 ∷ [] = take_more columns n 0 below in
          let before = h.columns_are in
          cc;
      long = length-append ties (tie ∷ []) ∙ ap (λ m. m + 1) h.long;
    })

pub is_front : (all : List Tie) (columns : List ℕ) (n : ℕ) (ties : List Tie) → IsFrontOf all columns n ties → IsFront all columns ties
is_front all columns n ties h = record { some = h.some; columns_are = h.columns_are ∙ ap (λ m. take m columns) (sym h.long) }

-- the atom is a tie of the list that has its column and other side
pub tied_by : (at : ℕ) (ties : List Tie) (atom : Atom) (tie : Tie) → IsTie at atom tie → (own : Tie) → Contains ties own → own.column ≡ tie.column → own.other.now ≡ tie.other.now → IsTied at ties atom
tied_by at ties atom tie is own there e f = (
  own,
  there,
  record {
    equation = is.equation;
    sides = elim is.sides [ inl t ↦ inl (side t) | inr t ↦ inr (side t) ];
  },
)
  where
    side : {x y : Operand} → Ties at x y tie → Ties at x y own
    side {x} {y} t = record { own_is = t.own_is ∙ ap (λ k. Col at k) (sym e); other_is = t.other_is ∙ sym f; outside = t.outside }

pub kept_here : (bounded : Bool) (d : RowSet) (atoms : List Atom) (at table : ℕ) (all ties : List Tie) (orders : List Order) (order : Order) (i : ℕ) (columns : List ℕ) (conds : List Atom) (front : List Tie) → All (IsOrderOf d) orders → i < length orders → order ≡ get_or orders i order → order.table ≡ table → columns ≡ order.columns → conds ≡ atoms → front ≡ ties → AreTies at atoms all → IsFront all columns ties → (IsTrue bounded → IsCovered at conds front) → IsKept bounded atoms at (rows_of d table) ties order
kept_here bounded d atoms at table all ties orders order i columns conds front are below here same_table same_columns same_conds same_ties all_are is_front covered = record {
  order_is = subst (λ n. IsInOrder (rows_of d n) order) same_table (subst (IsOrderOf d) (sym here) (are i order below));
  columns_are = is_front.columns_are ∙ ap (take (length ties)) same_columns;
  sound = λ tie h. all_are.sound tie (is_front.some tie h);
  complete = λ bound. subst (IsCovered at atoms) same_ties (subst (λ xs. IsCovered at xs front) same_conds (covered bound));
}

pub tied_here : (d : RowSet) (table : ℕ) (all ties : List Tie) (orders : List Order) (order : Order) (i : ℕ) (columns : List ℕ) → All (IsOrderOf d) orders → i < length orders → order ≡ get_or orders i order → order.table ≡ table → columns ≡ order.columns → IsFront all columns ties → IsTiedOrder (rows_of d table) all ties order
tied_here d table all ties orders order i columns are below here same_table same_columns is_front = record {
  order_is = subst (λ n. IsInOrder (rows_of d n) order) same_table (subst (IsOrderOf d) (sym here) (are i order below));
  front = subst (λ xs. IsFront all xs ties) same_columns is_front;
}

-- the kept order is one of the rows with some of the ties
abbrev pub HasTiedOrder : List (List Value) → List Tie → Kept → Type 0
HasTiedOrder rows all by = IsTiedOrder rows all by.ties.items by.order.now

pub one_of : (rows : List (List Value)) (all : List Tie) (best new : Option Kept) (other : Kept) → IfSome best (HasTiedOrder rows all) → HasTiedOrder rows all other → (new ≡ best) ⊎ (new ≡ Some other) → IfSome new (HasTiedOrder rows all)
one_of rows all best new other h k (inl e) = subst (λ o. IfSome o (HasTiedOrder rows all)) (sym e) h
one_of rows all best new other h k (inr e) = subst (λ o. IfSome o (HasTiedOrder rows all)) (sym e) k

if_some_weaker : {X : Type 0} {P Q : X → Type 0} (o : Option X) → ((x : X) → P x → Q x) → IfSome o P → IfSome o Q
if_some_weaker (Some x) f h = f x h
if_some_weaker None f h = tt

not_true : (b : Bool) → b ≡ false → IsTrue b → ⊥
not_true true e h = cc
not_true false e h = cc

pub if_ok_weaker : {X E : Type 0} {P Q : X → Type 0} (r : Result X E) → ((x : X) → P x → Q x) → IfOk r P → IfOk r Q
if_ok_weaker (Ok x) f h = f x h
if_ok_weaker (Err e) f h = tt

pub kept_unbounded : {E : Type 0} (bounded : Bool) (atoms : List Atom) (at : ℕ) (rows : List (List Value)) (all : List Tie) (r : Result (Option Kept) E) → bounded ≡ false → AreTies at atoms all → IfOk r (λ o. IfSome o (HasTiedOrder rows all)) → IfOk r (λ o. IfSome o (λ by. IsKept bounded atoms at rows by.ties.items by.order.now))
kept_unbounded bounded atoms at rows all r free are h =
    if_ok_weaker r (λ o. if_some_weaker o (λ by t. record {
      order_is = t.order_is;
      columns_are = t.front.columns_are;
      sound = λ tie k. are.sound tie (t.front.some tie k);
      complete = λ bound. absurd (not_true bounded free bound);
    })) h

pub not_both : (b : Bool) → IsTrue b → IsTrue (not b) → ⊥
not_both true e f = cc
not_both false e f = cc
