-- How many signs no text of some values begins with.
use Rattle.std.proofs.Common.{◌≡◌, ◌∙◌, ℕ, ◌+◌, ◌<◌, ◌≤◌, List, [], ◌∷◌, ◌++◌, All, ap, length, map, slice_index_or, sym, take, arith}
use Rattle.std.proofs.lemmas.List.{map-append, take_more}
use Rattle.std.proofs.lemmas.List.Elements.{All-contains, All-push, Contains-append_left, Contains-push}
use Rattle.ba_comply.proofs.ComplyLemmas.{All-from_contains}
use Rattle.ba_model.specs.declared.value.Value.{Value}
use Rattle.ba_refute.specs.Images.{IsMarks, signs}

abbrev Pass : ℕ → Value → Type 0
Pass m v = signs v < m

front : (vs : List Value) (v : Value) (m : ℕ) → All (Pass m) (vs ++ v ∷ []) → All (Pass m) vs
front vs v m all = All-from_contains (Pass m) vs (λ w h. All-contains (Pass m) (vs ++ v ∷ []) w all (Contains-append_left vs _ _ h))

last : (vs : List Value) (v : Value) (m : ℕ) → All (Pass m) (vs ++ v ∷ []) → signs v < m
last vs v m all = All-contains (Pass m) (vs ++ v ∷ []) v all (Contains-push vs v)

wider : (vs : List Value) (m n : ℕ) → m ≤ n → All (Pass m) vs → All (Pass n) vs
wider vs m n e all = All-from_contains (Pass n) vs (λ w h. let less : signs w < m = All-contains (Pass m) vs w all h in omega (arith, e, less))

pub marks_none : IsMarks [] 1
marks_none = record { from = omega arith; passes = λ i d less. absurd (omega (arith, less)); least = λ m from all. from }

pub marks_more : (vs : List Value) (v : Value) (m more : ℕ) → IsMarks vs m → more ≡ signs v + 1 → m < more → IsMarks (vs ++ v ∷ []) more
marks_more vs v m more so_far e less = record {
  from = omega (arith, e);
  passes = All-push (Pass more) vs v (wider vs m more (omega (arith, less)) so_far.passes) (omega (arith, e));
  least = λ n from all. let own : signs v < n = last vs v n all in omega (arith, e, own);
}

pub marks_same : (vs : List Value) (v : Value) (m more : ℕ) → IsMarks vs m → more ≡ signs v + 1 → more ≤ m → IsMarks (vs ++ v ∷ []) m
marks_same vs v m more so_far e upto = record {
  from = so_far.from;
  passes = All-push (Pass m) vs v so_far.passes (omega (arith, e, upto));
  least = λ n from all. so_far.least n from (front vs v n all);
}

-- one element more of a list that is mapped
pub map_taken : {A B : Type 0} (f : A → B) (xs : List A) (i : ℕ) (x : A) → i < length xs → x ≡ slice_index_or xs i x → map f (take (i + 1) xs) ≡ map f (take i xs) ++ f x ∷ []
map_taken f xs i x less is =
    ap (map f) (take_more xs i x less ∙ ap (λ z. take i xs ++ z ∷ []) (sym is)) ∙ map-append f (take i xs) (x ∷ [])
