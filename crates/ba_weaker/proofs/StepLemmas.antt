-- How the weaker entries are made.
use Rattle.std.proofs.Common.{◌≡◌, ◌≢◌, ◌∙◌, ◌+◌, ◌<◌, ◌≤◌, ℕ, List, [], ◌∷◌, ◌++◌, Some, get_or, length, refl, sym, ap, subst, take, arith}
use Rattle.std.proofs.lemmas.List.{take_all, take_more}
use Rattle.std.proofs.lemmas.Option.{get_or_from_slice_get, slice_get_within}
use Rattle.std.proofs.lemmas.List.Elements.{All-contains, All-push, Contains-get_or}
use Rattle.std.proofs.lemmas.Slice.Zip.{all_zipped_more}
use Rattle.std.specs.List.{All, Contains}
use Rattle.std.specs.Prelude.{slice_get}
use Rattle.ba_comply.specs.declared.trace.TraceEntry.{TraceEntry}
use Rattle.ba_model.specs.declared.query.Atom.{Atom}
use Rattle.ba_model.specs.declared.query.Part.{Part}
use Rattle.ba_model.specs.declared.query.Query.{Query}
use Rattle.ba_parts.specs.Parts.{Chosen}
use Rattle.ba_parts.specs.Parts.Chosen.{nothing, taken, left_out}
use Rattle.ba_weaker.specs.Weaker.{AreAlike, AreWeaker, HasWeaker, IsAlike, IsWeaker, NoneHasWeaker}

-- ---- conditions

abbrev pub IsOther : Atom → Atom → Type 0
IsOther atom other = other ≢ atom

pub none_among : (atom : Atom) (conds : List Atom) (i : ℕ) → length conds ≤ i → All (IsOther atom) (take i conds) → Contains conds atom → ⊥
none_among atom conds i past none there = All-contains (IsOther atom) (take i conds) atom none (subst (λ l. Contains l atom) (sym (take_all i conds past)) there) refl

chosen_one : {X : Type 0} (P : X → Type 0) {xs ys : List X} (x : X) → P x → Chosen P xs ys → Chosen P (xs ++ x ∷ []) (ys ++ x ∷ [])
chosen_one P x so nothing = taken so nothing
chosen_one P x so (taken p more) = taken p (chosen_one P x so more)
chosen_one P x so (left_out p more) = left_out p (chosen_one P x so more)

chosen_not : {X : Type 0} (P : X → Type 0) {xs ys : List X} (x : X) → (P x → ⊥) → Chosen P xs ys → Chosen P (xs ++ x ∷ []) ys
chosen_not P x so nothing = left_out so nothing
chosen_not P x so (taken p more) = taken p (chosen_not P x so more)
chosen_not P x so (left_out p more) = left_out p (chosen_not P x so more)

pub chosen_none : (P : Atom → Type 0) (xs ys : List Atom) → ys ≡ [] → Chosen P (take 0 xs) ys
chosen_none P xs ys e = subst (Chosen P []) (sym e) nothing

pub chosen_more : (P : Atom → Type 0) (xs ys new : List Atom) (i : ℕ) (x : Atom) → i < length xs → x ≡ get_or xs i x → P x → Chosen P (take i xs) ys → new ≡ ys ++ x ∷ [] → Chosen P (take (i + 1) xs) new
chosen_more P xs ys new i x below is so h new_is =
    subst (Chosen P (take (i + 1) xs)) (sym new_is)
    (subst (λ l. Chosen P l (ys ++ x ∷ [])) (sym (take_more xs i x below ∙ ap (λ z. take i xs ++ z ∷ []) (sym is))) (chosen_one P x so h))

pub chosen_same : (P : Atom → Type 0) (xs ys new : List Atom) (i : ℕ) (x : Atom) → i < length xs → x ≡ get_or xs i x → (P x → ⊥) → Chosen P (take i xs) ys → new ≡ ys → Chosen P (take (i + 1) xs) new
chosen_same P xs ys new i x below is not h new_is =
    subst (Chosen P (take (i + 1) xs)) (sym new_is) (subst (λ l. Chosen P l ys) (sym (take_more xs i x below ∙ ap (λ z. take i xs ++ z ∷ []) (sym is))) (chosen_not P x not h))

pub chosen_all : (P : Atom → Type 0) (xs ys : List Atom) (i : ℕ) → length xs ≤ i → Chosen P (take i xs) ys → Chosen P xs ys
chosen_all P xs ys i past h = subst (λ l. Chosen P l ys) (take_all i xs past) h

-- ---- parts

head_is : {X : Type 0} (x y : X) (xs ys : List X) → x ∷ xs ≡ y ∷ ys → x ≡ y
head_is x y xs ys e = cc

tail_is : {X : Type 0} (x y : X) (xs ys : List X) → x ∷ xs ≡ y ∷ ys → xs ≡ ys
tail_is x y xs ys e = cc

long : {X : Type 0} (xs : List X) (y : X) (ys : List X) → xs ≡ y ∷ ys → length xs ≡ 0 → ⊥
long xs y ys e none = let other : length xs ≡ length (y ∷ ys) = ap length e in omega (arith, other, none)

empty : {X : Type 0} (xs : List X) → length xs ≡ 0 → xs ≡ []
empty [] none = refl
empty (x ∷ xs) none = absurd (omega (arith, none))

pub none_split : (q : Query) → length q.parts ≡ 0 → HasWeaker q → ⊥
none_split q none h = long q.parts h.first h.others h.are.parts none

pub none_alone : (q : Query) (first : Part) (others : List Part) → q.parts ≡ first ∷ others → length others ≡ 0 → HasWeaker q → ⊥
none_alone q first others is none h = h.are.several (sym (tail_is first h.first others h.others (sym is ∙ h.are.parts)) ∙ empty others none)

pub none_alike : (q : Query) (first : Part) (others : List Part) → q.parts ≡ first ∷ others → (All (IsAlike first) others → ⊥) → HasWeaker q → ⊥
none_alike q first others is not h =
    let one = head_is first h.first others h.others (sym is ∙ h.are.parts) in
    let rest = tail_is first h.first others h.others (sym is ∙ h.are.parts) in
    not (subst (λ l. All (IsAlike first) l) (sym rest) (subst (λ (p : Part). All (IsAlike p) h.others) (sym one) h.are.alike))

several : {X : Type 0} (xs : List X) → (length xs ≡ 0 → ⊥) → xs ≡ [] → ⊥
several xs some e = some (ap length e)

pub all_alike : (q : Query) (first : Part) (others : List Part) → q.parts ≡ first ∷ others → (length others ≡ 0 → ⊥) → All (IsAlike first) others → AreAlike q first others
all_alike q first others is some alike = record { parts = is; several = several others some; alike = alike }

-- ---- traces

entry_more : (trace : List TraceEntry) (i : ℕ) (entry : TraceEntry) → slice_get trace i ≡ Some entry → take (i + 1) trace ≡ take i trace ++ entry ∷ []
entry_more trace i entry at =
    take_more trace i entry (slice_get_within trace i entry at) ∙ ap (λ (z : TraceEntry). take i trace ++ z ∷ []) (get_or_from_slice_get trace i entry entry at)

abbrev pub HasNone : TraceEntry → Type 0
HasNone entry = HasWeaker entry.query → ⊥

pub none_more : (trace : List TraceEntry) (i : ℕ) (entry : TraceEntry) → slice_get trace i ≡ Some entry → All HasNone (take i trace) → (HasWeaker entry.query → ⊥) → All HasNone (take (i + 1) trace)
none_more trace i entry at none here = subst (All HasNone) (sym (entry_more trace i entry at)) (All-push HasNone (take i trace) entry none here)

pub none_at_all : (trace : List TraceEntry) (i : ℕ) → length trace ≤ i → All HasNone (take i trace) → NoneHasWeaker trace
none_at_all trace i past none = subst (All HasNone) (take_all i trace past) none

there_at : {X : Type 0} (xs : List X) (i : ℕ) (x : X) → slice_get xs i ≡ Some x → Contains xs x
there_at xs i x at = subst (Contains xs) (get_or_from_slice_get xs i x x at) (Contains-get_or xs i x (slice_get_within xs i x at))

pub some_weaker : (trace : List TraceEntry) (i : ℕ) (entry : TraceEntry) → slice_get trace i ≡ Some entry → HasWeaker entry.query → NoneHasWeaker trace → ⊥
some_weaker trace i entry at has none = All-contains HasNone trace entry none (there_at trace i entry at) has

pub weaker_more : (trace weaker new : List TraceEntry) (i : ℕ) (entry one : TraceEntry) → slice_get trace i ≡ Some entry → AreWeaker (take i trace) weaker → IsWeaker entry one → new ≡ weaker ++ one ∷ [] →
    AreWeaker (take (i + 1) trace) new
weaker_more trace weaker new i entry one at h here new_is =
    subst (AreWeaker (take (i + 1) trace)) (sym new_is) (subst (λ l. AreWeaker l (weaker ++ one ∷ [])) (sym (entry_more trace i entry at)) (all_zipped_more IsWeaker (take i trace) weaker entry one h here))

pub weaker_all : (trace weaker : List TraceEntry) (i : ℕ) → length trace ≤ i → AreWeaker (take i trace) weaker → AreWeaker trace weaker
weaker_all trace weaker i past h = subst (λ l. AreWeaker l weaker) (take_all i trace past) h
