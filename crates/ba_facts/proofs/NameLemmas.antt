-- The numbers of terms as terms are added.
use Rattle.std.proofs.Common.{◌≡◌, ◌≢◌, ℕ, ◌<◌, ◌++◌, ◌^◌, ◌⊎◌, inl, inr, List, [], ◌∷◌, length, take, get_or, refl, sym, ap, ◌∙◌, subst, arith, Some, None}
use Rattle.std.specs.List.{slice_get}
use Rattle.std.specs.Ordering.{eq_by_cmp}
use Rattle.std.specs.BTreeMap.{Updates}
use Rattle.std.proofs.lemmas.Bool.{false_from_ne_true, cases_eq}
use Rattle.std.proofs.lemmas.Option.{none-some, same_Some, slice_get_past, slice_get-get_or}
use Rattle.std.proofs.lemmas.List.{length_push}
use Rattle.ba_model.specs.Order.{value_cmp}
use Rattle.ba_model.specs.OrderLaws.{value_decides}
use Rattle.ba_model.specs.declared.value.Value.{Value}
use Rattle.ba_facts.specs.Naming.{number_in, IsIndexed}
use Rattle.ba_facts.specs.declared.names.Numbers.{Numbers}
use Rattle.ba_facts.specs.declared.term.Term.{Term}
use Rattle.ba_facts.specs.declared.term.Term.TheVariants.{Unknown, Val, Param, Var}
use Rattle.ba_facts.proofs.Elements.{get_push_old, get_push_new, get_push_cases, get_take}

-- equal or different
pub value_cases : (v w : Value) → (v ≡ w) ⊎ (v ≢ w)
value_cases v w =
    elim (Rattle.std.proofs.lemmas.Bool.cases_Bool (eq_by_cmp value_cmp v w)) as (λ _. (v ≡ w) ⊎ (v ≢ w)) [
      | inl equal ↦ inl ((value_decides v w).0 equal)
      | inr apart ↦ inr (λ e. Rattle.std.proofs.lemmas.Bool.false≢true (sym apart ∙ (value_decides v w).1 e))
    ]

number_cases : (C : ℕ → Term) (n m : ℕ) → (C n ≡ C m → n ≡ m) → (C n ≡ C m) ⊎ (C n ≢ C m)
number_cases C n m back = elim (cases_eq n m) as (λ _. (C n ≡ C m) ⊎ (C n ≢ C m)) [ inl e ↦ inl (ap C e) | inr ne ↦ inr (λ e. ne (back e)) ]

pub term_cases : (t u : Term) → (t ≡ u) ⊎ (t ≢ u)
term_cases (Unknown n) (Unknown m) = number_cases Unknown n m (λ e. cc)
term_cases (Unknown n) (Val w) = inr (λ e. cc)
term_cases (Unknown n) (Param m) = inr (λ e. cc)
term_cases (Unknown n) (Var m) = inr (λ e. cc)
term_cases (Val v) (Unknown m) = inr (λ e. cc)
term_cases (Val v) (Val w) = elim (value_cases v w) as (λ _. (Val v ≡ Val w) ⊎ (Val v ≢ Val w)) [ inl e ↦ inl (ap Val e) | inr ne ↦ inr (λ e. ne cc) ]
term_cases (Val v) (Param m) = inr (λ e. cc)
term_cases (Val v) (Var m) = inr (λ e. cc)
term_cases (Param n) (Unknown m) = inr (λ e. cc)
term_cases (Param n) (Val w) = inr (λ e. cc)
term_cases (Param n) (Param m) = number_cases Param n m (λ e. cc)
term_cases (Param n) (Var m) = inr (λ e. cc)
term_cases (Var n) (Unknown m) = inr (λ e. cc)
term_cases (Var n) (Val w) = inr (λ e. cc)
term_cases (Var n) (Param m) = inr (λ e. cc)
term_cases (Var n) (Var m) = number_cases Var n m (λ e. cc)

-- a value put in changes no other value's number
pub put_value_apart : (old new : Numbers) (v key : Value) (n : ℕ) → key ≡ v → Updates value_cmp old.values new.values key (Some n) → new.unknowns ≡ old.unknowns → new.params ≡ old.params → new.vars ≡ old.vars → (t : Term) → t ≢ Val v → number_in new t ≡ number_in old t
put_value_apart old new v key n is up e f g (Unknown m) ne = rw e refl
put_value_apart old new v key n is up e f g (Val w) ne =
    up.2 w (false_from_ne_true (eq_by_cmp value_cmp key w) (λ same. ne (ap Val (sym ((value_decides key w).0 same) ∙ is))))
put_value_apart old new v key n is up e f g (Param m) ne = rw f refl
put_value_apart old new v key n is up e f g (Var m) ne = rw g refl

pub IsIndexed-none : (numbers : Numbers) (terms : List Term) → terms ≡ [] → ((t : Term) → number_in numbers t ≡ None) → IsIndexed numbers terms
IsIndexed-none numbers terms e none = record {
  few = rw e (omega arith);
  exact = λ t n. (λ h. absurd (none-some n (sym (none t) ∙ h)), λ h. absurd (none-some t (sym (slice_get_past terms n (rw e (omega arith))) ∙ h)));
}

pub IsIndexed-same : (old new : Numbers) (terms same : List Term) → same ≡ terms → ((t : Term) → number_in new t ≡ number_in old t) → IsIndexed old terms → IsIndexed new same
IsIndexed-same old new terms same e by x = record {
  few = rw e x.few;
  exact = λ t n. (λ h. subst (λ (ts : List Term). slice_get ts n ≡ Some t) (sym e) ((x.exact t n).0 (sym (by t) ∙ h)), λ h. by t ∙ (x.exact t n).1 (subst (λ (ts : List Term). slice_get ts n ≡ Some t) e h));
}

pub IsIndexed-push : (old new : Numbers) (terms : List Term) (term : Term) → IsIndexed old terms → length terms < 2 ^ 32 → ((n : ℕ) → slice_get terms n ≢ Some term) → number_in new term ≡ Some (length terms) → ((t : Term) → t ≢ term → number_in new t ≡ number_in old t) → IsIndexed new (terms ++ term ∷ [])
IsIndexed-push old new terms term x few absent here apart = record {
  few = omega (arith, length_push terms term);
  exact = λ t n. (
    λ h. elim (term_cases t term) as (λ _. slice_get (terms ++ term ∷ []) n ≡ Some t) [
      | inl e ↦ let at : n ≡ length terms = same_Some n (length terms) (sym h ∙ ap (number_in new) e ∙ here) in
          subst (λ m. slice_get (terms ++ term ∷ []) m ≡ Some t) (sym at) (get_push_new terms term ∙ ap Some (sym e))
      | inr ne ↦ get_push_old terms term n t ((x.exact t n).0 (sym (apart t ne) ∙ h))
    ],
    λ h. elim (get_push_cases terms term n t h) as (λ _. number_in new t ≡ Some n) [
      | inl was ↦ apart t (λ e. absent n (was ∙ ap Some e)) ∙ (x.exact t n).1 was
      | inr last ↦ subst (λ u. number_in new u ≡ Some n) last.1 (here ∙ ap Some (sym last.0))
    ],
  );
}

-- numbered terms are different
pub IsIndexed-apart : (numbers : Numbers) (terms : List Term) → IsIndexed numbers terms → (n m : ℕ) (t : Term) → slice_get terms n ≡ Some t → slice_get terms m ≡ Some t → n ≡ m
IsIndexed-apart numbers terms x n m t h k = same_Some n m (sym ((x.exact t n).1 h) ∙ (x.exact t m).1 k)

-- the step of `add`, over what it pushed
pub add_pushes : (old new : Numbers) (terms pushed : List Term) (term copy : Term) (n : ℕ) → IsIndexed old terms → length terms < 2 ^ 32 → ((m : ℕ) → slice_get terms m ≢ Some term) → copy ≡ term → pushed ≡ terms ++ copy ∷ [] → n ≡ length terms → number_in new term ≡ Some n → ((t : Term) → t ≢ term → number_in new t ≡ number_in old t) → IsIndexed new pushed
add_pushes old new terms pushed term copy n x few absent same is number here apart =
    rw (is, same) (IsIndexed-push old new terms term x few absent (here ∙ ap Some number) apart)

-- an element isn't among those before it
pub not_in_front : (numbers : Numbers) (terms front : List Term) (i : ℕ) (t : Term) → IsIndexed numbers terms → front ≡ take i terms → i < length terms → t ≡ get_or terms i t → (n : ℕ) → slice_get front n ≢ Some t
not_in_front numbers terms front i t x is below at n h =
    let early = get_take i terms n t (subst (λ (ts : List Term). slice_get ts n ≡ Some t) is h) in
    let here : slice_get terms i ≡ Some t = slice_get-get_or terms i t below ∙ ap Some (sym at) in
    let same : n ≡ i = IsIndexed-apart numbers terms x n i t early.1 here in
    omega (arith, early.0)
