-- Which fact an unknown is a term of, where the facts' terms are the unknowns, one after another.
use Rattle.std.proofs.Common.{◌≡◌, ◌∙◌, ℕ, zero, suc, ◌+◌, ◌<◌, ◌≤◌, ◌⊎◌, ◌↔◌, inl, inr, Bool, true, false, IsTrue, List, [], ◌∷◌, ◌++◌, length, Option, Some, None, refl, sym, ap, subst, arith}
use Rattle.std.proofs.Math.Nat.{eq-or-lt_of_le}
use Rattle.std.proofs.lemmas.Bool.{cases_lt, false≢true}
use Rattle.std.proofs.lemmas.Option.{get_or_from_slice_get, none-some, same_Some, slice_get_within}
use Rattle.std.specs.Bool.{then_some}
use Rattle.std.specs.List.{Any, slice_get, slice_index_or}
use Rattle.ba_facts.specs.Laid.{AreLaid, BeginsBy, IsHolder, IsHolderAt, IsTermOf, unknowns_from}
use Rattle.ba_facts.specs.declared.term.Fact.{Fact}
use Rattle.ba_facts.specs.declared.term.Term.{Term}
use Rattle.ba_facts.specs.declared.term.Term.TheVariants.{Unknown}

-- ---- one fact

run_at : (start count k : ℕ) (t : Term) → slice_get (unknowns_from start count) k ≡ Some t → (t ≡ Unknown (start + k)) × (k < count)
run_at start zero k t e = absurd (none-some t e)
run_at start (suc count) zero t e = (sym (same_Some (Unknown start) t e) ∙ ap Unknown (let e : start ≡ start + 0 = omega arith in e), omega arith)
run_at start (suc count) (suc k) t e =
    let r = run_at (start + 1) count k t e in
    (r.0 ∙ ap Unknown (let e : start + 1 + k ≡ start + suc k = omega arith in e), (let low = r.1 in omega (arith, low)))

number_of_unknown : (a b : ℕ) → Unknown a ≡ Unknown b → a ≡ b
number_of_unknown a b e = cc

module _ (start : ℕ) (fact : Fact) (run : fact.terms ≡ unknowns_from start (length fact.terms)) where
  place : (k u : ℕ) → slice_get fact.terms k ≡ Some (Unknown u) → (u ≡ start + k) × (k < length fact.terms)
  place k u e =
      let r = run_at start (length fact.terms) k (Unknown u) (subst (λ terms. slice_get terms k ≡ Some (Unknown u)) run e) in
      (number_of_unknown u (start + k) r.0, r.1)

  begins : (k u : ℕ) → slice_get fact.terms k ≡ Some (Unknown u) → BeginsBy fact u
  begins k u e =
      let at = place k u e in
      record {
        first = start;
        first_is = subst (λ terms. slice_get terms 0 ≡ Some (Unknown start)) (sym run) (first_there (length fact.terms) (let some = at.1 in omega (arith, some)));
        low = (let same = at.0 in omega (arith, same));
      }
    where
      first_there : (count : ℕ) → 0 < count → slice_get (unknowns_from start count) 0 ≡ Some (Unknown start)
      first_there zero some = absurd (omega (arith, some))
      first_there (suc count) some = refl

-- ---- all facts

-- their unknowns come no earlier than the start
from_start : (start end : ℕ) (facts : List Fact) (i k u : ℕ) (fact : Fact) → AreLaid start facts end → slice_get facts i ≡ Some fact → slice_get fact.terms k ≡ Some (Unknown u) → start ≤ u
from_start start end [] i k u fact laid there has = absurd (none-some fact there)
from_start start end (f ∷ facts) zero k u fact laid there has =
    let at = place start f laid.0 k u (subst (λ (g : Fact). slice_get g.terms k ≡ Some (Unknown u)) (sym (same_Some f fact there)) has) in
    let same = at.0 in
    omega (arith, same)
from_start start end (f ∷ facts) (suc i) k u fact laid there has =
    let low = from_start (start + length f.terms) end facts i k u fact laid.1 there has in
    omega (arith, low)

-- those of an earlier fact come before those of a later one
in_order : (start end : ℕ) (facts : List Fact) (i j k l u v : ℕ) (f g : Fact) → AreLaid start facts end → i < j → slice_get facts i ≡ Some f → slice_get f.terms k ≡ Some (Unknown u) →
    slice_get facts j ≡ Some g → slice_get g.terms l ≡ Some (Unknown v) → u < v
in_order start end [] i j k l u v f g laid less there has there2 has2 = absurd (none-some f there)
in_order start end (h ∷ facts) i zero k l u v f g laid less there has there2 has2 = absurd (omega (arith, less))
in_order start end (h ∷ facts) zero (suc j) k l u v f g laid less there has there2 has2 =
    let at = place start h laid.0 k u (subst (λ (x : Fact). slice_get x.terms k ≡ Some (Unknown u)) (sym (same_Some h f there)) has) in
    let same = at.0 in
    let within = at.1 in
    let low = from_start (start + length h.terms) end facts j l v g laid.1 there2 has2 in
    omega (arith, same, within, low)
in_order start end (h ∷ facts) (suc i) (suc j) k l u v f g laid less there has there2 has2 =
    in_order (start + length h.terms) end facts i j k l u v f g laid.1 (omega (arith, less)) there has there2 has2

term_begins : (start end : ℕ) (facts : List Fact) (i k u : ℕ) (fact : Fact) → AreLaid start facts end → slice_get facts i ≡ Some fact → slice_get fact.terms k ≡ Some (Unknown u) → BeginsBy fact u
term_begins start end [] i k u fact laid there has = absurd (none-some fact there)
term_begins start end (f ∷ facts) zero k u fact laid there has =
    begins start fact (subst (λ (g : Fact). g.terms ≡ unknowns_from start (length g.terms)) (same_Some f fact there) laid.0) k u has
term_begins start end (f ∷ facts) (suc i) k u fact laid there has = term_begins (start + length f.terms) end facts i k u fact laid.1 there has

-- ---- from the newest on

at_number : (terms : List Term) (k : ℕ) (t : Term) → k < length terms → slice_index_or terms k t ≡ t → slice_get terms k ≡ Some t
at_number [] k t below at = absurd (omega (arith, below))
at_number (x ∷ terms) zero t below at = ap Some at
at_number (x ∷ terms) (suc k) t below at = at_number terms k t (omega (arith, below)) at

any_at : (terms : List Term) (k u : ℕ) → slice_get terms k ≡ Some (Unknown u) → Any (λ term. term ≡ Unknown u) terms
any_at terms k u there = (k, Unknown u, slice_get_within terms k (Unknown u) there, get_or_from_slice_get terms k (Unknown u) (Unknown u) there, refl)

compare : (a b : ℕ) → (a < b) ⊎ ((a ≡ b) ⊎ (b < a))
compare a b = elim (cases_lt a b) [ inl less ↦ inl less | inr late ↦ elim (eq-or-lt_of_le late) as (λ _. (a < b) ⊎ ((a ≡ b) ⊎ (b < a))) [ inl same ↦ inr (inl (sym same)) | inr more ↦ inr (inr more) ] ]

-- none from the number on has it
abbrev pub HaveNone : List Fact → ℕ → ℕ → Type 0
HaveNone facts u number = (i : ℕ) → number ≤ i → IsTermOf facts u i → ⊥

-- none before the number has it
abbrev pub HaveNoneBefore : List Fact → ℕ → ℕ → Type 0
HaveNoneBefore facts u number = (i : ℕ) → i < number → IsTermOf facts u i → ⊥

-- none before the one number has it, and none from the other on
pub record Between (facts : List Fact) (u first end : ℕ) : Type 0 where
  pub up : first ≤ end
  pub within : end ≤ length facts
  pub before : HaveNoneBefore facts u first
  pub behind : HaveNone facts u end

pub none_past : (facts : List Fact) (u number : ℕ) → number ≡ length facts → HaveNone facts u number
none_past facts u number all i past h =
    let below = slice_get_within facts i h.fact h.there in
    omega (arith, all, past, below)

module _ (facts : List Fact) (end u : ℕ) (laid : AreLaid 0 facts end) where
  same_fact : (i : ℕ) (f g : Fact) → slice_get facts i ≡ Some f → slice_get facts i ≡ Some g → f ≡ g
  same_fact i f g left right = same_Some f g (sym left ∙ right)

  pub none_more : (number : ℕ) (fact : Fact) → slice_get facts number ≡ Some fact → (BeginsBy fact u → ⊥) → HaveNone facts u (number + 1) → HaveNone facts u number
  none_more number fact there late none i least h = elim (compare number i) [
    | inl less ↦ none i (omega (arith, less)) h
    | inr (inl same) ↦ late (subst (λ (f : Fact). BeginsBy f u) (same_fact i h.fact fact h.there (subst (λ n. slice_get facts n ≡ Some fact) same there)) (term_begins 0 end facts i h.column u h.fact laid h.there h.has))
    | inr (inr more) ↦ absurd (omega (arith, least, more))
  ]

  -- it has the unknown, or none has
  only_here : (number : ℕ) (fact : Fact) → slice_get facts number ≡ Some fact → BeginsBy fact u → HaveNone facts u (number + 1) → (i : ℕ) → IsTermOf facts u i → number ≡ i
  only_here number fact there begins none i h = elim (compare number i) [
    | inl less ↦ absurd (none i (omega (arith, less)) h)
    | inr (inl same) ↦ same
    | inr (inr more) ↦
        let less = in_order 0 end facts i number h.column 0 u begins.first h.fact fact laid more h.there h.has there begins.first_is in
        let low = begins.low in
        absurd (omega (arith, less, low))
  ]

  term_of : (number : ℕ) (fact : Fact) → slice_get facts number ≡ Some fact → Any (λ term. term ≡ Unknown u) fact.terms → IsTermOf facts u number
  term_of number fact there (k, term, below, at, is) =
      record { fact = fact; there = there; column = k; has = at_number fact.terms k term below at ∙ ap Some is }

  pub here_or_none : (number : ℕ) (fact : Fact) (has : Bool) → slice_get facts number ≡ Some fact → BeginsBy fact u → HaveNone facts u (number + 1) →
      IsTrue has ↔ Any (λ term. term ≡ Unknown u) fact.terms → IsHolder facts u (then_some has number)
  here_or_none number fact true there begins none exact i = (
    λ e. subst (IsTermOf facts u) (same_Some number i e) (term_of number fact there (exact.0 refl)),
    λ h. ap Some (only_here number fact there begins none i h),
  )
  here_or_none number fact false there begins none exact i = (λ e. absurd (none-some i e), λ h. absurd (false≢true (exact.1 (held i h (only_here number fact there begins none i h)))))
    where
      held : (i : ℕ) (h : IsTermOf facts u i) → number ≡ i → Any (λ term. term ≡ Unknown u) fact.terms
      held i h same =
          let one : h.fact ≡ fact = same_fact i h.fact fact h.there (subst (λ n. slice_get facts n ≡ Some fact) same there) in
          any_at fact.terms h.column u (subst (λ (f : Fact). slice_get f.terms h.column ≡ Some (Unknown u)) one h.has)

  -- where a fact begins by the unknown, none before it has it, and where it begins behind, none from it on
  pub none_before : (number first : ℕ) (fact : Fact) → slice_get facts number ≡ Some fact → slice_get fact.terms 0 ≡ Some (Unknown first) → first ≤ u → HaveNoneBefore facts u number
  none_before number first fact there first_is low i less h =
      let order = in_order 0 end facts i number h.column 0 u first h.fact fact laid less h.there h.has there first_is in
      omega (arith, order, low)

  pub none_from : (number first : ℕ) (fact : Fact) → slice_get facts number ≡ Some fact → slice_get fact.terms 0 ≡ Some (Unknown first) → u < first → HaveNone facts u number
  none_from number first fact there first_is late i least h = elim (compare number i) [
    | inl less ↦
        let order = in_order 0 end facts number i 0 h.column first u fact h.fact laid less there first_is h.there h.has in
        omega (arith, order, late)
    | inr (inl same) ↦
        let one : h.fact ≡ fact = same_fact i h.fact fact h.there (subst (λ n. slice_get facts n ≡ Some fact) same there) in
        let begins = subst (λ (f : Fact). BeginsBy f u) one (term_begins 0 end facts i h.column u h.fact laid h.there h.has) in
        let is = number_of_unknown first begins.first (same_Some (Unknown first) (Unknown begins.first) (sym first_is ∙ begins.first_is)) in
        let low = begins.low in
        omega (arith, is, low, late)
    | inr (inr more) ↦ omega (arith, least, more)
  ]

  -- where none before the number has it and none behind, the fact of the number has it, or none has
  pub only_at : (number : ℕ) (holder : Option ℕ) → HaveNoneBefore facts u number → HaveNone facts u (number + 1) → IsHolderAt facts u number holder → IsHolder facts u holder
  only_at number holder before behind is i = (
    λ e. let it = (is i).0 e in subst (IsTermOf facts u) (sym it.0) it.1,
    λ h. let same = at_number_alone i h in (is i).1 (same, subst (IsTermOf facts u) same h),
  )
    where
      at_number_alone : (i : ℕ) → IsTermOf facts u i → i ≡ number
      at_number_alone i h = elim (compare number i) [
        | inl less ↦ absurd (behind i (omega (arith, less)) h)
        | inr (inl same) ↦ sym same
        | inr (inr more) ↦ absurd (before i more h)
      ]

  pub no_holder : HaveNone facts u 0 → IsHolder facts u None
  no_holder none i = (λ e. absurd (none-some i e), λ h. absurd (none i (omega arith) h))

-- ---- one more fact

pub laid_push : (start end count : ℕ) (facts : List Fact) (fact : Fact) → AreLaid start facts end → fact.terms ≡ unknowns_from end count → length fact.terms ≡ count →
    AreLaid start (facts ++ fact ∷ []) (end + count)
laid_push start end count [] fact same terms long = (
  subst (λ n. fact.terms ≡ unknowns_from start n) (sym long) (subst (λ a. fact.terms ≡ unknowns_from a count) (sym same) terms),
  omega (arith, same, long),
)
laid_push start end count (f ∷ facts) fact laid terms long = (laid.0, laid_push (start + length f.terms) end count facts fact laid.1 terms long)

-- ---- each term of a fact is an unknown

run_unknown : (start count k : ℕ) (t : Term) → slice_get (unknowns_from start count) k ≡ Some t → (u : ℕ) × (t ≡ Unknown u)
run_unknown start count k t e = (start + k, (run_at start count k t e).0)

pub laid_unknown : (start end : ℕ) (facts : List Fact) (i k : ℕ) (t : Term) (fact : Fact) → AreLaid start facts end → slice_get facts i ≡ Some fact → slice_get fact.terms k ≡ Some t → (u : ℕ) × (t ≡ Unknown u)
laid_unknown start end [] i k t fact laid there has = absurd (none-some fact there)
laid_unknown start end (f ∷ facts) zero k t fact laid there has =
    run_unknown start (length f.terms) k t (subst (λ terms. slice_get terms k ≡ Some t) laid.0 (subst (λ (g : Fact). slice_get g.terms k ≡ Some t) (sym (same_Some f fact there)) has))
laid_unknown start end (f ∷ facts) (suc i) k t fact laid there has = laid_unknown (start + length f.terms) end facts i k t fact laid.1 there has
