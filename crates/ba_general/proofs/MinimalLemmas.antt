-- No atom of a template's condition can be dropped.
use Rattle.std.proofs.Common.{◌≡◌, ◌⊎◌, inl, inr, List, [], ◌∷◌, ◌++◌, All, refl, sym, ap, ap₂, ◌∙◌, subst, append_assoc, append-nil}
use Rattle.std.proofs.lemmas.List.Elements.{All-append, All-cons, All-head, All-nil, All-tail}
use Rattle.ba_model.specs.declared.query.Atom.{Atom}
use Rattle.ba_model.specs.declared.value.Value.{Value}
use Rattle.ba_kernel.specs.Replays.{Closes}
use Rattle.ba_kernel.specs.SearchStates.{Proof}
use Rattle.ba_kernel.specs.declared.problem.Problem.{Problem}
use Rattle.ba_kernel.specs.declared.step.Step.{Step}
use Rattle.ba_general.proofs.AcceptedLemmas.{left_some, pass_is_minimal, some_append, some_of_all}
use Rattle.ba_general.proofs.FullLemmas.{IsPlain, fixed_can, ones_can, operands_plain, pairs_plain}
use Rattle.ba_general.specs.Conditions.{AddsOnes, IsCondition, operands_with, pairs}
use Rattle.ba_general.specs.Dropping.{AreSomeOf, CanBeAssumed, IsAccepted, NoneCanBeDropped}
use Rattle.ba_general.specs.Generals.{IsGeneralised, IsMinimal}
use Rattle.ba_general.specs.Patterns.{assuming}
use Rattle.ba_general.specs.declared.condition.Group.{Group}
use Rattle.ba_general.specs.declared.condition.Group.TheVariants.{Less, Apart, Equal}
use Rattle.ba_general.specs.declared.pattern.Valued.{Valued}

-- the atom stands in the first of two lists or in the second
split_atom : (xs ys before after : List Atom) (atom : Atom) → xs ++ ys ≡ before ++ atom ∷ after →
    ((last : List Atom) × (xs ≡ before ++ atom ∷ last) × (after ≡ last ++ ys)) ⊎ ((first : List Atom) × (before ≡ xs ++ first) × (ys ≡ first ++ atom ∷ after))
split_atom [] ys before after atom e = inr (before, refl, e)
split_atom (x ∷ xs) ys [] after atom e =
    let here : x ≡ atom = cc in
    let rest : xs ++ ys ≡ after = cc in
    inl (xs, ap (λ z. z ∷ xs) here, sym rest)
split_atom (x ∷ xs) ys (b ∷ before) after atom e =
    let here : x ≡ b = cc in
    let rest : xs ++ ys ≡ before ++ atom ∷ after = cc in
    elim (split_atom xs ys before after atom rest)
    as (λ _. ((last : List Atom) × (x ∷ xs ≡ b ∷ before ++ atom ∷ last) × (after ≡ last ++ ys)) ⊎ ((first : List Atom) × (b ∷ before ≡ x ∷ xs ++ first) × (ys ≡ first ++ atom ∷ after))) [
      | inl h ↦ inl (h.0, ap₂ (λ z zs. z ∷ zs) here h.1, h.2)
      | inr h ↦ inr (h.0, ap₂ (λ z zs. z ∷ zs) (sym here) h.1, h.2)
    ]

some_can : {xs ys : List Atom} → AreSomeOf xs ys → All CanBeAssumed ys → All CanBeAssumed xs
some_can AreSomeOf.none can = All-nil CanBeAssumed
some_can (AreSomeOf.with {some} {all} {atom} h) can =
    All-cons CanBeAssumed atom some (All-head CanBeAssumed atom all can) (some_can h (All-tail CanBeAssumed atom all can))
some_can (AreSomeOf.without {all = all} {atom = atom} h) can = some_can h (All-tail CanBeAssumed atom all can)

group_can : (group : Group) (operands : List Valued) (atoms : List Atom) → All IsPlain operands → AddsOnes group (pairs operands) [] atoms → All CanBeAssumed atoms
group_can group operands atoms plain h = subst (All CanBeAssumed) (sym h.new_is) (ones_can group (pairs operands) h.ones (pairs_plain operands plain) h.each)

three_can : (xs ys zs : List Atom) → All CanBeAssumed xs → All CanBeAssumed ys → All CanBeAssumed zs → All CanBeAssumed (xs ++ ys ++ zs)
three_can xs ys zs a b c = All-append CanBeAssumed (xs ++ ys) zs (All-append CanBeAssumed xs ys a b) c

module _ (g : Problem) (values params : List Value) (taken : List Step) (condition : List Atom) (h : IsCondition g (operands_with values params) taken condition) where
  abbrev P : List Atom → Type 0
  P = IsAccepted g taken

  plain : All IsPlain (operands_with values params)
  plain = operands_plain values params

  can_fixed : All CanBeAssumed h.fixed
  can_fixed = subst (All CanBeAssumed) (sym h.full.fixed_are) (fixed_can (operands_with values params) plain)

  can_less : All CanBeAssumed h.less
  can_less = group_can Less (operands_with values params) h.less plain h.full.less_are

  can_apart : All CanBeAssumed h.apart
  can_apart = group_can Apart (operands_with values params) h.apart plain h.full.apart_are

  can_equal : All CanBeAssumed h.equal
  can_equal = group_can Equal (operands_with values params) h.equal plain h.full.equal_are

  left_fixed : All CanBeAssumed h.fixed_left
  left_fixed = some_can (left_some h.fixed_drops) can_fixed

  left_less : All CanBeAssumed h.less_left
  left_less = some_can (left_some h.less_drops) can_less

  left_apart : All CanBeAssumed h.apart_left
  left_apart = some_can (left_some h.apart_drops) can_apart

  -- of each group none that is left can be dropped
  in_fixed : (first last : List Atom) (atom : Atom) → h.fixed_left ≡ first ++ atom ∷ last → ¬ (P ([] ++ first ++ last ++ (h.less_left ++ h.apart_left ++ h.equal_left)))
  in_fixed first last atom e =
      pass_is_minimal g taken [] h.fixed (h.less ++ h.apart ++ h.equal) h.fixed_left [] (h.less_left ++ h.apart_left ++ h.equal_left) first last atom
      (three_can [] h.fixed (h.less ++ h.apart ++ h.equal) (All-nil CanBeAssumed) can_fixed (three_can h.less h.apart h.equal can_less can_apart can_equal))
      h.fixed_drops AreSomeOf.none (some_append (some_append (left_some h.less_drops) (left_some h.apart_drops)) (left_some h.equal_drops)) e

  in_less : (first last : List Atom) (atom : Atom) → h.less_left ≡ first ++ atom ∷ last → ¬ (P (h.fixed_left ++ first ++ last ++ (h.apart_left ++ h.equal_left)))
  in_less first last atom e =
      pass_is_minimal g taken h.fixed_left h.less (h.apart ++ h.equal) h.less_left h.fixed_left (h.apart_left ++ h.equal_left) first last atom
      (three_can h.fixed_left h.less (h.apart ++ h.equal) left_fixed can_less (All-append CanBeAssumed h.apart h.equal can_apart can_equal))
      h.less_drops (some_of_all h.fixed_left) (some_append (left_some h.apart_drops) (left_some h.equal_drops)) e

  in_apart : (first last : List Atom) (atom : Atom) → h.apart_left ≡ first ++ atom ∷ last → ¬ (P ((h.fixed_left ++ h.less_left) ++ first ++ last ++ h.equal_left))
  in_apart first last atom e =
      pass_is_minimal g taken (h.fixed_left ++ h.less_left) h.apart h.equal h.apart_left (h.fixed_left ++ h.less_left) h.equal_left first last atom
      (three_can (h.fixed_left ++ h.less_left) h.apart h.equal (All-append CanBeAssumed h.fixed_left h.less_left left_fixed left_less) can_apart can_equal)
      h.apart_drops (some_of_all (h.fixed_left ++ h.less_left)) (left_some h.equal_drops) e

  in_equal : (first last : List Atom) (atom : Atom) → h.equal_left ≡ first ++ atom ∷ last → ¬ (P ((h.fixed_left ++ h.less_left ++ h.apart_left) ++ first ++ last ++ []))
  in_equal first last atom e =
      pass_is_minimal g taken (h.fixed_left ++ h.less_left ++ h.apart_left) h.equal [] h.equal_left (h.fixed_left ++ h.less_left ++ h.apart_left) [] first last atom
      (three_can (h.fixed_left ++ h.less_left ++ h.apart_left) h.equal [] (three_can h.fixed_left h.less_left h.apart_left left_fixed left_less left_apart) can_equal (All-nil CanBeAssumed))
      h.equal_drops (some_of_all (h.fixed_left ++ h.less_left ++ h.apart_left)) AreSomeOf.none e

  pub condition_is_minimal : NoneCanBeDropped P condition
  condition_is_minimal before after atom e accepted =
      elim (split_atom (h.fixed_left ++ h.less_left ++ h.apart_left) h.equal_left before after atom (sym h.condition_is ∙ e)) as (λ _. ⊥) [
        | inr equal ↦
            in_equal equal.0 after atom equal.2
            (subst P (ap (λ xs. xs ++ after) equal.1 ∙ sym (append-nil (h.fixed_left ++ h.less_left ++ h.apart_left ++ equal.0 ++ after))) accepted)
        | inl front ↦ elim (split_atom (h.fixed_left ++ h.less_left) h.apart_left before front.0 atom front.1) as (λ _. ⊥) [
          | inr apart ↦
              in_apart apart.0 front.0 atom apart.2
              (subst P (ap₂ (λ xs ys. xs ++ ys) apart.1 front.2 ∙ sym (append_assoc (h.fixed_left ++ h.less_left ++ apart.0) front.0 h.equal_left)) accepted)
          | inl two ↦
              let rest : after ≡ two.0 ++ (h.apart_left ++ h.equal_left) =
              front.2 ∙ (ap (λ xs. xs ++ h.equal_left) two.2 ∙ append_assoc two.0 h.apart_left h.equal_left) in
              elim (split_atom h.fixed_left h.less_left before two.0 atom two.1) as (λ _. ⊥) [
                | inr less ↦
                    in_less less.0 two.0 atom less.2
                    (subst P (ap₂ (λ xs ys. xs ++ ys) less.1 rest ∙ sym (append_assoc (h.fixed_left ++ less.0) two.0 (h.apart_left ++ h.equal_left))) accepted)
                | inl fixed ↦
                    let others : List Atom = h.less_left ++ h.apart_left ++ h.equal_left in
                    let regroup : two.0 ++ (h.apart_left ++ h.equal_left) ≡ fixed.0 ++ (h.less_left ++ h.apart_left ++ h.equal_left) =
                    ap (λ xs. xs ++ (h.apart_left ++ h.equal_left)) fixed.2 ∙
                    (append_assoc fixed.0 h.less_left (h.apart_left ++ h.equal_left) ∙ ap (λ xs. fixed.0 ++ xs) (sym (append_assoc h.less_left h.apart_left h.equal_left))) in
                    in_fixed before fixed.0 atom fixed.1
                    (subst P (ap (λ xs. before ++ xs) (rest ∙ regroup) ∙ sym (append_assoc before fixed.0 (h.less_left ++ h.apart_left ++ h.equal_left))) accepted)
              ]
        ]
      ]

-- no atom of the condition of a proof's template can be dropped with the same steps
pub template_is_minimal : (proof template : Proof) → IsGeneralised proof template → IsMinimal template
template_is_minimal proof template h before after atom e accepted =
    condition_is_minimal h.pattern h.values h.params template.steps template.problem.assumed h.condition before after atom e
    (subst (λ (q : Problem). Closes (assuming q (before ++ after)) template.steps) h.problem accepted)
