-- What a pass leaves of the full condition: some of its atoms, with which the steps are accepted.
use Rattle.std.proofs.Common.{◌≡◌, List, [], ◌∷◌, ◌++◌, sym, ap, ◌∙◌, subst, append_assoc, append-nil}
use Rattle.std.specs.Prelude.{All}
use Rattle.std.proofs.lemmas.List.Elements.{All-cons, All-head, All-nil, All-tail}
use Rattle.ba_kernel.specs.declared.problem.Problem.{Problem}
use Rattle.ba_kernel.specs.declared.step.Step.{Step}
use Rattle.ba_model.specs.declared.query.Atom.{Atom}
use Rattle.ba_general.proofs.AcceptedLemmas.{left_some, some_append}
use Rattle.ba_general.specs.Conditions.{IsCondition}
use Rattle.ba_general.specs.Dropping.{AreSomeOf, Drops, IsAccepted}
use Rattle.ba_general.specs.declared.pattern.Valued.{Valued}

pub some_have : (P : Atom → Type 0) {some all : List Atom} → AreSomeOf some all → All P all → All P some
some_have P AreSomeOf.none h = All-nil P
some_have P (AreSomeOf.with {some} {all} {atom} k) h = All-cons P atom some (All-head P atom all h) (some_have P k (All-tail P atom all h))
some_have P (AreSomeOf.without {all = all} {atom = atom} k) h = some_have P k (All-tail P atom all h)

pub condition_some : (g : Problem) (operands : List Valued) (taken : List Step) (condition : List Atom) → (c : IsCondition g operands taken condition) →
    AreSomeOf condition (c.fixed ++ c.less ++ c.apart ++ c.equal)
condition_some g operands taken condition c =
    subst (λ xs. AreSomeOf xs (c.fixed ++ c.less ++ c.apart ++ c.equal)) (sym c.condition_is)
    (some_append (some_append (some_append (left_some c.fixed_drops) (left_some c.less_drops)) (left_some c.apart_drops)) (left_some c.equal_drops))

-- ---- with what is left the steps are accepted, if they are so with all

left_accepted : {P : List Atom → Type 0} {before run after left : List Atom} → Drops P before run after left → P (before ++ run ++ after) → P (before ++ left ++ after)
left_accepted Drops.done accepted = accepted
left_accepted (Drops.drops atom p d) accepted = left_accepted d p
left_accepted {P} {before} (Drops.stays {atoms} {after} {left} atom np d) accepted =
    let moved : (xs : List Atom) → before ++ (xs ++ atom ∷ []) ++ after ≡ before ++ xs ++ (atom ∷ after) =
    λ xs. ap (λ ys. ys ++ after) (sym (append_assoc before xs (atom ∷ []))) ∙ append_assoc (before ++ xs) (atom ∷ []) after in
    subst P (sym (moved left)) (left_accepted d (subst P (moved atoms) accepted))

pub condition_accepted : (g : Problem) (operands : List Valued) (taken : List Step) (condition : List Atom) → IsCondition g operands taken condition →
    IsAccepted g taken condition
condition_accepted g operands taken condition c =
    let P : List Atom → Type 0 = IsAccepted g taken in
    let all : c.fixed ++ c.less ++ c.apart ++ c.equal ≡ c.fixed ++ (c.less ++ c.apart ++ c.equal) =
    ap (λ ys. ys ++ c.equal) (append_assoc c.fixed c.less c.apart) ∙ append_assoc c.fixed (c.less ++ c.apart) c.equal in
    let one : IsAccepted g taken (c.fixed_left ++ (c.less ++ c.apart ++ c.equal)) = left_accepted c.fixed_drops (subst P all c.accepted) in
    let first : c.fixed_left ++ (c.less ++ c.apart ++ c.equal) ≡ c.fixed_left ++ c.less ++ (c.apart ++ c.equal) =
    ap (λ ys. c.fixed_left ++ ys) (append_assoc c.less c.apart c.equal) ∙ sym (append_assoc c.fixed_left c.less (c.apart ++ c.equal)) in
    let two : IsAccepted g taken (c.fixed_left ++ c.less_left ++ (c.apart ++ c.equal)) = left_accepted c.less_drops (subst P first one) in
    let three : IsAccepted g taken (c.fixed_left ++ c.less_left ++ c.apart_left ++ c.equal) =
    left_accepted c.apart_drops (subst P (sym (append_assoc (c.fixed_left ++ c.less_left) c.apart c.equal)) two) in
    let four : IsAccepted g taken (c.fixed_left ++ c.less_left ++ c.apart_left ++ c.equal_left ++ []) =
    left_accepted c.equal_drops (subst P (sym (append-nil (c.fixed_left ++ c.less_left ++ c.apart_left ++ c.equal))) three) in
    subst P (append-nil (c.fixed_left ++ c.less_left ++ c.apart_left ++ c.equal_left) ∙ sym c.condition_is) four
