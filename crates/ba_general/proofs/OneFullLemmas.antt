-- The full condition of operands is determined.
use Rattle.std.proofs.Common.{◌≡◌, ℤ, ◌<ℤ◌, Bool, List, [], ◌∷◌, ◌++◌, refl, sym, ap, ap₂, ◌∙◌, subst, arith}
use Rattle.std.proofs.lemmas.Int.{ints}
use Rattle.std.specs.List.{AllZip, flat_map}
use Rattle.std.specs.Prelude.{◌↔◌, Option, Some, None}
use Rattle.ba_kernel.specs.declared.problem.Problem.{Problem}
use Rattle.ba_kernel.specs.declared.step.Step.{Step}
use Rattle.ba_model.specs.declared.query.Atom.{Atom}
use Rattle.ba_model.specs.declared.value.Value.{Value}
use Rattle.ba_model.specs.declared.value.Value.TheVariants.{Int}
use Rattle.ba_general.proofs.PassLemmas.{whole}
use Rattle.ba_general.specs.Conditions.{AddsOnes, IsAcceptedFully, IsFull, IsFullPass, IsLessOf, IsOne, IsPairOf, pairs, those}
use Rattle.ba_general.specs.Dropping.{IsAccepted, kept_atoms}
use Rattle.ba_general.specs.declared.condition.Group.{Group}
use Rattle.ba_general.specs.declared.condition.Group.TheVariants.{Fixed, Less, Apart, Equal}
use Rattle.ba_general.specs.declared.dropping.Ends.{Ends}
use Rattle.ba_general.specs.declared.pattern.Valued.{Valued}

same_number : (v : Value) (m n : ℤ) → v ≡ Int m → v ≡ Int n → m ≡ n
same_number v m n e k = cc

not_both : (x y : Valued) (m n k l : ℤ) → x.value ≡ Int m → y.value ≡ Int n → m <ℤ n → x.value ≡ Int k → y.value ≡ Int l → l <ℤ k → ⊥
not_both x y m n k l p q below r s above =
    let first : k ≡ m = same_number x.value k m r p in
    let second : l ≡ n = same_number y.value l n s q in
    let over : n <ℤ m = subst (λ i. n <ℤ i) first (subst (λ i. i <ℤ k) second above) in
    omega (arith, ints)

less_one : (x y : Valued) (a b : Atom) → IsLessOf x y a → IsLessOf x y b → a ≡ b
less_one x y a b (IsLessOf.first p q below) (IsLessOf.first r s under) = refl
less_one x y a b (IsLessOf.first {m} {n} p q below) (IsLessOf.second {m = k} {n = l} r s above) = absurd (not_both x y m n k l p q below r s above)
less_one x y a b (IsLessOf.second {m = k} {n = l} r s above) (IsLessOf.first {m} {n} p q below) = absurd (not_both x y m n k l p q below r s above)
less_one x y a b (IsLessOf.second p q below) (IsLessOf.second r s under) = refl

pair_one : (group : Group) (x y : Valued) (a b : Atom) → IsPairOf group x y a → IsPairOf group x y b → a ≡ b
pair_one Fixed x y a b h k = absurd h
pair_one Less x y a b h k = less_one x y a b h k
pair_one Apart x y a b h k = h.is ∙ sym k.is
pair_one Equal x y a b h k = h.is ∙ sym k.is

one_one : (group : Group) (x y : Valued) (a b : Option Atom) → IsOne group (x, y) a → IsOne group (x, y) b → a ≡ b
one_one group x y None None h k = refl
one_one group x y None (Some b) h k = absurd (h b k)
one_one group x y (Some a) None h k = absurd (k a h)
one_one group x y (Some a) (Some b) h k = ap Some (pair_one group x y a b h k)

ones_one : (group : Group) (twos : List (Valued × Valued)) (xs ys : List (Option Atom)) → AllZip (IsOne group) twos xs → AllZip (IsOne group) twos ys → xs ≡ ys
ones_one group [] [] [] h k = refl
ones_one group [] [] (b ∷ ys) h k = absurd k
ones_one group [] (a ∷ xs) ys h k = absurd h
ones_one group (two ∷ twos) [] ys h k = absurd h
ones_one group (two ∷ twos) (a ∷ xs) [] h k = absurd k
ones_one group ((x, y) ∷ twos) (a ∷ xs) (b ∷ ys) h k = ap₂ (λ z zs. z ∷ zs) (one_one group x y a b h.0 k.0) (ones_one group twos xs ys h.1 k.1)

group_one : (group : Group) (operands : List Valued) (xs ys : List Atom) → AddsOnes group (pairs operands) [] xs → AddsOnes group (pairs operands) [] ys → xs ≡ ys
group_one group operands xs ys h k = h.new_is ∙ (ap (flat_map those) (ones_one group (pairs operands) h.ones k.ones h.each k.each) ∙ sym k.new_is)

pub full_one : (operands : List Valued) (fixed less apart equal others lesser aparts equals : List Atom) → IsFull operands fixed less apart equal →
    IsFull operands others lesser aparts equals → fixed ++ less ++ apart ++ equal ≡ others ++ lesser ++ aparts ++ equals
full_one operands fixed less apart equal others lesser aparts equals h k =
    ap₂ (λ xs ys. xs ++ ys)
    (ap₂ (λ xs ys. xs ++ ys)
    (ap₂ (λ xs ys. xs ++ ys) (h.fixed_are ∙ sym k.fixed_are) (group_one Less operands less lesser h.less_are k.less_are))
    (group_one Apart operands apart aparts h.apart_are k.apart_are))
    (group_one Equal operands equal equals h.equal_are k.equal_are)

-- accepted under all atoms of a pass that keeps all is accepted under the full condition
pub accepted_fully : (g : Problem) (operands : List Valued) (taken : List Step) (atoms : List Atom) (kept : List Bool) (ends : Ends) →
    IsFullPass operands atoms kept ends → IsAccepted g taken (kept_atoms atoms kept) ↔ IsAcceptedFully g operands taken
accepted_fully g operands taken atoms kept ends h =
    let it = h.full in
    let all : kept_atoms atoms kept ≡ it.fixed ++ it.less ++ it.apart ++ it.equal = ap (kept_atoms atoms) h.kept_are ∙ (whole atoms ∙ it.atoms_are) in (
      (λ accepted. record {
        fixed = it.fixed;
        less = it.less;
        apart = it.apart;
        equal = it.equal;
        full = it.full;
        accepted = subst (IsAccepted g taken) all accepted;
      }),
      (λ k. subst (IsAccepted g taken)
          (full_one operands k.fixed k.less k.apart k.equal it.fixed it.less it.apart it.equal k.full it.full ∙ sym all) k.accepted),
    )
