-- The steps of the loops over operands.
use Rattle.std.proofs.Common.{◌≡◌, ℕ, zero, suc, ◌+◌, ◌<◌, ◌≤◌, List, [], ◌∷◌, ◌++◌, length, get_or, take, drop, map, refl, sym, ap, ◌∙◌, subst, append_assoc, append-nil, add-one, arith}
use Rattle.std.specs.Prelude.{Option, ℤ, ◌<ℤ◌}
use Rattle.std.specs.List.{flat_map}
use Rattle.std.proofs.lemmas.List.{map-append, take_all}
use Rattle.std.proofs.lemmas.Grind.{flat_map-append}
use Rattle.ba_kernel.proofs.CaseFactLemmas.{zip_append}
use Rattle.ba_kernel.proofs.ZipLemmas.{taken}
use Rattle.ba_model.specs.declared.query.Atom.{Atom}
use Rattle.ba_model.specs.declared.query.Op.TheVariants.{Lt}
use Rattle.ba_model.specs.declared.value.Value.TheVariants.{Int}
use Rattle.ba_general.specs.Conditions.{AddsGroup, AddsOnes, IsFullList, IsLessOf, IsOne, fixed_of, pairs, sided, those}
use Rattle.ba_general.specs.declared.condition.Group.{Group}
use Rattle.ba_general.specs.declared.condition.Group.TheVariants.{Fixed, Less, Apart, Equal}
use Rattle.ba_general.specs.declared.dropping.Ends.{Ends}
use Rattle.ba_general.specs.declared.pattern.Valued.{Valued}

pub less_first : (x y : Valued) (m n : ℤ) (atom : Atom) → x.value ≡ Int m → y.value ≡ Int n → m <ℤ n → atom ≡ sided Lt x y → IsLessOf x y atom
less_first x y m n atom p q h e = subst (IsLessOf x y) (sym e) (IsLessOf.first p q h)

pub less_second : (x y : Valued) (m n : ℤ) (atom : Atom) → x.value ≡ Int m → y.value ≡ Int n → n <ℤ m → atom ≡ sided Lt y x → IsLessOf x y atom
less_second x y m n atom p q h e = subst (IsLessOf x y) (sym e) (IsLessOf.second p q h)

-- the pairs whose first is before the number
abbrev pub pairs_to : ℕ → List Valued → List (Valued × Valued)
pairs_to zero xs = []
pairs_to (suc n) [] = []
pairs_to (suc n) (x ∷ xs) = map (λ y. (x, y)) xs ++ pairs_to n xs

pub adds_none : (group : Group) (atoms : List Atom) → AddsOnes group [] atoms atoms
adds_none group atoms = record { ones = []; each = tt; new_is = sym (append-nil atoms) }

-- one addition after another
pub adds_both : (group : Group) (xs ys : List (Valued × Valued)) (old mid new : List Atom) → AddsOnes group xs old mid → AddsOnes group ys mid new →
    AddsOnes group (xs ++ ys) old new
adds_both group xs ys old mid new h k =
    record {
      ones = h.ones ++ k.ones;
      each = zip_append (IsOne group) xs ys h.ones k.ones h.each k.each;
      new_is =
          k.new_is ∙ (ap (λ zs. zs ++ flat_map those k.ones) h.new_is ∙
          (append_assoc old (flat_map those h.ones) (flat_map those k.ones) ∙ ap (λ zs. old ++ zs) (sym (flat_map-append those h.ones k.ones))));
    }

pub adds_one : (group : Group) (x y : Valued) (one : Option Atom) (old new : List Atom) → IsOne group (x, y) one → new ≡ old ++ those one →
    AddsOnes group ((x, y) ∷ []) old new
adds_one group x y one old new is e =
    record { ones = one ∷ []; each = (is, tt); new_is = e ∙ ap (λ zs. old ++ zs) (sym (append-nil (those one))) }

-- one of the others further
pub adds_more : (group : Group) (x : Valued) (others : List Valued) (i : ℕ) (y : Valued) (one : Option Atom) (old mid new : List Atom) → i < length others →
    y ≡ get_or others i y → AddsOnes group (map (λ z. (x, z)) (take i others)) old mid → IsOne group (x, y) one → new ≡ mid ++ those one →
    AddsOnes group (map (λ z. (x, z)) (take (i + 1) others)) old new
adds_more group x others i y one old mid new below at h is e =
    subst (λ zs. AddsOnes group zs old new)
    (sym (ap (map (λ z. (x, z))) (taken others i y below at) ∙ map-append (λ z. (x, z)) (take i others) (y ∷ [])))
    (adds_both group (map (λ z. (x, z)) (take i others)) ((x, y) ∷ []) old mid new h (adds_one group x y one mid new is e))

pub adds_all : (group : Group) (x : Valued) (others : List Valued) (n : ℕ) (old new : List Atom) → length others ≤ n →
    AddsOnes group (map (λ z. (x, z)) (take n others)) old new → AddsOnes group (map (λ z. (x, z)) others) old new
adds_all group x others n old new whole h = subst (λ zs. AddsOnes group (map (λ z. (x, z)) zs) old new) (take_all n others whole) h

-- the pairs of one more operand
pairs_more : (xs : List Valued) (n : ℕ) (x : Valued) → n < length xs → x ≡ get_or xs n x →
    pairs_to (suc n) xs ≡ pairs_to n xs ++ map (λ y. (x, y)) (drop (suc n) xs)
pairs_more [] n x below at = absurd (omega arith)
pairs_more (z ∷ xs) zero x below at = append-nil (map (λ y. (z, y)) xs) ∙ ap (λ w. map (λ y. (w, y)) xs) (sym at)
pairs_more (z ∷ xs) (suc n) x below at =
    let less : n < length xs = omega arith in
    ap (λ ps. map (λ y. (z, y)) xs ++ ps) (pairs_more xs n x less at) ∙
    sym (append_assoc (map (λ y. (z, y)) xs) (pairs_to n xs) (map (λ y. (x, y)) (drop (suc n) xs)))

pairs_all : (xs : List Valued) (n : ℕ) → length xs ≤ n → pairs_to n xs ≡ pairs xs
pairs_all [] zero whole = refl
pairs_all [] (suc n) whole = refl
pairs_all (x ∷ xs) zero whole = absurd (omega arith)
pairs_all (x ∷ xs) (suc n) whole = let less : length xs ≤ n = omega arith in ap (λ ps. map (λ y. (x, y)) xs ++ ps) (pairs_all xs n less)

pub pairs_added : (group : Group) (xs : List Valued) (n : ℕ) (x : Valued) (others : List Valued) (old mid new : List Atom) → n < length xs → x ≡ get_or xs n x →
    others ≡ drop (n + 1) xs → AddsOnes group (pairs_to n xs) old mid → AddsOnes group (map (λ y. (x, y)) others) mid new → AddsOnes group (pairs_to (n + 1) xs) old new
pairs_added group xs n x others old mid new below at rest h k =
    let rest : others ≡ drop (suc n) xs = rest ∙ ap (λ m. drop m xs) (add-one n) in
    subst (λ ps. AddsOnes group ps old new)
    (sym (ap (λ m. pairs_to m xs) (add-one n) ∙ (pairs_more xs n x below at ∙ ap (λ ys. pairs_to n xs ++ map (λ y. (x, y)) ys) (sym rest))))
    (adds_both group (pairs_to n xs) (map (λ y. (x, y)) others) old mid new h k)

pub pairs_whole : (group : Group) (xs : List Valued) (n : ℕ) (old new : List Atom) → length xs ≤ n → AddsOnes group (pairs_to n xs) old new →
    AddsOnes group (pairs xs) old new
pairs_whole group xs n old new whole h = subst (λ ps. AddsOnes group ps old new) (pairs_all xs n whole) h

-- ---- groups

pub fixed_added : (operands : List Valued) (old new : List Atom) → new ≡ old ++ map fixed_of operands → AddsGroup Fixed operands old new
fixed_added operands old new e = record { atoms = map fixed_of operands; group_is = refl; new_is = e }

ones_group : (group : Group) (operands : List Valued) (old new : List Atom) → AddsOnes group (pairs operands) old new →
    (atoms : List Atom) × AddsOnes group (pairs operands) [] atoms × (new ≡ old ++ atoms)
ones_group group operands old new h = (flat_map those h.ones, record { ones = h.ones; each = h.each; new_is = refl }, h.new_is)

pub pairs_group : (group : Group) (operands : List Valued) (old new : List Atom) → ¬ (group ≡ Fixed) → AddsOnes group (pairs operands) old new →
    AddsGroup group operands old new
pairs_group Fixed operands old new other h = absurd (other refl)
pairs_group Less operands old new other h = let w = ones_group Less operands old new h in record { atoms = w.0; group_is = w.1; new_is = w.2 }
pairs_group Apart operands old new other h = let w = ones_group Apart operands old new h in record { atoms = w.0; group_is = w.1; new_is = w.2 }
pairs_group Equal operands old new other h = let w = ones_group Equal operands old new h in record { atoms = w.0; group_is = w.1; new_is = w.2 }

pub four_groups : (operands : List Valued) (a0 a1 a2 a3 a4 : List Atom) (ends : Ends) → a0 ≡ [] → AddsGroup Fixed operands a0 a1 → AddsGroup Less operands a1 a2 →
    AddsGroup Apart operands a2 a3 → AddsGroup Equal operands a3 a4 → ends.fixed ≡ length a1 → ends.less ≡ length a2 → ends.apart ≡ length a3 →
    IsFullList operands a4 ends
four_groups operands a0 a1 a2 a3 a4 ends none f l a e ef el ea =
    let one : a1 ≡ f.atoms = f.new_is ∙ ap (λ xs. xs ++ f.atoms) none in
    let two : a2 ≡ f.atoms ++ l.atoms = l.new_is ∙ ap (λ xs. xs ++ l.atoms) one in
    let three : a3 ≡ f.atoms ++ l.atoms ++ a.atoms = a.new_is ∙ ap (λ xs. xs ++ a.atoms) two in
    record {
      fixed = f.atoms;
      less = l.atoms;
      apart = a.atoms;
      equal = e.atoms;
      full = record { fixed_are = f.group_is; less_are = l.group_is; apart_are = a.group_is; equal_are = e.group_is };
      atoms_are = e.new_is ∙ ap (λ xs. xs ++ e.atoms) three;
      fixed_end = ef ∙ ap length one;
      less_end = el ∙ ap length two;
      apart_end = ea ∙ ap length three;
    }
