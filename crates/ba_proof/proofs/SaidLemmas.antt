-- A reading that gives something, one that gives a fault, and what lists, texts and numbers say.
use Rattle.std.proofs.Common.{◌≡◌, ◌∙◌, ℕ, ◌<◌, ◌^◌, List, [], ◌∷◌, Bool, true, false, cond, Option, Some, None, Result, Ok, Err, refl, sym, ap, subst, arith, nat_le}
use Rattle.std.specs.Prelude.{option_and_then}
use Rattle.std.specs.List.{AllZip}
use Rattle.std.proofs.lemmas.Bool.{leb-true, le-leb}
use Rattle.serde_json.specs.Data.{Data, Items, null, boolean, number, string, array, object, no_items, item}
use Rattle.serde_json.specs.View.{items_of}
use Rattle.ba_model.specs.Readings.{◌>>=◌, each, widened}
use Rattle.ba_proof.proofs.FitLemmas.{bound, good}
use Rattle.ba_proof.proofs.ShapeLemmas.{items_are}
use Rattle.ba_proof.specs.Says.{SaysEach, SaysLong, SaysShort}
use Rattle.ba_proof.specs.Shapes.{as_list, as_long, as_short, bad, items_list, list_at, or_bad, short, text_at}
use Rattle.ba_proof.specs.Steps.{long_at, number_at, numbers_at}
use Rattle.ba_proof.specs.Written.{list_json}
use Rattle.ba_proof.specs.declared.fault.ProofFault.{ProofFault}
use Rattle.ba_proof.specs.declared.fault.ProofFault.TheVariants.{BadField}
use Rattle.ba_proof.specs.declared.fault.ProofField.{ProofField}
use Rattle.ba_proof.specs.declared.fault.ProofField.TheVariants as field

-- ---- something

-- either way of a test
pub choose : {A : Type 0} (G : Type 0) (b : Bool) (x y : Result A ProofFault) (r : A) → cond b x y ≡ Ok r → (b ≡ true → x ≡ Ok r → G) → (y ≡ Ok r → G) → G
choose G true x y r e f g = f refl e
choose G false x y r e f g = g e

pub ok_same : {A : Type 0} (x y : A) → ◌≡◌ {A = Result A ProofFault} (Ok x) (Ok y) → x ≡ y
ok_same x y e = cc e

pub each_zip : {A B : Type 0} (f : A → Result B ProofFault) (R : A → B → Type 0) → ((x : A) (y : B) → f x ≡ Ok y → R x y) → (xs : List A) (ys : List B) → each f xs ≡ Ok ys → AllZip R xs ys
each_zip f R h [] ys e = subst (AllZip R []) (ok_same [] ys e) tt
each_zip f R h (x ∷ xs) ys e =
    let first = bound (f x) (λ y. (each f xs >>= λ zs. Ok (y ∷ zs))) ys e in
    let rest = bound (each f xs) (λ zs. Ok (first.0 ∷ zs)) ys first.2 in
    subst (AllZip R (x ∷ xs)) (ok_same (first.0 ∷ rest.0) ys rest.2) (h x first.0 first.1, each_zip f R h xs rest.0 rest.1)

pub zip_each : {A B : Type 0} (f : A → Result B ProofFault) (R : A → B → Type 0) → ((x : A) (y : B) → R x y → f x ≡ Ok y) → (xs : List A) (ys : List B) → AllZip R xs ys → each f xs ≡ Ok ys
zip_each f R h [] [] z = refl
zip_each f R h [] (y ∷ ys) z = absurd z
zip_each f R h (x ∷ xs) [] z = absurd z
zip_each f R h (x ∷ xs) (y ∷ ys) z = rw (h x y z.0, zip_each f R h xs ys z.1) refl

-- ---- a fault: that of one field

abbrev pub OnlyBad : {A : Type 0} → ProofField → Result A ProofFault → Type 0
OnlyBad f r = (e : ProofFault) → r ≡ Err e → e ≡ BadField f

pub only_ok : {A : Type 0} (f : ProofField) (x : A) → OnlyBad f (Ok x)
only_ok f x e h = cc h

pub only_bad : {A : Type 0} (f : ProofField) → OnlyBad {A = A} f (bad f)
only_bad f e h = cc h

pub only_or : {A : Type 0} (f : ProofField) (o : Option A) → OnlyBad f (or_bad f o)
only_or f None e h = cc h
only_or f (Some x) e h = cc h

pub only_bind : {A B : Type 0} (f : ProofField) (r : Result A ProofFault) (g : A → Result B ProofFault) → OnlyBad f r → ((x : A) → OnlyBad f (g x)) → OnlyBad f (r >>= g)
only_bind f (Ok x) g first rest = rest x
only_bind f (Err d) g first rest = λ e h. (let same : d ≡ e = cc h in sym same ∙ first d refl)

pub only_cond : {A : Type 0} (f : ProofField) (b : Bool) (x y : Result A ProofFault) → OnlyBad f x → OnlyBad f y → OnlyBad f (cond b x y)
only_cond f true x y left right = left
only_cond f false x y left right = right

pub only_widened : {A F : Type 0} (f : ProofField) (r : Result A F) → OnlyBad f (widened (λ fault. BadField f) r)
only_widened f (Ok x) e h = cc h
only_widened f (Err d) e h = cc h

pub only_each : {A B : Type 0} (f : ProofField) (g : A → Result B ProofFault) → ((x : A) → OnlyBad f (g x)) → (xs : List A) → OnlyBad f (each g xs)
only_each f g one [] = only_ok f []
only_each f g one (x ∷ xs) =
    only_bind f (g x) (λ y. (each g xs >>= λ ys. Ok (y ∷ ys))) (one x) (λ y. only_bind f (each g xs) (λ ys. Ok (y ∷ ys)) (only_each f g one xs) (λ ys. only_ok f (y ∷ ys)))

-- ---- lists and texts

items_back : (ds : Items) → items_of (items_list ds) ≡ ds
items_back no_items = refl
items_back (item d ds) = ap (item d) (items_back ds)

pub as_list_is : (d : Data) (ds : List Data) → as_list d ≡ Some ds → d ≡ list_json ds
as_list_is null ds e = cc e
as_list_is (boolean b) ds e = cc e
as_list_is (number n) ds e = cc e
as_list_is (string s) ds e = cc e
as_list_is (array items) ds e = let same : items_list items ≡ ds = cc e in ap array (sym (items_back items)) ∙ ap list_json same
as_list_is (object ms) ds e = cc e

pub as_list_said : (ds : List Data) → as_list (list_json ds) ≡ Some ds
as_list_said ds = ap Some (items_are ds)

pub list_is : (f : ProofField) (d : Data) (ds : List Data) → list_at f d ≡ Ok ds → d ≡ list_json ds
list_is f d ds e = as_list_is d ds (good f (as_list d) ds e)

pub list_said : (f : ProofField) (ds : List Data) → list_at f (list_json ds) ≡ Ok ds
list_said f ds = ap (or_bad f) (as_list_said ds)

pub text_is : (f : ProofField) (d : Data) (s : List ℕ) → text_at f d ≡ Ok s → d ≡ string s
text_is f null s e = cc e
text_is f (boolean b) s e = cc e
text_is f (number n) s e = cc e
text_is f (string t) s e = let same : t ≡ s = cc e in ap string same
text_is f (array ds) s e = cc e
text_is f (object ms) s e = cc e

-- ---- numbers

pub long_is : (d : Data) (n : ℕ) → as_long d ≡ Some n → SaysLong d n
long_is null n e = cc e
long_is (boolean b) n e = cc e
long_is (number num) n e = (num, refl, e)
long_is (string s) n e = cc e
long_is (array ds) n e = cc e
long_is (object ms) n e = cc e

pub long_said : (d : Data) (n : ℕ) → SaysLong d n → as_long d ≡ Some n
long_said d n h = ap as_long h.1 ∙ h.2

pub number_is : (d : Data) (n : ℕ) → number_at d ≡ Ok n → SaysShort d n
unfolding as_short
number_is d n e = by (as_long d) refl (good field.Steps (as_short d) n e)
  where
    within : (m : ℕ) (b : Bool) → as_long d ≡ Some m → nat_le m 0xffff_ffff ≡ b → cond b (Some m) None ≡ Some n → SaysShort d n
    within m true is t h =
        let same : m ≡ n = cc h in
        let most = leb-true m 0xffff_ffff t in
        let bits : m < 2 ^ 32 = omega (arith, most) in
        record { long = long_is d n (is ∙ ap Some same); bits = subst (λ k. k < 2 ^ 32) same bits }
    within m false is t h = cc h

    by : (o : Option ℕ) → as_long d ≡ o → option_and_then short o ≡ Some n → SaysShort d n
    by None is h = cc h
    by (Some m) is h = within m (nat_le m 0xffff_ffff) is refl h

pub number_said : (d : Data) (n : ℕ) → SaysShort d n → number_at d ≡ Ok n
unfolding as_short
number_said d n h =
    let bits = h.bits in
    ap (λ o. or_bad field.Steps (option_and_then short o)) (long_said d n h.long)
    ∙ ap (λ b. or_bad field.Steps (cond b (Some n) None)) (le-leb n 0xffff_ffff (omega (arith, bits)))

pub numbers_are : (d : Data) (ns : List ℕ) → numbers_at d ≡ Ok ns → SaysEach SaysShort d ns
unfolding numbers_at
numbers_are d ns e =
    let items = bound (list_at field.Steps d) (each number_at) ns e in
    record { ds = items.0; is = list_is field.Steps d items.0 items.1; said = each_zip number_at SaysShort number_is items.0 ns items.2 }

pub numbers_said : (d : Data) (ns : List ℕ) → SaysEach SaysShort d ns → numbers_at d ≡ Ok ns
unfolding numbers_at
numbers_said d ns h =
    ap (λ x. list_at field.Steps x >>= each number_at) h.is
    ∙ ap (λ r. r >>= each number_at) (list_said field.Steps h.ds)
    ∙ zip_each number_at SaysShort number_said h.ds ns h.said

pub number_only : (d : Data) → OnlyBad field.Steps (number_at d)
number_only d = only_or field.Steps (as_short d)

pub long_only : (d : Data) → OnlyBad field.Steps (long_at d)
long_only d = only_or field.Steps (as_long d)

pub numbers_only : (d : Data) → OnlyBad field.Steps (numbers_at d)
unfolding numbers_at
numbers_only d = only_bind field.Steps (list_at field.Steps d) (each number_at) (only_or field.Steps (as_list d)) (only_each field.Steps number_at number_only)
