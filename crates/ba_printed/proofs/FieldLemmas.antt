-- Fields of an object, and what texts, numbers and lists say.
use Rattle.std.proofs.Common.{◌≡◌, ◌∙◌, ◌&&◌, ℕ, List, [], ◌∷◌, Bool, true, false, cond, Option, Some, None, Result, Ok, Err, refl, sym, ap, subst}
use Rattle.std.specs.Prelude.{⊤}
use Rattle.std.specs.List.{AllZip}
use Rattle.std.specs.Str.{bytes_eq}
use Rattle.serde_json.specs.Data.{Data, Members, null, boolean, number, string, array, object, no_members, member}
use Rattle.serde_json.specs.Find.{get}
use Rattle.ba_model.specs.Readings.{◌>>=◌, each}
use Rattle.ba_proof.proofs.FitLemmas.{bound}
use Rattle.ba_proof.proofs.PutLemmas.{same_text, text_itself}
use Rattle.ba_proof.proofs.SaidLemmas.{as_list_is, as_list_said, long_is, long_said}
use Rattle.ba_proof.specs.Says.{SaysEach, SaysLong}
use Rattle.ba_proof.specs.Shapes.{as_list, as_long}
use Rattle.ba_proof.specs.Written.{list_json}
use Rattle.ba_printed.specs.Shapes.{field, keys_are, list_of, long_in, long_of, longs_of, only_if, or_form, text_in, text_of, word_in}
use Rattle.ba_printed.specs.declared.shapes.FormFault.{FormFault}

-- ---- readings

pub formed : {A : Type 0} (o : Option A) (x : A) → or_form o ≡ Ok x → o ≡ Some x
formed None x e = cc e
formed (Some y) x e = ap Some (cc e)

pub ok_is : {A F : Type 0} (x y : A) → ◌≡◌ {A = Result A F} (Ok x) (Ok y) → x ≡ y
ok_is x y e = cc e

-- either way of a test
pub choose : {A F : Type 0} (G : Type 0) (b : Bool) (x y : Result A F) (r : A) → cond b x y ≡ Ok r → (b ≡ true → x ≡ Ok r → G) → (y ≡ Ok r → G) → G
choose G true x y r e f g = f refl e
choose G false x y r e f g = g e

pub both : (a b : Bool) → (a && b) ≡ true → (a ≡ true) × (b ≡ true)
both true b e = (refl, e)
both false b e = cc e

pub each_zip : {A B F : Type 0} (f : A → Result B F) (R : A → B → Type 0) → ((x : A) (y : B) → f x ≡ Ok y → R x y) → (xs : List A) (ys : List B) → each f xs ≡ Ok ys → AllZip R xs ys
each_zip f R h [] ys e = subst (AllZip R []) (ok_is [] ys e) tt
each_zip f R h (x ∷ xs) ys e =
    let first = bound (f x) (λ y. (each f xs >>= λ zs. Ok (y ∷ zs))) ys e in
    let rest = bound (each f xs) (λ zs. Ok (first.0 ∷ zs)) ys first.2 in
    subst (AllZip R (x ∷ xs)) (ok_is (first.0 ∷ rest.0) ys rest.2) (h x first.0 first.1, each_zip f R h xs rest.0 rest.1)

pub zip_each : {A B F : Type 0} (f : A → Result B F) (R : A → B → Type 0) → ((x : A) (y : B) → R x y → f x ≡ Ok y) → (xs : List A) (ys : List B) → AllZip R xs ys → each f xs ≡ Ok ys
zip_each f R h [] [] z = refl
zip_each f R h [] (y ∷ ys) z = absurd z
zip_each f R h (x ∷ xs) [] z = absurd z
zip_each f R h (x ∷ xs) (y ∷ ys) z = rw (h x y z.0, zip_each f R h xs ys z.1) refl

-- ---- values

pub text_of_is : (d : Data) (s : List ℕ) → text_of d ≡ Ok s → d ≡ string s
text_of_is null s e = cc e
text_of_is (boolean b) s e = cc e
text_of_is (number n) s e = cc e
text_of_is (string t) s e = let same : t ≡ s = cc e in ap string same
text_of_is (array ds) s e = cc e
text_of_is (object ms) s e = cc e

long_of_is : (d : Data) (n : ℕ) → long_of d ≡ Ok n → SaysLong d n
long_of_is d n e = long_is d n (formed (as_long d) n e)

long_of_said : (d : Data) (n : ℕ) → SaysLong d n → long_of d ≡ Ok n
long_of_said d n h = ap or_form (long_said d n h)

pub list_of_is : (d : Data) (ds : List Data) → list_of d ≡ Ok ds → d ≡ list_json ds
list_of_is d ds e = as_list_is d ds (formed (as_list d) ds e)

pub list_of_said : (ds : List Data) → list_of (list_json ds) ≡ Ok ds
list_of_said ds = ap or_form (as_list_said ds)

pub listed : {B : Type 0} (f : Data → Result B FormFault) (R : Data → B → Type 0) → ((d : Data) (y : B) → f d ≡ Ok y → R d y) → (d : Data) (ys : List B)
    → (list_of d >>= each f) ≡ Ok ys → SaysEach R d ys
listed f R h d ys e =
    let items = bound (list_of d) (each f) ys e in
    record { ds = items.0; is = list_of_is d items.0 items.1; said = each_zip f R h items.0 ys items.2 }

pub said_list : {B : Type 0} (f : Data → Result B FormFault) (R : Data → B → Type 0) → ((d : Data) (y : B) → R d y → f d ≡ Ok y) → (d : Data) (ys : List B)
    → SaysEach R d ys → (list_of d >>= each f) ≡ Ok ys
said_list f R h d ys says =
    ap (λ x. list_of x >>= each f) says.is ∙ (ap (λ r. r >>= each f) (list_of_said says.ds) ∙ zip_each f R h says.ds ys says.said)

pub longs_are : (d : Data) (ns : List ℕ) → longs_of d ≡ Ok ns → SaysEach SaysLong d ns
unfolding longs_of
longs_are d ns e = listed long_of SaysLong long_of_is d ns e

pub longs_said : (d : Data) (ns : List ℕ) → SaysEach SaysLong d ns → longs_of d ≡ Ok ns
unfolding longs_of
longs_said d ns h = said_list long_of SaysLong long_of_said d ns h

-- ---- fields

pub field_is : (name : List ℕ) (d x y : Data) → get name d ≡ Some x → field name d ≡ Ok y → x ≡ y
field_is name d x y there e = ok_is {F = FormFault} x y (sym (ap or_form there) ∙ e)

pub field_said : (name : List ℕ) (d x : Data) → get name d ≡ Some x → field name d ≡ Ok x
field_said name d x there = ap or_form there

pub text_in_is : (name : List ℕ) (d x : Data) (s : List ℕ) → get name d ≡ Some x → text_in name d ≡ Ok s → x ≡ string s
unfolding text_in
text_in_is name d x s there e =
    let found = bound (field name d) text_of s e in
    field_is name d x found.0 there found.1 ∙ text_of_is found.0 s found.2

pub text_in_said : (name : List ℕ) (d : Data) (s : List ℕ) → get name d ≡ Some (string s) → text_in name d ≡ Ok s
unfolding text_in
text_in_said name d s there = ap (λ r. r >>= text_of) (field_said name d (string s) there)

pub long_in_is : (name : List ℕ) (d x : Data) (n : ℕ) → get name d ≡ Some x → long_in name d ≡ Ok n → SaysLong x n
unfolding long_in
long_in_is name d x n there e =
    let found = bound (field name d) long_of n e in
    subst (λ v. SaysLong v n) (sym (field_is name d x found.0 there found.1)) (long_of_is found.0 n found.2)

pub long_in_said : (name : List ℕ) (d x : Data) (n : ℕ) → get name d ≡ Some x → SaysLong x n → long_in name d ≡ Ok n
unfolding long_in
long_in_said name d x n there h = ap (λ r. r >>= long_of) (field_said name d x there) ∙ long_of_said x n h

pub only_true : (b : Bool) (u : ⊤) → only_if b ≡ Ok u → b ≡ true
only_true true u e = refl
only_true false u e = cc e

pub word_in_is : (word name : List ℕ) (d x : Data) (u : ⊤) → get name d ≡ Some x → word_in word name d ≡ Ok u → x ≡ string word
unfolding word_in
word_in_is word name d x u there e =
    let found = bound (text_in name d) (λ it. only_if (bytes_eq it word)) u e in
    text_in_is name d x found.0 there found.1 ∙ ap string (same_text found.0 word (only_true (bytes_eq found.0 word) u found.2))

pub word_in_said : (word name : List ℕ) (d : Data) → get name d ≡ Some (string word) → word_in word name d ≡ Ok tt
unfolding word_in
word_in_said word name d there = ap (λ r. r >>= λ it. only_if (bytes_eq it word)) (text_in_said name d word there) ∙ ap only_if (text_itself word)

-- ---- keys

no_key : (ms : Members) → keys_are [] ms ≡ true → ms ≡ no_members
no_key no_members e = refl
no_key (member k d more) e = cc e

a_key : (name : List ℕ) (names : List (List ℕ)) (ms : Members) → keys_are (name ∷ names) ms ≡ true
    → (x : Data) × (more : Members) × (ms ≡ member name x more) × (keys_are names more ≡ true)
a_key name names no_members e = cc e
a_key name names (member k x more) e =
    let two = both (bytes_eq k name) (keys_are names more) e in
    (x, more, ap (λ it. member it x more) (same_text k name two.0), two.1)

pub keys_1 : (a : List ℕ) (ms : Members) → keys_are (a ∷ []) ms ≡ true → (x : Data) × (ms ≡ member a x no_members)
keys_1 a ms e = let k = a_key a [] ms e in (k.0, k.2 ∙ ap (member a k.0) (no_key k.1 k.3))

pub keys_2 : (n0 n1 : List ℕ) (ms : Members) → keys_are (n0 ∷ n1 ∷ []) ms ≡ true
    → (x0 : Data) × (x1 : Data) × (ms ≡ member n0 x0 (member n1 x1 no_members))
keys_2 n0 n1 ms e =
    let k = a_key n0 (n1 ∷ []) ms e in
    let r = keys_1 n1 k.1 k.3 in
    (k.0, r.0, k.2 ∙ ap (member n0 k.0) r.1)

pub keys_3 : (n0 n1 n2 : List ℕ) (ms : Members) → keys_are (n0 ∷ n1 ∷ n2 ∷ []) ms ≡ true
    → (x0 : Data) × (x1 : Data) × (x2 : Data) × (ms ≡ member n0 x0 (member n1 x1 (member n2 x2 no_members)))
keys_3 n0 n1 n2 ms e =
    let k = a_key n0 (n1 ∷ n2 ∷ []) ms e in
    let r = keys_2 n1 n2 k.1 k.3 in
    (k.0, r.0, r.1, k.2 ∙ ap (member n0 k.0) r.2)

pub keys_4 : (n0 n1 n2 n3 : List ℕ) (ms : Members) → keys_are (n0 ∷ n1 ∷ n2 ∷ n3 ∷ []) ms ≡ true
    → (x0 : Data) × (x1 : Data) × (x2 : Data) × (x3 : Data) × (ms ≡ member n0 x0 (member n1 x1 (member n2 x2 (member n3 x3 no_members))))
keys_4 n0 n1 n2 n3 ms e =
    let k = a_key n0 (n1 ∷ n2 ∷ n3 ∷ []) ms e in
    let r = keys_3 n1 n2 n3 k.1 k.3 in
    (k.0, r.0, r.1, r.2, k.2 ∙ ap (member n0 k.0) r.3)

pub keys_5 : (n0 n1 n2 n3 n4 : List ℕ) (ms : Members) → keys_are (n0 ∷ n1 ∷ n2 ∷ n3 ∷ n4 ∷ []) ms ≡ true
    → (x0 : Data) × (x1 : Data) × (x2 : Data) × (x3 : Data) × (x4 : Data) × (ms ≡ member n0 x0 (member n1 x1 (member n2 x2 (member n3 x3 (member n4 x4 no_members)))))
keys_5 n0 n1 n2 n3 n4 ms e =
    let k = a_key n0 (n1 ∷ n2 ∷ n3 ∷ n4 ∷ []) ms e in
    let r = keys_4 n1 n2 n3 n4 k.1 k.3 in
    (k.0, r.0, r.1, r.2, r.3, k.2 ∙ ap (member n0 k.0) r.4)

pub keys_6 : (n0 n1 n2 n3 n4 n5 : List ℕ) (ms : Members) → keys_are (n0 ∷ n1 ∷ n2 ∷ n3 ∷ n4 ∷ n5 ∷ []) ms ≡ true
    → (x0 : Data) × (x1 : Data) × (x2 : Data) × (x3 : Data) × (x4 : Data) × (x5 : Data) × (ms ≡ member n0 x0 (member n1 x1 (member n2 x2 (member n3 x3 (member n4 x4 (member n5 x5 no_members))))))
keys_6 n0 n1 n2 n3 n4 n5 ms e =
    let k = a_key n0 (n1 ∷ n2 ∷ n3 ∷ n4 ∷ n5 ∷ []) ms e in
    let r = keys_5 n1 n2 n3 n4 n5 k.1 k.3 in
    (k.0, r.0, r.1, r.2, r.3, r.4, k.2 ∙ ap (member n0 k.0) r.5)

pub keys_7 : (n0 n1 n2 n3 n4 n5 n6 : List ℕ) (ms : Members) → keys_are (n0 ∷ n1 ∷ n2 ∷ n3 ∷ n4 ∷ n5 ∷ n6 ∷ []) ms ≡ true
    → (x0 : Data) × (x1 : Data) × (x2 : Data) × (x3 : Data) × (x4 : Data) × (x5 : Data) × (x6 : Data) × (ms ≡ member n0 x0 (member n1 x1 (member n2 x2 (member n3 x3 (member n4 x4 (member n5 x5 (member n6 x6 no_members)))))))
keys_7 n0 n1 n2 n3 n4 n5 n6 ms e =
    let k = a_key n0 (n1 ∷ n2 ∷ n3 ∷ n4 ∷ n5 ∷ n6 ∷ []) ms e in
    let r = keys_6 n1 n2 n3 n4 n5 n6 k.1 k.3 in
    (k.0, r.0, r.1, r.2, r.3, r.4, r.5, k.2 ∙ ap (member n0 k.0) r.6)
