-- A JSON value is told rows exactly where it spells them.
use Rattle.std.proofs.Common.{◌≡◌, ◌∙◌, ◌&&◌, ℕ, ℤ, List, [], ◌∷◌, Bool, true, false, cond, codes, Option, Some, None, Result, Ok, Err, refl, ap, subst}
use Rattle.std.specs.Str.{bytes_eq}
use Rattle.std.proofs.lemmas.Slice.Eq.{bytes_eq-Decides}
use Rattle.serde_json.specs.Data.{Data, Num, unsigned, negative, float, null, boolean, number, string, array, object, Items, no_items, item, Members, no_members, member}
use Rattle.serde_json.specs.Find.{as_array, as_i64}
use Rattle.ba_model.specs.Readings.{◌>>=◌}
use Rattle.ba_model.specs.declared.value.Value.{Value}
use Rattle.ba_model.specs.declared.value.Value.TheVariants.{Null, Int, Text}
use Rattle.ba_event.specs.Events.{SpellEach, SpellsEvent, SpellsRow, SpellsRows, SpellsValue, each_item, number_at, number_value, or_shape, row_at, rows_at, told_at, told_form, value_at}
use Rattle.ba_event.specs.declared.event.Event.{Event}
use Rattle.ba_event.specs.declared.event.Event.TheVariants.{Told}
use Rattle.ba_event.specs.declared.event.EventFault.{EventFault}
use Rattle.ba_event.specs.declared.event.EventFault.TheVariants.{Json, Shape}

bound : {A B : Type 0} (r : Result A EventFault) (f : A → Result B EventFault) (y : B) → (r >>= f) ≡ Ok y → (x : A) × (r ≡ Ok x) × (f x ≡ Ok y)
bound (Ok x) f y e = (x, refl, e)
bound (Err r) f y e = cc e

ok_is : {A : Type 0} (x y : A) → ◌≡◌ {A = Result A EventFault} (Ok x) (Ok y) → x ≡ y
ok_is x y e = cc e

same_text : (k l : List ℕ) → bytes_eq k l ≡ true → k ≡ l
same_text k l e = (bytes_eq-Decides k l).0 e

both : (a b : Bool) → (a && b) ≡ true → (a ≡ true) × (b ≡ true)
both true b e = (refl, e)
both false b e = cc e

-- ---- values

whole_is : (n : Num) (v : Value) (o : Option ℤ) → as_i64 n ≡ o → number_value o ≡ Ok v → SpellsValue (number n) v
whole_is n v (Some z) is e = subst (SpellsValue (number n)) (ok_is (Int z) v e) (n, refl, is)
whole_is n v None is e = cc e

value_is : (d : Data) (v : Value) → value_at d ≡ Ok v → SpellsValue d v
unfolding value_at
value_is null v e = subst (SpellsValue null) (ok_is Null v e) refl
value_is (boolean b) v e = cc e
value_is (number n) v e = whole_is n v (as_i64 n) refl e
value_is (string s) v e = subst (SpellsValue (string s)) (ok_is (Text s) v e) refl
value_is (array ds) v e = cc e
value_is (object ms) v e = cc e

value_said : (d : Data) (v : Value) → SpellsValue d v → value_at d ≡ Ok v
unfolding value_at
value_said d Null h = ap value_at h
value_said d (Int n) h = ap value_at h.1 ∙ ap number_value h.2
value_said d (Text s) h = ap value_at h

-- ---- arrays

each_is : {A : Type 0} (f : Data → Result A EventFault) (Spell : Data → A → Type 0) → ((d : Data) (x : A) → f d ≡ Ok x → Spell d x) → (ds : Items) (xs : List A) → each_item f ds ≡ Ok xs → SpellEach Spell ds xs
each_is f Spell one no_items [] e = tt
each_is f Spell one no_items (x ∷ xs) e = cc e
each_is {A} f Spell one (item d ds) xs e =
    let first = bound (f d) (λ x. each_item f ds >>= λ ys. Ok (x ∷ ys)) xs e in
    let rest = bound (each_item f ds) (λ ys. Ok (first.0 ∷ ys)) xs first.2 in
    subst (SpellEach Spell (item d ds)) (ok_is (first.0 ∷ rest.0) xs rest.2) (one d first.0 first.1, each_is f Spell one ds rest.0 rest.1)

each_said : {A : Type 0} (f : Data → Result A EventFault) (Spell : Data → A → Type 0) → ((d : Data) (x : A) → Spell d x → f d ≡ Ok x) → (ds : Items) (xs : List A) → SpellEach Spell ds xs → each_item f ds ≡ Ok xs
each_said f Spell one no_items [] h = refl
each_said f Spell one no_items (x ∷ xs) h = absurd h
each_said f Spell one (item d ds) [] h = absurd h
each_said f Spell one (item d ds) (x ∷ xs) h = rw (one d x h.0, each_said f Spell one ds xs h.1) refl

array_is : (d : Data) (ds : Items) → or_shape (as_array d) ≡ Ok ds → d ≡ array ds
array_is null ds e = cc e
array_is (boolean b) ds e = cc e
array_is (number n) ds e = cc e
array_is (string s) ds e = cc e
array_is (array it) ds e = ap array (ok_is it ds e)
array_is (object ms) ds e = cc e

row_is : (d : Data) (row : List Value) → row_at d ≡ Ok row → SpellsRow d row
unfolding row_at
row_is d row e =
    let items = bound (or_shape (as_array d)) (each_item value_at) row e in
    (items.0, array_is d items.0 items.1, each_is value_at SpellsValue value_is items.0 row items.2)

row_said : (d : Data) (row : List Value) → SpellsRow d row → row_at d ≡ Ok row
unfolding row_at
row_said d row h = ap row_at h.1 ∙ each_said value_at SpellsValue value_said h.0 row h.2

rows_are : (d : Data) (rows : List (List Value)) → rows_at d ≡ Ok rows → SpellsRows d rows
unfolding rows_at
rows_are d rows e =
    let items = bound (or_shape (as_array d)) (each_item row_at) rows e in
    (items.0, array_is d items.0 items.1, each_is row_at SpellsRow row_is items.0 rows items.2)

rows_said : (d : Data) (rows : List (List Value)) → SpellsRows d rows → rows_at d ≡ Ok rows
unfolding rows_at
rows_said d rows h = ap rows_at h.1 ∙ each_said row_at SpellsRow row_said h.0 rows h.2

-- ---- told rows

number_is : (d : Data) (n : ℕ) → number_at d ≡ Ok n → d ≡ number (unsigned n)
number_is null n e = cc e
number_is (boolean b) n e = cc e
number_is (number (unsigned m)) n e = ap (λ it. number (unsigned it)) (ok_is m n e)
number_is (number (negative z)) n e = cc e
number_is (number (float x)) n e = cc e
number_is (string s) n e = cc e
number_is (array ds) n e = cc e
number_is (object ms) n e = cc e

two_keys : (k l : List ℕ) (d e f : Data) → k ≡ codes "rows" → l ≡ codes "told" → e ≡ f → object (member k d (member l e no_members)) ≡ object (member (codes "rows") d (member (codes "told") f no_members))
two_keys k l d e f a b h = rw (a, b, h) refl

form_is : (k l : List ℕ) (d e : Data) (it : Event) (b : Bool) → (bytes_eq k (codes "rows") && bytes_eq l (codes "told")) ≡ b
    → cond b (number_at e >>= λ line. rows_at d >>= λ rows. Ok (Told line rows)) (Err Shape) ≡ Ok it → SpellsEvent (object (member k d (member l e no_members))) it
form_is k l d e it true t h =
    let keys = both (bytes_eq k (codes "rows")) (bytes_eq l (codes "told")) t in
    let line = bound (number_at e) (λ n. rows_at d >>= λ rows. Ok (Told n rows)) it h in
    let rows = bound (rows_at d) (λ rows. Ok (Told line.0 rows)) it line.2 in
    subst (SpellsEvent (object (member k d (member l e no_members)))) (ok_is (Told line.0 rows.0) it rows.2)
    (d, rows_are d rows.0 rows.1, two_keys k l d e (number (unsigned line.0)) (same_text k (codes "rows") keys.0) (same_text l (codes "told") keys.1) (number_is e line.0 line.1))
form_is k l d e it false t h = cc h

members_are : (ms : Members) (it : Event) → told_form ms ≡ Ok it → SpellsEvent (object ms) it
members_are no_members it h = cc h
members_are (member k d no_members) it h = cc h
members_are (member k d (member l e no_members)) it h = form_is k l d e it (bytes_eq k (codes "rows") && bytes_eq l (codes "told")) refl h
members_are (member k d (member l e (member m f more))) it h = cc h

pub told_is : (d : Data) (it : Event) → told_at d ≡ Ok it → SpellsEvent d it
told_is null it e = cc e
told_is (boolean b) it e = cc e
told_is (number n) it e = cc e
told_is (string s) it e = cc e
told_is (array ds) it e = cc e
told_is (object ms) it e = members_are ms it e

pub told_said : (d : Data) (n : ℕ) (rows : List (List Value)) → SpellsEvent d (Told n rows) → told_at d ≡ Ok (Told n rows)
told_said d n rows h = ap told_at h.2 ∙ ap (λ (r : Result (List (List Value)) EventFault). r >>= λ it. Ok (Told n it)) (rows_said h.0 rows h.1)

-- ---- a JSON value that isn't told rows lacks their shape

abbrev NoJson : {A : Type 0} → Result A EventFault → Type 0
NoJson r = r ≡ Err Json → ⊥

bind_no : {A B : Type 0} (r : Result A EventFault) (f : A → Result B EventFault) → NoJson r → ((x : A) → NoJson (f x)) → NoJson (r >>= f)
bind_no (Ok x) f first rest = rest x
bind_no (Err Json) f first rest = λ e. first refl
bind_no (Err Shape) f first rest = λ e. cc e

cond_no : {A : Type 0} (b : Bool) (x y : Result A EventFault) → NoJson x → NoJson y → NoJson (cond b x y)
cond_no true x y left right = left
cond_no false x y left right = right

or_no : {A : Type 0} (o : Option A) → NoJson (or_shape o)
or_no None e = cc e
or_no (Some x) e = cc e

whole_no : (o : Option ℤ) → NoJson (number_value o)
whole_no None e = cc e
whole_no (Some n) e = cc e

value_no : (d : Data) → NoJson (value_at d)
unfolding value_at
value_no null e = cc e
value_no (boolean b) e = cc e
value_no (number n) e = whole_no (as_i64 n) e
value_no (string s) e = cc e
value_no (array ds) e = cc e
value_no (object ms) e = cc e

each_no : {A : Type 0} (f : Data → Result A EventFault) → ((d : Data) → NoJson (f d)) → (ds : Items) → NoJson (each_item f ds)
each_no f one no_items e = cc e
each_no f one (item d ds) e =
    bind_no (f d) (λ x. each_item f ds >>= λ xs. Ok (x ∷ xs)) (one d) (λ x. bind_no (each_item f ds) (λ xs. Ok (x ∷ xs)) (each_no f one ds) (λ xs h. cc h)) e

row_no : (d : Data) → NoJson (row_at d)
unfolding row_at
row_no d = bind_no (or_shape (as_array d)) (each_item value_at) (or_no (as_array d)) (each_no value_at value_no)

rows_no : (d : Data) → NoJson (rows_at d)
unfolding rows_at
rows_no d = bind_no (or_shape (as_array d)) (each_item row_at) (or_no (as_array d)) (each_no row_at row_no)

form_no : (ms : Members) → NoJson (told_form ms)
form_no no_members h = cc h
form_no (member k d no_members) h = cc h
form_no (member k d (member l e no_members)) h =
    cond_no (bytes_eq k (codes "rows") && bytes_eq l (codes "told")) (number_at e >>= λ line. rows_at d >>= λ rows. Ok (Told line rows)) (Err Shape)
    (bind_no (number_at e) (λ line. rows_at d >>= λ rows. Ok (Told line rows)) (or_no _) (λ line. bind_no (rows_at d) (λ rows. Ok (Told line rows)) (rows_no d) (λ rows g. cc g)))
    (λ g. cc g) h
form_no (member k d (member l e (member m f more))) h = cc h

pub told_not : (d : Data) → NoJson (told_at d)
told_not null e = cc e
told_not (boolean b) e = cc e
told_not (number n) e = cc e
told_not (string s) e = cc e
told_not (array ds) e = cc e
told_not (object ms) e = form_no ms e
