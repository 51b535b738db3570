-- A value reads as a line exactly where it spells it.
use Rattle.std.proofs.Common.{◌≡◌, ◌∙◌, ℕ, ◌<◌, ◌≤◌, List, Bool, true, false, cond, ◌&&◌, nat_lt, nat_le, length, codes, Result, Ok, Err, refl, sym, ap, subst}
use Rattle.std.specs.Str.{bytes_eq}
use Rattle.std.proofs.lemmas.Bool.{ltb-true, leb-true, lt-ltb, le-leb}
use Rattle.std.proofs.lemmas.Slice.Eq.{bytes_eq-Decides}
use Rattle.serde_json.specs.Data.{Data, null, boolean, number, string, array, object, Members, no_members, member}
use Rattle.ba_model.specs.Readings.{◌>>=◌}
use Rattle.ba_model.specs.Limits.{most_name_bytes}
use Rattle.ba_script.specs.declared.line.Member.{Member}
use Rattle.ba_script.specs.declared.line.ScriptLine.{ScriptLine}
use Rattle.ba_script.specs.declared.line.ScriptLine.TheVariants.{Begin, Ask, Read, End, Publish}
use Rattle.ba_script.specs.declared.fault.LineFault.{LineFault}
use Rattle.ba_script.specs.declared.fault.LineFault.TheVariants.{Json, Shape}
use Rattle.ba_script.specs.Script.{IsName, Spells, context_at, form_at, given_members, if_name, if_some, line_at, name_at, one_at, set_at, text_at, three_at, two_at}

bind_ok : {A B : Type 0} (r : Result A LineFault) (f : A → Result B LineFault) (y : B) → (r >>= f) ≡ Ok y → (x : A) × (r ≡ Ok x) × (f x ≡ Ok y)
bind_ok (Ok x) f y e = (x, refl, e)
bind_ok (Err r) f y e = cc e

same_text : (k l : List ℕ) → bytes_eq k l ≡ true → k ≡ l
same_text k l e = (bytes_eq-Decides k l).0 e

both : (a b : Bool) → (a && b) ≡ true → (a ≡ true) × (b ≡ true)
both true b e = (refl, e)
both false b e = cc e

-- ---- texts and names

text_is : (d : Data) (s : List ℕ) → text_at d ≡ Ok s → d ≡ string s
text_is null s e = cc e
text_is (boolean b) s e = cc e
text_is (number n) s e = cc e
text_is (string t) s e = let same : t ≡ s = cc e in ap string same
text_is (array ds) s e = cc e
text_is (object ms) s e = cc e

kept : (b : Bool) (s n : List ℕ) → ◌≡◌ {A = Result (List ℕ) LineFault} (cond b (Ok s) (Err Shape)) (Ok n) → (b ≡ true) × (s ≡ n)
kept true s n e = (refl, cc e)
kept false s n e = cc e

name_is : (d : Data) (n : List ℕ) → name_at d ≡ Ok n → IsName n × (d ≡ string n)
unfolding name_at
name_is d n e =
    let found = bind_ok (text_at d) if_name n e in
    let fits = kept (nat_lt 0 (length found.0) && nat_le (length found.0) most_name_bytes) found.0 n found.2 in
    let bounds = both (nat_lt 0 (length found.0)) (nat_le (length found.0) most_name_bytes) fits.0 in
    let least : 0 < length n = subst (λ (s : List ℕ). 0 < length s) fits.1 (ltb-true 0 (length found.0) bounds.0) in
    let most : length n ≤ most_name_bytes = subst (λ (s : List ℕ). length s ≤ most_name_bytes) fits.1 (leb-true (length found.0) most_name_bytes bounds.1) in
    (record { least = least; most = most }, text_is d found.0 found.1 ∙ ap string fits.1)

name_reads : (n : List ℕ) → IsName n → name_at (string n) ≡ Ok n
unfolding name_at
name_reads n h =
    let least : nat_lt 0 (length n) ≡ true = lt-ltb 0 (length n) h.least in
    let most : nat_le (length n) most_name_bytes ≡ true = le-leb (length n) most_name_bytes h.most in
    rw (least, most) refl

-- ---- the names of table sets

set_is : (d : Data) (s : List ℕ) → set_at d ≡ Ok s → (0 < length s) × (d ≡ string s)
unfolding set_at
set_is d s e =
    let found = bind_ok (text_at d) if_some s e in
    let some = kept (nat_lt 0 (length found.0)) found.0 s found.2 in
    (subst (λ (t : List ℕ). 0 < length t) some.1 (ltb-true 0 (length found.0) some.0), text_is d found.0 found.1 ∙ ap string some.1)

set_reads : (s : List ℕ) → 0 < length s → set_at (string s) ≡ Ok s
unfolding set_at
set_reads s h = ap (λ b. cond b (Ok s) (Err Shape)) (lt-ltb 0 (length s) h)

-- ---- contexts

context_is : (d : Data) (context : List Member) → context_at d ≡ Ok context → (members : Members) × (context ≡ given_members members) × (d ≡ object members)
context_is null context e = cc e
context_is (boolean b) context e = cc e
context_is (number n) context e = cc e
context_is (string t) context e = cc e
context_is (array ds) context e = cc e
context_is (object ms) context e = (ms, cc e, refl)

-- ---- what is read is spelled

one_key : (k l : List ℕ) (d e : Data) → k ≡ l → d ≡ e → object (member k d no_members) ≡ object (member l e no_members)
one_key k l d e a b = rw (a, b) refl

two_keys : (k l : List ℕ) (d e : Data) (m n : List ℕ) (f g : Data) → k ≡ l → d ≡ e → m ≡ n → f ≡ g
    → object (member k d (member m f no_members)) ≡ object (member l e (member n g no_members))
two_keys k l d e m n f g a b h i = rw (a, b, h, i) refl

end_is : (k : List ℕ) (d : Data) (it : ScriptLine) → k ≡ codes "end" → (name_at d >>= λ name. Ok (End name)) ≡ Ok it → Spells (object (member k d no_members)) it
end_is k d it key e =
    let found = bind_ok (name_at d) (λ name. Ok (End name)) it e in
    let name = name_is d found.0 found.1 in
    let form : End found.0 ≡ it = cc found.2 in
    subst (Spells (object (member k d no_members))) form (name.0, one_key k (codes "end") d (string found.0) key name.1)

ask_is : (k l : List ℕ) (d e : Data) (it : ScriptLine) → k ≡ codes "ask" → l ≡ codes "query" → (name_at d >>= λ name. text_at e >>= λ query. Ok (Ask name query)) ≡ Ok it
    → Spells (object (member k d (member l e no_members))) it
ask_is k l d e it key other h =
    let found = bind_ok (name_at d) (λ name. text_at e >>= λ query. Ok (Ask name query)) it h in
    let query = bind_ok (text_at e) (λ query. Ok (Ask found.0 query)) it found.2 in
    let name = name_is d found.0 found.1 in
    let form : Ask found.0 query.0 ≡ it = cc query.2 in
    subst (Spells (object (member k d (member l e no_members)))) form
    (name.0, two_keys k (codes "ask") d (string found.0) l (codes "query") e (string query.0) key name.1 other (text_is e query.0 query.1))

begin_is : (k l : List ℕ) (d e : Data) (it : ScriptLine) → k ≡ codes "begin" → l ≡ codes "context" → (name_at d >>= λ name. context_at e >>= λ context. Ok (Begin name context)) ≡ Ok it
    → Spells (object (member k d (member l e no_members))) it
begin_is k l d e it key other h =
    let found = bind_ok (name_at d) (λ name. context_at e >>= λ context. Ok (Begin name context)) it h in
    let given = bind_ok (context_at e) (λ context. Ok (Begin found.0 context)) it found.2 in
    let name = name_is d found.0 found.1 in
    let context = context_is e given.0 given.1 in
    let form : Begin found.0 given.0 ≡ it = cc given.2 in
    subst (Spells (object (member k d (member l e no_members)))) form
    (name.0, (context.0, context.1, two_keys k (codes "begin") d (string found.0) l (codes "context") e (object context.0) key name.1 other context.2))

three_keys : (k l : List ℕ) (d e : Data) (m n : List ℕ) (f g : Data) (o p : List ℕ) (h i : Data) → k ≡ l → d ≡ e → m ≡ n → f ≡ g → o ≡ p → h ≡ i
    → object (member k d (member m f (member o h no_members))) ≡ object (member l e (member n g (member p i no_members)))
three_keys k l d e m n f g o p h i a b c x y z = rw (a, b, c, x, y, z) refl

read_is : (k l m : List ℕ) (d e f : Data) (it : ScriptLine) → k ≡ codes "args" → l ≡ codes "key" → m ≡ codes "read" → (context_at d >>= λ args. text_at e >>= λ key. name_at f >>= λ name. Ok (Read name key args)) ≡ Ok it
    → Spells (object (member k d (member l e (member m f no_members)))) it
read_is k l m d e f it first second third h =
    let args = bind_ok (context_at d) (λ args. text_at e >>= λ key. name_at f >>= λ name. Ok (Read name key args)) it h in
    let key = bind_ok (text_at e) (λ key. name_at f >>= λ name. Ok (Read name key args.0)) it args.2 in
    let found = bind_ok (name_at f) (λ name. Ok (Read name key.0 args.0)) it key.2 in
    let context = context_is d args.0 args.1 in
    let name = name_is f found.0 found.1 in
    let form : Read found.0 key.0 args.0 ≡ it = cc found.2 in
    subst (Spells (object (member k d (member l e (member m f no_members))))) form
    (name.0, (context.0, context.1, three_keys k (codes "args") d (object context.0) l (codes "key") e (string key.0) m (codes "read") f (string found.0) first context.2 second (text_is e key.0 key.1) third name.1))

publish_is : (k : List ℕ) (d : Data) (it : ScriptLine) → k ≡ codes "publish" → (set_at d >>= λ set. Ok (Publish set)) ≡ Ok it → Spells (object (member k d no_members)) it
publish_is k d it key e =
    let found = bind_ok (set_at d) (λ set. Ok (Publish set)) it e in
    let set = set_is d found.0 found.1 in
    let form : Publish found.0 ≡ it = cc found.2 in
    subst (Spells (object (member k d no_members))) form (set.0, one_key k (codes "publish") d (string found.0) key set.1)

publish_or_none : (k : List ℕ) (d : Data) (it : ScriptLine) (b : Bool) → bytes_eq k (codes "publish") ≡ b → cond b (set_at d >>= λ set. Ok (Publish set)) (Err Shape) ≡ Ok it
    → Spells (object (member k d no_members)) it
publish_or_none k d it true t e = publish_is k d it (same_text _ _ t) e
publish_or_none k d it false t e = cc e

one_is : (k : List ℕ) (d : Data) (it : ScriptLine) → one_at k d ≡ Ok it → Spells (object (member k d no_members)) it
unfolding one_at
one_is k d it e = by (bytes_eq k (codes "end")) refl e
  where
    by : (b : Bool) → bytes_eq k (codes "end") ≡ b
        → cond b (name_at d >>= λ name. Ok (End name)) (cond (bytes_eq k (codes "publish")) (set_at d >>= λ set. Ok (Publish set)) (Err Shape)) ≡ Ok it
        → Spells (object (member k d no_members)) it
    by true t e = end_is k d it (same_text _ _ t) e
    by false t e = publish_or_none k d it (bytes_eq k (codes "publish")) refl e

begin_or_none : (k l : List ℕ) (d e : Data) (it : ScriptLine) (b : Bool) → (bytes_eq k (codes "begin") && bytes_eq l (codes "context")) ≡ b
    → cond b (name_at d >>= λ name. context_at e >>= λ context. Ok (Begin name context)) (Err Shape) ≡ Ok it → Spells (object (member k d (member l e no_members))) it
begin_or_none k l d e it true t h = let keys = both _ _ t in begin_is k l d e it (same_text _ _ keys.0) (same_text _ _ keys.1) h
begin_or_none k l d e it false t h = cc h

two_is : (k : List ℕ) (d : Data) (l : List ℕ) (e : Data) (it : ScriptLine) → two_at k d l e ≡ Ok it → Spells (object (member k d (member l e no_members))) it
unfolding two_at
two_is k d l e it h = by (bytes_eq k (codes "ask") && bytes_eq l (codes "query")) refl h
  where
    by : (b : Bool) → (bytes_eq k (codes "ask") && bytes_eq l (codes "query")) ≡ b
        → cond b (name_at d >>= λ name. text_at e >>= λ query. Ok (Ask name query))
        (cond (bytes_eq k (codes "begin") && bytes_eq l (codes "context")) (name_at d >>= λ name. context_at e >>= λ context. Ok (Begin name context)) (Err Shape)) ≡ Ok it
        → Spells (object (member k d (member l e no_members))) it
    by true t h = let keys = both _ _ t in ask_is k l d e it (same_text _ _ keys.0) (same_text _ _ keys.1) h
    by false t h = begin_or_none k l d e it (bytes_eq k (codes "begin") && bytes_eq l (codes "context")) refl h

three_is : (k : List ℕ) (d : Data) (l : List ℕ) (e : Data) (m : List ℕ) (f : Data) (it : ScriptLine) → three_at k d l e m f ≡ Ok it → Spells (object (member k d (member l e (member m f no_members)))) it
unfolding three_at
three_is k d l e m f it h = by (bytes_eq k (codes "args") && (bytes_eq l (codes "key") && bytes_eq m (codes "read"))) refl h
  where
    by : (b : Bool) → (bytes_eq k (codes "args") && (bytes_eq l (codes "key") && bytes_eq m (codes "read"))) ≡ b
        → cond b (context_at d >>= λ args. text_at e >>= λ key. name_at f >>= λ name. Ok (Read name key args)) (Err Shape) ≡ Ok it
        → Spells (object (member k d (member l e (member m f no_members)))) it
    by true t h =
        let keys = both (bytes_eq k (codes "args")) (bytes_eq l (codes "key") && bytes_eq m (codes "read")) t in
        let more = both (bytes_eq l (codes "key")) (bytes_eq m (codes "read")) keys.1 in
        read_is k l m d e f it (same_text _ _ keys.0) (same_text _ _ more.0) (same_text _ _ more.1) h
    by false t h = cc h

members_are : (ms : Members) (it : ScriptLine) → form_at ms ≡ Ok it → Spells (object ms) it
members_are no_members it e = cc e
members_are (member k d no_members) it e = one_is k d it e
members_are (member k d (member l e no_members)) it h = two_is k d l e it h
members_are (member k d (member l e (member m f no_members))) it h = three_is k d l e m f it h
members_are (member k d (member l e (member m f (member o g more)))) it h = cc h

pub line_is : (d : Data) (it : ScriptLine) → line_at d ≡ Ok it → Spells d it
line_is null it e = cc e
line_is (boolean b) it e = cc e
line_is (number n) it e = cc e
line_is (string s) it e = cc e
line_is (array ds) it e = cc e
line_is (object ms) it e = members_are ms it e

-- ---- what is spelled is read

pub spelled : (d : Data) (it : ScriptLine) → Spells d it → line_at d ≡ Ok it
unfolding one_at three_at two_at
spelled d (Begin name context) h =
    ap line_at h.1.2 ∙ ap (λ (r : Result (List ℕ) LineFault). r >>= λ n. Ok (Begin n (given_members h.1.0))) (name_reads name h.0) ∙ ap (λ (c : List Member). Ok (Begin name c)) (sym h.1.1)
spelled d (Ask name query) h = ap line_at h.1 ∙ ap (λ (r : Result (List ℕ) LineFault). r >>= λ n. Ok (Ask n query)) (name_reads name h.0)
spelled d (Read name key args) h =
    ap line_at h.1.2 ∙ ap (λ (r : Result (List ℕ) LineFault). r >>= λ n. Ok (Read n key (given_members h.1.0))) (name_reads name h.0) ∙ ap (λ (c : List Member). Ok (Read name key c)) (sym h.1.1)
spelled d (End name) h = ap line_at h.1 ∙ ap (λ (r : Result (List ℕ) LineFault). r >>= λ n. Ok (End n)) (name_reads name h.0)
spelled d (Publish set) h = ap line_at h.1 ∙ ap (λ (r : Result (List ℕ) LineFault). r >>= λ s. Ok (Publish s)) (set_reads set h.0)

-- ---- a JSON value that isn't a line lacks the shape of one

abbrev OnlyShape : {A : Type 0} → Result A LineFault → Type 0
OnlyShape r = (f : LineFault) → r ≡ Err f → f ≡ Shape

bind_shape : {A B : Type 0} (r : Result A LineFault) (f : A → Result B LineFault) → OnlyShape r → ((x : A) → OnlyShape (f x)) → OnlyShape (r >>= f)
bind_shape (Ok x) f first rest = rest x
bind_shape (Err r) f first rest = λ g e. (let same : r ≡ g = cc e in sym same ∙ first r refl)

cond_shape : {A : Type 0} (b : Bool) (x y : Result A LineFault) → OnlyShape x → OnlyShape y → OnlyShape (cond b x y)
cond_shape true x y left right = left
cond_shape false x y left right = right

text_shape : (d : Data) → OnlyShape (text_at d)
text_shape null f e = cc e
text_shape (boolean b) f e = cc e
text_shape (number n) f e = cc e
text_shape (string s) f e = cc e
text_shape (array ds) f e = cc e
text_shape (object ms) f e = cc e

name_shape : (d : Data) → OnlyShape (name_at d)
unfolding name_at
name_shape d = bind_shape (text_at d) if_name (text_shape d) (λ s. cond_shape (nat_lt 0 (length s) && nat_le (length s) most_name_bytes) (Ok s) (Err Shape) (λ f e. cc e) (λ f e. cc e))

set_shape : (d : Data) → OnlyShape (set_at d)
unfolding set_at
set_shape d = bind_shape (text_at d) if_some (text_shape d) (λ s. cond_shape (nat_lt 0 (length s)) (Ok s) (Err Shape) (λ f e. cc e) (λ f e. cc e))

context_shape : (d : Data) → OnlyShape (context_at d)
context_shape null f e = cc e
context_shape (boolean b) f e = cc e
context_shape (number n) f e = cc e
context_shape (string s) f e = cc e
context_shape (array ds) f e = cc e
context_shape (object ms) f e = cc e

end_shape : (d : Data) → OnlyShape (name_at d >>= λ name. Ok (End name))
end_shape d = bind_shape (name_at d) (λ name. Ok (End name)) (name_shape d) (λ name f e. cc e)

publish_shape : (d : Data) → OnlyShape (set_at d >>= λ set. Ok (Publish set))
publish_shape d = bind_shape (set_at d) (λ set. Ok (Publish set)) (set_shape d) (λ set f e. cc e)

ask_shape : (d e : Data) → OnlyShape (name_at d >>= λ name. text_at e >>= λ query. Ok (Ask name query))
ask_shape d e = bind_shape (name_at d) (λ name. text_at e >>= λ query. Ok (Ask name query)) (name_shape d)
    (λ name. bind_shape (text_at e) (λ query. Ok (Ask name query)) (text_shape e) (λ query f h. cc h))

begin_shape : (d e : Data) → OnlyShape (name_at d >>= λ name. context_at e >>= λ context. Ok (Begin name context))
begin_shape d e = bind_shape (name_at d) (λ name. context_at e >>= λ context. Ok (Begin name context)) (name_shape d)
    (λ name. bind_shape (context_at e) (λ context. Ok (Begin name context)) (context_shape e) (λ context f h. cc h))

one_shape : (k : List ℕ) (d : Data) → OnlyShape (one_at k d)
unfolding one_at
one_shape k d = cond_shape (bytes_eq k (codes "end")) _ _ (end_shape d) (cond_shape (bytes_eq k (codes "publish")) _ _ (publish_shape d) (λ f e. cc e))

two_shape : (k : List ℕ) (d : Data) (l : List ℕ) (e : Data) → OnlyShape (two_at k d l e)
unfolding two_at
two_shape k d l e = cond_shape (bytes_eq k (codes "ask") && bytes_eq l (codes "query")) _ _ (ask_shape d e)
    (cond_shape (bytes_eq k (codes "begin") && bytes_eq l (codes "context")) _ _ (begin_shape d e) (λ f e. cc e))

read_shape : (d e f : Data) → OnlyShape (context_at d >>= λ args. text_at e >>= λ key. name_at f >>= λ name. Ok (Read name key args))
read_shape d e f = bind_shape (context_at d) (λ args. text_at e >>= λ key. name_at f >>= λ name. Ok (Read name key args)) (context_shape d)
    (λ args. bind_shape (text_at e) (λ key. name_at f >>= λ name. Ok (Read name key args)) (text_shape e)
    (λ key. bind_shape (name_at f) (λ name. Ok (Read name key args)) (name_shape f) (λ name g h. cc h)))

three_shape : (k : List ℕ) (d : Data) (l : List ℕ) (e : Data) (m : List ℕ) (f : Data) → OnlyShape (three_at k d l e m f)
unfolding three_at
three_shape k d l e m f = cond_shape (bytes_eq k (codes "args") && (bytes_eq l (codes "key") && bytes_eq m (codes "read"))) _ _ (read_shape d e f) (λ g h. cc h)

members_shape : (ms : Members) → OnlyShape (form_at ms)
members_shape no_members g e = cc e
members_shape (member k d no_members) g e = one_shape k d g e
members_shape (member k d (member l e no_members)) g h = two_shape k d l e g h
members_shape (member k d (member l e (member m f no_members))) g h = three_shape k d l e m f g h
members_shape (member k d (member l e (member m f (member o i more)))) g h = cc h

pub only_shape : (d : Data) (f : LineFault) → line_at d ≡ Err f → f ≡ Shape
only_shape null f e = cc e
only_shape (boolean b) f e = cc e
only_shape (number n) f e = cc e
only_shape (string s) f e = cc e
only_shape (array ds) f e = cc e
only_shape (object ms) f e = members_shape ms f e

pub line_not : (d : Data) → line_at d ≡ Err Json → ⊥
line_not d e = let wrong : Json ≡ Shape = only_shape d Json e in cc wrong
