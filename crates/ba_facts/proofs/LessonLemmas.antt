-- What one lesson more makes known.
use Rattle.std.proofs.Common.{◌≡◌, pos, ◌⊎◌, inl, inr, List, Contains, Result, Ok, Err, OnOk, refl, sym, ap, ◌∙◌, subst}
use Rattle.std.proofs.lemmas.List.Elements.{Contains-append_left, Contains-push, Contains-push_cases}
use Rattle.ba_model.specs.declared.query.Op.{Op}
use Rattle.ba_model.specs.declared.query.Op.TheVariants.{Eq, Ne, Lt, Le, IsNull, NotNull}
use Rattle.ba_model.specs.declared.value.Value.TheVariants.{Null}
use Rattle.ba_facts.specs.Known.{Known, Equated, same, equal, null, IsComparison, Learned, NotNullTerm, column, literal, param, var, left, right, recorded, at_most, less}
use Rattle.ba_facts.specs.Knowing.{IsThere, LessonIsThere}
use Rattle.ba_facts.specs.Telling.{atom, told}
use Rattle.ba_facts.specs.Webs.{Denies, Extends, Joins, KeepsOrder, Raises}
use Rattle.ba_facts.specs.declared.term.Lesson.{Lesson}
use Rattle.ba_facts.specs.declared.term.Lesson.TheVariants.{Same, Holds}
use Rattle.ba_facts.specs.declared.term.Sort.{Sort}
use Rattle.ba_facts.specs.declared.term.Term.{Term}
use Rattle.ba_facts.specs.declared.term.Term.TheVariants.{Val}
use Rattle.ba_facts.specs.declared.term.TermAtom.{TermAtom}

abbrev parts : Lesson → Op × Term × Term
parts (Same a b) = (Eq, a, b)
parts (Holds it) = (it.op, it.left, it.right)

-- equal comparisons have equal parts
atom_parts : {op p : Op} {a b t u : Term} → atom op a b ≡ atom p t u → (op ≡ p) × (a ≡ t) × (b ≡ u)
atom_parts e = let f = ap parts e in (ap (λ (q : Op × Term × Term). q.0) f, ap (λ (q : Op × Term × Term). q.1) f, ap (λ (q : Op × Term × Term). q.2) f)

was_told : (k : Known) (lesson x : Lesson) → Contains (told k lesson).learned x → Contains k.learned x ⊎ (lesson ≡ x)
was_told k lesson x h = Contains-push_cases k.learned lesson x h

still : (k : Known) (lesson x : Lesson) → Contains k.learned x → Contains (told k lesson).learned x
still k lesson x h = Contains-append_left k.learned _ x h

now : (k : Known) (lesson : Lesson) → Contains (told k lesson).learned lesson
now k lesson = Contains-push k.learned lesson

-- two terms are made equal by the lesson
data Unites (lesson : Lesson) (t u : Term) : Type 0 where
  as_same : lesson ≡ Same t u → Unites lesson t u
  as_equal : lesson ≡ atom Eq t u → Unites lesson t u
  as_null : (v : Term) → lesson ≡ atom IsNull t v → u ≡ Val Null → Unites lesson t u

equated_still : (k : Known) (lesson : Lesson) {t u : Term} → Equated k t u → Equated (told k lesson) t u
equated_still k lesson (same h) = same (still k lesson _ h)
equated_still k lesson (equal h) = equal (still k lesson _ h)
equated_still k lesson (null h) = null (still k lesson _ h)

unites_by : (k : Known) (lesson x : Lesson) {t u : Term} → Contains k.learned x ⊎ (lesson ≡ x) → (Contains k.learned x → Equated k t u) → (lesson ≡ x → Unites lesson t u) → Equated k t u ⊎ Unites lesson t u
unites_by k lesson x (inl h) f g = inl (f h)
unites_by k lesson x (inr e) f g = inr (g e)

unites_cases : (k : Known) (lesson : Lesson) {t u : Term} → Equated (told k lesson) t u → Equated k t u ⊎ Unites lesson t u
unites_cases k lesson (same h) = unites_by k lesson _ (was_told k lesson _ h) same as_same
unites_cases k lesson (equal h) = unites_by k lesson _ (was_told k lesson _ h) equal as_equal
unites_cases k lesson (null {b = b} h) = unites_by k lesson _ (was_told k lesson _ h) null (λ e. as_null b e refl)

-- the lesson says that the term isn't NULL
data Says (lesson : Lesson) (t : Term) : Type 0 where
  on_left : (op : Op) (b : Term) → lesson ≡ atom op t b → IsComparison op → Says lesson t
  on_right : (op : Op) (a : Term) → lesson ≡ atom op a t → IsComparison op → Says lesson t
  not_null : (b : Term) → lesson ≡ atom NotNull t b → Says lesson t

not_null_still : (k : Known) (lesson : Lesson) {t : Term} → NotNullTerm k t → NotNullTerm (told k lesson) t
not_null_still k lesson (column h n) = column h n
not_null_still k lesson (literal h) = literal h
not_null_still k lesson param = param
not_null_still k lesson var = var
not_null_still k lesson (left h c) = left (still k lesson _ h) c
not_null_still k lesson (right h c) = right (still k lesson _ h) c
not_null_still k lesson (recorded h) = recorded (still k lesson _ h)

says_by : (k : Known) (lesson x : Lesson) {t : Term} → Contains k.learned x ⊎ (lesson ≡ x) → (Contains k.learned x → NotNullTerm k t) → (lesson ≡ x → Says lesson t) → NotNullTerm k t ⊎ Says lesson t
says_by k lesson x (inl h) f g = inl (f h)
says_by k lesson x (inr e) f g = inr (g e)

says_cases : (k : Known) (lesson : Lesson) {t : Term} → NotNullTerm (told k lesson) t → NotNullTerm k t ⊎ Says lesson t
says_cases k lesson (column h n) = inl (column h n)
says_cases k lesson (literal h) = inl (literal h)
says_cases k lesson param = inl param
says_cases k lesson var = inl var
says_cases k lesson (left {op = op} {b = b} h c) = says_by k lesson _ (was_told k lesson _ h) (λ g. left g c) (λ e. on_left op b e c)
says_cases k lesson (right {op = op} {a = a} h c) = says_by k lesson _ (was_told k lesson _ h) (λ g. right g c) (λ e. on_right op a e c)
says_cases k lesson (recorded {b = b} h) = says_by k lesson _ (was_told k lesson _ h) recorded (λ e. not_null b e)

pub extends_told : (k : Known) (lesson : Lesson) → Extends k (told k lesson)
extends_told k lesson = record {
  equated = λ a b h. equated_still k lesson h;
  not_null = λ a h. not_null_still k lesson h;
  at_most = λ a b h. still k lesson _ h;
  less = λ a b h. still k lesson _ h;
}

-- a lesson that is no `<` and no `<=` keeps the order
abbrev IsOrderly : Lesson → Type 0
IsOrderly lesson = (a b : Term) → (lesson ≡ atom Le a b → ⊥) × (lesson ≡ atom Lt a b → ⊥)

old_order : (k : Known) (lesson x : Lesson) → (lesson ≡ x → ⊥) → Contains (told k lesson).learned x → Contains k.learned x
old_order k lesson x never h = elim (was_told k lesson x h) as (λ _. Contains k.learned x) [ inl g ↦ g | inr e ↦ absurd (never e) ]

keeps_order : (k : Known) (lesson : Lesson) → IsOrderly lesson → KeepsOrder k (told k lesson)
keeps_order k lesson o = record { at_most = λ a b h. old_order k lesson _ (o a b).0 h; less = λ a b h. old_order k lesson _ (o a b).1 h }

-- ---- the same, or NULL

same_only : (a b t u : Term) → Unites (Same a b) t u → (t ≡ a) × (u ≡ b)
same_only a b t u (as_same e) = (cc, cc)
same_only a b t u (as_equal e) = absurd cc
same_only a b t u (as_null v e f) = absurd cc

same_silent : (a b t : Term) → ¬ (Says (Same a b) t)
same_silent a b t (on_left op c e i) = cc
same_silent a b t (on_right op c e i) = cc
same_silent a b t (not_null c e) = cc

pub joins_same : (k : Known) (a b : Term) → Joins k (told k (Same a b)) a b
joins_same k a b = record {
  unknowns = refl;
  extends = extends_told k (Same a b);
  order = keeps_order k (Same a b) (λ c d. (λ e. cc, λ e. cc));
  new = same (now k (Same a b));
  only = λ t u h. elim (unites_cases k (Same a b) h) as (λ _. Equated k t u ⊎ ((t ≡ a) × (u ≡ b))) [ inl g ↦ inl g | inr g ↦ inr (same_only a b t u g) ];
  not_null = λ t h. elim (says_cases k (Same a b) h) as (λ _. NotNullTerm k t) [ inl g ↦ g | inr g ↦ absurd (same_silent a b t g) ];
}

null_only : (a b t u : Term) → Unites (atom IsNull a b) t u → (t ≡ a) × (u ≡ Val Null)
null_only a b t u (as_same e) = absurd cc
null_only a b t u (as_equal e) = let q = atom_parts e in absurd cc
null_only a b t u (as_null v e f) = let q = atom_parts e in (cc, f)

null_silent : (a b t : Term) → ¬ (Says (atom IsNull a b) t)
null_silent a b t (on_left op c e i) = let q = atom_parts e in let is : op ≡ IsNull = cc in subst IsComparison is i
null_silent a b t (on_right op c e i) = let q = atom_parts e in let is : op ≡ IsNull = cc in subst IsComparison is i
null_silent a b t (not_null c e) = let q = atom_parts e in cc

pub joins_null : (k : Known) (a b : Term) → Joins k (told k (atom IsNull a b)) a (Val Null)
joins_null k a b = record {
  unknowns = refl;
  extends = extends_told k (atom IsNull a b);
  order = keeps_order k (atom IsNull a b) (λ c d. (λ e. (let q = atom_parts e in cc), λ e. (let q = atom_parts e in cc)));
  new = null (now k (atom IsNull a b));
  only = λ t u h. elim (unites_cases k (atom IsNull a b) h) as (λ _. Equated k t u ⊎ ((t ≡ a) × (u ≡ Val Null))) [ inl g ↦ inl g | inr g ↦ inr (null_only a b t u g) ];
  not_null = λ t h. elim (says_cases k (atom IsNull a b) h) as (λ _. NotNullTerm k t) [ inl g ↦ g | inr g ↦ absurd (null_silent a b t g) ];
}

-- ---- not NULL

not_null_apart : (a b t u : Term) → ¬ (Unites (atom NotNull a b) t u)
not_null_apart a b t u (as_same e) = cc
not_null_apart a b t u (as_equal e) = let q = atom_parts e in cc
not_null_apart a b t u (as_null v e f) = let q = atom_parts e in cc

not_null_only : (a b t : Term) → Says (atom NotNull a b) t → t ≡ a
not_null_only a b t (on_left op c e i) = let q = atom_parts e in cc
not_null_only a b t (on_right op c e i) = let q = atom_parts e in let is : op ≡ NotNull = cc in absurd (subst IsComparison is i)
not_null_only a b t (not_null c e) = let q = atom_parts e in cc

pub denies_not_null : (k : Known) (a b : Term) → Denies k (told k (atom NotNull a b)) a
denies_not_null k a b = record {
  unknowns = refl;
  extends = extends_told k (atom NotNull a b);
  equated = λ t u h. elim (unites_cases k (atom NotNull a b) h) as (λ _. Equated k t u) [ inl g ↦ g | inr g ↦ absurd (not_null_apart a b t u g) ];
  new = recorded (now k (atom NotNull a b));
  only = λ t h. elim (says_cases k (atom NotNull a b) h) as (λ _. NotNullTerm k t ⊎ (t ≡ a)) [ inl g ↦ inl g | inr g ↦ inr (not_null_only a b t g) ];
}

pub denies_again : (k : Known) (a b : Term) → Denies (told k (atom NotNull a b)) (told k (atom NotNull a b)) a
denies_again k a b = record {
  unknowns = refl;
  extends = record { equated = λ t u h. h; not_null = λ t h. h; at_most = λ t u h. h; less = λ t u h. h };
  equated = λ t u h. h;
  new = recorded (now k (atom NotNull a b));
  only = λ t h. inl h;
}

pub keeps_not_null : (k : Known) (a b : Term) → KeepsOrder k (told k (atom NotNull a b))
keeps_not_null k a b = keeps_order k (atom NotNull a b) (λ c d. (λ e. (let q = atom_parts e in cc), λ e. (let q = atom_parts e in cc)))

-- ---- comparisons

compared_only : (op : Op) (a b t : Term) → Says (atom op a b) t → (t ≡ a) ⊎ ((t ≡ b) ⊎ (op ≡ NotNull))
compared_only op a b t (on_left p c e i) = let q = atom_parts e in inl cc
compared_only op a b t (on_right p c e i) = let q = atom_parts e in inr (inl cc)
compared_only op a b t (not_null c e) = let q = atom_parts e in inr (inr cc)

-- the comparison, after its left side was denied to be NULL, denies its right side
module _ (k m : Known) (op : Op) (a b : Term) (comparison : IsComparison op) (unknowns : k.unknowns ≡ m.unknowns) (extends : Extends k m) (more : Extends m (told k (atom op a b))) (back : (t u : Term) → Equated (told k (atom op a b)) t u → Equated m t u) where
  abbrev one : Known
  one = told m (atom NotNull a a)

  abbrev all : Known
  all = told k (atom op a b)

  old_told : (x : Lesson) → (atom NotNull a a ≡ x → ⊥) → Contains one.learned x → Contains m.learned x
  old_told x never h = old_order m (atom NotNull a a) x never h

  still_not_null : (t : Term) → NotNullTerm one t → NotNullTerm all t
  still_not_null t h = elim (says_cases m (atom NotNull a a) h) as (λ _. NotNullTerm all t) [
    | inl g ↦ more.not_null t g
    | inr g ↦ subst (NotNullTerm all) (sym (not_null_only a a t g)) (left (now k (atom op a b)) comparison)
  ]

  new_or_old : (t : Term) → Says (atom op a b) t → NotNullTerm one t ⊎ (t ≡ b)
  new_or_old t h = elim (compared_only op a b t h) as (λ _. NotNullTerm one t ⊎ (t ≡ b)) [
    | inl e ↦ inl (subst (NotNullTerm one) (sym e) (recorded (now m (atom NotNull a a))))
    | inr g ↦ elim g as (λ _. NotNullTerm one t ⊎ (t ≡ b)) [ inl e ↦ inr e | inr e ↦ absurd (subst IsComparison e comparison) ]
  ]

  pub denies_compared : Denies one all b
  denies_compared = record {
    unknowns = unknowns;
    extends = record {
      equated = λ t u h. elim (unites_cases m (atom NotNull a a) h) as (λ _. Equated all t u) [ inl g ↦ more.equated t u g | inr g ↦ absurd (not_null_apart a a t u g) ];
      not_null = still_not_null;
      at_most = λ t u h. more.at_most t u (old_told _ (λ e. let q = atom_parts e in cc) h);
      less = λ t u h. more.less t u (old_told _ (λ e. let q = atom_parts e in cc) h);
    };
    equated = λ t u h. equated_still m (atom NotNull a a) (back t u h);
    new = right (now k (atom op a b)) comparison;
    only = λ t h. elim (says_cases k (atom op a b) h) as (λ _. NotNullTerm one t ⊎ (t ≡ b)) [
      | inl g ↦ inl (not_null_still m (atom NotNull a a) (extends.not_null t g))
      | inr g ↦ new_or_old t g
    ];
  }

-- a comparison that isn't `=` makes nothing equal
apart_only : (op : Op) (a b t u : Term) → (op ≡ Eq → ⊥) → IsComparison op → ¬ (Unites (atom op a b) t u)
apart_only op a b t u ne c (as_same e) = cc
apart_only op a b t u ne c (as_equal e) = let q = atom_parts e in ne cc
apart_only op a b t u ne c (as_null v e f) = let q = atom_parts e in let is : op ≡ IsNull = cc in subst IsComparison is c

pub equated_back : (k : Known) (op : Op) (a b : Term) → (op ≡ Eq → ⊥) → IsComparison op → (t u : Term) → Equated (told k (atom op a b)) t u → Equated k t u
equated_back k op a b ne c t u h = elim (unites_cases k (atom op a b) h) as (λ _. Equated k t u) [ inl g ↦ g | inr g ↦ absurd (apart_only op a b t u ne c g) ]

pub Extends-same : (k : Known) → Extends k k
Extends-same k = record { equated = λ a b h. h; not_null = λ a h. h; at_most = λ a b h. h; less = λ a b h. h }

pub denies_apart : (k : Known) (op : Op) (a b : Term) → (op ≡ Eq → ⊥) → IsComparison op → Denies (told k (atom NotNull a a)) (told k (atom op a b)) b
denies_apart k op a b ne c = denies_compared k k op a b c refl (Extends-same k) (extends_told k (atom op a b)) (equated_back k op a b ne c)

pub keeps_apart : (k : Known) (a b : Term) → KeepsOrder k (told k (atom Ne a b))
keeps_apart k a b = keeps_order k (atom Ne a b) (λ c d. (λ e. (let q = atom_parts e in cc), λ e. (let q = atom_parts e in cc)))

-- `=`, after the two were made the same

equal_only : (a b t u : Term) → Unites (atom Eq a b) t u → (t ≡ a) × (u ≡ b)
equal_only a b t u (as_same e) = absurd cc
equal_only a b t u (as_equal e) = let q = atom_parts e in (cc, cc)
equal_only a b t u (as_null v e f) = let q = atom_parts e in absurd cc

equal_back : (k : Known) (a b t u : Term) → Equated (told k (atom Eq a b)) t u → Equated (told k (Same a b)) t u
equal_back k a b t u h = elim (unites_cases k (atom Eq a b) h) as (λ _. Equated (told k (Same a b)) t u) [
  | inl g ↦ equated_still k (Same a b) g
  | inr g ↦ let e = equal_only a b t u g in subst (λ v. Equated (told k (Same a b)) v u) (sym e.0) (subst (λ v. Equated (told k (Same a b)) a v) (sym e.1) (same (now k (Same a b))))
]

equal_more : (k : Known) (a b : Term) → Extends (told k (Same a b)) (told k (atom Eq a b))
equal_more k a b = record {
  equated = λ t u h. elim (unites_cases k (Same a b) h) as (λ _. Equated (told k (atom Eq a b)) t u) [
    | inl g ↦ equated_still k (atom Eq a b) g
    | inr g ↦ let e = same_only a b t u g in subst (λ v. Equated (told k (atom Eq a b)) v u) (sym e.0) (subst (λ v. Equated (told k (atom Eq a b)) a v) (sym e.1) (equal (now k (atom Eq a b))))
  ];
  not_null = λ t h. elim (says_cases k (Same a b) h) as (λ _. NotNullTerm (told k (atom Eq a b)) t) [ inl g ↦ not_null_still k (atom Eq a b) g | inr g ↦ absurd (same_silent a b t g) ];
  at_most = λ t u h. still k (atom Eq a b) _ (old_order k (Same a b) _ (λ e. cc) h);
  less = λ t u h. still k (atom Eq a b) _ (old_order k (Same a b) _ (λ e. cc) h);
}

pub denies_equal : (k : Known) (a b : Term) → Denies (told (told k (Same a b)) (atom NotNull a a)) (told k (atom Eq a b)) b
denies_equal k a b = denies_compared k (told k (Same a b)) Eq a b tt refl (extends_told k (Same a b)) (equal_more k a b) (equal_back k a b)

pub keeps_equal : (k : Known) (a b : Term) → KeepsOrder (told k (Same a b)) (told k (atom Eq a b))
keeps_equal k a b = record {
  at_most = λ t u h. still k (Same a b) _ (old_order k (atom Eq a b) _ (λ e. let q = atom_parts e in cc) h);
  less = λ t u h. still k (Same a b) _ (old_order k (atom Eq a b) _ (λ e. let q = atom_parts e in cc) h);
}

-- ---- order

pub raises_less : (k : Known) (a b : Term) → Raises k (told k (atom Lt a b)) a (pos 1) b
raises_less k a b = record {
  extends = extends_told k (atom Lt a b);
  equated = equated_back k Lt a b (λ e. cc) tt;
  new = less (now k (atom Lt a b));
  at_most = λ t u h. inl (old_order k (atom Lt a b) _ (λ e. let q = atom_parts e in cc) h);
  less = λ t u h. elim (was_told k (atom Lt a b) _ h) as (λ _. Learned k Lt t u ⊎ ((t ≡ a) × (u ≡ b) × (pos 1 ≡ pos 1))) [ inl g ↦ inl g | inr e ↦ let q = atom_parts e in inr (sym q.1, sym q.2, refl) ];
}

pub raises_at_most : (k : Known) (a b : Term) → Raises k (told k (atom Le a b)) a (pos 0) b
raises_at_most k a b = record {
  extends = extends_told k (atom Le a b);
  equated = equated_back k Le a b (λ e. cc) tt;
  new = at_most (now k (atom Le a b));
  at_most = λ t u h. elim (was_told k (atom Le a b) _ h) as (λ _. Learned k Le t u ⊎ ((t ≡ a) × (u ≡ b) × (pos 0 ≡ pos 0))) [ inl g ↦ inl g | inr e ↦ let q = atom_parts e in inr (sym q.1, sym q.2, refl) ];
  less = λ t u h. inl (old_order k (atom Le a b) _ (λ e. let q = atom_parts e in cc) h);
}

-- ---- the cases of `tell_atom`

pub on_ok : {T E P Q : Type 0} (r : Result T E) → (P → Q) → OnOk r P → OnOk r Q
on_ok (Ok x) f h = f h
on_ok (Err e) f h = tt

it_is : (it : TermAtom) (op : Op) (a b : Term) → a ≡ it.left → b ≡ it.right → it.op ≡ op → atom op a b ≡ Holds it
it_is it op a b f g e = ap (λ (t : Term). atom op t b) f ∙ ap (λ (t : Term). atom op it.left t) g ∙ ap (λ (o : Op). atom o it.left it.right) (sym e)

module _ (it : TermAtom) (a b : Term) (unknowns : List Sort) (V W : Known → Type 0) (left_is : a ≡ it.left) (right_is : b ≡ it.right) where
  abbrev Tells : Type 0
  Tells = (k : Known) → k.unknowns ≡ unknowns → IsThere k it.left → IsThere k it.right → V k → W (told k (Holds it))

  there_left : (k : Known) → IsThere k it.left → IsThere k a
  there_left k h = subst (IsThere k) (sym left_is) h

  there_right : (k : Known) → IsThere k it.right → IsThere k b
  there_right k h = subst (IsThere k) (sym right_is) h

  ends : (k : Known) (op : Op) → it.op ≡ op → W (told k (atom op a b)) → W (told k (Holds it))
  ends k op e h = subst (λ (x : Lesson). W (told k x)) (it_is it op a b left_is right_is e) h

  pub tell_equal : it.op ≡ Eq → ((k : Known) → k.unknowns ≡ unknowns → IsThere k a → IsThere k b → V k → W (told k (atom Eq a b))) → Tells
  tell_equal e f k known l r v = ends k Eq e (f k known (there_left k l) (there_right k r) v)

  pub tell_apart : it.op ≡ Ne → ((k h l : Known) → k.unknowns ≡ unknowns → IsThere k a → IsThere k b → Denies k h a → Denies h l b → KeepsOrder k l → V k → W l) → Tells
  tell_apart e f k known l r v = ends k Ne e (f k (told k (atom NotNull a a)) (told k (atom Ne a b)) known (there_left k l) (there_right k r) (denies_not_null k a a) (denies_apart k Ne a b (λ i. cc) tt) (keeps_apart k a b) v)

  pub tell_less : it.op ≡ Lt → ((k h l : Known) → k.unknowns ≡ unknowns → IsThere k a → IsThere k b → Denies k h a → Denies h l b → Raises k l a (pos 1) b → V k → W l) → Tells
  tell_less e f k known l r v = ends k Lt e (f k (told k (atom NotNull a a)) (told k (atom Lt a b)) known (there_left k l) (there_right k r) (denies_not_null k a a) (denies_apart k Lt a b (λ i. cc) tt) (raises_less k a b) v)

  pub tell_at_most : it.op ≡ Le → ((k h l : Known) → k.unknowns ≡ unknowns → IsThere k a → IsThere k b → Denies k h a → Denies h l b → Raises k l a (pos 0) b → V k → W l) → Tells
  tell_at_most e f k known l r v = ends k Le e (f k (told k (atom NotNull a a)) (told k (atom Le a b)) known (there_left k l) (there_right k r) (denies_not_null k a a) (denies_apart k Le a b (λ i. cc) tt) (raises_at_most k a b) v)

  pub tell_null : it.op ≡ IsNull → ((k l : Known) → k.unknowns ≡ unknowns → IsThere k a → Unit {0} → Joins k l a (Val Null) → V k → W l) → Tells
  tell_null e f k known l r v = ends k IsNull e (f k (told k (atom IsNull a b)) known (there_left k l) tt (joins_null k a b) v)

  pub tell_not_null : it.op ≡ NotNull → ((k h l : Known) → k.unknowns ≡ unknowns → IsThere k a → IsThere k a → Denies k h a → Denies h l a → KeepsOrder k l → V k → W l) → Tells
  tell_not_null e f k known l r v = ends k NotNull e (f k (told k (atom NotNull a b)) (told k (atom NotNull a b)) known (there_left k l) (there_left k l) (denies_not_null k a b) (denies_again k a b) (keeps_not_null k a b) v)

pub tell_same : (x : Lesson) (a b t u : Term) (unknowns : List Sort) (V W : Known → Type 0) → x ≡ Same t u → a ≡ t → b ≡ u → ((k l : Known) → k.unknowns ≡ unknowns → IsThere k a → IsThere k b → Joins k l a b → V k → W l) → (k : Known) → k.unknowns ≡ unknowns → LessonIsThere k x → V k → W (told k x)
tell_same x a b t u unknowns V W is f g tell k known there v =
    let both : IsThere k t × IsThere k u = subst (LessonIsThere k) is there in
    let whole : x ≡ Same a b = is ∙ ap (λ (s : Term). Same s u) (sym f) ∙ ap (λ (s : Term). Same a s) (sym g) in
    subst (λ (y : Lesson). W (told k y)) (sym whole) (tell k (told k (Same a b)) known (subst (IsThere k) (sym f) both.0) (subst (IsThere k) (sym g) both.1) (joins_same k a b) v)
