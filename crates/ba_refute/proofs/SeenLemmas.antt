-- Two terms have one value in the image exactly where they are of one class.
use Rattle.std.proofs.Common.{◌≡◌, ◌∙◌, ℕ, ◌<◌, ◌≤◌, ◌^◌, List, [], ◌∷◌, Contains, Some, get_or, length, refl, sym, ap, subst, ⊎_elim, arith, ◌⊎◌, inl, inr}
use Rattle.std.proofs.lemmas.Bool.{cases_lt}
use Rattle.std.proofs.lemmas.List.Elements.{All-contains}
use Rattle.std.proofs.lemmas.Option.{same_Some, slice_get-get_or}
use Rattle.std.specs.Prelude.{slice_get}
use Rattle.ba_facts.specs.Knowing.{IsLeastOf}
use Rattle.ba_facts.specs.Known.{Known, NotNullTerm, OneClass, ShownNotNull, ShownNull, itself, joined, literal as literal_term, param, turned}
use Rattle.ba_facts.specs.Shown.{IsEqual, TheSame, null as null_class}
use Rattle.ba_facts.specs.declared.term.Term.{Term}
use Rattle.ba_facts.specs.declared.term.Term.TheVariants.{Unknown, Val, Param, Var}
use Rattle.ba_kernel.proofs.StepFits.{Contains-at}
use Rattle.ba_model.specs.declared.policy.Context.{Context}
use Rattle.ba_model.specs.declared.value.Value.{Value}
use Rattle.ba_model.specs.declared.value.Value.TheVariants.{Null}
use Rattle.ba_refute.specs.Images.{AreValues, IsClassValue, literal, null, number, text}
use Rattle.ba_refute.proofs.ClassLemmas.{one_literal, same_class}
use Rattle.ba_refute.proofs.FreeLemmas.{IsFreeValue, free_is_no_literal, free_is_not_null, free_value_one, free_values_apart}
use Rattle.ba_refute.specs.TermValues.{KnowsEquationsAlone, AreLiterals, IsIn, ValuesTellClasses, value_at}

-- a list has its element below its length
pub there_at : {X : Type 0} (xs : List X) (n : ℕ) → n < length xs → (x : X) × (slice_get xs n ≡ Some x)
there_at [] n less = absurd (omega (arith, less))
there_at (x ∷ xs) n less = (get_or (x ∷ xs) n x, slice_get-get_or (x ∷ xs) n x less)

-- a least unknown is there where the unknown is
pub least_there : (k : Known) (n l : ℕ) → n < length k.unknowns → IsLeastOf k n l → l < length k.unknowns
least_there k n l there is =
    ⊎_elim
    (λ (less : n < l). absurd (is.none_less n less itself))
    (λ (upto : l ≤ n). let h : l < length k.unknowns = omega (arith, there, upto) in h)
    (cases_lt n l)

least_moves : (k : Known) (n m l : ℕ) → OneClass k (Unknown n) (Unknown m) → IsLeastOf k m l → IsLeastOf k n l
least_moves k n m l class is = record { one_class = joined class is.one_class; none_less = λ j less h. is.none_less j less (joined (turned class) h) }

least_one : (k : Known) (n l m : ℕ) → IsLeastOf k n l → IsLeastOf k n m → l ≡ m
least_one k n l m h g =
    ⊎_elim
    (λ (less : l < m). absurd (g.none_less l less h.one_class))
    (λ (past : m ≤ l). ⊎_elim
    (λ (more : m < l). absurd (h.none_less m more g.one_class))
    (λ (upto : l ≤ m). let e : l ≡ m = omega (arith, past, upto) in e)
    (cases_lt m l))
    (cases_lt l m)

module _ (k : Known) (are : KnowsEquationsAlone k) (c : Context) (all : List Value) (lits : AreLiterals k c all) (values : List Value)
    (image : AreValues k all values) (few : length k.unknowns ≤ 10 ^ 64) where
  abbrev pub IsFreeOf : ℕ → Value → Type 0
  IsFreeOf l v = IsFreeValue k are all image.nodes image.numbers image.nodes_are image.numbers_are l v

  -- the term is an unknown of a class without a literal, which has this value
  pub record IsFresh (t : Term) (v : Value) : Type 0 where
    pub unknown : ℕ
    pub least : ℕ
    pub is : t ≡ Unknown unknown
    pub there : unknown < length k.unknowns
    pub is_least : IsLeastOf k unknown least
    pub free : IsFreeOf least v

  -- the value is the literal of the term's class
  pub record IsLiteralOf (t : Term) (v : Value) : Type 0 where
    pub class : OneClass k t (Val v)
    pub in_all : Contains all v

  abbrev pub IsSeen : Term → Value → Type 0
  IsSeen t v = IsLiteralOf t v ⊎ IsFresh t v

  full : (n : ℕ) → n < length k.unknowns → NotNullTerm k (Unknown n)
  full = are.filled

  class_seen : (n l : ℕ) (v : Value) → n < length k.unknowns → IsLeastOf k n l → IsClassValue k all image.nodes image.numbers l v → IsSeen (Unknown n) v
  class_seen n l v there is (literal h) = inl (record { class = joined is.one_class h; in_all = lits.classes n v (joined is.one_class h) })
  class_seen n l v there is (null none hidden) =
      absurd (hidden (record { other = Unknown l; class = itself; not_null = full l (least_there k n l there is) }))
  class_seen n l v there is (text free marked) =
      inr (record { unknown = n; least = l; is = refl; there = there; is_least = is; free = (free.no_literal, full l (least_there k n l there is), text free marked) })
  class_seen n l v there is (number free has) =
      inr (record { unknown = n; least = l; is = refl; there = there; is_least = is; free = (free.no_literal, full l (least_there k n l there is), number free has) })

  -- each term has its value so
  pub seen : (t : Term) (v : Value) → IsIn k c all t → value_at c values t ≡ Some v → IsSeen t v
  seen (Unknown n) v there e = let it = image.each n v e in class_seen n it.least v there it.is_least it.value
  seen (Val w) v there e =
      let same : w ≡ v = same_Some w v e in
      inl (record { class = subst (λ x. OneClass k (Val w) (Val x)) same itself; in_all = subst (Contains all) same there })
  seen (Param n) v there e =
      inl (record { class = lits.params n v e; in_all = All-contains (Contains all) c.values v lits.values (Contains-at c.values n v e) })
  seen (Var n) v there e = absurd there

  -- and has one
  pub has_value : (t : Term) → IsIn k c all t → (v : Value) × (value_at c values t ≡ Some v)
  has_value (Unknown n) there = there_at values n (omega (arith, there, image.len))
  has_value (Val v) there = (v, refl)
  has_value (Param n) there = there_at c.values n there
  has_value (Var n) there = absurd there

  literal_is_fresh : (t u : Term) (v w : Value) → IsLiteralOf t v → IsFresh u w → OneClass k t u → ⊥
  literal_is_fresh t u v w h g class =
      let of : OneClass k (Unknown g.unknown) (Val v) = subst (λ x. OneClass k x (Val v)) g.is (joined (turned class) h.class) in
      (g.free).0 v (joined (turned g.is_least.one_class) of)

  same_seen : (t u : Term) (v w : Value) → IsSeen t v → IsSeen u w → OneClass k t u → v ≡ w
  same_seen t u v w (inl h) (inl g) class = one_literal k are t v w h.class (joined class g.class)
  same_seen t u v w (inl h) (inr g) class = absurd (literal_is_fresh t u v w h g class)
  same_seen t u v w (inr h) (inl g) class = absurd (literal_is_fresh u t w v g h (turned class))
  same_seen t u v w (inr h) (inr g) class =
      let one : OneClass k (Unknown h.unknown) u = subst (λ x. OneClass k x u) h.is class in
      let both : OneClass k (Unknown h.unknown) (Unknown g.unknown) = subst (λ x. OneClass k (Unknown h.unknown) x) g.is one in
      let least : g.least ≡ h.least = least_one k h.unknown g.least h.least (least_moves k h.unknown g.unknown g.least both g.is_least) h.is_least in
      free_value_one k are all image.nodes image.numbers image.nodes_are image.numbers_are h.least v w h.free (subst (λ l. IsFreeOf l w) least g.free)

  small_least : (t : Term) (v : Value) (h : IsFresh t v) → h.least < 10 ^ 64
  small_least t v h = let below : h.least < length k.unknowns = least_there k h.unknown h.least h.there h.is_least in omega (arith, below, few)

  fresh_class : (t : Term) (v : Value) (h : IsFresh t v) → OneClass k t (Unknown h.least)
  fresh_class t v h = subst (λ x. OneClass k x (Unknown h.least)) (sym h.is) h.is_least.one_class

  one_value : (t u : Term) (v w : Value) → IsSeen t v → IsSeen u w → v ≡ w → OneClass k t u
  one_value t u v w (inl h) (inl g) e = joined h.class (turned (subst (λ x. OneClass k u (Val x)) (sym e) g.class))
  one_value t u v w (inl h) (inr g) e =
      absurd (free_is_no_literal k are all image.nodes image.numbers image.nodes_are image.numbers_are g.least w g.free (subst (Contains all) e h.in_all))
  one_value t u v w (inr h) (inl g) e =
      absurd (free_is_no_literal k are all image.nodes image.numbers image.nodes_are image.numbers_are h.least v h.free (subst (Contains all) (sym e) g.in_all))
  one_value t u v w (inr h) (inr g) e =
      let least : h.least ≡ g.least = free_values_apart k are all image.nodes image.numbers image.nodes_are image.numbers_are h.least g.least v w
      (small_least t v h) (small_least u w g) h.free g.free e in
      joined (fresh_class t v h) (turned (subst (λ l. OneClass k u (Unknown l)) (sym least) (fresh_class u w g)))

  pub values_tell : ValuesTellClasses k c all values
  values_tell t u v w h g e f = (one_value t u v w (seen t v h e) (seen u w g f), same_seen t u v w (seen t v h e) (seen u w g f))

  -- ---- NULL

  null_seen : (t : Term) (v : Value) → IsSeen t v → v ≡ Null → ShownNull k t
  null_seen t v (inl h) e = subst (λ x. OneClass k t (Val x)) e h.class
  null_seen t v (inr h) e = absurd (free_is_not_null k are all image.nodes image.numbers image.nodes_are image.numbers_are h.least v h.free e)

  -- a term that is shown not null has no NULL
  pub full_value : (t : Term) (v : Value) → IsIn k c all t → value_at c values t ≡ Some v → ShownNotNull k t → v ≡ Null → ⊥
  full_value t v h e shown is = are.sound (null_class {a = t} (null_seen t v (seen t v h e) is) shown)

  -- and one whose value isn't NULL is shown not null
  pub shown_full : (t : Term) (v : Value) → IsIn k c all t → value_at c values t ≡ Some v → (v ≡ Null → ⊥) → ShownNotNull k t
  shown_full (Unknown n) v h e some = record { other = Unknown n; class = itself; not_null = full n h }
  shown_full (Val w) v h e some = record { other = Val w; class = itself; not_null = literal_term (λ is. some (sym (same_Some w v e) ∙ is)) }
  shown_full (Param n) v h e some = record { other = Param n; class = itself; not_null = param }
  shown_full (Var n) v h e some = absurd h

  -- ---- `=`

  pub equal_values : (t u : Term) (v w : Value) → IsIn k c all t → IsIn k c all u → value_at c values t ≡ Some v → value_at c values u ≡ Some w →
      IsEqual k t u → (v ≡ Null → ⊥) × (v ≡ w)
  equal_values t u v w h g e f is = (full_value t v h e is.not_null.left, (values_tell t u v w h g e f).1 (same_class k are t u is.same))

  pub shown_equal : (t u : Term) (v w : Value) → IsIn k c all t → IsIn k c all u → value_at c values t ≡ Some v → value_at c values u ≡ Some w →
      (v ≡ Null → ⊥) → v ≡ w → IsEqual k t u
  shown_equal t u v w h g e f some same = record {
    not_null = record { left = shown_full t v h e some; right = shown_full u w g f (λ is. some (same ∙ is)) };
    same = inl ((values_tell t u v w h g e f).0 same);
  }

  pub the_same_value : (t u : Term) → IsIn k c all t → IsIn k c all u → TheSame k t u → value_at c values t ≡ value_at c values u
  the_same_value t u h g is =
      let v = has_value t h in
      let w = has_value u g in
      v.1 ∙ ap Some ((values_tell t u v.0 w.0 h g v.1 w.1).1 (same_class k are t u is)) ∙ sym w.1
