-- What is known after a loose comparison was known before, but for the order.
use Rattle.std.proofs.Common.{◌≡◌, ◌∙◌, ℤ, pos, ◌+ℤ◌, ◌<ℤ◌, ◌≤ℤ◌, ◌⊎◌, [], ◌∷◌, ◌++◌, Contains, inl, inr, ap, sym, subst, arith}
use Rattle.std.proofs.lemmas.Int.{ints}
use Rattle.std.proofs.lemmas.List.Elements.{Contains-push_cases}
use Rattle.ba_model.specs.declared.query.Op.{Op}
use Rattle.ba_model.specs.declared.query.Op.TheVariants.{Eq, Lt, Le, IsNull, NotNull}
use Rattle.ba_facts.proofs.ChainLemmas.{one_rise}
use Rattle.ba_facts.specs.Known.{Chain, DifferentLiterals, Equated, Known, Learned, NotNullTerm, OneClass, Rise, ShownGap, ShownNotNull}
use Rattle.ba_facts.specs.Known.{same, equal, null, equated, itself, turned, joined, column, literal, param, var, left, right, recorded, within, at_most, less, number, none, first}
use Rattle.ba_facts.specs.Knowing.{IsBound}
use Rattle.ba_facts.specs.Shown.{IsEqual, NeitherNull, TheSame}
use Rattle.std.specs.Prelude.{Option, None}
use Rattle.ba_facts.specs.declared.term.Lesson.{Lesson}
use Rattle.ba_facts.specs.declared.term.Lesson.TheVariants.{Same, Holds}
use Rattle.ba_facts.specs.declared.term.Term.{Term}
use Rattle.ba_instant.proofs.CarryLemmas.{gap_of, gap_then, gap_within}
use Rattle.ba_instant.specs.Loose.{IsLoose, IsRaise}
use Rattle.ba_instant.specs.Loose as loose

abbrev pub told_more : Known → Lesson → Known
told_more k lesson = record k { learned = k.learned ++ lesson ∷ [] }

abbrev op_in : Lesson → Op
op_in (Same a b) = Eq
op_in (Holds atom) = atom.op

abbrev left_in : Lesson → Term
left_in (Same a b) = a
left_in (Holds atom) = atom.left

abbrev right_in : Lesson → Term
right_in (Same a b) = b
right_in (Holds atom) = atom.right

-- a chain through the comparison: one that comes to x, and one that goes on from y
record Through (k : Known) (x : Term) (by : ℤ) (y : Term) (a : Term) (sum : ℤ) (b : Term) : Type 0 where
  comes : ℤ
  goes : ℤ
  to : ShownGap k a comes x
  from : ShownGap k y goes b
  enough : sum ≤ℤ ((comes +ℤ by) +ℤ goes)

module _ (k : Known) (lesson : Lesson) (x : Term) (by : ℤ) (y : Term) (raise : IsRaise lesson x by y) (open_ : IsLoose k x by y) where
  abbrev l : Known
  l = told_more k lesson

  learned_before : (other : Lesson) → Contains l.learned other → Contains k.learned other ⊎ (other ≡ lesson)
  learned_before other h = elim (Contains-push_cases k.learned lesson other h) [ inl old ↦ inl old | inr new ↦ inr (sym new) ]

  not_same : (a b : Term) → Same a b ≡ lesson → ⊥
  not_same a b e = elim raise as (λ _. ⊥) [ loose.at_most is sum ↦ cc (e, is) | loose.less is sum ↦ cc (e, is) ]

  not_other : (op : Op) (a b : Term) → (op ≡ Le → ⊥) → (op ≡ Lt → ⊥) → Holds (record { op = op; left = a; right = b }) ≡ lesson → ⊥
  not_other op a b no_le no_lt e = elim raise as (λ _. ⊥) [ loose.at_most is sum ↦ no_le (ap op_in (e ∙ is)) | loose.less is sum ↦ no_lt (ap op_in (e ∙ is)) ]

  plain_before : (op : Op) (a b : Term) → (op ≡ Le → ⊥) → (op ≡ Lt → ⊥) → Learned l op a b → Learned k op a b
  plain_before op a b no_le no_lt h = elim (learned_before _ h) [ inl old ↦ old | inr e ↦ absurd (not_other op a b no_le no_lt e) ]

  -- ---- classes

  equated_before : (a b : Term) → Equated l a b → Equated k a b
  equated_before a b (same h) = elim (learned_before _ h) [ inl old ↦ same old | inr e ↦ absurd (not_same a b e) ]
  equated_before a b (equal h) = equal (plain_before Eq a b (λ e. cc) (λ e. cc) h)
  equated_before a b (null h) = null (plain_before IsNull a _ (λ e. cc) (λ e. cc) h)

  pub class_before : {a b : Term} → OneClass l a b → OneClass k a b
  class_before (equated h) = equated (equated_before _ _ h)
  class_before itself = itself
  class_before (turned h) = turned (class_before h)
  class_before (joined h g) = joined (class_before h) (class_before g)

  differ_before : {a b : Term} → DifferentLiterals l a b → DifferentLiterals k a b
  differ_before h = record { left = h.left; right = h.right; left_in = class_before h.left_in; right_in = class_before h.right_in; differ = h.differ }

  -- ---- NULL

  itself_not_null : {a : Term} → NotNullTerm k a → ShownNotNull k a
  itself_not_null {a} h = record { other = a; class = itself; not_null = h }

  left_is : (op : Op) (a b : Term) → Holds (record { op = op; left = a; right = b }) ≡ lesson → a ≡ x
  left_is op a b e = elim raise as (λ _. a ≡ x) [ loose.at_most is sum ↦ ap left_in (e ∙ is) | loose.less is sum ↦ ap left_in (e ∙ is) ]

  right_is : (op : Op) (a b : Term) → Holds (record { op = op; left = a; right = b }) ≡ lesson → b ≡ y
  right_is op a b e = elim raise as (λ _. b ≡ y) [ loose.at_most is sum ↦ ap right_in (e ∙ is) | loose.less is sum ↦ ap right_in (e ∙ is) ]

  term_before : (a : Term) → NotNullTerm l a → ShownNotNull k a
  term_before a (column h is) = itself_not_null (column h is)
  term_before a (literal h) = itself_not_null (literal h)
  term_before a param = itself_not_null param
  term_before a var = itself_not_null var
  term_before a (left {op = op} {b = b} h is) = elim (learned_before _ h) [
    | inl old ↦ itself_not_null (left old is)
    | inr e ↦ subst (ShownNotNull k) (sym (left_is op a b e)) open_.not_null.left
  ]
  term_before a (right {op = op} {a = b} h is) = elim (learned_before _ h) [
    | inl old ↦ itself_not_null (right old is)
    | inr e ↦ subst (ShownNotNull k) (sym (right_is op b a e)) open_.not_null.right
  ]
  term_before a (recorded {b = b} h) = itself_not_null (recorded (plain_before NotNull a b (λ e. cc) (λ e. cc) h))

  pub not_null_before : {a : Term} → ShownNotNull l a → ShownNotNull k a
  not_null_before h = let g = term_before h.other h.not_null in record { other = g.other; class = joined (class_before h.class) g.class; not_null = g.not_null }

  pub neither_before : {a b : Term} → NeitherNull l a b → NeitherNull k a b
  neither_before h = record { left = not_null_before h.left; right = not_null_before h.right }

  -- ---- the order

  -- what is shown by an old chain, or by one through the comparison
  abbrev Way : Term → ℤ → Term → Type 0
  Way a sum b = ShownGap k a sum b ⊎ Through k x by y a sum b

  on_itself : (a : Term) → ShownGap k a (pos 0) a
  on_itself a = gap_of none

  the_way : (sum : ℤ) → by ≡ sum → Way x sum y
  the_way sum e = inr (record { comes = pos 0; goes = pos 0; to = on_itself x; from = on_itself y; enough = omega (arith, ints, e) })

  told_way : (op : Op) (a b : Term) (sum : ℤ) → by ≡ sum → Holds (record { op = op; left = a; right = b }) ≡ lesson → Way a sum b
  told_way op a b sum its e = subst (λ t. Way t sum b) (sym (left_is op a b e)) (subst (Way x sum) (sym (right_is op a b e)) (the_way sum its))

  by_most : (a b : Term) → Holds (record { op = Le; left = a; right = b }) ≡ lesson → by ≡ pos 0
  by_most a b e = elim raise as (λ _. by ≡ pos 0) [ loose.at_most is sum ↦ sum | loose.less is sum ↦ absurd (let no : Le ≡ Lt = ap op_in (e ∙ is) in cc) ]

  by_less : (a b : Term) → Holds (record { op = Lt; left = a; right = b }) ≡ lesson → by ≡ pos 1
  by_less a b e = elim raise as (λ _. by ≡ pos 1) [ loose.at_most is sum ↦ absurd (let no : Lt ≡ Le = ap op_in (e ∙ is) in cc) | loose.less is sum ↦ sum ]

  rise_way : {a b : Term} {n : ℤ} → Rise l a n b → Way a n b
  rise_way (within h) = inl (gap_within (class_before h))
  rise_way (at_most {a = a} {b = b} h) = elim (learned_before _ h) [ inl old ↦ inl (gap_of (one_rise (at_most old))) | inr e ↦ told_way Le a b (pos 0) (by_most a b e) e ]
  rise_way (less {a = a} {b = b} h) = elim (learned_before _ h) [ inl old ↦ inl (gap_of (one_rise (less old))) | inr e ↦ told_way Lt a b (pos 1) (by_less a b e) e ]
  rise_way number = inl (gap_of (one_rise number))

  way_then : (a b c : Term) (n m : ℤ) → Way a n b → Way b m c → Way a (n +ℤ m) c
  way_then a b c n m (inl g) (inl h) = inl (gap_then g h)
  way_then a b c n m (inl g) (inr t) =
      inr (record { comes = n +ℤ t.comes; goes = t.goes; to = gap_then g t.to; from = t.from; enough = omega (arith, ints, t.enough) })
  way_then a b c n m (inr t) (inl h) =
      inr (record { comes = t.comes; goes = t.goes +ℤ m; to = t.to; from = gap_then t.from h; enough = omega (arith, ints, t.enough) })
  way_then a b c n m (inr t) (inr u) =
      let circle = open_.back (t.goes +ℤ u.comes) (gap_then t.from u.to) in
      inr (record { comes = t.comes; goes = u.goes; to = t.to; from = u.from; enough = omega (arith, ints, t.enough, u.enough, circle) })

  chain_way : {a b : Term} {n : ℤ} → Chain l a n b → Way a n b
  chain_way {a} none = inl (on_itself a)
  chain_way (first {n = n} {m = m} r c) = way_then _ _ _ n m (rise_way r) (chain_way c)

  gap_less : {a b : Term} {n m : ℤ} → m ≤ℤ n → ShownGap k a n b → ShownGap k a m b
  gap_less below g = record { sum = g.sum; enough = omega (arith, ints, below, g.enough); chain = g.chain }

  way_less : (a b : Term) (n m : ℤ) → m ≤ℤ n → Way a n b → Way a m b
  way_less a b n m below (inl g) = inl (gap_less below g)
  way_less a b n m below (inr t) = inr (record { comes = t.comes; goes = t.goes; to = t.to; from = t.from; enough = omega (arith, ints, below, t.enough) })

  gap_way : (a b : Term) (n : ℤ) → ShownGap l a n b → Way a n b
  gap_way a b n g = way_less a b g.sum n g.enough (chain_way g.chain)

  level : (a b : Term) → Way a (pos 0) b → Way b (pos 0) a → TheSame k a b
  level a b (inl g) (inl h) = inr (g, h)
  level a b (inl g) (inr t) =
      let circle = open_.back (t.goes +ℤ (pos 0 +ℤ t.comes)) (gap_then t.from (gap_then g t.to)) in
      absurd (let no : ⊥ = omega (arith, ints, t.enough, circle) in no)
  level a b (inr t) (inl h) =
      let circle = open_.back (t.goes +ℤ (pos 0 +ℤ t.comes)) (gap_then t.from (gap_then h t.to)) in
      absurd (let no : ⊥ = omega (arith, ints, t.enough, circle) in no)
  level a b (inr t) (inr u) =
      let one = open_.back (t.goes +ℤ u.comes) (gap_then t.from u.to) in
      let other = open_.back (u.goes +ℤ t.comes) (gap_then u.from t.to) in
      absurd (let no : ⊥ = omega (arith, ints, t.enough, u.enough, one, other) in no)

  pub same_before : {a b : Term} → TheSame l a b → TheSame k a b
  same_before (inl h) = inl (class_before h)
  same_before {a} {b} (inr h) = level a b (gap_way a b (pos 0) h.0) (gap_way b a (pos 0) h.1)

  pub equal_before : {a b : Term} → IsEqual l a b → IsEqual k a b
  equal_before h = record { not_null = neither_before h.not_null; same = same_before h.same }

-- no chain is shown where none is the greatest
pub none_rises : (k : Known) (a b s t : Term) (bound : Option ℤ) → s ≡ a → t ≡ b → bound ≡ None → IsBound k s t bound → (than sum : ℤ) → ShownGap k a sum b → sum <ℤ than
none_rises k a b s t bound from to absent is than sum gap =
    absurd (subst (IsBound k s t) absent is sum (subst (λ u. ShownGap k u sum t) (sym from) (subst (ShownGap k a sum) (sym to) gap)))
