-- A class of whole numbers that no comparison speaks of has no bounds but its own.
use Rattle.std.proofs.Common.{◌≡◌, ◌∙◌, ℕ, ◌+◌, ◌<◌, ◌≤◌, ℤ, pos, List, [], ◌∷◌, ◌++◌, Contains, None, Option, Some, ap, arith, get_or, inl, inr, Result, Ok, Err, length, map, refl, rules, subst, sym, take, ⊎_elim, ◌↔◌, ◌⊎◌}
use Rattle.std.specs.List.{zip}
use Rattle.std.specs.Result.{OnOk}
use Rattle.std.specs.List.Sorted.{IsStrictlySortedBy}
use Rattle.std.specs.Ordering.{nat_cmp}
use Rattle.std.specs.Cmp.{tied_itself}
use Rattle.std.specs.declared.cmp.Ordering.TheVariants.{Less, Equal}
use Rattle.std.proofs.lemmas.Bool.{cases_lt}
use Rattle.std.proofs.lemmas.Cmp.{nat_cmp_total}
use Rattle.std.proofs.lemmas.Grind.{get_or_default_zero}
use Rattle.std.proofs.lemmas.List.{append_assoc, append-nil, get_or-take, length-take-le, take_all, take_more}
use Rattle.std.proofs.lemmas.List.Elements.{Contains-append_left, Contains-push, Contains-push_cases}
use Rattle.std.proofs.lemmas.Map.Keys.{Less-from_sorted}
use Rattle.ba_classes.proofs.UnusedLemmas.{Contains-cases}
use Rattle.ba_classes.specs.Image.{IsGreatest, IsGreatestUnused, IsLeast, IsLeastUnused, IsValueBetween}
use Rattle.ba_facts.specs.Known.{Known, Chain, OneClass, Rise, ShownGap, at_most, first, itself, joined, less, none, number, turned, within}
use Rattle.ba_facts.specs.Knowing.{IsLeastOf}
use Rattle.ba_facts.specs.Members.{AreMembers}
use Rattle.ba_facts.specs.declared.term.Lesson.{Lesson}
use Rattle.ba_facts.specs.declared.term.Lesson.TheVariants.{Same}
use Rattle.ba_facts.specs.declared.term.Term.{Term}
use Rattle.ba_facts.specs.declared.term.Term.TheVariants.{Unknown, Val}
use Rattle.ba_facts.specs.declared.term.TermAtom.{TermAtom}
use Rattle.ba_model.proofs.ElementLemmas.{Contains-head, Contains-later, Contains-nil}
use Rattle.ba_model.specs.declared.value.Value.{Value}
use Rattle.ba_model.specs.declared.value.Value.TheVariants.{Int}
use Rattle.ba_refute.specs.Compared.{ComparesClass, HaveCompared, HaveMore, IsCompared, IsNumbered, IsOfOrder, TellsOfClass, alone, compared}
use Rattle.ba_refute.specs.Images.{AreNumbers, IsLowerBound, IsNode, IsNumberOf, IsUpperBound, with_zero}
use Rattle.ba_refute.specs.Used.{AreWith, HaveSame}
use Rattle.ba_refute.proofs.NumberLemmas.{numbers-more, with_zero-push}

-- ---- chains

module _ (k : Known) (t : Term) (bare : (v : Value) → OneClass k t (Val v) → ⊥) where
  -- a chain from the class of a term stays in it, or the term is compared
  pub chain_from : {a b : Term} {s : ℤ} → OneClass k t a → Chain k a s b → OneClass k t b ⊎ IsCompared k t
  chain_from class none = inl class
  chain_from class (first (within h) rest) = chain_from (joined class h) rest
  chain_from class (first (at_most h) rest) = inr (record { lesson = _; learned = h; tells = (tt, inl class) })
  chain_from class (first (less h) rest) = inr (record { lesson = _; learned = h; tells = (tt, inl class) })
  chain_from class (first (number {n = n}) rest) = absurd (bare (Int n) class)

  -- and so one to it
  rise_to : {a b : Term} {s : ℤ} → Rise k a s b → OneClass k t b → OneClass k t a ⊎ IsCompared k t
  rise_to (within h) class = inl (joined class (turned h))
  rise_to (at_most h) class = inr (record { lesson = _; learned = h; tells = (tt, inr class) })
  rise_to (less h) class = inr (record { lesson = _; learned = h; tells = (tt, inr class) })
  rise_to (number {m = m}) class = absurd (bare (Int m) class)

  pub chain_to : {a b : Term} {s : ℤ} → Chain k a s b → OneClass k t b → OneClass k t a ⊎ IsCompared k t
  chain_to none class = inl class
  chain_to (first rise rest) class = ⊎_elim (λ (mid : OneClass k t _). rise_to rise mid) (λ (is : IsCompared k t). inr is) (chain_to rest class)

-- ---- which are compared

pub on_ok : {V E P Q : Type 0} (found : Result V E) → (P → Q) → OnOk found P → OnOk found Q
on_ok (Ok it) by h = by h
on_ok (Err e) by h = h

-- each of the unknowns up to the next is there
pub all_next : (old found new unknowns : List ℕ) (i : ℕ) → i < length unknowns → ((n : ℕ) → Contains old n ⊎ Contains (take i unknowns) n → Contains found n) →
    ((n : ℕ) → Contains new n ↔ (Contains found n ⊎ (n ≡ get_or unknowns i 0))) → (n : ℕ) → Contains old n ⊎ Contains (take (i + 1) unknowns) n → Contains new n
all_next old found new unknowns i there so_far with n (inl h) = (with n).1 (inl (so_far n (inl h)))
all_next old found new unknowns i there so_far with n (inr h) =
    ⊎_elim
    (λ (was : Contains (take i unknowns) n). (with n).1 (inl (so_far n (inr was))))
    (λ (e : get_or unknowns i 0 ≡ n). (with n).1 (inr (sym e)))
    (Contains-push_cases (take i unknowns) (get_or unknowns i 0) n (subst (λ xs. Contains xs n) (take_more unknowns i 0 there) h))

pub least_one : (k : Known) (n u least : ℕ) → IsNode k n → IsLeastOf k u least → OneClass k (Unknown n) (Unknown u) → n ≡ least
least_one k n u least node is class =
    ⊎_elim
    (λ (h : n < least). absurd (is.none_less n h (turned class)))
    (λ (upto : least ≤ n). ⊎_elim
    (λ (h : least < n). absurd (node.least.least least h (joined class is.one_class)))
    (λ (past : n ≤ least). let e : n ≡ least = omega (arith, upto, past) in e)
    (cases_lt least n))
    (cases_lt n least)

pub more_least : (k : Known) (u least : ℕ) (old new : List ℕ) → IsLeastOf k u least → ((n : ℕ) → Contains new n ↔ (Contains old n ⊎ (n ≡ least))) → HaveMore k (λ t. OneClass k t (Unknown u)) old new
more_least k u least old new is with = record { kept = λ n h. (with n).1 (inl h); found = λ n node class. (with n).1 (inr (least_one k n u least node is class)) }

pub more_none : (k : Known) (v : Value) (old : List ℕ) → HaveMore k (λ t. OneClass k t (Val v)) old old
more_none k v old = record { kept = λ n h. h; found = λ n node class. absurd (node.free.no_literal v class) }

pub more_members : (k : Known) (t : Term) (members old new : List ℕ) → AreMembers k t members → ((n : ℕ) → Contains old n ⊎ Contains members n → Contains new n) → HaveMore k (λ s. OneClass k s t) old new
more_members k t members old new are all = record { kept = λ n h. all n (inl h); found = λ n node class. all n (inr ((are n).1 (turned class))) }

pub more_both : (k : Known) (atom : TermAtom) (old mid new : List ℕ) → HaveMore k (λ t. OneClass k t atom.left) old mid → HaveMore k (λ t. OneClass k t atom.right) mid new → HaveMore k (ComparesClass k atom) old new
more_both k atom old mid new left right = record {
  kept = λ n h. right.kept n (left.kept n h);
  found = λ n node tells. ⊎_elim
      (λ (class : OneClass k (Unknown n) atom.left). right.kept n (left.found n node class))
      (λ (class : OneClass k (Unknown n) atom.right). right.found n node class)
      tells.1;
}

pub more_other : (k : Known) (atom : TermAtom) (old : List ℕ) → ¬ (IsOfOrder atom.op) → HaveMore k (ComparesClass k atom) old old
more_other k atom old other = record { kept = λ n h. h; found = λ n node tells. absurd (other tells.0) }

pub more_same : (k : Known) (a b : Term) (old : List ℕ) → HaveMore k (TellsOfClass k (Same a b)) old old
more_same k a b old = record { kept = λ n h. h; found = λ n node tells. absurd tells }

-- those that the first lessons tell of are there
abbrev pub HaveTold : Known → List Lesson → ℕ → List ℕ → Type 0
HaveTold k lessons i found = (n : ℕ) (lesson : Lesson) → IsNode k n → Contains (take i lessons) lesson → TellsOfClass k lesson (Unknown n) → Contains found n

pub told_none : (k : Known) (lessons : List Lesson) (found : List ℕ) → HaveTold k lessons 0 found
told_none k lessons found n lesson node h tells = absurd (Contains-nil lesson h)

pub told_next : (k : Known) (lessons : List Lesson) (i : ℕ) (lesson : Lesson) (found new : List ℕ) → i < length lessons → lesson ≡ get_or lessons i lesson → HaveTold k lessons i found → HaveMore k (TellsOfClass k lesson) found new →
    HaveTold k lessons (i + 1) new
told_next k lessons i lesson found new there is so_far more n other node h tells =
    ⊎_elim
    (λ (was : Contains (take i lessons) other). more.kept n (so_far n other node was tells))
    (λ (e : get_or lessons i lesson ≡ other). more.found n node (subst (λ it. TellsOfClass k it (Unknown n)) (sym e ∙ sym is) tells))
    (Contains-push_cases (take i lessons) (get_or lessons i lesson) other (subst (λ xs. Contains xs other) (take_more lessons i lesson there) h))

pub told_all : (k : Known) (lessons : List Lesson) (i : ℕ) (found : List ℕ) → lessons ≡ k.learned → length lessons ≤ i → HaveTold k lessons i found → HaveCompared k found
told_all k lessons i found same past so_far n node is =
    so_far n is.lesson node (subst (λ xs. Contains xs is.lesson) (sym same ∙ sym (take_all i lessons past)) is.learned) is.tells

-- ---- nodes

pub one_node : (k : Known) (m n : ℕ) → IsNode k m → IsNode k n → OneClass k (Unknown m) (Unknown n) → m ≡ n
one_node k m n left right class =
    ⊎_elim
    (λ (h : m < n). absurd (right.least.least m h (turned class)))
    (λ (upto : n ≤ m). ⊎_elim
    (λ (h : n < m). absurd (left.least.least n h class))
    (λ (past : m ≤ n). let e : m ≡ n = omega (arith, upto, past) in e)
    (cases_lt n m))
    (cases_lt m n)

pub before : (nodes : List ℕ) (i m : ℕ) → Contains (take i nodes) m → Contains nodes m
before nodes i m h =
    ⊎_elim
    (λ (inside : i < length nodes).
    let len : length (take i nodes) ≡ i = length-take-le i nodes (omega (arith, inside)) in
    let low : h.0 < i = omega (arith, h.1, len) in
    let there : h.0 < length nodes = omega (arith, low, inside) in
    let found : Contains nodes m = (h.0, there, sym (get_or-take i nodes h.0 m low) ∙ h.2) in
    found)
    (λ (past : length nodes ≤ i). subst (λ xs. Contains xs m) (take_all i nodes past) h)
    (cases_lt i (length nodes))

-- a node isn't among those before it
pub not_before : (nodes : List ℕ) (i : ℕ) → IsStrictlySortedBy nat_cmp nodes → i < length nodes → ¬ (Contains (take i nodes) (get_or nodes i 0))
not_before nodes i rising there early =
    let n = get_or nodes i 0 in
    let j : ℕ = early.0 in
    let low : j < i = search (rules, early.1) in
    let at : get_or nodes j n ≡ n = sym (get_or-take i nodes j n low) ∙ early.2 in
    let here : get_or nodes i n ≡ n = get_or_default_zero nodes i n there in
    let rises : nat_cmp (get_or nodes j n) (get_or nodes i n) ≡ Less = Less-from_sorted nat_cmp nodes j i n rising low there in
    let same : nat_cmp n n ≡ Less = subst (λ x. nat_cmp n x ≡ Less) here (subst (λ x. nat_cmp x (get_or nodes i n) ≡ Less) at rises) in
    let no : Less ≡ Equal = sym same ∙ tied_itself nat_cmp_total n in
    absurd cc

-- ---- bounds from those that are valued

-- zero and each node that is compared has its value among these, and they have no other
pub record AreValuedOf (k : Known) (nodes : List ℕ) (values : List ℤ) (valued : List (Term × ℤ)) : Type 0 where
  pub sound : (p : Term × ℤ) → Contains valued p → Contains (with_zero nodes values) p
  pub complete : (p : Term × ℤ) → Contains (with_zero nodes values) p → (p.0 ≡ Val (Int (pos 0))) ⊎ IsCompared k p.0 → Contains valued p

-- a pair of nodes with their values is of a node
pair_node : (xs : List ℕ) (vs : List ℤ) (p : Term × ℤ) → Contains (zip (map Unknown xs) vs) p → (m : ℕ) × (Contains xs m × (p.0 ≡ Unknown m))
pair_node [] vs p h = absurd (Contains-nil p h)
pair_node (x ∷ xs) [] p h = absurd (Contains-nil p h)
pair_node (x ∷ xs) (v ∷ vs) p h =
    ⊎_elim
    (λ (e : (Unknown x, v) ≡ p). (x, (Contains-head x xs, sym (ap (λ (q : Term × ℤ). q.0) e))))
    (λ (later : Contains (zip (map Unknown xs) vs) p).
    let it = pair_node xs vs p later in (it.0, (Contains-later x xs it.0 (it.1).0, (it.1).1)))
    (Contains-cases p (Unknown x, v) (zip (map Unknown xs) vs) h)

module _ (k : Known) (nodes : List ℕ) (values : List ℤ) (all : (m : ℕ) → Contains nodes m → IsNode k m) (n : ℕ) (node : IsNode k n) (new : ¬ (Contains nodes n)) where
  -- what a term that has a value is to the node
  IsApart : Term → Type 0
  IsApart t = OneClass k (Unknown n) t → ⊥

  zero_or_node : (p : Term × ℤ) → Contains (with_zero nodes values) p → (p.0 ≡ Val (Int (pos 0))) ⊎ ((m : ℕ) × (Contains nodes m × (p.0 ≡ Unknown m)))
  zero_or_node p h =
      ⊎_elim
      (λ (e : (Val (Int (pos 0)), pos 0) ≡ p). inl (sym (ap (λ (q : Term × ℤ). q.0) e)))
      (λ (later : Contains (zip (map Unknown nodes) values) p). inr (pair_node nodes values p later))
      (Contains-cases p (Val (Int (pos 0)), pos 0) (zip (map Unknown nodes) values) h)

  apart : (p : Term × ℤ) → Contains (with_zero nodes values) p → OneClass k (Unknown n) p.0 → ⊥
  apart p h class =
      ⊎_elim
      (λ (e : p.0 ≡ Val (Int (pos 0))). node.free.no_literal (Int (pos 0)) (subst (OneClass k (Unknown n)) e class))
      (λ (it : (m : ℕ) × (Contains nodes m × (p.0 ≡ Unknown m))).
      let same : n ≡ it.0 = one_node k n it.0 node (all it.0 (it.1).0) (subst (OneClass k (Unknown n)) (it.1).1 class) in
      new (subst (Contains nodes) (sym same) (it.1).0))
      (zero_or_node p h)

  -- a term that bounds the node is zero or compared
  bounds : (p : Term × ℤ) → Contains (with_zero nodes values) p → ((m : ℕ) → p.0 ≡ Unknown m → IsNode k m → OneClass k (Unknown m) (Unknown n) ⊎ IsCompared k (Unknown m)) →
      (p.0 ≡ Val (Int (pos 0))) ⊎ IsCompared k p.0
  bounds p h by =
      ⊎_elim
      (λ (e : p.0 ≡ Val (Int (pos 0))). inl e)
      (λ (it : (m : ℕ) × (Contains nodes m × (p.0 ≡ Unknown m))).
      let m_node : IsNode k it.0 = all it.0 (it.1).0 in
      ⊎_elim
      (λ (class : OneClass k (Unknown it.0) (Unknown n)). absurd (apart p h (subst (OneClass k (Unknown n)) (sym (it.1).1) (turned class))))
      (λ (is : IsCompared k (Unknown it.0)). inr (subst (IsCompared k) (sym (it.1).1) is))
      (by it.0 (it.1).1 m_node))
      (zero_or_node p h)

  bound_below : (p : Term × ℤ) (g : ℤ) → Contains (with_zero nodes values) p → ShownGap k p.0 g (Unknown n) → (p.0 ≡ Val (Int (pos 0))) ⊎ IsCompared k p.0
  bound_below p g h shown =
      bounds p h (λ m e is. chain_from k (Unknown m) is.free.no_literal (subst (λ x. OneClass k (Unknown m) x) (sym e) itself) shown.chain)

  bound_above : (p : Term × ℤ) (g : ℤ) → Contains (with_zero nodes values) p → ShownGap k (Unknown n) g p.0 → (p.0 ≡ Val (Int (pos 0))) ⊎ IsCompared k p.0
  bound_above p g h shown =
      bounds p h (λ m e is. chain_to k (Unknown m) is.free.no_literal shown.chain (subst (λ x. OneClass k (Unknown m) x) (sym e) itself))

  module _ (valued : List (Term × ℤ)) (are : AreValuedOf k nodes values valued) where
    low_all : (c : ℤ) → IsLowerBound k valued (Unknown n) c → IsLowerBound k (with_zero nodes values) (Unknown n) c
    low_all c b = record { other = b.other; value = b.value; gap = b.gap; has_value = are.sound (b.other, b.value) b.has_value; shown = b.shown; enough = b.enough }

    low_some : (c : ℤ) → IsLowerBound k (with_zero nodes values) (Unknown n) c → IsLowerBound k valued (Unknown n) c
    low_some c b = record {
      other = b.other;
      value = b.value;
      gap = b.gap;
      has_value = are.complete (b.other, b.value) b.has_value (bound_below (b.other, b.value) b.gap b.has_value b.shown);
      shown = b.shown;
      enough = b.enough;
    }

    high_all : (c : ℤ) → IsUpperBound k valued (Unknown n) c → IsUpperBound k (with_zero nodes values) (Unknown n) c
    high_all c b = record { other = b.other; value = b.value; gap = b.gap; has_value = are.sound (b.other, b.value) b.has_value; shown = b.shown; enough = b.enough }

    high_some : (c : ℤ) → IsUpperBound k (with_zero nodes values) (Unknown n) c → IsUpperBound k valued (Unknown n) c
    high_some c b = record {
      other = b.other;
      value = b.value;
      gap = b.gap;
      has_value = are.complete (b.other, b.value) b.has_value (bound_above (b.other, b.value) b.gap b.has_value b.shown);
      shown = b.shown;
      enough = b.enough;
    }

    greatest_all : (low : Option ℤ) → IsGreatest (IsLowerBound k valued (Unknown n)) low → IsGreatest (IsLowerBound k (with_zero nodes values) (Unknown n)) low
    greatest_all None is = λ c b. is c (low_some c b)
    greatest_all (Some m) is = (low_all m is.0, λ c b. is.1 c (low_some c b))

    least_all : (high : Option ℤ) → IsLeast (IsUpperBound k valued (Unknown n)) high → IsLeast (IsUpperBound k (with_zero nodes values) (Unknown n)) high
    least_all None is = λ c b. is c (high_some c b)
    least_all (Some m) is = (high_all m is.0, λ c b. is.1 c (high_some c b))

    pub bounded : (used : List ℤ) (value : ℤ) → IsNumberOf k valued used (Unknown n) value → IsNumberOf k (with_zero nodes values) used (Unknown n) value
    bounded used value is = record { low = is.low; high = is.high; low_is = greatest_all is.low is.low_is; high_is = least_all is.high is.high_is; between = is.between }

  -- one that isn't compared has none
  pub unbounded : (used : List ℤ) (value : ℤ) → ¬ (IsCompared k (Unknown n)) → IsLeastUnused used (pos 0) value → IsNumberOf k (with_zero nodes values) used (Unknown n) value
  unbounded used value free is = record {
    low = None;
    high = None;
    low_is = λ c b. ⊎_elim
        (λ (class : OneClass k (Unknown n) b.other). apart (b.other, b.value) b.has_value class)
        (λ (it : IsCompared k (Unknown n)). free it)
        (chain_to k (Unknown n) node.free.no_literal b.shown.chain itself);
    high_is = λ c b. ⊎_elim
        (λ (class : OneClass k (Unknown n) b.other). apart (b.other, b.value) b.has_value class)
        (λ (it : IsCompared k (Unknown n)). free it)
        (chain_from k (Unknown n) node.free.no_literal itself b.shown.chain);
    between = is;
  }

-- ---- numbers that are used

module _ (xs ys : List ℤ) (same : HaveSame xs ys) where
  least_same : (low value : ℤ) → IsLeastUnused xs low value → IsLeastUnused ys low value
  least_same low value is = record { from = is.from; unused = λ h. is.unused ((same value).1 h); passed = λ n h g. (same n).0 (is.passed n h g) }

  greatest_same : (high value : ℤ) → IsGreatestUnused xs high value → IsGreatestUnused ys high value
  greatest_same high value is = record { upto = is.upto; unused = λ h. is.unused ((same value).1 h); passed = λ n h g. (same n).0 (is.passed n h g) }

  between_same : (low high : Option ℤ) (value : ℤ) → IsValueBetween xs low high value → IsValueBetween ys low high value
  between_same None None value is = least_same (pos 0) value is
  between_same (Some low) None value is = least_same low value is
  between_same None (Some high) value is = greatest_same high value is
  between_same (Some low) (Some high) value (inl is) = inl (least_same low value is.0, is.1)
  between_same (Some low) (Some high) value (inr is) = inr (λ n h g. (same n).0 (is.0 n h g), is.1)

  number_same : (k : Known) (valued : List (Term × ℤ)) (t : Term) (value : ℤ) → IsNumberOf k valued xs t value → IsNumberOf k valued ys t value
  number_same k valued t value is = record { low = is.low; high = is.high; low_is = is.low_is; high_is = is.high_is; between = between_same is.low is.high value is.between }

same_push : (taken new used values : List ℤ) (value : ℤ) → HaveSame taken (used ++ values) → AreWith taken value new → HaveSame new (used ++ (values ++ value ∷ []))
same_push taken new used values value same with =
    subst (HaveSame new) (append_assoc used values (value ∷ [])) (λ n. (
      λ h. ⊎_elim
          (λ (was : Contains taken n). Contains-append_left (used ++ values) _ _ ((same n).0 was))
          (λ (e : n ≡ value). subst (Contains ((used ++ values) ++ value ∷ [])) (sym e) (Contains-push (used ++ values) value))
          ((with n).0 h),
      λ h. ⊎_elim
          (λ (was : Contains (used ++ values) n). (with n).1 (inl ((same n).1 was)))
          (λ (e : value ≡ n). (with n).1 (inr (sym e)))
          (Contains-push_cases (used ++ values) value n h),
    ))

-- ---- the numbers so far

-- what the loop over the nodes keeps once the first ones have numbers
pub record IsSoFar (k : Known) (used : List ℤ) (nodes : List ℕ) (valued : List (Term × ℤ)) (taken values : List ℤ) : Type 0 where
  pub valued_are : AreValuedOf k nodes values valued
  pub taken_are : HaveSame taken (used ++ values)
  pub numbers : AreNumbers k used nodes values

pub so_far_none : (k : Known) (used taken : List ℤ) → HaveSame taken used → IsSoFar k used [] ((Val (Int (pos 0)), pos 0) ∷ []) taken []
so_far_none k used taken same = record {
  valued_are = record { sound = λ p h. h; complete = λ p h is. h };
  taken_are = subst (HaveSame taken) (sym (append-nil used)) same;
  numbers = record { len = refl; each = λ i h. absurd (omega (arith, h)) };
}

module _ (k : Known) (nodes : List ℕ) (values : List ℤ) (n : ℕ) (value : ℤ) (len : length values ≡ length nodes) (old new : List (Term × ℤ)) (are : AreValuedOf k nodes values old) where
  abbrev pair : Term × ℤ
  pair = (Unknown n, value)

  pushed : with_zero (nodes ++ n ∷ []) (values ++ value ∷ []) ≡ with_zero nodes values ++ pair ∷ []
  pushed = with_zero-push nodes values n value len

  valued_more : new ≡ old ++ pair ∷ [] → AreValuedOf k (nodes ++ n ∷ []) (values ++ value ∷ []) new
  valued_more e =
      let made : AreValuedOf k (nodes ++ n ∷ []) (values ++ value ∷ []) (old ++ pair ∷ []) = record {
        sound = λ p h. subst (λ ps. Contains ps p) (sym pushed) (⊎_elim
            (λ (was : Contains old p). Contains-append_left (with_zero nodes values) _ _ (are.sound p was))
            (λ (is : pair ≡ p). subst (Contains (with_zero nodes values ++ pair ∷ [])) is (Contains-push (with_zero nodes values) pair))
            (Contains-push_cases old pair p h));
        complete = λ p h is. ⊎_elim
            (λ (was : Contains (with_zero nodes values) p). Contains-append_left old _ _ (are.complete p was is))
            (λ (same : pair ≡ p). subst (Contains (old ++ pair ∷ [])) same (Contains-push old pair))
            (Contains-push_cases (with_zero nodes values) pair p (subst (λ ps. Contains ps p) pushed h));
      } in
      subst (AreValuedOf k (nodes ++ n ∷ []) (values ++ value ∷ [])) (sym e) made

  no_zero : pair.0 ≡ Val (Int (pos 0)) → ⊥
  no_zero e = cc

  valued_stays : ¬ (IsCompared k (Unknown n)) → new ≡ old → AreValuedOf k (nodes ++ n ∷ []) (values ++ value ∷ []) new
  valued_stays free e =
      let made : AreValuedOf k (nodes ++ n ∷ []) (values ++ value ∷ []) old = record {
        sound = λ p h. subst (λ ps. Contains ps p) (sym pushed) (Contains-append_left (with_zero nodes values) _ _ (are.sound p h));
        complete = λ p h is. ⊎_elim
            (λ (was : Contains (with_zero nodes values) p). are.complete p was is)
            (λ (same : pair ≡ p).
            let first_same : Unknown n ≡ p.0 = ap (λ (q : Term × ℤ). q.0) same in
            ⊎_elim
            (λ (zero_is : p.0 ≡ Val (Int (pos 0))). absurd (no_zero (first_same ∙ zero_is)))
            (λ (it : IsCompared k p.0). absurd (free (subst (IsCompared k) (sym first_same) it)))
            is)
            (Contains-push_cases (with_zero nodes values) pair p (subst (λ ps. Contains ps p) pushed h));
      } in
      subst (AreValuedOf k (nodes ++ n ∷ []) (values ++ value ∷ [])) (sym e) made

pub so_far_more : (k : Known) (used : List ℤ) (nodes : List ℕ) (old new : List (Term × ℤ)) (taken after values : List ℤ) (n : ℕ) (value : ℤ) →
    ((m : ℕ) → Contains nodes m → IsNode k m) → IsNode k n → ¬ (Contains nodes n) → IsSoFar k used nodes old taken values → IsNumbered k taken n old value new → AreWith taken value after →
    IsSoFar k used (nodes ++ n ∷ []) new after (values ++ value ∷ [])
so_far_more k used nodes old new taken after values n value all node fresh so_far (compared is e) with = record {
  valued_are = valued_more k nodes values n value so_far.numbers.len old new so_far.valued_are e;
  taken_are = same_push taken after used values value so_far.taken_are with;
  numbers = numbers-more k used nodes values n value so_far.numbers
      (number_same taken (used ++ values) so_far.taken_are k (with_zero nodes values) (Unknown n) value (bounded k nodes values all n node fresh old so_far.valued_are taken value is));
}
so_far_more k used nodes old new taken after values n value all node fresh so_far (alone free is e) with = record {
  valued_are = valued_stays k nodes values n value so_far.numbers.len old new so_far.valued_are free e;
  taken_are = same_push taken after used values value so_far.taken_are with;
  numbers = numbers-more k used nodes values n value so_far.numbers
      (number_same taken (used ++ values) so_far.taken_are k (with_zero nodes values) (Unknown n) value (unbounded k nodes values all n node fresh taken value free is));
}
