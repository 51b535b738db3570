-- A proof's own context and literals are an instance of its template.
use Rattle.std.proofs.Common.{◌≡◌, ◌≢◌, ℕ, suc, ◌+◌, List, [], ◌∷◌, ◌++◌, length, map, refl, sym, ap, ap₂, ◌∙◌, subst, arith}
use Rattle.std.proofs.lemmas.List.Elements.{All-append, All-cons, All-head, All-nil, All-tail}
use Rattle.std.specs.List.{AllZip, flat_map, range_with_len, zip}
use Rattle.std.specs.Prelude.{All, Option, Some, None, slice_get}
use Rattle.ba_facts.specs.Fits.{Instance, value_of_term}
use Rattle.ba_facts.specs.Matches.{Under, term_of}
use Rattle.ba_facts.specs.declared.term.Term.{Term}
use Rattle.ba_facts.specs.declared.term.Term.TheVariants as terms
use Rattle.ba_kernel.specs.Problems.{HoldsOf, param_is, query_at}
use Rattle.ba_kernel.specs.SearchStates.{Proof}
use Rattle.ba_kernel.specs.declared.problem.Problem.{Problem}
use Rattle.ba_kernel.specs.declared.step.Step.{Step}
use Rattle.ba_model.specs.Conform.{IsOfKind}
use Rattle.ba_model.specs.Fit.{ContextFits, kinds_of}
use Rattle.ba_model.specs.Meaning.{Compares}
use Rattle.ba_model.specs.declared.policy.Policy.{Policy}
use Rattle.ba_model.specs.declared.query.Atom.{Atom}
use Rattle.ba_model.specs.declared.query.Op.{Op}
use Rattle.ba_model.specs.declared.query.Op.TheVariants.{Eq, Ne, Lt}
use Rattle.ba_model.specs.declared.query.Operand.{Operand}
use Rattle.ba_model.specs.declared.query.Operand.TheVariants.{Val, Param, Var}
use Rattle.ba_model.specs.declared.schema.Kind.{Kind}
use Rattle.ba_model.specs.declared.value.Value.{Value}
use Rattle.ba_model.specs.declared.value.Value.TheVariants.{Null, Int}
use Rattle.ba_template.specs.Found.{with_values}
use Rattle.ba_general.proofs.LeftLemmas.{condition_some, some_have}
use Rattle.ba_general.proofs.PatternFitsLemmas.{not_null}
use Rattle.ba_general.specs.Conditions.{AddsOnes, HasParams, IsCondition, IsFull, IsLessOf, IsOne, IsPairOf, fixed_of, operands_with, pairs, parameters, sided, those, valued, variables}
use Rattle.ba_general.specs.Generals.{IsGeneralised, IsOfQuestion, OwnInstance}
use Rattle.ba_general.specs.Patterns.{entry_at}
use Rattle.ba_general.specs.declared.condition.Group.{Group}
use Rattle.ba_general.specs.declared.condition.Group.TheVariants.{Fixed, Less, Apart, Equal}
use Rattle.ba_general.specs.declared.pattern.Valued.{Valued}

-- ---- what each atom of the full condition has, where each operand has Q

module _ (Q : Valued → Type 0) (P : Atom → Type 0) (one_has : (x : Valued) → Q x → P (fixed_of x))
    (two_have : (group : Group) (x y : Valued) (atom : Atom) → Q x → Q y → IsPairOf group x y atom → P atom) where
  fixed_have : (xs : List Valued) → All Q xs → All P (map fixed_of xs)
  fixed_have [] h = All-nil P
  fixed_have (x ∷ xs) h = All-cons P (fixed_of x) (map fixed_of xs) (one_has x (All-head Q x xs h)) (fixed_have xs (All-tail Q x xs h))

  those_have : (group : Group) (x y : Valued) (one : Option Atom) → Q x → Q y → IsOne group (x, y) one → All P (those one)
  those_have group x y None h k is = All-nil P
  those_have group x y (Some atom) h k is = All-cons P atom [] (two_have group x y atom h k is) (All-nil P)

  abbrev Both : Valued × Valued → Type 0
  Both two = Q two.0 × Q two.1

  with_each : (x : Valued) (ys : List Valued) → Q x → All Q ys → All Both (map (λ y. (x, y)) ys)
  with_each x [] h k = All-nil Both
  with_each x (y ∷ ys) h k = All-cons Both (x, y) (map (λ z. (x, z)) ys) (h, All-head Q y ys k) (with_each x ys h (All-tail Q y ys k))

  pairs_have : (xs : List Valued) → All Q xs → All Both (pairs xs)
  pairs_have [] h = All-nil Both
  pairs_have (x ∷ xs) h =
      All-append Both (map (λ y. (x, y)) xs) (pairs xs) (with_each x xs (All-head Q x xs h) (All-tail Q x xs h)) (pairs_have xs (All-tail Q x xs h))

  ones_have : (group : Group) (twos : List (Valued × Valued)) (ones : List (Option Atom)) → All Both twos → AllZip (IsOne group) twos ones → All P (flat_map those ones)
  ones_have group [] [] h k = All-nil P
  ones_have group [] (one ∷ ones) h k = absurd k
  ones_have group ((x, y) ∷ twos) [] h k = absurd k
  ones_have group ((x, y) ∷ twos) (one ∷ ones) h k =
      let here : Both (x, y) = All-head Both (x, y) twos h in
      All-append P (those one) (flat_map those ones) (those_have group x y one here.0 here.1 k.0) (ones_have group twos ones (All-tail Both (x, y) twos h) k.1)

  group_has : (group : Group) (operands : List Valued) (atoms : List Atom) → All Q operands → AddsOnes group (pairs operands) [] atoms → All P atoms
  group_has group operands atoms h k = subst (All P) (sym k.new_is) (ones_have group (pairs operands) k.ones (pairs_have operands h) k.each)

  pub full_has : (operands : List Valued) (fixed less apart equal : List Atom) → All Q operands → IsFull operands fixed less apart equal →
      All P (fixed ++ less ++ apart ++ equal)
  full_has operands fixed less apart equal h full =
      All-append P (fixed ++ less ++ apart) equal
      (All-append P (fixed ++ less) apart
      (All-append P fixed less (subst (All P) (sym full.fixed_are) (fixed_have operands h)) (group_has Less operands less h full.less_are))
      (group_has Apart operands apart h full.apart_are))
      (group_has Equal operands equal h full.equal_are)

-- ---- what is true of an instance

module _ (i : Instance) where
  abbrev IsTrueAt : Atom → Type 0
  IsTrueAt = Under (HoldsOf i) []

  -- the operand has its value there, which isn't NULL
  record HasValue (x : Valued) : Type 0 where
    term : Term
    term_is : term_of [] x.operand ≡ Some term
    value_is : value_of_term i [] term ≡ Some x.value
    some_value : x.value ≢ Null

  fixed_true : (x : Valued) → HasValue x → IsTrueAt (fixed_of x)
  fixed_true x h =
      record {
        left = h.term;
        right = terms.Val x.value;
        left_is = h.term_is;
        right_is = refl;
        holds = record { left = x.value; right = x.value; left_is = h.value_is; right_is = refl; compared = (h.some_value, refl) };
      }

  sided_true : (op : Op) (x y : Valued) → HasValue x → HasValue y → Compares op x.value y.value → IsTrueAt (sided op x y)
  sided_true op x y h k compared =
      record {
        left = h.term;
        right = k.term;
        left_is = h.term_is;
        right_is = k.term_is;
        holds = record { left = x.value; right = y.value; left_is = h.value_is; right_is = k.value_is; compared = compared };
      }

  less_true : (x y : Valued) (atom : Atom) → HasValue x → HasValue y → IsLessOf x y atom → IsTrueAt atom
  less_true x y atom h k (IsLessOf.first {m} p q below) =
      sided_true Lt x y h k (subst (λ (v : Value). Compares Lt v y.value) (sym p) (subst (λ (w : Value). Compares Lt (Int m) w) (sym q) below))
  less_true x y atom h k (IsLessOf.second {n = n} p q below) =
      sided_true Lt y x k h (subst (λ (w : Value). Compares Lt w x.value) (sym q) (subst (λ (v : Value). Compares Lt (Int n) v) (sym p) below))

  pair_true : (group : Group) (x y : Valued) (atom : Atom) → HasValue x → HasValue y → IsPairOf group x y atom → IsTrueAt atom
  pair_true Fixed x y atom h k is = absurd is
  pair_true Less x y atom h k is = less_true x y atom h k is
  pair_true Apart x y atom h k is = subst IsTrueAt (sym is.is) (sided_true Ne x y h k (h.some_value, k.some_value, is.values))
  pair_true Equal x y atom h k is = subst IsTrueAt (sym is.is) (sided_true Eq x y h k (h.some_value, is.values))

  -- operands that are numbered from a number on have the values from there on
  numbered_have : (make : ℕ → Operand) (term : ℕ → Term) → ((n : ℕ) → term_of [] (make n) ≡ Some (term n)) → (kinds : List Kind) (rest : List Value) (a : ℕ) →
      ((k : ℕ) (v : Value) → slice_get rest k ≡ Some v → value_of_term i [] (term (a + k)) ≡ Some v) → AllZip IsOfKind kinds rest →
      All HasValue (map (λ (two : ℕ × Value). valued (make two.0, two.1)) (zip (range_with_len a (length rest)) rest))
  numbered_have make term is kinds [] a at h = All-nil HasValue
  numbered_have make term is [] (v ∷ rest) a at h = absurd h
  numbered_have make term is (kind ∷ kinds) (v ∷ rest) a at h =
      let here : a + 0 ≡ a = omega arith in
      All-cons HasValue (valued (make a, v)) (map (λ (two : ℕ × Value). valued (make two.0, two.1)) (zip (range_with_len (a + 1) (length rest)) rest))
      (record {
        term = term a;
        term_is = is a;
        value_is = subst (λ n. value_of_term i [] (term n) ≡ Some v) here (at 0 v refl);
        some_value = not_null kind v h.0;
      })
      (numbered_have make term is kinds rest (a + 1)
      (λ k w e. let later : a + suc k ≡ (a + 1) + k = omega arith in subst (λ n. value_of_term i [] (term n) ≡ Some w) later (at (suc k) w e)) h.1)

  operands_have : (vars params : List Kind) → AllZip IsOfKind vars i.vars → AllZip IsOfKind params i.context.values → All HasValue (operands_with i.vars i.context.values)
  operands_have vars params h k =
      All-append HasValue (variables i.vars) (parameters i.context.values)
      (numbered_have (λ n. Var n) (λ n. terms.Var n) (λ n. refl) vars i.vars 0
      (λ m v e. let same : m ≡ 0 + m = omega arith in subst (λ n. slice_get i.vars n ≡ Some v) same e) h)
      (numbered_have (λ n. Param n) (λ n. terms.Param n) (λ n. refl) params i.context.values 0
      (λ m v e. let same : m ≡ 0 + m = omega arith in subst (λ n. slice_get i.context.values n ≡ Some v) same e) k)

  -- what is left of the full condition
  condition_true : (g : Problem) (taken : List Step) (operands : List Valued) (condition : List Atom) → All HasValue operands → IsCondition g operands taken condition →
      All IsTrueAt condition
  condition_true g taken operands condition h c =
      some_have IsTrueAt (condition_some g operands taken condition c)
      (full_has HasValue IsTrueAt fixed_true pair_true operands c.fixed c.less c.apart c.equal h c.full)

-- ---- the parameters' values are the context's

abbrev right_of : Atom → Operand
right_of atom = atom.right

params_one : (a : ℕ) (xs ys : List Value) → map param_is (zip (range_with_len a (length xs)) xs) ≡ map param_is (zip (range_with_len a (length ys)) ys) → xs ≡ ys
params_one a [] [] e = refl
params_one a [] (y ∷ ys) e = absurd (let no : ⊥ = cc in no)
params_one a (x ∷ xs) [] e = absurd (let no : ⊥ = cc in no)
params_one a (x ∷ xs) (y ∷ ys) e =
    let here : param_is (a, x) ≡ param_is (a, y) = cc in
    let right : Val x ≡ Val y = ap right_of here in
    let more : map param_is (zip (range_with_len (a + 1) (length xs)) xs) ≡ map param_is (zip (range_with_len (a + 1) (length ys)) ys) = cc in
    let same : x ≡ y = cc in
    ap₂ (λ z zs. z ∷ zs) same (params_one (a + 1) xs ys more)

pub own_params : (p : Problem) (params : List Value) → (question : IsOfQuestion p) → HasParams p params → params ≡ question.context.values
own_params p params question has =
    params_one 0 params question.context.values (sym has.assumed ∙ ap (λ (q : Problem). q.assumed) question.is)

-- ---- the template

pub own_instance : (proof template : Proof) → IsOfQuestion proof.problem → IsGeneralised proof template → OwnInstance proof.problem template
own_instance proof template question h =
    let pattern = h.keeps.pattern in
    let params : h.params ≡ question.context.values = own_params proof.problem h.params question h.has_params in
    let context : ContextFits (kinds_of proof.problem.policy.params) question.context = question.fits.context in
    let condition : IsCondition h.pattern (operands_with h.values question.context.values) template.steps template.problem.assumed =
    subst (λ (vs : List Value). IsCondition h.pattern (operands_with h.values vs) template.steps template.problem.assumed) params h.condition in
    record {
      context = question.context;
      trace = question.trace;
      is = question.is;
      values = h.values;
      instance = record {
        context =
            subst (λ (q : Problem). ContextFits (kinds_of q.policy.params) question.context) (sym h.problem)
            (subst (λ (policy : Policy). ContextFits (kinds_of policy.params) question.context) (sym pattern.policy) context);
        vars = subst (λ (q : Problem). AllZip IsOfKind q.vars h.values) (sym h.problem) pattern.kinds;
        assumed =
            condition_true (with_values question.context h.values) h.pattern template.steps (operands_with h.values question.context.values) template.problem.assumed
            (operands_have (with_values question.context h.values) h.pattern.vars (kinds_of proof.problem.policy.params) pattern.kinds context) condition;
      };
      question = subst (λ (q : Problem). query_at h.values q.goal ≡ proof.problem.goal) (sym h.problem) pattern.goal;
      numbers = h.numbers;
      entries =
          subst (λ (q : Problem). map (λ entry. Some (entry_at h.values entry)) q.entries ≡ map (slice_get proof.problem.entries) h.numbers) (sym h.problem)
          pattern.entries;
    }
