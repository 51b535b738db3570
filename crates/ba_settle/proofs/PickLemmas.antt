-- Steps that the order doesn't tell apart are one, and so are due lists of one length.
use Rattle.std.proofs.Common.{◌≡◌, ◌∙◌, ℕ, List, [], ◌∷◌, ◌++◌, length, refl, sym, ap, subst, arith}
use Rattle.std.proofs.lemmas.List.{length-append}
use Rattle.std.specs.Cmp.{unsigned_Decides, unsigned_tied}
use Rattle.std.specs.Cmp.Lexicographic.{bytes_decides, slice_cmp, texts_ties}
use Rattle.std.specs.Ordering.{is_eq, nat_cmp, ordering_reverse, ordering_then}
use Rattle.std.specs.declared.cmp.Ordering.{Ordering}
use Rattle.std.specs.declared.cmp.Ordering.TheVariants.{Less, Equal, Greater}
use Rattle.std.specs.Option.{option_cmp}
use Rattle.std.specs.Prelude.{◌≢◌, Option, Some, None, slice_get, unwrap_or}
use Rattle.ba_model.specs.Order.{value_cmp}
use Rattle.ba_model.specs.OrderLaws.{value_decides}
use Rattle.ba_model.specs.declared.query.Op.{Op}
use Rattle.ba_model.specs.declared.query.Op.TheVariants.{Eq, Ne, Lt, Le, IsNull, NotNull}
use Rattle.ba_model.specs.declared.value.Value.{Value}
use Rattle.ba_model.specs.declared.value.Value.TheVariants.{Null}
use Rattle.ba_facts.specs.declared.term.Term.{Term}
use Rattle.ba_facts.specs.declared.term.Term.TheVariants.{Unknown, Val, Param, Var}
use Rattle.ba_facts.specs.declared.term.TermAtom.{TermAtom}
use Rattle.ba_kernel.proofs.OneCase.{start_one, takes_one}
use Rattle.ba_kernel.specs.Courses.{ProblemFits, Slots, Takes, branch_of}
use Rattle.ba_kernel.specs.declared.problem.Problem.{Problem}
use Rattle.ba_kernel.specs.declared.step.Step.{Step}
use Rattle.ba_kernel.specs.declared.step.Step.TheVariants as steps
use Rattle.ba_settle.proofs.OrderLemmas.{pick_total}
use Rattle.ba_settle.specs.Dues.{DueList, IsPicked}
use Rattle.ba_settle.specs.Order.{atom_cmp, op_rank, pick_cmp, step_atom, step_cmp, step_facts, step_numbers, step_rank, term_cmp, term_number, term_rank, term_value}
use Rattle.ba_settle.specs.declared.order.Pick.{Pick}
use Rattle.ba_settle.specs.declared.order.Pick.TheVariants.{First, Last}

inside_inj : {X : Type 0} (x y : X) → Some x ≡ Some y → x ≡ y
inside_inj x y e = cc

-- both of two that are compared one after the other are equal
then_first : (r s : Ordering) → ordering_then r s ≡ Equal → r ≡ Equal
then_first Less s e = e
then_first Equal s e = refl
then_first Greater s e = e

then_second : (r s : Ordering) → ordering_then r s ≡ Equal → s ≡ Equal
then_second Less s e = let wrong : Less ≡ Equal = e in cc
then_second Equal s e = e
then_second Greater s e = let wrong : Greater ≡ Equal = e in cc

nat_equal : (m n : ℕ) → nat_cmp m n ≡ Equal → m ≡ n
nat_equal m n e = (unsigned_Decides m n).0 (sym (unsigned_tied m n) ∙ ap is_eq e)

list_equal : (xs ys : List ℕ) → slice_cmp nat_cmp xs ys ≡ Equal → xs ≡ ys
list_equal xs ys e = (bytes_decides xs ys).0 (texts_ties xs ys ∙ ap is_eq e)

if_any_equal : {X : Type 0} (cmp : X → X → Ordering) → ((x y : X) → cmp x y ≡ Equal → x ≡ y) → (one other : Option X) → option_cmp cmp one other ≡ Equal → one ≡ other
if_any_equal cmp equal None None e = refl
if_any_equal cmp equal None (Some y) e = let wrong : Less ≡ Equal = e in cc
if_any_equal cmp equal (Some x) None e = let wrong : Greater ≡ Equal = e in cc
if_any_equal cmp equal (Some x) (Some y) e = ap Some (equal x y e)

value_equal : (v w : Value) → value_cmp v w ≡ Equal → v ≡ w
value_equal v w e = (value_decides v w).0 (ap is_eq e)

-- ---- terms and atoms

abbrev term_from : ℕ → ℕ → Option Value → Option Term
term_from rank number value = slice_get (Unknown number ∷ Val (unwrap_or value Null) ∷ Param number ∷ Var number ∷ []) rank

term_back : (t : Term) → term_from (term_rank t) (term_number t) (term_value t) ≡ Some t
term_back (Unknown n) = refl
term_back (Val v) = refl
term_back (Param n) = refl
term_back (Var n) = refl

term_equal : (t u : Term) → term_cmp t u ≡ Equal → t ≡ u
term_equal t u e =
    let ranks_and_numbers = then_first (ordering_then (nat_cmp (term_rank t) (term_rank u)) (nat_cmp (term_number t) (term_number u))) (option_cmp value_cmp (term_value t) (term_value u)) e in
    let rank = nat_equal (term_rank t) (term_rank u) (then_first (nat_cmp (term_rank t) (term_rank u)) (nat_cmp (term_number t) (term_number u)) ranks_and_numbers) in
    let number = nat_equal (term_number t) (term_number u) (then_second (nat_cmp (term_rank t) (term_rank u)) (nat_cmp (term_number t) (term_number u)) ranks_and_numbers) in
    let value =
    if_any_equal value_cmp value_equal (term_value t) (term_value u)
    (then_second (ordering_then (nat_cmp (term_rank t) (term_rank u)) (nat_cmp (term_number t) (term_number u))) (option_cmp value_cmp (term_value t) (term_value u)) e) in
    inside_inj t u (sym (term_back t) ∙ ((λ i. term_from (rank i) (number i) (value i)) ∙ term_back u))

abbrev op_from : ℕ → Option Op
op_from rank = slice_get (Eq ∷ Ne ∷ Lt ∷ Le ∷ IsNull ∷ NotNull ∷ []) rank

op_back : (op : Op) → op_from (op_rank op) ≡ Some op
op_back Eq = refl
op_back Ne = refl
op_back Lt = refl
op_back Le = refl
op_back IsNull = refl
op_back NotNull = refl

op_equal : (one other : Op) → op_rank one ≡ op_rank other → one ≡ other
op_equal one other e = inside_inj one other (sym (op_back one) ∙ (ap op_from e ∙ op_back other))

atom_equal : (a b : TermAtom) → atom_cmp a b ≡ Equal → a ≡ b
atom_equal a b e =
    let ops_and_lefts = then_first (ordering_then (nat_cmp (op_rank a.op) (op_rank b.op)) (term_cmp a.left b.left)) (term_cmp a.right b.right) e in
    let op = op_equal a.op b.op (nat_equal (op_rank a.op) (op_rank b.op) (then_first (nat_cmp (op_rank a.op) (op_rank b.op)) (term_cmp a.left b.left) ops_and_lefts)) in
    let left = term_equal a.left b.left (then_second (nat_cmp (op_rank a.op) (op_rank b.op)) (term_cmp a.left b.left) ops_and_lefts) in
    let right = term_equal a.right b.right (then_second (ordering_then (nat_cmp (op_rank a.op) (op_rank b.op)) (term_cmp a.left b.left)) (term_cmp a.right b.right) e) in
    λ i. record { op = op i; left = left i; right = right i }

-- ---- steps

module _ (dummy : TermAtom) where
  abbrev step_from : ℕ → ℕ → ℕ → ℕ → ℕ → List ℕ → Option TermAtom → Option Step
  step_from rank branch a b c facts atom =
      slice_get
      (steps.Entry branch a ∷ steps.Key branch a b c ∷ steps.Link branch a b ∷ steps.Rule branch a b facts ∷ steps.View branch a b facts ∷
      steps.Split branch (unwrap_or atom dummy) ∷ steps.Absurd branch ∷ steps.Goal branch a facts ∷ []) rank

  step_back : (s : Step) → step_from (step_rank s) (branch_of s) (step_numbers s).0 (step_numbers s).1 (step_numbers s).2 (step_facts s) (step_atom s) ≡ Some s
  step_back (steps.Entry branch entry) = refl
  step_back (steps.Key branch key left right) = refl
  step_back (steps.Link branch link fact) = refl
  step_back (steps.Rule branch rule part facts) = refl
  step_back (steps.View branch view part facts) = refl
  step_back (steps.Split branch atom) = refl
  step_back (steps.Absurd branch) = refl
  step_back (steps.Goal branch part facts) = refl

  module _ (s t : Step) where
    abbrev branches : Ordering
    branches = nat_cmp (branch_of s) (branch_of t)

    abbrev ranks : Ordering
    ranks = nat_cmp (step_rank s) (step_rank t)

    abbrev firsts : Ordering
    firsts = nat_cmp (step_numbers s).0 (step_numbers t).0

    abbrev seconds : Ordering
    seconds = nat_cmp (step_numbers s).1 (step_numbers t).1

    abbrev thirds : Ordering
    thirds = nat_cmp (step_numbers s).2 (step_numbers t).2

    abbrev all_facts : Ordering
    all_facts = slice_cmp nat_cmp (step_facts s) (step_facts t)

    abbrev atoms : Ordering
    atoms = option_cmp atom_cmp (step_atom s) (step_atom t)

    abbrev kinds : Ordering
    kinds = ordering_then branches ranks

    abbrev numbers : Ordering
    numbers = ordering_then (ordering_then (ordering_then firsts seconds) thirds) all_facts

    equal_by : ordering_then (ordering_then kinds numbers) atoms ≡ Equal → s ≡ t
    equal_by e =
        let most = then_first (ordering_then kinds numbers) atoms e in
        let kind = then_first kinds numbers most in
        let number = then_second kinds numbers most in
        let three = then_first (ordering_then (ordering_then firsts seconds) thirds) all_facts number in
        let two = then_first (ordering_then firsts seconds) thirds three in
        let branch = nat_equal (branch_of s) (branch_of t) (then_first branches ranks kind) in
        let rank = nat_equal (step_rank s) (step_rank t) (then_second branches ranks kind) in
        let a = nat_equal (step_numbers s).0 (step_numbers t).0 (then_first firsts seconds two) in
        let b = nat_equal (step_numbers s).1 (step_numbers t).1 (then_second firsts seconds two) in
        let c = nat_equal (step_numbers s).2 (step_numbers t).2 (then_second (ordering_then firsts seconds) thirds three) in
        let facts = list_equal (step_facts s) (step_facts t) (then_second (ordering_then (ordering_then firsts seconds) thirds) all_facts number) in
        let atom = if_any_equal atom_cmp atom_equal (step_atom s) (step_atom t) (then_second (ordering_then kinds numbers) atoms e) in
        inside_inj s t (sym (step_back s) ∙ ((λ i. step_from (rank i) (branch i) (a i) (b i) (c i) (facts i) (atom i)) ∙ step_back t))

pub step_equal : (s t : Step) → step_cmp s t ≡ Equal → s ≡ t
unfolding step_cmp
step_equal s t e = equal_by (record { op = Eq; left = Unknown 0; right = Unknown 0 }) s t e

pick_equal : (pick : Pick) (s t : Step) → pick_cmp pick s t ≡ Equal → s ≡ t
unfolding pick_cmp
pick_equal First s t e = step_equal s t e
pick_equal Last s t e = sym (step_equal t s e)

neither_way : (r s : Ordering) → r ≡ ordering_reverse s → (r ≢ Greater) → (s ≢ Greater) → r ≡ Equal
neither_way Equal s e h k = refl
neither_way Greater s e h k = absurd (h refl)
neither_way Less Less e h k = let wrong : Less ≡ Greater = e in cc
neither_way Less Equal e h k = e
neither_way Less Greater e h k = absurd (k refl)

pub picked_one : (pick : Pick) (p : Problem) (slots : Slots) (s t : Step) → IsPicked pick p slots s → IsPicked pick p slots t → s ≡ t
picked_one pick p slots s t h k =
    pick_equal pick s t (neither_way (pick_cmp pick s t) (pick_cmp pick t s) ((pick_total pick).antisymm s t) (h.first t k.due) (k.first s h.due))

-- ---- due lists

pushed_one : {X : Type 0} (xs ys : List X) (x y : X) → length (xs ++ x ∷ []) ≡ length (ys ++ y ∷ []) → length xs ≡ length ys
pushed_one xs ys x y e = omega (arith, length-append xs (x ∷ []), length-append ys (y ∷ []), e)

pushed_some : {X : Type 0} (xs : List X) (x : X) → length (xs ++ x ∷ []) ≡ 0 → ⊥
pushed_some xs x e = omega (arith, length-append xs (x ∷ []), e)

module _ (pick : Pick) (p : Problem) (fits : ProblemFits p) where
  next_one : (taken others : List Step) (old ends new last : Slots) (step other : Step) → taken ≡ others → old ≡ ends → IsPicked pick p old step → Takes p old step new →
      IsPicked pick p ends other → Takes p ends other last → (taken ++ step ∷ [] ≡ others ++ other ∷ []) × (new ≡ last)
  next_one taken others old ends new last step other same here h takes k last_takes =
      let one : step ≡ other = picked_one pick p old step other h (subst (λ slots. IsPicked pick p slots other) (sym here) k) in
      let again : Takes p old step last = subst (λ s. Takes p old s last) (sym one) (subst (λ slots. Takes p slots other last) (sym here) last_takes) in
      ((λ i. same i ++ one i ∷ []), takes_one p fits old step new last takes again)

  pub due_one : (taken others : List Step) (slots ends : Slots) → DueList pick p taken slots → DueList pick p others ends → length taken ≡ length others →
      (taken ≡ others) × (slots ≡ ends)
  due_one taken others slots ends (DueList.start h) (DueList.start k) e = (refl, start_one p slots ends h k)
  due_one taken others slots ends (DueList.start h) (DueList.next {taken = before} {step = step} k picked takes) e = absurd (pushed_some before step (sym e))
  due_one taken others slots ends (DueList.next {taken = before} {step = step} h picked takes) (DueList.start k) e = absurd (pushed_some before step e)
  due_one taken others slots ends (DueList.next {taken = before} {step = step} {old = old} h picked takes)
      (DueList.next {taken = earlier} {step = other} {old = there} k others_picked others_takes) e =
      let rest = due_one before earlier old there h k (pushed_one before earlier step other e) in
      next_one before earlier old there slots ends step other rest.0 rest.1 picked takes others_picked others_takes
