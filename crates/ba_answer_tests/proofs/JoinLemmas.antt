-- A join of two tables of two rows has three visits at most.
use Rattle.std.proofs.Common.{◌≡◌, ℕ, zero, suc, ◌+◌, ◌≤◌, List, [], ◌∷◌, length, Some, None, slice_get, is_some, pos, refl, sym, ap, ◌∙◌, subst, true≢false, arith}
use Rattle.std.proofs.lemmas.List.Elements.{All-contains}
use Rattle.std.specs.List.{AllZip, Contains, sum}
use Rattle.ba_model.specs.Meaning.{Holds, value_of}
use Rattle.ba_model.specs.declared.policy.Context.{Context}
use Rattle.ba_model.specs.declared.query.Op.TheVariants.{Eq}
use Rattle.ba_model.specs.declared.query.Operand.{Operand}
use Rattle.ba_model.specs.declared.query.Operand.TheVariants.{Col, Val}
use Rattle.ba_model.specs.declared.value.Value.{Value}
use Rattle.ba_model.specs.declared.value.Value.TheVariants.{Int}
use Rattle.ba_eval.specs.Visits.{AreAt, HasVisits, IsVisit, MeetsEquations}
use Rattle.ba_answer_tests.specs.JoinSteps.{JoinInSevenSteps, attendances, attended_titles, events, three_tables}
use Rattle.ba_answer_tests.proofs.FewLemmas.{no_more}

none_there : {X : Type 0} (x : X) → None ≡ Some x → ⊥
none_there x e = true≢false (sym (ap is_some e))

numbers : (n m : ℕ) → Some (Int (pos n)) ≡ Some (Int (pos m)) → n ≡ m
numbers n m e = cc

taken : {X : Type 0} (x y : X) → Some x ≡ Some y → x ≡ y
taken x y e = cc

-- both sides of an equation that holds are one value
sides : (c : Context) (rows : List (List Value)) (x y : Operand) → Holds c rows (record { op = Eq; left = x; right = y }) → value_of c rows x ≡ value_of c rows y
sides c rows x y h = h.left_is ∙ (ap Some h.compared.1 ∙ sym h.right_is)

-- an attendance of the user 2 is the first
own_first : (q : ℕ) (s : List Value) → slice_get attendances q ≡ Some s → slice_get s 0 ≡ Some (Int (pos 2)) → q ≡ 0
own_first zero s at is = refl
own_first (suc zero) s at is = absurd (let e = numbers 1 2 (subst (λ r. slice_get r 0 ≡ Some (Int (pos 2))) (sym (taken _ s at)) is) in omega (arith, e))
own_first (suc (suc q)) s at is = absurd (none_there s at)

-- and an event with the number of the first attendance is the first
its_event : (p : ℕ) (r : List Value) → slice_get events p ≡ Some r → slice_get r 0 ≡ Some (Int (pos 5)) → p ≡ 0
its_event zero r at is = refl
its_event (suc zero) r at is = absurd (let e = numbers 6 5 (subst (λ x. slice_get x 0 ≡ Some (Int (pos 5))) (sym (taken _ r at)) is) in omega (arith, e))
its_event (suc (suc p)) r at is = absurd (none_there r at)

-- the number of the first attendance's event
first_event : (q : ℕ) (s : List Value) → q ≡ 0 → slice_get attendances q ≡ Some s → slice_get s 1 ≡ Some (Int (pos 5))
first_event zero s e at = subst (λ x. slice_get x 1 ≡ Some (Int (pos 5))) (taken _ s at) refl
first_event (suc q) s e at = absurd (omega arith)

-- the visits
visits : List (List ℕ)
visits = (0 ∷ []) ∷ (1 ∷ []) ∷ (0 ∷ 0 ∷ []) ∷ []

one_place : (p : ℕ) (rows : List (List Value)) → AreAt three_tables (1 ∷ 2 ∷ []) (p ∷ []) rows → Contains visits (p ∷ [])
unfolding visits
one_place p [] h = absurd h
one_place zero (row ∷ rows) h = (0, omega arith, refl)
one_place (suc zero) (row ∷ rows) h = (1, omega arith, refl)
one_place (suc (suc p)) (row ∷ rows) h = absurd (none_there row h.0)

both_first : (p q : ℕ) → p ≡ 0 → q ≡ 0 → Contains visits (p ∷ q ∷ [])
unfolding visits
both_first zero zero e f = (2, omega arith, refl)
both_first (suc p) q e f = absurd (omega arith)
both_first zero (suc q) e f = absurd (omega arith)

two_places : (c : Context) (p q : ℕ) (rows : List (List Value)) → AreAt three_tables (1 ∷ 2 ∷ []) (p ∷ q ∷ []) rows → MeetsEquations c attended_titles rows → Contains visits (p ∷ q ∷ [])
two_places c p q [] h met = absurd h
two_places c p q (r ∷ []) h met = absurd h.1
two_places c p q (r ∷ s ∷ t ∷ rows) h met = absurd h.1.1
two_places c p q (r ∷ s ∷ []) h met =
    let at = h.1.0 in
    let own = sides c (r ∷ s ∷ []) (Col 1 0) (Val (Int (pos 2))) (met _ (1, omega arith, refl) refl (omega arith) tt) in
    let tied = sides c (r ∷ s ∷ []) (Col 1 1) (Col 0 0) (met _ (0, omega arith, refl) refl (omega arith) (omega arith)) in
    let first = own_first q s at own in
    both_first p q (its_event p r h.0 (sym tied ∙ first_event q s first at)) first

no_third : (p q t : ℕ) (more : List ℕ) (rows : List (List Value)) → AreAt three_tables (1 ∷ 2 ∷ []) (p ∷ q ∷ t ∷ more) rows → ⊥
no_third p q t more [] h = h
no_third p q t more (r ∷ []) h = h.1
no_third p q t more (r ∷ s ∷ rows) h = h.1.1

is_among : (c : Context) (positions : List ℕ) → IsVisit c three_tables attended_titles positions → Contains visits positions
is_among c [] h = absurd (let some = h.some in omega arith)
is_among c (p ∷ []) h = one_place p h.rows h.are
is_among c (p ∷ q ∷ []) h = two_places c p q h.rows h.are h.met
is_among c (p ∷ q ∷ t ∷ more) h = absurd (no_third p q t more h.rows h.are)

three_at_most : (c : Context) (n : ℕ) → HasVisits c three_tables attended_titles n → n ≤ 3
unfolding visits
three_at_most c n h =
    let few : length h.visits ≤ 3 = no_more h.visits visits h.distinct (λ positions there. is_among c positions (All-contains (IsVisit c three_tables attended_titles) h.visits positions h.each there)) in
    let count = h.count in
    omega arith

one_part : (c : Context) (ns : List ℕ) → AllZip (HasVisits c three_tables) (attended_titles ∷ []) ns → sum ns ≤ 3
one_part c [] h = absurd h
one_part c (n ∷ []) h = let few = three_at_most c n h.0 in omega arith
one_part c (n ∷ m ∷ ns) h = absurd h.1

pub seven_steps : JoinInSevenSteps
seven_steps c old new h =
    let few = one_part c h.visits h.each in
    let within : new ≤ old + (sum h.visits + 4) = h.within in
    omega arith
