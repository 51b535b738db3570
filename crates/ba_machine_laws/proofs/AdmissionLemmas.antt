-- The admissions of the templates that calls on shelves added, call by call.
use mathlib.Core.List.{map-append}
use Rattle.std.proofs.Common.{◌≡◌, ◌≢◌, ◌∙◌, ℕ, ◌<◌, ◌==◌, Bool, true, false, cond, List, [], ◌∷◌, ◌++◌, All, Contains, Some, ap, append-nil, append_assoc, arith, drop, flat_map, inl, inr, length, length-append, map, refl, slice_get, subst, subst₂, sym, take, ◌⊎◌}
use Rattle.std.proofs.lemmas.Bool.Decides.{eqb_tells}
use Rattle.std.proofs.lemmas.List.Concat.{flat_map-append}
use Rattle.std.proofs.lemmas.List.Elements.{All-contains, All-nil, All-push, Contains-append_right, Contains-push_cases}
use Rattle.std.proofs.lemmas.Option.{none-some}
use Rattle.ba_cache.specs.declared.call.Admit.TheVariants.{Added, Known}
use Rattle.ba_cache.specs.declared.call.ShelfCall.{ShelfCall}
use Rattle.ba_cache.specs.declared.call.ShelfCall.TheVariants as calls
use Rattle.ba_core.specs.State.{State}
use Rattle.ba_core.specs.Steps.{Steps}
use Rattle.ba_core.specs.declared.event.CoreReply.{CoreReply}
use Rattle.ba_core.specs.declared.event.CoreReply.TheVariants as replies
use Rattle.ba_core.specs.declared.event.Event.TheVariants as events
use Rattle.ba_kernel.specs.Problems.{StrongAll}
use Rattle.ba_kernel.specs.SearchStates as kernel
use Rattle.ba_lanes.specs.declared.journal.Journal.{Journal}
use Rattle.ba_machine_laws.proofs.AdditionLemmas.{IsLow, Made, addition_at, call_on, calls_at, counted, place_new}
use Rattle.ba_machine_laws.proofs.BetweenLemmas.{differ_false, same_true}
use Rattle.ba_machine_laws.proofs.KeyLemmas.{get_before}
use Rattle.ba_machine_laws.proofs.OneLaneLemmas.{IsFront, IsLast, shelf_front, shelf_last}
use Rattle.ba_machine_laws.proofs.PlaceLemmas.{empty, get_at, get_last}
use Rattle.ba_machine_laws.proofs.TakesLemmas.{Takes, takes_both}
use Rattle.ba_machine_laws.specs.Journals.{templates_in}
use Rattle.ba_machine_laws.specs.OneWorker.{Addition, admission_of, admits, place_among}
use Rattle.ba_machine_laws.specs.Shelves.{added_in, templates_of}

pub admit_only : (t : State) (template : kernel.Proof) (n : ℕ) → n ≡ length t.templates → (other : CoreReply) (next : State) → Steps t (events.Admit template) other next → other ≡ replies.Number n
admit_only t template n is (replies.Number m) next h = ap replies.Number (h.number ∙ sym is)
admit_only t template n is replies.Begun next h = absurd h
admit_only t template n is (replies.Asked it) next h = absurd h
admit_only t template n is (replies.Read allowed) next h = absurd h
admit_only t template n is replies.Ended next h = absurd h
admit_only t template n is (replies.Refused fault) next h = absurd h.0

-- ---- what a machine has of templates that were added

abbrev Sound : kernel.Proof → Type 0
Sound template = StrongAll template.problem

-- These are the templates of the additions, each under its number: those that the calls on each shelf added.
pub record Knows (number : ℕ → ℕ → ℕ) (its : List Addition) (made : ℕ → List ShelfCall) (templates : List kernel.Proof) : Type 0 where
  pub sound : All Sound templates
  pub many : length templates ≡ length its
  pub has : (k id : ℕ) (template : kernel.Proof) → k < 8 → slice_get (templates_of (made k)) id ≡ Some template → slice_get templates (number k id) ≡ Some template
  pub below : (k id : ℕ) → Contains its (k, id) → id < length (templates_of (made k))

module _ (number : ℕ → ℕ → ℕ) (its : List Addition) (made later : ℕ → List ShelfCall) (templates : List kernel.Proof) (h : Knows number its made templates) where
  -- no template is added
  knows_same : ((k : ℕ) → templates_of (later k) ≡ templates_of (made k)) → Knows number its later templates
  knows_same same = record {
    sound = h.sound;
    many = h.many;
    has = λ k id template low there. h.has k id template low (ap (λ z. slice_get z id) (sym (same k)) ∙ there);
    below = λ k id among. subst (λ z. id < length z) (sym (same k)) (h.below k id among);
  }

  -- one is, on the shelf of this shard
  module _ (shard id : ℕ) (template : kernel.Proof) (id_is : id ≡ length (templates_of (made shard))) (number_is : number shard id ≡ length templates)
      (here : templates_of (later shard) ≡ templates_of (made shard) ++ template ∷ []) (there : (k : ℕ) → shard ≢ k → templates_of (later k) ≡ templates_of (made k)) where
    more_has : (k n : ℕ) (other : kernel.Proof) → k < 8 → slice_get (templates_of (later k)) n ≡ Some other → slice_get (templates ++ template ∷ []) (number k n) ≡ Some other
    more_has k n other low at = by (eqb_tells shard k)
      where
        kept : slice_get (templates_of (made k)) n ≡ Some other → slice_get (templates ++ template ∷ []) (number k n) ≡ Some other
        kept was = get_before templates (template ∷ []) (number k n) other (h.has k n other low was)

        new : shard ≡ k → (slice_get (templates_of (made k)) n ≡ Some other) ⊎ ((n ≡ length (templates_of (made k))) × (template ≡ other)) → slice_get (templates ++ template ∷ []) (number k n) ≡ Some other
        new same (inl was) = kept was
        new same (inr (last, is)) =
            let n_is : n ≡ id = last ∙ ap (λ z. length (templates_of (made z))) (sym same) ∙ sym id_is in
            let place : number k n ≡ length templates = (λ i. number (sym same i) (n_is i)) ∙ number_is in
            get_at templates template [] (number k n) place ∙ ap Some is

        by : (((shard == k) ≡ true) × (shard ≡ k)) ⊎ (((shard == k) ≡ false) × (shard ≢ k)) → slice_get (templates ++ template ∷ []) (number k n) ≡ Some other
        by (inr other_shelf) = kept (ap (λ z. slice_get z n) (sym (there k other_shelf.1)) ∙ at)
        by (inl same) =
            let all : templates_of (later k) ≡ templates_of (made k) ++ template ∷ [] = subst (λ z. templates_of (later z) ≡ templates_of (made z) ++ template ∷ []) same.1 here in
            new same.1 (get_last (templates_of (made k)) template n other (ap (λ z. slice_get z n) (sym all) ∙ at))

    more_below : (k n : ℕ) → Contains its (k, n) ⊎ (◌≡◌ {A = Addition} (shard, id) (k, n)) → n < length (templates_of (later k))
    more_below k n (inl among) = by (eqb_tells shard k)
      where
        low : n < length (templates_of (made k))
        low = h.below k n among

        by : (((shard == k) ≡ true) × (shard ≡ k)) ⊎ (((shard == k) ≡ false) × (shard ≢ k)) → n < length (templates_of (later k))
        by (inr other_shelf) = subst (λ z. n < length z) (sym (there k other_shelf.1)) low
        by (inl same) =
            let all : templates_of (later k) ≡ templates_of (made k) ++ template ∷ [] = subst (λ z. templates_of (later z) ≡ templates_of (made z) ++ template ∷ []) same.1 here in
            let long = ap length all ∙ length-append (templates_of (made k)) (template ∷ []) in
            omega (arith, low, long)
    more_below k n (inr same) =
        let shelf : shard ≡ k = ap (λ (z : Addition). z.0) same in
        let n_is : id ≡ n = ap (λ (z : Addition). z.1) same in
        let long = ap length here ∙ length-append (templates_of (made shard)) (template ∷ []) in
        let low : n < length (templates_of (later shard)) = omega (arith, n_is, id_is, long) in
        subst (λ z. n < length (templates_of (later z))) shelf low

    knows_more : Sound template → Knows number (its ++ (shard, id) ∷ []) later (templates ++ template ∷ [])
    knows_more sound = record {
      sound = All-push Sound templates template h.sound sound;
      many =
          let was = h.many in
          let a = length-append templates (template ∷ []) in
          let b = length-append its ((shard, id) ∷ []) in
          omega (arith, was, a, b);
      has = more_has;
      below = λ k n among. more_below k n (Contains-push_cases its (shard, id) (k, n) among);
    }

-- ---- calls, one by one

-- of these calls
abbrev pub KnowsOf : (ℕ → ℕ → ℕ) → List Made → List kernel.Proof → Type 0
KnowsOf number done templates = Knows number (flat_map addition_at done) (λ k. calls_at k done) templates

pub knows_none : (number : ℕ → ℕ → ℕ) → KnowsOf number [] []
knows_none number = record {
  sound = All-nil Sound;
  many = refl;
  has = λ k id template low there. absurd (none-some template there);
  below = λ k id among. absurd (empty (k, id) among);
}

-- the machine has the templates that these calls added, and else what it had
pub record Moves (number : ℕ → ℕ → ℕ) (base : State) (done : List Made) (u : State) : Type 0 where
  pub rest : u ≡ record base { templates = u.templates }
  pub knows : KnowsOf number done u.templates

-- All calls on shelves, each shelf's a legal history, and the numbers of the templates that they added.
module _ (journal : Journal) (all : List Made) (low : All IsLow all) (legal_on : (k : ℕ) → k < 8 → IsFront (calls_at k all))
    (templates_whole : (k : ℕ) → k < 8 → templates_in (take 1 (drop k journal.histories.shelves.items)) ≡ templates_of (calls_at k all))
    (number : ℕ → ℕ → ℕ) (number_by : (shard id : ℕ) → number shard id ≡ place_among (flat_map addition_at all) shard id) (base : State) where
  abbrev told : Addition → CoreReply
  told it = replies.Number (number it.0 it.1)

  module _ (done rest : List Made) (c : Made) (are : all ≡ done ++ c ∷ rest) (t : State) (h : Moves number base done t) where
    additions_push : flat_map addition_at (done ++ c ∷ []) ≡ flat_map addition_at done ++ addition_at c
    additions_push = flat_map-append addition_at done (c ∷ []) ∙ ap (λ more. flat_map addition_at done ++ more) (append-nil (addition_at c))

    templates_push : (k : ℕ) → templates_of (calls_at k (done ++ c ∷ [])) ≡ templates_of (calls_at k done) ++ templates_of (call_on k c)
    templates_push k =
        ap templates_of (flat_map-append (call_on k) done (c ∷ []) ∙ ap (λ more. calls_at k done ++ more) (append-nil (call_on k c)))
        ∙ flat_map-append added_in (calls_at k done) (call_on k c)

    low_here : c.0 < 8
    low_here = All-contains IsLow all c low (subst (λ z. Contains z c) (sym are) (Contains-append_right done (c ∷ rest) c (0, omega arith, refl)))

    -- the call adds no template
    quiet_call : addition_at c ≡ [] → ((k : ℕ) → templates_of (call_on k c) ≡ []) → Moves number base (done ++ c ∷ []) t
    quiet_call none no_template = record {
      rest = h.rest;
      knows = subst (λ z. Knows number z (λ k. calls_at k (done ++ c ∷ [])) t.templates) (sym (additions_push ∙ ap (λ more. flat_map addition_at done ++ more) none ∙ append-nil (flat_map addition_at done)))
          (knows_same number (flat_map addition_at done) (λ k. calls_at k done) (λ k. calls_at k (done ++ c ∷ [])) t.templates h.knows
          (λ k. templates_push k ∙ ap (λ more. templates_of (calls_at k done) ++ more) (no_template k) ∙ append-nil (templates_of (calls_at k done))));
    }

    -- it adds one
    module _ (template : kernel.Proof) (id : ℕ) (c_is : c.1 ≡ calls.Admit (record { marker = record {}; value = template }) (Added id)) where
      abbrev shard : ℕ
      shard = c.0

      abbrev admit : ShelfCall
      admit = calls.Admit (record { marker = record {}; value = template }) (Added id)

      abbrev before_it : List kernel.Proof
      before_it = templates_of (calls_at shard done)

      added_is : addition_at c ≡ (shard, id) ∷ []
      added_is = ap (λ z. addition_at (shard, z)) c_is

      call_here : call_on shard c ≡ admit ∷ []
      call_here = ap (λ b. cond b (c.1 ∷ []) []) (same_true shard shard refl) ∙ ap (λ z. z ∷ []) c_is

      call_there : (k : ℕ) → shard ≢ k → call_on k c ≡ []
      call_there k differ = ap (λ b. cond b (c.1 ∷ []) []) (differ_false shard k differ)

      split_here : calls_at shard all ≡ (calls_at shard done ++ admit ∷ []) ++ calls_at shard rest
      split_here =
          ap (calls_at shard) are ∙ flat_map-append (call_on shard) done (c ∷ rest) ∙ ap (λ z. calls_at shard done ++ (z ++ calls_at shard rest)) call_here
          ∙ sym (append_assoc (calls_at shard done) (admit ∷ []) (calls_at shard rest))

      step_here : IsLast (calls_at shard done) admit
      step_here =
          let front = shelf_front (legal_on shard low_here).1 (calls_at shard done ++ admit ∷ []) (calls_at shard rest) split_here in
          shelf_last front.1 (calls_at shard done) admit refl

      -- its id is how many templates the shelf had added
      id_is : id ≡ length before_it
      id_is =
          let number_is = step_here.step.1.number in
          let count = counted (calls_at shard done) in
          omega (arith, number_is, count)

      -- its number is how many were added before it
      number_is : number shard id ≡ length t.templates
      number_is =
          let its = flat_map addition_at done in
          let more = flat_map addition_at rest in
          let parts : flat_map addition_at all ≡ its ++ (shard, id) ∷ more =
          ap (flat_map addition_at) are ∙ flat_map-append addition_at done (c ∷ rest) ∙ ap (λ z. its ++ (z ++ more)) added_is in
          number_by shard id
          ∙ ap (λ z. place_among z shard id) parts
          ∙ place_new its more shard id (λ among. fresh (h.knows.below shard id among))
          ∙ sym h.knows.many
        where
          fresh : id < length before_it → ⊥
          fresh low = omega (arith, low, id_is)

      -- the shelf's history has it under its id
      shown : slice_get (templates_in (take 1 (drop shard journal.histories.shelves.items))) id ≡ Some template
      shown =
          let more = templates_of (calls_at shard rest) in
          let parts : templates_in (take 1 (drop shard journal.histories.shelves.items)) ≡ before_it ++ template ∷ more =
          templates_whole shard low_here ∙ ap templates_of (split_here ∙ append_assoc (calls_at shard done) (admit ∷ []) (calls_at shard rest))
          ∙ flat_map-append added_in (calls_at shard done) (admit ∷ calls_at shard rest) in
          ap (λ z. slice_get z id) parts ∙ get_at before_it template more id id_is

      abbrev with_it : State
      with_it = record t { templates = t.templates ++ template ∷ [] }

      moves_with_it : Moves number base (done ++ c ∷ []) with_it
      moves_with_it = record {
        rest = ap (λ (z : State). record z { templates = t.templates ++ template ∷ [] }) h.rest;
        knows = subst (λ z. Knows number z (λ k. calls_at k (done ++ c ∷ [])) (t.templates ++ template ∷ [])) (sym (additions_push ∙ ap (λ more. flat_map addition_at done ++ more) added_is))
            (knows_more number (flat_map addition_at done) (λ k. calls_at k done) (λ k. calls_at k (done ++ c ∷ [])) t.templates h.knows shard id template id_is number_is
            (templates_push shard ∙ ap (λ z. before_it ++ templates_of z) call_here)
            (λ k differ. templates_push k ∙ ap (λ z. templates_of (calls_at k done) ++ templates_of z) (call_there k differ) ∙ append-nil (templates_of (calls_at k done)))
            step_here.step.0.proved.strong);
      }

      added_taken : Takes (Moves number base (done ++ c ∷ [])) t (flat_map (admission_of journal) (addition_at c)) (map told (addition_at c))
      added_taken =
          subst (λ its. Takes (Moves number base (done ++ c ∷ [])) t (flat_map (admission_of journal) its) (map told its)) (sym added_is)
          (subst (λ z. Takes (Moves number base (done ++ c ∷ [])) t (admits z ++ []) (replies.Number (number shard id) ∷ [])) (sym shown) (record {
            new = with_it;
            step = record { step = record { number = number_is; state = refl }; compliant = tt };
            only = admit_only t template (number shard id) number_is;
            comes_to = λ next step. subst (Moves number base (done ++ c ∷ [])) (sym step.state) moves_with_it;
          }))

  no_template : (k shard : ℕ) (call : ShelfCall) → added_in call ≡ [] → templates_of (call_on k (shard, call)) ≡ []
  no_template k shard call none = by (shard == k)
    where
      by : (b : Bool) → templates_of (cond b (call ∷ []) []) ≡ []
      by true = ap (λ z. z ++ []) none
      by false = refl

  one_admitted : (done rest : List Made) (shard : ℕ) (call : ShelfCall) → all ≡ done ++ (shard, call) ∷ rest → (t : State) → Moves number base done t →
      Takes (Moves number base (done ++ (shard, call) ∷ [])) t (flat_map (admission_of journal) (addition_at (shard, call))) (map told (addition_at (shard, call)))
  one_admitted done rest shard (calls.Look shape found) are t h = quiet_call done rest (shard, calls.Look shape found) are t h refl (λ k. no_template k shard (calls.Look shape found) refl)
  one_admitted done rest shard (calls.Admit it (Added id)) are t h = added_taken done rest (shard, calls.Admit it (Added id)) are t h it.value id refl
  one_admitted done rest shard (calls.Admit it (Known id)) are t h = quiet_call done rest (shard, calls.Admit it (Known id)) are t h refl (λ k. no_template k shard (calls.Admit it (Known id)) refl)
  one_admitted done rest shard calls.Refused are t h = quiet_call done rest (shard, calls.Refused) are t h refl (λ k. no_template k shard calls.Refused refl)

  pub all_admitted : (cs done rest : List Made) → all ≡ done ++ (cs ++ rest) → (t : State) → Moves number base done t →
      Takes (Moves number base (done ++ cs)) t (flat_map (admission_of journal) (flat_map addition_at cs)) (map told (flat_map addition_at cs))
  all_admitted [] done rest are t h = subst (λ z. Moves number base z t) (sym (append-nil done)) h
  all_admitted (c ∷ cs) done rest are t h =
      let front = addition_at c in
      let behind = flat_map addition_at cs in
      let P : State → Type 0 = Moves number base (done ++ c ∷ cs) in
      subst₂ (Takes P t) (sym (flat_map-append (admission_of journal) front behind)) (sym (map-append told front behind))
      (takes_both (Moves number base (done ++ c ∷ [])) P (flat_map (admission_of journal) behind) (map told behind)
      (λ u moved. subst (λ z. Takes (Moves number base z) u (flat_map (admission_of journal) behind) (map told behind)) (append_assoc done (c ∷ []) cs)
      (all_admitted cs (done ++ c ∷ []) rest (are ∙ sym (append_assoc done (c ∷ []) (cs ++ rest))) u moved))
      t (flat_map (admission_of journal) front) (map told front)
      (one_admitted done (cs ++ rest) c.0 c.1 are t h))
