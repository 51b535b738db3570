-- The agenda of a branch: its due step, what is left of it, and how it is filled.
use Rattle.std.proofs.Common.{◌≡◌, ◌∙◌, ℕ, zero, suc, ◌+◌, ◌-◌, ◌<◌, ◌≤◌, ◌⊎◌, Bool, true, false, inl, inr, List, [], ◌++◌, length, take, refl, sym, ap, subst, arith}
use Rattle.std.proofs.lemmas.Bool.{cases_lt}
use Rattle.std.proofs.lemmas.Cmp.{back_total}
use Rattle.std.proofs.lemmas.List.{get_or-take, length-append, length-take-le}
use Rattle.std.proofs.lemmas.List.Elements.{Contains-append_cases, Contains-append_left, Contains-append_right}
use Rattle.std.proofs.lemmas.List.Sorted.{Contains-permutation, IsPermutation-sym, searchable_from_sorted}
use Rattle.std.proofs.lemmas.Option.{get_or_from_slice_get, slice_get_within}
use Rattle.std.specs.Cmp.{tied_itself, upto}
use Rattle.std.specs.List.Sorted.{IsSortedBy}
use Rattle.std.specs.Ordering.{flip_args, is_lt, ordering_index, ordering_reverse}
use Rattle.std.specs.declared.cmp.Ordering.{Ordering}
use Rattle.std.specs.declared.cmp.Ordering.TheVariants.{Less, Equal, Greater}
use Rattle.std.specs.Prelude.{◌≢◌, Contains, IsTrue, Option, Some, None, min, option_to_list, slice_get, slice_index_or}
use Rattle.ba_model.proofs.ElementLemmas.{Contains-nil}
use Rattle.ba_facts.specs.declared.branch.Branch.{Branch}
use Rattle.ba_facts.specs.declared.term.Fact.{Fact}
use Rattle.ba_kernel.specs.Courses.{IsOpen, branch_of}
use Rattle.ba_kernel.specs.News.{IsNewOn, IsNewRound}
use Rattle.ba_kernel.specs.Steps.{IsRound}
use Rattle.ba_kernel.specs.SearchStates.{Course, open_at}
use Rattle.ba_kernel.specs.declared.problem.Problem.{Problem}
use Rattle.ba_kernel.specs.declared.step.Step.{Step}
use Rattle.ba_instant.proofs.ChaseLemmas.{new_on}
use Rattle.ba_instant.proofs.DueLemmas.{closing_on, closing_round, gt_false, new_in, not_greater, of_kind, one_open, round_in, round_on, telling_on}
use Rattle.ba_instant.proofs.GrowthLemmas.{get_cases}
use Rattle.ba_settle.proofs.OrderLemmas.{pick_total}
use Rattle.ba_instant.proofs.QuietLemmas.{quiet_at_first}
use Rattle.ba_instant.proofs.RoundLemmas.{is_new, not_new, round_at_once}
use Rattle.ba_instant.specs.Agendas.{AreInTurn, AreOlder, EndsOld, IsAgenda, IsAgendaAt, IsAgendaOf, IsBlank, IsFirstOf, IsInTurn, IsListed, IsNewHere, IsNone, IsPast, IsQuietAgenda, IsSilent, IsTrimmed, IsWithoutLast, MOST_ROUND}
use Rattle.ba_settle.specs.Dues.{IsDueStep}
use Rattle.ba_instant.specs.Loose.{IsQuietBeside}
use Rattle.ba_instant.specs.Offers.{Improves, IsByMapping, IsClosing, IsDueIfAny, IsDueOn, IsNewOf, IsHeld, IsNewIn, IsRoundIn, IsTelling, IsWholeBatch, HasSooner, NoneCloses, Offers, Reaches, is_single}
use Rattle.ba_settle.specs.Order.{pick_cmp, step_cmp}
use Rattle.ba_instant.specs.Windows.{IsQuietUpto}
use Rattle.ba_instant.specs.declared.agenda.Agenda.{Agenda}
use Rattle.ba_instant.specs.declared.batch.Batch.{Batch}
use Rattle.ba_instant.specs.declared.scan.NewStep.{NewStep}
use Rattle.ba_settle.specs.declared.order.Pick.{Pick}
use Rattle.ba_settle.specs.declared.order.Pick.TheVariants.{First, Last}

-- ---- what the search tells of a step

pub here_if : (c : Course) (step : Step) (its round : ℕ) (r : Bool) → IsNewRound c.problem (open_at c.slots (branch_of step)) step (Some its) → (IsTrue r → its ≡ round) → (its ≡ round → IsTrue r) →
    (IsTrue r → IsNewHere c round step) × (IsNewHere c round step → IsTrue r)
here_if c step its round r told forth back =
    let h = is_new c.problem (open_at c.slots (branch_of step)) step its told in
    (λ is. (h.0, subst (IsRoundIn c step) (forth is) h.1), λ here. back (round_at_once c.problem (open_at c.slots (branch_of step)) step its round h.1 here.1))

pub not_here : (c : Course) (step : Step) (round : ℕ) → IsNewRound c.problem (open_at c.slots (branch_of step)) step None → IsNewHere c round step → ⊥
not_here c step round told here = not_new c.problem (open_at c.slots (branch_of step)) step told here.0

-- ---- steps in turn

turned : (a b : Ordering) → a ≡ ordering_reverse b → 1 ≤ ordering_index b → a ≢ Greater
turned a Less e h = absurd (let no : ⊥ = omega (arith, h) in no)
turned a Equal e h = λ g. let wrong : Equal ≡ Greater = sym e ∙ g in cc
turned a Greater e h = λ g. let wrong : Less ≡ Greater = sym e ∙ g in cc

module _ (pick : Pick) where
  pub sorted_in_turn : (xs : List Step) → IsSortedBy (λ x y. is_lt (flip_args (pick_cmp pick) x y)) xs → AreInTurn pick xs
  sorted_in_turn xs up i j d before below =
      let x : Step = slice_index_or xs i d in
      let y : Step = slice_index_or xs j d in
      let rises : ordering_index (flip_args (pick_cmp pick) x x) ≤ ordering_index (flip_args (pick_cmp pick) y x) =
      searchable_from_sorted (back_total (pick_total pick)) (λ s. s) xs x up i j d before below in
      let level : ordering_index (pick_cmp pick x x) ≡ 1 = ap ordering_index (tied_itself (pick_total pick) x) in
      turned (pick_cmp pick y x) (pick_cmp pick x y) ((pick_total pick).antisymm y x) (omega (arith, rises, level))

  -- the last one is picked first
  pub last_first : (xs : List Step) (last : Step) → AreInTurn pick xs → slice_get xs (length xs - 1) ≡ Some last → (other : Step) → Contains xs other → pick_cmp pick last other ≢ Greater
  last_first xs last turn is other (k, below, at) =
      let end : slice_index_or xs (length xs - 1) other ≡ last = get_or_from_slice_get xs (length xs - 1) last other is in
      subst (λ x. pick_cmp pick x other ≢ Greater) end
      (subst (λ y. pick_cmp pick (slice_index_or xs (length xs - 1) other) y ≢ Greater) at (turn k (length xs - 1) other (omega (arith, below)) (omega (arith, below))))

  pub none_in_turn : (xs : List Step) → xs ≡ [] → AreInTurn pick xs
  none_in_turn xs none i j d before below = let count = ap length none in absurd (let no : ⊥ = omega (arith, below, count) in no)

  pub front_in_turn : (xs : List Step) (n : ℕ) → n ≤ length xs → AreInTurn pick xs → AreInTurn pick (take n xs)
  front_in_turn xs n fits turn i j d before below =
      let count : length (take n xs) ≡ n = length-take-le n xs fits in
      let inside : j < n = omega (arith, below, count) in
      let one : slice_index_or (take n xs) i d ≡ slice_index_or xs i d = get_or-take n xs i d (omega (arith, before, inside)) in
      let other : slice_index_or (take n xs) j d ≡ slice_index_or xs j d = get_or-take n xs j d inside in
      subst (λ x. pick_cmp pick x (slice_index_or (take n xs) i d) ≢ Greater) (sym other)
      (subst (λ y. pick_cmp pick (slice_index_or xs j d) y ≢ Greater) (sym one) (turn i j d before (omega (arith, inside, fits))))

pub first_in_turn : (xs : List Step) → IsSortedBy (λ x y. is_lt (flip_args step_cmp x y)) xs → AreInTurn First xs
unfolding pick_cmp
first_in_turn xs up = sorted_in_turn First xs up

pub last_in_turn : (xs : List Step) → IsSortedBy (λ x y. is_lt (step_cmp x y)) xs → AreInTurn Last xs
unfolding pick_cmp
last_in_turn xs up = sorted_in_turn Last xs up

-- ---- all but the last

some_is : {X : Type 0} (o : Option X) (x y : X) → o ≡ Some x → o ≡ Some y → x ≡ y
some_is o x y h k = cc

front_has : (xs : List Step) (n : ℕ) (x : Step) → n ≤ length xs → Contains (take n xs) x → Contains xs x
front_has xs n x fits (k, below, at) =
    let count : length (take n xs) ≡ n = length-take-le n xs fits in
    let inside : k < n = omega (arith, below, count) in
    (k, (let e : k < length xs = omega (arith, inside, fits) in e), sym (get_or-take n xs k x inside) ∙ at)

front_or_last : (xs : List Step) (last x : Step) → slice_get xs (length xs - 1) ≡ Some last → Contains xs x → Contains (take (length xs - 1) xs) x ⊎ (last ≡ x)
front_or_last xs last x is (k, below, at) = elim (cases_lt k (length xs - 1)) [
  | inl early ↦
      let count : length (take (length xs - 1) xs) ≡ length xs - 1 = length-take-le (length xs - 1) xs (omega arith) in
      inl (k, (let e : k < length (take (length xs - 1) xs) = omega (arith, early, count) in e), get_or-take (length xs - 1) xs k x early ∙ at)
  | inr late ↦
      let same : k ≡ length xs - 1 = omega (arith, below, late) in
      inr (sym (get_or_from_slice_get xs (length xs - 1) last x is) ∙ (ap (λ i. slice_index_or xs i x) (sym same) ∙ at))
]

-- ---- the steps of a batch

pub agenda_of : (pick : Pick) (batch : Batch) (items sorted : List Step) → items ≡ batch.steps ++ option_to_list batch.single → IsInTurn pick items sorted → (agenda : Agenda) →
    agenda.round ≡ batch.round → agenda.steps.items ≡ sorted → IsAgendaOf pick batch agenda
agenda_of pick batch items sorted are turn agenda round_is items_are = record {
  round = round_is;
  has = λ step h.
      subst (λ xs. Contains xs step) (sym items_are) (Contains-permutation items sorted step turn.moved (subst (λ xs. Contains xs step) (sym are) (in_items step h)));
  from = λ step in_.
      of_items step
      (subst (λ xs. Contains xs step) are (Contains-permutation sorted items step (IsPermutation-sym items sorted turn.moved) (subst (λ xs. Contains xs step) items_are in_)));
  in_turn = subst (AreInTurn pick) (sym items_are) turn.in_turn;
}
  where
    in_items : (step : Step) → Offers batch step → Contains (batch.steps ++ option_to_list batch.single) step
    in_items step (inl in_) = Contains-append_left batch.steps (option_to_list batch.single) step in_
    in_items step (inr is) =
        Contains-append_right batch.steps (option_to_list batch.single) step (subst (λ o. Contains (option_to_list o) step) (sym is) (0, (let e : 0 < 1 = omega arith in e), refl))

    of_single : (single : Option Step) (step : Step) → Contains (option_to_list single) step → single ≡ Some step
    of_single None step in_ = absurd (Contains-nil step in_)
    of_single (Some it) step (zero, below, at) = ap Some at
    of_single (Some it) step (suc k, below, at) = absurd (let no : ⊥ = omega (arith, below) in no)

    of_items : (step : Step) → Contains (batch.steps ++ option_to_list batch.single) step → Offers batch step
    of_items step in_ = elim (Contains-append_cases batch.steps (option_to_list batch.single) step in_) [ inl one ↦ inl one | inr other ↦ inr (of_single batch.single step other) ]

-- ---- an agenda

-- an agenda that says nothing of the facts, nor of what closes the branch
blank_older : (b : Branch) (agenda : Agenda) → IsBlank agenda → AreOlder b agenda.older (min agenda.round MOST_ROUND)
blank_older b agenda blank =
    let none = blank.older in
    record { within = omega (arith, none); older = λ number fact below there. let no : ⊥ = omega (arith, below, none) in absurd no }

blank_silent : (p : Problem) (n : ℕ) (b : Branch) (agenda : Agenda) → IsBlank agenda → IsTrue agenda.silent → IsSilent p n b
blank_silent p n b agenda blank told = let no = blank.silent in cc

pub none_is_agenda : (pick : Pick) (p : Problem) (n : ℕ) (b : Branch) (agenda : Agenda) → IsNone agenda → IsAgenda pick p n b agenda
none_is_agenda pick p n b agenda (none, blank) = record {
  on = λ step in_. absurd (Contains-nil step (subst (λ xs. Contains xs step) blank.steps in_));
  in_turn = none_in_turn pick agenda.steps.items blank.steps;
  older = blank_older b agenda blank;
  silent = blank_silent p n b agenda blank;
  listed = λ step round telling is_new round_is low.
      let late : 0 < round = quiet_at_first p b n step round telling is_new round_is in
      absurd (let no : ⊥ = omega (arith, late, low, none) in no);
}

past_late : (pick : Pick) (round : ℕ) (found : Option Batch) (it : NewStep) → IsPast round found → Reaches pick found it → round < it.round
past_late pick round None it past reach = absurd reach
past_late pick round (Some batch) it past (inl less) = omega (arith, past, less)
past_late pick round (Some batch) it past (inr same) = let at = same.0 in omega (arith, past, at)

-- what is quiet but for rules and views is quiet, if nothing that was found by these is of the round
module _ (pick : Pick) (c : Course) (n : ℕ) (b : Branch) (round : ℕ) (found : Option Batch) (open_ : IsOpen c.slots n b) (quiet : IsQuietBeside c.problem b n round)
    (h : Improves c pick (IsByMapping n) None found) where
  mapped_late : IsPast round found → (step : Step) (its : ℕ) → IsByMapping n step → IsTelling n step → IsNewOn c.problem b step → IsRound c.problem b step its → round < its
  mapped_late past step its mapped telling is_new round_is =
      let on = telling_on c pick n step telling in
      past_late pick round found (record { round = its; step = step }) past
      (h.reaches (record { round = its; step = step })
      (record { of = mapped; new_ = new_in c n b open_ step on is_new; round_is = round_in c n b open_ step its on round_is }))

  telling_late : IsPast round found → (step : Step) (its : ℕ) → IsTelling n step → IsNewOn c.problem b step → IsRound c.problem b step its → round < its
  telling_late past step its (inl (inl (inl early))) is_new round_is = quiet step its (inl early) is_new round_is
  telling_late past step its (inl (inl (inr rule))) is_new round_is = mapped_late past step its (inl rule) (inl (inl (inr rule))) is_new round_is
  telling_late past step its (inl (inr view)) is_new round_is = mapped_late past step its (inr view) (inl (inr view)) is_new round_is
  telling_late past step its (inr split) is_new round_is = quiet step its (inr split) is_new round_is

  quiet_is_agenda : (agenda : Agenda) → IsQuietAgenda round found agenda → IsAgenda pick c.problem n b agenda
  quiet_is_agenda agenda (inl none) = none_is_agenda pick c.problem n b agenda none
  quiet_is_agenda agenda (inr (past, round_are, blank)) = record {
    on = λ step in_. absurd (Contains-nil step (subst (λ xs. Contains xs step) blank.steps in_));
    in_turn = none_in_turn pick agenda.steps.items blank.steps;
    older = blank_older b agenda blank;
    silent = blank_silent c.problem n b agenda blank;
    listed = λ step its telling is_new round_is low.
        let late : round < its = telling_late past step its telling is_new round_is in
        absurd (let no : ⊥ = omega (arith, late, low, round_are) in no);
  }

  pub quiet_agenda_at : (agenda : Agenda) → IsQuietAgenda round found agenda → IsAgendaAt pick c n agenda
  quiet_agenda_at agenda is = record { of = λ d other. subst (λ x. IsAgenda pick c.problem n x agenda) (one_open c.slots n b d open_ other) (quiet_is_agenda agenda is) }

not_listed : (pick : Pick) (step : Step) → IsListed pick [] step → ⊥
not_listed pick step (inl in_) = Contains-nil step in_
not_listed pick step (inr stood) = Contains-nil stood.other stood.there

-- what is older than a round is older than a later one
pub older_still : (b : Branch) (end bound more : ℕ) → bound ≤ more → AreOlder b end bound → AreOlder b end more
older_still b end bound more low older =
    record { within = older.within; older = λ number fact below there. let less = older.older number fact below there in omega (arith, low, less) }

-- and so it is where more facts are added
pub older_on : (b c : Branch) (end bound : ℕ) (more : List Fact) → c.facts ≡ b.facts ++ more → AreOlder b end bound → AreOlder c end bound
older_on b c end bound more facts_are older =
    let within = older.within in
    let count : length c.facts ≡ length b.facts + length more = ap length facts_are ∙ length-append b.facts more in
    record {
      within = omega (arith, within, count);
      older = λ number fact below there.
          elim (get_cases b.facts more number fact (subst (λ fs. slice_get fs number ≡ Some fact) facts_are there)) [
            | inl before ↦ older.older number fact below before
            | inr late ↦ let past = late.1 in absurd (let no : ⊥ = omega (arith, below, within, past) in no)
          ];
    }

-- a branch is quiet up to the round of its agenda, if nothing is left of it
pub empty_is_quiet : (pick : Pick) (p : Problem) (n : ℕ) (b : Branch) (agenda : Agenda) → IsAgenda pick p n b agenda → agenda.steps.items ≡ [] → IsQuietUpto p b n agenda.round
empty_is_quiet pick p n b agenda is none step round telling is_new round_is = elim (cases_lt agenda.round round) [
  | inl late ↦ late
  | inr low ↦ absurd (not_listed pick step (subst (λ xs. IsListed pick xs step) none (is.listed step round telling is_new round_is low).1))
]

pub quiet_below : (p : Problem) (b : Branch) (n bound round : ℕ) → bound ≤ round → IsQuietUpto p b n round → IsQuietUpto p b n bound
quiet_below p b n bound round low quiet step its telling is_new round_is = let late = quiet step its telling is_new round_is in omega (arith, low, late)

-- ---- its end

module _ (c : Course) (n : ℕ) (b : Branch) (open_ : IsOpen c.slots n b) (pick : Pick) (old new : Agenda) (ends : EndsOld c old) (is : IsAgenda pick c.problem n b old)
    (round_is : new.round ≡ old.round) (items_are : new.steps.items ≡ take (length old.steps.items - 1) old.steps.items)
    (single : (step : Step) → slice_get old.steps.items (length old.steps.items - 1) ≡ Some step → is_single step ≡ false) (older_is : new.older ≡ old.older)
    (silent_is : new.silent ≡ old.silent) where
  still_listed : (step : Step) → IsNewHere c old.round step → IsListed pick old.steps.items step → IsListed pick (take (length old.steps.items - 1) old.steps.items) step
  still_listed step here (inl in_) = elim (front_or_last old.steps.items ends.step step ends.last in_) [
    | inl front ↦ inl front
    | inr last ↦ absurd (ends.old (subst (IsNewHere c old.round) (sym last) here))
  ]
  still_listed step here (inr stood) = elim (front_or_last old.steps.items ends.step stood.other ends.last stood.there) [
    | inl front ↦ inr (record { single = stood.single; other = stood.other; there = front; other_single = stood.other_single; before = stood.before })
    | inr last ↦
        let one : is_single ends.step ≡ true = subst (λ s. is_single s ≡ true) (sym last) stood.other_single in
        let other : is_single ends.step ≡ false = single ends.step ends.last in
        absurd (let no : ⊥ = cc in no)
  ]

  pub front_is_agenda : IsAgenda pick c.problem n b new
  front_is_agenda = record {
    on = λ step in_. is.on step (front_has old.steps.items (length old.steps.items - 1) step (omega arith) (subst (λ xs. Contains xs step) items_are in_));
    in_turn = subst (AreInTurn pick) (sym items_are) (front_in_turn pick old.steps.items (length old.steps.items - 1) (omega arith) is.in_turn);
    listed = λ step round telling is_new its_round low.
        let was = is.listed step round telling is_new its_round (omega (arith, low, round_is)) in
        let on = telling_on c pick n step telling in
        let here : IsNewHere c old.round step =
        (new_in c n b open_ step on is_new, subst (IsRoundIn c step) was.0 (round_in c n b open_ step round on its_round)) in
        (was.0 ∙ sym round_is, subst (λ xs. IsListed pick xs step) (sym items_are) (still_listed step here was.1));
    older = subst (λ end. AreOlder b end (min new.round MOST_ROUND)) (sym older_is) (subst (λ round. AreOlder b old.older (min round MOST_ROUND)) (sym round_is) is.older);
    silent = λ told. is.silent (subst IsTrue silent_is told);
  }

pub without_last : (c : Course) (old new : Agenda) → EndsOld c old → IsWithoutLast old new → IsTrimmed c old new
without_last c old new ends (inl none) = record { keeps = λ pick n b open_ is. none_is_agenda pick c.problem n b new none }
without_last c old new ends (inr rest) = record { keeps = λ pick n b open_ is. front_is_agenda c n b open_ pick old new ends is rest.0 rest.1 rest.2 rest.3 rest.4 }

pub shorter : (c : Course) (old new : Agenda) → EndsOld c old → IsWithoutLast old new → length new.steps.items < length old.steps.items
shorter c old new ends (inl none) =
    let some : length old.steps.items - 1 < length old.steps.items = slice_get_within old.steps.items (length old.steps.items - 1) ends.step ends.last in
    let count : length new.steps.items ≡ 0 = ap length (none.1).steps in
    omega (arith, some, count)
shorter c old new ends (inr rest) =
    let some : length old.steps.items - 1 < length old.steps.items = slice_get_within old.steps.items (length old.steps.items - 1) ends.step ends.last in
    let count : length new.steps.items ≡ length old.steps.items - 1 = ap length (rest.1) ∙ length-take-le (length old.steps.items - 1) old.steps.items (omega arith) in
    omega (arith, some, count)

pub trimmed_first : (c : Course) (agenda : Agenda) → IsTrimmed c agenda agenda
trimmed_first c agenda = record { keeps = λ pick n b open_ is. is }

pub trimmed_next : (c : Course) (old mid new : Agenda) → IsTrimmed c old mid → IsTrimmed c mid new → IsTrimmed c old new
trimmed_next c old mid new h k = record { keeps = λ pick n b open_ is. k.keeps pick n b open_ (h.keeps pick n b open_ is) }

-- ---- a due step

module _ (c : Course) (n : ℕ) (b : Branch) (open_ : IsOpen c.slots n b) (pick : Pick) (xs : List Step) (it : NewStep) (on : branch_of it.step ≡ n) (here : IsNewHere c it.round it.step)
    (last : slice_get xs (length xs - 1) ≡ Some it.step) (turn : AreInTurn pick xs)
    (rest : (other : Step) (round : ℕ) → branch_of other ≡ n → IsNewIn c other → IsRoundIn c other round → (it.round < round) ⊎ ((it.round ≡ round) × IsListed pick xs other)) where
  not_before : (other : Step) → IsListed pick xs other → pick_cmp pick it.step other ≢ Greater
  not_before other (inl in_) = last_first pick xs it.step turn last other in_
  not_before other (inr stood) =
      not_greater (pick_cmp pick it.step other)
      (upto (pick_total pick) it.step stood.other other (gt_false (pick_cmp pick it.step stood.other) (last_first pick xs it.step turn last stood.other stood.there))
      (gt_false (pick_cmp pick stood.other other) stood.before))

  it_is_due : IsDueStep c.problem c.slots it.step
  it_is_due = record {
    branch = b;
    open_ = subst (λ m. IsOpen c.slots m b) (sym on) open_;
    new_ = new_on c n b it.step open_ on here.0;
    round = it.round;
    round_is = round_on c n b open_ it.step it.round on here.1;
    least = λ other round same is_new round_is.
        let at = same ∙ on in
        elim (rest other round at (new_in c n b open_ other at is_new) (round_in c n b open_ other round at round_is)) [
          | inl less ↦ (let e : it.round ≤ round = omega (arith, less) in e)
          | inr level ↦ (let its = level.0 in let e : it.round ≤ round = omega (arith, its) in e)
        ];
  }

  it_is_first : (other : Step) → branch_of other ≡ n → IsDueStep c.problem c.slots other → pick_cmp pick it.step other ≢ Greater
  it_is_first other at due =
      let same : due.branch ≡ b = one_open c.slots n due.branch b (subst (λ m. IsOpen c.slots m due.branch) at due.open_) open_ in
      let is_new : IsNewOn c.problem b other = subst (λ d. IsNewOn c.problem d other) same due.new_ in
      let round_is : IsRound c.problem b other due.round = subst (λ d. IsRound c.problem d other due.round) same due.round_is in
      let low : due.round ≤ it.round =
      due.least it.step it.round (on ∙ sym at) (subst (λ d. IsNewOn c.problem d it.step) (sym same) (new_on c n b it.step open_ on here.0))
      (subst (λ d. IsRound c.problem d it.step it.round) (sym same) (round_on c n b open_ it.step it.round on here.1)) in
      elim (rest other due.round at (new_in c n b open_ other at is_new) (round_in c n b open_ other due.round at round_is)) [
        | inl less ↦ absurd (let no : ⊥ = omega (arith, less, low) in no)
        | inr level ↦ not_before other level.1
      ]

  pub due_on_it : IsDueOn c pick n it
  due_on_it = record { on = on; due = it_is_due; first = it_is_first; round_is = here.1 }

module _ (c : Course) (n : ℕ) (b : Branch) (open_ : IsOpen c.slots n b) (pick : Pick) where
  -- ---- what closes the branch

  pub silent_of : NoneCloses c n → IsSilent c.problem n b
  silent_of closes step closing is_new = closes.none step closing (new_in c n b open_ step (closing_on c pick n step closing) is_new)

  pub closes_of : IsSilent c.problem n b → NoneCloses c n
  closes_of silent = record { none = λ step closing is_new. silent step closing (new_on c n b step open_ (closing_on c pick n step closing) is_new) }

  pub silenced : (agenda new : Agenda) → NoneCloses c n → new.round ≡ agenda.round → new.older ≡ agenda.older → new.steps.items ≡ agenda.steps.items → IsAgenda pick c.problem n b agenda → IsAgenda pick c.problem n b new
  silenced agenda new closes round_is older_is steps_are is = record {
    on = λ step in_. is.on step (subst (λ xs. Contains xs step) steps_are in_);
    in_turn = subst (AreInTurn pick) (sym steps_are) is.in_turn;
    listed = λ step round telling is_new its low.
        let was = is.listed step round telling is_new its (omega (arith, low, round_is)) in
        (was.0 ∙ sym round_is, subst (λ xs. IsListed pick xs step) (sym steps_are) was.1);
    older = subst (λ end. AreOlder b end (min new.round MOST_ROUND)) (sym older_is) (subst (λ round. AreOlder b agenda.older (min round MOST_ROUND)) (sym round_is) is.older);
    silent = λ told. silent_of closes;
  }

  last_in : (xs : List Step) (x : Step) → slice_get xs (length xs - 1) ≡ Some x → Contains xs x
  last_in xs x is = (length xs - 1, slice_get_within xs (length xs - 1) x is, get_or_from_slice_get xs (length xs - 1) x x is)

  -- ---- of an agenda whose last step is new

  module _ (closes : NoneCloses c n) (agenda : Agenda) (is : IsAgenda pick c.problem n b agenda) where
    kept_rest : (other : Step) (round : ℕ) → branch_of other ≡ n → IsNewIn c other → IsRoundIn c other round →
        (agenda.round < round) ⊎ ((agenda.round ≡ round) × IsListed pick agenda.steps.items other)
    kept_rest other round on is_new round_is = elim (of_kind c pick n other on) [
      | inl closing ↦ absurd (closes.none other closing is_new)
      | inr telling ↦ elim (cases_lt agenda.round round) [
        | inl late ↦ inl late
        | inr low ↦
            let at = is.listed other round telling (new_on c n b other open_ on is_new) (round_on c n b open_ other round on round_is) low in
            inr (sym at.0, at.1)
      ]
    ]

    pub kept_due : (it : NewStep) → IsFirstOf agenda (Some it) → IsNewHere c agenda.round it.step → IsDueOn c pick n it
    kept_due it first here =
        due_on_it c n b open_ pick agenda.steps.items it (is.on it.step (last_in agenda.steps.items it.step first.1)) (subst (λ r. IsNewHere c r it.step) (sym first.0) here) first.1 is.in_turn
        (λ other round on is_new round_is.
        subst (λ r. (r < round) ⊎ ((r ≡ round) × IsListed pick agenda.steps.items other)) (sym first.0) (kept_rest other round on is_new round_is))

  -- ---- of a batch

  module _ (batch : Batch) (agenda : Agenda) (of : IsAgendaOf pick batch agenda) where
    led_listed : (single : Option Step) → batch.single ≡ single → IsWholeBatch batch → (step : Step) → IsTrue (is_single step) → HasSooner pick single step → IsListed pick agenda.steps.items step
    led_listed None is whole step one led = absurd led
    led_listed (Some first) is whole step one led =
        inr (record { single = one; other = first; there = of.has first (inr is); other_single = whole.single first is; before = not_greater (pick_cmp pick first step) led })

    pub held_listed : IsWholeBatch batch → (step : Step) → IsHeld pick batch step → IsListed pick agenda.steps.items step
    held_listed whole step (inl in_) = inl (of.has step (inl in_))
    held_listed whole step (inr led) = led_listed batch.single refl whole step led.0 led.1

    module _ (P : Step → Type 0) (h : Improves c pick P None (Some batch)) where
      from_batch : (step : Step) → Contains agenda.steps.items step → IsNewOf c P (record { round = batch.round; step = step })
      from_batch step in_ = elim (h.from (record { round = batch.round; step = step }) (refl, of.from step in_)) [ inl none ↦ absurd none | inr is ↦ is ]

      whole : IsWholeBatch batch
      whole = h.filled tt

      rest_of : ((other : Step) (round : ℕ) → branch_of other ≡ n → IsNewIn c other → IsRoundIn c other round → (batch.round < round) ⊎ P other) → (other : Step) (round : ℕ) →
          branch_of other ≡ n → IsNewIn c other → IsRoundIn c other round → (batch.round < round) ⊎ ((batch.round ≡ round) × IsListed pick agenda.steps.items other)
      rest_of all other round on is_new round_is = elim (all other round on is_new round_is) [
        | inl less ↦ inl less
        | inr p ↦ elim (h.reaches (record { round = round; step = other }) (record { of = p; new_ = is_new; round_is = round_is })) [
          | inl less ↦ inl less
          | inr level ↦ inr (level.0, held_listed whole other level.1)
        ]
      ]

      not_empty : agenda.steps.items ≡ [] → ⊥
      not_empty none = Contains-nil whole.step (subst (λ xs. Contains xs whole.step) none (of.has whole.step whole.there))

      pub batch_due : ((step : Step) → P step → branch_of step ≡ n) → ((other : Step) (round : ℕ) → branch_of other ≡ n → IsNewIn c other → IsRoundIn c other round → (batch.round < round) ⊎ P other) →
          (first : Option NewStep) → IsFirstOf agenda first → IsDueIfAny c pick n first
      batch_due on all None first = absurd (not_empty first)
      batch_due on all (Some it) first =
          let found = from_batch it.step (last_in agenda.steps.items it.step first.1) in
          let round_is : it.round ≡ batch.round = first.0 ∙ of.round in
          due_on_it c n b open_ pick agenda.steps.items it (on it.step found.of) (found.new_, subst (IsRoundIn c it.step) (sym round_is) found.round_is) first.1 of.in_turn
          (λ other round at is_new its.
          subst (λ r. (r < round) ⊎ ((r ≡ round) × IsListed pick agenda.steps.items other)) (sym round_is) (rest_of all other round at is_new its))

    -- that closes the branch
    closing_first : Improves c pick (IsClosing n) None (Some batch) → (other : Step) (round : ℕ) → branch_of other ≡ n → IsNewIn c other → IsRoundIn c other round →
        (batch.round < round) ⊎ IsClosing n other
    closing_first h other round on is_new round_is = elim (of_kind c pick n other on) [
      | inl closing ↦ inr closing
      | inr telling ↦
          let late : 0 < round = quiet_at_first c.problem b n other round telling (new_on c n b other open_ on is_new) (round_on c n b open_ other round on round_is) in
          let some = h.filled tt in
          let its = h.from (record { round = batch.round; step = some.step }) (refl, some.there) in
          elim its [
            | inl none ↦ absurd none
            | inr is ↦
                let zero : batch.round ≡ 0 = closing_round c n b open_ pick some.step batch.round is.of is.round_is in
                inl (let e : batch.round < round = omega (arith, late, zero) in e)
          ]
    ]

    pub closing_due : Improves c pick (IsClosing n) None (Some batch) → (first : Option NewStep) → IsFirstOf agenda first → IsDueIfAny c pick n first
    closing_due h = batch_due (IsClosing n) h (closing_on c pick n) (closing_first h)

    -- that tells the branch something
    pub telling_due : NoneCloses c n → Improves c pick (IsTelling n) None (Some batch) → (first : Option NewStep) → IsFirstOf agenda first → IsDueIfAny c pick n first
    telling_due closes h =
        batch_due (IsTelling n) h (telling_on c pick n)
        (λ other round on is_new round_is. elim (of_kind c pick n other on) [ inl closing ↦ absurd (closes.none other closing is_new) | inr telling ↦ inr telling ])

    -- the batch is past the round up to which the branch is quiet
    past_quiet : (bound : ℕ) → IsQuietUpto c.problem b n bound → Improves c pick (IsTelling n) None (Some batch) → bound < batch.round
    past_quiet bound quiet h =
        let some = whole (IsTelling n) h in
        let found = from_batch (IsTelling n) h some.step (of.has some.step some.there) in
        let on = telling_on c pick n some.step found.of in
        quiet some.step batch.round found.of (new_on c n b some.step open_ on found.new_) (round_on c n b open_ some.step batch.round on found.round_is)

    pub batch_is_agenda : (bound : ℕ) → bound ≤ MOST_ROUND → IsQuietUpto c.problem b n bound → AreOlder b agenda.older bound → NoneCloses c n → Improves c pick (IsTelling n) None (Some batch) →
        IsAgenda pick c.problem n b agenda
    batch_is_agenda bound most quiet older closes h = record {
      older =
          let past = past_quiet bound quiet h in
          let level = of.round in
          older_still b agenda.older bound (min agenda.round MOST_ROUND) (omega (arith, most, past, level)) older;
      silent = λ told. silent_of closes;
      on = λ step in_. telling_on c pick n step (from_batch (IsTelling n) h step in_).of;
      in_turn = of.in_turn;
      listed = λ step round telling is_new round_is low.
          let on = telling_on c pick n step telling in
          let level = of.round in
          elim (h.reaches (record { round = round; step = step }) (record { of = telling; new_ = new_in c n b open_ step on is_new; round_is = round_in c n b open_ step round on round_is })) [
            | inl less ↦ absurd (let no : ⊥ = omega (arith, less, low, level) in no)
            | inr held ↦ (sym held.0 ∙ sym level, held_listed (whole (IsTelling n) h) step held.1)
          ];
    }

  -- ---- nothing

  pub none_due : NoneCloses c n → Improves c pick (IsTelling n) None None → IsDueIfAny c pick n None
  none_due closes h step on is_new = elim (of_kind c pick n step on) [
    | inl closing ↦ closes.none step closing is_new
    | inr telling ↦ h.finds step telling is_new refl
  ]

  pub none_closes : Improves c pick (IsClosing n) None None → NoneCloses c n
  none_closes h = record { none = λ step closing is_new. h.finds step closing is_new refl }
