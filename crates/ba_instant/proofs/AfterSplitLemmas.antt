-- What both branches of a loose split are up to the round before it.
use Rattle.std.proofs.Common.{◌≡◌, ◌∙◌, ℕ, List, [], ◌∷◌, ◌++◌, inl, inr, length, ap, refl, sym, subst, arith}
use Rattle.std.proofs.lemmas.List.{length-set}
use Rattle.std.proofs.lemmas.Option.{same_Some, slice_get_within}
use Rattle.std.specs.Prelude.{Some, pos, slice_get, slice_set}
use Rattle.ba_model.specs.declared.query.Op.{Op}
use Rattle.ba_model.specs.declared.query.Op.TheVariants.{Eq, Ne, Lt, Le, IsNull, NotNull}
use Rattle.ba_facts.specs.declared.branch.Branch.{Branch}
use Rattle.ba_facts.specs.declared.term.Lesson.TheVariants.{Holds}
use Rattle.ba_facts.specs.declared.term.Term.{Term}
use Rattle.ba_kernel.specs.Courses.{IsOpen, Slots, Takes, after, branch_of}
use Rattle.ba_kernel.specs.Effects.{negation, with_lessons}
use Rattle.ba_kernel.specs.Steps.{Leads, SplitLeads}
use Rattle.ba_kernel.specs.SearchStates.{Course}
use Rattle.ba_kernel.specs.declared.problem.Problem.{Problem}
use Rattle.ba_kernel.specs.declared.step.Step.{Step}
use Rattle.ba_instant.proofs.DueLemmas.{one_open}
use Rattle.ba_instant.proofs.KeepLemmas.{first_case}
use Rattle.ba_instant.proofs.LooseStepLemmas.{loose_stays}
use Rattle.ba_instant.proofs.QuietLemmas.{due_is_quiet, quiet_at_first}
use Rattle.ba_settle.specs.Dues.{IsDueStep}
use Rattle.ba_instant.specs.Loose.{IsBeside, IsLooseAtom, IsLooseOf, IsQuietBeside}
use Rattle.ba_instant.specs.Loose as loose
use Rattle.ba_instant.specs.Nexts.{SplitsLoosely}
use Rattle.ba_instant.specs.Offers.{IsTelling}
use Rattle.ba_instant.specs.Windows.{IsQuietUpto}
use Rattle.ba_instant.specs.declared.scan.NewStep.{NewStep}

beside_tells : (n : ℕ) (step : Step) → IsBeside n step → IsTelling n step
beside_tells n step (inl h) = inl (inl (inl h))
beside_tells n step (inr h) = inr h

pub quiet_zero : (p : Problem) (b : Branch) (n : ℕ) → IsQuietBeside p b n 0
quiet_zero p b n step round beside new is = quiet_at_first p b n step round (beside_tells n step beside) new is

-- ---- the cases of a split, told of the branch

module _ (p : Problem) (b : Branch) (number other bound : ℕ) (quiet : IsQuietUpto p b number bound) where
  case_quiet : (op : Op) (s t : Term) → IsLooseOf b.known op s t → IsQuietBeside p (with_lessons b (Holds (record { op = op; left = s; right = t }) ∷ [])) other bound
  case_quiet Eq s t h = absurd h
  case_quiet Ne s t h = absurd h
  case_quiet Lt s t h = loose_stays p b (Holds (record { op = Lt; left = s; right = t })) s (pos 1) t number other bound (loose.less refl refl) h.0 quiet
  case_quiet Le s t h = loose_stays p b (Holds (record { op = Le; left = s; right = t })) s (pos 0) t number other bound (loose.at_most refl refl) h.0 quiet
  case_quiet IsNull s t h = absurd h
  case_quiet NotNull s t h = absurd h

  -- of what isn't loose nothing is said
  opposite_quiet : (op : Op) (s t : Term) → IsLooseOf b.known op s t → IsQuietBeside p (with_lessons b (Holds (negation (record { op = op; left = s; right = t })) ∷ [])) other bound
  opposite_quiet Eq s t h = absurd h
  opposite_quiet Ne s t h = absurd h
  opposite_quiet Lt s t h = loose_stays p b (Holds (record { op = Le; left = t; right = s })) t (pos 0) s number other bound (loose.at_most refl refl) h.1 quiet
  opposite_quiet Le s t h = loose_stays p b (Holds (record { op = Lt; left = t; right = s })) t (pos 1) s number other bound (loose.less refl refl) h.1 quiet
  opposite_quiet IsNull s t h = absurd h
  opposite_quiet NotNull s t h = absurd h

-- ---- the branches of the numbers

at_end : {X : Type 0} (xs : List X) (y : X) → slice_get (xs ++ y ∷ []) (length xs) ≡ Some y
at_end [] y = refl
at_end (x ∷ xs) y = at_end xs y

second_case : (slots : Slots) (n : ℕ) (one two c : Branch) → IsOpen (after slots n (one ∷ two ∷ [])) (length slots) c → c ≡ two
second_case slots n one two c e =
    let front = slice_set slots n (Some one) in
    let same : length front ≡ length slots = length-set slots n (Some one) in
    let here : slice_get (front ++ Some two ∷ []) (length slots) ≡ Some (Some two) = subst (λ m. slice_get (front ++ Some two ∷ []) m ≡ Some (Some two)) same (at_end front (Some two)) in
    same_Some c two (same_Some (Some c) (Some two) (sym e ∙ here))

module _ (c new : Course) (of : NewStep) (round : ℕ) (due : IsDueStep c.problem c.slots of.step) (due_round : of.round ≡ due.round) (takes : Takes c.problem c.slots of.step new.slots)
    (h : SplitsLoosely c of round) where
  abbrev n : ℕ
  n = branch_of of.step

  abbrev b : Branch
  b = h.branch

  splits : SplitLeads b h.atom takes.cases
  splits =
      let leads : Leads c.problem b of.step takes.cases = subst (λ d. Leads c.problem d of.step takes.cases) (one_open c.slots n takes.branch b takes.open_ h.open_) takes.leads in
      subst (λ s. Leads c.problem b s takes.cases) h.split leads

  abbrev one : Branch
  one = with_lessons b (Holds h.atom ∷ [])

  abbrev two : Branch
  two = with_lessons b (Holds (negation h.atom) ∷ [])

  slots_are : new.slots ≡ after c.slots n (one ∷ two ∷ [])
  slots_are = takes.new_is ∙ ap (after c.slots n) splits.cases_are

  quiet : IsQuietUpto c.problem b n round
  quiet =
      subst (λ d. IsQuietUpto c.problem d n round) (one_open c.slots n due.branch b due.open_ h.open_)
      (due_is_quiet c.problem c.slots of.step round due (let past = h.past in omega (arith, past, due_round)))

  pub first_quiet : (number : ℕ) (d : Branch) → number ≡ n → IsOpen new.slots number d → IsQuietBeside c.problem d number round
  first_quiet number d is open_ =
      let here : IsOpen (after c.slots n (one ∷ two ∷ [])) n d = subst (λ slots. IsOpen slots n d) slots_are (subst (λ m. IsOpen new.slots m d) is open_) in
      let same : one ≡ d = first_case c.slots n (one ∷ two ∷ []) d (slice_get_within c.slots n (Some b) h.open_) here in
      subst (λ e. IsQuietBeside c.problem e number round) same (case_quiet c.problem b n number round quiet h.atom.op h.atom.left h.atom.right h.loose)

  pub other_quiet : (number : ℕ) (d : Branch) → number ≡ length c.slots → IsOpen new.slots number d → IsQuietBeside c.problem d number round
  other_quiet number d is open_ =
      let here : IsOpen (after c.slots n (one ∷ two ∷ [])) (length c.slots) d = subst (λ slots. IsOpen slots (length c.slots) d) slots_are (subst (λ m. IsOpen new.slots m d) is open_) in
      let same : d ≡ two = second_case c.slots n one two d here in
      subst (λ e. IsQuietBeside c.problem e number round) (sym same) (opposite_quiet c.problem b n number round quiet h.atom.op h.atom.left h.atom.right h.loose)
