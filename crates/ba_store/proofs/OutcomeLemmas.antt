-- A template file comes to one outcome.
use Rattle.std.proofs.Common.{◌≡◌, ◌≢◌, ◌∙◌, ℕ, suc, ◌+◌, ◌<◌, ◌≤◌, List, [], ◌∷◌, ◌++◌, length, refl, sym, ap, ap₂, subst, arith}
use Rattle.std.specs.Prelude.{Result, Ok, Err}
use Rattle.std.specs.List.{AllZip}
use Rattle.ba_model.specs.Limits.{most_templates}
use Rattle.ba_model.specs.declared.policy.Policy.{Policy}
use Rattle.ba_kernel.proofs.OneCase.{start_one, takes_one}
use Rattle.ba_kernel.proofs.OneEnd.{one_end}
use Rattle.ba_kernel.specs.Courses.{ProblemFits, Runs, Slots, Takes, next, start}
use Rattle.ba_kernel.specs.Drafts.{IsChecked}
use Rattle.ba_kernel.specs.Replays.{Closes, HasFault, HasOneEnd, RefusesAt}
use Rattle.ba_kernel.specs.SearchStates.{Proof}
use Rattle.ba_kernel.specs.declared.problem.Problem.{Problem}
use Rattle.ba_kernel.specs.declared.replaying.ReplayFault.{ReplayFault}
use Rattle.ba_kernel.specs.declared.replaying.ReplayFault.TheVariants.{Refused, Open}
use Rattle.ba_kernel.specs.declared.step.Step.{Step}
use Rattle.ba_kernel.specs.declared.step.StepFault.{StepFault}
use Rattle.ba_proof.proofs.CheckLemmas.{not_closed}
use Rattle.ba_proof.specs.Checked.{LeavesOpen, open_count}
use Rattle.ba_proof.specs.declared.proof.Proof.{Proof as Draft}
use Rattle.ba_store.proofs.LoadLemmas.{draft_fits, draft_passes}
use Rattle.ba_store.specs.Loads.{FewLoad, HasBadLine, IsBadLine, IsLineOf, LinesLoad, Loads, Proves, at_line, few, lines_of, many, unproved, unread}
use Rattle.ba_store.specs.Outcomes.{FileHasOneOutcome}
use Rattle.ba_store.specs.Reading.{draft_of, draft_with}
use Rattle.ba_store.specs.declared.fault.LineFault.{LineFault}
use Rattle.ba_store.specs.declared.fault.StoreFault.{StoreFault}
use Rattle.ba_store.specs.declared.fault.StoreFault.TheVariants as fault

ok_same : {A F : Type 0} (x y : A) → ◌≡◌ {A = Result A F} (Ok x) (Ok y) → x ≡ y
ok_same x y e = cc e

err_same : {A F : Type 0} (x y : F) → ◌≡◌ {A = Result A F} (Err x) (Err y) → x ≡ y
err_same x y e = cc e

ok_err : {A F : Type 0} (x : A) (y : F) → ◌≡◌ {A = Result A F} (Ok x) (Err y) → ⊥
ok_err x y e = cc e

-- ---- steps that leave branches open leave so many

snoc_some : {X : Type 0} (xs : List X) (x : X) → [] ≡ xs ++ x ∷ [] → ⊥
snoc_some [] x e = cc e
snoc_some (y ∷ xs) x e = cc e

snoc_front : {X : Type 0} (xs ys : List X) (x y : X) → xs ++ x ∷ [] ≡ ys ++ y ∷ [] → xs ≡ ys
snoc_front [] [] x y e = refl
snoc_front [] (z ∷ ys) x y e = let rest : [] ≡ ys ++ y ∷ [] = cc e in absurd (snoc_some ys y rest)
snoc_front (z ∷ xs) [] x y e = let rest : [] ≡ xs ++ x ∷ [] = cc e in absurd (snoc_some xs x (rest))
snoc_front (z ∷ xs) (w ∷ ys) x y e =
    let first : z ≡ w = cc e in
    let rest : xs ++ x ∷ [] ≡ ys ++ y ∷ [] = cc e in
    ap₂ (λ v vs. v ∷ vs) first (snoc_front xs ys x y rest)

snoc_last : {X : Type 0} (xs ys : List X) (x y : X) → xs ++ x ∷ [] ≡ ys ++ y ∷ [] → x ≡ y
snoc_last [] [] x y e = cc e
snoc_last [] (z ∷ ys) x y e = let rest : [] ≡ ys ++ y ∷ [] = cc e in absurd (snoc_some ys y rest)
snoc_last (z ∷ xs) [] x y e = let rest : [] ≡ xs ++ x ∷ [] = cc e in absurd (snoc_some xs x rest)
snoc_last (z ∷ xs) (w ∷ ys) x y e = let rest : xs ++ x ∷ [] ≡ ys ++ y ∷ [] = cc e in snoc_last xs ys x y rest

module _ (p : Problem) (fits : ProblemFits p) where
  runs_one : {xs ys : List Step} {slots others : Slots} → Runs p xs slots → Runs p ys others → xs ≡ ys → slots ≡ others
  runs_one (start {slots = slots} h) (start {slots = others} k) e = start_one p slots others h k
  runs_one (start h) (next {taken = ys} {step = y} runs takes) e = absurd (snoc_some ys y e)
  runs_one (next {taken = xs} {step = x} runs takes) (start h) e = absurd (snoc_some xs x (sym e))
  runs_one (next {taken = xs} {step = x} {old = old} {new = new} runs takes) (next {taken = ys} {step = y} {old = other} {new = last} again taking) e =
      let before : old ≡ other = runs_one runs again (snoc_front xs ys x y e) in
      let step : x ≡ y = snoc_last xs ys x y e in
      let at_old = subst (λ slots. Takes p slots y last) (sym before) taking in
      let own = subst (λ s. Takes p old s last) (sym step) at_old in
      takes_one p fits old x new last takes own

  one_count : (steps : List Step) (m n : ℕ) → LeavesOpen p steps m → LeavesOpen p steps n → m ≡ n
  one_count steps m n h k = h.count ∙ ap open_count (runs_one h.runs k.runs refl) ∙ sym k.count

  -- a fault of the steps is one of the replay
  opens : (steps : List Step) (n : ℕ) → LeavesOpen p steps n → HasFault p steps Open
  opens steps n h = record { slots = h.slots; runs = h.runs; open_ = not_closed h.slots (subst (λ m. 0 < m) h.count h.some) }

  refused_same : (m n : ℕ) (f g : StepFault) → Refused m f ≡ Refused n g → (m ≡ n) × (f ≡ g)
  refused_same m n f g e = (cc e, cc e)

-- ---- one line

module _ (policy : Policy) (checked : IsChecked policy) (bytes : List ℕ) where
  fits_of : (draft : Draft) → draft_of policy bytes ≡ Ok draft → ProblemFits draft.problem
  fits_of draft said = draft_fits policy draft.problem draft.steps checked (draft_passes policy bytes draft said)

  closes_none : (number : ℕ) (draft : Draft) (f : StoreFault) → draft_of policy bytes ≡ Ok draft → Closes draft.problem draft.steps → Proves number draft (Err f) → ⊥
  closes_none number draft (fault.TooMany limit) said closes h = h
  closes_none number draft (fault.Json line) said closes h = h
  closes_none number draft (fault.Field line it) said closes h = h
  closes_none number draft (fault.NotShown line step f) said closes h = (one_end draft.problem draft.steps (fits_of draft said)).no_fault (Refused step f) closes h.1
  closes_none number draft (fault.StillOpen line branches) said closes h =
      (one_end draft.problem draft.steps (fits_of draft said)).no_fault Open closes (opens draft.problem (fits_of draft said) draft.steps branches h.1)

  proves_one : (number : ℕ) (draft : Draft) (f g : StoreFault) → draft_of policy bytes ≡ Ok draft → Proves number draft (Err f) → Proves number draft (Err g) → f ≡ g
  proves_one number draft (fault.TooMany limit) g said h k = absurd h
  proves_one number draft (fault.Json line) g said h k = absurd h
  proves_one number draft (fault.Field line it) g said h k = absurd h
  proves_one number draft (fault.NotShown line step f) (fault.TooMany limit) said h k = absurd k
  proves_one number draft (fault.NotShown line step f) (fault.Json other) said h k = absurd k
  proves_one number draft (fault.NotShown line step f) (fault.Field other it) said h k = absurd k
  proves_one number draft (fault.NotShown line step f) (fault.NotShown other later g) said h k =
      let same = refused_same draft.problem (fits_of draft said) step later f g ((one_end draft.problem draft.steps (fits_of draft said)).one_fault (Refused step f) (Refused later g) h.1 k.1) in
      ap (λ n. fault.NotShown n step f) (h.0 ∙ sym k.0) ∙ ap₂ (λ n it. fault.NotShown other n it) same.0 same.1
  proves_one number draft (fault.NotShown line step f) (fault.StillOpen other branches) said h k =
      let wrong : Refused step f ≡ Open = (one_end draft.problem draft.steps (fits_of draft said)).one_fault (Refused step f) Open h.1 (opens draft.problem (fits_of draft said) draft.steps branches k.1) in
      absurd (cc)
  proves_one number draft (fault.StillOpen line branches) (fault.TooMany limit) said h k = absurd k
  proves_one number draft (fault.StillOpen line branches) (fault.Json other) said h k = absurd k
  proves_one number draft (fault.StillOpen line branches) (fault.Field other it) said h k = absurd k
  proves_one number draft (fault.StillOpen line branches) (fault.NotShown other step g) said h k =
      let wrong : Open ≡ Refused step g = (one_end draft.problem draft.steps (fits_of draft said)).one_fault Open (Refused step g) (opens draft.problem (fits_of draft said) draft.steps branches h.1) k.1 in
      absurd (cc)
  proves_one number draft (fault.StillOpen line branches) (fault.StillOpen other more) said h k =
      ap₂ (λ n m. fault.StillOpen n m) (h.0 ∙ sym k.0) (one_count draft.problem (fits_of draft said) draft.steps branches more h.1 k.1)

  template_one : (it other : Proof) → IsLineOf policy bytes it → IsLineOf policy bytes other → it ≡ other
  template_one it other h k =
      let same : draft_with it.problem it.steps ≡ draft_with other.problem other.steps = ok_same _ _ (sym h.says ∙ k.says) in
      let p : it.problem ≡ other.problem = ap (λ (d : Draft). d.problem) same in
      let s : it.steps ≡ other.steps = ap (λ (d : Draft). d.steps) same in
      ap₂ (λ x y. let made : Proof = record { problem = x; steps = y } in made) p s

  not_bad : (number : ℕ) (it : Proof) (f : StoreFault) → IsLineOf policy bytes it → IsBadLine policy number bytes f → ⊥
  not_bad number it f h (unread {fault = lost} said) = ok_err _ lost (sym h.says ∙ said)
  not_bad number it f h (unproved draft said proves) =
      let same : draft_with it.problem it.steps ≡ draft = ok_same _ _ (sym h.says ∙ said) in
      closes_none number draft f said (subst (λ (d : Draft). Closes d.problem d.steps) same h.closes) proves

  bad_one : (number : ℕ) (f g : StoreFault) → IsBadLine policy number bytes f → IsBadLine policy number bytes g → f ≡ g
  bad_one number f g (unread {fault = lost} said) (unread {fault = other} again) = ap (at_line number) (err_same lost other (sym said ∙ again))
  bad_one number f g (unread {fault = lost} said) (unproved draft again proves) = absurd (ok_err draft lost (sym again ∙ said))
  bad_one number f g (unproved draft said proves) (unread {fault = lost} again) = absurd (ok_err draft lost (sym said ∙ again))
  bad_one number f g (unproved draft said proves) (unproved other again proving) =
      let same : other ≡ draft = ok_same other draft (sym again ∙ said) in
      proves_one number draft f g said proves (subst (λ d. Proves number d (Err g)) same proving)

-- ---- lines

module _ (policy : Policy) (checked : IsChecked policy) where
  templates_one : (lines : List (List ℕ)) (its others : List Proof) → AllZip (IsLineOf policy) lines its → AllZip (IsLineOf policy) lines others → its ≡ others
  templates_one [] [] [] z w = refl
  templates_one [] [] (y ∷ others) z w = absurd w
  templates_one [] (x ∷ its) others z w = absurd z
  templates_one (line ∷ lines) [] others z w = absurd z
  templates_one (line ∷ lines) (x ∷ its) [] z w = absurd w
  templates_one (line ∷ lines) (x ∷ its) (y ∷ others) z w = ap₂ (λ v vs. v ∷ vs) (template_one policy checked line x y z.0 w.0) (templates_one lines its others z.1 w.1)

  -- a bad line isn't among those that are templates
  none_bad : (front rest lines : List (List ℕ)) (bytes : List ℕ) (number : ℕ) (its : List Proof) (f : StoreFault) → lines ≡ front ++ bytes ∷ rest → AllZip (IsLineOf policy) lines its
      → IsBadLine policy number bytes f → ⊥
  none_bad [] rest [] bytes number its f e z bad = cc e
  none_bad [] rest (line ∷ lines) bytes number [] f e z bad = z
  none_bad [] rest (line ∷ lines) bytes number (x ∷ its) f e z bad =
      let same : line ≡ bytes = cc e in not_bad policy checked bytes number x f (subst (λ b. IsLineOf policy b x) same z.0) bad
  none_bad (other ∷ front) rest [] bytes number its f e z bad = cc e
  none_bad (other ∷ front) rest (line ∷ lines) bytes number [] f e z bad = z
  none_bad (other ∷ front) rest (line ∷ lines) bytes number (x ∷ its) f e z bad =
      let later : lines ≡ front ++ bytes ∷ rest = cc e in none_bad front rest lines bytes number its f later z.1 bad

  -- the first bad line is one
  fronts_one : (front rest other later : List (List ℕ)) (bytes last : List ℕ) (its others : List Proof) (m n : ℕ) (f g : StoreFault) → front ++ bytes ∷ rest ≡ other ++ last ∷ later
      → AllZip (IsLineOf policy) front its → AllZip (IsLineOf policy) other others → IsBadLine policy m bytes f → IsBadLine policy n last g → (front ≡ other) × (bytes ≡ last)
  fronts_one [] rest [] later bytes last its others m n f g e z w bad worse = (refl, cc e)
  fronts_one [] rest (y ∷ other) later bytes last its [] m n f g e z w bad worse = absurd w
  fronts_one [] rest (y ∷ other) later bytes last its (it ∷ others) m n f g e z w bad worse =
      let same : y ≡ bytes = let back : bytes ≡ y = cc e in sym back in absurd (not_bad policy checked bytes m it f (subst (λ b. IsLineOf policy b it) same w.0) bad)
  fronts_one (x ∷ front) rest [] later bytes last [] others m n f g e z w bad worse = absurd z
  fronts_one (x ∷ front) rest [] later bytes last (it ∷ its) others m n f g e z w bad worse =
      let same : x ≡ last = cc e in absurd (not_bad policy checked last n it g (subst (λ b. IsLineOf policy b it) same z.0) worse)
  fronts_one (x ∷ front) rest (y ∷ other) later bytes last [] others m n f g e z w bad worse = absurd z
  fronts_one (x ∷ front) rest (y ∷ other) later bytes last (it ∷ its) [] m n f g e z w bad worse = absurd w
  fronts_one (x ∷ front) rest (y ∷ other) later bytes last (it ∷ its) (an ∷ others) m n f g e z w bad worse =
      let first : x ≡ y = cc e in
      let more : front ++ bytes ∷ rest ≡ other ++ last ∷ later = cc e in
      let rest_is = fronts_one front rest other later bytes last its others m n f g more z.1 w.1 bad worse in
      (ap₂ (λ v vs. v ∷ vs) first rest_is.0, rest_is.1)

  faults_one : (lines : List (List ℕ)) (f g : StoreFault) → HasBadLine policy lines f → HasBadLine policy lines g → f ≡ g
  faults_one lines f g h k =
      let same = fronts_one h.front h.rest k.front k.rest h.bytes k.bytes h.before k.before (length h.front + 1) (length k.front + 1) f g (sym h.splits ∙ k.splits) h.templates k.templates h.bad k.bad in
      bad_one policy checked h.bytes (length h.front + 1) f g h.bad
      (subst (λ n. IsBadLine policy n h.bytes g) (ap (λ (ls : List (List ℕ)). length ls + 1) (sym same.0)) (subst (λ b. IsBadLine policy (length k.front + 1) b g) (sym same.1) k.bad))

  lines_one : (lines : List (List ℕ)) (r s : Result (List Proof) StoreFault) → LinesLoad policy lines r → LinesLoad policy lines s → r ≡ s
  lines_one lines (Ok its) (Ok others) h k = ap Ok (templates_one lines its others h k)
  lines_one lines (Ok its) (Err g) h k = absurd (none_bad k.front k.rest lines k.bytes (length k.front + 1) its g k.splits h k.bad)
  lines_one lines (Err f) (Ok others) h k = absurd (none_bad h.front h.rest lines h.bytes (length h.front + 1) others f h.splits k h.bad)
  lines_one lines (Err f) (Err g) h k = ap Err (faults_one lines f g h k)

pub one_outcome : FileHasOneOutcome
one_outcome policy bytes r s checked (many above) (many again) = refl
one_outcome policy bytes r s checked (many above) (few h) = let within = h.few in absurd (omega (arith, above, within))
one_outcome policy bytes r s checked (few h) (many above) = let within = h.few in absurd (omega (arith, above, within))
one_outcome policy bytes r s checked (few h) (few k) = lines_one policy checked (lines_of bytes) r s h.lines_load k.lines_load
