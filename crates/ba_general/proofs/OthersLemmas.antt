-- The others of some steps, as far as the loop has come.
use Rattle.std.proofs.Common.{◌≡◌, ℕ, zero, suc, ◌+◌, ◌-◌, ◌<◌, ◌≤◌, true, false, List, [], ◌∷◌, ◌++◌, length, take, drop, replicate, refl, sym, ap, ◌∙◌, subst, append_assoc, append-nil, arith}
use Rattle.std.proofs.lemmas.Bool.{false≢true}
use Rattle.std.specs.Prelude.{Option, Some, None, slice_get}
use Rattle.std.proofs.lemmas.List.{drop_all, drop_more}
use Rattle.std.proofs.lemmas.Option.{get_or_from_slice_get, none-some, same_Some}
use Rattle.ba_kernel.specs.Courses.{branch_of}
use Rattle.ba_kernel.specs.declared.step.Step.{Step}
use Rattle.ba_general.proofs.OneRestLemmas.{moved_by_one}
use Rattle.ba_general.specs.Leaving.{AreOthers, Gaps, IsGone, IsNext, IsWithout, gap_on, gaps_after, gaps_with}
use Rattle.ba_general.specs.declared.gap.Gap.{Gap}
use Rattle.ba_general.specs.declared.making.Made.{Made}

at_drop : {X : Type 0} (xs : List X) (n : ℕ) (x : X) → slice_get xs n ≡ Some x → n < length xs → drop n xs ≡ x ∷ drop (n + 1) xs
at_drop xs n x at below = drop_more xs n x below ∙ ap (λ y. y ∷ drop (n + 1) xs) (get_or_from_slice_get xs n x x at)

-- ---- one step

module _ (gaps new : Gaps) (sofar rest : List Step) (step : Step) (it : Made) where
  -- what is behind a step gives what is from it on
  record From (left : ℕ) (later : List Step) (its : List Made) (moved : List Step) : Type 0 where
    all : List Step
    others : AreOthers gaps left (step ∷ later) (it ∷ its) all
    same : rest ++ moved ≡ sofar ++ all

  record Behind (next : ℕ) (later : List Step) (its : List Made) (all : List Step) : Type 0 where
    moved : List Step
    others : AreOthers new next later its moved
    same : sofar ++ all ≡ rest ++ moved

  gone_from : (gap : Option Gap) (left : ℕ) (later : List Step) (its : List Made) (moved : List Step) → it.gap ≡ gap → IsGone gaps (branch_of step) gap new true →
      rest ≡ sofar → AreOthers new left later its moved → From (suc left) later its moved
  gone_from None left later its moved e h same others = absurd (false≢true (sym h))
  gone_from (Some gap) left later its moved e h same others =
      record {
        all = moved;
        others = AreOthers.gone e (subst (λ gs. AreOthers gs left later its moved) h.1 others);
        same = ap (λ xs. xs ++ moved) same;
      }

  from_next : (left next : ℕ) (later : List Step) (its : List Made) (moved : List Step) → next ≡ left - 1 → IsNext left gaps sofar step it new rest true →
      AreOthers new next later its moved → From left later its moved
  from_next zero next later its moved e h others =
      record {
        all = h.0 ∷ moved;
        others = AreOthers.stays h.1 (subst (λ n. AreOthers (gaps_after gaps step it) n later its moved) e (subst (λ gs. AreOthers gs next later its moved) h.2 others));
        same = ap (λ xs. xs ++ moved) h.3 ∙ append_assoc sofar (h.0 ∷ []) moved;
      }
  from_next (suc left) next later its moved e h others =
      gone_from it.gap left later its moved refl h.0 h.1 (subst (λ n. AreOthers new n later its moved) (let same : next ≡ left = omega arith in same) others)

  gone_behind : (gap : Option Gap) (g : Gap) (left : ℕ) (later : List Step) (its : List Made) (all : List Step) → it.gap ≡ gap → it.gap ≡ Some g →
      IsGone gaps (branch_of step) gap new true → rest ≡ sofar → AreOthers (gaps_with gaps (branch_of step) g) left later its all → Behind left later its all
  gone_behind None g left later its all e at h same others = absurd (false≢true (sym h))
  gone_behind (Some gap) g left later its all e at h same others =
      let one : g ≡ gap = same_Some g gap (sym at ∙ e) in
      record {
        moved = all;
        others =
            subst (λ gs. AreOthers gs left later its all) (sym h.1) (subst (λ x. AreOthers (gaps_with gaps (branch_of step) x) left later its all) one others);
        same = ap (λ xs. xs ++ all) (sym same);
      }

  behind_next : (left next : ℕ) (later : List Step) (its : List Made) (all : List Step) → next ≡ left - 1 → IsNext left gaps sofar step it new rest true →
      AreOthers gaps left (step ∷ later) (it ∷ its) all → Behind next later its all
  behind_next zero next later its all e h (AreOthers.stays {moved = a} {rest = more} m others) =
      let one : a ≡ h.0 = moved_by_one (gap_on gaps (branch_of step)) step a h.0 m h.1 in
      record {
        moved = more;
        others = subst (λ n. AreOthers new n later its more) (sym e) (subst (λ gs. AreOthers gs zero later its more) (sym h.2) others);
        same = ap (λ x. sofar ++ x ∷ more) one ∙ (sym (append_assoc sofar (h.0 ∷ []) more) ∙ ap (λ xs. xs ++ more) (sym h.3));
      }
  behind_next (suc left) next later its all e h (AreOthers.gone {gap = g} at others) =
      let it_is = gone_behind it.gap g left later its all refl at h.0 h.1 others in
      record {
        moved = it_is.moved;
        others = subst (λ n. AreOthers new n later its it_is.moved) (let same : left ≡ next = omega arith in same) it_is.others;
        same = it_is.same;
      }

  gone_none : (gap : Option Gap) (g : Gap) → it.gap ≡ gap → it.gap ≡ Some g → ¬ (IsGone gaps (branch_of step) gap new false)
  gone_none None g e at h = none-some g (sym e ∙ at)
  gone_none (Some gap) g e at h = false≢true h.0

  none_next : (left : ℕ) (later : List Step) (its : List Made) (all : List Step) → IsNext left gaps sofar step it new rest false →
      ¬ (AreOthers gaps left (step ∷ later) (it ∷ its) all)
  none_next zero later its all h (AreOthers.stays {moved = a} m others) = h a m
  none_next (suc left) later its all h (AreOthers.gone {gap = g} at others) = gone_none it.gap g refl at h.0

-- ---- the loop

module _ (taken : List Step) (its : List Made) (first end : ℕ) where
  -- the others of the steps from the first number on, where this step is the first that is left out
  abbrev AreAll : Made → List Step → Type 0
  AreAll it all = AreOthers (replicate it.before None) (end - first) (drop first taken) (drop first its) all

  -- the steps before the number n were gone through
  pub record SoFar (n : ℕ) (gaps : Gaps) (sofar : List Step) : Type 0 where
    it : Made
    it_is : slice_get its first ≡ Some it
    whole : (moved : List Step) → AreOthers gaps (end - n) (drop n taken) (drop n its) moved → AreAll it (sofar ++ moved)
    only : (all : List Step) → AreAll it all → (moved : List Step) × AreOthers gaps (end - n) (drop n taken) (drop n its) moved × (all ≡ sofar ++ moved)

  pub sofar_start : (it : Made) (gaps : Gaps) (sofar : List Step) → slice_get its first ≡ Some it → gaps ≡ replicate it.before None → sofar ≡ [] → SoFar first gaps sofar
  sofar_start it gaps sofar at e none =
      record {
        it = it;
        it_is = at;
        whole = λ moved others.
            subst (λ xs. AreAll it (xs ++ moved)) (sym none) (subst (λ gs. AreOthers gs (end - first) (drop first taken) (drop first its) moved) e others);
        only = λ all others.
            (all, subst (λ gs. AreOthers gs (end - first) (drop first taken) (drop first its) all) (sym e) others, ap (λ xs. xs ++ all) (sym none));
      }

  module _ (n : ℕ) (gaps new : Gaps) (sofar rest : List Step) (step : Step) (it : Made) (below : n < length taken) (also : n < length its)
      (at : slice_get taken n ≡ Some step) (its_at : slice_get its n ≡ Some it) (h : SoFar n gaps sofar) where
    later_is : drop n taken ≡ step ∷ drop (n + 1) taken
    later_is = at_drop taken n step at below

    its_is : drop n its ≡ it ∷ drop (n + 1) its
    its_is = at_drop its n it its_at also

    opened : (all : List Step) → AreOthers gaps (end - n) (drop n taken) (drop n its) all → AreOthers gaps (end - n) (step ∷ drop (n + 1) taken) (it ∷ drop (n + 1) its) all
    opened all others =
        subst (λ xs. AreOthers gaps (end - n) xs (it ∷ drop (n + 1) its) all) later_is (subst (λ ms. AreOthers gaps (end - n) (drop n taken) ms all) its_is others)

    closed : (all : List Step) → AreOthers gaps (end - n) (step ∷ drop (n + 1) taken) (it ∷ drop (n + 1) its) all → AreOthers gaps (end - n) (drop n taken) (drop n its) all
    closed all others =
        subst (λ ms. AreOthers gaps (end - n) (drop n taken) ms all) (sym its_is)
        (subst (λ xs. AreOthers gaps (end - n) xs (it ∷ drop (n + 1) its) all) (sym later_is) others)

    pub sofar_next : IsNext (end - n) gaps sofar step it new rest true → SoFar (n + 1) new rest
    sofar_next told =
        let left : end - (n + 1) ≡ (end - n) - 1 = omega arith in
        record {
          it = h.it;
          it_is = h.it_is;
          whole = λ moved others.
              let on = from_next gaps new sofar rest step it (end - n) (end - (n + 1)) (drop (n + 1) taken) (drop (n + 1) its) moved left told others in
              subst (AreAll h.it) {x = sofar ++ on.all} (sym on.same) (h.whole on.all (closed on.all on.others));
          only = λ all others.
              let before = h.only all others in
              let on = behind_next gaps new sofar rest step it (end - n) (end - (n + 1)) (drop (n + 1) taken) (drop (n + 1) its) before.0 left told
              (opened before.0 before.1) in
              (on.moved, on.others, before.2 ∙ on.same);
        }

    -- nothing is the rest where a step can't be left out, or names what is missing
    pub sofar_none : IsNext (end - n) gaps sofar step it new rest false → (other : List Step) → ¬ (IsWithout taken its first end other)
    sofar_none told other w =
        let same : w.it ≡ h.it = same_Some w.it h.it (sym w.it_is ∙ h.it_is) in
        let before = h.only w.moved (subst (λ m. AreAll m w.moved) same w.others) in
        none_next gaps new sofar rest step it (end - n) (drop (n + 1) taken) (drop (n + 1) its) before.0 told (opened before.0 before.1)

  pub sofar_end : (n : ℕ) (gaps : Gaps) (sofar rest : List Step) → length taken ≤ n → length its ≤ n → SoFar n gaps sofar → rest ≡ take first taken ++ sofar →
      IsWithout taken its first end rest
  sofar_end n gaps sofar rest past also h e =
      record {
        it = h.it;
        it_is = h.it_is;
        moved = sofar;
        others =
            subst (AreAll h.it) (append-nil sofar)
            (h.whole []
            (subst (λ xs. AreOthers gaps (end - n) xs (drop n its) []) (sym (drop_all n taken past))
            (subst (λ ms. AreOthers gaps (end - n) [] ms []) (sym (drop_all n its also)) AreOthers.none)));
        rest_is = e;
      }
