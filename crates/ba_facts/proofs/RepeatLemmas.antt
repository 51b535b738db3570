-- The walk that looks for a row that some facts give, and what it passes over.
use Rattle.std.proofs.Common.{◌≡◌, ℕ, ◌⊎◌, inl, inr, List, [], ◌∷◌, ◌++◌, length, refl, sym, subst}
use Rattle.std.specs.List.{AllZip}
use Rattle.std.specs.Prelude.{Option}
use Rattle.ba_facts.proofs.AlikeLemmas.{completes_instead, fact_alike, head_instead, instead}
use Rattle.ba_facts.proofs.FrontLemmas.{front_lost}
use Rattle.ba_facts.proofs.WalkLemmas.{answered_from, by_cases, by_every, by_last, by_one, completes_last, composes_by, earlier_in, is_answered, last_completes, meets_last, next_completes, pruned}
use Rattle.ba_facts.specs.Matches.{AreTheSame, IsAnswered, IsFactOf, row_of}
use Rattle.ba_facts.specs.Walks.{AreMet, CantGive, Completes, CompletesBy, Composes, HasEarlier, IsAnsweredFrom, IsSpared, NoneAnswers, every}
use Rattle.ba_facts.specs.declared.term.Term.{Term}
use Rattle.ba_facts.specs.declared.walk.Walk.{Walk}
use Rattle.ba_facts.specs.declared.walk.Wanted.TheVariants.{Shown}

module _ (w : Walk) (row : List (Option Term)) where
  abbrev Gives : List ℕ → Type 0
  Gives facts = AllZip (AreTheSame w.branch.now.known) (row_of w.branch.now facts w.part.now.head) row

  abbrev By : List ℕ → List ℕ → List ℕ → List ℕ → Type 0
  By = CompletesBy w.branch.now w.side w.part.now w.wanted

  abbrev Nowhere : List ℕ → List ℕ → List ℕ → Type 0
  Nowhere = NoneAnswers w.branch.now w.side w.part.now w.wanted row

  pub answers_compose : {S E : Type 0} →
      Composes {S = S} {E = E} w.branch.now w.side (λ from chosen numbers. numbers ≡ every w.branch.now)
      (λ from chosen numbers old new. NoneAnswers w.branch.now w.side w.part.now w.wanted row from chosen numbers)
      (λ from chosen stop. IsAnsweredFrom w.branch.now w.side w.part.now w.wanted row from chosen)
  answers_compose {S} {E} =
      composes_by {S = S} {E = E} w.branch.now w.side w.part.now w.wanted (λ P old new. (facts : List ℕ) → P facts → Gives facts → ⊥)
      (λ P now none facts p. absurd (none facts p))
      (λ P Q T old now new to too cases p q facts t. elim (cases facts t) [ inl it ↦ p facts it | inr it ↦ q facts it ])
      (λ from chosen stop. IsAnsweredFrom w.branch.now w.side w.part.now w.wanted row from chosen)
      (λ table rest chosen n stop fact h.
      record { facts = h.facts; completes = next_completes w.branch.now w.side w.part.now w.wanted table rest chosen n h.facts fact h.completes; head = h.head })

  -- the row can't be given by facts that complete the chosen ones
  pub lost : (from chosen facts : List ℕ) → CantGive w row chosen → Completes w.branch.now w.side w.part.now w.wanted from chosen facts → Gives facts → ⊥
  lost from chosen facts (inl fails) h head = pruned w.branch.now w.side w.part.now w.wanted from chosen fails facts h
  lost from chosen facts (inr other) h head = front_lost w.branch.now w.side w.part.now w.wanted from chosen facts h row other head

  module _ (number : ℕ) (from chosen front before after : List ℕ) (split : chosen ≡ front ++ number ∷ [])
      (offered : before ++ number ∷ after ≡ every w.branch.now) where
    repeated : (table : ℕ) → HasEarlier w.branch.now number → Nowhere (table ∷ from) front before → (facts : List ℕ) →
        IsFactOf w.branch.now w.side table number → Completes w.branch.now w.side w.part.now w.wanted from (front ++ number ∷ []) facts → Gives facts → ⊥
    repeated table e none facts fact here head =
        none (instead w.branch.now number e.other e.as_well.alike w.side w.part.now w.wanted from front facts here)
        (by_one w.branch.now w.side w.part.now w.wanted table from front before e.other
        (instead w.branch.now number e.other e.as_well.alike w.side w.part.now w.wanted from front facts here)
        (earlier_in before after (length w.branch.now.facts) number e.other offered e.below)
        (fact_alike w.branch.now number e.other e.as_well.alike w.side table fact)
        (completes_instead w.branch.now number e.other e.as_well.alike w.side w.part.now w.wanted from front facts here))
        (head_instead w.branch.now number e.other e.as_well.alike w.side w.part.now w.wanted from front facts here row head)

    passed : (table : ℕ) → CantGive w row chosen ⊎ HasEarlier w.branch.now number → Nowhere (table ∷ from) front before → (facts : List ℕ) →
        IsFactOf w.branch.now w.side table number → Completes w.branch.now w.side w.part.now w.wanted from (front ++ number ∷ []) facts → Gives facts → ⊥
    passed table (inl cant) none facts fact here head = lost from (front ++ number ∷ []) facts (subst (CantGive w row) split cant) here head
    passed table (inr e) none facts fact here head = repeated table e none facts fact here head

  pub row_spared : {S : Type 0} (from chosen : List ℕ) (number : ℕ) (tried : List ℕ) (now : S) → CantGive w row chosen ⊎ HasEarlier w.branch.now number →
      IsSpared (λ front numbers. numbers ≡ every w.branch.now)
      (λ front numbers old new. NoneAnswers w.branch.now w.side w.part.now w.wanted row from front numbers) chosen number tried now
  row_spared from chosen number tried now why front before after start split offered among none = at from none
    where
      at : (from : List ℕ) → Nowhere from front before → Nowhere from front (before ++ number ∷ [])
      at [] none facts h = none facts (by_last w.branch.now w.side w.part.now w.wanted front (before ++ number ∷ []) facts h before)
      at (table ∷ from) none facts h = elim (by_cases w.branch.now w.side w.part.now w.wanted table from front before number facts h) [
        | inl old ↦ none facts old
        | inr here ↦ passed number from chosen front before after split offered table why none facts here.0 (here.1).completes
      ]

  pub none_here : (chosen numbers : List ℕ) → (IsAnsweredFrom w.branch.now w.side w.part.now w.wanted row [] chosen → ⊥) → Nowhere [] chosen numbers
  none_here chosen numbers fails facts h head = fails (record { facts = facts; completes = h.completes; head = head })

  pub answered_here : (chosen : List ℕ) → Gives chosen → AreMet w chosen → IsAnsweredFrom w.branch.now w.side w.part.now w.wanted row [] chosen
  answered_here chosen head meets =
      record { facts = chosen; completes = last_completes w.branch.now w.side w.part.now w.wanted chosen meets; head = head }

  pub gives_here : (chosen : List ℕ) → IsAnsweredFrom w.branch.now w.side w.part.now w.wanted row [] chosen → Gives chosen
  gives_here chosen h = subst Gives (completes_last w.branch.now w.side w.part.now w.wanted chosen h.facts h.completes) h.head

  pub met_here : (chosen : List ℕ) → IsAnsweredFrom w.branch.now w.side w.part.now w.wanted row [] chosen → AreMet w chosen
  met_here chosen h = meets_last w.branch.now w.side w.part.now w.wanted chosen h.facts h.completes

-- the walk from the start
module _ (w : Walk) (row : List (Option Term)) (shown : w.wanted ≡ Shown) where
  from_answered : IsAnswered w.branch.now w.side w.part.now row → IsAnsweredFrom w.branch.now w.side w.part.now w.wanted row w.part.now.from []
  from_answered h =
      subst (λ wanted. IsAnsweredFrom w.branch.now w.side w.part.now wanted row w.part.now.from []) (sym shown)
      (answered_from w.branch.now w.side w.part.now row w.part.now.from [] refl refl h)

  pub answered_so : IsAnsweredFrom w.branch.now w.side w.part.now w.wanted row w.part.now.from [] → IsAnswered w.branch.now w.side w.part.now row
  answered_so h =
      is_answered w.branch.now w.side w.part.now row w.part.now.from [] refl refl
      (subst (λ wanted. IsAnsweredFrom w.branch.now w.side w.part.now wanted row w.part.now.from []) shown h)

  pub not_lost : CantGive w row [] → IsAnswered w.branch.now w.side w.part.now row → ⊥
  not_lost cant h = let it = from_answered h in lost w row w.part.now.from [] it.facts cant it.completes it.head

  pub not_nowhere : NoneAnswers w.branch.now w.side w.part.now w.wanted row w.part.now.from [] (every w.branch.now) →
      IsAnswered w.branch.now w.side w.part.now row → ⊥
  not_nowhere none h =
      let it = from_answered h in
      none it.facts (by_every w.branch.now w.side w.part.now w.wanted w.part.now.from [] it.facts it.completes) it.head
