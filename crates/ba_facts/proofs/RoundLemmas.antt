-- The walk for the least round, and what it passes over.
use Rattle.std.proofs.Common.{◌≡◌, ◌∙◌, ℕ, ◌<◌, ◌≤◌, ◌⊎◌, inl, inr, List, [], ◌∷◌, ◌++◌, length, map, refl, sym, ap, subst}
use Rattle.std.proofs.Common.{arith}
use Rattle.std.proofs.lemmas.Bool.{cases_lt}
use Rattle.std.specs.List.{All}
use Rattle.std.specs.Prelude.{Option, Some, None, min}
use Rattle.ba_facts.proofs.AlikeLemmas.{at_most_round, completes_instead, fact_alike, has_instead, instead, round_instead}
use Rattle.ba_facts.proofs.FrontLemmas.{atom_lost, row_lost}
use Rattle.ba_facts.proofs.WalkLemmas.{by_cases, by_every, by_last, by_more, by_one, completes_last, composes_by, earlier_in, last_completes, meets_last, pruned}
use Rattle.ba_facts.specs.Matches.{IsFactOf, IsLeastRound, IsLiveAtom, IsMapping, LeastRound, Under, round_of, terms_at}
use Rattle.ba_facts.specs.Walks.{AreMet, Completes, Composes, HasAtom, HasAtomBy, IsAtMostRound, IsLate, IsPastHope, IsRepeated, IsRoundOf, IsSpared, IsWanted, Lowers, every, lesser, round_at}
use Rattle.ba_facts.specs.declared.branch.Branch.{Branch}
use Rattle.ba_facts.specs.declared.walk.Walk.{Walk}
use Rattle.ba_facts.specs.declared.walk.Wanted.TheVariants.{Live}
use Rattle.ba_facts.specs.declared.term.Term.{Term}
use Rattle.ba_facts.specs.declared.term.TermAtom.{TermAtom}

-- ---- the least of rounds

-- what holds of the same facts has the same least round
module _ (b : Branch) (P Q : List ℕ → Type 0) (to : (facts : List ℕ) → P facts → Q facts) (back : (facts : List ℕ) → Q facts → P facts) where
  pub least_same : (o : Option ℕ) → LeastRound b P o → LeastRound b Q o
  least_same None h = λ facts q. h facts (back facts q)
  least_same (Some n) h = record {
    facts = h.facts;
    holds = to h.facts h.holds;
    round_is = h.round_is;
    least = λ others q. h.least others (back others q);
  }

pub at_most_less : (o : Option ℕ) (n m : ℕ) → IsAtMostRound o n → n ≤ m → IsAtMostRound o m
at_most_less None n m h less = h
at_most_less (Some k) n m h less = let below : k ≤ n = h in omega arith

at_most_kept : (now new : Option ℕ) (n : ℕ) → ((round : ℕ) → now ≡ Some round → IsAtMostRound new round) → IsAtMostRound now n → IsAtMostRound new n
at_most_kept None new n keeps h = absurd h
at_most_kept (Some k) new n keeps h = at_most_less new k n (keeps k refl) h

late_most : (b : Branch) (o : Option ℕ) (number most : ℕ) → IsLate b o number → round_at b number ≤ most → IsAtMostRound o most
late_most b None number most late less = late
late_most b (Some k) number most late less = let below : k ≤ round_at b number = late in omega arith

module _ (b : Branch) where
  round_kept : (P Q : List ℕ → Type 0) → ((facts : List ℕ) → P facts → Q facts) → (o : Option ℕ) → IsRoundOf b P o → IsRoundOf b Q o
  round_kept P Q to None h = h
  round_kept P Q to (Some n) (facts, p, is) = (facts, to facts p, is)

  pub lowers_none : (P : List ℕ → Type 0) (now : Option ℕ) → ((facts : List ℕ) → P facts → ⊥) → Lowers b P now now
  lowers_none P now none = record {
    from = inl refl;
    keeps = λ round is. subst (λ o. IsAtMostRound o round) (sym is) (let same : round ≤ round = omega arith in same);
    reaches = λ facts p. absurd (none facts p);
  }

  pub lowers_both : (P Q T : List ℕ → Type 0) (old now new : Option ℕ) → ((facts : List ℕ) → P facts → T facts) → ((facts : List ℕ) → Q facts → T facts) →
      ((facts : List ℕ) → T facts → P facts ⊎ Q facts) → Lowers b P old now → Lowers b Q now new → Lowers b T old new
  lowers_both P Q T old now new to too cases h k = record {
    from = at h.from k.from;
    keeps = λ round is. at_most_kept now new round k.keeps (h.keeps round is);
    reaches = λ facts t. elim (cases facts t) [
      | inl p ↦ at_most_kept now new (round_of b facts) k.keeps (h.reaches facts p)
      | inr q ↦ k.reaches facts q
    ];
  }
    where
      at : (now ≡ old) ⊎ IsRoundOf b P now → (new ≡ now) ⊎ IsRoundOf b Q new → (new ≡ old) ⊎ IsRoundOf b T new
      at p (inr of) = inr (round_kept Q T too new of)
      at (inl before) (inl same) = inl (same ∙ before)
      at (inr of) (inl same) = inr (subst (IsRoundOf b T) (sym same) (round_kept P T to now of))

  -- what is added is of no lesser a round than the round now, or than others that are P
  pub lowers_on : (P T : List ℕ → Type 0) (old now : Option ℕ) → ((facts : List ℕ) → P facts → T facts) →
      ((facts : List ℕ) → T facts → ((others : List ℕ) × P others × (round_of b others ≤ round_of b facts)) ⊎ IsAtMostRound now (round_of b facts)) →
      Lowers b P old now → Lowers b T old now
  lowers_on P T old now to matched h = record {
    from = elim h.from [ inl same ↦ inl same | inr of ↦ inr (round_kept P T to now of) ];
    keeps = h.keeps;
    reaches = λ facts t. elim (matched facts t) [
      | inl (others, p, less) ↦ at_most_less now (round_of b others) (round_of b facts) (h.reaches others p) less
      | inr most ↦ most
    ];
  }

  lesser_from : (P : List ℕ → Type 0) (facts : List ℕ) → P facts → (n m : ℕ) → m ≡ round_of b facts → (n < m) ⊎ (m ≤ n) →
      (Some (min n m) ≡ Some n) ⊎ ((facts : List ℕ) × P facts × (round_of b facts ≡ min n m))
  lesser_from P facts p n m is (inl less) = inl (ap Some (omega arith))
  lesser_from P facts p n m is (inr most) = inr (facts, p, omega (arith, is, most))

  pub lowers_one : (P : List ℕ → Type 0) (chosen : List ℕ) (old new : Option ℕ) (round : ℕ) → new ≡ lesser old round → round ≡ round_of b chosen → P chosen →
      ((facts : List ℕ) → P facts → facts ≡ chosen) → Lowers b P old new
  lowers_one P chosen old new round is round_is p only = subst (Lowers b P old) (sym is) (at old)
    where
      at : (old : Option ℕ) → Lowers b P old (lesser old round)
      at None = record {
        from = inr (chosen, p, sym round_is);
        keeps = λ n e. cc;
        reaches = λ facts q. subst (λ xs. round ≤ round_of b xs) (sym (only facts q)) (let same : round ≤ round_of b chosen = omega (arith, round_is) in same);
      }
      at (Some n) = record {
        from = lesser_from P chosen p n round round_is (cases_lt n round);
        keeps = λ m e. let same : n ≡ m = cc in (let less : min n round ≤ m = omega (arith, same) in less);
        reaches = λ facts q.
            subst (λ xs. min n round ≤ round_of b xs) (sym (only facts q)) (let less : min n round ≤ round_of b chosen = omega (arith, round_is) in less);
      }

  pub least_lowered : (P : List ℕ → Type 0) (new : Option ℕ) → Lowers b P None new → LeastRound b P new
  least_lowered P None h = h.reaches
  least_lowered P (Some n) h = at h.from
    where
      at : (Some n ≡ None) ⊎ IsRoundOf b P (Some n) → IsLeastRound b P n
      at (inl same) = cc
      at (inr of) = record { facts = of.0; holds = of.1; round_is = of.2; least = h.reaches }

-- ---- the walk

module _ (w : Walk) (row : Option (List Term)) (atom : TermAtom) where
  abbrev By : List ℕ → List ℕ → List ℕ → List ℕ → Type 0
  By = HasAtomBy w.branch.now w.side w.part.now w.wanted row atom

  abbrev Has : List ℕ → Type 0
  Has = HasAtom w.branch.now w.part.now row atom

  pub rounds_compose : {E : Type 0} →
      Composes {S = Option ℕ} {E = E} w.branch.now w.side (λ from chosen numbers. numbers ≡ every w.branch.now)
      (λ from chosen numbers old new. Lowers w.branch.now (HasAtomBy w.branch.now w.side w.part.now w.wanted row atom from chosen numbers) old new)
      (λ from chosen stop. ⊥)
  rounds_compose {E} =
      composes_by {S = Option ℕ} {E = E} w.branch.now w.side w.part.now w.wanted (λ P old new. Lowers w.branch.now (λ facts. P facts × Has facts) old new)
      (λ P now none. lowers_none w.branch.now (λ facts. P facts × Has facts) now (λ facts p. none facts p.0))
      (λ P Q T old now new to too cases h k.
      lowers_both w.branch.now (λ facts. P facts × Has facts) (λ facts. Q facts × Has facts) (λ facts. T facts × Has facts) old now new
      (λ facts p. (to facts p.0, p.1)) (λ facts q. (too facts q.0, q.1))
      (λ facts t. elim (cases facts t.0) [ inl p ↦ inl (p, t.1) | inr q ↦ inr (q, t.1) ]) h k)
      (λ from chosen stop. ⊥) (λ table rest chosen n stop fact h. h)

  -- facts that complete the chosen ones can't have the row and the atom
  pub past_hope : (from chosen facts : List ℕ) → IsPastHope w row atom chosen → Completes w.branch.now w.side w.part.now w.wanted from chosen facts → Has facts → ⊥
  past_hope from chosen facts (inl fails) h has = pruned w.branch.now w.side w.part.now w.wanted from chosen fails facts h
  past_hope from chosen facts (inr (inl other)) h has = row_lost w.branch.now w.side w.part.now w.wanted from chosen facts h row other has.head
  past_hope from chosen facts (inr (inr none)) h has = atom_lost w.branch.now w.side w.part.now w.wanted from chosen facts h atom none has.stands

  abbrev IsPassed : Option ℕ → ℕ → List ℕ → Type 0
  IsPassed now number chosen = IsLate w.branch.now now number ⊎ (IsPastHope w row atom chosen ⊎ IsRepeated w.branch.now atom number)

  module _ (number : ℕ) (now : Option ℕ) (chosen front before after : List ℕ) (split : chosen ≡ front ++ number ∷ [])
      (offered : before ++ number ∷ after ≡ every w.branch.now) (table : ℕ) (from facts : List ℕ) (fact : IsFactOf w.branch.now w.side table number)
      (h : Completes w.branch.now w.side w.part.now w.wanted from (front ++ number ∷ []) facts) (has : Has facts) where
    abbrev IsMatched : Type 0
    IsMatched =
        ((others : List ℕ) × By (table ∷ from) front before others × (round_of w.branch.now others ≤ round_of w.branch.now facts)) ⊎
        IsAtMostRound now (round_of w.branch.now facts)

    matched : IsPassed now number chosen → IsMatched
    matched (inl late) =
        inr (late_most w.branch.now now number (round_of w.branch.now facts) late
        (subst (λ xs. round_at w.branch.now number ≤ round_of w.branch.now xs) (sym h.facts_are) (at_most_round w.branch.now front h.rest number)))
    matched (inr (inl past)) = absurd (past_hope from (front ++ number ∷ []) facts (subst (IsPastHope w row atom) split past) h has)
    matched (inr (inr (e, none))) =
        inl (
          instead w.branch.now number e.other e.as_well.alike w.side w.part.now w.wanted from front facts h,
          (
            by_one w.branch.now w.side w.part.now w.wanted table from front before e.other
                (instead w.branch.now number e.other e.as_well.alike w.side w.part.now w.wanted from front facts h)
                (earlier_in before after (length w.branch.now.facts) number e.other offered e.below)
                (fact_alike w.branch.now number e.other e.as_well.alike w.side table fact)
                (completes_instead w.branch.now number e.other e.as_well.alike w.side w.part.now w.wanted from front facts h),
            has_instead w.branch.now number e.other e.as_well.alike w.side w.part.now w.wanted from front facts h atom none row has,
          ),
          round_instead w.branch.now number e.other e.as_well.alike w.side w.part.now w.wanted from front facts h e.as_well.no_later,
        )

  pub atom_spared : (from chosen : List ℕ) (number : ℕ) (tried : List ℕ) (now : Option ℕ) → IsPassed now number chosen →
      IsSpared (λ front numbers. numbers ≡ every w.branch.now)
      (λ front numbers old new. Lowers w.branch.now (HasAtomBy w.branch.now w.side w.part.now w.wanted row atom from front numbers) old new) chosen number tried now
  atom_spared from chosen number tried now why front before after start split offered among h = at from h
    where
      itself : (xs : List ℕ) → round_of w.branch.now xs ≤ round_of w.branch.now xs
      itself xs = omega arith

      at : (from : List ℕ) → Lowers w.branch.now (By from front before) start now → Lowers w.branch.now (By from front (before ++ number ∷ [])) start now
      at [] h =
          lowers_on w.branch.now (By [] front before) (By [] front (before ++ number ∷ [])) start now
          (λ facts p. (by_last w.branch.now w.side w.part.now w.wanted front before facts p.0 (before ++ number ∷ []), p.1))
          (λ facts t. inl (facts, (by_last w.branch.now w.side w.part.now w.wanted front (before ++ number ∷ []) facts t.0 before, t.1), itself facts)) h
      at (table ∷ from) h =
          lowers_on w.branch.now (By (table ∷ from) front before) (By (table ∷ from) front (before ++ number ∷ [])) start now
          (λ facts p. (by_more w.branch.now w.side w.part.now w.wanted table from front before number facts p.0, p.1))
          (λ facts t. elim (by_cases w.branch.now w.side w.part.now w.wanted table from front before number facts t.0) [
            | inl old ↦ inl (facts, (old, t.1), itself facts)
            | inr here ↦ matched number now chosen front before after split offered table from facts here.0 (here.1).completes t.1 why
          ]) h

  -- no table is left
  pub lowers_here : (chosen numbers : List ℕ) (old new : Option ℕ) (round : ℕ) → new ≡ lesser old round → round ≡ round_of w.branch.now chosen → AreMet w chosen →
      Has chosen → Lowers w.branch.now (By [] chosen numbers) old new
  lowers_here chosen numbers old new round is round_is meets has =
      lowers_one w.branch.now (By [] chosen numbers) chosen old new round is round_is (
        by_last w.branch.now w.side w.part.now w.wanted chosen (every w.branch.now) chosen
            (by_every w.branch.now w.side w.part.now w.wanted [] chosen chosen (last_completes w.branch.now w.side w.part.now w.wanted chosen meets)) numbers,
        has,
      )
      (λ facts it. completes_last w.branch.now w.side w.part.now w.wanted chosen facts (it.0).completes)

  pub lowers_not_met : (chosen numbers : List ℕ) (now : Option ℕ) → (AreMet w chosen → ⊥) → Lowers w.branch.now (By [] chosen numbers) now now
  lowers_not_met chosen numbers now fails =
      lowers_none w.branch.now (By [] chosen numbers) now
      (λ facts it. fails (meets_last w.branch.now w.side w.part.now w.wanted chosen facts (it.0).completes))

  pub lowers_not_had : (chosen numbers : List ℕ) (now : Option ℕ) → (Has chosen → ⊥) → Lowers w.branch.now (By [] chosen numbers) now now
  lowers_not_had chosen numbers now fails =
      lowers_none w.branch.now (By [] chosen numbers) now
      (λ facts it. fails (subst Has (completes_last w.branch.now w.side w.part.now w.wanted chosen facts (it.0).completes) it.1))

-- the walk from the start
module _ (w : Walk) (row : Option (List Term)) (atom : TermAtom) (live : w.wanted ≡ Live) where
  abbrev From : List ℕ → Type 0
  From = HasAtomBy w.branch.now w.side w.part.now w.wanted row atom w.part.now.from [] (every w.branch.now)

  abbrev OfLive : List ℕ → Type 0
  OfLive = IsLiveAtom w.branch.now w.side w.part.now row atom

  to_live : (facts : List ℕ) → From facts → OfLive facts
  to_live facts (by, has) =
      let it = by.completes in
      record {
        live = record {
          facts_of = subst (IsMapping w.branch.now w.side w.part.now.from) (sym it.facts_are) it.facts_of;
          live = subst (λ wanted. All (Under (IsWanted w.branch.now.known wanted) (map (terms_at w.branch.now) facts)) w.part.now.conds) live it.meets;
        };
        head = has.head;
        stands = has.stands;
      }

  from_live : (facts : List ℕ) → OfLive facts → From facts
  from_live facts h = (
    by_every w.branch.now w.side w.part.now w.wanted w.part.now.from [] facts (
        record {
          rest = facts;
          facts_are = refl;
          facts_of = h.live.facts_of;
          meets = subst (λ wanted. All (Under (IsWanted w.branch.now.known wanted) (map (terms_at w.branch.now) facts)) w.part.now.conds) (sym live) h.live.live;
        }),
    record { head = h.head; stands = h.stands },
  )

  pub least_live : (least : Option ℕ) → Lowers w.branch.now From None least → LeastRound w.branch.now OfLive least
  least_live least h = least_same w.branch.now From OfLive to_live from_live least (least_lowered w.branch.now From least h)

  pub least_lost : IsPastHope w row atom [] → LeastRound w.branch.now OfLive None
  least_lost past facts h = let it = from_live facts h in past_hope w row atom w.part.now.from [] facts past (it.0).completes it.1
