-- The walk of a spread.
use Rattle.std.proofs.Common.{◌≡◌, ℕ, List, [], ◌∷◌, ◌++◌, map, refl, sym, subst}
use Rattle.std.proofs.lemmas.List.Elements.{All-contains}
use Rattle.std.specs.List.{All, Any, Contains}
use Rattle.std.specs.Option.{option_copied}
use Rattle.std.specs.Prelude.{Option}
use Rattle.ba_facts.specs.Alike.{AreAlike}
use Rattle.ba_facts.specs.Matches.{HeadIs, IsFactOf, Under, terms_at}
use Rattle.ba_facts.specs.Walks.{AreMet, Completes, Composes, IsLost, IsSpared, IsWanted, every}
use Rattle.ba_facts.specs.declared.branch.Branch.{Branch}
use Rattle.ba_facts.specs.declared.walk.Walk.{Walk}
use Rattle.ba_facts.specs.declared.walk.Wanted.TheVariants.{Live}
use Rattle.ba_kernel.specs.declared.step.Step.{Step}
use Rattle.ba_instant.proofs.OfferLemmas.{improves_none}
use Rattle.ba_instant.proofs.OfferWalks.{along, back_along, offered_all, offers_compose, offers_same, offers_spared}
use Rattle.ba_instant.proofs.SpreadLemmas.{by_alike, lost, spread_bare, spread_dead, spread_joined, spread_off, spread_on, spread_parted, spread_whole}
use Rattle.ba_instant.specs.Scans.{ImprovesBy, IsWalkOf}
use Rattle.ba_instant.specs.Spreads.{IsLikeSplits, IsLiveWith, IsSplitAmong, IsSplitFrom, IsSplitOf}
use Rattle.ba_instant.specs.declared.batch.Batch.{Batch}
use Rattle.ba_instant.specs.declared.spread.Spread.{Spread}

module _ (it : Spread) where
  abbrev b : Branch
  b = it.scan.now.branch.now

  joined : (table : ℕ) (rest chosen : List ℕ) (n : ℕ) (step : Step) → IsFactOf b it.side table n → IsSplitFrom it rest (chosen ++ n ∷ []) step →
      IsSplitFrom it (table ∷ rest) chosen step
  joined = spread_joined it.scan.now.search.now it.scan.now.pick b it.scan.now.number it.side it.part.now (option_copied it.row)

  parted : (table : ℕ) (rest chosen : List ℕ) (step : Step) → IsSplitFrom it (table ∷ rest) chosen step →
      (n : ℕ) × IsFactOf b it.side table n × IsSplitFrom it rest (chosen ++ n ∷ []) step
  parted table rest chosen step h =
      let e = spread_parted it.scan.now.search.now it.scan.now.pick b it.scan.now.number it.side it.part.now (option_copied it.row) table rest chosen step h in
      (e.0, (e.1).0, (e.1).1)

  pub spread_composes : {E : Type 0} →
      Composes {S = Option Batch} {E = E} it.scan.now.branch.now it.side (λ from chosen numbers. numbers ≡ every it.scan.now.branch.now)
      (λ from chosen numbers old new. ImprovesBy it.scan.now (IsSplitAmong it from chosen numbers) old new) (λ from chosen stop. Unit {0})
  spread_composes {E} =
      offers_compose it.scan.now.search.now it.scan.now.pick b it.side (IsSplitFrom it) joined parted {E = E} (λ from chosen numbers. numbers ≡ every b)
      (λ table rest chosen numbers old new is h. subst (λ xs. ImprovesBy it.scan.now (IsSplitAmong it (table ∷ rest) chosen xs) old new) is h)

  -- ---- the facts that are passed over

  module _ (walk : Walk) (of : IsWalkOf it.scan.now it.side it.part.now Live walk) where
    is_lost : (chosen : List ℕ) → IsLost walk.branch.now walk.part.now walk.wanted (option_copied it.row) chosen →
        IsLost b it.part.now Live (option_copied it.row) chosen
    is_lost chosen = along (λ b part wanted. IsLost b part wanted (option_copied it.row) chosen) walk b it.part.now Live of.branch_is of.part_is of.wanted_is

    pub lost_spared : (from chosen : List ℕ) (number : ℕ) (tried : List ℕ) (now : Option Batch) →
        IsLost walk.branch.now walk.part.now walk.wanted (option_copied it.row) chosen →
        IsSpared (λ front numbers. numbers ≡ every it.scan.now.branch.now)
        (λ front numbers old new. ImprovesBy it.scan.now (IsSplitAmong it from front numbers) old new) chosen number tried now
    lost_spared from chosen number tried now gone front before after start split offered among h =
        offers_spared it.scan.now.search.now it.scan.now.pick b it.side (IsSplitFrom it) joined parted from front before number start now
        (λ table rest is.
        improves_none it.scan.now.search.now it.scan.now.pick (λ step. IsFactOf b it.side table number × IsSplitFrom it rest (front ++ number ∷ []) step) now
        (λ step e new.
        lost it.scan.now.search.now it.scan.now.pick b it.scan.now.number it.side it.part.now (option_copied it.row) rest chosen (is_lost chosen gone) step
        (subst (λ xs. IsSplitFrom it rest xs step) (sym split) e.1))) h

    -- ---- the end

    live_with : (chosen : List ℕ) → AreMet walk chosen → HeadIs walk.branch.now walk.part.now chosen (option_copied it.row) →
        IsLiveWith b it.part.now (option_copied it.row) chosen
    live_with chosen meets head = record {
      live = along (λ b part wanted. All (Under (IsWanted b.known wanted) (map (terms_at b) chosen)) part.conds) walk b it.part.now Live of.branch_is of.part_is of.wanted_is meets;
      head = along (λ b part wanted. HeadIs b part chosen (option_copied it.row)) walk b it.part.now Live of.branch_is of.part_is of.wanted_is head;
    }

    pub spread_live : (chosen numbers facts : List ℕ) (old new : Option Batch) → AreMet walk chosen →
        HeadIs walk.branch.now walk.part.now chosen (option_copied it.row) → facts ≡ chosen →
        ImprovesBy it.scan.now (IsLikeSplits it.scan.now.branch.now it.scan.now.number facts it.part.now.conds) old new →
        ImprovesBy it.scan.now (IsSplitAmong it [] chosen numbers) old new
    spread_live chosen numbers facts old new meets head same h =
        spread_on it.scan.now.search.now it.scan.now.pick b it.scan.now.number it.side it.part.now (option_copied it.row) chosen old new (live_with chosen meets head)
        (subst (λ xs. ImprovesBy it.scan.now (IsLikeSplits b it.scan.now.number xs it.part.now.conds) old new) same h)

    pub spread_not_met : (chosen numbers : List ℕ) (now : Option Batch) → (AreMet walk chosen → ⊥) → ImprovesBy it.scan.now (IsSplitAmong it [] chosen numbers) now now
    spread_not_met chosen numbers now fails =
        spread_off it.scan.now.search.now it.scan.now.pick b it.scan.now.number it.side it.part.now (option_copied it.row) chosen now
        (λ h.
        fails (back_along (λ b part wanted. All (Under (IsWanted b.known wanted) (map (terms_at b) chosen)) part.conds) walk b it.part.now Live of.branch_is of.part_is
        of.wanted_is h.live))

    pub spread_not_row : (chosen numbers : List ℕ) (now : Option Batch) → (HeadIs walk.branch.now walk.part.now chosen (option_copied it.row) → ⊥) →
        ImprovesBy it.scan.now (IsSplitAmong it [] chosen numbers) now now
    spread_not_row chosen numbers now fails =
        spread_off it.scan.now.search.now it.scan.now.pick b it.scan.now.number it.side it.part.now (option_copied it.row) chosen now
        (λ h. fails (back_along (λ b part wanted. HeadIs b part chosen (option_copied it.row)) walk b it.part.now Live of.branch_is of.part_is of.wanted_is h.head))

    pub spread_lost : (now : Option Batch) → IsLost walk.branch.now walk.part.now walk.wanted (option_copied it.row) [] → ImprovesBy it.scan.now (IsSplitOf it) now now
    spread_lost now gone =
        spread_dead it.scan.now.search.now it.scan.now.pick b it.scan.now.number it.side it.part.now (option_copied it.row) [] now refl (is_lost [] gone)

  -- a fact that is alike to one that was tried
  pub alike_spared : (from chosen : List ℕ) (number : ℕ) (tried : List ℕ) (now : Option Batch) → Any (λ other. AreAlike it.scan.now.branch.now other number) tried →
      IsSpared (λ front numbers. numbers ≡ every it.scan.now.branch.now)
      (λ front numbers old new. ImprovesBy it.scan.now (IsSplitAmong it from front numbers) old new) chosen number tried now
  alike_spared from chosen number tried now (k, other, inside, at, alike) front before after start split offered among h =
      offers_same it.scan.now.search.now it.scan.now.pick b it.side (IsSplitFrom it) joined parted from front before number other start now
      (All-contains (Contains before) tried other among (k, inside, at))
      (λ table rest is step e.
      by_alike it.scan.now.search.now it.scan.now.pick b it.scan.now.number it.side it.part.now (option_copied it.row) table rest front other number step alike e) h

  -- no facts make such a mapping
  pub spread_bleak : (now : Option Batch) →
      ((facts : List ℕ) → Completes it.scan.now.branch.now it.side it.part.now Live it.part.now.from [] facts →
      HeadIs it.scan.now.branch.now it.part.now facts (option_copied it.row) → ⊥) → ImprovesBy it.scan.now (IsSplitOf it) now now
  spread_bleak now none =
      spread_bare it.scan.now.search.now it.scan.now.pick b it.scan.now.number it.side it.part.now (option_copied it.row) now none

  pub spread_all : (old new : Option Batch) → ImprovesBy it.scan.now (IsSplitAmong it it.part.now.from [] (every it.scan.now.branch.now)) old new →
      ImprovesBy it.scan.now (IsSplitOf it) old new
  spread_all old new h =
      spread_whole it.scan.now.search.now it.scan.now.pick b it.scan.now.number it.side it.part.now (option_copied it.row) it.part.now.from [] old new refl refl
      (offered_all it.scan.now.search.now it.scan.now.pick b it.side (IsSplitFrom it) joined parted it.part.now.from [] old new h)
