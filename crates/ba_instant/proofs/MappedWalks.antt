-- The walk of a mapped part.
use Rattle.std.proofs.Common.{◌≡◌, ℕ, ◌∙◌, inl, inr, List, [], ◌∷◌, ◌++◌, length, map, refl, sym, ap, subst, arith}
use Rattle.std.specs.List.{All, Any}
use Rattle.std.specs.Prelude.{Option}
use Rattle.ba_facts.proofs.WalkLemmas.{completes_last}
use Rattle.ba_facts.specs.Matches.{IsFactOf, Under, terms_at}
use Rattle.ba_facts.specs.Walks.{AreMet, Completes, Composes, FailsAt, IsHopeless, IsSpared, IsWanted, every}
use Rattle.ba_facts.specs.declared.branch.Branch.{Branch}
use Rattle.ba_facts.specs.declared.walk.Walk.{Walk}
use Rattle.ba_facts.specs.declared.walk.Wanted.TheVariants.{Shown}
use Rattle.ba_kernel.specs.declared.step.Step.{Step}
use Rattle.ba_instant.proofs.MapLemmas.{From, mapped_hopeless, mapped_joined, mapped_off, mapped_on, mapped_parted, mapped_whole}
use Rattle.ba_instant.proofs.OfferLemmas.{improves_none}
use Rattle.ba_instant.proofs.OfferWalks.{along, back_along, improves_less, offered_all, offers_compose, offers_spared}
use Rattle.ba_instant.proofs.OvertakenLemmas.{mapped_overtaken}
use Rattle.ba_instant.proofs.TakeLemmas.{form_branch, last_all, not_timely}
use Rattle.ba_instant.proofs.ToldLemmas.{told_not_new}
use Rattle.ba_instant.specs.Offers.{IsNewIn, IsStepAmong, IsStepOf, step_of}
use Rattle.ba_instant.specs.Scans.{AreEnough, AreOld, ImprovesBy, IsNoUse, IsRemembered, IsScan, IsTimelyOf, IsWalkOf}
use Rattle.ba_instant.specs.declared.batch.Batch.{Batch}
use Rattle.ba_instant.specs.declared.mapped.Mapped.{Mapped}

module _ (it : Mapped) where
  abbrev b : Branch
  b = it.scan.now.branch.now

  abbrev Steps : List ℕ → List ℕ → Step → Type 0
  Steps = From it.scan.now.search.now it.scan.now.pick b it.scan.now.number it.form it.side it.part.now

  joined : (table : ℕ) (rest chosen : List ℕ) (n : ℕ) (step : Step) → IsFactOf b it.side table n → Steps rest (chosen ++ n ∷ []) step → Steps (table ∷ rest) chosen step
  joined = mapped_joined it.scan.now.search.now it.scan.now.pick b it.scan.now.number it.form it.side it.part.now

  parted : (table : ℕ) (rest chosen : List ℕ) (step : Step) → Steps (table ∷ rest) chosen step → (n : ℕ) × IsFactOf b it.side table n × Steps rest (chosen ++ n ∷ []) step
  parted = mapped_parted it.scan.now.search.now it.scan.now.pick b it.scan.now.number it.form it.side it.part.now

  pub mapped_composes : {E : Type 0} →
      Composes {S = Option Batch} {E = E} it.scan.now.branch.now it.side (λ from chosen numbers. AreEnough it from chosen numbers)
      (λ from chosen numbers old new. ImprovesBy it.scan.now (IsStepAmong it from chosen numbers) old new) (λ from chosen stop. Unit {0})
  mapped_composes {E} =
      offers_compose it.scan.now.search.now it.scan.now.pick b it.side Steps joined parted {E = E} (λ from chosen numbers. AreEnough it from chosen numbers)
      (λ table rest chosen numbers old new enough h. enough old new h)

  -- ---- the facts that are offered

  pub enough_every : (from chosen numbers : List ℕ) → numbers ≡ every it.scan.now.branch.now → AreEnough it from chosen numbers
  enough_every from chosen numbers is old new h = subst (λ xs. ImprovesBy it.scan.now (IsStepAmong it from chosen xs) old new) is h

  pub enough_recent : IsScan it.scan.now → (from chosen numbers : List ℕ) → length from ≡ 1 → AreOld it.scan.now.branch.now it.scan.now.quiet it.form chosen →
      numbers ≡ it.scan.now.recent.now → AreEnough it from chosen numbers
  enough_recent scan [] chosen numbers one are_old is old new h = h
  enough_recent scan (table ∷ []) chosen numbers one are_old is old new h =
      last_all it.scan.now.search.now it.scan.now.pick b it.scan.now.number it.form it.side it.part.now it.scan.now.quiet it.scan.now.recent.now scan.of table chosen are_old old new
      (subst (λ xs. ImprovesBy it.scan.now (IsStepAmong it (table ∷ []) chosen xs) old new) is h)
  enough_recent scan (table ∷ other ∷ rest) chosen numbers one are_old is old new h = absurd (omega (arith, one))

  -- ---- facts whose step is told

  pub mapped_told : IsScan it.scan.now → (chosen numbers : List ℕ) (now : Option Batch) → IsRemembered it chosen → ImprovesBy it.scan.now (IsStepAmong it [] chosen numbers) now now
  mapped_told scan chosen numbers now has =
      let n = it.scan.now.number in
      improves_none it.scan.now.search.now it.scan.now.pick (Steps [] chosen) now
      (λ step e new.
      told_not_new it.scan.now.search.now n b it.scan.now.told.now scan.of.open_ scan.told (step_of n it.form chosen) (form_branch n it.form chosen) has
      (subst (IsNewIn it.scan.now.search.now) (e.1 ∙ ap (step_of n it.form) (completes_last b it.side it.part.now Shown chosen e.0 e.2)) new))

  -- ---- the facts that are passed over

  pub late_spared : IsScan it.scan.now → (from chosen : List ℕ) (number : ℕ) (tried : List ℕ) (now : Option Batch) →
      (IsTimelyOf it.scan.now.branch.now it.form number now → ⊥) →
      IsSpared (λ front numbers. AreEnough it from front numbers)
      (λ front numbers old new. ImprovesBy it.scan.now (IsStepAmong it from front numbers) old new) chosen number tried now
  late_spared scan from chosen number tried now untimely front before after start split offered among h =
      offers_spared it.scan.now.search.now it.scan.now.pick b it.side Steps joined parted from front before number start now
      (λ table rest is.
      not_timely it.scan.now.search.now it.scan.now.pick b it.scan.now.number it.form it.side it.part.now it.scan.now.quiet it.scan.now.recent.now scan.of table rest front number now untimely)
      h

  module _ (walk : Walk) (of : IsWalkOf it.scan.now it.side it.part.now Shown walk) where
    hopeless : (chosen : List ℕ) → IsHopeless walk chosen → Any (FailsAt b.known Shown (map (terms_at b) chosen)) it.part.now.conds
    hopeless chosen =
        along (λ b part wanted. Any (FailsAt b.known wanted (map (terms_at b) chosen)) part.conds) walk b it.part.now Shown of.branch_is of.part_is of.wanted_is

    met : (chosen : List ℕ) → AreMet walk chosen → All (Under (IsWanted b.known Shown) (map (terms_at b) chosen)) it.part.now.conds
    met chosen =
        along (λ b part wanted. All (Under (IsWanted b.known wanted) (map (terms_at b) chosen)) part.conds) walk b it.part.now Shown of.branch_is of.part_is of.wanted_is

    not_met : (chosen : List ℕ) → (AreMet walk chosen → ⊥) → All (Under (IsWanted b.known Shown) (map (terms_at b) chosen)) it.part.now.conds → ⊥
    not_met chosen fails h =
        fails (back_along (λ b part wanted. All (Under (IsWanted b.known wanted) (map (terms_at b) chosen)) part.conds) walk b it.part.now Shown of.branch_is of.part_is
        of.wanted_is h)

    no_use : (from chosen : List ℕ) (now : Option Batch) → IsNoUse it walk chosen now → ImprovesBy it.scan.now (Steps from chosen) now now
    no_use from chosen now (inl overtaken) =
        mapped_overtaken it.scan.now.search.now b it.scan.now.number it.side it.part.now from chosen it.scan.now.pick it.form now overtaken
    no_use from chosen now (inr fails) =
        mapped_hopeless it.scan.now.search.now it.scan.now.pick b it.scan.now.number it.form it.side it.part.now from chosen now (hopeless chosen fails)

    pub no_use_spared : (from chosen : List ℕ) (number : ℕ) (tried : List ℕ) (now : Option Batch) → IsNoUse it walk chosen now →
        IsSpared (λ front numbers. AreEnough it from front numbers)
        (λ front numbers old new. ImprovesBy it.scan.now (IsStepAmong it from front numbers) old new) chosen number tried now
    no_use_spared from chosen number tried now why front before after start split offered among h =
        offers_spared it.scan.now.search.now it.scan.now.pick b it.side Steps joined parted from front before number start now
        (λ table rest is.
        improves_less it.scan.now.search.now it.scan.now.pick (Steps rest chosen) (λ step. IsFactOf b it.side table number × Steps rest (front ++ number ∷ []) step) now
        (λ step e. subst (λ xs. Steps rest xs step) (sym split) e.1) (no_use rest chosen now why)) h

    -- ---- the end

    pub mapped_end : (chosen numbers facts : List ℕ) (step : Step) (old new : Option Batch) → AreMet walk chosen → facts ≡ chosen →
        step ≡ step_of it.scan.now.number it.form facts → ImprovesBy it.scan.now (λ other. other ≡ step) old new →
        ImprovesBy it.scan.now (IsStepAmong it [] chosen numbers) old new
    mapped_end chosen numbers facts step old new meets same is h =
        mapped_on it.scan.now.search.now it.scan.now.pick b it.scan.now.number it.form it.side it.part.now chosen step old new
        (subst (λ xs. step ≡ step_of it.scan.now.number it.form xs) same is) (met chosen meets) h

    pub mapped_not_met : (chosen numbers : List ℕ) (now : Option Batch) → (AreMet walk chosen → ⊥) → ImprovesBy it.scan.now (IsStepAmong it [] chosen numbers) now now
    mapped_not_met chosen numbers now fails =
        mapped_off it.scan.now.search.now it.scan.now.pick b it.scan.now.number it.form it.side it.part.now chosen now (not_met chosen fails)

    pub mapped_no_use : (now : Option Batch) → IsNoUse it walk [] now → ImprovesBy it.scan.now (IsStepOf it) now now
    mapped_no_use now why =
        mapped_whole it.scan.now.search.now it.scan.now.pick b it.scan.now.number it.form it.side it.part.now it.part.now.from [] now now refl refl
        (no_use it.part.now.from [] now why)

  -- no facts show the part's atoms
  pub mapped_bleak : (now : Option Batch) → ((facts : List ℕ) → Completes it.scan.now.branch.now it.side it.part.now Shown it.part.now.from [] facts → ⊥) →
      ImprovesBy it.scan.now (IsStepOf it) now now
  mapped_bleak now none =
      mapped_whole it.scan.now.search.now it.scan.now.pick b it.scan.now.number it.form it.side it.part.now it.part.now.from [] now now refl refl
      (improves_none it.scan.now.search.now it.scan.now.pick (Steps it.part.now.from []) now (λ step e new. none e.0 e.2))

  pub mapped_all : (old new : Option Batch) → ImprovesBy it.scan.now (IsStepAmong it it.part.now.from [] (every it.scan.now.branch.now)) old new →
      ImprovesBy it.scan.now (IsStepOf it) old new
  mapped_all old new h =
      mapped_whole it.scan.now.search.now it.scan.now.pick b it.scan.now.number it.form it.side it.part.now it.part.now.from [] old new refl refl
      (offered_all it.scan.now.search.now it.scan.now.pick b it.side Steps joined parted it.part.now.from [] old new h)
