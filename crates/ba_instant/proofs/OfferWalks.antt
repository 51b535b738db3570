-- Walks that offer steps, and what they may pass over.
use Rattle.std.proofs.Common.{◌≡◌, ◌∙◌, ℕ, ◌+◌, ◌<◌, ◌⊎◌, inl, inr, List, [], ◌∷◌, ◌++◌, get_or, length, refl, sym, subst, arith}
use Rattle.std.proofs.lemmas.List.Elements.{Contains-append_left, Contains-push, Contains-push_cases}
use Rattle.std.proofs.lemmas.List.FromFn.{get_or-range_with_len, length-range_with_len}
use Rattle.std.proofs.lemmas.List.{get_or_default}
use Rattle.std.proofs.lemmas.Option.{slice_get_within}
use Rattle.std.specs.List.{All, Contains}
use Rattle.std.specs.Prelude.{Option}
use Rattle.ba_model.specs.declared.query.Part.{Part}
use Rattle.ba_facts.specs.Matches.{IsFactOf}
use Rattle.ba_facts.specs.Walks.{Composes, every}
use Rattle.ba_facts.specs.declared.branch.Branch.{Branch}
use Rattle.ba_facts.specs.declared.term.Side.{Side}
use Rattle.ba_facts.specs.declared.walk.Walk.{Walk}
use Rattle.ba_facts.specs.declared.walk.Wanted.{Wanted}
use Rattle.ba_kernel.specs.SearchStates.{Course}
use Rattle.ba_kernel.specs.declared.step.Step.{Step}
use Rattle.ba_instant.proofs.OfferLemmas.{improves_as, improves_both, improves_none}
use Rattle.ba_instant.specs.Offers.{Among, Improves}
use Rattle.ba_instant.specs.declared.batch.Batch.{Batch}
use Rattle.ba_settle.specs.declared.order.Pick.{Pick}

pub in_every : (b : Branch) (n : ℕ) → n < length b.facts → Contains (every b) n
in_every b n below = (
  n,
  subst (λ k. n < k) (sym (length-range_with_len 0 (length b.facts))) below,
  get_or-range_with_len 0 (length b.facts) n n below ∙ (let e : 0 + n ≡ n = omega arith in e),
)

-- what is so of the walk's own part and branch
pub along : (Q : Branch → Part → Wanted → Type 0) (w : Walk) (b : Branch) (part : Part) (wanted : Wanted) → w.branch.now ≡ b → w.part.now ≡ part →
    w.wanted ≡ wanted → Q w.branch.now w.part.now w.wanted → Q b part wanted
along Q w b part wanted branch_is part_is wanted_is h =
    subst (Q b part) wanted_is (subst (λ it. Q b it w.wanted) part_is (subst (λ it. Q it w.part.now w.wanted) branch_is h))

pub back_along : (Q : Branch → Part → Wanted → Type 0) (w : Walk) (b : Branch) (part : Part) (wanted : Wanted) → w.branch.now ≡ b → w.part.now ≡ part →
    w.wanted ≡ wanted → Q b part wanted → Q w.branch.now w.part.now w.wanted
back_along Q w b part wanted branch_is part_is wanted_is h =
    subst (λ it. Q it w.part.now w.wanted) (sym branch_is) (subst (λ it. Q b it w.wanted) (sym part_is) (subst (Q b part) (sym wanted_is) h))

-- A set of steps that those with each fact for the first table make up.
module _ (c : Course) (pick : Pick) (b : Branch) (side : Side) (F : List ℕ → List ℕ → Step → Type 0)
    (joined : (table : ℕ) (rest chosen : List ℕ) (n : ℕ) (step : Step) → IsFactOf b side table n → F rest (chosen ++ n ∷ []) step → F (table ∷ rest) chosen step)
    (parted : (table : ℕ) (rest chosen : List ℕ) (step : Step) → F (table ∷ rest) chosen step → (n : ℕ) × IsFactOf b side table n × F rest (chosen ++ n ∷ []) step) where
  abbrev In : List ℕ → List ℕ → List ℕ → Step → Type 0
  In = Among b side F

  abbrev With : ℕ → List ℕ → List ℕ → ℕ → Step → Type 0
  With table rest chosen n step = IsFactOf b side table n × F rest (chosen ++ n ∷ []) step

  to_every : (from chosen : List ℕ) (step : Step) → F from chosen step → In from chosen (every b) step
  to_every [] chosen step f = f
  to_every (table ∷ rest) chosen step f =
      let it = parted table rest chosen step f in
      (it.0, in_every b it.0 (slice_get_within b.facts it.0 (it.1).fact (it.1).there), it.1, it.2)

  from_every : (from chosen : List ℕ) (step : Step) → In from chosen (every b) step → F from chosen step
  from_every [] chosen step f = f
  from_every (table ∷ rest) chosen step (n, has, is, f) = joined table rest chosen n step is f

  pub offered_every : (from chosen : List ℕ) (old new : Option Batch) → Improves c pick (F from chosen) old new → Improves c pick (In from chosen (every b)) old new
  offered_every from chosen old new h =
      improves_as c pick (F from chosen) (In from chosen (every b)) old new (λ step f is. to_every from chosen step f) (λ step e is. from_every from chosen step e) h

  pub offered_all : (from chosen : List ℕ) (old new : Option Batch) → Improves c pick (In from chosen (every b)) old new → Improves c pick (F from chosen) old new
  offered_all from chosen old new h =
      improves_as c pick (In from chosen (every b)) (F from chosen) old new (λ step e is. from_every from chosen step e) (λ step f is. to_every from chosen step f) h

  -- those of one fact more
  pub offered_more : (table : ℕ) (rest chosen numbers : List ℕ) (n : ℕ) (old now new : Option Batch) → Improves c pick (In (table ∷ rest) chosen numbers) old now →
      Improves c pick (With table rest chosen n) now new → Improves c pick (In (table ∷ rest) chosen (numbers ++ n ∷ [])) old new
  offered_more table rest chosen numbers n old now new before here =
      improves_as c pick (λ step. In (table ∷ rest) chosen numbers step ⊎ With table rest chosen n step) (In (table ∷ rest) chosen (numbers ++ n ∷ [])) old new
      (λ step e is. elim e [
        | inl it ↦ (it.0, Contains-append_left numbers (n ∷ []) it.0 it.1, it.2, it.3)
        | inr it ↦ (n, Contains-push numbers n, it.0, it.1)
      ])
      (λ step e is. elim (Contains-push_cases numbers n e.0 e.1) [
        | inl old ↦ inl (e.0, old, e.2, e.3)
        | inr same ↦ inr (subst (λ m. With table rest chosen m step) (sym same) (e.2, e.3))
      ])
      (improves_both c pick (In (table ∷ rest) chosen numbers) (With table rest chosen n) old now new before here)

  pub offers_compose : {E : Type 0} (offers : List ℕ → List ℕ → List ℕ → Type 0) →
      ((table : ℕ) (rest chosen numbers : List ℕ) (old new : Option Batch) → offers (table ∷ rest) chosen numbers →
      Improves c pick (In (table ∷ rest) chosen numbers) old new → Improves c pick (In (table ∷ rest) chosen (every b)) old new) →
      Composes {S = Option Batch} {E = E} b side offers (λ from chosen numbers old new. Improves c pick (Among b side F from chosen numbers) old new)
      (λ from chosen stop. Unit {0})
  offers_compose offers enough = record {
    none = λ table rest chosen now. improves_none c pick (In (table ∷ rest) chosen []) now (λ step e new. let below = (e.1).1 in absurd (omega (arith, below)));
    other = λ table rest chosen before n old now other h.
        offered_more table rest chosen before n old now now h (improves_none c pick (With table rest chosen n) now (λ step e new. other e.0));
    more = λ table rest chosen before n old now new fact h k.
        offered_more table rest chosen before n old now new h
        (improves_as c pick (F rest (chosen ++ n ∷ [])) (With table rest chosen n) now new (λ step f is. (fact, f)) (λ step e is. e.1)
        (offered_all rest (chosen ++ n ∷ []) now new k));
    enough = enough;
    deeper = λ table rest chosen n stop fact h. h;
  }

  -- a fact is passed over, where nothing with it is new and comes first
  pub offers_spared : (from front before : List ℕ) (n : ℕ) (old now : Option Batch) →
      ((table : ℕ) (rest : List ℕ) → from ≡ table ∷ rest → Improves c pick (With table rest front n) now now) → Improves c pick (In from front before) old now →
      Improves c pick (In from front (before ++ n ∷ [])) old now
  offers_spared [] front before n old now none h = h
  offers_spared (table ∷ rest) front before n old now none h = offered_more table rest front before n old now now h (none table rest refl)

  -- a fact with which nothing is that isn't with an earlier one
  pub offers_same : (from front before : List ℕ) (n m : ℕ) (old now : Option Batch) → Contains before m →
      ((table : ℕ) (rest : List ℕ) → from ≡ table ∷ rest → (step : Step) → With table rest front n step → With table rest front m step) →
      Improves c pick (In from front before) old now → Improves c pick (In from front (before ++ n ∷ [])) old now
  offers_same [] front before n m old now has same h = h
  offers_same (table ∷ rest) front before n m old now has same h =
      improves_as c pick (In (table ∷ rest) front before) (In (table ∷ rest) front (before ++ n ∷ [])) old now
      (λ step e is. (e.0, Contains-append_left before (n ∷ []) e.0 e.1, e.2, e.3))
      (λ step e is. elim (Contains-push_cases before n e.0 e.1) [
        | inl old ↦ (e.0, old, e.2, e.3)
        | inr is_n ↦ (let it = same table rest refl step (subst (λ k. With table rest front k step) (sym is_n) (e.2, e.3)) in (m, has, it.0, it.1))
      ]) h

-- nothing new comes first: nor in fewer
pub improves_less : (c : Course) (pick : Pick) (P Q : Step → Type 0) (now : Option Batch) → ((step : Step) → Q step → P step) → Improves c pick P now now →
    Improves c pick Q now now
improves_less c pick P Q now less h = record {
  from = λ it o. inl o;
  keeps = λ it r. r;
  reaches = λ it k. h.reaches it (record { of = less it.step k.of; new_ = k.new_; round_is = k.round_is });
  finds = λ step q is. h.finds step (less step q) is;
  stays = λ some. some;
  filled = λ whole. whole;
}

-- ---- facts that were tried

pub tried_none : (tried new : List ℕ) (n : ℕ) → new ≡ tried → All (Contains (tried ++ n ∷ [])) new
tried_none tried new n same =
    subst (All (Contains (tried ++ n ∷ []))) (sym same)
    (λ k d below. Contains-append_left tried (n ∷ []) (get_or tried k d) (k, below, get_or_default tried k (get_or tried k d) d below))

pub tried_one : (tried new : List ℕ) (n : ℕ) → new ≡ tried ++ n ∷ [] → All (Contains (tried ++ n ∷ [])) new
tried_one tried new n grown =
    subst (All (Contains (tried ++ n ∷ []))) (sym grown)
    (λ k d below. (k, below, get_or_default (tried ++ n ∷ []) k (get_or (tried ++ n ∷ []) k d) d below))
