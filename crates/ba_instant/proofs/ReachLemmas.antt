-- Whether a part of the goal can be mapped to facts that give the row.
use Rattle.std.proofs.Common.{◌≡◌, ◌∙◌, ℕ, inl, inr, List, [], ◌∷◌, ◌++◌, map, refl, sym, subst, append_assoc, arith}
use Rattle.std.proofs.lemmas.List.Elements.{All-cons, All-contains, All-nil, Contains-push_cases}
use Rattle.std.proofs.lemmas.Option.{slice_get_within}
use Rattle.std.specs.List.{All, Any, Contains}
use Rattle.std.specs.Prelude.{Option, Some, slice_get}
use Rattle.ba_model.specs.declared.query.Part.{Part}
use Rattle.ba_facts.proofs.WalkLemmas.{meets_last, pruned}
use Rattle.ba_facts.specs.Matches.{HeadIs, IsFactOf, IsMapping, Under, terms_at}
use Rattle.ba_facts.specs.Walks.{AreMet, Completes, Composes, IsLost, IsSpared, IsWanted, every}
use Rattle.ba_facts.specs.declared.branch.Branch.{Branch}
use Rattle.ba_facts.specs.declared.walk.Walk.{Walk}
use Rattle.ba_facts.specs.declared.walk.Wanted.TheVariants.{Shown}
use Rattle.ba_facts.specs.declared.term.Side.TheVariants.{Two}
use Rattle.ba_facts.specs.declared.term.Term.{Term}
use Rattle.ba_kernel.proofs.StepFits.{Contains-at}
use Rattle.ba_kernel.specs.Courses.{IsOpen}
use Rattle.ba_kernel.specs.Steps.{GoalPasses}
use Rattle.ba_kernel.specs.SearchStates.{Course}
use Rattle.ba_kernel.specs.declared.step.Step.TheVariants as steps
use Rattle.ba_instant.proofs.AlikeLemmas.{Likes, like_fact, like_head, like_joined, like_shown, like_turned, likes_append, likes_itself, likes_last, likes_turned}
use Rattle.ba_instant.proofs.ChaseLemmas.{new_on}
use Rattle.ba_instant.proofs.OfferLemmas.{improves_none}
use Rattle.ba_instant.proofs.OfferWalks.{along, back_along, in_every}
use Rattle.ba_facts.specs.Alike.{AreAlike}
use Rattle.ba_instant.specs.Offers.{Improves, IsNewIn, IsOfForm}
use Rattle.ba_instant.specs.Spreads.{HasFact, IsReached, IsWalkFor, NoneReach, NoneReachAmong}
use Rattle.ba_instant.specs.declared.batch.Batch.{Batch}
use Rattle.ba_instant.specs.declared.mapped.Form.TheVariants.{OfGoal}
use Rattle.ba_settle.specs.declared.order.Pick.{Pick}
use Rattle.ba_instant.specs.declared.reach.Reach.{Reach}

module _ (b : Branch) (part : Part) (row : List Term) where
  abbrev Reached : List ℕ → List ℕ → List ℕ → Type 0
  Reached = IsReached b part row

  -- the chosen facts themselves, with the others, are such
  themselves : (from chosen facts : List ℕ) → Reached from chosen facts → (rest : List ℕ) × Completes b Two part Shown from chosen (chosen ++ rest) × HeadIs b part (chosen ++ rest) (Some row)
  themselves from chosen facts h =
      let it = h.completes in
      let like : Likes b facts (chosen ++ it.rest) =
      subst (λ xs. Likes b xs (chosen ++ it.rest)) (sym it.facts_are)
      (likes_append b h.front chosen it.rest it.rest (likes_turned b chosen h.front h.like) (likes_itself b it.rest)) in (
        it.rest,
        record { rest = it.rest; facts_are = refl; facts_of = it.facts_of; meets = like_shown b facts (chosen ++ it.rest) like part.conds it.meets },
        like_head b facts (chosen ++ it.rest) like part (Some row) h.head,
      )

  pub reach_lost : (from chosen facts : List ℕ) → IsLost b part Shown (Some row) chosen → Reached from chosen facts → ⊥
  reach_lost from chosen facts (inl fails) h = let it = themselves from chosen facts h in pruned b Two part Shown from chosen fails (chosen ++ it.0) it.1
  reach_lost from chosen facts (inr other) h = let it = themselves from chosen facts h in other it.0 it.2

  -- one of its tables has no fact
  tables_have : (from left : List ℕ) → IsMapping b Two from left → All (HasFact b) from
  unfolding HasFact
  tables_have [] left m = All-nil (HasFact b)
  tables_have (x ∷ from) [] m = absurd m
  tables_have (x ∷ from) (n ∷ left) m =
      let has = Contains-at b.facts n (m.0).fact (m.0).there in
      All-cons (HasFact b) x from (has.0, (m.0).fact, has.1, has.2, ((m.0).side_is, (m.0).table_is)) (tables_have from left m.1)

  pub reach_bare : (tables : List ℕ) → tables ≡ part.from → (All (HasFact b) tables → ⊥) → (facts : List ℕ) → Reached part.from [] facts → ⊥
  reach_bare tables is lacks facts h = lacks (subst (All (HasFact b)) (sym is) (tables_have part.from h.completes.rest h.completes.facts_of))

-- ---- the walk

module _ (it : Reach) where
  abbrev Comes : List ℕ → List ℕ → List ℕ → Type 0
  Comes = IsReached it.branch.now it.part.now it.row.now

  parted : (table : ℕ) (rest chosen facts : List ℕ) → Comes (table ∷ rest) chosen facts →
      (fact : ℕ) × IsFactOf it.branch.now Two table fact × Comes rest (chosen ++ fact ∷ []) facts
  parted table rest chosen facts h = at h.completes.rest h.completes.facts_are h.completes.facts_of
    where
      at : (left : List ℕ) → facts ≡ h.front ++ left → IsMapping it.branch.now Two (table ∷ rest) left →
          (fact : ℕ) × IsFactOf it.branch.now Two table fact × Comes rest (chosen ++ fact ∷ []) facts
      at [] are of = absurd of
      at (y ∷ left) are of = (
        y,
        of.0,
        record {
          front = h.front ++ y ∷ [];
          like = likes_append it.branch.now chosen h.front (y ∷ []) (y ∷ []) h.like (inl refl, tt);
          completes = record { rest = left; facts_are = are ∙ sym (append_assoc h.front (y ∷ []) left); facts_of = of.1; meets = h.completes.meets };
          head = h.head;
        },
      )

  -- a fact that is alike to another leads to the same
  by_alike : (rest chosen : List ℕ) (other fact : ℕ) (facts : List ℕ) → AreAlike it.branch.now other fact → Comes rest (chosen ++ fact ∷ []) facts →
      Comes rest (chosen ++ other ∷ []) facts
  by_alike rest chosen other fact facts alike h =
      let last = likes_last it.branch.now chosen h.front fact h.like in
      let like : Likes it.branch.now (chosen ++ other ∷ []) (last.0 ++ last.1 ∷ []) =
      likes_append it.branch.now chosen last.0 (other ∷ []) (last.1 ∷ []) last.3 (like_joined it.branch.now other fact last.1 (inr alike) last.4, tt) in
      record { front = h.front; like = subst (Likes it.branch.now (chosen ++ other ∷ [])) (sym last.2) like; completes = h.completes; head = h.head }

  pub none_every : (from chosen : List ℕ) → NoneReachAmong it from chosen (every it.branch.now) → NoneReach it from chosen
  none_every [] chosen none facts h = none facts h
  none_every (table ∷ rest) chosen none facts h =
      let of = parted table rest chosen facts h in
      none of.0 (in_every it.branch.now of.0 (slice_get_within it.branch.now.facts of.0 (of.1).fact (of.1).there)) of.1 facts of.2

  none_more : (table : ℕ) (rest chosen numbers : List ℕ) (n : ℕ) → NoneReachAmong it (table ∷ rest) chosen numbers →
      (IsFactOf it.branch.now Two table n → NoneReach it rest (chosen ++ n ∷ [])) → NoneReachAmong it (table ∷ rest) chosen (numbers ++ n ∷ [])
  none_more table rest chosen numbers n before here fact has is = elim (Contains-push_cases numbers n fact has) [
    | inl old ↦ before fact old is
    | inr same ↦ subst (λ m. NoneReach it rest (chosen ++ m ∷ [])) same (here (subst (IsFactOf it.branch.now Two table) (sym same) is))
  ]

  pub reach_composes : {S E : Type 0} →
      Composes {S = S} {E = E} it.branch.now Two (λ from chosen numbers. numbers ≡ every it.branch.now)
      (λ from chosen numbers old new. NoneReachAmong it from chosen numbers) (λ from chosen stop. Unit {0})
  reach_composes = record {
    none = λ table rest chosen now fact has is. let below = has.1 in absurd (omega (arith, below));
    other = λ table rest chosen before n old now other h. none_more table rest chosen before n h (λ is. absurd (other is));
    more = λ table rest chosen before n old now new fact h k. none_more table rest chosen before n h (λ is. none_every rest (chosen ++ n ∷ []) k);
    enough = λ table rest chosen numbers old new is h. subst (NoneReachAmong it (table ∷ rest) chosen) is h;
    deeper = λ table rest chosen n stop fact h. h;
  }

  spared : (from front before : List ℕ) (n : ℕ) →
      ((table : ℕ) (rest : List ℕ) → from ≡ table ∷ rest → NoneReachAmong it (table ∷ rest) front before → IsFactOf it.branch.now Two table n →
      NoneReach it rest (front ++ n ∷ [])) → NoneReachAmong it from front before → NoneReachAmong it from front (before ++ n ∷ [])
  spared [] front before n why h = h
  spared (table ∷ rest) front before n why h = none_more table rest front before n h (why table rest refl h)

  -- a fact that is alike to one that was tried
  pub reach_alike : {S : Type 0} (from chosen : List ℕ) (number : ℕ) (tried : List ℕ) (now : S) → Any (λ other. AreAlike it.branch.now other number) tried →
      IsSpared (λ front numbers. numbers ≡ every it.branch.now) (λ front numbers old new. NoneReachAmong it from front numbers) chosen number tried now
  reach_alike from chosen number tried now (k, other, inside, at, alike) front before after start split offered among h =
      spared from front before number
      (λ table rest is none fact facts reached.
      none other (All-contains (Contains before) tried other among (k, inside, at)) (like_fact it.branch.now Two table number other (like_turned it.branch.now other number (inr alike)) fact)
      facts (by_alike rest front other number facts alike reached)) h

  module _ (walk : Walk) (of : IsWalkFor it walk) where
    is_lost : (chosen : List ℕ) → IsLost walk.branch.now walk.part.now walk.wanted (Some it.row.now) chosen →
        IsLost it.branch.now it.part.now Shown (Some it.row.now) chosen
    is_lost chosen =
        along (λ b part wanted. IsLost b part wanted (Some it.row.now) chosen) walk it.branch.now it.part.now Shown of.branch_is of.part_is of.wanted_is

    pub reach_spared : {S : Type 0} (from chosen : List ℕ) (number : ℕ) (tried : List ℕ) (now : S) →
        IsLost walk.branch.now walk.part.now walk.wanted (Some it.row.now) chosen →
        IsSpared (λ front numbers. numbers ≡ every it.branch.now) (λ front numbers old new. NoneReachAmong it from front numbers) chosen number tried now
    reach_spared from chosen number tried now gone front before after start split offered among h =
        spared from front before number
        (λ table rest is none fact facts reached.
        reach_lost it.branch.now it.part.now it.row.now rest chosen facts (is_lost chosen gone) (subst (λ xs. Comes rest xs facts) (sym split) reached)) h

    pub reach_not_met : (chosen numbers : List ℕ) → (AreMet walk chosen → ⊥) → NoneReachAmong it [] chosen numbers
    reach_not_met chosen numbers fails facts h =
        let own = themselves it.branch.now it.part.now it.row.now [] chosen facts h in
        fails (back_along (λ b part wanted. All (Under (IsWanted b.known wanted) (map (terms_at b) chosen)) part.conds) walk it.branch.now it.part.now Shown of.branch_is
        of.part_is of.wanted_is (meets_last it.branch.now Two it.part.now Shown chosen (chosen ++ own.0) own.1))

    pub reach_lost_at_once : IsLost walk.branch.now walk.part.now walk.wanted (Some it.row.now) [] → NoneReach it it.part.now.from []
    reach_lost_at_once gone facts h = reach_lost it.branch.now it.part.now it.row.now it.part.now.from [] facts (is_lost [] gone) h

  -- no facts show the atoms and give the row
  pub reach_bleak : ((facts : List ℕ) → Completes it.branch.now Two it.part.now Shown it.part.now.from [] facts → HeadIs it.branch.now it.part.now facts (Some it.row.now) → ⊥) →
      NoneReach it it.part.now.from []
  reach_bleak none facts h = at h.front h.like h.completes
    where
      at : (front : List ℕ) → Likes it.branch.now [] front → Completes it.branch.now Two it.part.now Shown it.part.now.from front facts → ⊥
      at [] like completes = none facts completes h.head
      at (y ∷ front) like completes = absurd like

-- ---- no step that reaches the goal by the part is new

some_inj : {X : Type 0} (o : Option X) (x y : X) → o ≡ Some x → o ≡ Some y → x ≡ y
some_inj o x y left right = cc

module _ (c : Course) (pick : Pick) (n : ℕ) (b : Branch) (open_ : IsOpen c.slots n b) where
  pub goal_unreached : (part : ℕ) (of : Part) (row : List Term) (old : Option Batch) → slice_get c.problem.goal.parts part ≡ Some of → row ≡ b.goal →
      ((facts : List ℕ) → IsReached b of row of.from [] facts → ⊥) → Improves c pick (IsOfForm n (OfGoal part)) old old
  goal_unreached part of row old there row_is none =
      improves_none c pick (IsOfForm n (OfGoal part)) old
      (λ step e new.
      let k = (new_on c n b (steps.Goal n part e.0) open_ refl (subst (IsNewIn c) e.1 new)).passes in
      let one : k.it ≡ of = some_inj _ k.it of k.is_part there in
      none e.0 (subst (λ it. IsReached b of it of.from [] e.0) (sym row_is) (subst (λ it. IsReached b it b.goal it.from [] e.0) one (reached part e.0 k))))
    where
      reached : (part : ℕ) (facts : List ℕ) (k : GoalPasses c.problem b part facts) → IsReached b k.it b.goal (k.it).from [] facts
      reached part facts k = record {
        front = [];
        like = tt;
        completes = record { rest = facts; facts_are = refl; facts_of = k.pass.mapping; meets = k.pass.shown };
        head = k.head;
      }
