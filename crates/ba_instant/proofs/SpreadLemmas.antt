-- Splits over facts that are alike to chosen ones.
use Rattle.std.proofs.Common.{◌≡◌, ◌∙◌, ℕ, ◌⊎◌, inl, inr, List, [], ◌∷◌, ◌++◌, length, map, refl, sym, ap, subst, append_assoc, append-nil, arith}
use Rattle.std.proofs.lemmas.List.{length-map, map-append}
use Rattle.std.proofs.lemmas.List.Elements.{All-contains}
use Rattle.std.specs.List.{Any}
use Rattle.std.specs.Prelude.{Option, Some}
use Rattle.ba_model.specs.declared.query.Atom.{Atom}
use Rattle.ba_model.specs.declared.query.Op.TheVariants.{Eq}
use Rattle.ba_model.specs.declared.query.Operand.{Operand}
use Rattle.ba_model.specs.declared.query.Part.{Part}
use Rattle.ba_facts.proofs.WalkLemmas.{completes_last, last_completes, meets_last, pruned}
use Rattle.ba_facts.specs.Matches.{GivesAtom, HeadIs, IsFactOf, IsLiveAtom, IsMapping, Under, term_of, terms_at}
use Rattle.ba_facts.specs.Walks.{Completes, IsLost}
use Rattle.ba_facts.specs.Shown.{RefutesOf, ShowsOf}
use Rattle.ba_facts.specs.declared.branch.Branch.{Branch}
use Rattle.ba_facts.specs.declared.walk.Wanted.TheVariants.{Live}
use Rattle.ba_facts.specs.declared.term.Side.{Side}
use Rattle.ba_facts.specs.declared.term.Term.{Term}
use Rattle.ba_facts.specs.declared.term.TermAtom.{TermAtom}
use Rattle.ba_kernel.specs.Courses.{IsOpen}
use Rattle.ba_kernel.specs.Steps.{IsOfNewKind}
use Rattle.ba_kernel.specs.SearchStates.{Course}
use Rattle.ba_kernel.specs.declared.step.Step.{Step}
use Rattle.ba_kernel.specs.declared.step.Step.TheVariants as steps
use Rattle.ba_instant.proofs.AlikeLemmas.{Likes, like_fact, like_head, like_joined, like_live, like_open, like_turned, likes_append, likes_itself, likes_last, likes_turned, term_beside}
use Rattle.ba_instant.proofs.ChaseLemmas.{new_on}
use Rattle.ba_instant.proofs.OfferLemmas.{improves_as, improves_none}
use Rattle.ba_instant.specs.Offers.{Improves, IsNewIn, IsSplitOfAtom, IsSplitOfPart}
use Rattle.ba_facts.specs.Alike.{AreAlike}
use Rattle.ba_instant.specs.Spreads.{AreChoices, IsAt, IsLike, IsLikeAtom, IsLikeSplit, IsLikeSplits, IsLiveWith, IsOpenOf, IsOver, IsOverAtom, IsSpread, IsSpreadAtom, NamesPlace}
use Rattle.ba_instant.specs.declared.batch.Batch.{Batch}
use Rattle.ba_settle.specs.declared.order.Pick.{Pick}

-- ---- the walk over a part's tables

module _ (c : Course) (pick : Pick) (b : Branch) (n : ℕ) (side : Side) (part : Part) (row : Option (List Term)) where
  abbrev Spread : List ℕ → List ℕ → Step → Type 0
  Spread = IsSpread b n side part row

  abbrev AtomOf : List ℕ → List ℕ → TermAtom → List ℕ → Type 0
  AtomOf = IsSpreadAtom b side part row

  -- the chosen facts themselves, with the others, make such a mapping
  themselves : (from chosen : List ℕ) (atom : TermAtom) (facts : List ℕ) → AtomOf from chosen atom facts →
      (rest : List ℕ) × Completes b side part Live from chosen (chosen ++ rest) × HeadIs b part (chosen ++ rest) row
  themselves from chosen atom facts h =
      let it = h.has.completes in
      let like : Likes b facts (chosen ++ it.rest) =
      subst (λ xs. Likes b xs (chosen ++ it.rest)) (sym it.facts_are)
      (likes_append b h.front chosen it.rest it.rest (likes_turned b chosen h.front h.like) (likes_itself b it.rest)) in (
        it.rest,
        record { rest = it.rest; facts_are = refl; facts_of = it.facts_of; meets = like_live b facts (chosen ++ it.rest) like part.conds it.meets },
        like_head b facts (chosen ++ it.rest) like part row h.has.has.head,
      )

  pub lost : (from chosen : List ℕ) → IsLost b part Live row chosen → (step : Step) → Spread from chosen step → ⊥
  lost from chosen (inl fails) step e = let it = themselves from chosen e.0 e.2 e.3 in pruned b side part Live from chosen fails (chosen ++ it.0) it.1
  lost from chosen (inr other) step e = let it = themselves from chosen e.0 e.2 e.3 in other it.0 it.2

  -- no table is left
  pub spread_on : (chosen : List ℕ) (old new : Option Batch) → IsLiveWith b part row chosen → Improves c pick (IsLikeSplits b n chosen part.conds) old new →
      Improves c pick (Spread [] chosen) old new
  spread_on chosen old new with_ h =
      improves_as c pick (IsLikeSplits b n chosen part.conds) (Spread [] chosen) old new (λ step e is. (e.0, e.1, e.2, to e.0 e.2 e.3)) (λ step e is. (e.0, e.1, e.2, back e.0 e.2 e.3)) h
    where
      to : (atom : TermAtom) (facts : List ℕ) → Any (λ cond. IsLikeAtom b chosen cond atom facts) part.conds → AtomOf [] chosen atom facts
      to atom facts (k, cond, below, at, it) = record {
        front = facts;
        like = it.like;
        has = record {
          completes = last_completes b side part Live facts (like_live b chosen facts it.like part.conds with_.live);
          has = record { head = like_head b chosen facts it.like part row with_.head; stands = (k, cond, below, at, it.gives) };
        };
      }

      back : (atom : TermAtom) (facts : List ℕ) → AtomOf [] chosen atom facts → Any (λ cond. IsLikeAtom b chosen cond atom facts) part.conds
      back atom facts h =
          let same = completes_last b side part Live h.front facts h.has.completes in
          let stands = h.has.has.stands in
          (stands.0, stands.1, stands.2, stands.3, record { like = subst (Likes b chosen) (sym same) h.like; gives = stands.4 })

  pub spread_off : (chosen : List ℕ) (old : Option Batch) → (IsLiveWith b part row chosen → ⊥) → Improves c pick (Spread [] chosen) old old
  spread_off chosen old other =
      improves_none c pick (Spread [] chosen) old
      (λ step e new.
      let it = themselves [] chosen e.0 e.2 e.3 in
      let same = completes_last b side part Live chosen (chosen ++ it.0) it.1 in
      other (record { live = meets_last b side part Live chosen (chosen ++ it.0) it.1; head = subst (λ xs. HeadIs b part xs row) same it.2 }))

  -- a table is left: one of its facts is chosen
  module _ (table : ℕ) (rest chosen : List ℕ) where
    abbrev pub By : ℕ → Step → Type 0
    By fact step = IsFactOf b side table fact × Spread rest (chosen ++ fact ∷ []) step

    -- a fact that is alike to another gives the same
    pub by_alike : (other fact : ℕ) (step : Step) → AreAlike b other fact → By fact step → By other step
    by_alike other fact step alike (is, (atom, same, facts, h)) =
        let last = likes_last b chosen h.front fact h.like in
        let like : Likes b (chosen ++ other ∷ []) (last.0 ++ last.1 ∷ []) =
        likes_append b chosen last.0 (other ∷ []) (last.1 ∷ []) last.3 (like_joined b other fact last.1 (inr alike) last.4, tt) in (
          like_fact b side table fact other (like_turned b other fact (inr alike)) is,
          (atom, same, facts, record { front = h.front; like = subst (Likes b (chosen ++ other ∷ [])) (sym last.2) like; has = h.has }),
        )

    joined : (fact : ℕ) (atom : TermAtom) (facts : List ℕ) → IsFactOf b side table fact → AtomOf rest (chosen ++ fact ∷ []) atom facts → AtomOf (table ∷ rest) chosen atom facts
    joined fact atom facts is h =
        let last = likes_last b chosen h.front fact h.like in
        let it = h.has.completes in
        record {
          front = last.0;
          like = last.3;
          has = record {
            completes = record {
              rest = last.1 ∷ it.rest;
              facts_are = it.facts_are ∙ (ap (λ xs. xs ++ it.rest) last.2 ∙ append_assoc last.0 (last.1 ∷ []) it.rest);
              facts_of = (like_fact b side table fact last.1 last.4 is, it.facts_of);
              meets = it.meets;
            };
            has = h.has.has;
          };
        }

    parted : (step : Step) (atom : TermAtom) (facts : List ℕ) → step ≡ steps.Split n atom → AtomOf (table ∷ rest) chosen atom facts →
        (fact : ℕ) × By fact step
    parted step atom facts same h = at h.has.completes.rest h.has.completes.facts_are h.has.completes.facts_of
      where
        at : (left : List ℕ) → facts ≡ h.front ++ left → IsMapping b side (table ∷ rest) left → (fact : ℕ) × By fact step
        at [] split of = absurd of
        at (y ∷ left) split of =
            let it : AtomOf rest (chosen ++ y ∷ []) atom facts = record {
              front = h.front ++ y ∷ [];
              like = likes_append b chosen h.front (y ∷ []) (y ∷ []) h.like (inl refl, tt);
              has = record {
                completes = record { rest = left; facts_are = split ∙ sym (append_assoc h.front (y ∷ []) left); facts_of = of.1; meets = h.has.completes.meets };
                has = h.has.has;
              };
            } in
            (y, (of.0, (atom, same, facts, it)))

    pub spread_joined : (fact : ℕ) (step : Step) → IsFactOf b side table fact → Spread rest (chosen ++ fact ∷ []) step → Spread (table ∷ rest) chosen step
    spread_joined fact step is (atom, same, facts, h) = (atom, same, facts, joined fact atom facts is h)

    pub spread_parted : (step : Step) → Spread (table ∷ rest) chosen step → (fact : ℕ) × By fact step
    spread_parted step (atom, same, facts, h) = parted step atom facts same h

  -- all tables
  pub spread_whole : (from chosen : List ℕ) (old new : Option Batch) → from ≡ part.from → chosen ≡ [] → Improves c pick (Spread from chosen) old new →
      Improves c pick (IsSplitOfPart b n side row part) old new
  spread_whole from chosen old new is none h =
      improves_as c pick (Spread part.from []) (IsSplitOfPart b n side row part) old new (λ step e is. (e.0, e.1, e.2, to e.0 e.2 e.3)) (λ step e is. (e.0, e.1, e.2, back e.0 e.2 e.3))
      (subst (λ xs. Improves c pick (Spread xs []) old new) is (subst (λ xs. Improves c pick (Spread from xs) old new) none h))
    where
      to : (atom : TermAtom) (facts : List ℕ) → AtomOf part.from [] atom facts → IsLiveAtom b side part row atom facts
      to atom facts h = at h.front h.like h.has.completes.facts_are
        where
          at : (front : List ℕ) → Likes b [] front → facts ≡ front ++ h.has.completes.rest → IsLiveAtom b side part row atom facts
          at (y ∷ front) like are = absurd like
          at [] like are = record {
            live = record { facts_of = subst (IsMapping b side part.from) (sym are) h.has.completes.facts_of; live = h.has.completes.meets };
            head = h.has.has.head;
            stands = h.has.has.stands;
          }

      back : (atom : TermAtom) (facts : List ℕ) → IsLiveAtom b side part row atom facts → AtomOf part.from [] atom facts
      back atom facts h = record {
        front = [];
        like = tt;
        has = record {
          completes = record { rest = facts; facts_are = refl; facts_of = h.live.facts_of; meets = h.live.live };
          has = record { head = h.head; stands = h.stands };
        };
      }

  -- nothing leads to a mapping
  pub spread_dead : (chosen : List ℕ) (old : Option Batch) → chosen ≡ [] → IsLost b part Live row chosen → Improves c pick (IsSplitOfPart b n side row part) old old
  spread_dead chosen old none gone =
      spread_whole part.from chosen old old refl none (improves_none c pick (Spread part.from chosen) old (λ step e new. lost part.from chosen gone step e))

  -- no facts make such a mapping
  pub spread_bare : (old : Option Batch) → ((facts : List ℕ) → Completes b side part Live part.from [] facts → HeadIs b part facts row → ⊥) →
      Improves c pick (IsSplitOfPart b n side row part) old old
  spread_bare old none =
      spread_whole part.from [] old old refl refl
      (improves_none c pick (Spread part.from []) old (λ step e new. at e.0 e.2 (e.3).front (e.3).like (e.3).has.completes (e.3).has.has.head))
    where
      at : (atom : TermAtom) (facts front : List ℕ) → Likes b [] front → Completes b side part Live part.from front facts → HeadIs b part facts row → ⊥
      at atom facts [] like completes head = none facts completes head
      at atom facts (y ∷ front) like completes head = absurd like

-- ---- an atom over facts that are like the chosen ones

some_inj : {X : Type 0} (o : Option X) (x y : X) → o ≡ Some x → o ≡ Some y → x ≡ y
some_inj o x y left right = cc

module _ (c : Course) (pick : Pick) (b : Branch) (n : ℕ) (cond : Atom) where
  -- no split by one that is decided is new
  pub like_decided : (open_ : IsOpen c.slots n b) (chosen : List ℕ) (old : Option Batch) → (Under (IsOpenOf b.known) (map (terms_at b) chosen) cond → ⊥) →
      Improves c pick (IsLikeSplit b n chosen cond) old old
  like_decided open_ chosen old decided =
      improves_none c pick (IsLikeSplit b n chosen cond) old
      (λ step e new.
      let tells = (new_on c n b (steps.Split n e.0) open_ refl (subst (IsNewIn c) e.1 new)).tells in
      let gives = (e.3).gives in
      decided (like_open b e.2 chosen (likes_turned b chosen e.2 (e.3).like) cond (
      record {
        left = (e.0).left;
        right = (e.0).right;
        left_is = gives.left;
        right_is = gives.right;
        holds = record {
          op_is = λ eq.
              let kind : IsOfNewKind b.known Eq (e.0).left (e.0).right = subst (λ op. IsOfNewKind b.known op (e.0).left (e.0).right) (sym gives.op ∙ eq) tells.kind in
              absurd kind;
          not_shown = λ shown. tells.not_shown (subst (λ op. ShowsOf b.known op (e.0).left (e.0).right) gives.op shown);
          not_refuted = λ refuted. tells.not_refuted (subst (λ op. RefutesOf b.known op (e.0).left (e.0).right) gives.op refuted);
        };
      })))

  pub over_whole : (chosen done : List ℕ) (old new : Option Batch) → done ≡ [] → Improves c pick (IsOver b n chosen done cond) old new → Improves c pick (IsLikeSplit b n chosen cond) old new
  over_whole chosen done old new none h =
      improves_as c pick (IsOver b n chosen [] cond) (IsLikeSplit b n chosen cond) old new
      (λ step e is. (e.0, e.1, e.2, record { like = subst (Likes b chosen) (sym (e.3).facts_are) (e.3).like; gives = (e.3).gives }))
      (λ step e is. (e.0, e.1, e.2, record { rest = e.2; facts_are = refl; like = (e.3).like; gives = (e.3).gives }))
      (subst (λ xs. Improves c pick (IsOver b n chosen xs cond) old new) none h)

  -- none is left
  pub over_on : (left done over : List ℕ) (old new : Option Batch) → length left ≡ 0 → over ≡ done → Improves c pick (IsSplitOfAtom b n over cond) old new →
      Improves c pick (IsOver b n left done cond) old new
  over_on [] done over old new none are h =
      improves_as c pick (IsSplitOfAtom b n done cond) (IsOver b n [] done cond) old new
      (λ step e is. (e.0, e.1, done, record { rest = []; facts_are = sym (append-nil done); like = tt; gives = e.2 }))
      (λ step e is. (e.0, e.1, at e.0 e.2 (e.3).rest (e.3).facts_are (e.3).like (e.3).gives))
      (subst (λ xs. Improves c pick (IsSplitOfAtom b n xs cond) old new) are h)
    where
      at : (atom : TermAtom) (facts rest : List ℕ) → facts ≡ done ++ rest → Likes b [] rest → GivesAtom (map (terms_at b) facts) atom cond → GivesAtom (map (terms_at b) done) atom cond
      at atom facts [] split like gives = subst (λ xs. GivesAtom (map (terms_at b) xs) atom cond) (split ∙ append-nil done) gives
      at atom facts (y ∷ rest) split like gives = absurd like
  over_on (x ∷ left) done over old new none are h = absurd (omega (arith, none))

  -- one more is chosen
  module _ (rest done : List ℕ) where
    abbrev pub Next : ℕ → Step → Type 0
    Next choice step = IsOver b n rest (done ++ choice ∷ []) cond step

    pub over_taken : (choice : ℕ) (deeper : List ℕ) (old new : Option Batch) → deeper ≡ done ++ choice ∷ [] → Improves c pick (IsOver b n rest deeper cond) old new →
        Improves c pick (Next choice) old new
    over_taken choice deeper old new are h = subst (λ xs. Improves c pick (IsOver b n rest xs cond) old new) are h

    -- another choice at a place that isn't named
    term_with : (operand : Operand) (y z : ℕ) (after : List ℕ) (t : Term) → (IsAt (length done) operand → ⊥) → term_of (map (terms_at b) (done ++ y ∷ after)) operand ≡ Some t →
        term_of (map (terms_at b) (done ++ z ∷ after)) operand ≡ Some t
    term_with operand y z after t apart e =
        let no_map : IsAt (length (map (terms_at b) done)) operand → ⊥ = λ at. apart (subst (λ place. IsAt place operand) (length-map done (terms_at b)) at) in
        let before = map-append (terms_at b) done (y ∷ after) in
        let now = map-append (terms_at b) done (z ∷ after) in
        ap (λ rows. term_of rows operand) now
        ∙ (sym (term_beside (map (terms_at b) done) (map (terms_at b) after) (terms_at b y) (terms_at b z) operand no_map) ∙ (ap (λ rows. term_of rows operand) (sym before) ∙ e))

    gives_with : (atom : TermAtom) (y z : ℕ) (after : List ℕ) → (NamesPlace (length done) cond → ⊥) → GivesAtom (map (terms_at b) (done ++ y ∷ after)) atom cond →
        GivesAtom (map (terms_at b) (done ++ z ∷ after)) atom cond
    gives_with atom y z after apart gives = record {
      op = gives.op;
      left = term_with cond.left y z after atom.left (λ at. apart (inl at)) gives.left;
      right = term_with cond.right y z after atom.right (λ at. apart (inr at)) gives.right;
    }

    module _ (fact : ℕ) (choices : List ℕ) (are : AreChoices b cond (length done) fact choices) where
      joined_over : (choice : ℕ) (atom : TermAtom) (facts : List ℕ) → IsLike b fact choice → IsOverAtom b rest (done ++ choice ∷ []) cond atom facts →
          IsOverAtom b (fact ∷ rest) done cond atom facts
      joined_over choice atom facts like h =
          record { rest = choice ∷ h.rest; facts_are = h.facts_are ∙ append_assoc done (choice ∷ []) h.rest; like = (like, h.like); gives = h.gives }

      parted_over : (step : Step) (atom : TermAtom) (facts : List ℕ) → step ≡ steps.Split n atom → IsOverAtom b (fact ∷ rest) done cond atom facts → Any (λ choice. Next choice step) choices
      parted_over step atom facts same h = at h.rest h.facts_are h.like
        where
          with_ : (y choice : ℕ) (after : List ℕ) → facts ≡ done ++ y ∷ after → Likes b rest after → (choice ≡ y) ⊎ (NamesPlace (length done) cond → ⊥) → Next choice step
          with_ y choice after split like how =
              let gives : GivesAtom (map (terms_at b) (done ++ choice ∷ after)) atom cond =
              elim how [
                | inl one ↦ subst (λ z. GivesAtom (map (terms_at b) (done ++ z ∷ after)) atom cond) (sym one) (subst (λ xs. GivesAtom (map (terms_at b) xs) atom cond) split h.gives)
                | inr apart ↦ gives_with atom y choice after apart (subst (λ xs. GivesAtom (map (terms_at b) xs) atom cond) split h.gives)
              ] in
              (atom, same, done ++ choice ∷ after, record { rest = after; facts_are = sym (append_assoc done (choice ∷ []) after); like = like; gives = gives })

          at : (left : List ℕ) → facts ≡ done ++ left → Likes b (fact ∷ rest) left → Any (λ choice. Next choice step) choices
          at [] split like = absurd like
          at (y ∷ after) split like =
              let it = are.complete y like.0 in
              (it.0, it.1, it.2, it.3, with_ y it.1 after split like.1 it.4)

      pub over_all : (left : List ℕ) (old new : Option Batch) → left ≡ fact ∷ rest → Improves c pick (λ step. Any (λ choice. Next choice step) choices) old new →
          Improves c pick (IsOver b n left done cond) old new
      over_all left old new split h =
          subst (λ xs. Improves c pick (IsOver b n xs done cond) old new) (sym split)
          (improves_as c pick (λ step. Any (λ choice. Next choice step) choices) (IsOver b n (fact ∷ rest) done cond) old new
          (λ step e is.
          let at = e.4 in
          (at.0, at.1, at.2, joined_over e.1 at.0 at.2 (All-contains (IsLike b fact) choices e.1 are.sound (e.0, e.2, e.3)) at.3))
          (λ step e is. parted_over step e.0 e.2 e.1 e.3) h)
