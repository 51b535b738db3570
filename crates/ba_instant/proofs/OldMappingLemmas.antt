-- After a quiet growth the mappings to the facts that were there show and refute what they did before.
use Rattle.std.proofs.Common.{◌≡◌, ℕ, ◌<◌, List, [], ◌∷◌, map, ap, sym, subst}
use Rattle.std.proofs.lemmas.List.Elements.{All-head, All-tail, All-weaker}
use Rattle.std.specs.List.{All, AllZip, Any}
use Rattle.std.specs.Prelude.{Option, Some, None}
use Rattle.ba_model.specs.declared.query.Atom.{Atom}
use Rattle.ba_model.specs.declared.query.Operand.{Operand}
use Rattle.ba_model.specs.declared.query.Part.{Part}
use Rattle.ba_facts.specs.Known.{Known}
use Rattle.ba_facts.specs.Knowing.{IsThere}
use Rattle.ba_facts.specs.Matches.{AreTheSame, GivesAtom, HeadIs, IsAnswered, IsLive, IsLiveAtom, IsShown, round_of, row_of, term_of, terms_at}
use Rattle.ba_facts.specs.declared.branch.Branch.{Branch}
use Rattle.ba_facts.specs.declared.term.Side.{Side}
use Rattle.ba_facts.specs.declared.term.Term.{Term}
use Rattle.ba_facts.specs.declared.term.TermAtom.{TermAtom}
use Rattle.ba_instant.proofs.CarryLemmas.{Carries}
use Rattle.ba_instant.proofs.GrowthLemmas.{known_before, still_known}
use Rattle.ba_instant.proofs.OldFactLemmas.{AreKept, are_kept, mapping_before, mapping_kept, rows_kept}
use Rattle.ba_instant.proofs.OldTermLemmas.{live_before, live_still, same_back, same_on, shown_before, shown_still}
use Rattle.ba_instant.specs.Windows.{AreLate, IsGrounded, IsQuietGrowth}

pub any_weaker : {X : Type 0} (P Q : X → Type 0) → ((x : X) → P x → Q x) → (xs : List X) → Any P xs → Any Q xs
any_weaker P Q f xs (k, x, below, is, h) = (k, x, below, is, f x h)

module _ (b c : Branch) (grounded : IsGrounded b) (growth : IsQuietGrowth b c) where
  abbrev k : Known
  k = b.known

  abbrev l : Known
  l = c.known

  abbrev on : Carries b.known c.known (λ t. t)
  on = still_known b c growth

  abbrev back : Carries c.known b.known growth.stands
  back = known_before b c grounded growth

  -- ---- rows that are the same

  two_on : (x y : Option Term) → AreTheSame k x y → AreTheSame l x y
  two_on x y h = record { left = h.left; right = h.right; left_is = h.left_is; right_is = h.right_is; same = same_on k l (IsThere k) growth.stands growth.itself on back h.left h.right h.same }

  pub same_row_on : (xs ys : List (Option Term)) → AllZip (AreTheSame k) xs ys → AllZip (AreTheSame l) xs ys
  same_row_on [] [] h = tt
  same_row_on [] (y ∷ ys) h = absurd h
  same_row_on (x ∷ xs) [] h = absurd h
  same_row_on (x ∷ xs) (y ∷ ys) h = (two_on x y h.0, same_row_on xs ys h.1)

  pub row_kept : (facts : List ℕ) (head : List Operand) → AreKept b c facts → row_of c facts head ≡ row_of b facts head
  row_kept facts head kept = ap (λ rows. map (term_of rows) head) (rows_kept b c facts kept)

  -- ---- parts that are answered

  pub shown_on : (facts : List ℕ) (conds : List Atom) → AreKept b c facts → All (IsShown k (map (terms_at b) facts)) conds → All (IsShown l (map (terms_at c) facts)) conds
  shown_on facts conds kept h =
      let rows = map (terms_at b) facts in
      subst (λ rows. All (IsShown l rows) conds) (sym (rows_kept b c facts kept))
      (All-weaker (IsShown k rows) (IsShown l rows) (λ atom. shown_still k l (IsThere k) growth.stands growth.itself on back rows atom) conds h)

  answered_on : (side : Side) (part : Part) (row : List (Option Term)) → IsAnswered b side part row → IsAnswered c side part row
  answered_on side part row h =
      let kept = are_kept b c growth.facts growth.facts_are side part.from h.facts h.facts_of in
      record {
        facts = h.facts;
        facts_of = mapping_kept b c growth.facts growth.facts_are side part.from h.facts h.facts_of;
        shown = shown_on h.facts part.conds kept h.shown;
        head = subst (λ head. AllZip (AreTheSame l) head row) (sym (row_kept h.facts part.head kept)) (same_row_on (row_of b h.facts part.head) row h.head);
      }

  pub given_on : (side : Side) (row : List (Option Term)) (parts : List Part) → Any (λ part. IsAnswered b side part row) parts → Any (λ part. IsAnswered c side part row) parts
  given_on side row parts h = any_weaker (λ part. IsAnswered b side part row) (λ part. IsAnswered c side part row) (λ part. answered_on side part row) parts h

  -- ---- terms that were there

  module _ (there : (facts : List ℕ) (x : Operand) (t : Term) → term_of (map (terms_at b) facts) x ≡ Some t → IsThere b.known t) where
    pub shown_back : (facts : List ℕ) (conds : List Atom) → AreKept b c facts → All (IsShown l (map (terms_at c) facts)) conds → All (IsShown k (map (terms_at b) facts)) conds
    shown_back facts conds kept h =
        let rows = map (terms_at b) facts in
        All-weaker (IsShown l rows) (IsShown k rows) (λ atom. shown_before k l (IsThere k) growth.stands growth.itself on back rows (there facts) atom) conds
        (subst (λ rows. All (IsShown l rows) conds) (rows_kept b c facts kept) h)

    alive_on : (facts : List ℕ) (conds : List Atom) → AreKept b c facts → All (IsLive k (map (terms_at b) facts)) conds → All (IsLive l (map (terms_at c) facts)) conds
    alive_on facts conds kept h =
        let rows = map (terms_at b) facts in
        subst (λ rows. All (IsLive l rows) conds) (sym (rows_kept b c facts kept))
        (All-weaker (IsLive k rows) (IsLive l rows) (λ atom. live_still k l (IsThere k) growth.stands growth.itself on back rows (there facts) atom) conds h)

    alive_back : (facts : List ℕ) (conds : List Atom) → AreKept b c facts → All (IsLive l (map (terms_at c) facts)) conds → All (IsLive k (map (terms_at b) facts)) conds
    alive_back facts conds kept h =
        let rows = map (terms_at b) facts in
        All-weaker (IsLive l rows) (IsLive k rows) (λ atom. live_before k l (IsThere k) growth.stands growth.itself on back rows (there facts) atom) conds
        (subst (λ rows. All (IsLive l rows) conds) (rows_kept b c facts kept) h)

    -- ---- heads

    abbrev pub IsRowThere : Option (List Term) → Type 0
    IsRowThere None = Unit {0}
    IsRowThere (Some row) = All (IsThere k) row

    two_back : (facts : List ℕ) (x : Operand) (t : Term) → IsThere k t → AreTheSame l (term_of (map (terms_at b) facts) x) (Some t) → AreTheSame k (term_of (map (terms_at b) facts) x) (Some t)
    two_back facts x t there_t h =
        let is : t ≡ h.right = cc (h.right_is) in
        let right_there = subst (IsThere k) is there_t in
        record {
          left = h.left;
          right = h.right;
          left_is = h.left_is;
          right_is = h.right_is;
          same = same_back k l (IsThere k) growth.stands growth.itself on back h.left h.right (there facts x h.left h.left_is) right_there h.same;
        }

    pub same_row_back : (facts : List ℕ) (head : List Operand) (row : List Term) → All (IsThere k) row → AllZip (AreTheSame l) (row_of b facts head) (map Some row) →
        AllZip (AreTheSame k) (row_of b facts head) (map Some row)
    same_row_back facts [] [] all h = tt
    same_row_back facts [] (t ∷ row) all h = absurd h
    same_row_back facts (x ∷ head) [] all h = absurd h
    same_row_back facts (x ∷ head) (t ∷ row) all h =
        (two_back facts x t (All-head (IsThere k) t row all) h.0, same_row_back facts head row (All-tail (IsThere k) t row all) h.1)

    head_on : (part : Part) (facts : List ℕ) (row : Option (List Term)) → AreKept b c facts → HeadIs b part facts row → HeadIs c part facts row
    head_on part facts None kept h = tt
    head_on part facts (Some row) kept h =
        subst (λ head. AllZip (AreTheSame l) head (map Some row)) (sym (row_kept facts part.head kept)) (same_row_on (row_of b facts part.head) (map Some row) h)

    head_back : (part : Part) (facts : List ℕ) (row : Option (List Term)) → IsRowThere row → AreKept b c facts → HeadIs c part facts row → HeadIs b part facts row
    head_back part facts None all kept h = tt
    head_back part facts (Some row) all kept h =
        same_row_back facts part.head row all (subst (λ head. AllZip (AreTheSame l) head (map Some row)) (row_kept facts part.head kept) h)

    -- ---- atoms of live mappings

    pub live_atom_on : (side : Side) (part : Part) (row : Option (List Term)) (atom : TermAtom) (facts : List ℕ) → IsLiveAtom b side part row atom facts →
        IsLiveAtom c side part row atom facts
    live_atom_on side part row atom facts h =
        let kept = are_kept b c growth.facts growth.facts_are side part.from facts h.live.facts_of in
        record {
          live = record {
            facts_of = mapping_kept b c growth.facts growth.facts_are side part.from facts h.live.facts_of;
            live = alive_on facts part.conds kept h.live.live;
          };
          head = head_on part facts row kept h.head;
          stands = subst (λ rows. Any (GivesAtom rows atom) part.conds) (sym (rows_kept b c facts kept)) h.stands;
        }

    module _ (bound : ℕ) (late : AreLate bound growth.facts) where
      pub live_atom_back : (side : Side) (part : Part) (row : Option (List Term)) (atom : TermAtom) (facts : List ℕ) → IsRowThere row → round_of c facts < bound →
          IsLiveAtom c side part row atom facts → IsLiveAtom b side part row atom facts
      live_atom_back side part row atom facts all below h =
          let mapping = mapping_before b c growth.facts growth.facts_are bound late side part.from facts h.live.facts_of below in
          let kept = are_kept b c growth.facts growth.facts_are side part.from facts mapping in
          record {
            live = record { facts_of = mapping; live = alive_back facts part.conds kept h.live.live };
            head = head_back part facts row all kept h.head;
            stands = subst (λ rows. Any (GivesAtom rows atom) part.conds) (rows_kept b c facts kept) h.stands;
          }
