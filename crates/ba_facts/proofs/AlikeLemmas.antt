-- A fact that is alike to another does as well at its place of a mapping.
use Rattle.std.proofs.Common.{◌≡◌, ◌∙◌, ℕ, zero, suc, ◌≤◌, ◌⊎◌, inl, inr, List, [], ◌∷◌, ◌++◌, map, refl, sym, ap, subst, arith}
use Rattle.std.proofs.lemmas.List.Elements.{All-weaker}
use Rattle.std.proofs.lemmas.Option.{get_or_from_slice_get, same_Some, slice_get_within}
use Rattle.std.specs.List.{AllZip, Any}
use Rattle.std.specs.Prelude.{Option, Some, None, option_and_then, option_map, slice_get, unwrap_or}
use Rattle.ba_model.proofs.FitLemmas.{AllZip-at}
use Rattle.ba_model.specs.declared.query.Atom.{Atom}
use Rattle.ba_model.specs.declared.query.Op.{Op}
use Rattle.ba_model.specs.declared.query.Operand.{Operand}
use Rattle.ba_model.specs.declared.query.Operand.TheVariants.{Col, Val, Param, Var}
use Rattle.ba_model.specs.declared.query.Part.{Part}
use Rattle.ba_facts.proofs.ClassMoves.{live_moves, same_moves, shown_moves}
use Rattle.ba_facts.specs.Alike.{AreAlike}
use Rattle.ba_facts.specs.Known.{Known, OneClass}
use Rattle.ba_facts.specs.Matches.{AreTheSame, GivesAtom, HeadIs, IsFactOf, Under, round_of, row_of, term_of, terms_at}
use Rattle.ba_facts.specs.Walks.{Completes, HasAtom, HasEither, IsWanted, round_at}
use Rattle.ba_facts.specs.declared.branch.Branch.{Branch}
use Rattle.ba_facts.specs.declared.walk.Wanted.{Wanted}
use Rattle.ba_facts.specs.declared.walk.Wanted.TheVariants.{Live, Shown}
use Rattle.ba_facts.specs.declared.term.Fact.{Fact}
use Rattle.ba_facts.specs.declared.term.Side.{Side}
use Rattle.ba_facts.specs.declared.term.Term.{Term}
use Rattle.ba_facts.specs.declared.term.TermAtom.{TermAtom}

-- ---- rows of the same classes

module _ (k : Known) where
  -- the rows' terms are of one class, place by place
  abbrev AreMoved : List (List Term) → List (List Term) → Type 0
  AreMoved = AllZip (AllZip (OneClass k))

  row_itself : (row : List Term) → AllZip (OneClass k) row row
  row_itself [] = tt
  row_itself (t ∷ row) = (OneClass.itself, row_itself row)

  rows_itself : (rows : List (List Term)) → AreMoved rows rows
  rows_itself [] = tt
  rows_itself (row ∷ rows) = (row_itself row, rows_itself rows)

  -- what the operand stands for then
  record Moved (o : Option Term) (t : Term) : Type 0 where
    to : Term
    is : o ≡ Some to
    class : OneClass k t to

  moved_column : (o p : Option (List Term)) (c : ℕ) (t : Term) →
      ((row : List Term) → o ≡ Some row → (other : List Term) × (p ≡ Some other) × AllZip (OneClass k) row other) →
      option_and_then (λ row. slice_get row c) o ≡ Some t → Moved (option_and_then (λ row. slice_get row c) p) t
  moved_column None p c t f e = cc
  moved_column (Some row) p c t f e =
      let at = f row refl in
      let it = AllZip-at (OneClass k) row at.0 c t at.2 e in
      record { to = it.0; is = ap (option_and_then (λ row. slice_get row c)) at.1 ∙ it.1; class = it.2 }

  module _ (rows others : List (List Term)) (moved : AreMoved rows others) where
    term_moves : (x : Operand) (t : Term) → term_of rows x ≡ Some t → Moved (term_of others x) t
    term_moves (Col p c) t e =
        moved_column (slice_get rows p) (slice_get others p) c t (λ row at. AllZip-at (AllZip (OneClass k)) rows others p row moved at) e
    term_moves (Val v) t e = record { to = t; is = e; class = OneClass.itself }
    term_moves (Param n) t e = record { to = t; is = e; class = OneClass.itself }
    term_moves (Var n) t e = record { to = t; is = e; class = OneClass.itself }

    wanted_moves : (wanted : Wanted) (op : Op) (a b x y : Term) → OneClass k a x → OneClass k b y → IsWanted k wanted op a b → IsWanted k wanted op x y
    wanted_moves Live op a b x y at to h = live_moves k op a b x y at to h
    wanted_moves Shown op a b x y at to h = shown_moves k op a b x y at to h

    under_moves : (wanted : Wanted) (atom : Atom) → Under (IsWanted k wanted) rows atom → Under (IsWanted k wanted) others atom
    under_moves wanted atom h =
        let left = term_moves atom.left h.left h.left_is in
        let right = term_moves atom.right h.right h.right_is in
        record {
          left = left.to;
          right = right.to;
          left_is = left.is;
          right_is = right.is;
          holds = wanted_moves wanted atom.op h.left h.right left.to right.to left.class right.class h.holds;
        }

    head_moves : (head : List Operand) (row : List (Option Term)) → AllZip (AreTheSame k) (map (term_of rows) head) row →
        AllZip (AreTheSame k) (map (term_of others) head) row
    head_moves [] [] h = tt
    head_moves [] (o ∷ row) h = h
    head_moves (x ∷ head) [] h = h
    head_moves (x ∷ head) (o ∷ row) h =
        let same = h.0 in
        let left = term_moves x same.left same.left_is in (
          record {
            left = left.to;
            right = same.right;
            left_is = left.is;
            right_is = same.right_is;
            same = same_moves k same.left same.right left.to same.right left.class OneClass.itself same.same;
          },
          head_moves head row h.1,
        )

-- ---- one fact in another's place

any_here : {X : Type 0} (xs : List X) (i : ℕ) (x : X) → slice_get xs i ≡ Some x → Any (λ own. own ≡ x) xs
any_here xs i x at = (i, x, slice_get_within xs i x at, get_or_from_slice_get xs i x x at, refl)

-- what stands at a place, where one row has another in its stead
place_kept : (before after : List (List Term)) (own other : List Term) (i : ℕ) (row : List Term) → slice_get ((before ++ own ∷ []) ++ after) i ≡ Some row →
    (own ≡ row) ⊎ (slice_get ((before ++ other ∷ []) ++ after) i ≡ Some row)
place_kept [] after own other zero row at = inl (same_Some own row at)
place_kept [] after own other (suc i) row at = inr at
place_kept (x ∷ before) after own other zero row at = inr at
place_kept (x ∷ before) after own other (suc i) row at = place_kept before after own other i row at

column_kept : (own : List Term) (o p : Option (List Term)) (c : ℕ) (t : Term) → ((row : List Term) → o ≡ Some row → (own ≡ row) ⊎ (p ≡ Some row)) →
    (Any (λ it. it ≡ t) own → ⊥) → option_and_then (λ row. slice_get row c) o ≡ Some t → option_and_then (λ row. slice_get row c) p ≡ Some t
column_kept own None p c t f none e = cc
column_kept own (Some row) p c t f none e = elim (f row refl) [
  | inl same ↦ absurd (none (any_here own c t (ap (λ xs. slice_get xs c) same ∙ e)))
  | inr at ↦ ap (option_and_then (λ row. slice_get row c)) at ∙ e
]

term_kept : (before after : List (List Term)) (own other : List Term) (x : Operand) (t : Term) → (Any (λ it. it ≡ t) own → ⊥) →
    term_of ((before ++ own ∷ []) ++ after) x ≡ Some t → term_of ((before ++ other ∷ []) ++ after) x ≡ Some t
term_kept before after own other (Col p c) t none e =
    column_kept own (slice_get ((before ++ own ∷ []) ++ after) p) (slice_get ((before ++ other ∷ []) ++ after) p) c t
    (λ row at. place_kept before after own other p row at) none e
term_kept before after own other (Val v) t none e = e
term_kept before after own other (Param n) t none e = e
term_kept before after own other (Var n) t none e = e

module _ (b : Branch) where
  -- the facts with this one between those before it and those after it
  abbrev With : List ℕ → List ℕ → ℕ → List ℕ
  With before after n = (before ++ n ∷ []) ++ after

  rows_with : (before after : List ℕ) (n : ℕ) →
      map (terms_at b) (With before after n) ≡ (map (terms_at b) before ++ terms_at b n ∷ []) ++ map (terms_at b) after
  rows_with [] after n = refl
  rows_with (x ∷ before) after n = ap (λ rows. terms_at b x ∷ rows) (rows_with before after n)

  pub at_most_round : (before after : List ℕ) (n : ℕ) → round_at b n ≤ round_of b (With before after n)
  at_most_round [] after n = omega arith
  at_most_round (x ∷ before) after n = let h : round_at b n ≤ round_of b (With before after n) = at_most_round before after n in omega arith

  round_moves : (before after : List ℕ) (n m : ℕ) → round_at b m ≤ round_at b n → round_of b (With before after m) ≤ round_of b (With before after n)
  round_moves [] after n m less = omega arith
  round_moves (x ∷ before) after n m less =
      let h : round_of b (With before after m) ≤ round_of b (With before after n) = round_moves before after n m less in omega arith

  module _ (n m : ℕ) (alike : AreAlike b n m) where
    terms_alike : AllZip (OneClass b.known) (terms_at b n) (terms_at b m)
    terms_alike =
        let left : terms_at b n ≡ alike.f.terms = ap (λ o. unwrap_or (option_map (λ fact. fact.terms) o) []) alike.left_is in
        let right : terms_at b m ≡ alike.g.terms = ap (λ o. unwrap_or (option_map (λ fact. fact.terms) o) []) alike.right_is in
        subst (λ xs. AllZip (OneClass b.known) xs (terms_at b m)) (sym left) (subst (AllZip (OneClass b.known) alike.f.terms) (sym right) alike.terms)

    pub fact_alike : (side : Side) (table : ℕ) → IsFactOf b side table n → IsFactOf b side table m
    fact_alike side table h =
        let same : alike.f ≡ h.fact = same_Some alike.f h.fact (sym alike.left_is ∙ h.there) in
        record {
          fact = alike.g;
          there = alike.right_is;
          side_is = sym alike.side ∙ (ap (λ (fact : Fact). fact.side) same ∙ h.side_is);
          table_is = sym alike.table ∙ (ap (λ (fact : Fact). fact.table) same ∙ h.table_is);
        }

    rows_alike : (before after : List ℕ) → AreMoved b.known (map (terms_at b) (With before after n)) (map (terms_at b) (With before after m))
    rows_alike [] after = (terms_alike, rows_itself b.known (map (terms_at b) after))
    rows_alike (x ∷ before) after = (row_itself b.known (terms_at b x), rows_alike before after)

    module _ (side : Side) (part : Part) (wanted : Wanted) (from chosen : List ℕ) (facts : List ℕ)
        (h : Completes b side part wanted from (chosen ++ n ∷ []) facts) where
      -- the same facts with the other in its place
      abbrev pub instead : List ℕ
      instead = With chosen h.rest m

      moved : AreMoved b.known (map (terms_at b) facts) (map (terms_at b) instead)
      moved = subst (λ xs. AreMoved b.known (map (terms_at b) xs) (map (terms_at b) instead)) (sym h.facts_are) (rows_alike chosen h.rest)

      pub completes_instead : Completes b side part wanted from (chosen ++ m ∷ []) instead
      completes_instead = record {
        rest = h.rest;
        facts_are = refl;
        facts_of = h.facts_of;
        meets = All-weaker (Under (IsWanted b.known wanted) (map (terms_at b) facts)) (Under (IsWanted b.known wanted) (map (terms_at b) instead))
            (λ atom under. under_moves b.known (map (terms_at b) facts) (map (terms_at b) instead) moved wanted atom under) part.conds h.meets;
      }

      pub head_instead : (row : List (Option Term)) → AllZip (AreTheSame b.known) (row_of b facts part.head) row →
          AllZip (AreTheSame b.known) (row_of b instead part.head) row
      head_instead row is = head_moves b.known (map (terms_at b) facts) (map (terms_at b) instead) moved part.head row is

      head_is_instead : (row : Option (List Term)) → HeadIs b part facts row → HeadIs b part instead row
      head_is_instead None is = tt
      head_is_instead (Some row) is = head_instead (map Some row) is

      pub round_instead : round_at b m ≤ round_at b n → round_of b instead ≤ round_of b facts
      round_instead less = subst (λ xs. round_of b instead ≤ round_of b xs) (sym h.facts_are) (round_moves chosen h.rest n m less)

      module _ (atom : TermAtom) (none : HasEither b atom n → ⊥) where
        operand_instead : (x : Operand) (t : Term) → (Any (λ it. it ≡ t) (terms_at b n) → ⊥) → term_of (map (terms_at b) facts) x ≡ Some t →
            term_of (map (terms_at b) instead) x ≡ Some t
        operand_instead x t free e =
            subst (λ rows. term_of rows x ≡ Some t) (sym (rows_with chosen h.rest m))
            (term_kept (map (terms_at b) chosen) (map (terms_at b) h.rest) (terms_at b n) (terms_at b m) x t free
            (subst (λ rows. term_of rows x ≡ Some t) (ap (map (terms_at b)) h.facts_are ∙ rows_with chosen h.rest n) e))

        pub has_instead : (row : Option (List Term)) → HasAtom b part row atom facts → HasAtom b part row atom instead
        has_instead row has = record { head = head_is_instead row has.head; stands = stands has.stands }
          where
            stands : Any (GivesAtom (map (terms_at b) facts) atom) part.conds → Any (GivesAtom (map (terms_at b) instead) atom) part.conds
            stands (i, cond, below, is, gives) = (
              i,
              cond,
              below,
              is,
              record {
                op = gives.op;
                left = operand_instead cond.left atom.left (λ it. none (inl it)) gives.left;
                right = operand_instead cond.right atom.right (λ it. none (inr it)) gives.right;
              },
            )
