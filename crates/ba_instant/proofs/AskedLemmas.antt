-- Facts of a part that leaves those with moved terms have none where the part reads them, if its equations hold of them and they give the row that is asked for.
use Rattle.std.proofs.Common.{◌≡◌, ◌∙◌, ℕ, zero, suc, List, [], ◌∷◌, inl, inr, map, ap, sym, subst}
use Rattle.std.proofs.lemmas.List.Elements.{All-cons, All-contains, All-nil, All-weaker}
use Rattle.std.proofs.lemmas.Option.{same_Some}
use Rattle.std.specs.List.{All, AllZip, zip}
use Rattle.std.specs.Prelude.{Option, Some, slice_get}
use Rattle.ba_model.specs.declared.query.Atom.{Atom}
use Rattle.ba_model.specs.declared.query.Op.{Op}
use Rattle.ba_model.specs.declared.query.Op.TheVariants.{Eq}
use Rattle.ba_model.specs.declared.query.Operand.{Operand}
use Rattle.ba_model.specs.declared.query.Part.{Part}
use Rattle.ba_facts.specs.Known.{Known}
use Rattle.ba_facts.specs.Matches.{AreTheSame, IsLive, IsLiveOf, IsMapping, IsShown, Under, term_of, terms_at}
use Rattle.ba_facts.specs.Shown.{ShowsOf, TheSame}
use Rattle.ba_facts.specs.declared.branch.Branch.{Branch}
use Rattle.ba_facts.specs.declared.term.Fact.{Fact}
use Rattle.ba_facts.specs.declared.term.Side.TheVariants.{Two}
use Rattle.ba_facts.specs.declared.term.Term.{Term}
use Rattle.ba_kernel.proofs.StepFits.{All-at}
use Rattle.ba_kernel.specs.declared.problem.Problem.{Problem}
use Rattle.ba_instant.proofs.OldTermLemmas.{under}
use Rattle.ba_instant.proofs.UnmovedLemmas.{row_read, term_found}
use Rattle.ba_instant.specs.QuietKeys.{AreApart, FactStays, IsEquation, IsFree, KeepsOut, LeavesFact, LeavesRow, ReadsUnmoved, stand_in, term_at}
use Rattle.ba_instant.specs.declared.moves.Move.{Move}

-- the columns of the head over the rows are those of the row that is asked for
pub columns_same : (k : Known) (f : Operand → Option Term) (head : List Operand) (asked : List Term) → AllZip (AreTheSame k) (map f head) (map Some asked) →
    All (λ (two : Operand × Term). AreTheSame k (f two.0) (Some two.1)) (zip head asked)
columns_same k f [] [] h = All-nil (λ (two : Operand × Term). AreTheSame k (f two.0) (Some two.1))
columns_same k f [] (t ∷ asked) h = absurd h
columns_same k f (x ∷ head) [] h = absurd h
columns_same k f (x ∷ head) (t ∷ asked) h =
    All-cons (λ (two : Operand × Term). AreTheSame k (f two.0) (Some two.1)) (x, t) (zip head asked) h.0 (columns_same k f head asked h.1)

pub none_asked : (P : Operand × Term → Type 0) (head : List Operand) → All P (zip head [])
none_asked P [] = All-nil P
none_asked P (x ∷ head) = All-nil P

-- an equation holds of the rows
abbrev pub Equates : Known → List (List Term) → Atom → Type 0
Equates k rows atom = IsEquation atom → Under (λ (op : Op) (x y : Term). TheSame k x y) rows atom

module _ (k : Known) (rows : List (List Term)) (conds : List Atom) where
  shown_same : (op : Op) (x y : Term) → op ≡ Eq → ShowsOf k op x y → TheSame k x y
  shown_same op x y e h = let equal : ShowsOf k Eq x y = subst (λ (o : Op). ShowsOf k o x y) e h in equal.same

  live_same : (op : Op) (x y : Term) → op ≡ Eq → IsLiveOf k op x y → TheSame k x y
  live_same op x y e h = let equal : IsLiveOf k Eq x y = subst (λ (o : Op). IsLiveOf k o x y) e h in equal.same

  pub shown_equates : All (IsShown k rows) conds → All (Equates k rows) conds
  shown_equates h =
      All-weaker (IsShown k rows) (Equates k rows) (λ atom it equation. under rows atom (λ x y _ _. shown_same atom.op x y equation) it) conds h

  pub live_equates : All (IsLive k rows) conds → All (Equates k rows) conds
  live_equates h =
      All-weaker (IsLive k rows) (Equates k rows) (λ atom it equation. under rows atom (λ x y _ _. live_same atom.op x y equation) it) conds h

-- the fact of a mapping whose row is at the place
record FactAt (p : Problem) (b : Branch) (moves : List Move) (from : List ℕ) (place : ℕ) (row : List Term) : Type 0 where
  fact : Fact
  at : slice_get from place ≡ Some fact.table
  terms : fact.terms ≡ row
  stays : FactStays p b moves fact

module _ (p : Problem) (b : Branch) (moves : List Move) (stay : All (FactStays p b moves) b.facts) where
  fact_at : (from facts : List ℕ) (place : ℕ) (row : List Term) → IsMapping b Two from facts → slice_get (map (terms_at b) facts) place ≡ Some row → FactAt p b moves from place row
  fact_at [] [] place row h e = cc
  fact_at [] (n ∷ facts) place row h e = absurd h
  fact_at (table ∷ from) [] place row h e = absurd h
  fact_at (table ∷ from) (n ∷ facts) zero row h e =
      let it = h.0 in
      let terms_are : terms_at b n ≡ it.fact.terms = cc (it.there) in
      record {
        fact = it.fact;
        at = ap Some (sym it.table_is);
        terms = sym terms_are ∙ same_Some (terms_at b n) row e;
        stays = All-at (FactStays p b moves) b.facts n it.fact stay it.there;
      }
  fact_at (table ∷ from) (n ∷ facts) (suc place) row h e =
      let rest = fact_at from facts place row h.1 e in
      record { fact = rest.fact; at = rest.at; terms = rest.terms; stays = rest.stays }

  module _ (part : Part) (asked : List Term) (leaves : (fact : Fact) → IsFree p b moves fact → LeavesFact b.known moves asked fact part) where
    fact_left : (place : ℕ) (fact : Fact) → slice_get part.from place ≡ Some fact.table → FactStays p b moves fact → LeavesRow b.known moves asked part place fact.terms
    unfolding LeavesFact
    fact_left place fact at (inl unmoved) = inl (row_read moves part place fact.terms unmoved)
    fact_left place fact at (inr free) = leaves fact free place at

    row_left : (facts : List ℕ) (place : ℕ) (row : List Term) → IsMapping b Two part.from facts → slice_get (map (terms_at b) facts) place ≡ Some row →
        LeavesRow b.known moves asked part place row
    row_left facts place row mapping e =
        let it = fact_at part.from facts place row mapping e in
        subst (LeavesRow b.known moves asked part place) it.terms (fact_left place it.fact it.at it.stays)

    -- d is what is known before the step or after it: what is the same there stands for what is the same before
    module _ (d : Known) (to : (x y : Term) → TheSame d x y → TheSame b.known (stand_in moves x) (stand_in moves y)) (facts : List ℕ) (mapping : IsMapping b Two part.from facts)
        (equal : All (Equates d (map (terms_at b) facts)) part.conds)
        (columns : All (λ (two : Operand × Term). AreTheSame d (term_of (map (terms_at b) facts) two.0) (Some two.1)) (zip part.head asked)) where
      abbrev rows : List (List Term)
      rows = map (terms_at b) facts

      not_apart : (x y u v : Term) → x ≡ u → y ≡ v → TheSame d u v → (TheSame b.known (stand_in moves x) (stand_in moves y) → ⊥) → ⊥
      not_apart x y u v left right same apart =
          apart (subst (λ t. TheSame b.known (stand_in moves t) (stand_in moves y)) (sym left) (subst (λ t. TheSame b.known (stand_in moves u) (stand_in moves t)) (sym right) (to u v same)))

      atom_holds : (place : ℕ) (row : List Term) (atom : Atom) → slice_get rows place ≡ Some row → Under (λ (op : Op) (x y : Term). TheSame d x y) rows atom →
          AreApart b.known moves (term_at place row atom.left) (term_at place row atom.right) → ⊥
      atom_holds place row atom at it h =
          let left : h.left ≡ it.left = same_Some h.left it.left (sym (term_found rows place row atom.left h.left at h.left_is) ∙ it.left_is) in
          let right : h.right ≡ it.right = same_Some h.right it.right (sym (term_found rows place row atom.right h.right at h.right_is) ∙ it.right_is) in
          not_apart h.left h.right it.left it.right left right it.holds h.apart

      column_holds : (place : ℕ) (row : List Term) (x : Operand) (t : Term) → slice_get rows place ≡ Some row → AreTheSame d (term_of rows x) (Some t) →
          AreApart b.known moves (term_at place row x) (Some t) → ⊥
      column_holds place row x t at it h =
          let left : h.left ≡ it.left = same_Some h.left it.left (sym (term_found rows place row x h.left at h.left_is) ∙ it.left_is) in
          let right : h.right ≡ it.right = same_Some h.right it.right (sym h.right_is ∙ it.right_is) in
          not_apart h.left h.right it.left it.right left right it.same h.apart

      not_out : (place : ℕ) (row : List Term) → slice_get rows place ≡ Some row → KeepsOut b.known moves asked part place row → ⊥
      not_out place row at (inl (n, atom, below, is, (equation, apart))) =
          atom_holds place row atom at (All-contains (Equates d rows) part.conds atom equal (n, below, is) equation) apart
      not_out place row at (inr (n, two, below, is, apart)) =
          column_holds place row two.0 two.1 at
          (All-contains (λ (it : Operand × Term). AreTheSame d (term_of rows it.0) (Some it.1)) (zip part.head asked) two columns (n, below, is)) apart

      pub reads_unmoved : (place : ℕ) (row : List Term) → slice_get rows place ≡ Some row → ReadsUnmoved moves part place row
      reads_unmoved place row at = elim (row_left facts place row mapping at) as (λ _. ReadsUnmoved moves part place row) [
        | inl reads ↦ reads
        | inr out ↦ absurd (not_out place row at out)
      ]
