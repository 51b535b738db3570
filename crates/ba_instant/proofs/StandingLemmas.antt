-- Mappings that give an atom have facts with its unknowns.
use Rattle.std.proofs.Common.{◌≡◌, ◌∙◌, ℕ, zero, suc, ◌+◌, ◌≤◌, List, [], ◌∷◌, map, Option, Some, None, refl, sym, ap, subst, arith}
use Rattle.std.proofs.lemmas.Option.{slice_get-get_or}
use Rattle.std.specs.List.{Any}
use Rattle.std.specs.Prelude.{option_map, slice_get, unwrap_or}
use Rattle.ba_facts.specs.Laid.{IsHolder, IsTermOf}
use Rattle.ba_facts.specs.Matches.{GivesAtom, round_of, term_of, terms_at}
use Rattle.ba_facts.specs.Walks.{round_at}
use Rattle.ba_facts.specs.declared.branch.Branch.{Branch}
use Rattle.ba_facts.specs.declared.term.Fact.{Fact}
use Rattle.ba_facts.specs.declared.term.Term.{Term}
use Rattle.ba_facts.specs.declared.term.Term.TheVariants.{Unknown}
use Rattle.ba_facts.specs.declared.term.TermAtom.{TermAtom}
use Rattle.ba_instant.specs.Offers.{fact_round}
use Rattle.ba_kernel.proofs.StepFits.{Contains-at}
use Rattle.ba_kernel.specs.Steps.{IsCandidate, IsSplitRound, of_goal, of_rule, of_view}
use Rattle.ba_kernel.specs.declared.problem.Problem.{Problem}
use Rattle.ba_model.specs.declared.query.Atom.{Atom}
use Rattle.ba_model.specs.declared.query.Operand.{Operand}
use Rattle.ba_model.specs.declared.query.Operand.TheVariants.{Col, Val, Param, Var}

any_at : {X : Type 0} (P : X → Type 0) (xs : List X) (n : ℕ) (x : X) → slice_get xs n ≡ Some x → P x → Any P xs
any_at P xs n x there p = let h = Contains-at xs n x there in (h.0, x, h.1, h.2, p)

-- no fact that has the unknown is of an earlier round
abbrev pub IsBeforeNone : Branch → ℕ → ℕ → Type 0
IsBeforeNone b n least = (fact : ℕ) → Any (λ term. term ≡ Unknown n) (terms_at b fact) → least ≤ fact_round b fact

-- the terms of a number without a fact are none
none_has : (P : Term → Type 0) → Any P [] → ⊥
none_has P (k, x, below, at, p) = omega (arith, below)

-- a fact that has the unknown among its terms is its holder
is_held : (b : Branch) (n fact : ℕ) → Any (λ term. term ≡ Unknown n) (terms_at b fact) → (found : Option Fact) → slice_get b.facts fact ≡ found →
    IsTermOf b.facts n fact
is_held b n fact h None is =
    let gone : terms_at b fact ≡ [] = ap (λ found. unwrap_or (option_map (λ it. it.terms) found) []) is in
    absurd (none_has (λ term. term ≡ Unknown n) (subst (Any (λ term. term ≡ Unknown n)) gone h))
is_held b n fact h (Some it) is =
    let same : terms_at b fact ≡ it.terms = ap (λ found. unwrap_or (option_map (λ it. it.terms) found) []) is in
    let (k, term, below, at, e) = subst (Any (λ term. term ≡ Unknown n)) same h in
    record { fact = it; there = is; column = k; has = slice_get-get_or it.terms k term below ∙ ap Some (at ∙ e) }

module _ (b : Branch) (n : ℕ) (holder : Option ℕ) (exact : IsHolder b.facts n holder) where
  -- the holder's round
  pub held_round : (number : ℕ) → holder ≡ Some number → (round : ℕ) → round ≡ round_at b number → IsBeforeNone b n round
  held_round number is round round_is fact h =
      let other : Some number ≡ Some fact = sym is ∙ (exact fact).1 (is_held b n fact h (slice_get b.facts fact) refl) in
      let same : number ≡ fact = cc other in
      let e : round ≡ fact_round b fact = round_is ∙ ap (fact_round b) same in
      omega (arith, e)

  -- none has it
  pub none_holds : (least : ℕ) → holder ≡ None → IsBeforeNone b n least
  none_holds least is fact h =
      let other : None ≡ Some fact = sym is ∙ (exact fact).1 (is_held b n fact h (slice_get b.facts fact) refl) in
      absurd (cc other)

module _ (b : Branch) (n least : ℕ) (before : IsBeforeNone b n least) where
  column_round : (facts : List ℕ) (place column : ℕ) → term_of (map (terms_at b) facts) (Col place column) ≡ Some (Unknown n) → least ≤ round_of b facts
  column_round [] place column e = absurd (cc)
  column_round (m ∷ facts) zero column e =
      let here = before m (any_at (λ term. term ≡ Unknown n) (terms_at b m) column (Unknown n) e refl) in
      omega (arith, here)
  column_round (m ∷ facts) (suc place) column e =
      let rest = column_round facts place column e in
      omega (arith, rest)

  operand_round : (facts : List ℕ) (operand : Operand) → term_of (map (terms_at b) facts) operand ≡ Some (Unknown n) → least ≤ round_of b facts
  operand_round facts (Col place column) e = column_round facts place column e
  operand_round facts (Val v) e = absurd (cc)
  operand_round facts (Param m) e = absurd (cc)
  operand_round facts (Var m) e = absurd (cc)

-- the term is the unknown
pub unknown_stands : (b : Branch) (n least : ℕ) (term : Term) → IsBeforeNone b n least → term ≡ Unknown n → (facts : List ℕ) (operand : Operand)
    → term_of (map (terms_at b) facts) operand ≡ Some term → least ≤ round_of b facts
unknown_stands b n least term before is facts operand e =
    operand_round b n least before facts operand (subst (λ t. term_of (map (terms_at b) facts) operand ≡ Some t) is e)

-- the atom's round is past that of such facts
pub split_past : (p : Problem) (b : Branch) (atom : TermAtom) (round least : ℕ) → ((facts : List ℕ) (cond : Atom) → GivesAtom (map (terms_at b) facts) atom cond → least ≤ round_of b facts)
    → IsSplitRound p b atom round → least + 1 ≤ round
split_past p b atom round least bound is =
    let h = past is.facts is.candidate in
    let e = is.round_is in
    omega (arith, h, e)
  where
    past : (facts : List ℕ) → IsCandidate p b atom facts → least ≤ round_of b facts
    past facts (of_view view part live) = let (k, cond, below, at, gives) = live.stands in bound facts cond gives
    past facts (of_goal part live) = let (k, cond, below, at, gives) = live.stands in bound facts cond gives
    past facts (of_rule side rule part live) = let (k, cond, below, at, gives) = live.stands in bound facts cond gives
