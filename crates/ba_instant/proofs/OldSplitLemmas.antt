-- After a quiet growth a split by facts that were there is new only if it was before, and of the same round.
use Rattle.std.proofs.Common.{◌≡◌, ◌∙◌, ℕ, ◌+◌, ◌<◌, ◌≤◌, List, ◌++◌, inl, inr, length, map, ap, sym, subst, arith}
use Rattle.std.proofs.lemmas.Option.{slice_get_cases}
use Rattle.std.specs.List.{Any}
use Rattle.std.specs.Option.{option_map}
use Rattle.std.specs.Prelude.{Option, Some, None, slice_get}
use Rattle.ba_model.specs.declared.query.Atom.{Atom}
use Rattle.ba_model.specs.declared.query.Op.{Op}
use Rattle.ba_model.specs.declared.query.Op.TheVariants.{Eq, Ne, Lt, Le, IsNull, NotNull}
use Rattle.ba_model.specs.declared.query.Operand.{Operand}
use Rattle.ba_model.specs.declared.query.Part.{Part}
use Rattle.ba_model.specs.declared.schema.Kind.{Kind}
use Rattle.ba_facts.proofs.Elements.{get_append_old}
use Rattle.ba_facts.specs.Known.{Known}
use Rattle.ba_facts.specs.Knowing.{IsThere}
use Rattle.ba_facts.specs.Laws.{kind_of_term}
use Rattle.ba_facts.specs.Matches.{GivesAtom, IsLiveAtom, round_of, term_of, terms_at}
use Rattle.ba_facts.specs.declared.branch.Branch.{Branch}
use Rattle.ba_facts.specs.declared.term.Side.{Side}
use Rattle.ba_facts.specs.declared.term.Side.TheVariants.{One, Two}
use Rattle.ba_facts.specs.declared.term.Sort.{Sort}
use Rattle.ba_facts.specs.declared.term.Term.{Term}
use Rattle.ba_facts.specs.declared.term.Term.TheVariants.{Unknown, Val, Param, Var}
use Rattle.ba_facts.specs.declared.term.TermAtom.{TermAtom}
use Rattle.ba_kernel.proofs.TidyLemmas.{term_there}
use Rattle.ba_kernel.specs.News.{IsNewOn}
use Rattle.ba_kernel.specs.Steps.{IsCandidate, IsOfNewKind, IsRound, IsSplitRound, MayBeSplit, SplitPasses, SplitTells, of_goal, of_rule, of_view}
use Rattle.ba_kernel.specs.declared.problem.Problem.{Problem}
use Rattle.ba_kernel.specs.declared.step.Step.TheVariants as steps
use Rattle.ba_instant.proofs.CarryLemmas.{Carries}
use Rattle.ba_instant.proofs.GrowthLemmas.{known_before, still_known}
use Rattle.ba_instant.proofs.OldFactLemmas.{AreKept, are_kept, round_kept}
use Rattle.ba_instant.proofs.OldMappingLemmas.{live_atom_back, live_atom_on}
use Rattle.ba_instant.proofs.OldTermLemmas.{neither_back, refutes_on, shows_on}
use Rattle.ba_instant.specs.Windows.{AreLate, IsGrounded, IsQuietGrowth}

-- a list's items stay where more are added
pub get_within_front : {X : Type 0} (xs ys : List X) (n : ℕ) → n < length xs → slice_get (xs ++ ys) n ≡ slice_get xs n
get_within_front xs ys n below = elim (slice_get_cases xs n).1 [
  | inl h ↦ get_append_old xs ys n h.0 h.2 ∙ sym h.2
  | inr h ↦ absurd (omega (arith, below, h.0))
]

module _ (p : Problem) (b c : Branch) (grounded : IsGrounded b) (growth : IsQuietGrowth b c) where
  abbrev k : Known
  k = b.known

  abbrev l : Known
  l = c.known

  abbrev on : Carries b.known c.known (λ t. t)
  on = still_known b c growth

  abbrev back : Carries c.known b.known growth.stands
  back = known_before b c grounded growth

  there : (facts : List ℕ) (x : Operand) (t : Term) → term_of (map (terms_at b) facts) x ≡ Some t → IsThere b.known t
  there facts x t e = term_there b facts x t (record { facts = grounded.facts }) e

  -- ---- the atom's terms were there

  gives_there : (facts : List ℕ) (atom : TermAtom) (conds : List Atom) → Any (GivesAtom (map (terms_at b) facts) atom) conds → IsThere k atom.left × IsThere k atom.right
  gives_there facts atom conds (n, cond, below, is, gives) = (there facts cond.left atom.left gives.left, there facts cond.right atom.right gives.right)

  candidate_there : (atom : TermAtom) (facts : List ℕ) → IsCandidate p b atom facts → IsThere k atom.left × IsThere k atom.right
  candidate_there atom facts (of_view {part = part} has of h) = gives_there facts atom part.conds h.stands
  candidate_there atom facts (of_goal {part = part} of h) = gives_there facts atom part.conds h.stands
  candidate_there atom facts (of_rule {part = part} side has of h) = gives_there facts atom part.conds h.stands

  kept_of : (side : Side) (part : Part) (row : Option (List Term)) (atom : TermAtom) (facts : List ℕ) → IsLiveAtom b side part row atom facts → AreKept b c facts
  kept_of side part row atom facts h = are_kept b c growth.facts growth.facts_are side part.from facts h.live.facts_of

  candidate_kept : (atom : TermAtom) (facts : List ℕ) → IsCandidate p b atom facts → AreKept b c facts
  candidate_kept atom facts (of_view {part = part} has of h) = kept_of One part None atom facts h
  candidate_kept atom facts (of_goal {part = part} of h) = kept_of Two part (Some b.goal) atom facts h
  candidate_kept atom facts (of_rule {part = part} side has of h) = kept_of side part None atom facts h

  -- ---- candidates

  candidate_on : (atom : TermAtom) (facts : List ℕ) → IsCandidate p b atom facts → IsCandidate p c atom facts
  candidate_on atom facts (of_view {part = part} has of h) = of_view has of (live_atom_on b c grounded growth there One part None atom facts h)
  candidate_on atom facts (of_goal {part = part} of h) =
      of_goal of
      (subst (λ goal. IsLiveAtom c Two part (Some goal) atom facts) (sym growth.goal) (live_atom_on b c grounded growth there Two part (Some b.goal) atom facts h))
  candidate_on atom facts (of_rule {part = part} side has of h) = of_rule side has of (live_atom_on b c grounded growth there side part None atom facts h)

  -- ---- the atom

  kind_back : (t : Term) (kind : Kind) → IsThere k t → kind_of_term c t ≡ Some kind → kind_of_term b t ≡ Some kind
  kind_back (Unknown n) kind inside e =
      let was = ap (λ us. slice_get us n) growth.unknowns_are ∙ get_within_front k.unknowns growth.unknowns n inside in
      sym (ap (λ (o : Option Sort). option_map (λ sort. sort.kind) o) was) ∙ e
  kind_back (Val v) kind inside e = e
  kind_back (Param n) kind inside e = subst (λ ks. slice_get ks n ≡ Some kind) growth.params e
  kind_back (Var n) kind inside e = subst (λ ks. slice_get ks n ≡ Some kind) growth.vars e

  may_back : (op : Op) (x y : Term) → IsThere k x → IsThere k y → MayBeSplit c op x y → MayBeSplit b op x y
  may_back Eq x y first second h = neither_back k l (IsThere k) growth.stands growth.itself on back x y first second h
  may_back Ne x y first second h = neither_back k l (IsThere k) growth.stands growth.itself on back x y first second h
  may_back Lt x y first second h = neither_back k l (IsThere k) growth.stands growth.itself on back x y first second h
  may_back Le x y first second h = neither_back k l (IsThere k) growth.stands growth.itself on back x y first second h
  may_back IsNull x y first second h = h
  may_back NotNull x y first second h = h

  fits_back : (atom : TermAtom) → IsThere k atom.left × IsThere k atom.right → SplitPasses c atom → SplitPasses b atom
  fits_back atom both h =
      record {
        kind = h.kind;
        sides = record { left = kind_back atom.left h.kind both.0 h.sides.left; right = kind_back atom.right h.kind both.1 h.sides.right };
        op = h.op;
        may = may_back atom.op atom.left atom.right both.0 both.1 h.may;
      }

  new_kind_back : (op : Op) (x y : Term) → IsThere k x → IsThere k y → IsOfNewKind l op x y → IsOfNewKind k op x y
  new_kind_back Eq x y first second h = absurd h
  new_kind_back Ne x y first second h = neither_back k l (IsThere k) growth.stands growth.itself on back x y first second h
  new_kind_back Lt x y first second h = neither_back k l (IsThere k) growth.stands growth.itself on back x y first second h
  new_kind_back Le x y first second h = neither_back k l (IsThere k) growth.stands growth.itself on back x y first second h
  new_kind_back IsNull x y first second h = tt
  new_kind_back NotNull x y first second h = tt

  tells_back : (atom : TermAtom) (facts : List ℕ) → IsCandidate p b atom facts → SplitTells p c atom → SplitTells p b atom
  tells_back atom facts candidate h =
      let both = candidate_there atom facts candidate in
      record {
        not_shown = λ s. h.not_shown (shows_on k l (IsThere k) growth.stands growth.itself on back atom.op atom.left atom.right s);
        not_refuted = λ s. h.not_refuted (refutes_on k l (IsThere k) growth.stands growth.itself on back atom.op atom.left atom.right s);
        kind = new_kind_back atom.op atom.left atom.right both.0 both.1 h.kind;
        facts = facts;
        candidate = candidate;
      }

  module _ (bound : ℕ) (late : AreLate bound growth.facts) where
    candidate_back : (atom : TermAtom) (facts : List ℕ) → round_of c facts < bound → IsCandidate p c atom facts → IsCandidate p b atom facts
    candidate_back atom facts below (of_view {part = part} has of h) = of_view has of (live_atom_back b c grounded growth there bound late One part None atom facts tt below h)
    candidate_back atom facts below (of_goal {part = part} of h) =
        of_goal of
        (live_atom_back b c grounded growth there bound late Two part (Some b.goal) atom facts grounded.goal below
        (subst (λ goal. IsLiveAtom c Two part (Some goal) atom facts) growth.goal h))
    candidate_back atom facts below (of_rule {part = part} side has of h) =
        of_rule side has of (live_atom_back b c grounded growth there bound late side part None atom facts tt below h)

    round_back : (atom : TermAtom) (round : ℕ) (h : IsSplitRound p c atom round) → IsCandidate p b atom h.facts → IsSplitRound p b atom round
    round_back atom round h candidate =
        let same = round_kept b c h.facts (candidate_kept atom h.facts candidate) in
        record {
          facts = h.facts;
          candidate = candidate;
          round_is = h.round_is ∙ ap (λ r. 1 + r) same;
          least = λ others it.
              let least = h.least others (candidate_on atom others it) in
              let its_same = round_kept b c others (candidate_kept atom others it) in
              omega (arith, least, same, its_same);
        }

    pub split_before : (number other : ℕ) (atom : TermAtom) (round : ℕ) → round ≤ bound → IsNewOn p c (steps.Split other atom) → IsRound p c (steps.Split other atom) round →
        IsNewOn p b (steps.Split number atom) × IsRound p b (steps.Split number atom) round
    split_before number other atom round below new round_is =
        let low : round_of c round_is.facts < bound = omega (arith, below, round_is.round_is) in
        let candidate = candidate_back atom round_is.facts low round_is.candidate in (
          record {
            passes = fits_back atom (candidate_there atom round_is.facts candidate) new.passes;
            tells = tells_back atom round_is.facts candidate new.tells;
          },
          round_back atom round round_is candidate,
        )
