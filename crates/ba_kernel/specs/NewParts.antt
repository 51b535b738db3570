-- What the tests for new steps are made of.
use Rattle.std.specs.Prelude.{◌≡◌, ℕ, ◌+◌, min, Bool, true, false, ◌⊎◌, List, All, Any, Option, Some, None}
use Rattle.std.specs.List.{zip}
use Rattle.ba_model.specs.declared.policy.View.{View}
use Rattle.ba_model.specs.Fit.{PartWithin}
use Rattle.ba_model.specs.declared.query.Part.{Part}
use Rattle.ba_model.specs.declared.query.Query.{Query}
use Rattle.ba_model.specs.declared.schema.Link.{Link}
use Rattle.ba_model.specs.declared.schema.Rule.{Rule}
use Rattle.ba_facts.specs.Known.{Known}
use Rattle.ba_facts.specs.Shown.{Refutes, Shows}
use Rattle.ba_facts.specs.declared.branch.Branch.{Branch}
use Rattle.ba_facts.specs.declared.term.Fact.{Fact}
use Rattle.ba_facts.specs.declared.term.Side.{Side}
use Rattle.ba_facts.specs.declared.term.Side.TheVariants.{One, Two}
use Rattle.ba_facts.specs.declared.term.Term.{Term}
use Rattle.ba_facts.specs.declared.term.TermAtom.{TermAtom}
use Rattle.ba_facts.specs.Matches.{IsLiveAtom, round_of}
use Rattle.ba_kernel.specs.Steps.{AreEqualIn, EntryIsMet, IsOfNewKind, IsRound, IsRoundOfEntry, IsSplitRound, SplitTells, Tells}
use Rattle.ba_kernel.specs.declared.problem.Problem.{Problem}
use Rattle.ba_kernel.specs.declared.step.Step.{Step}

-- the other fact is of the link's target table on the fact's side, and is shown equal to it in the
-- link's columns
pub record IsTargetOf (b : Branch) (f : Fact) (it : Link) (other : Fact) : Type 0 where
  pub side : other.side ≡ f.side
  pub table : other.table ≡ it.target
  pub equal : All (AreEqualIn b f.terms other.terms) (zip it.columns it.target_columns)

-- ---- rounds

-- the round of a step that tells the branch what it doesn't have yet
abbrev pub IsToldRound : Problem → Branch → Step → Option ℕ → Type 0
IsToldRound p b step None = ¬ (Tells p b step)
IsToldRound p b step (Some round) = Tells p b step × IsRound p b step round

abbrev pub IsToldEntry : Problem → Branch → ℕ → Option ℕ → Type 0
IsToldEntry p b entry None = EntryIsMet p b entry
IsToldEntry p b entry (Some round) = (¬ (EntryIsMet p b entry)) × IsRoundOfEntry p entry round

abbrev pub IsToldSplit : Problem → Branch → TermAtom → Option ℕ → Type 0
IsToldSplit p b atom None = ¬ (SplitTells p b atom)
IsToldSplit p b atom (Some round) = SplitTells p b atom × IsSplitRound p b atom round

-- one more than the greatest round of the facts, unless it is met
abbrev pub RoundUnless : Bool → Branch → List ℕ → Option ℕ → Type 0
RoundUnless true b facts round = round ≡ None
RoundUnless false b facts round = round ≡ Some (1 + round_of b facts)

-- ---- splits

-- neither shown nor refuted, and of a kind that live mappings leave open
pub record MayTell (k : Known) (atom : TermAtom) : Type 0 where
  pub kind : IsOfNewKind k atom.op atom.left atom.right
  pub not_shown : ¬ (Shows k atom)
  pub not_refuted : ¬ (Refutes k atom)

-- the lesser of the two, if there are both
abbrev pub least_of : Option ℕ → Option ℕ → Option ℕ
least_of None n = n
least_of (Some m) None = Some m
least_of (Some m) (Some n) = Some (min m n)

-- the atom is one of a live mapping to these facts: of one of the parts to the side, with the row
-- for its head if there is one
abbrev pub IsAtomOfParts :
    Branch → Side → List Part → Option (List Term) → TermAtom → List ℕ → Type 0
IsAtomOfParts b side parts row atom facts =
    Any (λ part. IsLiveAtom b side part row atom facts) parts

-- no part of the query is past the limits
abbrev pub IsWithin : Query → Type 0
IsWithin q = All PartWithin q.parts

-- of one of the views to side One
abbrev pub IsAtomOfViews : Branch → List View → TermAtom → List ℕ → Type 0
IsAtomOfViews b views atom facts =
    Any (λ view. IsAtomOfParts b One view.query.parts None atom facts) views

-- of one of the parts to either side
abbrev pub IsAtomOfSides : Branch → List Part → TermAtom → List ℕ → Type 0
IsAtomOfSides b parts atom facts =
    IsAtomOfParts b One parts None atom facts ⊎ IsAtomOfParts b Two parts None atom facts

-- of the left query of one of the rules to either side
abbrev pub IsAtomOfRules : Branch → List Rule → TermAtom → List ℕ → Type 0
IsAtomOfRules b rules atom facts = Any (λ rule. IsAtomOfSides b rule.left.parts atom facts) rules
