-- The splits over facts that are alike to chosen ones.
use Rattle.std.specs.Prelude.{◌≡◌, ◌≢◌, ◌⊎◌, ℕ, ◌<◌, List, [], ◌∷◌, ◌++◌, All, Any, Contains, Option, Some, map}
use Rattle.std.specs.List.{AllZip}
use Rattle.ba_model.specs.declared.query.Atom.{Atom}
use Rattle.ba_model.specs.declared.query.Op.{Op}
use Rattle.ba_model.specs.declared.query.Op.TheVariants.{Eq}
use Rattle.ba_model.specs.declared.query.Operand.{Operand}
use Rattle.ba_model.specs.declared.query.Operand.TheVariants.{Col, Val, Param, Var}
use Rattle.ba_model.specs.declared.query.Part.{Part}
use Rattle.ba_facts.specs.Known.{Known}
use Rattle.ba_facts.specs.Matches.{GivesAtom, HeadIs, IsFactOf, IsLive, terms_at}
use Rattle.ba_facts.specs.Walks.{Completes, HasAtomFrom}
use Rattle.ba_facts.specs.Shown.{RefutesOf, ShowsOf}
use Rattle.ba_facts.specs.declared.branch.Branch.{Branch}
use Rattle.ba_facts.specs.declared.term.Fact.{Fact}
use Rattle.ba_facts.specs.declared.walk.Walk.{Walk}
use Rattle.ba_facts.specs.declared.walk.Wanted.TheVariants.{Live, Shown}
use Rattle.ba_facts.specs.declared.term.Side.{Side}
use Rattle.ba_facts.specs.declared.term.Side.TheVariants.{Two}
use Rattle.ba_facts.specs.declared.term.Term.{Term}
use Rattle.ba_facts.specs.declared.term.TermAtom.{TermAtom}
use Rattle.ba_kernel.specs.declared.step.Step.{Step}
use Rattle.std.specs.Option.{option_copied}
use Rattle.ba_facts.specs.Alike.{AreAlike}
use Rattle.ba_instant.specs.Offers.{Among, IsSplitBy, IsSplitOfPart}
use Rattle.ba_instant.specs.declared.reach.Reach.{Reach}
use Rattle.ba_instant.specs.declared.spread.Spread.{Spread}

-- ---- lists of facts

-- one number, or two facts that are alike
abbrev pub IsLike : Branch → ℕ → ℕ → Type 0
IsLike b n m = (n ≡ m) ⊎ AreAlike b n m

-- the fact itself and, of the others below the end, those that are alike to it
pub record AreLikesBelow (b : Branch) (fact : ℕ) (likes : List ℕ) (end : ℕ) : Type 0 where
  pub sound : All (IsLike b fact) likes
  pub itself : Contains likes fact
  pub others : (n : ℕ) → n < end → AreAlike b fact n → Contains likes n

-- exactly the fact itself and those that are alike to it
pub record AreLikes (b : Branch) (fact : ℕ) (likes : List ℕ) : Type 0 where
  pub sound : All (IsLike b fact) likes
  pub complete : (n : ℕ) → IsLike b fact n → Contains likes n

-- ---- a part's live mappings, but for facts that are alike

-- of such a mapping with the row for its head the first facts are like the chosen ones, the others
-- of these tables; and it has the atom
pub record IsSpreadAtom (b : Branch) (side : Side) (part : Part) (row : Option (List Term))
    (from chosen : List ℕ) (atom : TermAtom) (facts : List ℕ) : Type 0 where
  pub front : List ℕ
  pub like : AllZip (IsLike b) chosen front
  pub has : HasAtomFrom b side part Live row atom from front facts

abbrev pub IsSpread : Branch → ℕ → Side → Part → Option (List Term) → List ℕ → List ℕ → Step →
    Type 0
IsSpread b number side part row from chosen step =
    IsSplitBy (IsSpreadAtom b side part row from chosen) number step

-- the chosen facts show or leave open each atom of the part, and give the row for its head
pub record IsLiveWith (b : Branch) (part : Part) (row : Option (List Term)) (chosen : List ℕ)
    : Type 0 where
  pub live : All (IsLive b.known (map (terms_at b) chosen)) part.conds
  pub head : HeadIs b part chosen row

-- ---- so it is of a spread

-- its splits, and those of the mappings of which the first facts are like the chosen ones
abbrev pub IsSplitOf : Spread → Step → Type 0
IsSplitOf it =
    IsSplitOfPart it.scan.now.branch.now it.scan.now.number it.side (option_copied it.row)
    it.part.now

abbrev pub IsSplitFrom : Spread → List ℕ → List ℕ → Step → Type 0
IsSplitFrom it from chosen =
    IsSpread it.scan.now.branch.now it.scan.now.number it.side it.part.now (option_copied it.row)
    from chosen

-- of these, those with one of these facts for the next table
abbrev pub IsSplitAmong : Spread → List ℕ → List ℕ → List ℕ → Step → Type 0
IsSplitAmong it = Among it.scan.now.branch.now it.side (IsSplitFrom it)

-- ---- an atom over facts that are like the chosen ones

pub record IsLikeAtom (b : Branch) (chosen : List ℕ) (cond : Atom) (atom : TermAtom)
    (facts : List ℕ) : Type 0 where
  pub like : AllZip (IsLike b) chosen facts
  pub gives : GivesAtom (map (terms_at b) facts) atom cond

-- by what the atom is over such facts, or one of the atoms
abbrev pub IsLikeSplit : Branch → ℕ → List ℕ → Atom → Step → Type 0
IsLikeSplit b number chosen cond step = IsSplitBy (IsLikeAtom b chosen cond) number step

abbrev pub IsLikeSplits : Branch → ℕ → List ℕ → List Atom → Step → Type 0
IsLikeSplits b number chosen conds step =
    IsSplitBy (λ atom facts. Any (λ cond. IsLikeAtom b chosen cond atom facts) conds) number step

-- the facts that are done, and facts that are like those left
pub record IsOverAtom (b : Branch) (left done : List ℕ) (cond : Atom) (atom : TermAtom)
    (facts : List ℕ) : Type 0 where
  pub rest : List ℕ
  pub facts_are : facts ≡ done ++ rest
  pub like : AllZip (IsLike b) left rest
  pub gives : GivesAtom (map (terms_at b) facts) atom cond

abbrev pub IsOver : Branch → ℕ → List ℕ → List ℕ → Atom → Step → Type 0
IsOver b number left done cond step = IsSplitBy (IsOverAtom b left done cond) number step

-- no `=`, and neither shown nor refuted
pub record IsOpenOf (k : Known) (op : Op) (a b : Term) : Type 0 where
  pub op_is : op ≢ Eq
  pub not_shown : ¬ (ShowsOf k op a b)
  pub not_refuted : ¬ (RefutesOf k op a b)

-- ---- the choices for a place

-- the operand is a column of the place; one of the atom's is
abbrev pub IsAt : ℕ → Operand → Type 0
IsAt place (Col p column) = p ≡ place
IsAt place (Val v) = ⊥
IsAt place (Param n) = ⊥
IsAt place (Var n) = ⊥

abbrev pub NamesPlace : ℕ → Atom → Type 0
NamesPlace place cond = IsAt place cond.left ⊎ IsAt place cond.right

-- like the fact; and each that is like it is one of these, or any of these will do in its place
pub record AreChoices (b : Branch) (cond : Atom) (place fact : ℕ) (choices : List ℕ) : Type 0 where
  pub sound : All (IsLike b fact) choices
  pub complete : (n : ℕ) → IsLike b fact n →
      Any (λ choice. (choice ≡ n) ⊎ ¬ (NamesPlace place cond)) choices

-- ---- the goal

-- of facts of side Two that show each atom of the part and give the row the first ones are like the
-- chosen ones, the others of these tables
pub record IsReached (b : Branch) (part : Part) (row : List Term) (from chosen facts : List ℕ)
    : Type 0 where
  pub front : List ℕ
  pub like : AllZip (IsLike b) chosen front
  pub completes : Completes b Two part Shown from front facts
  pub head : HeadIs b part facts (Some row)

-- some fact of side Two is one of the table
unfoldable pub HasFact : Branch → ℕ → Type 0
HasFact b table = Any (λ (fact : Fact). (fact.side ≡ Two) × (fact.table ≡ table)) b.facts

-- ---- so it is of what is reached

-- no facts are, of which the first are like the chosen ones, the others of these tables
abbrev pub NoneReach : Reach → List ℕ → List ℕ → Type 0
NoneReach it from chosen =
    (facts : List ℕ) → IsReached it.branch.now it.part.now it.row.now from chosen facts → ⊥

-- none are with one of these facts for the next table
abbrev pub NoneReachAmong : Reach → List ℕ → List ℕ → List ℕ → Type 0
NoneReachAmong it [] chosen numbers = NoneReach it [] chosen
NoneReachAmong it (table ∷ rest) chosen numbers =
    (fact : ℕ) → Contains numbers fact → IsFactOf it.branch.now Two table fact →
    NoneReach it rest (chosen ++ fact ∷ [])

-- the walk is over the branch's facts of side Two that show the part's atoms
pub record IsWalkFor (it : Reach) (walk : Walk) : Type 0 where
  pub branch_is : walk.branch.now ≡ it.branch.now
  pub part_is : walk.part.now ≡ it.part.now
  pub wanted_is : walk.wanted ≡ Shown
