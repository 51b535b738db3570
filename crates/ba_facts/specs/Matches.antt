-- The mappings of a query's part to the facts of a branch.
use Rattle.std.specs.Prelude.{◌≡◌, ℕ, ◌<◌, ◌≤◌, List, [], ◌∷◌, All, Any, Contains, map, max, Option, Some, None, slice_get, unwrap_or, option_and_then}
use Rattle.std.specs.Prelude.{option_map}
use Rattle.std.specs.List.{AllZip}
use Rattle.std.specs.List.Sorted.{IsStrictlySortedBy}
use Rattle.std.specs.Ordering.{nat_cmp}
use Rattle.std.specs.Cmp.Lexicographic.{slice_cmp}
use Rattle.ba_model.specs.declared.query.Atom.{Atom}
use Rattle.ba_model.specs.declared.query.Op.{Op}
use Rattle.ba_model.specs.declared.query.Op.TheVariants.{Eq, Ne, Lt, Le, IsNull, NotNull}
use Rattle.ba_model.specs.declared.query.Operand.{Operand}
use Rattle.ba_model.specs.declared.query.Operand.TheVariants as operands
use Rattle.ba_model.specs.declared.query.Part.{Part}
use Rattle.ba_facts.specs.Known.{Known}
use Rattle.ba_facts.specs.Shown.{RefutesOf, ShowsOf, TheSame}
use Rattle.ba_facts.specs.declared.branch.Branch.{Branch}
use Rattle.ba_facts.specs.declared.term.Fact.{Fact}
use Rattle.ba_facts.specs.declared.term.Mapping.{Mapping}
use Rattle.ba_facts.specs.declared.term.Side.{Side}
use Rattle.ba_facts.specs.declared.term.Term.{Term}
use Rattle.ba_facts.specs.declared.term.TermAtom.{TermAtom}
use Rattle.ba_facts.specs.declared.term.Term.TheVariants as terms

-- the terms of the fact of this number
abbrev pub terms_at : Branch → ℕ → List Term
terms_at b n = unwrap_or (option_map (λ fact. fact.terms) (slice_get b.facts n)) []

-- the term that an operand stands for, where each place of a part has the terms of a fact
abbrev pub term_of : List (List Term) → Operand → Option Term
term_of rows (operands.Col place column) = option_and_then (λ row. slice_get row column)
    (slice_get rows place)
term_of rows (operands.Val v) = Some (terms.Val v)
term_of rows (operands.Param n) = Some (terms.Param n)
term_of rows (operands.Var n) = Some (terms.Var n)

-- of the atom's two terms this holds
pub record Under (P : Op → Term → Term → Type 0) (rows : List (List Term))
    (atom : Atom) : Type 0 where
  pub left : Term
  pub right : Term
  pub left_is : term_of rows atom.left ≡ Some left
  pub right_is : term_of rows atom.right ≡ Some right
  pub holds : P atom.op left right

-- `=` must be shown; another atom must not be refuted
abbrev pub IsLiveOf : Known → Op → Term → Term → Type 0
IsLiveOf k Eq a b = ShowsOf k Eq a b
IsLiveOf k Ne a b = ¬ (RefutesOf k Ne a b)
IsLiveOf k Lt a b = ¬ (RefutesOf k Lt a b)
IsLiveOf k Le a b = ¬ (RefutesOf k Le a b)
IsLiveOf k IsNull a b = ¬ (RefutesOf k IsNull a b)
IsLiveOf k NotNull a b = ¬ (RefutesOf k NotNull a b)

-- the atom is shown of the facts' terms, or may still be
abbrev pub IsShown : Known → List (List Term) → Atom → Type 0
IsShown k rows atom = Under (ShowsOf k) rows atom

abbrev pub IsLive : Known → List (List Term) → Atom → Type 0
IsLive k rows atom = Under (IsLiveOf k) rows atom

-- the first atom that isn't shown, if there is one
pub record IsFirstHidden (k : Known) (rows : List (List Term)) (conds : List Atom)
    (n : ℕ) : Type 0 where
  pub atom : Atom
  pub there : slice_get conds n ≡ Some atom
  pub hidden : ¬ (IsShown k rows atom)
  pub before : (m : ℕ) (other : Atom) → m < n → slice_get conds m ≡ Some other →
      IsShown k rows other

abbrev pub IsUndecided : Known → List (List Term) → List Atom → Option ℕ → Type 0
IsUndecided k rows conds None = All (IsShown k rows) conds
IsUndecided k rows conds (Some n) = IsFirstHidden k rows conds n

-- the number is that of a fact of the table on the side
pub record IsFactOf (b : Branch) (side : Side) (table n : ℕ) : Type 0 where
  pub fact : Fact
  pub there : slice_get b.facts n ≡ Some fact
  pub side_is : fact.side ≡ side
  pub table_is : fact.table ≡ table

-- each table of the part has a fact on the side
abbrev pub IsMapping : Branch → Side → List ℕ → List ℕ → Type 0
IsMapping b side from facts = AllZip (IsFactOf b side) from facts

-- a mapping of the part's tables to facts of the side under which each atom is live
pub record IsLiveMapping (b : Branch) (side : Side) (part : Part) (facts : List ℕ) : Type 0 where
  pub facts_of : IsMapping b side part.from facts
  pub live : All (IsLive b.known (map (terms_at b) facts)) part.conds

-- such a mapping, with the number of the first atom that isn't shown
pub record IsMatch (b : Branch) (side : Side) (part : Part) (it : Mapping) : Type 0 where
  pub live : IsLiveMapping b side part it.facts
  pub undecided : IsUndecided b.known (map (terms_at b) it.facts) part.conds it.undecided

-- exactly the live mappings, strictly rising by the facts' numbers from left to right
pub record AreMatches (b : Branch) (side : Side) (part : Part) (found : List Mapping) : Type 0 where
  pub rising : IsStrictlySortedBy (slice_cmp nat_cmp) (map (λ it. it.facts) found)
  pub sound : All (IsMatch b side part) found
  pub complete : (facts : List ℕ) → IsLiveMapping b side part facts →
      Contains (map (λ it. it.facts) found) facts

-- ---- rows that are there already

-- the terms of operands over the facts of these numbers
abbrev pub row_of : Branch → List ℕ → List Operand → List (Option Term)
row_of b facts operands = map (term_of (map (terms_at b) facts)) operands

-- both are there and are the same
pub record AreTheSame (k : Known) (a b : Option Term) : Type 0 where
  pub left : Term
  pub right : Term
  pub left_is : a ≡ Some left
  pub right_is : b ≡ Some right
  pub same : TheSame k left right

-- some facts of the side show all atoms of the part, and its head is the same as the row
pub record IsAnswered (b : Branch) (side : Side) (part : Part)
    (row : List (Option Term)) : Type 0 where
  pub facts : List ℕ
  pub facts_of : IsMapping b side part.from facts
  pub shown : All (IsShown b.known (map (terms_at b) facts)) part.conds
  pub head : AllZip (AreTheSame b.known) (row_of b facts part.head) row

-- ---- the rounds of mappings

-- the greatest round of the facts of these numbers
abbrev pub round_of : Branch → List ℕ → ℕ
round_of b [] = 0
round_of b (n ∷ facts) = max (unwrap_or (option_map (λ fact. fact.round) (slice_get b.facts n)) 0)
    (round_of b facts)

-- of the facts' terms the part's atom is this one
pub record GivesAtom (rows : List (List Term)) (atom : TermAtom) (cond : Atom) : Type 0 where
  pub op : cond.op ≡ atom.op
  pub left : term_of rows cond.left ≡ Some atom.left
  pub right : term_of rows cond.right ≡ Some atom.right

-- the part's head is the same as the row, where there is one
abbrev pub HeadIs : Branch → Part → List ℕ → Option (List Term) → Type 0
HeadIs b part facts None = Unit {0}
HeadIs b part facts (Some row) = AllZip (AreTheSame b.known) (row_of b facts part.head)
    (map Some row)

-- a live mapping of the part to the side, with the row for its head, of which the atom is one of
-- the atoms
pub record IsLiveAtom (b : Branch) (side : Side) (part : Part) (row : Option (List Term))
    (atom : TermAtom) (facts : List ℕ) : Type 0 where
  pub live : IsLiveMapping b side part facts
  pub head : HeadIs b part facts row
  pub stands : Any (GivesAtom (map (terms_at b) facts) atom) part.conds

-- the least of the rounds of what is P, if anything is: the round of facts is the greatest of them
pub record IsLeastRound (b : Branch) (P : List ℕ → Type 0) (round : ℕ) : Type 0 where
  pub facts : List ℕ
  pub holds : P facts
  pub round_is : round_of b facts ≡ round
  pub least : (others : List ℕ) → P others → round ≤ round_of b others

abbrev pub LeastRound : Branch → (List ℕ → Type 0) → Option ℕ → Type 0
LeastRound b P None = (facts : List ℕ) → ¬ (P facts)
LeastRound b P (Some round) = IsLeastRound b P round
