-- Whether a part can be mapped to facts at all.
use Rattle.std.specs.Prelude.{◌≡◌, ◌⊎◌, ℕ, List, [], All, Any, Contains, Option, Some, map, slice_get}
use Rattle.std.specs.List.{AllZip}
use Rattle.std.specs.Option.{option_copied}
use Rattle.ba_model.specs.declared.query.Atom.{Atom}
use Rattle.ba_model.specs.declared.query.Operand.{Operand}
use Rattle.ba_model.specs.declared.query.Operand.TheVariants as operands
use Rattle.ba_facts.specs.Alike.{AreAlike}
use Rattle.ba_facts.specs.Matches.{AreTheSame, HeadIs, Under, row_of, term_of, terms_at}
use Rattle.ba_facts.specs.Walks.{Completes, IsWanted}
use Rattle.ba_facts.specs.declared.branch.Branch.{Branch}
use Rattle.ba_facts.specs.declared.term.Term.{Term}
use Rattle.ba_facts.specs.declared.term.Term.TheVariants as terms
use Rattle.ba_facts.specs.declared.walk.Walk.{Walk}
use Rattle.ba_instant.specs.Spreads.{IsAt, IsLike}
use Rattle.ba_instant.specs.declared.outlook.Left.{Left}
use Rattle.ba_instant.specs.declared.outlook.Outlook.{Outlook}
use Rattle.ba_instant.specs.declared.outlook.Placed.{Placed}

-- ---- the facts that are looked for

-- one of each of the part's tables on the side, under which each atom is what is wanted, with the
-- row for its head, where there is one
pub record IsSought (it : Outlook) (facts : List ℕ) : Type 0 where
  pub completes : Completes it.walk.branch.now it.walk.side it.walk.part.now it.walk.wanted
      it.walk.part.now.from [] facts
  pub head : HeadIs it.walk.branch.now it.walk.part.now facts (option_copied it.row)

abbrev pub NoneSought : Outlook → Type 0
NoneSought it = (facts : List ℕ) → IsSought it facts → ⊥

-- at its place this is the fact
abbrev pub Stands : List ℕ → Placed → Type 0
Stands facts own = slice_get facts own.place ≡ Some own.fact

-- at the place there is one of these
pub record HasOne (facts : List ℕ) (place : ℕ) (numbers : List ℕ) : Type 0 where
  pub fact : ℕ
  pub there : slice_get facts place ≡ Some fact
  pub among : Contains numbers fact

abbrev pub AreWithin : List ℕ → List Left → Type 0
AreWithin facts places = All (λ left. HasOne facts left.place left.facts.items) places

-- ---- what can't be

-- none has one of those that are left at each place
abbrev pub NoneWithin : Outlook → List Left → Type 0
NoneWithin it places = (facts : List ℕ) → IsSought it facts → AreWithin facts places → ⊥

-- none has the fact at its place
abbrev pub IsOut : Outlook → Placed → Type 0
IsOut it own = (facts : List ℕ) → IsSought it facts → Stands facts own → ⊥

-- or one of those that were taken is alike to it
abbrev pub IsNeedless : Outlook → Placed → List ℕ → Type 0
IsNeedless it own taken =
    IsOut it own ⊎ Any (λ other. AreAlike it.walk.branch.now other own.fact) taken

-- over the facts the atom is what is wanted
abbrev pub IsMetBy : Outlook → List ℕ → Atom → Type 0
IsMetBy it facts atom = Under (IsWanted it.walk.branch.now.known it.walk.wanted)
    (map (terms_at it.walk.branch.now) facts) atom

-- with the two at their places it isn't
abbrev pub AreApart : Outlook → Placed → Placed → Atom → Type 0
AreApart it one other atom = (facts : List ℕ) → Stands facts one → Stands facts other →
    IsMetBy it facts atom → ⊥

-- with the fact at its place the operand isn't the same as the term; the head isn't as the row
abbrev pub IsDifferent : Outlook → Placed → Operand → Term → Type 0
IsDifferent it own operand other = (facts : List ℕ) → Stands facts own →
    AreTheSame it.walk.branch.now.known (term_of (map (terms_at it.walk.branch.now) facts) operand)
    (Some other) → ⊥

abbrev pub GivesOther : Outlook → Placed → List Operand → List Term → Type 0
GivesOther it own head row = (facts : List ℕ) → Stands facts own →
    AllZip (AreTheSame it.walk.branch.now.known) (row_of it.walk.branch.now facts head)
    (map Some row) → ⊥

-- ---- what is kept

-- one of these is the fact, or alike to it
pub record HasLike (b : Branch) (fact : ℕ) (numbers : List ℕ) : Type 0 where
  pub other : ℕ
  pub among : Contains numbers other
  pub like : IsLike b fact other

-- whatever is looked for has a fact at the place, and one of these is that or alike to it
pub record HasLikeAt (b : Branch) (facts : List ℕ) (place : ℕ) (numbers : List ℕ) : Type 0 where
  pub fact : ℕ
  pub there : slice_get facts place ≡ Some fact
  pub has : HasLike b fact numbers

abbrev pub OffersLike : Outlook → ℕ → List ℕ → Type 0
OffersLike it place numbers = (facts : List ℕ) → IsSought it facts →
    HasLikeAt it.walk.branch.now facts place numbers

-- with the chosen one at its place it has one of those that are left, if it had one before
abbrev pub KeepsAt : Outlook → Placed → ℕ → List ℕ → List ℕ → Type 0
KeepsAt it chosen place old new = (facts : List ℕ) → IsSought it facts → Stands facts chosen →
    HasOne facts place old → HasOne facts place new

-- so it does where the atom is what is wanted
abbrev pub MeetsAt : Outlook → Atom → Placed → ℕ → List ℕ → List ℕ → Type 0
MeetsAt it atom chosen place old new = (facts : List ℕ) → Stands facts chosen →
    IsMetBy it facts atom → HasOne facts place old → HasOne facts place new

abbrev pub Keeps : Outlook → Placed → List Left → List Left → Type 0
Keeps it chosen old new = (facts : List ℕ) → IsSought it facts → Stands facts chosen →
    AreWithin facts old → AreWithin facts new

-- ---- what operands stand for

-- where its place, if it names one, has the fact
abbrev pub term_with : Branch → ℕ → Operand → Option Term
term_with b fact (operands.Col place column) = slice_get (terms_at b fact) column
term_with b fact (operands.Val v) = Some (terms.Val v)
term_with b fact (operands.Param n) = Some (terms.Param n)
term_with b fact (operands.Var n) = Some (terms.Var n)

-- so the atom's left side with the one fact and its right with the other, which isn't as wanted
pub record FailsWith (w : Walk) (one other : ℕ) (atom : Atom) : Type 0 where
  pub left : Term
  pub right : Term
  pub left_is : term_with w.branch.now one atom.left ≡ Some left
  pub right_is : term_with w.branch.now other atom.right ≡ Some right
  pub fails : ¬ (IsWanted w.branch.now.known w.wanted atom.op left right)

-- it names no other place
abbrev pub NeedsOnly : ℕ → Operand → Type 0
NeedsOnly place (operands.Col p column) = p ≡ place
NeedsOnly place (operands.Val v) = Unit {0}
NeedsOnly place (operands.Param n) = Unit {0}
NeedsOnly place (operands.Var n) = Unit {0}

-- one side names the one place, and the other side the other
abbrev pub Links : ℕ → ℕ → Atom → Type 0
Links one other atom = (IsAt one atom.left × IsAt other atom.right) ⊎
    (IsAt other atom.left × IsAt one atom.right)
