-- What the cases of a step are built from: facts and lessons that are added to a branch.
use Rattle.std.specs.Prelude.{◌≡◌, ℕ, ◌+◌, List, [], ◌∷◌, ◌++◌, Any, ◌⊎◌, Contains, map, length, Option, Some, slice_get, option_and_then, option_map}
use Rattle.std.specs.List.{AllZip, range_with_len, zip}
use Rattle.ba_model.specs.SchemaFaults.{columns_of}
use Rattle.ba_model.specs.declared.query.Atom.{Atom}
use Rattle.ba_model.specs.declared.query.Op.{Op}
use Rattle.ba_model.specs.declared.query.Op.TheVariants.{Eq, Ne, Lt, Le, IsNull, NotNull}
use Rattle.ba_model.specs.declared.query.Operand.{Operand}
use Rattle.ba_model.specs.declared.query.Operand.TheVariants.{Val}
use Rattle.ba_model.specs.declared.query.Part.{Part}
use Rattle.ba_model.specs.declared.query.Query.{Query}
use Rattle.ba_model.specs.declared.schema.Schema.{Schema}
use Rattle.ba_model.specs.declared.value.Value.{Value}
use Rattle.ba_facts.specs.Knowing.{sort_of}
use Rattle.ba_facts.specs.Matches.{round_of, row_of, term_of, terms_at}
use Rattle.ba_facts.specs.declared.branch.Branch.{Branch}
use Rattle.ba_facts.specs.declared.term.Lesson.{Lesson}
use Rattle.ba_facts.specs.declared.term.Lesson.TheVariants.{Same, Holds}
use Rattle.ba_facts.specs.declared.term.Side.{Side}
use Rattle.ba_facts.specs.declared.term.Term.{Term}
use Rattle.ba_facts.specs.declared.term.Term.TheVariants.{Unknown}
use Rattle.ba_facts.specs.declared.term.TermAtom.{TermAtom}
use Rattle.ba_kernel.specs.declared.problem.Problem.{Problem}

-- ---- facts and lessons that are added

-- a new unknown for each column of the table
abbrev pub new_terms : Schema → Branch → ℕ → List Term
new_terms s b table =
    map Unknown (range_with_len (length b.known.unknowns) (length (columns_of s.tables table)))

-- a row of the table on the side, with a new unknown for each column
abbrev pub with_fact : Schema → Side → ℕ → Branch → ℕ → Branch
with_fact s side round b table = record b {
  known = record b.known { unknowns = b.known.unknowns ++ map sort_of (columns_of s.tables table) };
  facts = b.facts ++ record {
    side = side;
    table = table;
    terms = new_terms s b table;
    round = round;
  } ∷ [];
}

-- a row of each table in turn
abbrev pub with_facts : Schema → Side → ℕ → Branch → List ℕ → Branch
with_facts s side round b [] = b
with_facts s side round b (table ∷ from) =
    with_facts s side round (with_fact s side round b table) from

abbrev pub with_lessons : Branch → List Lesson → Branch
with_lessons b lessons =
    record b { known = record b.known { learned = b.known.learned ++ lessons } }

-- the terms of the facts of these numbers
abbrev pub rows_at : Branch → List ℕ → List (List Term)
rows_at b facts = map (terms_at b) facts

-- the comparison of two terms is true
abbrev pub holds_of : Op → Term → Term → Lesson
holds_of op a b = Holds (record { op = op; left = a; right = b })

-- the atom is true of the facts' terms
abbrev pub lesson_of : List (List Term) → Atom → Option Lesson
lesson_of rows atom =
    option_and_then (λ a. option_map (holds_of atom.op a) (term_of rows atom.right))
    (term_of rows atom.left)

-- the operand and the term are the same
abbrev pub same_of : List (List Term) → Operand × Term → Option Lesson
same_of rows (operand, u) = option_map (λ t. Same t u) (term_of rows operand)

-- two terms, if both are there, are the same
abbrev pub same_at : List Term → List Term → ℕ × ℕ → Option Lesson
same_at left right (i, j) =
    option_and_then (λ a. option_map (λ b. Same a b) (slice_get right j)) (slice_get left i)

-- the two are the same
abbrev pub same_pair : Term × Term → Lesson
same_pair two = Same two.0 two.1

-- what is true where the atom isn't
abbrev pub negation_of : Op → Term → Term → TermAtom
negation_of Eq x y = record { op = Ne; left = x; right = y }
negation_of Ne x y = record { op = Eq; left = x; right = y }
negation_of Lt x y = record { op = Le; left = y; right = x }
negation_of Le x y = record { op = Lt; left = y; right = x }
negation_of IsNull x y = record { op = NotNull; left = x; right = y }
negation_of NotNull x y = record { op = IsNull; left = x; right = y }

abbrev pub negation : TermAtom → TermAtom
negation atom = negation_of atom.op atom.left atom.right

-- ---- a part that gives a row

-- the terms of the part's facts, which are added to the branch
abbrev pub part_rows : Schema → Branch → Side → ℕ → Part → List (List Term)
part_rows s old side round part =
    rows_at (with_facts s side round old part.from)
    (range_with_len (length old.facts) (length part.from))

-- The branch where the part gives the row on the side: a fact for each of its tables, its atoms,
-- and its head the same as the row.
pub record IsCase (s : Schema) (old : Branch) (side : Side) (round : ℕ) (row : List Term)
    (part : Part) (new : Branch) : Type 0 where
  pub atoms : List Lesson
  pub heads : List Lesson
  pub wide : length part.head ≡ length row
  pub atoms_are : map (lesson_of (part_rows s old side round part)) part.conds ≡ map Some atoms
  pub heads_are :
      map (same_of (part_rows s old side round part)) (zip part.head row) ≡ map Some heads
  pub new_is : new ≡ with_lessons (with_facts s side round old part.from) (atoms ++ heads)

-- the facts give a row of the part, and these are the cases where the parts give it on the side
pub record AreNext (s : Schema) (b : Branch) (side : Side) (part : Part) (facts : List ℕ)
    (parts : List Part) (cases : List Branch) : Type 0 where
  pub row : List Term
  pub row_is : row_of b facts part.head ≡ map Some row
  pub cases_are : AllZip (IsCase s b side (1 + round_of b facts) row) parts cases

-- ---- the round of an entry

-- the literal stands in an atom or a head of the query
abbrev pub IsSide : Value → Atom → Type 0
IsSide v atom = (atom.left ≡ Val v) ⊎ (atom.right ≡ Val v)

pub record IsLiteralOf (q : Query) (v : Value) : Type 0 where
  pub part : Part
  pub of : Contains q.parts part
  pub stands : Any (IsSide v) part.conds ⊎ Contains part.head (Val v)

pub record SharesLiteral (p : Problem) (row : List Operand) : Type 0 where
  pub value : Value
  pub in_row : Contains row (Val value)
  pub in_goal : IsLiteralOf p.goal value

-- 1 where the entry's row has a literal of the goal, else 2
abbrev pub IsEntryRound : Problem → List Operand → ℕ → Type 0
IsEntryRound p row round =
    (SharesLiteral p row × (round ≡ 1)) ⊎ ((¬ (SharesLiteral p row)) × (round ≡ 2))
