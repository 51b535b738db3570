-- Steps by keys on side Two that tell only of unknowns of which nothing was learned, and which no
-- later step asks for.
use Rattle.std.specs.Prelude.{◌≡◌, ◌⊎◌, ℕ, List, [], ◌∷◌, All, Any, Option, Some, None, false, if◌then◌else◌, nat_eq, slice_get}
use Rattle.std.specs.List.{AllZip, zip}
use Rattle.ba_model.specs.declared.query.Atom.{Atom}
use Rattle.ba_model.specs.declared.query.Op.TheVariants.{Eq}
use Rattle.ba_model.specs.declared.query.Operand.{Operand}
use Rattle.ba_model.specs.declared.query.Operand.TheVariants as operands
use Rattle.ba_model.specs.declared.query.Part.{Part}
use Rattle.ba_model.specs.declared.schema.Link.{Link}
use Rattle.ba_model.specs.declared.schema.Rule.{Rule}
use Rattle.ba_model.specs.declared.schema.Table.{Table}
use Rattle.ba_facts.specs.Known.{Known, OneClass, ShownNotNull}
use Rattle.ba_facts.specs.Shown.{TheSame}
use Rattle.ba_facts.specs.declared.branch.Branch.{Branch}
use Rattle.ba_facts.specs.declared.term.Fact.{Fact}
use Rattle.ba_facts.specs.declared.term.Lesson.{Lesson}
use Rattle.ba_facts.specs.declared.term.Lesson.TheVariants.{Same, Holds}
use Rattle.ba_facts.specs.declared.term.Side.TheVariants.{Two}
use Rattle.ba_facts.specs.declared.term.Sort.{Sort}
use Rattle.ba_facts.specs.declared.term.Term.{Term}
use Rattle.ba_facts.specs.declared.term.Term.TheVariants.{Unknown, Val, Param, Var}
use Rattle.ba_kernel.specs.declared.problem.Problem.{Problem}
use Rattle.ba_instant.specs.declared.moves.Move.{Move}

-- ---- terms that stand for unknowns

-- the term that the first move of the unknown has
abbrev pub moved : List Move → ℕ → Option Term
moved [] n = None
moved (move ∷ moves) n = if nat_eq move.unknown n then Some move.term else moved moves n

abbrev pub or_itself : Option Term → Term → Term
or_itself None t = t
or_itself (Some u) t = u

-- the term that stands for this one: itself, if there is no move of it
abbrev pub stand_in : List Move → Term → Term
stand_in moves (Unknown n) = or_itself (moved moves n) (Unknown n)
stand_in moves (Val v) = Val v
stand_in moves (Param n) = Param n
stand_in moves (Var n) = Var n

-- there is no move of the term
abbrev pub IsUnmoved : List Move → Term → Type 0
IsUnmoved moves (Unknown n) = All (λ (move : Move). nat_eq move.unknown n ≡ false) moves
IsUnmoved moves (Val v) = Unit {0}
IsUnmoved moves (Param n) = Unit {0}
IsUnmoved moves (Var n) = Unit {0}

abbrev pub IsUnmovedIf : List Move → Option Term → Type 0
IsUnmovedIf moves None = Unit {0}
IsUnmovedIf moves (Some t) = IsUnmoved moves t

-- ---- where such unknowns don't stand

-- in no lesson
abbrev pub LessonStays : List Move → Lesson → Type 0
LessonStays moves (Same a b) = IsUnmoved moves a × IsUnmoved moves b
LessonStays moves (Holds atom) = IsUnmoved moves atom.left × IsUnmoved moves atom.right

-- in none of these columns of the row
abbrev pub ColumnsStay : List Move → List Term → List ℕ → Type 0
ColumnsStay moves terms columns =
    All (λ (column : ℕ). IsUnmovedIf moves (slice_get terms column)) columns

-- ---- where no question asks for them

-- what the operand stands for, as far as the row at the place tells it
abbrev pub term_at : ℕ → List Term → Operand → Option Term
term_at place row (operands.Col other column) =
    if nat_eq other place then slice_get row column else None
term_at place row (operands.Val v) = Some (Val v)
term_at place row (operands.Param n) = Some (Param n)
term_at place row (operands.Var n) = Some (Var n)

-- what stands for the one isn't the same as what stands for the other
pub record AreApart (k : Known) (moves : List Move) (a c : Option Term) : Type 0 where
  pub left : Term
  pub right : Term
  pub left_is : a ≡ Some left
  pub right_is : c ≡ Some right
  pub apart : ¬ (TheSame k (stand_in moves left) (stand_in moves right))

abbrev pub IsEquation : Atom → Type 0
IsEquation atom = atom.op ≡ Eq

-- the atom is an equation whose sides are apart in the row at the place
abbrev pub FailsOnRow : Known → List Move → ℕ → List Term → Atom → Type 0
FailsOnRow k moves place row atom =
    IsEquation atom × AreApart k moves (term_at place row atom.left) (term_at place row atom.right)

-- a column of a head there, and that of a row, are apart
abbrev pub GivesAnother : Known → List Move → ℕ → List Term → Operand × Term → Type 0
GivesAnother k moves place row (operand, t) = AreApart k moves (term_at place row operand) (Some t)

-- so it is of an atom of the part, or of a column of its head and of the row that is asked for, if
-- one is
abbrev pub KeepsOut : Known → List Move → List Term → Part → ℕ → List Term → Type 0
KeepsOut k moves asked part place row =
    Any (FailsOnRow k moves place row) part.conds ⊎
    Any (GivesAnother k moves place row) (zip part.head asked)

abbrev pub UnmovedSides : List Move → ℕ → List Term → Atom → Type 0
UnmovedSides moves place row atom =
    IsUnmovedIf moves (term_at place row atom.left) ×
    IsUnmovedIf moves (term_at place row atom.right)

-- the part reads no moved unknown of the row at the place
pub record ReadsUnmoved (moves : List Move) (part : Part) (place : ℕ) (row : List Term)
    : Type 0 where
  pub conds : All (UnmovedSides moves place row) part.conds
  pub head : All (λ (x : Operand). IsUnmovedIf moves (term_at place row x)) part.head

abbrev pub LeavesRow : Known → List Move → List Term → Part → ℕ → List Term → Type 0
LeavesRow k moves asked part place row =
    ReadsUnmoved moves part place row ⊎ KeepsOut k moves asked part place row

-- so it is of the fact wherever its table stands in the part
unfoldable pub LeavesFact : Known → List Move → List Term → Fact → Part → Type 0
LeavesFact k moves asked fact part =
    (place : ℕ) → slice_get part.from place ≡ Some fact.table →
    LeavesRow k moves asked part place fact.terms

-- the part has equations alone, which no split is by, or leaves the fact where it gives the goal
-- row
unfoldable pub GoalLeaves : Branch → List Move → Fact → Part → Type 0
GoalLeaves b moves fact part = All IsEquation part.conds ⊎ LeavesFact b.known moves b.goal fact part

-- neither the question nor a rule's left query asks for a moved unknown of the fact
pub record IsUnasked (p : Problem) (b : Branch) (moves : List Move) (fact : Fact) : Type 0 where
  pub goal : All (GoalLeaves b moves fact) p.goal.parts
  pub rules : All (λ (rule : Rule). All (LeavesFact b.known moves [] fact) rule.left.parts)
      p.policy.schema.rules

-- ---- facts in which they may stand

-- the fact is on side Two, they stand in no column of a key or a link, and nothing else asks for
-- them
pub record IsFree (p : Problem) (b : Branch) (moves : List Move) (fact : Fact) : Type 0 where
  pub left : IsUnasked p b moves fact
  pub side : fact.side ≡ Two
  pub table : Table
  pub table_is : slice_get p.policy.schema.tables fact.table ≡ Some table
  pub keys : All (ColumnsStay moves fact.terms) table.keys
  pub links : All (λ (link : Link). ColumnsStay moves fact.terms link.columns) table.links

abbrev pub FactStays : Problem → Branch → List Move → Fact → Type 0
FactStays p b moves fact = All (IsUnmoved moves) fact.terms ⊎ IsFree p b moves fact

-- ---- what stands for an unknown is never NULL where that isn't

abbrev pub IsFilledIf : Known → Term → Option Sort → Type 0
IsFilledIf k t None = Unit {0}
IsFilledIf k t (Some sort) = sort.nullable ≡ false → ShownNotNull k t

abbrev pub IsFilledBy : Known → Move → Type 0
IsFilledBy k move = IsFilledIf k move.term (slice_get k.unknowns move.unknown)

-- ---- the step

-- of the terms that stand for theirs the two rows are of one class, column by column
abbrev pub AreOne : Known → List Move → List Term → List Term → Type 0
AreOne k moves left right =
    AllZip (λ (a c : Term). OneClass k (stand_in moves a) (stand_in moves c)) left right

-- the moves are of unknowns that stand in no lesson, not in the goal row, and on side Two alone,
-- where nothing asks for them
pub record AreQuietMoves (p : Problem) (b : Branch) (moves : List Move) : Type 0 where
  pub lessons : All (LessonStays moves) b.known.learned
  pub goal : All (IsUnmoved moves) b.goal
  pub facts : All (FactStays p b moves) b.facts
  pub filled : All (IsFilledBy b.known) moves

-- with such moves the two facts are the same already
pub record IsQuietKey (p : Problem) (b : Branch) (left right : ℕ) : Type 0 where
  pub f : Fact
  pub g : Fact
  pub left_is : slice_get b.facts left ≡ Some f
  pub right_is : slice_get b.facts right ≡ Some g
  pub moves : List Move
  pub quiet : AreQuietMoves p b moves
  pub one : AreOne b.known moves f.terms g.terms
