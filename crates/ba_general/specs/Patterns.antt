-- A problem with a variable for each literal of another.
use Rattle.std.specs.Prelude.{◌≡◌, ℕ, List, [], ◌∷◌, ◌++◌, All, length, map, Some, slice_get}
use Rattle.std.specs.List.{AllZip, flat_map, range_with_len}
use Rattle.ba_model.specs.Conform.{IsOfKind}
use Rattle.ba_model.specs.declared.query.Atom.{Atom}
use Rattle.ba_model.specs.declared.query.Op.{Op}
use Rattle.ba_model.specs.declared.query.Op.TheVariants.{Eq, Ne, Lt, Le, IsNull, NotNull}
use Rattle.ba_model.specs.declared.query.Operand.{Operand}
use Rattle.ba_model.specs.declared.query.Operand.TheVariants.{Col, Val, Param, Var}
use Rattle.ba_model.specs.declared.query.Part.{Part}
use Rattle.ba_model.specs.declared.query.Query.{Query}
use Rattle.ba_model.specs.declared.schema.Kind.{Kind}
use Rattle.ba_model.specs.declared.value.Value.{Value}
use Rattle.ba_model.specs.declared.value.Value.TheVariants.{Null}
use Rattle.ba_kernel.specs.Problems.{atom_at, operand_at, part_at, query_at}
use Rattle.ba_kernel.specs.declared.problem.Problem.{Problem}
use Rattle.ba_kernel.specs.declared.problem.ProblemEntry.{ProblemEntry}

-- ---- operands as they are printed

-- the right side of IS NULL and IS NOT NULL repeats the left and isn't printed
abbrev pub printed_sides : Op → Operand → Operand → List Operand
printed_sides Eq a b = a ∷ b ∷ []
printed_sides Ne a b = a ∷ b ∷ []
printed_sides Lt a b = a ∷ b ∷ []
printed_sides Le a b = a ∷ b ∷ []
printed_sides IsNull a b = a ∷ []
printed_sides NotNull a b = a ∷ []

-- part by part the head, then the atoms, left before right
abbrev pub printed_part : Part → List Operand
printed_part part = part.head ++ flat_map (λ atom. printed_sides atom.op atom.left atom.right) part.conds

abbrev pub printed_query : Query → List Operand
printed_query q = flat_map printed_part q.parts

abbrev pub printed_entry : ProblemEntry → List Operand
printed_entry entry = printed_query entry.query ++ entry.row

-- the goal's, then those of each entry: its query's, then its row's
abbrev pub printed : Problem → List Operand
printed p = printed_query p.goal ++ flat_map printed_entry p.entries

-- ---- the pattern

-- the entry with values for its variables
abbrev pub entry_at : List Value → ProblemEntry → ProblemEntry
entry_at values entry = record { query = query_at values entry.query; row = map (operand_at values) entry.row }

-- NULL is the one literal that stays
abbrev pub HasNoLiteral : Operand → Type 0
HasNoLiteral (Col place column) = Unit {0}
HasNoLiteral (Val v) = v ≡ Null
HasNoLiteral (Param n) = Unit {0}
HasNoLiteral (Var n) = Unit {0}

abbrev pub variable_of : Operand → List ℕ
variable_of (Col place column) = []
variable_of (Val v) = []
variable_of (Param n) = []
variable_of (Var n) = n ∷ []

-- the right side of IS NULL and IS NOT NULL repeats the left
abbrev pub OpRepeats : Op → Operand → Operand → Type 0
OpRepeats Eq left right = Unit {0}
OpRepeats Ne left right = Unit {0}
OpRepeats Lt left right = Unit {0}
OpRepeats Le left right = Unit {0}
OpRepeats IsNull left right = right ≡ left
OpRepeats NotNull left right = right ≡ left

abbrev pub AtomRepeats : Atom → Type 0
AtomRepeats atom = OpRepeats atom.op atom.left atom.right

abbrev pub PartRepeats : Part → Type 0
PartRepeats part = All AtomRepeats part.conds

abbrev pub QueryRepeats : Query → Type 0
QueryRepeats q = All PartRepeats q.parts

abbrev pub EntryRepeats : ProblemEntry → Type 0
EntryRepeats entry = QueryRepeats entry.query

-- The pattern g of a problem p with those of its entries that have these numbers. With the values, each of its variable's kind, its goal and entries are p's;
-- no literal but NULL is left in it; and its variables, as they are printed, are 0, 1, 2 and so on, each once: one variable a literal. What isn't printed
-- repeats what is. It assumes nothing.
pub record IsPattern (p : Problem) (numbers : List ℕ) (g : Problem) (values : List Value) : Type 0 where
  pub policy : g.policy ≡ p.policy
  pub kinds : AllZip IsOfKind g.vars values
  pub goal : query_at values g.goal ≡ p.goal
  pub entries : map (λ entry. Some (entry_at values entry)) g.entries ≡ map (slice_get p.entries) numbers
  pub literals : All HasNoLiteral (printed g)
  pub own : flat_map variable_of (printed g) ≡ range_with_len 0 (length values)
  pub repeats : QueryRepeats g.goal
  pub entries_repeat : All EntryRepeats g.entries
  pub assumed : g.assumed ≡ []

-- a problem has one pattern with these entries
abbrev pub PatternIsOne : Type 0
PatternIsOne = (p : Problem) (numbers : List ℕ) (g h : Problem) (values others : List Value) → IsPattern p numbers g values → IsPattern p numbers h others →
    (g ≡ h) × (values ≡ others)

-- with these atoms assumed
abbrev pub assuming : Problem → List Atom → Problem
assuming g atoms = record g { assumed = atoms }

-- ---- variables that are given one after another

-- the kinds of the variables so far, and the literals that they stand for
pub record Named : Type 0 where
  pub kinds : List Kind
  pub values : List Value

-- From some variables to more: with the values of all of them what is new is what was there, it has no literal but NULL, and its variables, as printed, are
-- the new ones in order.
pub record Names {X : Type 0} (at : List Value → X → X) (operands : X → List Operand) (old : Named) (x : X) (new : Named) (it : X) : Type 0 where
  pub more : List Value
  pub kinds : List Kind
  pub values_are : new.values ≡ old.values ++ more
  pub kinds_are : new.kinds ≡ old.kinds ++ kinds
  pub of_kinds : AllZip IsOfKind kinds more
  pub same : (beyond : List Value) → at (new.values ++ beyond) it ≡ x
  pub literals : All HasNoLiteral (operands it)
  pub own : flat_map variable_of (operands it) ≡ range_with_len (length old.values) (length more)

abbrev pub NamesOperand : Named → Operand → Named → Operand → Type 0
NamesOperand old operand new it = Names operand_at (λ x. x ∷ []) old operand new it

abbrev pub NamesOperands : Named → List Operand → Named → List Operand → Type 0
NamesOperands old operands new it = Names (λ values. map (operand_at values)) (λ xs. xs) old operands new it

-- IS NULL and IS NOT NULL, and the others
abbrev pub IsOneSided : Op → Type 0
IsOneSided Eq = ⊥
IsOneSided Ne = ⊥
IsOneSided Lt = ⊥
IsOneSided Le = ⊥
IsOneSided IsNull = Unit {0}
IsOneSided NotNull = Unit {0}

abbrev pub IsTwoSided : Op → Type 0
IsTwoSided op = ¬ (IsOneSided op)

-- the operand is no variable
abbrev pub IsGiven : Operand → Type 0
IsGiven (Col place column) = Unit {0}
IsGiven (Val v) = Unit {0}
IsGiven (Param n) = Unit {0}
IsGiven (Var n) = ⊥

-- as in a question, which has no variable
pub record AtomIsAsked (atom : Atom) : Type 0 where
  pub repeats : OpRepeats atom.op atom.left atom.right
  pub left : IsGiven atom.left
  pub right : IsGiven atom.right

pub record PartIsAsked (part : Part) : Type 0 where
  pub conds : All AtomIsAsked part.conds
  pub head : All IsGiven part.head

abbrev pub QueryIsAsked : Query → Type 0
QueryIsAsked q = All PartIsAsked q.parts

pub record EntryIsAsked (entry : ProblemEntry) : Type 0 where
  pub query : QueryIsAsked entry.query
  pub row : All IsGiven entry.row

-- of a list, whose elements' operands stand one after another
abbrev pub NamesAll : {X : Type 0} → (List Value → X → X) → (X → List Operand) → Named → List X → Named → List X → Type 0
NamesAll at operands old xs new its = Names (λ values. map (at values)) (flat_map operands) old xs new its

abbrev pub NamesAtom : Named → Atom → Named → Atom → Type 0
NamesAtom old atom new it = Names atom_at (λ x. printed_sides x.op x.left x.right) old atom new it

abbrev pub NamesEntry : Named → ProblemEntry → Named → ProblemEntry → Type 0
NamesEntry old entry new it = Names entry_at printed_entry old entry new it

abbrev pub NamesAtoms : Named → List Atom → Named → List Atom → Type 0
NamesAtoms old atoms new it = NamesAll atom_at (λ x. printed_sides x.op x.left x.right) old atoms new it

abbrev pub NamesParts : Named → Part → Named → Part → Type 0
NamesParts old part new it = Names part_at printed_part old part new it

abbrev pub NamesQuery : Named → Query → Named → Query → Type 0
NamesQuery old q new it = Names query_at printed_query old q new it

-- of the entries of these numbers
pub record NamesEntries (old : Named) (entries : List ProblemEntry) (numbers : List ℕ) (new : Named) (it : List ProblemEntry) : Type 0 where
  pub taken : List ProblemEntry
  pub taken_are : map (slice_get entries) numbers ≡ map Some taken
  pub names : NamesAll entry_at printed_entry old taken new it
