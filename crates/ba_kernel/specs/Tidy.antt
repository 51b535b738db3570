-- What a case is built from: terms that are there, and lessons that are added in turn.
use Rattle.std.specs.Prelude.{◌≡◌, ◌⊎◌, ℕ, ◌<◌, List, All, Any, Option, Some, length, map}
use Rattle.std.specs.List.{AllZip}
use Rattle.ba_model.specs.Fit.{PartFits, kinds_of}
use Rattle.ba_model.specs.SchemaFaults.{columns_of}
use Rattle.ba_model.specs.declared.query.Atom.{Atom}
use Rattle.ba_model.specs.declared.query.Operand.{Operand}
use Rattle.ba_model.specs.declared.query.Operand.TheVariants.{Col, Val, Param, Var}
use Rattle.ba_model.specs.declared.query.Part.{Part}
use Rattle.ba_model.specs.declared.query.Query.{Query}
use Rattle.ba_model.specs.declared.schema.Kind.{Kind}
use Rattle.ba_model.specs.declared.schema.Schema.{Schema}
use Rattle.ba_model.specs.declared.value.Value.{Value}
use Rattle.ba_kernel.specs.Courses.{IsStartOf}
use Rattle.ba_kernel.specs.Effects.{IsSide, with_lessons}
use Rattle.ba_facts.specs.Known.{Known}
use Rattle.ba_facts.specs.Knowing.{IsThere}
use Rattle.ba_facts.specs.Matches.{term_of}
use Rattle.ba_facts.specs.declared.branch.Branch.{Branch}
use Rattle.ba_kernel.specs.declared.problem.Problem.{Problem}
use Rattle.ba_facts.specs.declared.term.Fact.{Fact}
use Rattle.ba_facts.specs.declared.term.Lesson.{Lesson}
use Rattle.ba_facts.specs.declared.term.Term.{Term}

-- the operand stands for a term
pub record HasTerm (rows : List (List Term)) (operand : Operand) : Type 0 where
  pub term : Term
  pub is : term_of rows operand ≡ Some term

-- both sides do
pub record HasTerms (rows : List (List Term)) (atom : Atom) : Type 0 where
  pub left : HasTerm rows atom.left
  pub right : HasTerm rows atom.right

abbrev pub TermsAreThere : Known → List Term → Type 0
TermsAreThere k ts = All (IsThere k) ts

-- the terms of each fact are there
pub record FactsAreThere (b : Branch) : Type 0 where
  pub facts : All (λ (fact : Fact). TermsAreThere b.known fact.terms) b.facts

-- the terms of the facts and of the row are there
pub record IsReady (b : Branch) (row : List Term) : Type 0 where
  pub facts : FactsAreThere b
  pub terms : TermsAreThere b.known row

-- the part fits some parameters and variables, and its head has this width
pub record IsPartFor (s : Schema) (width : ℕ) (part : Part) : Type 0 where
  pub params : List Kind
  pub vars : List Kind
  pub kinds : List Kind
  pub fits : PartFits s params vars kinds part
  pub wide : length part.head ≡ width

-- the part is one of the goal, as the problem's parameters and variables go
pub record IsPartOf (p : Problem) (part : Part) : Type 0 where
  pub kinds : List Kind
  pub fits : PartFits p.policy.schema (kinds_of p.policy.params) p.vars kinds part

-- the row has each of these columns
abbrev pub HasColumns : List Term → List ℕ → Type 0
HasColumns row columns = All (λ n. n < length row) columns

-- the terms are as many as the table has columns
abbrev pub IsAsWide : Schema → ℕ → List Term → Type 0
IsAsWide s table ts = length ts ≡ length (columns_of s.tables table)

abbrev pub AreAsWide : Schema → List ℕ → List (List Term) → Type 0
AreAsWide s from rows = AllZip (IsAsWide s) from rows

-- these lessons, which are there, were added
pub record Learns (found : List (Option Lesson)) (old new : Branch) : Type 0 where
  pub lessons : List Lesson
  pub are : found ≡ map Some lessons
  pub new_is : new ≡ with_lessons old lessons

-- ---- literals of a query

abbrev pub IsLiteral : Value → Operand → Type 0
IsLiteral v operand = operand ≡ Val v

-- the literal stands in an atom or the head of the part
pub record MentionsLiteral (v : Value) (part : Part) : Type 0 where
  pub stands : Any (IsSide v) part.conds ⊎ Any (IsLiteral v) part.head

-- the operand is a literal of the query
abbrev pub IsLiteralOfSome : Query → Operand → Type 0
IsLiteralOfSome q (Val v) = Any (MentionsLiteral v) q.parts
IsLiteralOfSome q (Col place column) = ⊥
IsLiteralOfSome q (Param n) = ⊥
IsLiteralOfSome q (Var n) = ⊥

-- ---- starts

-- the slots are branches of these parts
pub record AreStarts (p : Problem) (parts : List Part) (slots : List (Option Branch)) : Type 0 where
  pub branches : List Branch
  pub starts : AllZip (IsStartOf p) parts branches
  pub slots_are : slots ≡ map Some branches
