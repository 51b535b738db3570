-- The literals of a class, by value.
use Rattle.std.specs.Prelude.{◌<◌, List, length}
use Rattle.ba_model.specs.declared.value.Value.{Value}
use Rattle.ba_facts.specs.Known.{Known, DifferentLiterals, OneClass}
use Rattle.ba_facts.specs.Marks.{HasOneLiteral}
use Rattle.ba_facts.specs.declared.marks.Literals.{Literals}
use Rattle.ba_facts.specs.declared.marks.Literals.TheVariants as numbered
use Rattle.ba_facts.specs.declared.term.Term.{Term}
use Rattle.ba_facts.specs.declared.term.Term.TheVariants.{Val}
use Rattle.ba_facts.specs.declared.found.Found.{Found}
use Rattle.ba_facts.specs.declared.found.Found.TheVariants.{Absent, One, Several}

-- the value is the one literal of the class, if it has one alone
abbrev pub AreFound : Known → Term → Found → Type 0
AreFound k a Absent = (v : Value) → ¬ (OneClass k a (Val v))
AreFound k a (One v) = OneClass k a (Val v.now) × HasOneLiteral k a
AreFound k a Several = DifferentLiterals k a a

-- a literal's number is that of a term
abbrev pub AreThose : List Term → Literals → Type 0
AreThose terms numbered.Absent = Unit {0}
AreThose terms (numbered.One n) = n < length terms
AreThose terms (numbered.Several n) = n < length terms

-- the one literal's number is that of a term
abbrev pub AreNumbered : List Term → Literals → Type 0
AreNumbered terms numbered.Absent = Unit {0}
AreNumbered terms (numbered.One n) = n < length terms
AreNumbered terms (numbered.Several n) = Unit {0}
