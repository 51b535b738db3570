-- Pairs of databases that show that a question isn't strongly compliant.
use Rattle.std.specs.Prelude.{ℕ, ◌<◌, ◌≤ℤ◌, ℤ, negsuc, pos, List, All, Option, None, Some}
use Rattle.std.specs.List.{AllZip}
use Rattle.std.specs.List.Sorted.{IsStrictlySortedBy}
use Rattle.ba_comply.specs.Comply.{AnswerWithin, Shows, Strong, Within}
use Rattle.ba_comply.specs.declared.trace.TraceEntry.{TraceEntry}
use Rattle.ba_eval.specs.Search.{SameRows}
use Rattle.ba_model.specs.Conform.{Conforms, TableConforms}
use Rattle.ba_model.specs.Meaning.{InAnswer}
use Rattle.ba_model.specs.Order.{row_cmp}
use Rattle.ba_model.specs.declared.policy.Context.{Context}
use Rattle.ba_model.specs.declared.policy.Policy.{Policy}
use Rattle.ba_model.specs.declared.policy.View.{View}
use Rattle.ba_model.specs.declared.query.Query.{Query}
use Rattle.ba_model.specs.declared.schema.Table.{Table}
use Rattle.ba_model.specs.declared.value.RowSet.{RowSet}
use Rattle.ba_model.specs.declared.value.Value.{Value}
use Rattle.ba_model.specs.declared.value.Value.TheVariants.{Null, Int, Text}
use Rattle.ba_refute.specs.declared.clause.Clause.{Clause}
use Rattle.ba_refute.specs.declared.clause.Clause.TheVariants.{Value as ValueClause, ConformOne, ConformTwo, Within as WithinClause, Shown, Asked, Absent}
use Rattle.ba_refute.specs.declared.clause.Counterexample.{Counterexample}

-- a number of 64 bits with a sign
abbrev pub IsNumber : ℤ → Type 0
IsNumber n = (negsuc 9223372036854775807 ≤ℤ n) × (n ≤ℤ pos 9223372036854775807)

abbrev pub IsStored : Value → Type 0
IsStored Null = Unit {0}
IsStored (Int n) = IsNumber n
IsStored (Text t) = Unit {0}

-- all numbers are within 64 bits
pub record AreStored (d : RowSet) : Type 0 where
  pub tables : All (All (All IsStored)) d.tables

pub record IsPairStored (it : Counterexample) : Type 0 where
  pub one : AreStored it.one
  pub two : AreStored it.two
  pub row : All IsStored it.row

-- what each clause asks of a pair, under a policy and a context, after a trace, for a question
abbrev pub Meets : Policy → Context → List TraceEntry → Query → Counterexample → Clause → Type 0
Meets policy c trace q it ValueClause = IsPairStored it
Meets policy c trace q it ConformOne = Conforms policy.schema it.one
Meets policy c trace q it ConformTwo = Conforms policy.schema it.two
Meets policy c trace q it WithinClause = Within policy c it.one it.two
Meets policy c trace q it Shown = Shows trace c it.one
Meets policy c trace q it Asked = InAnswer q c it.one it.row
Meets policy c trace q it Absent = InAnswer q c it.two it.row → ⊥

-- the place of a clause in the order
abbrev pub rank : Clause → ℕ
rank ValueClause = 0
rank ConformOne = 1
rank ConformTwo = 2
rank WithinClause = 3
rank Shown = 4
rank Asked = 5
rank Absent = 6

-- it meets every clause
pub record IsCounterexample (policy : Policy) (c : Context) (trace : List TraceEntry) (q : Query)
    (it : Counterexample) : Type 0 where
  pub meets : (clause : Clause) → Meets policy c trace q it clause

-- it doesn't meet this clause, and meets each before it
pub record IsFirstUnmet (policy : Policy) (c : Context) (trace : List TraceEntry) (q : Query)
    (it : Counterexample) (clause : Clause) : Type 0 where
  pub unmet : Meets policy c trace q it clause → ⊥
  pub before : (other : Clause) → rank other < rank clause → Meets policy c trace q it other

-- the first clause that it doesn't meet, or that it meets them all
abbrev pub TellsFirstUnmet : Policy → Context → List TraceEntry → Query → Counterexample →
    Option Clause → Type 0
TellsFirstUnmet policy c trace q it None = IsCounterexample policy c trace q it
TellsFirstUnmet policy c trace q it (Some clause) = IsFirstUnmet policy c trace q it clause

-- the rows of each table are strictly rising
pub record AreRising (d : RowSet) : Type 0 where
  pub tables : All (IsStrictlySortedBy row_cmp) d.tables

-- the database conforms to the tables, whatever the rules
abbrev pub FitTables : List Table → RowSet → Type 0
FitTables tables d = AllZip (TableConforms d) tables d.tables

-- the same rows in each table, strictly rising
pub record IsInOrder (d new : RowSet) : Type 0 where
  pub rising : All (IsStrictlySortedBy row_cmp) new.tables
  pub same : AllZip SameRows d.tables new.tables

-- each row of the first query in d is a row of the second in e
abbrev pub RowsPass : Context → Query → RowSet → Query → RowSet → Type 0
RowsPass c p d q e = (r : List Value) → InAnswer p c d r → InAnswer q c e r

-- each view's rows in d are among its rows in e
abbrev pub ViewsWithin : List View → Context → RowSet → RowSet → Type 0
ViewsWithin views c d e = All (λ view. AnswerWithin view.query c d e) views

-- each of the entry's rows is in its query's answer
abbrev pub EntryIsShown : Context → RowSet → TraceEntry → Type 0
EntryIsShown c d entry = All (InAnswer entry.query c d) entry.rows

-- a question with a counterexample isn't strongly compliant
abbrev pub CounterexamplesRefute : Type 0
CounterexamplesRefute =
    (policy : Policy) (c : Context) (trace : List TraceEntry) (q : Query) (it : Counterexample) →
    IsCounterexample policy c trace q it → Strong policy c trace q → ⊥
