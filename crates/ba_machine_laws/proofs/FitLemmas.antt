-- The question of a request that may ask fits.
use Rattle.std.proofs.Common.{List, [], ◌∷◌, All, Contains}
use Rattle.std.proofs.lemmas.List.Elements.{All-cons, All-contains_itself, All-head, All-nil, All-tail, All-weaker}
use Rattle.ba_comply.specs.declared.trace.TraceEntry.{TraceEntry}
use Rattle.ba_kernel.specs.Asked.{AnswersAreRecords, QuestionFits, RecordFits}
use Rattle.ba_model.specs.Conform.{Conforms}
use Rattle.ba_model.specs.Fit.{ContextFits, IsQuery, kinds_of}
use Rattle.ba_model.specs.Meaning.{InAnswer, IsAnswer}
use Rattle.ba_model.specs.declared.policy.Context.{Context}
use Rattle.ba_model.specs.declared.policy.Policy.{Policy}
use Rattle.ba_model.specs.declared.query.Query.{Query}
use Rattle.ba_model.specs.declared.value.RowSet.{RowSet}
use Rattle.ba_session.specs.Asking.{IsRequestOf, IsServable}
use Rattle.ba_session.specs.declared.request.Request.{Request}

module _ (law : AnswersAreRecords) (policy : Policy) (c : Context) (d : RowSet) (conforms : Conforms policy.schema d) (context : ContextFits (kinds_of policy.params) c) where
  abbrev HasQuery : TraceEntry → Type 0
  HasQuery entry = IsQuery policy.schema (kinds_of policy.params) [] entry.query

  abbrev HasRows : TraceEntry → Type 0
  HasRows entry = IsAnswer entry.query c d entry.rows

  record_fits : (it : TraceEntry) → HasQuery it → HasRows it → RecordFits policy it
  record_fits it query answer =
      let rows : All (InAnswer it.query c d) it.rows = All-weaker (Contains it.rows) (InAnswer it.query c d) answer.sound it.rows (All-contains_itself it.rows) in
      law policy c d it query conforms context rows

  records_fit : (trace : List TraceEntry) → All HasQuery trace → All HasRows trace → All (RecordFits policy) trace
  records_fit [] queries answers = All-nil (RecordFits policy)
  records_fit (it ∷ trace) queries answers =
      All-cons (RecordFits policy) it trace (record_fits it (All-head HasQuery it trace queries) (All-head HasRows it trace answers))
      (records_fit trace (All-tail HasQuery it trace queries) (All-tail HasRows it trace answers))

pub question_fits : AnswersAreRecords → (policy : Policy) (asker : Request) (query : Query) → IsServable policy → IsRequestOf policy asker →
    IsQuery policy.schema (kinds_of policy.params) [] query → QuestionFits policy asker.context asker.trace query
question_fits law policy asker query checked may asked = record {
  tables = checked.tables;
  rules = checked.rules;
  policy_fits = checked.fits;
  context = may.context;
  trace_fits = records_fit law policy asker.context asker.tables.rows may.conforms may.context asker.trace may.queries may.recorded.entries;
  asked = asked;
}
