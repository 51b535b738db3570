-- Traces of answers, whose problems fit.
use Rattle.std.proofs.Common.{◌≡◌, ◌∙◌, List, [], ◌∷◌, ◌++◌, Result, Ok, Err, subst, sym}
use Rattle.std.proofs.lemmas.List.Elements.{All-contains_itself, All-push, All-weaker}
use Rattle.std.specs.List.{All, Contains}
use Rattle.std.specs.Result.{IfOk, OnOk}
use Rattle.ba_comply.specs.declared.trace.TraceEntry.{TraceEntry}
use Rattle.ba_kernel.specs.Asked.{AnswersAreRecords, RecordFits}
use Rattle.ba_model.specs.Conform.{Conforms}
use Rattle.ba_model.specs.Fit.{ContextFits, IsQuery, kinds_of}
use Rattle.ba_model.specs.Meaning.{InAnswer, IsAnswer}
use Rattle.ba_model.specs.declared.policy.Context.{Context}
use Rattle.ba_model.specs.declared.policy.Policy.{Policy}
use Rattle.ba_model.specs.declared.query.Query.{Query}
use Rattle.ba_model.specs.declared.schema.Schema.{Schema}
use Rattle.ba_model.specs.declared.value.RowSet.{RowSet}
use Rattle.ba_model.specs.declared.value.Value.{Value}

-- an answer may be recorded
pub record_of : AnswersAreRecords → (policy : Policy) (c : Context) (schema : Schema) (d : RowSet) (q asked kept : Query) (found rows : List (List Value)) → schema ≡ policy.schema
    → Conforms schema d → ContextFits (kinds_of policy.params) c → IsQuery policy.schema (kinds_of policy.params) [] q → asked ≡ q → kept ≡ q → IsAnswer asked c d found
    → rows ≡ found → RecordFits policy (record { query = kept; rows = rows })
record_of law policy c schema d q asked kept found rows same conforms context fits is copied answer told =
    let it : TraceEntry = record { query = kept; rows = rows } in
    let here : IsAnswer kept c d rows = subst (λ (x : Query). IsAnswer x c d rows) (is ∙ sym copied) (subst (λ (rs : List (List Value)). IsAnswer asked c d rs) (sym told) answer) in
    law policy c d it (subst (IsQuery policy.schema (kinds_of policy.params) []) (sym copied) fits) (subst (λ (s : Schema). Conforms s d) same conforms) context
    (All-weaker (Contains rows) (InAnswer kept c d) here.sound rows (All-contains_itself rows))

-- one more entry
pub grown : {T E X : Type 0} (P : X → Type 0) (old new : List X) (it : X) (r : Result T E) → OnOk r (new ≡ old ++ it ∷ []) → All P old → P it → OnOk r (All P new)
grown P old new it (Ok t) pushed all one = subst (All P) (sym pushed) (All-push P old it all one)
grown P old new it (Err e) pushed all one = tt

-- what a trace that was made records
pub recorded : {E : Type 0} (policy seen : Policy) (r : Result (List TraceEntry) E) (trace : List TraceEntry) → seen ≡ policy → IfOk r (All (RecordFits seen)) → r ≡ Ok trace
    → All (RecordFits policy) trace
recorded {E} policy seen r trace same fits is =
    subst (λ (p : Policy). All (RecordFits p) trace) same (subst (λ (x : Result (List TraceEntry) E). IfOk x (All (RecordFits seen))) is fits)
