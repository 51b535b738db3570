-- What a question fits, and what its answer may be recorded as.
use Rattle.std.proofs.Common.{◌≡◌, ◌↔◌, ◌∙◌, ap, sym, subst, ℕ, Bool, true, false, IfOk, IsTrue, List, [], ◌∷◌, Option, Some, None, Result, Ok, Err}
use Rattle.std.proofs.lemmas.List.Elements.{All-cons, All-contains_itself, All-nil, All-weaker}
use Rattle.std.specs.List.{All, Contains}
use Rattle.std.specs.Prelude.{MatchOption}
use Rattle.ba_direct.specs.Cover.{CoverCovers, Covered, IsCover}
use Rattle.ba_direct.specs.declared.covers.Cover.{Cover}
use Rattle.ba_comply.specs.declared.trace.TraceEntry.{TraceEntry}
use Rattle.ba_kernel.specs.Asked.{AnswersAreRecords, QuestionFits, RecordFits}
use Rattle.ba_kernel.specs.Courses.{ProblemFits}
use Rattle.ba_kernel.specs.Replays.{Closes, HasFault, ReplaysHaveOneEnd}
use Rattle.ba_kernel.specs.declared.problem.Problem.{Problem}
use Rattle.ba_kernel.specs.declared.replaying.ReplayFault.{ReplayFault}
use Rattle.ba_kernel.specs.declared.step.Step.{Step}
use Rattle.ba_model.specs.Fit.{IsQuery, kinds_of}
use Rattle.ba_model.specs.Meaning.{InAnswer, IsAnswer}
use Rattle.ba_model.specs.declared.policy.Context.{Context}
use Rattle.ba_model.specs.declared.policy.Policy.{Policy}
use Rattle.ba_model.specs.declared.query.Query.{Query}
use Rattle.ba_model.specs.declared.schema.Schema.{Schema}
use Rattle.ba_model.specs.declared.value.Value.{Value}
use Rattle.ba_sql_query.specs.Texts.{query_of}
use Rattle.ba_sql_query.specs.declared.fault.ReadQueryFault.{ReadQueryFault}
use Rattle.ba_audit.specs.Audits.{IsChecked}
use Rattle.ba_audit.specs.Lines.{reading_of}
use Rattle.ba_audit.specs.Keeping.{AskerFits}
use Rattle.ba_audit.specs.declared.request.Asker.{Asker}

pub question_fits : (policy : Policy) (asker : Asker) (q : Query) → IsChecked policy → AskerFits policy asker → IsQuery policy.schema (kinds_of policy.params) [] q → QuestionFits policy asker.context asker.trace q
question_fits policy asker q checked fits asked = record {
  tables = checked.tables;
  rules = checked.rules;
  policy_fits = checked.fits;
  context = fits.context;
  trace_fits = fits.trace;
  asked = asked;
}

-- the answer of a question may be recorded
answer_fits : AnswersAreRecords → (policy : Policy) (asker : Asker) (q : Query) (rows : List (List Value)) → QuestionFits policy asker.context asker.trace q → AskerFits policy asker →
    IsAnswer q asker.context asker.tables.rows rows → RecordFits policy (record { query = q; rows = rows })
answer_fits law policy asker q rows fits asker_fits answer =
    law policy asker.context asker.tables.rows (record { query = q; rows = rows }) fits.asked asker_fits.conform fits.context
    (All-weaker (Contains rows) (InAnswer q asker.context asker.tables.rows) answer.sound rows (All-contains_itself rows))

-- and so what is added of it, its rows by another name
pub added_fits : AnswersAreRecords → (policy : Policy) (asker : Asker) (q : Query) (rows kept : List (List Value)) → kept ≡ rows → QuestionFits policy asker.context asker.trace q → AskerFits policy asker →
    IsAnswer q asker.context asker.tables.rows rows → All (RecordFits policy) (record { query = q; rows = kept } ∷ [])
added_fits law policy asker q rows kept same fits asker_fits answer =
    subst (λ r. All (RecordFits policy) (record { query = q; rows = r } ∷ [])) (sym same)
    (All-cons (RecordFits policy) (record { query = q; rows = rows }) [] (answer_fits law policy asker q rows fits asker_fits answer) (All-nil (RecordFits policy)))

-- what is found of a cover, with the policy and the query by other names
module _ (law : CoverCovers) (policy seen : Policy) (c : Context) (q seen_query : Query) (same : seen ≡ policy) (same_query : seen_query ≡ q) (found : Option Cover)
    (told : MatchOption found (Covered seen c seen_query → ⊥) (IsCover seen c seen_query)) where
  pub covered_yes : (cover : Cover) → found ≡ Some cover → IsTrue true ↔ Covered policy c q
  covered_yes cover is =
      let it : IsCover seen c seen_query cover = subst (λ z. MatchOption z (Covered seen c seen_query → ⊥) (IsCover seen c seen_query)) is told in
      let covered : Covered policy c q = subst (λ z. Covered policy c z) same_query (subst (λ z. Covered z c seen_query) same (law seen c seen_query cover it)) in
      (λ t. covered, λ h. cc)

  pub covered_no : found ≡ None → IsTrue false ↔ Covered policy c q
  covered_no is =
      let none : Covered seen c seen_query → ⊥ = subst (λ z. MatchOption z (Covered seen c seen_query → ⊥) (IsCover seen c seen_query)) is told in
      (λ t. cc, λ h. absurd (none (subst (λ z. Covered z c seen_query) (sym same) (subst (λ z. Covered policy c z) (sym same_query) h))))

-- what a text reads as, with the policy, its schema and the text by other names
pub read_is : (policy first second : Policy) (schema : Schema) (text seen : List ℕ) → first ≡ policy → schema ≡ first.schema → second ≡ policy → seen ≡ text → (r : Result Query ReadQueryFault) →
    query_of schema second.params seen ≡ r → reading_of policy text ≡ r
read_is policy first second schema text seen same_first same_schema same_second same_text r h =
    sym (ap (λ z. query_of z second.params seen) (same_schema ∙ ap (λ z. z.schema) same_first) ∙ ap (λ z. query_of policy.schema z.params seen) same_second ∙ ap (λ z. query_of policy.schema policy.params z) same_text) ∙ h

-- ---- replays

-- what steps come to, with the problem and the steps by other names
module _ {E : Type 0} (p seen : Problem) (same : seen ≡ p) (steps copy : List Step) (same_steps : copy ≡ steps) (r : Result Bool E) where
  as_named : Closes seen copy → Closes p steps
  as_named h = subst (λ z. Closes z steps) same (subst (Closes seen) same_steps h)

  by_name : Closes p steps → Closes seen copy
  by_name h = subst (Closes seen) (sym same_steps) (subst (λ z. Closes z steps) (sym same) h)

  pub closes_yes : Closes seen copy → r ≡ Ok true → IfOk r (λ b. IsTrue b ↔ Closes p steps)
  closes_yes h is = subst (λ z. IfOk z (λ b. IsTrue b ↔ Closes p steps)) (sym is) (λ t. as_named h, λ closes. cc)

  pub closes_no : ReplaysHaveOneEnd → ProblemFits seen → (fault : ReplayFault) → HasFault seen copy fault → r ≡ Ok false → IfOk r (λ b. IsTrue b ↔ Closes p steps)
  closes_no law fits fault h is =
      subst (λ z. IfOk z (λ b. IsTrue b ↔ Closes p steps)) (sym is)
      (λ t. cc, λ closes. absurd ((law seen copy fits).no_fault fault (by_name closes) h))

  pub closes_unknown : (e : E) → r ≡ Err e → IfOk r (λ b. IsTrue b ↔ Closes p steps)
  closes_unknown e is = subst (λ z. IfOk z (λ b. IsTrue b ↔ Closes p steps)) (sym is) tt
