-- What the loops over rows, views and entries say together.
use Rattle.std.proofs.Common.{◌≡◌, ◌∙◌, ◌↔◌, Bool, false, IsTrue, List, All, Result, Ok, Err, subst}
use Rattle.std.proofs.lemmas.List.Elements.{All-contains}
use Rattle.std.specs.List.{AllZip}
use Rattle.std.specs.Result.{IfOk}
use Rattle.ba_comply.proofs.ComplyLemmas.{All-from_contains}
use Rattle.ba_comply.specs.Comply.{AnswerWithin, Shows, Within}
use Rattle.ba_comply.specs.declared.trace.TraceEntry.{TraceEntry}
use Rattle.ba_model.specs.Conform.{Conforms, RuleHolds, TableConforms, no_context}
use Rattle.ba_model.specs.Meaning.{InAnswer, IsAnswer}
use Rattle.ba_model.specs.declared.policy.Context.{Context}
use Rattle.ba_model.specs.declared.policy.Policy.{Policy}
use Rattle.ba_model.specs.declared.policy.View.{View}
use Rattle.ba_model.specs.declared.query.Query.{Query}
use Rattle.ba_model.specs.declared.schema.Rule.{Rule}
use Rattle.ba_model.specs.declared.schema.Schema.{Schema}
use Rattle.ba_model.specs.declared.value.RowSet.{RowSet}
use Rattle.ba_model.specs.declared.value.Value.{Value}
use Rattle.ba_refute.specs.Counterexamples.{EntryIsShown, RowsPass, ViewsWithin}

pub as_within : {q : Query} {c : Context} {d e : RowSet} (b : Bool) → (IsTrue b ↔ RowsPass c q d q e) → IsTrue b ↔ AnswerWithin q c d e
as_within b test = (λ t. record { rows = test.0 t }, λ h. test.1 h.rows)

-- a test of all rows of an answer
pub answer_passes : {E : Type 0} {p : Query} {c : Context} {d : RowSet} {rows shown : List (List Value)} (q : Query) (e : RowSet) (tested : Result Bool E) → IsAnswer p c d rows → shown ≡ rows → IfOk tested (λ found. IsTrue found ↔ All (InAnswer q c e) shown) → IfOk tested (λ found. IsTrue found ↔ RowsPass c p d q e)
answer_passes {E} {p} {c} {d} {rows} {shown} q e (Err x) answer same test = test
answer_passes {E} {p} {c} {d} {rows} {shown} q e (Ok found) answer same test =
    let all : IsTrue found ↔ All (InAnswer q c e) rows = subst (λ rs. IsTrue found ↔ All (InAnswer q c e) rs) same test in (
      λ t r h. All-contains (InAnswer q c e) rows r (all.0 t) (answer.complete r h),
      λ h. all.1 (all_of h),
    )
  where
    all_of : RowsPass c p d q e → All (InAnswer q c e) rows
    all_of h = All-from_contains (InAnswer q c e) rows (λ r k. h r (answer.sound r k))

-- a rule is tested under a context that is no context
pub as_rule : (rule : Rule) (d : RowSet) {c : Context} (b : Bool) → c ≡ no_context → (IsTrue b ↔ RowsPass c rule.left d rule.right d) → IsTrue b ↔ RuleHolds d rule
as_rule rule d b same test = subst (λ x. IsTrue b ↔ RowsPass x rule.left d rule.right d) same test

pub tables_differ : (s : Schema) (d : RowSet) → (IsTrue false ↔ AllZip (TableConforms d) s.tables d.tables) → IsTrue false ↔ Conforms s d
tables_differ s d test = (λ t. cc, λ h. test.1 h.tables)

pub tables_agree : {E : Type 0} (s : Schema) (d : RowSet) (tested : Result Bool E) → AllZip (TableConforms d) s.tables d.tables → IfOk tested (λ found. IsTrue found ↔ All (RuleHolds d) s.rules) → IfOk tested (λ found. IsTrue found ↔ Conforms s d)
tables_agree s d (Err x) tables test = test
tables_agree s d (Ok found) tables test = (λ t. record { tables = tables; rules = test.0 t }, λ h. test.1 h.rules)

-- an entry is tested through what holds its query and its rows
pub as_shown : {E : Type 0} (c : Context) (d : RowSet) (entry : TraceEntry) {q : Query} {rows shown : List (List Value)} (tested : Result Bool E) → q ≡ entry.query → shown ≡ rows → rows ≡ entry.rows → IfOk tested (λ found. IsTrue found ↔ All (InAnswer q c d) shown) → IfOk tested (λ found. IsTrue found ↔ EntryIsShown c d entry)
as_shown {E} c d entry {q} {rows} {shown} tested asked seen held test =
    subst (λ x. IfOk tested (λ found. IsTrue found ↔ All (InAnswer x c d) entry.rows)) asked
    (subst (λ x. IfOk tested (λ found. IsTrue found ↔ All (InAnswer q c d) x)) (seen ∙ held) test)

pub all_within : {E : Type 0} (policy : Policy) {views : List View} (c : Context) (d e : RowSet) (tested : Result Bool E) → views ≡ policy.views → IfOk tested (λ found. IsTrue found ↔ ViewsWithin views c d e) → IfOk tested (λ found. IsTrue found ↔ Within policy c d e)
all_within policy c d e (Err x) same test = test
all_within policy {views} c d e (Ok found) same test =
    let its : IsTrue found ↔ ViewsWithin policy.views c d e = subst (λ vs. IsTrue found ↔ ViewsWithin vs c d e) same test in
    (λ t. record { views = its.0 t }, λ h. its.1 h.views)

pub all_shown : {E : Type 0} (trace : List TraceEntry) (c : Context) (d : RowSet) (tested : Result Bool E) → IfOk tested (λ found. IsTrue found ↔ All (EntryIsShown c d) trace) → IfOk tested (λ found. IsTrue found ↔ Shows trace c d)
all_shown trace c d (Err x) test = test
all_shown trace c d (Ok found) test = (λ t. record { entries = test.0 t }, λ h. test.1 h.entries)
