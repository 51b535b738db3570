-- The problem of a proof file that was read is one of a question.
use Rattle.std.proofs.Common.{◌≡◌, ℕ, List, [], ◌∷◌, All, Bool, true, false, ◌&&◌, cond, Option, Some, None, refl, subst, codes}
use Rattle.std.specs.Prelude.{Result, Ok, Err}
use Rattle.std.specs.List.{AllByRecursion}
use Rattle.std.specs.Str.{bytes_eq, is_utf8}
use Rattle.std.proofs.lemmas.List.Elements.{All-from_recursion}
use Rattle.serde_json.specs.Data.{Data, Members, no_members, member}
use Rattle.serde_json.specs.Find.{as_object, get}
use Rattle.serde_json.specs.Read.{read}
use Rattle.ba_lex.specs.Tokens.{lexemes_of, tokens_of}
use Rattle.ba_model.specs.Fit.{IsQuery, kinds_of}
use Rattle.ba_model.specs.Readings.{◌>>=◌, each, widened}
use Rattle.ba_model.specs.Limits.{most_query_bytes}
use Rattle.ba_model.specs.declared.policy.Parameter.{Parameter}
use Rattle.ba_model.specs.declared.policy.Policy.{Policy}
use Rattle.ba_model.specs.declared.query.Query.{Query}
use Rattle.ba_model.specs.declared.schema.Schema.{Schema}
use Rattle.ba_comply.specs.declared.trace.TraceEntry.{TraceEntry}
use Rattle.ba_kernel.specs.Asked.{RecordFits}
use Rattle.ba_kernel.specs.Problems.{problem_of}
use Rattle.ba_kernel.specs.declared.problem.Problem.{Problem}
use Rattle.ba_general.specs.Generals.{IsOfQuestion}
use Rattle.ba_sql_syntax.specs.Written.{written_of}
use Rattle.ba_sql_syntax.specs.declared.written.QueryText.{QueryText}
use Rattle.ba_sql_query.specs.Errors.{lex_fault, syntax_fault}
use Rattle.ba_sql_query.specs.Meaning.{fault_of, query_of_parts, query_of_selects, query_of_written, unless}
use Rattle.ba_sql_query.specs.Parts.{parts_of}
use Rattle.ba_sql_query.specs.Resolve.{names_of}
use Rattle.ba_sql_query.specs.Texts.{query_of, query_of_words}
use Rattle.ba_sql_query.specs.declared.fault.ReadQueryFault.{ReadQueryFault}
use Rattle.ba_sql_query.proofs.PartsLemmas.{parts_fit}
use Rattle.ba_sql_query.proofs.ResolvedLemmas.{names_good}
use Rattle.ba_proof.specs.Checked.{IsPolicy}
use Rattle.ba_proof.specs.Reading.{context_at, entries_at, entry_at, entry_form, entry_of, entry_with, few_at, fields_of, fields_or, goal_at, keys_at, proof_of, proof_or, proof_with, query_at, question_at, row_of, steps_at, version_at}
use Rattle.ba_proof.specs.Shapes.{list_at, or_bad, text_at}
use Rattle.ba_proof.specs.declared.fault.ProofFault.{ProofFault}
use Rattle.ba_proof.specs.declared.fault.ProofFault.TheVariants.{BadField}
use Rattle.ba_proof.specs.declared.fault.ProofField.{ProofField}
use Rattle.ba_proof.specs.declared.fault.ProofField.TheVariants as field
use Rattle.ba_proof.specs.declared.proof.Proof.{Proof}
use Rattle.ba_proof.proofs.FitLemmas.{question_fits, record_fits}

bound : {A B F : Type 0} (r : Result A F) (f : A → Result B F) (y : B) → (r >>= f) ≡ Ok y → (x : A) × (r ≡ Ok x) × (f x ≡ Ok y)
bound (Ok x) f y e = (x, refl, e)
bound (Err r) f y e = cc e

chosen : {A F : Type 0} (b : Bool) (r : Result A F) (fault : F) (x : A) → cond b r (Err fault) ≡ Ok x → r ≡ Ok x
chosen true r fault x e = e
chosen false r fault x e = cc e

narrowed : {A F G : Type 0} (into : F → G) (r : Result A F) (x : A) → widened into r ≡ Ok x → r ≡ Ok x
narrowed into (Ok y) x e = cc e
narrowed into (Err f) x e = cc e

-- ---- queries

no_fault : (fault : Option ReadQueryFault) (p q : Query) → unless fault p ≡ Ok q → (fault ≡ None) × (p ≡ q)
no_fault None p q e = (refl, cc e)
no_fault (Some f) p q e = cc e

selects_are : (schema : Schema) (params : List Parameter) (text : QueryText) (q : Query) → query_of_written schema params text ≡ Ok q → IsQuery schema (kinds_of params) [] q
unfolding query_of_written
selects_are schema params text q e =
    let selects = bound (names_of schema params text) (query_of_selects schema params) q e in
    let made = no_fault (fault_of schema params selects.0) (query_of_parts (parts_of selects.0)) q selects.2 in
    subst (IsQuery schema (kinds_of params) []) made.1
    (parts_fit schema params selects.0 (parts_of selects.0) (names_good schema params text selects.0 selects.1) made.0 refl)

text_is : (schema : Schema) (params : List Parameter) (text : List ℕ) (q : Query) → query_of schema params text ≡ Ok q → IsQuery schema (kinds_of params) [] q
unfolding query_of query_of_words
text_is schema params text q e =
    let tokens = bound (widened lex_fault (tokens_of most_query_bytes text)) (λ it. query_of_words schema params (lexemes_of it)) q e in
    let written = bound (widened syntax_fault (written_of (lexemes_of tokens.0))) (query_of_written schema params) q tokens.2 in
    selects_are schema params written.0 q written.2

query_is : (it : ProofField) (schema : Schema) (params : List Parameter) (d : Data) (q : Query) → query_at it schema params d ≡ Ok q → IsQuery schema (kinds_of params) [] q
query_is it schema params d q e =
    let into : ReadQueryFault → ProofFault = λ fault. BadField it in
    let text = bound (text_at it d) (λ s. widened into (query_of schema params s)) q e in
    text_is schema params text.0 q (narrowed into (query_of schema params text.0) q text.2)

goal_is : (schema : Schema) (params : List Parameter) (found : Option Data) (q : Query) → goal_at schema params found ≡ Ok q → IsQuery schema (kinds_of params) [] q
unfolding goal_at
goal_is schema params found q e =
    let d = bound (or_bad field.Goal found) (query_at field.Goal schema params) q e in
    query_is field.Goal schema params d.0 q d.2

-- ---- entries

module _ (policy : Policy) where
  entry_is : (d e : Data) (it : TraceEntry) → entry_of policy.schema policy.params d e ≡ Ok it → RecordFits policy it
  unfolding entry_of
  entry_is d e it h =
      let query = bound (query_at field.Entries policy.schema policy.params d) (λ q. (list_at field.Entries e >>= row_of policy.schema policy.params q >>= λ row. Ok (entry_with q row))) it h in
      let row = bound (list_at field.Entries e >>= row_of policy.schema policy.params query.0) (λ xs. Ok (entry_with query.0 xs)) it query.2 in
      let items = bound (list_at field.Entries e) (row_of policy.schema policy.params query.0) row.0 row.1 in
      let same : entry_with query.0 row.0 ≡ it = cc row.2 in
      subst (RecordFits policy) same (record_fits policy query.0 items.0 row.0 (query_is field.Entries policy.schema policy.params d query.0 query.1) items.2)

  form_is : (members : Members) (it : TraceEntry) → entry_form policy.schema policy.params members ≡ Ok it → RecordFits policy it
  form_is no_members it h = cc h
  form_is (member k d no_members) it h = cc h
  form_is (member k d (member l e no_members)) it h =
      entry_is d e it (chosen (bytes_eq k (codes "query") && bytes_eq l (codes "row")) (entry_of policy.schema policy.params d e) _ it h)
  form_is (member k d (member l e (member m f more))) it h = cc h

  object_is : (d : Data) (it : TraceEntry) → entry_at policy.schema policy.params d ≡ Ok it → RecordFits policy it
  object_is d it h =
      let members = bound (or_bad field.Entries (as_object d)) (entry_form policy.schema policy.params) it h in
      form_is members.0 it members.2

  each_is : (ds : List Data) (trace : List TraceEntry) → each (entry_at policy.schema policy.params) ds ≡ Ok trace → AllByRecursion (RecordFits policy) trace
  each_is [] trace h = let none : [] ≡ trace = cc h in subst (AllByRecursion (RecordFits policy)) none tt
  each_is (d ∷ ds) trace h =
      let first = bound (entry_at policy.schema policy.params d) (λ y. (each (entry_at policy.schema policy.params) ds >>= λ ys. Ok (y ∷ ys))) trace h in
      let rest = bound (each (entry_at policy.schema policy.params) ds) (λ ys. Ok (first.0 ∷ ys)) trace first.2 in
      let all : first.0 ∷ rest.0 ≡ trace = cc rest.2 in
      subst (AllByRecursion (RecordFits policy)) all (object_is d first.0 first.1, each_is ds rest.0 rest.1)

  entries_are : (found : Option Data) (trace : List TraceEntry) → entries_at policy.schema policy.params found ≡ Ok trace → All (RecordFits policy) trace
  unfolding entries_at
  entries_are found trace h =
      let items = bound (or_bad field.Entries found >>= list_at field.Entries) (each (entry_at policy.schema policy.params)) trace h in
      All-from_recursion (RecordFits policy) trace (each_is items.0 trace items.2)

  -- ---- the question

  question_is : (d : Data) (p : Problem) → IsPolicy policy → question_at policy d ≡ Ok p → IsOfQuestion p
  unfolding question_at
  question_is d p is h =
      let context = bound (context_at policy.params (get (codes "context") d)) _ p h in
      let trace = bound (entries_at policy.schema policy.params (get (codes "entries") d)) _ p context.2 in
      let goal = bound (goal_at policy.schema policy.params (get (codes "goal") d)) (λ q. Ok (problem_of policy context.0 trace.0 q)) p trace.2 in
      let same : problem_of policy context.0 trace.0 goal.0 ≡ p = cc goal.2 in
      subst IsOfQuestion same (record {
        context = context.0;
        trace = trace.0;
        fits = question_fits policy (get (codes "context") d) context.0 trace.0 goal.0 is context.1 (entries_are (get (codes "entries") d) trace.0 trace.1)
            (goal_is policy.schema policy.params (get (codes "goal") d) goal.0 goal.1);
        is = refl;
      })

  fields_are : (d : Data) (members : Members) (proof : Proof) → IsPolicy policy → fields_of policy d members ≡ Ok proof → IsOfQuestion proof.problem
  unfolding fields_of
  fields_are d members proof is h =
      let few = bound (few_at (get (codes "steps") d)) _ proof h in
      let version = bound (version_at (get (codes "version") d)) _ proof few.2 in
      let problem = bound (question_at policy d) _ proof version.2 in
      let steps = bound (steps_at policy.params version.0 (get (codes "steps") d)) _ proof problem.2 in
      let keys = bound (keys_at members) (λ u. Ok (proof_with problem.0 steps.0)) proof steps.2 in
      let same : proof_with problem.0 steps.0 ≡ proof = cc keys.2 in
      subst (λ (it : Proof). IsOfQuestion it.problem) same (question_is d problem.0 is problem.1)

  members_are : (d : Data) (found : Option Members) (proof : Proof) → IsPolicy policy → fields_or policy d found ≡ Ok proof → IsOfQuestion proof.problem
  members_are d None proof is h = cc h
  members_are d (Some members) proof is h = fields_are d members proof is h

  value_is : (found : Option Data) (proof : Proof) → IsPolicy policy → proof_or policy found ≡ Ok proof → IsOfQuestion proof.problem
  value_is None proof is h = cc h
  value_is (Some d) proof is h = members_are d (as_object d) proof is h

  -- what was read under a policy that was read
  pub proof_is_of_question : (bytes : List ℕ) (proof : Proof) → IsPolicy policy → proof_of policy bytes ≡ Ok proof → IsOfQuestion proof.problem
  unfolding proof_of
  proof_is_of_question bytes proof is h = value_is (read bytes) proof is (chosen (is_utf8 bytes) (proof_or policy (read bytes)) _ proof h)
