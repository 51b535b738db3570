-- What a search over told rows alone shows.
use Rattle.std.proofs.Common.{◌≡◌, ◌≢◌, ◌∙◌, refl, sym, ap, subst, List, [], ◌∷◌, Option, Some, None, Result, Ok, Err, IfOk, IfSome}
use Rattle.std.proofs.lemmas.List.Elements.{All-head, All-nil, All-weaker}
use Rattle.std.specs.List.{All, Contains}
use Rattle.std.specs.Prelude.{MatchOption}
use Rattle.ba_comply.specs.Comply.{Strong}
use Rattle.ba_comply.specs.declared.trace.TraceEntry.{TraceEntry}
use Rattle.ba_contradict.proofs.EmptyLemmas.{none_shows}
use Rattle.ba_contradict.specs.Contradictions.{BeginsWith, Contradicted, IsOpenEnd, IsOutcome, ProvedBy, StaysOpen, ToldFits, Unproved, first_told, told_alone, with_row, without_views}
use Rattle.ba_kernel.specs.Asked.{QuestionFits, RecordFits}
use Rattle.ba_kernel.specs.Problems.{StrongAll, problem_of}
use Rattle.ba_kernel.specs.SearchStates.{Proof}
use Rattle.ba_kernel.specs.declared.problem.Problem.{Problem}
use Rattle.ba_kernel.specs.declared.step.Step.{Step}
use Rattle.ba_model.proofs.ElementLemmas.{Contains-head}
use Rattle.ba_model.specs.Fit.{IsQuery, KeyFits, PolicyFits, kinds_of}
use Rattle.ba_model.specs.declared.policy.Context.{Context}
use Rattle.ba_model.specs.declared.policy.Policy.{Policy}
use Rattle.ba_model.specs.declared.policy.View.{View}
use Rattle.ba_model.specs.declared.query.Query.{Query}
use Rattle.ba_model.specs.declared.value.Value.{Value}
use Rattle.ba_settle.proofs.SettledLemmas.{proof_problem}
use Rattle.ba_settle.specs.Settling.{Effort, Settles}
use Rattle.ba_settle.specs.declared.ends.Settled.{Settled}
use Rattle.ba_settle.specs.declared.ends.Settled.TheVariants as settled

-- ---- the first told query

rows_there : (q found : Query) (rows : List (List Value)) → with_row q rows ≡ Some found →
    (rows ≢ []) × (q ≡ found)
rows_there q found [] e = cc
rows_there q found (row ∷ rows) e = (λ none. cc, cc)

-- where there is one, the trace begins with its entry
pub record IsTold (trace : List TraceEntry) (q : Query) : Type 0 where
  pub entry : TraceEntry
  pub begins : BeginsWith trace entry
  pub query : entry.query ≡ q

pub told_first : (trace : List TraceEntry) (q : Query) → first_told trace ≡ Some q → IsTold trace q
told_first [] q e = cc
told_first (entry ∷ rest) q e =
    let there = rows_there entry.query q entry.rows e in
    record {
      entry = entry;
      begins = record { rest = rest; are = refl; some_row = there.0 };
      query = there.1;
    }

begins_told : (trace : List TraceEntry) (entry : TraceEntry) → BeginsWith trace entry →
    first_told trace ≡ Some entry.query
begins_told trace entry h = ap first_told h.are ∙ told entry.rows h.some_row
  where
    told : (rows : List (List Value)) → rows ≢ [] → with_row entry.query rows ≡ Some entry.query
    told [] some = absurd (some refl)
    told (row ∷ rows) some = refl

same_query : (q found : Query) → Some q ≡ Some found → q ≡ found
same_query q found e = cc

-- ---- the question under the policy without views

bare_record : (policy : Policy) (it : TraceEntry) → RecordFits policy it →
    RecordFits (without_views policy) it
bare_record policy it h = record { query = h.query; rows = h.rows }

bare_policy : (policy : Policy) → PolicyFits (without_views policy)
bare_policy policy = record {
  views = All-nil (λ (view : View). IsQuery policy.schema (kinds_of policy.params) [] view.query);
  keys = All-nil (KeyFits (without_views policy));
}

told_record : (policy : Policy) (c : Context) (trace : List TraceEntry) → ToldFits policy c trace →
    (entry : TraceEntry) → BeginsWith trace entry → RecordFits policy entry
told_record policy c trace fits entry begins =
    All-head (RecordFits policy) entry begins.rest
    (subst (All (RecordFits policy)) begins.are fits.trace_fits)

bare_fits : (policy : Policy) (c : Context) (trace : List TraceEntry) → ToldFits policy c trace →
    (q : Query) → IsTold trace q → QuestionFits (without_views policy) c trace q
bare_fits policy c trace fits q told = record {
  tables = fits.tables;
  rules = fits.rules;
  policy_fits = bare_policy policy;
  context = fits.context;
  trace_fits = All-weaker (RecordFits policy) (RecordFits (without_views policy))
      (bare_record policy) trace fits.trace_fits;
  asked = subst (IsQuery policy.schema (kinds_of policy.params) []) told.query
      (told_record policy c trace fits told.entry told.begins).query;
}

-- under a policy, the same under another name, and a query that is the first told
pub fits_blind : (policy blind : Policy) (c : Context) (trace : List TraceEntry) (q : Query) →
    blind ≡ without_views policy → ToldFits policy c trace → first_told trace ≡ Some q →
    QuestionFits blind c trace q
fits_blind policy blind c trace q same fits first =
    subst (λ it. QuestionFits it c trace q) (sym same)
    (bare_fits policy c trace fits q (told_first trace q first))

-- ---- what the search finds

-- where nothing begins the trace there is nothing to search for
pub nothing_told : (policy : Policy) (c : Context) (trace : List TraceEntry) (effort : Effort) →
    first_told trace ≡ None → StaysOpen policy c trace effort
nothing_told policy c trace effort none = record {
  unproved = λ entry begins.
      absurd (some_none entry.query (sym (begins_told trace entry begins) ∙ none));
}
  where
    some_none : (q : Query) → Some q ≡ None → ⊥
    some_none q e = cc

module _ (policy : Policy) (c : Context) (trace : List TraceEntry) (effort : Effort) (q : Query)
    (first : first_told trace ≡ Some q) (fits : ToldFits policy c trace) where
  stays_open : Unproved (told_alone policy c trace q) effort → StaysOpen policy c trace effort
  stays_open none_found = record {
    unproved = λ entry begins.
        let same = same_query q entry.query (sym first ∙ begins_told trace entry begins) in
        subst (λ it. Unproved (told_alone policy c trace it) effort) same none_found;
  }

  contradicted : (steps : List Step) → ProvedBy (told_alone policy c trace q) effort steps →
      Strong (without_views policy) c trace q → Contradicted policy c trace effort steps
  contradicted steps proved strong =
      let told = told_first trace q first in
      let entry = told.entry in
      let back = sym told.query in
      let there = subst (λ all. Contains all entry) (sym told.begins.are)
      (Contains-head entry told.begins.rest) in
      let own = told_record policy c trace fits entry told.begins in
      record {
        closes = record {
          entry = entry;
          begins = told.begins;
          proved = subst (λ it. ProvedBy (told_alone policy c trace it) effort steps) back proved;
        };
        none = record {
          none = none_shows (without_views policy) refl c trace entry there told.begins.some_row
              own.query fits.rules (subst (Strong (without_views policy) c trace) back strong);
        };
      }

  outcome : (found : Option (List Step)) → IsOutcome (told_alone policy c trace q) effort found →
      IfSome found (λ steps. Strong (without_views policy) c trace q) →
      MatchOption found (StaysOpen policy c trace effort) (Contradicted policy c trace effort)
  outcome None none_found strong = stays_open none_found
  outcome (Some steps) proved strong = contradicted steps proved strong

  -- of a search under that policy by another name
  pub told : {E : Type 0} (blind : Policy) → blind ≡ without_views policy →
      (result : Result (Option (List Step)) E) →
      IfOk result (IsOutcome (problem_of blind c trace q) effort) →
      IfOk result (λ found. IfSome found (λ steps. Strong blind c trace q)) →
      IfOk result (λ found. MatchOption found (StaysOpen policy c trace effort)
      (Contradicted policy c trace effort))
  told blind same (Ok found) is strong =
      outcome found (subst (λ it. IsOutcome (problem_of it c trace q) effort found) same is)
      (subst (λ it. IfSome found (λ steps. Strong it c trace q)) same strong)
  told blind same (Err e) is strong = tt

-- ---- a search

module _ (p : Problem) (effort : Effort) (problem : Problem) (is : problem ≡ p) (end : Settled)
    (ends : Settles effort problem end) where
  pub ends_at : (it : Settled) → end ≡ it → Settles effort p it
  ends_at it e =
      subst (λ z. Settles effort p z) e (subst (λ z. Settles effort z end) is ends)

  pub ends_proved : (proof : Proof) → end ≡ settled.Proved proof → (steps : List Step) →
      steps ≡ proof.steps → ProvedBy p effort steps
  ends_proved proof e steps steps_are =
      let here = ends_at (settled.Proved proof) e in
      let same = proof_problem effort p proof here in
      let it : proof ≡ record { problem = p; steps = steps } =
      λ i. record { problem = same i; steps = sym steps_are i } in
      subst (λ (z : Proof). Settles effort p (settled.Proved z)) it here

  pub proves : (proof : Proof) → end ≡ settled.Proved proof → StrongAll proof.problem → StrongAll p
  proves proof e strong =
      subst StrongAll (proof_problem effort p proof (ends_at (settled.Proved proof) e)) strong

  pub ends_open : (it : Settled) → end ≡ it → IsOpenEnd it → Unproved p effort
  ends_open it e is_open = record { end = it; ends = ends_at it e; open_ = is_open }
