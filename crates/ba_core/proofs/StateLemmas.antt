-- What the machine keeps stands after each change.
use Rattle.std.proofs.Common.{◌≡◌, ◌≢◌, ◌∙◌, ℕ, ◌<◌, ◌≤◌, true, false, List, [], ◌∷◌, ◌++◌, Option, Some, Result, Ok, Err, length, sym, subst, ap, eqb, inl, inr, arith}
use Rattle.std.proofs.lemmas.Bool.Decides.{eqb_tells}
use Rattle.std.proofs.lemmas.List.Elements.{All-nil, All-push}
use Rattle.std.proofs.lemmas.Option.{slice_get_cases}
use Rattle.std.specs.BTreeMap.{is_at}
use Rattle.std.specs.Map.{lookup}
use Rattle.std.specs.Ordering.{nat_cmp}
use Rattle.std.specs.Result.{OnErr, OnOk}
use Rattle.std.specs.declared.alloc.AllocError.{AllocError}
use Rattle.std.specs.Prelude.{All, slice_get, ◌⊎◌}
use Rattle.ba_comply.specs.Comply.{Records}
use Rattle.ba_comply.specs.declared.trace.TraceEntry.{TraceEntry}
use Rattle.ba_core.specs.Runs.{IsCompliant}
use Rattle.ba_core.specs.State.{IsOpenRequest, IsState, IsVersion}
use Rattle.ba_core.specs.declared.opened.Answered.{Answered}
use Rattle.ba_core.specs.declared.opened.Opened.{Opened}
use Rattle.ba_facts.proofs.Elements.{get_append_old}
use Rattle.ba_kernel.specs.SearchStates.{Proof}
use Rattle.ba_model.specs.Conform.{Conforms}
use Rattle.ba_model.specs.Fit.{ContextFits, kinds_of}
use Rattle.ba_model.specs.Meaning.{IsAnswer}
use Rattle.ba_model.specs.declared.policy.Context.{Context}
use Rattle.ba_model.specs.declared.policy.Policy.{Policy}
use Rattle.ba_model.specs.declared.query.Query.{Query}
use Rattle.ba_model.specs.declared.schema.Schema.{Schema}
use Rattle.ba_model.specs.declared.value.Value.{Value}
use Rattle.ba_tables.specs.TableSet.{TableSet}

-- tables that conform to a schema equal to the policy's
pub is_version : (policy : Policy) (tables : TableSet) → tables.schema ≡ policy.schema → Conforms tables.schema tables.rows → IsVersion policy tables
is_version policy tables same conforms = record {
  schema = same;
  conforms = subst (λ (s : Schema). Conforms s tables.rows) same conforms;
}

-- the requests' versions stay where they are
asker_after : (policy : Policy) (versions more : List TableSet) (asker : Opened) → IsOpenRequest policy versions asker → IsOpenRequest policy (versions ++ more) asker
asker_after policy versions more asker h = record {
  context = h.context;
  tables = h.tables;
  pinned = get_append_old versions more asker.version h.tables h.pinned;
  recorded = h.recorded;
}

≤_absurd : (m n : ℕ) → m < n → n ≤ m → ⊥
≤_absurd m n less more = omega arith

-- one more version
pub published : (policy : Policy) (versions more : List TableSet) (templates : List Proof) (requests : List (ℕ × Opened)) (log : List Answered) (tables : TableSet)
    → IsState (record { policy = policy; versions = versions; templates = templates; requests = requests; log = log }) → tables.schema ≡ policy.schema → Conforms tables.schema tables.rows
    → more ≡ versions ++ tables ∷ [] → IsState (record { policy = policy; versions = more; templates = templates; requests = requests; log = log })
published policy versions more templates requests log tables h same conforms e =
    subst (λ (vs : List TableSet). IsState (record { policy = policy; versions = vs; templates = templates; requests = requests; log = log })) (sym e)
    (record {
      policy = h.policy;
      versions = All-push (IsVersion policy) versions tables h.versions (is_version policy tables same conforms);
      requests = λ k asker is. asker_after policy versions (tables ∷ []) asker (h.requests k asker is);
    })

-- one more template
pub admitted : (policy : Policy) (versions : List TableSet) (templates more : List Proof) (requests : List (ℕ × Opened)) (log : List Answered)
    → IsState (record { policy = policy; versions = versions; templates = templates; requests = requests; log = log })
    → IsState (record { policy = policy; versions = versions; templates = more; requests = requests; log = log })
admitted policy versions templates more requests log h = record { policy = h.policy; versions = h.versions; requests = h.requests }

-- one version
pub first_state : (policy : Policy) (tables : TableSet) → tables.schema ≡ policy.schema → Conforms tables.schema tables.rows → All (IsVersion policy) (tables ∷ [])
first_state policy tables same conforms = All-push (IsVersion policy) [] tables (All-nil (IsVersion policy)) (is_version policy tables same conforms)

-- one number's request is changed
module _ (policy : Policy) (versions : List TableSet) (templates : List Proof) (before after : List (ℕ × Opened)) (log more : List Answered) (k : ℕ) (it : Option Opened)
    (h : IsState (record { policy = policy; versions = versions; templates = templates; requests = before; log = log }))
    (here : lookup (is_at (nat_cmp k)) after ≡ it)
    (others : (j : ℕ) → j ≢ k → lookup (is_at (nat_cmp j)) after ≡ lookup (is_at (nat_cmp j)) before)
    (fits : (asker : Opened) → it ≡ Some asker → IsOpenRequest policy versions asker) where
  asker_at : (j : ℕ) (asker : Opened) → lookup (is_at (nat_cmp j)) after ≡ Some asker → ((eqb j k ≡ true) × (j ≡ k)) ⊎ ((eqb j k ≡ false) × (j ≢ k)) → IsOpenRequest policy versions asker
  asker_at j asker is (inl same) = fits asker (sym here ∙ ap (λ n. lookup (is_at (nat_cmp n)) after) (sym same.1) ∙ is)
  asker_at j asker is (inr apart) = h.requests j asker (sym (others j apart.1) ∙ is)

  pub changed : IsState (record { policy = policy; versions = versions; templates = templates; requests = after; log = more })
  changed = record {
    policy = h.policy;
    versions = h.versions;
    requests = λ j asker is. asker_at j asker is (eqb_tells j k);
  }

-- a request that begins
asker_at_start : (policy : Policy) (versions : List TableSet) (context : Context) (version : ℕ) (tables : TableSet) → ContextFits (kinds_of policy.params) context
    → slice_get versions version ≡ Some tables → IsOpenRequest policy versions (record { context = context; version = version; trace = [] })
asker_at_start policy versions context version tables fits is = record {
  context = fits;
  tables = tables;
  pinned = is;
  recorded = record { entries = All-nil (λ (entry : TraceEntry). IsAnswer entry.query context tables.rows entry.rows) };
}

pub asker_begun : (policy : Policy) (versions : List TableSet) (context : Context) (version : ℕ) → ContextFits (kinds_of policy.params) context → version < length versions
    → IsOpenRequest policy versions (record { context = context; version = version; trace = [] })
asker_begun policy versions context version fits there =
    let (is, cases) = slice_get_cases versions version in
    elim cases [ inl found ↦ asker_at_start policy versions context version found.0 fits found.2 | inr past ↦ absurd (≤_absurd version (length versions) there past.0) ]

-- a request that was told an answer
pub asker_told : (policy : Policy) (versions : List TableSet) (asker : Opened) (tables : TableSet) (query : Query) (rows : List (List Value)) → IsOpenRequest policy versions asker
    → slice_get versions asker.version ≡ Some tables → Records asker.trace asker.context tables.rows → IsAnswer query asker.context tables.rows rows
    → IsOpenRequest policy versions (record asker { trace = asker.trace ++ record { query = query; rows = rows } ∷ [] })
asker_told policy versions asker tables query rows h pinned recorded answer = record {
  context = h.context;
  tables = tables;
  pinned = pinned;
  recorded = record {
    entries = All-push (λ (entry : TraceEntry). IsAnswer entry.query asker.context tables.rows entry.rows) asker.trace (record { query = query; rows = rows }) recorded.entries answer;
  };
}

some_is : {X : Type 0} (x y : X) → Some x ≡ Some y → x ≡ y
some_is x y e = cc

-- the only request that may be there
pub only : (policy : Policy) (versions : List TableSet) (it : Opened) → IsOpenRequest policy versions it → (asker : Opened) → Some it ≡ Some asker → IsOpenRequest policy versions asker
only policy versions it h asker is = subst (IsOpenRequest policy versions) (some_is it asker is) h

-- an answer that was recorded, or for which there was no memory
pub kept : (policy : Policy) (versions : List TableSet) (templates : List Proof) (before after : List (ℕ × Opened)) (log more : List Answered) (k : ℕ) (query : Query) (rows : List (List Value))
    (r : Result Unit AllocError)
    → IsState (record { policy = policy; versions = versions; templates = templates; requests = before; log = log })
    → IsCompliant (record { policy = policy; versions = versions; templates = templates; requests = before; log = log }) k query rows
    → OnOk r ((asker : Opened) → lookup (is_at (nat_cmp k)) before ≡ Some asker → lookup (is_at (nat_cmp k)) after ≡ Some (record asker { trace = asker.trace ++ record { query = query; rows = rows } ∷ [] }))
    → OnOk r ((j : ℕ) → j ≢ k → lookup (is_at (nat_cmp j)) after ≡ lookup (is_at (nat_cmp j)) before)
    → OnErr r (after ≡ before)
    → IsState (record { policy = policy; versions = versions; templates = templates; requests = after; log = more })
kept policy versions templates before after log more k query rows (Ok u) h it here others err =
    let told : Opened = record it.asker { trace = it.asker.trace ++ record { query = query; rows = rows } ∷ [] } in
    changed policy versions templates before after log more k (Some told) h (here it.asker it.is_open) others
    (only policy versions told (asker_told policy versions it.asker it.tables query rows (h.requests k it.asker it.is_open) it.pinned it.recorded it.answer))
kept policy versions templates before after log more k query rows (Err e) h it here others err =
    subst (λ (es : List (ℕ × Opened)). IsState (record { policy = policy; versions = versions; templates = templates; requests = es; log = more })) (sym err)
    (record { policy = h.policy; versions = h.versions; requests = h.requests })
