-- Where the problem of a question is strongly compliant in every instance, the question is.
use Rattle.std.proofs.Common.{◌≡◌, ◌≢◌, ℕ, suc, ◌+◌, List, [], ◌∷◌, length, map, refl, ap, ap₂, sym, subst, arith}
use Rattle.std.proofs.lemmas.List.Elements.{All-append, All-cons, All-head, All-map, All-nil, All-tail, All-weaker}
use Rattle.std.specs.List.{All, AllZip, flat_map, range_with_len, zip}
use Rattle.std.specs.Prelude.{Some, slice_get}
use Rattle.ba_model.specs.Conform.{IsOfKind}
use Rattle.ba_model.specs.Fit.{ContextFits, kinds_of}
use Rattle.ba_model.specs.Meaning.{InAnswer}
use Rattle.ba_model.specs.declared.policy.Context.{Context}
use Rattle.ba_model.specs.declared.policy.Policy.{Policy}
use Rattle.ba_model.specs.declared.query.Atom.{Atom}
use Rattle.ba_model.specs.declared.query.Operand.{Operand}
use Rattle.ba_model.specs.declared.query.Operand.TheVariants as operands
use Rattle.ba_model.specs.declared.query.Part.{Part}
use Rattle.ba_model.specs.declared.query.Query.{Query}
use Rattle.ba_model.specs.declared.schema.Kind.{Kind}
use Rattle.ba_model.specs.declared.value.RowSet.{RowSet}
use Rattle.ba_model.specs.declared.value.Value.{Value}
use Rattle.ba_model.specs.declared.value.Value.TheVariants.{Null}
use Rattle.ba_comply.specs.Comply.{Shows, Strong}
use Rattle.ba_comply.specs.declared.trace.TraceEntry.{TraceEntry}
use Rattle.ba_facts.specs.Fits.{Instance}
use Rattle.ba_facts.specs.Matches.{Under}
use Rattle.ba_facts.specs.declared.term.Term.TheVariants.{Param, Val}
use Rattle.ba_kernel.proofs.CaseFactLemmas.{zip_append}
use Rattle.ba_kernel.specs.Problems.{HoldsOf, IsEntryAt, IsInstance, ProblemIsQuestion}
use Rattle.ba_kernel.specs.Problems.{atom_at, entries_of, fixed_value, operand_at, param_is, part_at, problem_of, query_at}
use Rattle.ba_kernel.specs.declared.problem.ProblemEntry.{ProblemEntry}

-- ---- without variables a query stays the same

map_same : {X : Type 0} (f : X → X) → ((x : X) → f x ≡ x) → (xs : List X) → map f xs ≡ xs
map_same f same [] = refl
map_same f same (x ∷ xs) = ap₂ (λ z zs. z ∷ zs) (same x) (map_same f same xs)

operand_same : (operand : Operand) → operand_at [] operand ≡ operand
operand_same (operands.Col place column) = refl
operand_same (operands.Val v) = refl
operand_same (operands.Param n) = refl
operand_same (operands.Var n) = refl

atom_same : (atom : Atom) → atom_at [] atom ≡ atom
atom_same atom = ap₂ (λ l r. let it : Atom = record atom { left = l; right = r } in it) (operand_same atom.left) (operand_same atom.right)

part_same : (part : Part) → part_at [] part ≡ part
part_same part =
    ap₂ (λ conds head. let it : Part = record part { conds = conds; head = head } in it)
    (map_same (atom_at []) atom_same part.conds) (map_same (operand_at []) operand_same part.head)

pub query_same : (q : Query) → query_at [] q ≡ q
query_same q = ap (λ parts. let it : Query = record { parts = parts } in it) (map_same (part_at []) part_same q.parts)

-- ---- the context is an instance

abbrev instance_of : Context → Instance
instance_of c = record { context = c; vars = [] }

not_null : (kind : Kind) (v : Value) → IsOfKind kind v → v ≢ Null
not_null kind v h e = subst (IsOfKind kind) e h

module _ (c : Context) where
  abbrev IsTrueHere : Atom → Type 0
  IsTrueHere = Under (HoldsOf (instance_of c)) []

  param_holds : (n : ℕ) (v : Value) (kind : Kind) → IsOfKind kind v → slice_get c.values n ≡ Some v → IsTrueHere (param_is (n, v))
  param_holds n v kind h e =
      record {
        left = Param n;
        right = Val v;
        left_is = refl;
        right_is = refl;
        holds = record { left = v; right = v; left_is = e; right_is = refl; compared = (not_null kind v h, refl) };
      }

  -- these are the values of the parameters from a number on
  abbrev AreFrom : ℕ → List Value → Type 0
  AreFrom n values = (k : ℕ) (v : Value) → slice_get values k ≡ Some v → slice_get c.values (n + k) ≡ Some v

  are_from_next : (n : ℕ) (v : Value) (values : List Value) → AreFrom n (v ∷ values) → AreFrom (n + 1) values
  are_from_next n v values there k w e = subst (λ m. slice_get c.values m ≡ Some w) (let same : n + suc k ≡ n + 1 + k = omega arith in same) (there (suc k) w e)

  params_hold : (kinds : List Kind) (n : ℕ) (values : List Value) → AllZip IsOfKind kinds values → AreFrom n values →
      All IsTrueHere (map param_is (zip (range_with_len n (length values)) values))
  params_hold [] n [] h there = All-nil IsTrueHere
  params_hold (kind ∷ kinds) n [] h there = absurd h
  params_hold [] n (v ∷ values) h there = absurd h
  params_hold (kind ∷ kinds) n (v ∷ values) h there =
      let first = subst (λ m. slice_get c.values m ≡ Some v) (let same : n + 0 ≡ n = omega arith in same) (there 0 v refl) in
      All-cons IsTrueHere (param_is (n, v)) (map param_is (zip (range_with_len (n + 1) (length values)) values)) (param_holds n v kind h.0 first)
      (params_hold kinds (n + 1) values h.1 (are_from_next n v values there))

  are_from_start : AreFrom 0 c.values
  are_from_start k v e = subst (λ m. slice_get c.values m ≡ Some v) (let same : k ≡ 0 + k = omega arith in same) e

  pub context_is_instance : (policy : Policy) (trace : List TraceEntry) (q : Query) → ContextFits (kinds_of policy.params) c →
      IsInstance (problem_of policy c trace q) (instance_of c)
  context_is_instance policy trace q fits =
      record { context = fits; vars = tt; assumed = params_hold (kinds_of policy.params) 0 c.values fits are_from_start }

-- ---- the trace

-- an entry of the trace for each row
abbrev entry_by : Query → List Value → TraceEntry
entry_by q row = record { query = q; rows = row ∷ [] }

abbrev by_row : TraceEntry → List TraceEntry
by_row it = map (entry_by it.query) it.rows

abbrev problem_entry_by : Query → List Value → ProblemEntry
problem_entry_by q row = record { query = q; row = map operands.Val row }

module _ (c : Context) where
  row_given : (row : List Value) → map (fixed_value (instance_of c)) (map operands.Val row) ≡ map Some row
  row_given [] = refl
  row_given (v ∷ row) = ap (λ vs. Some v ∷ vs) (row_given row)

  abbrev IsEntryHere : ProblemEntry → TraceEntry → Type 0
  IsEntryHere = IsEntryAt (instance_of c)

  entry_rows : (q : Query) (rows : List (List Value)) → AllZip IsEntryHere (map (problem_entry_by q) rows) (map (entry_by q) rows)
  entry_rows q [] = tt
  entry_rows q (row ∷ rows) = (record { row = row; query = sym (query_same q); rows = refl; values = row_given row }, entry_rows q rows)

  pub trace_is_at : (trace : List TraceEntry) → AllZip IsEntryHere (flat_map entries_of trace) (flat_map by_row trace)
  trace_is_at [] = tt
  trace_is_at (it ∷ trace) =
      zip_append IsEntryHere (entries_of it) (flat_map entries_of trace) (by_row it) (flat_map by_row trace) (entry_rows it.query it.rows) (trace_is_at trace)

module _ (c : Context) (d : RowSet) where
  abbrev IsShownIn : TraceEntry → Type 0
  IsShownIn entry = All (InAnswer entry.query c d) entry.rows

  row_shown : (q : Query) (row : List Value) → InAnswer q c d row → IsShownIn (entry_by q row)
  row_shown q row h = All-cons (InAnswer q c d) row [] h (All-nil (InAnswer q c d))

  rows_shown : (it : TraceEntry) → IsShownIn it → All IsShownIn (by_row it)
  rows_shown it h =
      All-map IsShownIn (entry_by it.query) it.rows
      (All-weaker (InAnswer it.query c d) (λ row. IsShownIn (entry_by it.query row)) (row_shown it.query) it.rows h)

  all_shown : (trace : List TraceEntry) → All IsShownIn trace → All IsShownIn (flat_map by_row trace)
  all_shown [] h = All-nil IsShownIn
  all_shown (it ∷ trace) h =
      All-append IsShownIn (by_row it) (flat_map by_row trace) (rows_shown it (All-head IsShownIn it trace h)) (all_shown trace (All-tail IsShownIn it trace h))

  -- what shows the trace shows it row by row
  pub shows_by_row : (trace : List TraceEntry) → Shows trace c d → Shows (flat_map by_row trace) c d
  shows_by_row trace h = record { entries = all_shown trace h.entries }

-- ---- the question

-- where the problem of a question is strongly compliant in every instance, the question is
pub problem_is_question : ProblemIsQuestion
problem_is_question policy c trace q fits strong =
    let rows = flat_map by_row trace in
    let at : Strong policy c rows (query_at [] q) = strong (instance_of c) rows (context_is_instance c policy trace q fits) (trace_is_at c trace) in
    let it : Strong policy c rows q = subst (Strong policy c rows) (query_same q) at in
    record { within = λ d e one two within shown. it.within d e one two within (shows_by_row c d trace shown) }
