-- What an audit knows of requests is what a journal tells of them.
use Rattle.std.proofs.Common.{◌≡◌, ◌∙◌, ℕ, ◌+◌, ◌<◌, ◌≤◌, ◌⊎◌, inl, inr, List, [], ◌∷◌, ◌++◌, All, Contains, None, Option, Some, Ok, ap, append-nil, arith, length, length-append, refl, slice_get, subst, sym}
use Rattle.std.proofs.lemmas.List.Concat.{flat_map-append}
use Rattle.std.proofs.lemmas.List.Elements.{All-cons, All-contains, Contains-append_right, Contains-push_cases}
use Rattle.ba_audit.proofs.CountLemmas.{used-push}
use Rattle.ba_audit.proofs.RequestLemmas.{request_fits, request_from-push}
use Rattle.ba_audit.specs.Audits.{IsSet}
use Rattle.ba_audit.specs.Keeping.{BegunFits, told_at}
use Rattle.ba_audit.specs.Lines.{Basis, Line, entry, line_at, numbered_at, request_after, request_by, used_in}
use Rattle.ba_audit.specs.declared.request.Begun.{Begun}
use Rattle.ba_audit.specs.declared.request.Begun.TheVariants.{Asking}
use Rattle.ba_comply.specs.declared.trace.TraceEntry.{TraceEntry}
use Rattle.ba_input.specs.Inputs.{IsInput}
use Rattle.ba_input.specs.declared.input.Input.{Input}
use Rattle.ba_lanes.specs.Legal.{HasContext, LineDone, answer_of, begins, context_in, contexts_of, trace_of}
use Rattle.ba_model.specs.declared.policy.Context.{Context}
use Rattle.ba_printed.specs.declared.line.PrintedLine.{PrintedLine}
use Rattle.ba_script.specs.Scripts.{BeginFits, NumberedFrom}
use Rattle.ba_script.specs.declared.entry.ScriptEntry.{ScriptEntry}
use Rattle.ba_script.specs.declared.entry.ScriptEntry.TheVariants as said
use Rattle.ba_tables.specs.TableSet.{TableSet}
use Rattle.ba_kernel.specs.Asked.{RecordFits}
use Rattle.ba_lanes.specs.declared.journal.Entry.TheVariants.{Begin}
use Rattle.ba_lanes.proofs.ServeLemmas.{trace_more}
use Rattle.ba_top.proofs.HistoryLemmas.{length_push}
use Rattle.ba_top.proofs.NumberLemmas.{all_numbered, all_numbered-push, numbered_all, numbered_of}
use Rattle.ba_versions.specs.declared.call.VersionCall.{VersionCall}
use Rattle.ba_versions.specs.declared.call.VersionCall.TheVariants as call

-- ---- begin lines

-- a begin line's number is how many begin lines stand before it, and there its context is
record IsNumbered (m : ℕ) (front : List ScriptEntry) (k : ℕ) (name : List ℕ) (context : Context) (rest : List ScriptEntry) : Type 0 where
  number : k ≡ m + length (contexts_of front)
  context_at : slice_get (contexts_of (front ++ said.Begin k name context ∷ rest)) (length (contexts_of front)) ≡ Some context

numbered : (m : ℕ) (front : List ScriptEntry) (k : ℕ) (name : List ℕ) (context : Context) (rest : List ScriptEntry) → NumberedFrom m (front ++ said.Begin k name context ∷ rest) →
    IsNumbered m front k name context rest
numbered m [] k name context rest h = record { number = let e = h.0 in omega (arith, e); context_at = refl }
numbered m (said.Begin r n c ∷ front) k name context rest h =
    let it = numbered (m + 1) front k name context rest h.1 in
    record { number = let e = it.number in omega (arith, e); context_at = it.context_at }
numbered m (said.Ask r n text ∷ front) k name context rest h =
    let it = numbered m front k name context rest h.1 in
    record { number = it.number; context_at = it.context_at }
numbered m (said.Read r n key arguments questions ∷ front) k name context rest h =
    let it = numbered m front k name context rest h.1 in
    record { number = it.number; context_at = it.context_at }
numbered m (said.End r n ∷ front) k name context rest h =
    let it = numbered m front k name context rest h.1 in
    record { number = it.number; context_at = it.context_at }
numbered m (said.Publish n set ∷ front) k name context rest h =
    let it = numbered m front k name context rest h in
    record { number = it.number; context_at = it.context_at }

-- the next line is a begin line: its number is how many requests have begun
pub next_number : (all front rest : List ScriptEntry) (k : ℕ) (name : List ℕ) (context : Context) → NumberedFrom 0 all → all ≡ front ++ said.Begin k name context ∷ rest →
    (k ≡ length (contexts_of front)) × (slice_get (contexts_of all) k ≡ Some context)
next_number all front rest k name context numbers are =
    let it = numbered 0 front k name context rest (subst (NumberedFrom 0) are numbers) in
    let here : k ≡ length (contexts_of front) = let e = it.number in omega (arith, e) in
    (here, ap (slice_get (contexts_of all)) here ∙ ap (λ lines. slice_get (contexts_of lines) (length (contexts_of front))) are ∙ it.context_at)

contexts_more : (front : List ScriptEntry) (line : ScriptEntry) → length (contexts_of (front ++ line ∷ [])) ≡ length (contexts_of front) + length (context_in line)
contexts_more front line =
    ap length (flat_map-append context_in front (line ∷ []))
    ∙ length-append (contexts_of front) (context_in line ++ [])
    ∙ ap (λ more. length (contexts_of front) + length more) (append-nil (context_in line))

-- ---- begun requests

pub request_same : {k v j w : ℕ} {a b : TableSet} → begins k v a ≡ begins j w b → k ≡ j
request_same {k} {v} {j} {w} e = let at : Begin k v ≡ Begin j w = ap (λ (z : LineDone). z.entry) e in cc

pub version_same : {k v j w : ℕ} {a b : TableSet} → begins k v a ≡ begins j w b → v ≡ w
version_same {k} {v} {j} {w} e = let at : Begin k v ≡ Begin j w = ap (λ (z : LineDone). z.entry) e in cc

abbrev pinned_tables : TableSet → List VersionCall → TableSet
pinned_tables other [] = other
pinned_tables other (call.Publish told n ∷ made) = other
pinned_tables other (call.Pin n told ∷ made) = told.value
pinned_tables other (call.Refused ∷ made) = other

pub tables_same : {k v j w : ℕ} {a b : TableSet} → begins k v a ≡ begins j w b → a ≡ b
tables_same {a = a} e = ap (λ (z : LineDone). pinned_tables a z.made.versions) e

-- ---- between two lines

-- what an audit of the journal's lines is tested against
abbrev pub basis_in : Input → List LineDone → Basis
basis_in input served = record { policy = input.policy; sets = input.tables ∷ input.published; numbered = numbered_all input served }

-- the request, as the lines before tell of it
abbrev pub known_as : Context → ℕ → TableSet → List TraceEntry → Option Begun
known_as context version tables trace = Some (Asking (record { context = context; version = version; tables = tables; trace = trace }))

module _ (input : Input) (served : List LineDone) where
  abbrev basis : Basis
  basis = basis_in input served

  pub record Between (front : List ScriptEntry) (earlier : List LineDone) (before : List Line) : Type 0 where
    pub long : length earlier ≡ length front
    pub many : length before ≡ length front
    pub used : used_in before ≡ all_numbered front earlier
    pub counted : (k version : ℕ) (tables : TableSet) → Contains earlier (begins k version tables) → k < length (contexts_of front)
    pub untold : (k : ℕ) → length (contexts_of front) ≤ k → trace_of k earlier ≡ []
    pub standing : (k version : ℕ) (tables : TableSet) (context : Context) → Contains earlier (begins k version tables) → HasContext input.script k context →
        request_after basis k before ≡ known_as context version tables (trace_of k earlier)
    pub has : (k version : ℕ) (tables : TableSet) → Contains earlier (begins k version tables) → (context : Context) × HasContext input.script k context
    pub fit : (k : ℕ) → BegunFits input.policy (request_after basis k before)

  nothing : {X : Type 0} (x : X) → Contains [] x → ⊥
  nothing x h = let low = h.1 in omega (arith, low)

  pub nothing_yet : Between [] [] []
  nothing_yet = record {
    long = refl;
    many = refl;
    used = refl;
    counted = λ k version tables h. absurd (nothing (begins k version tables) h);
    untold = λ k past. refl;
    standing = λ k version tables context h at. absurd (nothing (begins k version tables) h);
    has = λ k version tables h. absurd (nothing (begins k version tables) h);
    fit = λ k. tt;
  }

  -- one more line, with what it is read as
  module _ (fits : IsInput input) (front rest : List ScriptEntry) (e : ScriptEntry) (earlier : List LineDone) (it : LineDone) (before : List Line) (p : PrintedLine)
      (are : input.script.entries ≡ front ++ e ∷ rest) (b : Between front earlier before) where
    abbrev after : List Line
    after = before ++ line_at (entry e) (Ok p) ∷ []

    pub known_more : (k : ℕ) → request_after basis k after ≡ request_by basis k (request_after basis k before) e (Ok p)
    known_more k = request_from-push basis k None before (line_at (entry e) (Ok p))

    sets_are : All (IsSet input.policy) (input.tables ∷ input.published)
    sets_are = All-cons (IsSet input.policy) input.tables input.published (record { schema = fits.schema; conform = fits.conform })
        (λ i d low. let h = fits.sets i d low in record { schema = h.schema_is; conform = h.conform })

    begins_fit : BeginFits input.policy.params e
    begins_fit = All-contains (BeginFits input.policy.params) input.script.entries e fits.script.contexts
        (subst (λ z. Contains z e) (sym are) (Contains-append_right front (e ∷ rest) e (0, omega arith, refl)))

    -- what the line tells may be recorded, it publishes what its calls do, and of each request it says what became of it
    pub record Follows : Type 0 where
      pub fitting : All (RecordFits input.policy) (told_at input.policy e (Ok p))
      pub numbers : numbered_at e (Ok p) ≡ numbered_of e it.made.versions
      pub counted : (k version : ℕ) (tables : TableSet) → it ≡ begins k version tables → k < length (contexts_of (front ++ e ∷ []))
      pub untold : (k : ℕ) → length (contexts_of (front ++ e ∷ [])) ≤ k → answer_of k it.entry ≡ []
      pub kept : (k version : ℕ) (tables : TableSet) (context : Context) (trace : List TraceEntry) → k < length (contexts_of front) →
          request_by basis k (known_as context version tables trace) e (Ok p) ≡ known_as context version tables (trace ++ answer_of k it.entry)
      pub begun : (k version : ℕ) (tables : TableSet) (context : Context) → it ≡ begins k version tables → HasContext input.script k context →
          request_by basis k (request_after basis k before) e (Ok p) ≡ known_as context version tables (trace_of k (earlier ++ it ∷ []))
      pub has : (k version : ℕ) (tables : TableSet) → it ≡ begins k version tables → (context : Context) × HasContext input.script k context

    pub goes_on : Follows → Between (front ++ e ∷ []) (earlier ++ it ∷ []) after
    goes_on h = record {
      long = length_push earlier it ∙ ap (λ n. n + 1) b.long ∙ sym (length_push front e);
      many = length_push before (line_at (entry e) (Ok p)) ∙ ap (λ n. n + 1) b.many ∙ sym (length_push front e);
      used = used-push before (line_at (entry e) (Ok p)) ∙ (λ i. b.used i ++ h.numbers i) ∙ sym (all_numbered-push front earlier e it b.long);
      counted = λ k version tables inside. low k version tables (Contains-push_cases earlier it (begins k version tables) inside);
      untold = λ k past. trace_more k earlier it ∙ none k past;
      standing = λ k version tables context inside at. known_more k ∙ stands k version tables context at (Contains-push_cases earlier it (begins k version tables) inside);
      has = λ k version tables inside. context_of k version tables (Contains-push_cases earlier it (begins k version tables) inside);
      fit = λ k. subst (BegunFits input.policy) (sym (known_more k)) (request_fits basis sets_are k (request_after basis k before) e (Ok p) begins_fit h.fitting (b.fit k));
    }
      where
        more : length (contexts_of (front ++ e ∷ [])) ≡ length (contexts_of front) + length (context_in e)
        more = contexts_more front e

        low : (k version : ℕ) (tables : TableSet) → Contains earlier (begins k version tables) ⊎ (it ≡ begins k version tables) → k < length (contexts_of (front ++ e ∷ []))
        low k version tables (inl c) = let l = b.counted k version tables c in let m = more in omega (arith, l, m)
        low k version tables (inr same) = h.counted k version tables same

        none : (k : ℕ) → length (contexts_of (front ++ e ∷ [])) ≤ k → trace_of k earlier ++ answer_of k it.entry ≡ []
        none k past = let m = more in λ i. b.untold k (omega (arith, past, m)) i ++ h.untold k past i

        stands : (k version : ℕ) (tables : TableSet) (context : Context) → HasContext input.script k context → Contains earlier (begins k version tables) ⊎ (it ≡ begins k version tables) →
            request_by basis k (request_after basis k before) e (Ok p) ≡ known_as context version tables (trace_of k (earlier ++ it ∷ []))
        stands k version tables context at (inl c) =
            ap (λ held. request_by basis k held e (Ok p)) (b.standing k version tables context c at)
            ∙ h.kept k version tables context (trace_of k earlier) (b.counted k version tables c)
            ∙ ap (known_as context version tables) (sym (trace_more k earlier it))
        stands k version tables context at (inr same) = h.begun k version tables context same at

        context_of : (k version : ℕ) (tables : TableSet) → Contains earlier (begins k version tables) ⊎ (it ≡ begins k version tables) → (context : Context) × HasContext input.script k context
        context_of k version tables (inl c) = b.has k version tables c
        context_of k version tables (inr same) = h.has k version tables same
