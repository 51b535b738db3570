-- The problem of a question: its parts, and that it fits where the question does.
use borrow.Author.Tests.{eqb-true}
use Rattle.std.proofs.Common.{◌≡◌, Bool, true, false, ◌&&◌, ℕ, suc, ◌+◌, ◌<◌, ◌≤◌, List, [], ◌∷◌, ◌++◌, get_or, inl, inr, length, map, refl, take, ap, sym, ◌∙◌, subst, append_assoc, append-nil, arith}
use Rattle.std.proofs.lemmas.List.{map-append, take_all}
use Rattle.std.proofs.lemmas.Option.{get_or_from_slice_get, same_Some, slice_get_within}
use Rattle.std.proofs.lemmas.List.FromFn.{get_or-range_with_len, length-range_with_len}
use Rattle.std.proofs.lemmas.List.Elements.{All-append, All-cons, All-contains, All-head, All-map, All-nil, All-tail, All-weaker}
use Rattle.std.proofs.lemmas.List.Sums.{AllPass-from_list_all}
use Rattle.std.proofs.lemmas.Grind.{flat_map-append}
use Rattle.std.specs.List.{All, AllZip, flat_map, list_all, range_with_len, zip}
use Rattle.std.specs.Prelude.{◌==◌, ◌≢◌, Option, Some, None, is_some, slice_get}
use Rattle.ba_model.proofs.FitLemmas.{HasKind, has_value}
use Rattle.ba_model.specs.Conform.{Conforms, IsOfKind}
use Rattle.ba_model.specs.Fit.{AtomFits, ContextFits, PartFits, QueryFits, kind_of, kind_of_value, kinds_of}
use Rattle.ba_model.specs.Meaning.{InAnswer, IsChoice, value_of}
use Rattle.ba_model.specs.SchemaFaults.{columns_of, columns_or, columns_there, has_columns, link_columns_there, targets_there, widths_agree}
use Rattle.ba_model.specs.declared.check_schema.SchemaFault.TheVariants.{UnknownTable, UnknownColumn, WidthDiffers}
use Rattle.ba_model.specs.declared.policy.Context.{Context}
use Rattle.ba_model.specs.declared.policy.Policy.{Policy}
use Rattle.ba_model.specs.declared.query.Atom.{Atom}
use Rattle.ba_model.specs.declared.query.Operand.{Operand}
use Rattle.ba_model.specs.declared.query.Operand.TheVariants.{Val}
use Rattle.ba_model.specs.declared.query.Query.{Query}
use Rattle.ba_model.specs.declared.schema.Kind.{Kind}
use Rattle.ba_model.specs.declared.schema.Kind.TheVariants.{Int as IntKind, Text as TextKind}
use Rattle.ba_model.specs.declared.schema.Link.{Link}
use Rattle.ba_model.specs.declared.schema.Schema.{Schema}
use Rattle.ba_model.specs.declared.schema.Table.{Table}
use Rattle.ba_model.specs.declared.value.RowSet.{RowSet}
use Rattle.ba_model.specs.declared.value.Value.{Value}
use Rattle.ba_model.specs.declared.value.Value.TheVariants.{Null, Int, Text}
use Rattle.ba_comply.specs.declared.trace.TraceEntry.{TraceEntry}
use Rattle.ba_kernel.proofs.ZipLemmas.{pair_at, pair_below, taken, zip_short}
use Rattle.ba_kernel.specs.Asked.{AnswersAreRecords, CheckedLinksFit, MayBeOfKind, QuestionIsProblem, RecordFits}
use Rattle.ba_kernel.specs.Courses.{EntryFits, LinkFits, RowOperandFits}
use Rattle.ba_kernel.specs.Problems.{entries_of, param_is, problem_of}
use Rattle.ba_kernel.specs.declared.problem.Problem.{Problem}
use Rattle.ba_kernel.specs.declared.problem.ProblemEntry.{ProblemEntry}

-- ---- the parts

pub params_more : (values : List Value) (n : ℕ) (v : Value) (before new : List Atom) → n < length values → v ≡ get_or values n v →
    before ≡ map param_is (take n (zip (range_with_len 0 (length values)) values)) → new ≡ before ++ param_is (n, v) ∷ [] →
    new ≡ map param_is (take (n + 1) (zip (range_with_len 0 (length values)) values))
params_more values n v before new below at so_far pushed =
    let numbers = range_with_len 0 (length values) in
    let counted : length numbers ≡ length values = length-range_with_len 0 (length values) in
    let inside : n < length numbers = omega arith in
    let zero_add : n ≡ 0 + n = omega arith in
    let number_at : n ≡ get_or numbers n n = zero_add ∙ sym (get_or-range_with_len 0 (length values) n n below) in
    let pairs = zip numbers values in
    let one = taken pairs n (n, v) (pair_below numbers values n counted inside) (pair_at numbers values n n v counted inside number_at at) in
    pushed ∙ (ap (λ xs. xs ++ param_is (n, v) ∷ []) so_far ∙ (sym (map-append param_is (take n pairs) ((n, v) ∷ [])) ∙ ap (map param_is) (sym one)))

pub params_all : (values : List Value) (n : ℕ) (atoms : List Atom) → length values ≤ n → atoms ≡ map param_is (take n (zip (range_with_len 0 (length values)) values)) →
    atoms ≡ map param_is (zip (range_with_len 0 (length values)) values)
params_all values n atoms whole e =
    let numbers = range_with_len 0 (length values) in
    let counted : length numbers ≡ length values = length-range_with_len 0 (length values) in
    let short : length numbers ≤ n = omega arith in
    e ∙ ap (map param_is) (take_all n (zip numbers values) (zip_short numbers values n short))

pub trace_more : (trace : List TraceEntry) (i : ℕ) (it : TraceEntry) (before new : List ProblemEntry) → slice_get trace i ≡ Some it →
    before ≡ flat_map entries_of (take i trace) → new ≡ before ++ entries_of it → new ≡ flat_map entries_of (take (i + 1) trace)
trace_more trace i it before new at so_far pushed =
    let one = taken trace i it (slice_get_within trace i it at) (sym (get_or_from_slice_get trace i it it at)) in
    let whole : flat_map entries_of (take (i + 1) trace) ≡ flat_map entries_of (take i trace) ++ (entries_of it ++ []) =
    ap (flat_map entries_of) one ∙ flat_map-append entries_of (take i trace) (it ∷ []) in
    pushed ∙ (ap (λ ys. ys ++ entries_of it) so_far ∙
    (ap (λ ys. flat_map entries_of (take i trace) ++ ys) (sym (append-nil (entries_of it))) ∙ sym whole))

pub entries_more : {X Y : Type 0} (f : X → Y) (xs : List X) (i : ℕ) (x : X) (old before new : List Y) → i < length xs → x ≡ get_or xs i x →
    before ≡ old ++ map f (take i xs) → new ≡ before ++ f x ∷ [] → new ≡ old ++ map f (take (i + 1) xs)
entries_more f xs i x old before new below at so_far pushed =
    let more : map f (take (i + 1) xs) ≡ map f (take i xs) ++ f x ∷ [] = ap (map f) (taken xs i x below at) ∙ map-append f (take i xs) (x ∷ []) in
    pushed ∙ (ap (λ ys. ys ++ f x ∷ []) so_far ∙ (append_assoc old (map f (take i xs)) (f x ∷ []) ∙ ap (λ ys. old ++ ys) (sym more)))

-- ---- it fits

kind_is : (kind : Kind) (v : Value) → IsOfKind kind v → kind_of_value v ≡ Some kind
kind_is IntKind Null h = absurd h
kind_is TextKind Null h = absurd h
kind_is IntKind (Int n) h = refl
kind_is TextKind (Int n) h = absurd h
kind_is IntKind (Text t) h = absurd h
kind_is TextKind (Text t) h = refl

module _ (s : Schema) (params : List Kind) where
  params_fit : (rest : List Kind) (values : List Value) (n : ℕ) → ((k : ℕ) → slice_get rest k ≡ slice_get params (n + k)) → AllZip IsOfKind rest values →
      All (AtomFits s params [] []) (map param_is (zip (range_with_len n (length values)) values))
  params_fit [] [] n at h = All-nil (AtomFits s params [] [])
  params_fit [] (v ∷ values) n at h = absurd h
  params_fit (kind ∷ rest) [] n at h = absurd h
  params_fit (kind ∷ rest) (v ∷ values) n at h =
      let here : n + 0 ≡ n = omega arith in
      let left : slice_get params n ≡ Some kind = subst (λ m. slice_get params m ≡ Some kind) here (sym (at 0)) in
      All-cons (AtomFits s params [] []) (param_is (n, v)) (map param_is (zip (range_with_len (n + 1) (length values)) values))
      (record { kind = kind; left_is = left; right_is = kind_is kind v h.0; op = tt })
      (params_fit rest values (n + 1)
      (λ k. let later : n + suc k ≡ (n + 1) + k = omega arith in subst (λ m. slice_get rest k ≡ slice_get params m) later (at (suc k))) h.1)

module _ (p : Problem) where
  value_fits : (kind : Kind) (v : Value) → MayBeOfKind kind v → RowOperandFits p kind (Val v)
  value_fits kind v (inl h) = inr (kind_is kind v h)
  value_fits kind v (inr e) = inl (ap Val e)

  row_fits : (kinds : List Kind) (row : List Value) → AllZip MayBeOfKind kinds row → AllZip (RowOperandFits p) kinds (map Val row)
  row_fits [] [] h = tt
  row_fits [] (v ∷ row) h = absurd h
  row_fits (kind ∷ kinds) [] h = absurd h
  row_fits (kind ∷ kinds) (v ∷ row) h = (value_fits kind v h.0, row_fits kinds row h.1)

abbrev pub entry_of : Query → List Value → ProblemEntry
entry_of q row = record { query = q; row = map Val row }

module _ (policy : Policy) (c : Context) (trace : List TraceEntry) (q : Query) where
  record_fits : (it : TraceEntry) → RecordFits policy it → All (EntryFits (problem_of policy c trace q)) (entries_of it)
  record_fits it h =
      let p = problem_of policy c trace q in
      All-map (EntryFits p) (entry_of it.query) it.rows
      (All-weaker (AllZip MayBeOfKind h.query.fits.kinds) (λ row. EntryFits p (entry_of it.query row))
      (λ row fits. record { query = h.query; row = row_fits p h.query.fits.kinds row fits }) it.rows h.rows)

  records_fit : (some : List TraceEntry) → All (RecordFits policy) some → All (EntryFits (problem_of policy c trace q)) (flat_map entries_of some)
  records_fit [] h = All-nil (EntryFits (problem_of policy c trace q))
  records_fit (it ∷ some) h =
      All-append (EntryFits (problem_of policy c trace q)) (entries_of it) (flat_map entries_of some) (record_fits it (All-head (RecordFits policy) it some h))
      (records_fit some (All-tail (RecordFits policy) it some h))

-- ---- checked schemas

and_both : (b d : Bool) → (b && d) ≡ true → (b ≡ true) × (d ≡ true)
and_both true d e = (refl, e)
and_both false d e = cc

some_of : {X : Type 0} (o : Option X) → is_some o ≡ true → (x : X) × (o ≡ Some x)
some_of None e = cc
some_of (Some x) e = (x, refl)

not_none : {X : Type 0} (o : Option X) → is_some o ≡ true → o ≢ None
not_none None e same = cc
not_none (Some x) e same = cc

link_fits : (s : Schema) (t : Table) (link : Link) → is_some (slice_get s.tables link.target) ≡ true → link_columns_there s.tables t link ≡ true →
    (length link.columns == length link.target_columns) ≡ true → LinkFits s link
link_fits s t link there columns wide =
    let target = some_of (slice_get s.tables link.target) there in
    let both = and_both (has_columns t.columns link.columns) (has_columns (columns_of s.tables link.target) link.target_columns) columns in
    let own : has_columns (target.0).columns link.target_columns ≡ true =
    subst (λ (o : Option Table). has_columns (columns_or o) link.target_columns ≡ true) target.1 both.1 in
    let each = AllPass-from_list_all (λ n. is_some (slice_get (target.0).columns n)) link.target_columns own in
    record {
      target = target.0;
      target_is = target.1;
      columns = All-weaker (λ n. is_some (slice_get (target.0).columns n) ≡ true) (λ n. slice_get (target.0).columns n ≢ None)
          (λ n. not_none (slice_get (target.0).columns n)) link.target_columns each;
      wide = eqb-true (length link.columns) (length link.target_columns) wide;
    }

table_links : (s : Schema) (t : Table) → targets_there s.tables t ≡ true → columns_there s.tables t ≡ true → widths_agree t ≡ true → All (LinkFits s) t.links
table_links s t targets columns widths =
    let both = and_both (list_all (has_columns t.columns) t.keys) (list_all (link_columns_there s.tables t) t.links) columns in
    λ k link below.
    link_fits s t (get_or t.links k link) (AllPass-from_list_all (λ link. is_some (slice_get s.tables link.target)) t.links targets k link below)
    (AllPass-from_list_all (link_columns_there s.tables t) t.links both.1 k link below)
    (AllPass-from_list_all (λ link. length link.columns == length link.target_columns) t.links widths k link below)

pub checked_links_fit : CheckedLinksFit
checked_links_fit s are =
    λ k table below.
    table_links s (get_or s.tables k table) (AllPass-from_list_all (targets_there s.tables) s.tables (are.lacks UnknownTable) k table below)
    (AllPass-from_list_all (columns_there s.tables) s.tables (are.lacks UnknownColumn) k table below)
    (AllPass-from_list_all widths_agree s.tables (are.lacks WidthDiffers) k table below)

-- ---- recorded rows

module _ (s : Schema) (params : List Kind) (c : Context) (d : RowSet) (conforms : Conforms s d) (context : ContextFits params c) where
  value_may : (kind : Kind) (v : Value) → HasKind kind v → MayBeOfKind kind v
  value_may kind v (inl none) = inr none
  value_may kind v (inr of) = inl of

  head_kinds : (from : List ℕ) (rows : List (List Value)) → IsChoice d from rows → (head : List Operand) (kinds : List Kind) (r : List Value) →
      map (kind_of s params [] from) head ≡ map Some kinds → map (value_of c rows) head ≡ map Some r → AllZip MayBeOfKind kinds r
  head_kinds from rows chosen [] [] [] p q = tt
  head_kinds from rows chosen [] [] (v ∷ r) p q = cc
  head_kinds from rows chosen [] (kind ∷ kinds) r p q = cc
  head_kinds from rows chosen (x ∷ head) [] r p q = cc
  head_kinds from rows chosen (x ∷ head) (kind ∷ kinds) [] p q = cc
  head_kinds from rows chosen (x ∷ head) (kind ∷ kinds) (v ∷ r) p q =
      let kind_is : kind_of s params [] from x ≡ Some kind = cc in
      let value_is : value_of c rows x ≡ Some v = cc in
      let kinds_are : map (kind_of s params [] from) head ≡ map Some kinds = cc in
      let values_are : map (value_of c rows) head ≡ map Some r = cc in
      let found = has_value s params c d from rows conforms context chosen x kind kind_is in
      let same : found.0 ≡ v = same_Some found.0 v (sym found.1 ∙ value_is) in
      (value_may kind v (subst (HasKind kind) same found.2), head_kinds from rows chosen head kinds r kinds_are values_are)

  answer_kinds : (q : Query) (fits : QueryFits s params [] q) (r : List Value) → InAnswer q c d r → AllZip MayBeOfKind fits.kinds r
  answer_kinds q fits r (part, of, (rows, chosen, gives)) =
      let own = All-contains (PartFits s params [] fits.kinds) q.parts part fits.parts of in
      head_kinds part.from rows chosen part.head fits.kinds r own.head gives.head

pub answers_are_records : AnswersAreRecords
answers_are_records policy c d it query conforms context answers =
    record {
      query = query;
      rows = All-weaker (InAnswer it.query c d) (AllZip MayBeOfKind query.fits.kinds)
          (answer_kinds policy.schema (kinds_of policy.params) c d conforms context it.query query.fits) it.rows answers;
    }

-- ---- questions

pub question_is_problem : QuestionIsProblem
question_is_problem policy c trace q h =
    record {
      links = checked_links_fit policy.schema h.tables;
      rules = h.rules;
      policy = h.policy_fits;
      goal = h.asked;
      entries = records_fit policy c trace q trace h.trace_fits;
      assumed = params_fit policy.schema (kinds_of policy.params) (kinds_of policy.params) c.values 0
          (λ k. let e : k ≡ 0 + k = omega arith in ap (slice_get (kinds_of policy.params)) e) h.context;
    }
