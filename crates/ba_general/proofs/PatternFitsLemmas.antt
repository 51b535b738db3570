-- The pattern of a problem that fits does so too, and each of its operands has the kind of its value.
use Rattle.std.proofs.Common.{◌≡◌, ◌≢◌, ℕ, zero, suc, ◌+◌, ◌≤◌, inl, inr, List, [], ◌∷◌, length, map, refl, sym, ap, ap₂, ◌∙◌, subst, arith}
use Rattle.std.proofs.lemmas.List.{length-map}
use Rattle.std.proofs.lemmas.List.Elements.{All-append, All-cons, All-head, All-nil, All-tail}
use Rattle.std.proofs.lemmas.Option.{get_or_from_slice_get, slice_get_within}
use Rattle.std.specs.List.{AllZip, range_with_len, zip}
use Rattle.std.specs.Prelude.{All, Option, Some, None, option_and_then, slice_get}
use Rattle.ba_kernel.specs.Courses.{EntryFits, ProblemFits, RowOperandFits}
use Rattle.ba_kernel.specs.Problems.{atom_at, operand_at, param_is, part_at, query_at, variable_at}
use Rattle.ba_kernel.specs.declared.problem.Problem.{Problem}
use Rattle.ba_kernel.specs.declared.problem.ProblemEntry.{ProblemEntry}
use Rattle.ba_model.specs.Conform.{IsOfKind}
use Rattle.ba_model.specs.Fit.{AtomFits, IsQuery, OpFits, PartFits, PartWithin, QueryFits, kind_of, kind_of_value, kinds_of}
use Rattle.ba_model.specs.Limits.{most_atoms, most_head, most_parts}
use Rattle.ba_model.specs.declared.policy.Policy.{Policy}
use Rattle.ba_model.specs.declared.query.Atom.{Atom}
use Rattle.ba_model.specs.declared.query.Op.{Op}
use Rattle.ba_model.specs.declared.query.Op.TheVariants as ops
use Rattle.ba_model.specs.declared.query.Operand.{Operand}
use Rattle.ba_model.specs.declared.query.Operand.TheVariants.{Col, Val, Param, Var}
use Rattle.ba_model.specs.declared.query.Part.{Part}
use Rattle.ba_model.specs.declared.query.Query.{Query}
use Rattle.ba_model.specs.declared.schema.Kind.{Kind}
use Rattle.ba_model.specs.declared.schema.Kind.TheVariants.{Int as IntKind, Text as TextKind}
use Rattle.ba_model.specs.declared.schema.Schema.{Schema}
use Rattle.ba_model.specs.declared.value.Value.{Value}
use Rattle.ba_model.specs.declared.value.Value.TheVariants.{Null, Int, Text}
use Rattle.ba_general.proofs.AskedLemmas.{no_variable}
use Rattle.ba_general.proofs.FullFitsLemmas.{OperandFits}
use Rattle.ba_general.specs.Conditions.{HasParams, PatternFits, operands_with, parameters, valued, variables}
use Rattle.ba_general.specs.Generals.{IsOfQuestion}
use Rattle.ba_general.specs.Patterns.{AtomRepeats, EntryRepeats, IsPattern, OpRepeats, PartRepeats, QueryRepeats, entry_at}
use Rattle.ba_general.specs.declared.pattern.Valued.{Valued}

-- ---- kinds of values

kind_is : (kind : Kind) (v : Value) → IsOfKind kind v → kind_of_value v ≡ Some kind
kind_is IntKind Null h = absurd h
kind_is TextKind Null h = absurd h
kind_is IntKind (Int n) h = refl
kind_is TextKind (Int n) h = absurd h
kind_is IntKind (Text t) h = absurd h
kind_is TextKind (Text t) h = refl

pub not_null : (kind : Kind) (v : Value) → IsOfKind kind v → v ≢ Null
not_null kind v h e = subst (IsOfKind kind) e h

has_kind : (kind : Kind) (v : Value) → kind_of_value v ≡ Some kind → v ≢ Null
has_kind kind v e same = let none : kind_of_value Null ≡ Some kind = subst (λ w. kind_of_value w ≡ Some kind) same e in cc

-- the kind of a variable's value, if it has one, is the variable's
kind_at : (vars : List Kind) (values : List Value) (n : ℕ) → AllZip IsOfKind vars values → option_and_then kind_of_value (slice_get values n) ≡ slice_get vars n
kind_at [] [] n h = refl
kind_at [] (v ∷ values) n h = absurd h
kind_at (k ∷ vars) [] n h = absurd h
kind_at (k ∷ vars) (v ∷ values) zero h = kind_is k v h.0
kind_at (k ∷ vars) (v ∷ values) (suc n) h = kind_at vars values n h.1

value_at : (vars : List Kind) (values : List Value) (n : ℕ) (v : Value) → AllZip IsOfKind vars values → slice_get values n ≡ Some v → v ≢ Null
value_at [] [] n v h e = cc
value_at [] (w ∷ values) n v h e = absurd h
value_at (k ∷ vars) [] n v h e = absurd h
value_at (k ∷ vars) (w ∷ values) zero v h e = let same : w ≡ v = cc in subst (λ (u : Value). u ≢ Null) same (not_null k w h.0)
value_at (k ∷ vars) (w ∷ values) (suc n) v h e = value_at vars values n v h.1 e

-- ---- what fits with values for its variables fits with the variables

op_fits : (op : Op) (kind : Kind) (left right a b : Operand) → OpRepeats op left right → OpFits op kind a b → OpFits op kind left right
op_fits ops.Eq kind left right a b repeats h = tt
op_fits ops.Ne kind left right a b repeats h = tt
op_fits ops.Lt kind left right a b repeats h = h
op_fits ops.Le kind left right a b repeats h = h
op_fits ops.IsNull kind left right a b repeats h = repeats
op_fits ops.NotNull kind left right a b repeats h = repeats

module _ (s : Schema) (params vars : List Kind) (values : List Value) (kinds : AllZip IsOfKind vars values) where
  variable_kind : (from : List ℕ) (n : ℕ) (o : Option Value) → option_and_then kind_of_value o ≡ slice_get vars n → kind_of s params [] from (variable_at n o) ≡ slice_get vars n
  variable_kind from n None e = e
  variable_kind from n (Some v) e = e

  operand_kind : (from : List ℕ) (x : Operand) → kind_of s params [] from (operand_at values x) ≡ kind_of s params vars from x
  operand_kind from (Col place column) = refl
  operand_kind from (Val v) = refl
  operand_kind from (Param n) = refl
  operand_kind from (Var n) = variable_kind from n (slice_get values n) (kind_at vars values n kinds)

  atom_fits : (from : List ℕ) (atom : Atom) → AtomRepeats atom → AtomFits s params [] from (atom_at values atom) → AtomFits s params vars from atom
  atom_fits from atom repeats h =
      record {
        kind = h.kind;
        left_is = sym (operand_kind from atom.left) ∙ h.left_is;
        right_is = sym (operand_kind from atom.right) ∙ h.right_is;
        op = op_fits atom.op h.kind atom.left atom.right (operand_at values atom.left) (operand_at values atom.right) repeats h.op;
      }

  atoms_fit : (from : List ℕ) (atoms : List Atom) → All AtomRepeats atoms → All (AtomFits s params [] from) (map (atom_at values) atoms) → All (AtomFits s params vars from) atoms
  atoms_fit from [] repeats h = All-nil (AtomFits s params vars from)
  atoms_fit from (atom ∷ atoms) repeats h =
      All-cons (AtomFits s params vars from) atom atoms
      (atom_fits from atom (All-head AtomRepeats atom atoms repeats) (All-head (AtomFits s params [] from) (atom_at values atom) (map (atom_at values) atoms) h))
      (atoms_fit from atoms (All-tail AtomRepeats atom atoms repeats) (All-tail (AtomFits s params [] from) (atom_at values atom) (map (atom_at values) atoms) h))

  head_kinds : (from : List ℕ) (xs : List Operand) → map (kind_of s params [] from) (map (operand_at values) xs) ≡ map (kind_of s params vars from) xs
  head_kinds from [] = refl
  head_kinds from (x ∷ xs) = ap₂ (λ o os. o ∷ os) (operand_kind from x) (head_kinds from xs)

  part_fits : (heads : List Kind) (part : Part) → PartRepeats part → PartFits s params [] heads (part_at values part) → PartFits s params vars heads part
  part_fits heads part repeats h =
      record {
        some_table = h.some_table;
        tables = h.tables;
        conds = atoms_fit part.from part.conds repeats h.conds;
        head = sym (head_kinds part.from part.head) ∙ h.head;
      }

  parts_fit : (heads : List Kind) (parts : List Part) → All PartRepeats parts → All (PartFits s params [] heads) (map (part_at values) parts) → All (PartFits s params vars heads) parts
  parts_fit heads [] repeats h = All-nil (PartFits s params vars heads)
  parts_fit heads (part ∷ parts) repeats h =
      All-cons (PartFits s params vars heads) part parts
      (part_fits heads part (All-head PartRepeats part parts repeats) (All-head (PartFits s params [] heads) (part_at values part) (map (part_at values) parts) h))
      (parts_fit heads parts (All-tail PartRepeats part parts repeats) (All-tail (PartFits s params [] heads) (part_at values part) (map (part_at values) parts) h))

  part_within : (part : Part) → PartWithin (part_at values part) → PartWithin part
  part_within part h =
      let conds : length (map (atom_at values) part.conds) ≡ length part.conds = length-map part.conds (atom_at values) in
      let head : length (map (operand_at values) part.head) ≡ length part.head = length-map part.head (operand_at values) in
      record {
        tables = h.tables;
        conds = subst (λ n. n ≤ most_atoms) conds h.conds;
        head = subst (λ n. n ≤ most_head) head h.head;
      }

  parts_within : (parts : List Part) → All PartWithin (map (part_at values) parts) → All PartWithin parts
  parts_within [] h = All-nil PartWithin
  parts_within (part ∷ parts) h =
      All-cons PartWithin part parts (part_within part (All-head PartWithin (part_at values part) (map (part_at values) parts) h))
      (parts_within parts (All-tail PartWithin (part_at values part) (map (part_at values) parts) h))

  query_fits : (q : Query) → QueryRepeats q → (h : QueryFits s params [] (query_at values q)) → All (PartFits s params vars h.kinds) q.parts
  query_fits q repeats h = parts_fit h.kinds q.parts repeats h.parts

  few : (q : Query) (n : ℕ) → length (query_at values q).parts ≤ n → length q.parts ≤ n
  few q n h = subst (λ m. m ≤ n) (length-map q.parts (part_at values)) h

-- ---- the problem with variables

module _ (policy : Policy) (vars : List Kind) (values : List Value) (kinds : AllZip IsOfKind vars values) (assumed : List Atom) (all es : List ProblemEntry) (given goal : Query) where
  abbrev s : Schema
  s = policy.schema

  abbrev params : List Kind
  params = kinds_of policy.params

  abbrev Old : Problem
  Old = record { policy = policy; vars = []; assumed = assumed; entries = all; goal = given }

  abbrev New : Problem
  New = record { policy = policy; vars = vars; assumed = []; entries = es; goal = goal }

  null_variable : (n : ℕ) (o : Option Value) → slice_get values n ≡ o → variable_at n o ≡ Val Null → ⊥
  null_variable n None at null = cc
  null_variable n (Some v) at null = let same : v ≡ Null = cc in value_at vars values n v kinds at same

  row_operand : (kind : Kind) (x : Operand) → RowOperandFits Old kind (operand_at values x) → RowOperandFits New kind x
  row_operand kind (Col place column) (inl null) = absurd (let no : ⊥ = cc in no)
  row_operand kind (Val v) (inl null) = inl null
  row_operand kind (Param n) (inl null) = absurd (let no : ⊥ = cc in no)
  row_operand kind (Var n) (inl null) = absurd (null_variable n (slice_get values n) refl null)
  row_operand kind x (inr fits) = inr (sym (operand_kind s params vars values kinds [] x) ∙ fits)

  row_fits : (heads : List Kind) (row : List Operand) → AllZip (RowOperandFits Old) heads (map (operand_at values) row) → AllZip (RowOperandFits New) heads row
  row_fits [] [] h = tt
  row_fits [] (x ∷ row) h = absurd h
  row_fits (kind ∷ heads) [] h = absurd h
  row_fits (kind ∷ heads) (x ∷ row) h = (row_operand kind x h.0, row_fits heads row h.1)

  entry_fits : (entry : ProblemEntry) → QueryRepeats entry.query → EntryFits Old (entry_at values entry) → EntryFits New entry
  entry_fits entry repeats h =
      record {
        query = record {
          fits = record {
            kinds = h.query.fits.kinds;
            some_kind = h.query.fits.some_kind;
            some_part = λ none. h.query.fits.some_part (ap (map (part_at values)) none);
            parts = query_fits s params vars values kinds entry.query repeats h.query.fits;
          };
          few_parts = few s params vars values kinds entry.query most_parts h.query.few_parts;
          within = parts_within s params vars values kinds entry.query.parts h.query.within;
        };
        row = row_fits h.query.fits.kinds entry.row h.row;
      }

  entries_fit : (some : List ProblemEntry) (numbers : List ℕ) → map (λ entry. Some (entry_at values entry)) some ≡ map (slice_get all) numbers →
      All EntryRepeats some → All (EntryFits Old) all → All (EntryFits New) some
  entries_fit [] numbers e repeats h = All-nil (EntryFits New)
  entries_fit (entry ∷ some) [] e repeats h = absurd (let no : ⊥ = cc in no)
  entries_fit (entry ∷ some) (n ∷ numbers) e repeats h =
      let here : slice_get all n ≡ Some (entry_at values entry) = cc in
      let later : map (λ entry. Some (entry_at values entry)) some ≡ map (slice_get all) numbers = cc in
      All-cons (EntryFits New) entry some
      (entry_fits entry (All-head EntryRepeats entry some repeats)
      (subst (EntryFits Old) (get_or_from_slice_get all n (entry_at values entry) (entry_at values entry) here)
      (h n (entry_at values entry) (slice_get_within all n (entry_at values entry) here))))
      (entries_fit some numbers later (All-tail EntryRepeats entry some repeats) h)

  problem_fits : (numbers : List ℕ) → query_at values goal ≡ given → map (λ entry. Some (entry_at values entry)) es ≡ map (slice_get all) numbers →
      QueryRepeats goal → All EntryRepeats es → ProblemFits Old → ProblemFits New
  problem_fits numbers asked entries repeats entries_repeat h =
      let it : IsQuery s params [] (query_at values goal) = subst (IsQuery s params []) (sym asked) h.goal in
      record {
        links = h.links;
        rules = h.rules;
        policy = h.policy;
        goal = record {
          fits = record {
            kinds = it.fits.kinds;
            some_kind = it.fits.some_kind;
            some_part = λ none. it.fits.some_part (ap (map (part_at values)) none);
            parts = query_fits s params vars values kinds goal repeats it.fits;
          };
          few_parts = few s params vars values kinds goal most_parts it.few_parts;
          within = parts_within s params vars values kinds goal.parts it.within;
        };
        entries = entries_fit es numbers entries entries_repeat h.entries;
        assumed = All-nil (AtomFits s params vars []);
      }

  -- ---- the operands

  variables_fit : (rest : List Kind) (more : List Value) (n : ℕ) → ((k : ℕ) → slice_get rest k ≡ slice_get vars (n + k)) → AllZip IsOfKind rest more →
      All (OperandFits New) (map (λ (two : ℕ × Value). valued (Var two.0, two.1)) (zip (range_with_len n (length more)) more))
  variables_fit [] [] n at h = All-nil (OperandFits New)
  variables_fit [] (v ∷ more) n at h = absurd h
  variables_fit (kind ∷ rest) [] n at h = absurd h
  variables_fit (kind ∷ rest) (v ∷ more) n at h =
      let here : n + 0 ≡ n = omega arith in
      let kind_here : slice_get vars n ≡ Some kind = subst (λ m. slice_get vars m ≡ Some kind) here (sym (at 0)) in
      All-cons (OperandFits New) (valued (Var n, v)) (map (λ (two : ℕ × Value). valued (Var two.0, two.1)) (zip (range_with_len (n + 1) (length more)) more))
      (record { kind = kind_here ∙ sym (kind_is kind v h.0); not_null = not_null kind v h.0 })
      (variables_fit rest more (n + 1)
      (λ k. let later : n + suc k ≡ (n + 1) + k = omega arith in subst (λ m. slice_get rest k ≡ slice_get vars m) later (at (suc k))) h.1)

  parameters_fit : (twos : List (ℕ × Value)) → All (AtomFits s params [] []) (map param_is twos) →
      All (OperandFits New) (map (λ (two : ℕ × Value). valued (Param two.0, two.1)) twos)
  parameters_fit [] h = All-nil (OperandFits New)
  parameters_fit ((n, v) ∷ twos) h =
      let here : AtomFits s params [] [] (param_is (n, v)) = All-head (AtomFits s params [] []) (param_is (n, v)) (map param_is twos) h in
      All-cons (OperandFits New) (valued (Param n, v)) (map (λ (two : ℕ × Value). valued (Param two.0, two.1)) twos)
      (record { kind = here.left_is ∙ sym here.right_is; not_null = has_kind here.kind v here.right_is })
      (parameters_fit twos (All-tail (AtomFits s params [] []) (param_is (n, v)) (map param_is twos) h))

  operands_fit : (given_params : List Value) → All (AtomFits s params [] []) assumed →
      assumed ≡ map param_is (zip (range_with_len 0 (length given_params)) given_params) → All (OperandFits New) (operands_with values given_params)
  operands_fit given_params fits are =
      All-append (OperandFits New) (variables values) (parameters given_params)
      (variables_fit vars values 0 (λ k. let e : k ≡ 0 + k = omega arith in ap (slice_get vars) e) kinds)
      (parameters_fit (zip (range_with_len 0 (length given_params)) given_params) (subst (All (AtomFits s params [] [])) are fits))

  new_fits : (numbers : List ℕ) (given_params : List Value) (operands : List Valued) → query_at values goal ≡ given →
      map (λ entry. Some (entry_at values entry)) es ≡ map (slice_get all) numbers → QueryRepeats goal → All EntryRepeats es →
      assumed ≡ map param_is (zip (range_with_len 0 (length given_params)) given_params) → operands ≡ operands_with values given_params → ProblemFits Old →
      PatternFits (record { problem = New; values = values; operands = operands })
  new_fits numbers given_params operands asked entries repeats entries_repeat are operands_are h =
      let each : All (OperandFits New) operands = subst (All (OperandFits New)) (sym operands_are) (operands_fit given_params h.assumed are) in
      record {
        problem = problem_fits numbers asked entries repeats entries_repeat h;
        operands = λ i d below. (each i d below).kind;
        not_null = λ i d below. (each i d below).not_null;
      }

-- the pattern of a question's problem
pub pattern_fits : (p g : Problem) (numbers : List ℕ) (values params : List Value) (operands : List Valued) → ProblemFits p → IsOfQuestion p →
    IsPattern p numbers g values → HasParams p params → operands ≡ operands_with values params →
    PatternFits (record { problem = g; values = values; operands = operands })
pattern_fits p g numbers values params operands fits question h has operands_are =
    let old : ProblemFits (record { policy = p.policy; vars = []; assumed = p.assumed; entries = p.entries; goal = p.goal }) =
    subst (λ (vars : List Kind). ProblemFits (record { policy = p.policy; vars = vars; assumed = p.assumed; entries = p.entries; goal = p.goal })) (no_variable p question) fits in
    let new = new_fits p.policy g.vars values h.kinds p.assumed p.entries g.entries p.goal g.goal numbers params operands h.goal h.entries h.repeats h.entries_repeat
    has.assumed operands_are old in
    subst (λ (policy : Policy). PatternFits (record { problem = record { policy = policy; vars = g.vars; assumed = g.assumed; entries = g.entries; goal = g.goal }; values = values; operands = operands }))
    (sym h.policy)
    (subst (λ (assumed : List Atom). PatternFits (record { problem = record { policy = p.policy; vars = g.vars; assumed = assumed; entries = g.entries; goal = g.goal }; values = values; operands = operands }))
    (sym h.assumed) new)
