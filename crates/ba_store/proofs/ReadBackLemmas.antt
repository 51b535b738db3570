-- A template that was written reads back.
use Rattle.std.proofs.Common.{◌≡◌, ◌≢◌, ◌∙◌, ℕ, suc, zero, ◌+◌, ◌<◌, ◌≤◌, ◌^◌, Bool, true, false, cond, List, [], ◌∷◌, length, map, nat_le, nat_lt, refl, sym, ap, subst, arith, All, inl, inr, pos, negsuc, codes}
use Rattle.std.specs.Prelude.{Option, Some, None, Result, Ok, Err, slice_get}
use Rattle.std.proofs.lemmas.Bool.{le-leb}
use Rattle.std.proofs.lemmas.List.Elements.{recursion_from_All}
use Rattle.std.specs.List.{AllByRecursion, AllZip}
use Rattle.serde_json.specs.Data.{Data, Members, no_members, member, object, string}
use Rattle.serde_json.specs.Find.{get}
use Rattle.ba_model.specs.Fit.{AtomFits, IsQuery, PartFits, kind_of, kinds_of}
use Rattle.ba_model.specs.Limits.{most_entries, most_operands, most_steps}
use Rattle.ba_model.specs.Readings.{◌>>=◌, each, widened}
use Rattle.ba_model.specs.SchemaFaults.{AreDistinct, table_names}
use Rattle.ba_model.specs.declared.policy.Parameter.{Parameter}
use Rattle.ba_model.specs.declared.policy.Policy.{Policy}
use Rattle.ba_model.specs.declared.query.Atom.{Atom}
use Rattle.ba_model.specs.declared.query.Operand.{Operand}
use Rattle.ba_model.specs.declared.query.Operand.TheVariants.{Col, Val, Param, Var}
use Rattle.ba_model.specs.declared.query.Part.{Part}
use Rattle.ba_model.specs.declared.query.Query.{Query}
use Rattle.ba_model.specs.declared.schema.Kind.{Kind}
use Rattle.ba_model.specs.declared.schema.Kind.TheVariants.{Int as IntKind, Text as TextKind}
use Rattle.ba_model.specs.declared.schema.Schema.{Schema}
use Rattle.ba_model.specs.declared.schema.Table.{Table}
use Rattle.ba_model.specs.declared.value.Value.TheVariants as value
use Rattle.ba_kernel.proofs.DraftLemmas.{stands_from_entry}
use Rattle.ba_kernel.specs.Courses.{EntryFits, RowOperandFits}
use Rattle.ba_kernel.specs.declared.problem.Problem.{Problem}
use Rattle.ba_kernel.specs.declared.problem.ProblemEntry.{ProblemEntry}
use Rattle.ba_kernel.specs.declared.step.Step.{Step}
use Rattle.ba_script.specs.Script.{given_from}
use Rattle.ba_sql_print.specs.Printed.{param_name, table_name}
use Rattle.ba_proof.proofs.ContextLemmas.{name_there}
use Rattle.ba_proof.proofs.SaidLemmas.{as_list_said}
use Rattle.ba_proof.proofs.ShapeLemmas.{items_are}
use Rattle.ba_proof.proofs.StepLemmas.{HasVersion, all_steps, op_reads}
use Rattle.ba_proof.specs.ReadBack.{IsShort, StepSpells}
use Rattle.ba_proof.specs.Shapes.{as_short}
use Rattle.ba_proof.specs.Steps.{step_at}
use Rattle.ba_proof.specs.Written.{count, list_json, op_name, step_json}
use Rattle.ba_proof.specs.declared.fault.ProofFault.{ProofFault}
use Rattle.ba_proof.specs.declared.version.TheConstants.{RULE_VERSION}
use Rattle.ba_store.proofs.FitLemmas.{assumed_said, is_checked, stands_said, vars_said}
use Rattle.ba_store.proofs.NameLemmas.{below_length, place_is, there_is}
use Rattle.ba_store.specs.Fits.{is_assumed, row_stands, stands_for, vars_stand}
use Rattle.ba_store.specs.ReadBack.{AtomHasBits, EntryHasBits, IsNamedApart, OperandHasBits, PartHasBits, QueryHasBits, TemplateHasBits}
use Rattle.ba_store.specs.Reading.{asked_at, assumed_at, atom_at, column_at, condition_at, draft_at, draft_with, entries_at, entries_of, entry_at, entry_of, entry_with, fields_of, few_entries, few_steps, few_vars, goal_at, if_assumed, if_stands, is_key, keys_at, kind_at, kind_named, marked_at, operand_at, operand_given, param_at, part_at, part_of, part_with, parts_at, problem_at, problem_with, query_at, steps_at, steps_of, table_at, vars_at, version_at, with_condition}
use Rattle.ba_store.specs.Shapes.{list_at, number_at, or_bad}
use Rattle.ba_store.specs.Tests.{PassesTests}
use Rattle.ba_store.specs.Written.{atom_json, entry_json, kind_json, operand_json, part_json, query_json, table_json, template_json}
use Rattle.ba_store.specs.declared.fault.LineFault.TheVariants as line
use Rattle.ba_store.specs.declared.fault.StoreField.{StoreField}
use Rattle.ba_store.specs.declared.fault.StoreField.TheVariants as field

-- ---- lists and numbers

each_back : {X F : Type 0} (f : Data → Result X F) (json : X → Data) (P : X → Type 0) → ((x : X) → P x → f (json x) ≡ Ok x) → (xs : List X) → AllByRecursion P xs → each f (map json xs) ≡ Ok xs
each_back f json P one [] h = refl
each_back f json P one (x ∷ xs) h = rw (one x h.0, each_back f json P one xs h.1) refl

list_back : (it : StoreField) (ds : List Data) → list_at it (list_json ds) ≡ Ok ds
list_back it ds = ap (or_bad it) (as_list_said ds)

items_back : {X : Type 0} (it : StoreField) (f : Data → Result X StoreField) (json : X → Data) (P : X → Type 0) → ((x : X) → P x → f (json x) ≡ Ok x) → (xs : List X) → AllByRecursion P xs
    → (list_at it (list_json (map json xs)) >>= each f) ≡ Ok xs
items_back it f json P one xs h = ap (λ r. r >>= each f) (list_back it (map json xs)) ∙ each_back f json P one xs h

number_back : (it : StoreField) (n : ℕ) → IsShort n → number_at it (count n) ≡ Ok n
unfolding as_short
number_back it n h = let small : nat_le n 0xffff_ffff ≡ true = le-leb n 0xffff_ffff (omega (arith, h)) in rw small refl

length_map : {X Y : Type 0} (f : X → Y) (xs : List X) → length (map f xs) ≡ length xs
length_map f [] = refl
length_map f (x ∷ xs) = ap suc (length_map f xs)

pair_all : {X : Type 0} (P Q : X → Type 0) (xs : List X) → AllByRecursion P xs → AllByRecursion Q xs → AllByRecursion (λ x. P x × Q x) xs
pair_all P Q [] h k = tt
pair_all P Q (x ∷ xs) h k = ((h.0, k.0), pair_all P Q xs h.1 k.1)

weaker : {X : Type 0} (P Q : X → Type 0) → ((x : X) → P x → Q x) → (xs : List X) → AllByRecursion P xs → AllByRecursion Q xs
weaker P Q f [] h = tt
weaker P Q f (x ∷ xs) h = (f x h.0, weaker P Q f xs h.1)

-- ---- operands and atoms

-- a parameter is one of the policy's
abbrev IsHere : List Parameter → Operand → Type 0
IsHere params (Col place column) = Unit {0}
IsHere params (Val v) = Unit {0}
IsHere params (Param n) = n < length params
IsHere params (Var n) = Unit {0}

abbrev AreHere : List Parameter → Atom → Type 0
AreHere params atom = IsHere params atom.left × IsHere params atom.right

kind_here : (s : Schema) (params : List Parameter) (vars : List Kind) (from : List ℕ) (x : Operand) (k : Kind) → kind_of s (kinds_of params) vars from x ≡ Some k → IsHere params x
kind_here s params vars from (Col place column) k e = tt
kind_here s params vars from (Val v) k e = tt
kind_here s params vars from (Param n) k e = subst (λ m. n < m) (length_map (λ (parameter : Parameter). parameter.kind) params) (below_length (λ kind. []) (kinds_of params) n k e)
kind_here s params vars from (Var n) k e = tt

int_back : (it : StoreField) (params : List Parameter) (n : ℕ) (b : Bool) (d : Data) → b ≡ true → operand_given it params (given_from None (cond b (Some (pos n)) None)) d ≡ Ok (Val (value.Int (pos n)))
int_back it params n true d e = refl
int_back it params n false d e = cc e

module _ (params : List Parameter) (apart : AreDistinct (map (λ q. q.name) params)) where
  param_back : (it : StoreField) (n : ℕ) → n < length params → IsShort n → param_at it params (param_name params n) ≡ Ok (Param n)
  unfolding param_at
  param_back it n lt bits =
      let p = there_is (λ (q : Parameter). q.name) params n lt in
      rw (name_there params n p.0 p.1, place_is (λ (q : Parameter). q.name) params n p.0 apart p.1 lt bits) refl

  operand_back : (it : StoreField) (x : Operand) → OperandHasBits x × IsHere params x → operand_at it params (operand_json params x) ≡ Ok x
  unfolding operand_at marked_at column_at
  operand_back it (Col place column) h = rw (number_back it place h.0.0, number_back it column h.0.1) refl
  operand_back it (Val value.Null) h = refl
  operand_back it (Val (value.Int (pos n))) h = int_back it params n (nat_lt n (2 ^ 63)) _ h.0
  operand_back it (Val (value.Int (negsuc n))) h = refl
  operand_back it (Val (value.Text s)) h = refl
  operand_back it (Param n) h = param_back it n h.1 h.0
  operand_back it (Var n) h = rw (number_back it n h.0) refl

  atom_back : (it : StoreField) (atom : Atom) → AtomHasBits atom × AreHere params atom → atom_at it params (atom_json params atom) ≡ Ok atom
  unfolding atom_at atom_json
  atom_back it atom h = rw (op_reads atom.op, operand_back it atom.left (h.0.left, h.1.0), operand_back it atom.right (h.0.right, h.1.1)) refl

-- ---- queries

module _ (s : Schema) (params : List Parameter) (apart : AreDistinct (map (λ q. q.name) params)) (named : AreDistinct (table_names s.tables)) where
  abbrev IsTable : ℕ → Type 0
  IsTable t = t < length s.tables

  table_back : (it : StoreField) (t : ℕ) → IsShort t × IsTable t → table_at it s (table_json s t) ≡ Ok t
  unfolding table_at table_name
  table_back it t h =
      let p = there_is (λ (x : Table). x.name) s.tables t h.1 in
      rw (p.1, place_is (λ (x : Table). x.name) s.tables t p.0 named p.1 h.1 h.0) refl

  -- what a part names is there
  record PartIsHere (part : Part) : Type 0 where
    from : AllByRecursion IsTable part.from
    conds : AllByRecursion (AreHere params) part.conds
    head : AllByRecursion (IsHere params) part.head

  part_made : (it : StoreField) (a b c : Data) (from : List ℕ) (conds : List Atom) (head : List Operand) → (list_at it a >>= each (atom_at it params)) ≡ Ok conds
      → (list_at it b >>= each (table_at it s)) ≡ Ok from → (list_at it c >>= each (operand_at it params)) ≡ Ok head → part_of it s params a b c ≡ Ok (part_with from conds head)
  unfolding part_of
  part_made it a b c from conds head x y z = rw (x, y, z) refl

  part_back : (it : StoreField) (part : Part) → PartHasBits part × PartIsHere part → part_at it s params (part_json s params part) ≡ Ok part
  unfolding part_json
  part_back it part h =
      part_made it (list_json (map (atom_json params) part.conds)) (list_json (map (table_json s) part.from)) (list_json (map (operand_json params) part.head)) part.from part.conds part.head
      (items_back it (atom_at it params) (atom_json params) (λ x. AtomHasBits x × AreHere params x) (atom_back params apart it) part.conds
      (pair_all AtomHasBits (AreHere params) part.conds (recursion_from_All AtomHasBits part.conds h.0.conds) h.1.conds))
      (items_back it (table_at it s) (table_json s) (λ t. IsShort t × IsTable t) (table_back it) part.from (pair_all IsShort IsTable part.from (recursion_from_All IsShort part.from h.0.from) h.1.from))
      (items_back it (operand_at it params) (operand_json params) (λ x. OperandHasBits x × IsHere params x) (operand_back params apart it) part.head
      (pair_all OperandHasBits (IsHere params) part.head (recursion_from_All OperandHasBits part.head h.0.head) h.1.head))

  module _ (vars : List Kind) where
    atom_here : (from : List ℕ) (atom : Atom) → AtomFits s (kinds_of params) vars from atom → AreHere params atom
    atom_here from atom h = (kind_here s params vars from atom.left h.kind h.left_is, kind_here s params vars from atom.right h.kind h.right_is)

    table_here : (tables : List Table) (t : ℕ) → slice_get tables t ≢ None → t < length tables
    table_here [] t h = absurd (h refl)
    table_here (x ∷ tables) zero h = omega arith
    table_here (x ∷ tables) (suc t) h = let k = table_here tables t h in omega (arith, k)

    head_here : (from : List ℕ) (head : List Operand) (kinds : List Kind) → map (kind_of s (kinds_of params) vars from) head ≡ map Some kinds → AllByRecursion (IsHere params) head
    head_here from [] kinds e = tt
    head_here from (x ∷ head) [] e = absurd (cc)
    head_here from (x ∷ head) (k ∷ kinds) e =
        let first : kind_of s (kinds_of params) vars from x ≡ Some k = cc in
        let rest : map (kind_of s (kinds_of params) vars from) head ≡ map Some kinds = cc in
        (kind_here s params vars from x k first, head_here from head kinds rest)

    part_here : (kinds : List Kind) (part : Part) → PartFits s (kinds_of params) vars kinds part → PartIsHere part
    part_here kinds part h =
        record {
          from = weaker (λ t. slice_get s.tables t ≢ None) IsTable (table_here s.tables) part.from (recursion_from_All (λ t. slice_get s.tables t ≢ None) part.from h.tables);
          conds = weaker (AtomFits s (kinds_of params) vars part.from) (AreHere params) (atom_here part.from) part.conds (recursion_from_All (AtomFits s (kinds_of params) vars part.from) part.conds h.conds);
          head = head_here part.from part.head kinds h.head;
        }

    parts_back : (it : StoreField) (q : Query) → IsQuery s (kinds_of params) vars q → QueryHasBits q → parts_at it s params (query_json s params q) ≡ Ok q.parts
    unfolding query_json
    parts_back it q fits h =
        items_back it (part_at it s params) (part_json s params) (λ part. PartHasBits part × PartIsHere part) (part_back it) q.parts
        (pair_all PartHasBits PartIsHere q.parts (recursion_from_All PartHasBits q.parts h.parts)
        (weaker (PartFits s (kinds_of params) vars fits.fits.kinds) PartIsHere (part_here fits.fits.kinds) q.parts (recursion_from_All (PartFits s (kinds_of params) vars fits.fits.kinds) q.parts fits.fits.parts)))

    pub query_back : (it : StoreField) (q : Query) → IsQuery s (kinds_of params) vars q → QueryHasBits q → query_at it s params vars (query_json s params q) ≡ Ok q
    unfolding query_at
    query_back it q fits h = rw (parts_back it q fits h) (is_checked it s params vars q.parts q fits refl)

-- ---- the fields of a template

-- the row of an entry that fits may stand for its query's head
pub entry_stands : (p : Problem) (entry : ProblemEntry) → EntryFits p entry → row_stands p.policy.schema (kinds_of p.policy.params) p.vars entry.query entry.row ≡ true
entry_stands p entry fits = by (slice_get entry.query.parts 0) refl
  where
    none_first : (parts : List Part) → slice_get parts 0 ≡ None → parts ≡ []
    none_first [] e = refl
    none_first (part ∷ parts) e = cc e

    by : (first : Option Part) → slice_get entry.query.parts 0 ≡ first → stands_for p.policy.schema (kinds_of p.policy.params) p.vars first entry.row ≡ true
    by None e = absurd (fits.query.fits.some_part (none_first entry.query.parts e))
    by (Some part) e = stands_said p part.from part.head entry.row (stands_from_entry p entry part e fits)

module _ (p : Problem) (apart : IsNamedApart p.policy) where
  abbrev schema : Schema
  schema = p.policy.schema

  abbrev params : List Parameter
  params = p.policy.params

  row_here : (kinds : List Kind) (row : List Operand) → AllZip (RowOperandFits p) kinds row → AllByRecursion (IsHere params) row
  row_here [] [] z = tt
  row_here [] (x ∷ row) z = absurd z
  row_here (k ∷ kinds) [] z = absurd z
  row_here (k ∷ kinds) (x ∷ row) z = (
    elim z.0 [
      | inl null ↦ subst (IsHere params) (sym null) tt
      | inr is ↦ kind_here schema params p.vars [] x k is
    ],
    row_here kinds row z.1,
  )

  entry_made : (a b : Data) (q : Query) (row : List Operand) → query_at field.Entries schema params p.vars a ≡ Ok q → (list_at field.Entries b >>= each (operand_at field.Entries params)) ≡ Ok row
      → row_stands schema (kinds_of params) p.vars q row ≡ true → entry_of schema params p.vars a b ≡ Ok (entry_with q row)
  unfolding entry_of
  entry_made a b q row x y z = rw (x, y, z) refl

  entry_back : (entry : ProblemEntry) → EntryFits p entry × EntryHasBits entry → entry_at schema params p.vars (entry_json schema params entry) ≡ Ok entry
  unfolding entry_json
  entry_back entry h =
      entry_made (query_json schema params entry.query) (list_json (map (operand_json params) entry.row)) entry.query entry.row
      (query_back schema params apart.params apart.tables p.vars field.Entries entry.query h.0.query h.1.query)
      (items_back field.Entries (operand_at field.Entries params) (operand_json params) (λ x. OperandHasBits x × IsHere params x) (operand_back params apart.params field.Entries) entry.row
      (pair_all OperandHasBits (IsHere params) entry.row (recursion_from_All OperandHasBits entry.row h.1.row) (row_here h.0.query.fits.kinds entry.row h.0.row)))
      (entry_stands p entry h.0)

  assumed_back : (atom : Atom) → AtomFits schema (kinds_of params) p.vars [] atom × AtomHasBits atom → assumed_at schema params p.vars (atom_json params atom) ≡ Ok atom
  assumed_back atom h =
      rw (
        atom_back params apart.params field.Condition atom (h.1, (kind_here schema params p.vars [] atom.left h.0.kind h.0.left_is, kind_here schema params p.vars [] atom.right h.0.kind h.0.right_is)),
        assumed_said schema (kinds_of params) p.vars atom h.0,
      ) refl

  -- lists that aren't too long

  kind_back : (kind : Kind) → kind_at (kind_json kind) ≡ Ok kind
  unfolding kind_named
  kind_back IntKind = refl
  kind_back TextKind = refl

  kinds_back : (kinds : List Kind) → each kind_at (map kind_json kinds) ≡ Ok kinds
  kinds_back [] = refl
  kinds_back (kind ∷ kinds) = rw (kind_back kind, kinds_back kinds) refl

  vars_back : length p.vars + length params ≤ most_operands → vars_at params (Some (list_json (map kind_json p.vars))) ≡ Ok p.vars
  unfolding vars_at
  vars_back few =
      let small : nat_le (length (map kind_json p.vars) + length params) most_operands ≡ true =
      le-leb _ most_operands (subst (λ n. n + length params ≤ most_operands) (sym (length_map kind_json p.vars)) few) in
      rw (items_are (map kind_json p.vars), small) (kinds_back p.vars)

  goal_back : IsQuery schema (kinds_of params) p.vars p.goal → QueryHasBits p.goal → goal_at schema params p.vars (Some (query_json schema params p.goal)) ≡ Ok p.goal
  unfolding goal_at
  goal_back fits h = query_back schema params apart.params apart.tables p.vars field.Goal p.goal fits h

  entries_back : All (EntryFits p) p.entries → All EntryHasBits p.entries → length p.entries ≤ most_entries
      → entries_of schema params p.vars (Some (list_json (map (entry_json schema params) p.entries))) ≡ Ok p.entries
  unfolding entries_of
  entries_back fit h few =
      let small : nat_le (length (map (entry_json schema params) p.entries)) most_entries ≡ true =
      le-leb _ most_entries (subst (λ n. n ≤ most_entries) (sym (length_map (entry_json schema params) p.entries)) few) in
      rw (items_are (map (entry_json schema params) p.entries), small)
      (each_back (entry_at schema params p.vars) (entry_json schema params) (λ x. EntryFits p x × EntryHasBits x) entry_back p.entries
      (pair_all (EntryFits p) EntryHasBits p.entries (recursion_from_All (EntryFits p) p.entries fit) (recursion_from_All EntryHasBits p.entries h)))

  condition_back : All (AtomFits schema (kinds_of params) p.vars []) p.assumed → All AtomHasBits p.assumed
      → condition_at schema params p.vars (Some (list_json (map (atom_json params) p.assumed))) ≡ Ok p.assumed
  unfolding condition_at
  condition_back fit h =
      items_back field.Condition (assumed_at schema params p.vars) (atom_json params) (λ x. AtomFits schema (kinds_of params) p.vars [] x × AtomHasBits x) assumed_back p.assumed
      (pair_all (AtomFits schema (kinds_of params) p.vars []) AtomHasBits p.assumed (recursion_from_All (AtomFits schema (kinds_of params) p.vars []) p.assumed fit) (recursion_from_All AtomHasBits p.assumed h))

  -- steps by rules are allowed
  versions : (all : List Step) → AllByRecursion (HasVersion RULE_VERSION) all
  versions [] = tt
  versions (step ∷ all) = (λ is. refl, versions all)

  steps_back : (all : List Step) → All (StepSpells params (length p.vars)) all → length all ≤ most_steps
      → steps_at params (length p.vars) (Some (list_json (map (step_json params (length p.vars)) all))) ≡ Ok all
  unfolding steps_at
  steps_back all h few =
      let small : nat_le (length (map (step_json params (length p.vars)) all)) most_steps ≡ true =
      le-leb _ most_steps (subst (λ n. n ≤ most_steps) (sym (length_map (step_json params (length p.vars)) all)) few) in
      rw (items_are (map (step_json params (length p.vars)) all), small)
      (ap (widened (λ (fault : ProofFault). field.Steps))
      (all_steps params (length p.vars) RULE_VERSION all apart.params (recursion_from_All (StepSpells params (length p.vars)) all h) (versions all)))

  -- ---- the whole

  asked_made : (d : Data) → version_at (get (codes "version") d) ≡ Ok tt → vars_at params (get (codes "vars") d) ≡ Ok p.vars → goal_at schema params p.vars (get (codes "goal") d) ≡ Ok p.goal
      → entries_of schema params p.vars (get (codes "entries") d) ≡ Ok p.entries → vars_stand (problem_with p.policy p.vars [] p.entries p.goal) ≡ true
      → asked_at p.policy d ≡ Ok (problem_with p.policy p.vars [] p.entries p.goal)
  unfolding asked_at entries_at
  asked_made d a b c e f = rw (a, b, c, e, f) refl

  fields_made : (d : Data) (ms : Members) (all : List Step) → asked_at p.policy d ≡ Ok (problem_with p.policy p.vars [] p.entries p.goal)
      → condition_at schema params p.vars (get (codes "condition") d) ≡ Ok p.assumed → steps_at params (length p.vars) (get (codes "steps") d) ≡ Ok all → keys_at ms ≡ Ok tt
      → fields_of p.policy d ms ≡ Ok (draft_with p all)
  unfolding fields_of problem_at
  fields_made d ms all a b c e = rw (a, b, c, e) refl

  keys_back : (a b c d e f : Data)
      → keys_at (member (codes "condition") a (member (codes "entries") b (member (codes "goal") c (member (codes "steps") d (member (codes "vars") e (member (codes "version") f no_members)))))) ≡ Ok tt
  unfolding keys_at is_key
  keys_back a b c d e f = refl

  version_back : version_at (Some (count 1)) ≡ Ok tt
  unfolding version_at
  version_back = refl

  pub template_back : (all : List Step) → PassesTests p.policy p all → TemplateHasBits p all → All (StepSpells params (length p.vars)) all
      → draft_at p.policy (template_json p all) ≡ Ok (draft_with p all)
  unfolding template_json
  template_back all tests h spelled =
      let asked = asked_made (template_json p all) version_back (vars_back tests.few_vars) (goal_back tests.formed.goal h.goal) (entries_back tests.formed.entries h.entries tests.few_entries)
      (vars_said (problem_with p.policy p.vars [] p.entries p.goal) (record { stands = tests.stands.stands })) in
      ap (widened line.Field)
      (fields_made (template_json p all) _ all asked (condition_back tests.formed.assumed h.condition) (steps_back all spelled tests.few_steps) (keys_back _ _ _ _ _ _))
