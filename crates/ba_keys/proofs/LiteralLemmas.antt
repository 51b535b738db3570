-- Queries with literals in place of arguments fit the policy.
use Rattle.std.proofs.Common.{◌≡◌, ◌∙◌, ℕ, zero, suc, ◌+◌, ◌-◌, ◌<◌, ◌≤◌, Bool, true, false, cond, nat_lt, List, [], ◌∷◌, ◌++◌, length, map, take, slice_get, Option, Some, refl, sym, ap, subst, arith}
use Rattle.std.specs.List.{All, AllByRecursion, AllZip}
use Rattle.std.proofs.lemmas.Bool.{ltb-false, ltb-true}
use Rattle.std.proofs.lemmas.List.{length-map, map-append, take_all}
use Rattle.std.proofs.lemmas.List.Elements.{All-from_recursion, recursion_from_All}
use Rattle.ba_model.specs.Conform.{IsOfKind}
use Rattle.ba_model.specs.Fit.{AtomFits, ContextFits, IsQuery, KeyFits, OpFits, PartFits, PartWithin, kind_of, kind_of_value, kinds_of}
use Rattle.ba_model.specs.declared.policy.CacheKey.{CacheKey}
use Rattle.ba_model.specs.declared.policy.Context.{Context}
use Rattle.ba_model.specs.declared.policy.Parameter.{Parameter}
use Rattle.ba_model.specs.declared.policy.Policy.{Policy}
use Rattle.ba_model.specs.declared.query.Atom.{Atom}
use Rattle.ba_model.specs.declared.query.Op.{Op}
use Rattle.ba_model.specs.declared.query.Op.TheVariants.{Eq, Ne, Lt, Le, IsNull, NotNull}
use Rattle.ba_model.specs.declared.query.Operand.{Operand}
use Rattle.ba_model.specs.declared.query.Operand.TheVariants.{Col, Val, Param, Var}
use Rattle.ba_model.specs.declared.query.Part.{Part}
use Rattle.ba_model.specs.declared.query.Query.{Query}
use Rattle.ba_model.specs.declared.schema.Kind.{Kind}
use Rattle.ba_model.specs.declared.schema.Kind.TheVariants.{Int as IntKind, Text as TextKind}
use Rattle.ba_model.specs.declared.schema.Schema.{Schema}
use Rattle.ba_model.specs.declared.value.Value.{Value}
use Rattle.ba_model.specs.declared.value.Value.TheVariants as value
use Rattle.ba_keys.specs.Literals.{atom_with, key_queries, literal_or, operand_with, part_with, query_with}

-- ---- values

kind_is : (k : Kind) (v : Value) → IsOfKind k v → kind_of_value v ≡ Some k
kind_is IntKind value.Null h = absurd h
kind_is IntKind (value.Int n) h = refl
kind_is IntKind (value.Text t) h = absurd h
kind_is TextKind value.Null h = absurd h
kind_is TextKind (value.Int n) h = absurd h
kind_is TextKind (value.Text t) h = refl

value_at : (ks : List Kind) (vs : List Value) (n : ℕ) (k : Kind) → AllZip IsOfKind ks vs → slice_get ks n ≡ Some k → (v : Value) × (slice_get vs n ≡ Some v) × (kind_of_value v ≡ Some k)
value_at [] vs n k h e = cc
value_at (j ∷ ks) [] n k h e = absurd h
value_at (j ∷ ks) (v ∷ vs) zero k h e = let same : j ≡ k = cc in (v, refl, kind_is j v h.0 ∙ ap (λ (x : Kind). Some x) same)
value_at (j ∷ ks) (v ∷ vs) (suc n) k h e = value_at ks vs n k h.1 e

-- ---- numbers of parameters

in_front : {A : Type 0} (xs ys : List A) (n : ℕ) → n < length xs → slice_get (xs ++ ys) n ≡ slice_get xs n
in_front [] ys n lt = absurd (omega (arith, lt))
in_front (x ∷ xs) ys zero lt = refl
in_front (x ∷ xs) ys (suc n) lt = in_front xs ys n (omega (arith, lt))

behind : {A : Type 0} (xs ys : List A) (n : ℕ) → length xs ≤ n → slice_get (xs ++ ys) n ≡ slice_get ys (n - length xs)
behind [] ys n le = let same : n - 0 ≡ n = omega arith in ap (slice_get ys) (sym same)
behind (x ∷ xs) ys zero le = absurd (omega (arith, le))
behind (x ∷ xs) ys (suc n) le =
    let same : suc n - suc (length xs) ≡ n - length xs = omega arith in
    behind xs ys n (omega (arith, le)) ∙ ap (slice_get ys) (sym same)

-- ---- a query with literals

module _ (s : Schema) (params extra : List Kind) (values : List Value) (fit : AllZip IsOfKind extra values) where
  operand_fits : (from : List ℕ) (o : Operand) (k : Kind) → kind_of s (params ++ extra) [] from o ≡ Some k → kind_of s params [] from (operand_with (length params) values o) ≡ Some k
  unfolding operand_with
  operand_fits from (Col place column) k e = e
  operand_fits from (Val v) k e = e
  operand_fits from (Var m) k e = e
  operand_fits from (Param p) k e = by (nat_lt p (length params)) refl
    where
      by : (b : Bool) → nat_lt p (length params) ≡ b → kind_of s params [] from (cond b (Param p) (literal_or p (slice_get values (p - length params)))) ≡ Some k
      by true h = sym (in_front params extra p (ltb-true p (length params) h)) ∙ e
      by false h =
          let at = value_at extra values (p - length params) k fit (sym (behind params extra p (ltb-false p (length params) h)) ∙ e) in
          ap (λ (o : Option Value). kind_of s params [] from (literal_or p o)) at.1 ∙ at.2

  op_fits : (op : Op) (k : Kind) (left right : Operand) → OpFits op k left right → OpFits op k (operand_with (length params) values left) (operand_with (length params) values right)
  op_fits Eq k left right h = tt
  op_fits Ne k left right h = tt
  op_fits Lt k left right h = h
  op_fits Le k left right h = h
  op_fits IsNull k left right h = ap (operand_with (length params) values) h
  op_fits NotNull k left right h = ap (operand_with (length params) values) h

  atom_fits : (from : List ℕ) (a : Atom) → AtomFits s (params ++ extra) [] from a → AtomFits s params [] from (atom_with (length params) values a)
  atom_fits from a h = record { kind = h.kind; left_is = operand_fits from a.left h.kind h.left_is; right_is = operand_fits from a.right h.kind h.right_is; op = op_fits a.op h.kind a.left a.right h.op }

  atoms_fit : (from : List ℕ) (atoms : List Atom) → AllByRecursion (AtomFits s (params ++ extra) [] from) atoms → AllByRecursion (AtomFits s params [] from) (map (atom_with (length params) values) atoms)
  atoms_fit from [] h = tt
  atoms_fit from (a ∷ atoms) h = (atom_fits from a h.0, atoms_fit from atoms h.1)

  head_fits : (from : List ℕ) (os : List Operand) (ks : List Kind) → map (kind_of s (params ++ extra) [] from) os ≡ map Some ks → map (kind_of s params [] from) (map (operand_with (length params) values) os) ≡ map Some ks
  head_fits from [] [] e = refl
  head_fits from [] (k ∷ ks) e = cc
  head_fits from (o ∷ os) [] e = cc
  head_fits from (o ∷ os) (k ∷ ks) e =
      let one : kind_of s (params ++ extra) [] from o ≡ Some k = cc in
      let others : map (kind_of s (params ++ extra) [] from) os ≡ map Some ks = cc in
      rw (operand_fits from o k one, head_fits from os ks others) refl

  part_fits : (kinds : List Kind) (part : Part) → PartFits s (params ++ extra) [] kinds part → PartFits s params [] kinds (part_with (length params) values part)
  part_fits kinds part h = record {
    some_table = h.some_table;
    tables = h.tables;
    conds =
        All-from_recursion (AtomFits s params [] part.from) (map (atom_with (length params) values) part.conds)
        (atoms_fit part.from part.conds (recursion_from_All (AtomFits s (params ++ extra) [] part.from) part.conds h.conds));
    head = head_fits part.from part.head kinds h.head;
  }

  parts_fit : (kinds : List Kind) (parts : List Part) → AllByRecursion (PartFits s (params ++ extra) [] kinds) parts → AllByRecursion (PartFits s params [] kinds) (map (part_with (length params) values) parts)
  parts_fit kinds [] h = tt
  parts_fit kinds (p ∷ parts) h = (part_fits kinds p h.0, parts_fit kinds parts h.1)

  part_within : (part : Part) → PartWithin part → PartWithin (part_with (length params) values part)
  part_within part h = record {
    tables = h.tables;
    conds = omega (arith, h.conds, length-map part.conds (atom_with (length params) values));
    head = omega (arith, h.head, length-map part.head (operand_with (length params) values));
  }

  parts_within : (parts : List Part) → AllByRecursion PartWithin parts → AllByRecursion PartWithin (map (part_with (length params) values) parts)
  parts_within [] h = tt
  parts_within (p ∷ parts) h = (part_within p h.0, parts_within parts h.1)

  some_parts : (parts : List Part) → (parts ≡ [] → ⊥) → map (part_with (length params) values) parts ≡ [] → ⊥
  some_parts [] some e = some refl
  some_parts (p ∷ parts) some e = cc

  pub literal_fits : (q : Query) → IsQuery s (params ++ extra) [] q → IsQuery s params [] (query_with (length params) values q)
  literal_fits q h = record {
    fits = record {
      kinds = h.fits.kinds;
      some_kind = h.fits.some_kind;
      some_part = some_parts q.parts h.fits.some_part;
      parts =
          All-from_recursion (PartFits s params [] h.fits.kinds) (map (part_with (length params) values) q.parts)
          (parts_fit h.fits.kinds q.parts (recursion_from_All (PartFits s (params ++ extra) [] h.fits.kinds) q.parts h.fits.parts));
    };
    few_parts = omega (arith, h.few_parts, length-map q.parts (part_with (length params) values));
    within = All-from_recursion PartWithin (map (part_with (length params) values) q.parts) (parts_within q.parts (recursion_from_All PartWithin q.parts h.within));
  }

-- ---- the queries of a key

literals_fit : (s : Schema) (params extra : List Kind) (values : List Value) → AllZip IsOfKind extra values → (n : ℕ) → n ≡ length params → (queries : List Query) → AllByRecursion (IsQuery s (params ++ extra) []) queries
    → AllByRecursion (IsQuery s params []) (map (query_with n values) queries)
literals_fit s params extra values fit n is [] h = tt
literals_fit s params extra values fit n is (q ∷ queries) h =
    (subst (λ m. IsQuery s params [] (query_with m values q)) (sym is) (literal_fits s params extra values fit q h.0), literals_fit s params extra values fit n is queries h.1)

pub key_queries_fit : (policy : Policy) (key : CacheKey) (arguments : Context) → KeyFits policy key → ContextFits (kinds_of key.arguments) arguments → All (IsQuery policy.schema (kinds_of policy.params) []) (key_queries policy key arguments)
key_queries_fit policy key arguments fits given =
    let kinds : kinds_of (policy.params ++ key.arguments) ≡ kinds_of policy.params ++ kinds_of key.arguments = map-append (λ (p : Parameter). p.kind) policy.params key.arguments in
    let queries : AllByRecursion (IsQuery policy.schema (kinds_of policy.params ++ kinds_of key.arguments) []) key.queries =
    subst (λ (ks : List Kind). AllByRecursion (IsQuery policy.schema ks []) key.queries) kinds (recursion_from_All (IsQuery policy.schema (kinds_of (policy.params ++ key.arguments)) []) key.queries fits.queries) in
    All-from_recursion (IsQuery policy.schema (kinds_of policy.params) []) (key_queries policy key arguments)
    (literals_fit policy.schema (kinds_of policy.params) (kinds_of key.arguments) arguments.values given (length policy.params) (sym (length-map policy.params (λ (p : Parameter). p.kind))) key.queries queries)

-- the queries that a loop has made
pub made_fit : (policy : Policy) (key : CacheKey) (arguments : Context) → KeyFits policy key → ContextFits (kinds_of key.arguments) arguments → (n : ℕ) (values : List Value) (items made : List Query) (i : ℕ)
    → n ≡ length policy.params → values ≡ arguments.values → items ≡ key.queries → length items ≤ i → made ≡ map (query_with n values) (take i items)
    → All (IsQuery policy.schema (kinds_of policy.params) []) made
made_fit policy key arguments fits given n values items made i n_is values_are items_are past is =
    let whole : map (query_with n values) (take i items) ≡ map (query_with n values) key.queries = ap (map (query_with n values)) (take_all i items past ∙ items_are) in
    let named : map (query_with n values) key.queries ≡ key_queries policy key arguments =
    ap (λ (m : ℕ). map (query_with m values) key.queries) n_is ∙ ap (λ (vs : List Value). map (query_with (length policy.params) vs) key.queries) values_are in
    subst (All (IsQuery policy.schema (kinds_of policy.params) [])) (sym (is ∙ whole ∙ named)) (key_queries_fit policy key arguments fits given)
