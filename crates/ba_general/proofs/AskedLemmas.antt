-- A question's problem has no variable, and what its pattern is.
use Rattle.std.proofs.Common.{◌≡◌, ℕ, ◌+◌, inl, inr, List, [], ◌∷◌, ◌++◌, length, map, refl, sym, ap, ap₂, ◌∙◌, subst, append-nil, arith}
use Rattle.std.specs.Prelude.{All, Some}
use Rattle.std.specs.List.{AllZip, flat_map, range_with_len, zip}
use Rattle.std.proofs.lemmas.Grind.{flat_map-append}
use Rattle.std.proofs.lemmas.List.{length-append}
use Rattle.std.proofs.lemmas.List.Elements.{All-append, All-cons, All-nil, All-weaker}
use Rattle.ba_kernel.proofs.CaseFactLemmas.{zip_append}
use Rattle.ba_kernel.specs.Courses.{EntryFits, ProblemFits, RowOperandFits}
use Rattle.ba_kernel.specs.Problems.{param_is, query_at}
use Rattle.ba_kernel.specs.declared.problem.Problem.{Problem}
use Rattle.ba_kernel.specs.declared.problem.ProblemEntry.{ProblemEntry}
use Rattle.ba_model.specs.Conform.{IsOfKind}
use Rattle.ba_model.specs.Fit.{AtomFits, IsQuery, OpFits, PartFits, kind_of, kinds_of}
use Rattle.ba_model.specs.declared.query.Atom.{Atom}
use Rattle.ba_model.specs.declared.query.Op.{Op}
use Rattle.ba_model.specs.declared.query.Op.TheVariants as ops
use Rattle.ba_model.specs.declared.query.Operand.{Operand}
use Rattle.ba_model.specs.declared.query.Operand.TheVariants.{Col, Val, Param, Var}
use Rattle.ba_model.specs.declared.query.Part.{Part}
use Rattle.ba_model.specs.declared.query.Query.{Query}
use Rattle.ba_model.specs.declared.schema.Kind.{Kind}
use Rattle.ba_model.specs.declared.schema.Schema.{Schema}
use Rattle.ba_model.specs.declared.value.Value.{Value}
use Rattle.ba_general.proofs.NamesLemmas.{range_append}
use Rattle.ba_general.specs.Conditions.{HasOperands, parameters_of, valued, variables}
use Rattle.ba_general.specs.Generals.{IsOfQuestion}
use Rattle.ba_general.specs.Patterns.{AtomIsAsked, EntryIsAsked, EntryRepeats, HasNoLiteral, IsGiven, IsPattern, Named, NamesEntries, NamesQuery, OpRepeats, PartIsAsked, QueryIsAsked, QueryRepeats, entry_at, printed_entry, printed_query, variable_of}
use Rattle.ba_general.specs.declared.pattern.Valued.{Valued}

-- ---- no variable

is_given : (s : Schema) (params : List Kind) (from : List ℕ) (o : Operand) (kind : Kind) → kind_of s params [] from o ≡ Some kind → IsGiven o
is_given s params from (Col place column) kind e = tt
is_given s params from (Val v) kind e = tt
is_given s params from (Param n) kind e = tt
is_given s params from (Var n) kind e = let no : ⊥ = cc in no

op_repeats : (op : Op) (kind : Kind) (left right : Operand) → OpFits op kind left right → OpRepeats op left right
op_repeats ops.Eq kind left right h = tt
op_repeats ops.Ne kind left right h = tt
op_repeats ops.Lt kind left right h = tt
op_repeats ops.Le kind left right h = tt
op_repeats ops.IsNull kind left right h = h
op_repeats ops.NotNull kind left right h = h

atom_asked : (s : Schema) (params : List Kind) (from : List ℕ) (atom : Atom) → AtomFits s params [] from atom → AtomIsAsked atom
atom_asked s params from atom h =
    record {
      repeats = op_repeats atom.op h.kind atom.left atom.right h.op;
      left = is_given s params from atom.left h.kind h.left_is;
      right = is_given s params from atom.right h.kind h.right_is;
    }

all_given : (s : Schema) (params : List Kind) (from : List ℕ) (os : List Operand) (kinds : List Kind) → map (kind_of s params [] from) os ≡ map Some kinds → All IsGiven os
all_given s params from [] kinds e = All-nil IsGiven
all_given s params from (o ∷ os) [] e = absurd (let no : ⊥ = cc in no)
all_given s params from (o ∷ os) (kind ∷ kinds) e =
    let here : kind_of s params [] from o ≡ Some kind = cc in
    let later : map (kind_of s params [] from) os ≡ map Some kinds = cc in
    All-cons IsGiven o os (is_given s params from o kind here) (all_given s params from os kinds later)

part_asked : (s : Schema) (params kinds : List Kind) (part : Part) → PartFits s params [] kinds part → PartIsAsked part
part_asked s params kinds part h =
    record {
      conds = All-weaker (AtomFits s params [] part.from) AtomIsAsked (λ atom. atom_asked s params part.from atom) part.conds h.conds;
      head = all_given s params part.from part.head kinds h.head;
    }

query_asked : (s : Schema) (params : List Kind) (q : Query) → IsQuery s params [] q → QueryIsAsked q
query_asked s params q h = All-weaker (PartFits s params [] h.fits.kinds) PartIsAsked (λ part. part_asked s params h.fits.kinds part) q.parts h.fits.parts

row_given : (p : Problem) (kinds : List Kind) (row : List Operand) → p.vars ≡ [] → AllZip (RowOperandFits p) kinds row → All IsGiven row
row_given p [] [] none h = All-nil IsGiven
row_given p [] (o ∷ row) none h = absurd h
row_given p (kind ∷ kinds) [] none h = absurd h
row_given p (kind ∷ kinds) (o ∷ row) none h =
    All-cons IsGiven o row
    (elim h.0 [
      | inl null ↦ subst IsGiven (sym null) tt
      | inr fits ↦ is_given p.policy.schema (kinds_of p.policy.params) [] o kind (subst (λ vs. kind_of p.policy.schema (kinds_of p.policy.params) vs [] o ≡ Some kind) none fits)
    ])
    (row_given p kinds row none h.1)

entry_asked : (p : Problem) (entry : ProblemEntry) → p.vars ≡ [] → EntryFits p entry → EntryIsAsked entry
entry_asked p entry none h =
    record {
      query = query_asked p.policy.schema (kinds_of p.policy.params) entry.query (subst (λ vs. IsQuery p.policy.schema (kinds_of p.policy.params) vs entry.query) none h.query);
      row = row_given p h.query.fits.kinds entry.row none h.row;
    }

pub no_variable : (p : Problem) → IsOfQuestion p → p.vars ≡ []
no_variable p h = ap (λ (q : Problem). q.vars) h.is

pub goal_asked : (p : Problem) → ProblemFits p → IsOfQuestion p → QueryIsAsked p.goal
goal_asked p fits h =
    query_asked p.policy.schema (kinds_of p.policy.params) p.goal (subst (λ vs. IsQuery p.policy.schema (kinds_of p.policy.params) vs p.goal) (no_variable p h) fits.goal)

pub entries_asked : (p : Problem) → ProblemFits p → IsOfQuestion p → All EntryIsAsked p.entries
entries_asked p fits h = All-weaker (EntryFits p) EntryIsAsked (λ entry. entry_asked p entry (no_variable p h)) p.entries fits.entries

-- ---- the pattern

map_some : (values : List Value) (its taken : List ProblemEntry) → map (entry_at values) its ≡ taken → map (λ entry. Some (entry_at values entry)) its ≡ map Some taken
map_some values [] taken e = ap (map Some) e
map_some values (it ∷ its) [] e = cc
map_some values (it ∷ its) (entry ∷ taken) e =
    let here : entry_at values it ≡ entry = cc in
    let later : map (entry_at values) its ≡ taken = cc in
    ap₂ (λ o os. Some o ∷ os) here (map_some values its taken later)

pub pattern_made : (p : Problem) (numbers : List ℕ) (start mid new : Named) (goal : Query) (entries : List ProblemEntry) (g : Problem) (values : List Value) →
    start ≡ record { kinds = []; values = [] } → NamesQuery start p.goal mid goal → NamesEntries mid p.entries numbers new entries → g.policy ≡ p.policy →
    g.vars ≡ new.kinds → g.assumed ≡ [] → QueryRepeats g.goal → All EntryRepeats g.entries → g.entries ≡ entries → g.goal ≡ goal → values ≡ new.values → IsPattern p numbers g values
pattern_made p numbers start mid new goal entries g values none h k policy vars assumed repeats entries_repeat entries_are goal_is values_are =
    let n = k.names in
    let mid_values : mid.values ≡ h.more = h.values_are ∙ ap (λ (s : Named). s.values ++ h.more) none in
    let mid_kinds : mid.kinds ≡ h.kinds = h.kinds_are ∙ ap (λ (s : Named). s.kinds ++ h.kinds) none in
    let all_values : new.values ≡ h.more ++ n.more = n.values_are ∙ ap (λ vs. vs ++ n.more) mid_values in
    let all_kinds : new.kinds ≡ h.kinds ++ n.kinds = n.kinds_are ∙ ap (λ ks. ks ++ n.kinds) mid_kinds in
    let printed_is : printed_query g.goal ++ flat_map printed_entry g.entries ≡ printed_query goal ++ flat_map printed_entry entries =
    ap₂ (λ q es. printed_query q ++ flat_map printed_entry es) goal_is entries_are in
    record {
      policy = policy;
      kinds =
          subst (λ ks. AllZip IsOfKind ks values) (sym (vars ∙ all_kinds))
          (subst (AllZip IsOfKind (h.kinds ++ n.kinds)) (sym (values_are ∙ all_values)) (zip_append IsOfKind h.kinds n.kinds h.more n.more h.of_kinds n.of_kinds));
      goal = ap₂ query_at (values_are ∙ n.values_are) goal_is ∙ h.same n.more;
      entries =
          ap (map (λ entry. Some (entry_at values entry))) entries_are ∙
          (map_some values entries k.taken
          (ap (λ vs. map (entry_at vs) entries) (values_are ∙ sym (append-nil new.values)) ∙ n.same []) ∙ sym k.taken_are);
      literals = subst (All HasNoLiteral) (sym printed_is) (All-append HasNoLiteral (printed_query goal) (flat_map printed_entry entries) h.literals n.literals);
      own =
          ap (flat_map variable_of) printed_is ∙
          (flat_map-append variable_of (printed_query goal) (flat_map printed_entry entries) ∙
          (ap₂ (λ ns ms. ns ++ ms)
          (h.own ∙ ap (λ (s : Named). range_with_len (length s.values) (length h.more)) none)
          (n.own ∙ ap (λ m. range_with_len m (length n.more)) (ap length mid_values)) ∙
          (ap (λ m. range_with_len 0 (length h.more) ++ range_with_len m (length n.more)) (let e : length h.more ≡ 0 + length h.more = omega arith in e) ∙
          (sym (range_append 0 (length h.more) (length n.more)) ∙
          ap (range_with_len 0) (sym (length-append h.more n.more) ∙ sym (ap length (values_are ∙ all_values)))))));
      repeats = repeats;
      entries_repeat = entries_repeat;
      assumed = assumed;
    }

-- ---- the operands

parameters_given : (zs : List (ℕ × Value)) → parameters_of (map param_is zs) ≡ map (λ two. valued (Param two.0, two.1)) zs
parameters_given [] = refl
parameters_given ((n, v) ∷ zs) = ap (λ xs. record { operand = Param n; value = v } ∷ xs) (parameters_given zs)

pub operands_made : (p : Problem) (values : List Value) (operands : List Valued) → IsOfQuestion p → operands ≡ variables values ++ parameters_of p.assumed →
    HasOperands p values operands
operands_made p values operands h e =
    let assumed : p.assumed ≡ map param_is (zip (range_with_len 0 (length h.context.values)) h.context.values) = ap (λ (q : Problem). q.assumed) h.is in
    record {
      params = h.context.values;
      has = record { assumed = assumed };
      is =
          e ∙ ap (λ xs. variables values ++ xs)
          (ap parameters_of assumed ∙ parameters_given (zip (range_with_len 0 (length h.context.values)) h.context.values));
    }
