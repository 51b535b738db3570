-- The written form of a printed query means the query.
use Rattle.std.proofs.Common.{◌^◌, ◌≡◌, ◌≢◌, ℕ, zero, suc, ◌≤◌, List, [], ◌∷◌, ◌++◌, length, map, Option, Some, None, refl, sym, ap, subst, ◌∙◌, arith, append_assoc, append-nil}
use Rattle.std.specs.List.{All, AllZip, flat_map, slice_get}
use Rattle.std.proofs.lemmas.Grind.{flat_map-append}
use Rattle.std.proofs.lemmas.Option.{slice_get_within}
use Rattle.ba_model.specs.Fit.{IsQuery, OpFits, PartFits, PartWithin, kind_of, kinds_of}
use Rattle.ba_model.specs.QueryFaults as faults
use Rattle.ba_model.specs.SchemaFaults.{AreDistinct, column_names, columns_of, columns_or}
use Rattle.ba_model.specs.declared.check_query.QueryFault.TheVariants as drafts
use Rattle.ba_model.specs.declared.policy.Parameter.{Parameter}
use Rattle.ba_model.specs.declared.query.Atom.{Atom}
use Rattle.ba_model.specs.declared.query.Op.{Op}
use Rattle.ba_model.specs.declared.query.Op.TheVariants.{Eq, Ne, Lt, Le, IsNull, NotNull}
use Rattle.ba_model.specs.declared.query.Operand.{Operand}
use Rattle.ba_model.specs.declared.query.Operand.TheVariants.{Col, Val, Param, Var}
use Rattle.ba_model.specs.declared.query.Part.{Part}
use Rattle.ba_model.specs.declared.query.Query.{Query}
use Rattle.ba_model.specs.declared.schema.Column.{Column}
use Rattle.ba_model.specs.declared.schema.Kind.{Kind}
use Rattle.ba_model.specs.declared.schema.Schema.{Schema}
use Rattle.ba_model.specs.declared.schema.Table.{Table}
use Rattle.ba_model.proofs.QueryLemmas.{no_fault_from_query}
use Rattle.ba_sql_query.specs.Meaning.{kind_in}
use Rattle.ba_sql_query.specs.Parts.{node_atoms, written_part}
use Rattle.ba_sql_query.specs.Reads.{HasForm, HasParts, HasTable, IsFirst, IsItem, IsNode, IsOperand, IsQueryOf, IsSelectOf, IsTest, Tree, both, dnf, nodes_of, test}
use Rattle.ba_sql_query.specs.Reads.HasForm.{none as no_form, some as some_form}
use Rattle.ba_sql_query.specs.declared.resolved.ResolvedNode.{ResolvedNode}
use Rattle.ba_sql_query.specs.declared.resolved.ResolvedNode.TheVariants as steps
use Rattle.ba_sql_query.specs.declared.resolved.ResolvedSelect.{ResolvedSelect}
use Rattle.ba_sql_query.specs.declared.resolved.ResolvedTest.TheVariants as resolved
use Rattle.ba_sql_syntax.specs.Grammar.{Cond, both as both_of, nodes_of as nodes_written, postfix, test as test_of}
use Rattle.ba_sql_syntax.specs.declared.written.Item.TheVariants.{One}
use Rattle.ba_sql_syntax.specs.declared.written.Node.TheVariants as nodes
use Rattle.ba_sql_syntax.specs.declared.written.Source.{Source}
use Rattle.ba_sql_print.specs.ReadBack.{AreNamedApart}
use Rattle.ba_sql_print.specs.Printed.{column_name, param_name, table_name}
use Rattle.ba_sql_print.specs.Spelling.{IsInRange, PartInRange}
use Rattle.ba_sql_print.proofs.PlaceLemmas.{first_so, has_table, is_called}
use Rattle.ba_sql_print.proofs.WritableLemmas.{at_place, column_called, column_there, head_kind, param_called, param_there, table_called}
use Rattle.ba_sql_print.proofs.WrittenLemmas.{and_tree, tree_of, written_query, written_by, written_select, written_side, written_sources, written_test}

-- ---- the parts of a printed query as selects with numbers

abbrev pub all_of : Tree → List Atom → Tree
all_of c [] = c
all_of c (a ∷ more) = all_of (both c (test (resolved.One a))) more

abbrev pub resolved_nodes : List Atom → List ResolvedNode
resolved_nodes [] = []
resolved_nodes (a ∷ more) = nodes_of (all_of (test (resolved.One a)) more)

abbrev pub resolved_part : Part → ResolvedSelect
resolved_part part = record { from = part.from; head = part.head; condition = resolved_nodes part.conds }

-- ---- operands

operand_means : (s : Schema) (p : List Parameter) (from : List ℕ) (k : Kind) (x : Operand) → AreNamedApart s.tables → AreDistinct (map (λ it. it.name) p)
    → length from ≤ 8 → IsInRange x
    → kind_of s (kinds_of p) [] from x ≡ Some k → IsOperand s p (written_sources s 0 from) from (written_side s p from x) x
operand_means s p from k (Col place column) tables named few range e =
    let h = column_there s (kinds_of p) from place column k e in
    let distinct = at_place (λ (t : Table). AreDistinct (column_names t.columns)) s.tables h.number h.table tables.columns h.table_is in
    let small = slice_get_within h.table.columns column h.it h.column_is in
    let bound = at_place (λ (t : Table). length t.columns ≤ 2 ^ 32) s.tables h.number h.table tables.few_columns h.table_is in
    let there : columns_of s.tables h.number ≡ h.table.columns = ap columns_or h.table_is in
    record {
      place = place;
      table = h.number;
      number = column;
      meant = is_called s from place h.number few h.from_is;
      there = h.from_is;
      column = subst (λ (cs : List Column). IsFirst (λ (c : Column). c.name ≡ column_name s from place column) cs column) (sym there)
          (first_so (λ (c : Column). c.name) h.table.columns column h.it (column_name s from place column) distinct h.column_is
          (column_called s from place column h) (omega (arith, small, bound)));
      is = refl;
    }
operand_means s p from k (Val v) tables named few range e = refl
operand_means s p from k (Param n) tables named few range e =
    let h = param_there p n k e in
    (n, first_so (λ (it : Parameter). it.name) p n h.0 (param_name p n) named h.1 (param_called p n h.0 h.1) range, refl)
operand_means s p from k (Var n) tables named few range e = cc

-- ---- conditions

zip_append : {A B : Type 0} (R : A → B → Type 0) (xs us : List A) (ys vs : List B) → AllZip R xs ys → AllZip R us vs → AllZip R (xs ++ us) (ys ++ vs)
zip_append R [] us [] vs h k = k
zip_append R [] us (y ∷ ys) vs h k = absurd h
zip_append R (x ∷ xs) us [] vs h k = absurd h
zip_append R (x ∷ xs) us (y ∷ ys) vs h k = (h.0, zip_append R xs us ys vs h.1 k)

pub record AtomMeans (s : Schema) (p : List Parameter) (from : List ℕ) (a : Atom) : Type 0 where
  pub left : IsOperand s p (written_sources s 0 from) from (written_side s p from a.left) a.left
  pub right : IsOperand s p (written_sources s 0 from) from (written_side s p from a.right) a.right
  pub kind : Kind
  pub op : OpFits a.op kind a.left a.right

test_means : (s : Schema) (p : List Parameter) (sources : List Source) (from : List ℕ) (op : Op) (x y : Operand) (k : Kind)
    → IsOperand s p sources from (written_side s p from x) x → IsOperand s p sources from (written_side s p from y) y → OpFits op k x y
    → IsTest s p sources from (written_by op (written_side s p from x) (written_side s p from y)) (resolved.One (record { op = op; left = x; right = y }))
test_means s p sources from Eq x y k h g f = (x, y, h, g, refl)
test_means s p sources from Ne x y k h g f = (x, y, h, g, refl)
test_means s p sources from Lt x y k h g f = (x, y, h, g, refl)
test_means s p sources from Le x y k h g f = (x, y, h, g, refl)
test_means s p sources from IsNull x y k h g f = (x, h, ap (λ (z : Operand). resolved.One (record { op = IsNull; left = x; right = z })) f)
test_means s p sources from NotNull x y k h g f = (x, h, ap (λ (z : Operand). resolved.One (record { op = NotNull; left = x; right = z })) f)

test_node : (s : Schema) (p : List Parameter) (from : List ℕ) (a : Atom) → AtomMeans s p from a
    → IsNode s p (written_sources s 0 from) from (nodes.Test (written_test s p from a)) (steps.Test (resolved.One a))
test_node s p from a h = (resolved.One a, test_means s p (written_sources s 0 from) from a.op a.left a.right h.kind h.left h.right h.op, refl)

nodes_mean : (s : Schema) (p : List Parameter) (from : List ℕ) (c : Cond) (d : Tree) (atoms : List Atom)
    → AllZip (IsNode s p (written_sources s 0 from) from) (postfix c) (nodes_of d) → All (AtomMeans s p from) atoms
    → AllZip (IsNode s p (written_sources s 0 from) from) (postfix (and_tree c (map (written_test s p from) atoms))) (nodes_of (all_of d atoms))
nodes_mean s p from c d [] h all = h
nodes_mean s p from c d (a ∷ more) h all =
    nodes_mean s p from (both_of c (test_of (written_test s p from a))) (both d (test (resolved.One a))) more
    (zip_append (IsNode s p (written_sources s 0 from) from) (postfix c) (nodes.Test (written_test s p from a) ∷ nodes.And ∷ []) (nodes_of d)
    (steps.Test (resolved.One a) ∷ steps.And ∷ []) h
    (test_node s p from a (all 0 a (omega arith)), (refl, tt)))
    (λ k e lt. all (suc k) e (omega (arith, lt)))

condition_means : (s : Schema) (p : List Parameter) (from : List ℕ) (atoms : List Atom) → All (AtomMeans s p from) atoms
    → AllZip (IsNode s p (written_sources s 0 from) from) (nodes_written (tree_of (map (written_test s p from) atoms))) (resolved_nodes atoms)
condition_means s p from [] all = tt
condition_means s p from (a ∷ more) all =
    nodes_mean s p from (test_of (written_test s p from a)) (test (resolved.One a)) more (test_node s p from a (all 0 a (omega arith)), tt)
    (λ k e lt. all (suc k) e (omega (arith, lt)))

-- one member with all the atoms
dnf_all : (d : Tree) (ms more : List Atom) → dnf d ≡ ms ∷ [] → dnf (all_of d more) ≡ (ms ++ more) ∷ []
dnf_all d ms [] e = e ∙ ap (λ (bs : List Atom). bs ∷ []) (sym (append-nil ms))
dnf_all d ms (a ∷ more) e =
    dnf_all (both d (test (resolved.One a))) (ms ++ a ∷ []) more (rw e refl)
    ∙ ap (λ (bs : List Atom). bs ∷ []) (append_assoc ms (a ∷ []) more)

condition_form : (atoms : List Atom) → HasForm (resolved_nodes atoms) (atoms ∷ [])
condition_form [] = no_form
condition_form (a ∷ more) =
    subst (HasForm (nodes_of (all_of (test (resolved.One a)) more))) (dnf_all (test (resolved.One a)) (a ∷ []) more refl)
    (some_form (all_of (test (resolved.One a)) more))

atoms_all : (d : Tree) (more : List Atom) → flat_map node_atoms (nodes_of (all_of d more)) ≡ flat_map node_atoms (nodes_of d) ++ more
atoms_all d [] = sym (append-nil (flat_map node_atoms (nodes_of d)))
atoms_all d (a ∷ more) =
    atoms_all (both d (test (resolved.One a))) more
    ∙ ap (λ (bs : List Atom). bs ++ more) (flat_map-append node_atoms (nodes_of d) (steps.Test (resolved.One a) ∷ steps.And ∷ []))
    ∙ append_assoc (flat_map node_atoms (nodes_of d)) (a ∷ []) more

written_atoms : (atoms : List Atom) → flat_map node_atoms (resolved_nodes atoms) ≡ atoms
written_atoms [] = refl
written_atoms (a ∷ more) = atoms_all (test (resolved.One a)) more

-- as it is written it is the part
pub written_same : (part : Part) → written_part (resolved_part part) ≡ part
written_same part = ap with_conds (written_atoms part.conds)
  where
    with_conds : List Atom → Part
    with_conds atoms = record { from = part.from; conds = atoms; head = part.head }

-- ---- parts

pub record CanMeanPart (s : Schema) (p : List Parameter) (kinds : List Kind) (part : Part) : Type 0 where
  pub fits : PartFits s (kinds_of p) [] kinds part
  pub within : PartWithin part
  pub range : PartInRange part

sources_mean : (s : Schema) (m : ℕ) (from : List ℕ) → AreNamedApart s.tables → All (λ t. slice_get s.tables t ≢ None) from
    → AllZip (λ (it : Source) n. HasTable s it.table n) (written_sources s m from) from
sources_mean s m [] tables h = tt
sources_mean s m (t ∷ ts) tables h = (by (slice_get s.tables t) refl, sources_mean s (suc m) ts tables (λ k d lt. h (suc k) d (omega (arith, lt))))
  where
    by : (o : Option Table) → slice_get s.tables t ≡ o → HasTable s (table_name s t) t
    by None e = absurd (h 0 t (omega arith) e)
    by (Some table) e = has_table s t table (table_name s t) tables e (table_called s t table e)

heads_mean : (s : Schema) (p : List Parameter) (from : List ℕ) (head : List Operand)
    → All (λ x. IsOperand s p (written_sources s 0 from) from (written_side s p from x) x) head
    → AllZip (IsItem s p (written_sources s 0 from) from) (map (λ x. One (written_side s p from x)) head) (map (λ x. x ∷ []) head)
heads_mean s p from [] h = tt
heads_mean s p from (x ∷ xs) h = ((x, h 0 x (omega arith), refl), heads_mean s p from xs (λ k d lt. h (suc k) d (omega (arith, lt))))

pieces : {X : Type 0} (xs : List X) → flat_map (λ piece. piece) (map (λ x. x ∷ []) xs) ≡ xs
pieces [] = refl
pieces (x ∷ xs) = ap (λ ys. x ∷ ys) (pieces xs)

part_means : (s : Schema) (p : List Parameter) (kinds : List Kind) (part : Part) → AreNamedApart s.tables → AreDistinct (map (λ it. it.name) p)
    → CanMeanPart s p kinds part
    → IsSelectOf s p (written_select s p part) (resolved_part part)
part_means s p kinds part tables named h =
    let some = head_kind s (kinds_of p) part.from part.head kinds h.fits.head in
    record {
      some_source = some_sources part.from h.fits.some_table;
      from = sources_mean s 0 part.from tables h.fits.tables;
      head = (
        map (λ x. x ∷ []) part.head,
        heads_mean s p part.from part.head (λ k d lt. operand_means s p part.from (some k d lt).0 _ tables named h.within.tables (h.range.head k d lt)
            (some k d lt).1),
        pieces part.head,
      );
      condition = condition_means s p part.from part.conds (λ k d lt. record {
        left = operand_means s p part.from (h.fits.conds k d lt).kind _ tables named h.within.tables (h.range.conds k d lt).left (h.fits.conds k d lt).left_is;
        right = operand_means s p part.from (h.fits.conds k d lt).kind _ tables named h.within.tables (h.range.conds k d lt).right (h.fits.conds k d lt).right_is;
        kind = (h.fits.conds k d lt).kind;
        op = (h.fits.conds k d lt).op;
      });
    }
  where
    some_sources : (from : List ℕ) → from ≢ [] → written_sources s 0 from ≢ []
    some_sources [] none e = none refl
    some_sources (t ∷ ts) none e = cc

-- ---- queries

zip_maps : {A B C : Type 0} (R : B → C → Type 0) (f : A → B) (g : A → C) (xs : List A) → All (λ a. R (f a) (g a)) xs → AllZip R (map f xs) (map g xs)
zip_maps R f g [] h = tt
zip_maps R f g (x ∷ xs) h = (h 0 x (omega arith), zip_maps R f g xs (λ k d lt. h (suc k) d (omega (arith, lt))))

all_map : {A B : Type 0} (P : B → Type 0) (f : A → B) (xs : List A) → All (λ a. P (f a)) xs → All P (map f xs)
all_map P f [] h k d lt = absurd (omega (arith, lt))
all_map P f (x ∷ xs) h zero d lt = h 0 x (omega arith)
all_map P f (x ∷ xs) h (suc k) d lt = all_map P f xs (λ j e le. h (suc j) e (omega (arith, le))) k d (omega (arith, lt))

one_part : (part : Part) → HasParts (resolved_part part) (part ∷ [])
one_part part = record { members = part.conds ∷ []; form = condition_form part.conds; are = refl }

written_parts : (parts : List Part) → map written_part (map resolved_part parts) ≡ parts
written_parts [] = refl
written_parts (part ∷ parts) = ap (λ (it : Part). it ∷ map written_part (map resolved_part parts)) (written_same part) ∙ ap (λ (ps : List Part). part ∷ ps)
    (written_parts parts)

pub query_means : (s : Schema) (p : List Parameter) (q : Query) → AreNamedApart s.tables → AreDistinct (map (λ it. it.name) p) → IsQuery s (kinds_of p) [] q
    → All PartInRange q.parts
    → IsQueryOf s p (written_query s p q) q
query_means s p q tables named checked range =
    let fault = no_fault_from_query s (kinds_of p) [] q checked in
    let same = written_parts q.parts in
    let fits = checked.fits in
    record {
      selects = map resolved_part q.parts;
      names = zip_maps (IsSelectOf s p) (written_select s p) resolved_part q.parts
          (λ k d lt. part_means s p fits.kinds _ tables named (record { fits = fits.parts k d lt; within = checked.within k d lt; range = range k d lt }));
      parts = map (λ part. part ∷ []) q.parts;
      forms = zip_maps HasParts resolved_part (λ part. part ∷ []) q.parts (λ k d lt. one_part _);
      made = sym (pieces q.parts);
      kinds = subst (faults.Lacks drafts.KindDiffers s (kinds_of p) []) (sym same) (fault drafts.KindDiffers);
      orders = subst (faults.Lacks drafts.OrderOnText s (kinds_of p) []) (sym same) (fault drafts.OrderOnText);
      heads = record {
        kinds = map Some fits.kinds;
        some_kind = some_kinds fits.kinds fits.some_kind;
        some_select = some_selects q.parts fits.some_part;
        heads = all_map (λ it. map (kind_in s p it) it.head ≡ map Some fits.kinds) resolved_part q.parts (λ k d lt. (fits.parts k d lt).head);
      };
      some_part = fits.some_part;
      few = fault drafts.TooMany;
    }
  where
    some_kinds : (kinds : List Kind) → kinds ≢ [] → map Some kinds ≢ []
    some_kinds [] none e = none refl
    some_kinds (k ∷ ks) none e = cc

    some_selects : (parts : List Part) → parts ≢ [] → map resolved_part parts ≢ []
    some_selects [] none e = none refl
    some_selects (x ∷ xs) none e = cc
