-- What holds of all atoms as written holds of those of each part, so that the parts have no fault that the selects haven't.
use Rattle.std.proofs.Common.{◌≡◌, ℕ, Bool, true, false, not, ◌&&◌, List, [], ◌∷◌, ◌++◌, map, Option, Some, None, refl, sym, subst, ◌∙◌}
use Rattle.std.specs.List.{flat_map, list_all}
use Rattle.std.proofs.lemmas.List.Folds.{list_all-append}
use Rattle.ba_model.proofs.QueryLemmas.{part_kinds, query_from_no_fault}
use Rattle.ba_model.specs.Fit.{IsQuery, kind_of, kinds_of}
use Rattle.ba_model.specs.QueryFaults as faults
use Rattle.ba_model.specs.QueryFaults.{HasNoFault}
use Rattle.ba_model.specs.declared.check_query.QueryFault.TheVariants as kinds_of_fault
use Rattle.ba_model.specs.declared.policy.Parameter.{Parameter}
use Rattle.ba_model.specs.declared.query.Atom.{Atom}
use Rattle.ba_model.specs.declared.query.Operand.{Operand}
use Rattle.ba_model.specs.declared.query.Part.{Part}
use Rattle.ba_model.specs.declared.schema.Kind.{Kind}
use Rattle.ba_model.specs.declared.schema.Kind.TheVariants.{Int as IntKind, Text as TextKind}
use Rattle.ba_model.specs.declared.schema.Schema.{Schema}
use Rattle.ba_sql_query.specs.Meaning.{atom_kinds, fault_of, heads_agree, kind_in, kinds_agree, orders_numbers, query_of_parts}
use Rattle.ba_sql_query.specs.Parts.{after, alternatives, both_top, equation, join_top, members, node_atoms, part_of, parts_of, product, run, select_parts, test_atoms, top_of, written_part}
use Rattle.ba_sql_query.specs.Resolved.{AreResolved}
use Rattle.ba_sql_query.specs.declared.resolved.ResolvedNode.{ResolvedNode}
use Rattle.ba_sql_query.specs.declared.resolved.ResolvedNode.TheVariants as steps
use Rattle.ba_sql_query.specs.declared.resolved.ResolvedSelect.{ResolvedSelect}
use Rattle.ba_sql_query.specs.declared.resolved.ResolvedTest.{ResolvedTest}
use Rattle.ba_sql_query.specs.declared.resolved.ResolvedTest.TheVariants.{One, Among}
use Rattle.ba_sql_query.proofs.ResolvedLemmas.{all_weaker, and_both, and_left, and_right}
use Rattle.ba_sql_query.proofs.TransferLemmas.{all_flat, all_map, all_true}

-- ---- atoms

module _ (p : Atom → Bool) where
  abbrev each_passes : List (List Atom) → Bool
  each_passes ms = list_all (λ m. list_all p m) ms

  abbrev all_pass : List (List (List Atom)) → Bool
  all_pass stack = list_all (λ ms. each_passes ms) stack

  test_passes : (t : ResolvedTest) → list_all p (test_atoms t) ≡ true → each_passes (alternatives t) ≡ true
  test_passes (One atom) e = and_both (list_all p (atom ∷ [])) true e refl
  test_passes (Among side []) e = refl
  test_passes (Among side (c ∷ cs)) e =
      and_both (list_all p (equation side c ∷ [])) (each_passes (map (λ d. equation side d ∷ []) cs))
      (and_both (p (equation side c)) true (and_left (p (equation side c)) (list_all p (map (equation side) cs)) e) refl)
      (test_passes (Among side cs) (and_right (p (equation side c)) (list_all p (map (equation side) cs)) e))

  with_passes : (a : List Atom) (bs : List (List Atom)) → list_all p a ≡ true → each_passes bs ≡ true → each_passes (map (λ b. a ++ b) bs) ≡ true
  with_passes a [] h e = refl
  with_passes a (b ∷ bs) h e =
      and_both (list_all p (a ++ b)) (each_passes (map (λ c. a ++ c) bs))
      (list_all-append p a b ∙ and_both (list_all p a) (list_all p b) h (and_left (list_all p b) (each_passes bs) e))
      (with_passes a bs h (and_right (list_all p b) (each_passes bs) e))

  product_passes : (ms bs : List (List Atom)) → each_passes ms ≡ true → each_passes bs ≡ true → each_passes (product ms bs) ≡ true
  product_passes [] bs h e = refl
  product_passes (a ∷ ms) bs h e =
      list_all-append (λ m. list_all p m) (map (λ b. a ++ b) bs) (product ms bs)
      ∙ and_both (each_passes (map (λ b. a ++ b) bs)) (each_passes (product ms bs)) (with_passes a bs (and_left (list_all p a) (each_passes ms) h) e) (product_passes ms bs (and_right (list_all p a) (each_passes ms) h) e)

  join_passes : (stack : List (List (List Atom))) → all_pass stack ≡ true → all_pass (join_top stack) ≡ true
  join_passes [] e = e
  join_passes (b ∷ []) e = e
  join_passes (b ∷ a ∷ stack) e =
      let f = and_right (each_passes b) (all_pass (a ∷ stack)) e in
      and_both (each_passes (product a b)) (all_pass stack) (product_passes a b (and_left (each_passes a) (all_pass stack) f) (and_left (each_passes b) (all_pass (a ∷ stack)) e)) (and_right (each_passes a) (all_pass stack) f)

  sum_passes : (stack : List (List (List Atom))) → all_pass stack ≡ true → all_pass (both_top stack) ≡ true
  sum_passes [] e = e
  sum_passes (b ∷ []) e = e
  sum_passes (b ∷ a ∷ stack) e =
      let f = and_right (each_passes b) (all_pass (a ∷ stack)) e in
      and_both (each_passes (a ++ b)) (all_pass stack)
      (list_all-append (λ m. list_all p m) a b ∙ and_both (each_passes a) (each_passes b) (and_left (each_passes a) (all_pass stack) f) (and_left (each_passes b) (all_pass (a ∷ stack)) e))
      (and_right (each_passes a) (all_pass stack) f)

  after_passes : (n : ResolvedNode) (stack : List (List (List Atom))) → list_all p (node_atoms n) ≡ true → all_pass stack ≡ true → all_pass (after n stack) ≡ true
  unfolding after
  after_passes (steps.Test t) stack h e = and_both (each_passes (alternatives t)) (all_pass stack) (test_passes t h) e
  after_passes steps.And stack h e = join_passes stack e
  after_passes steps.Or stack h e = sum_passes stack e

  run_passes : (ns : List ResolvedNode) (stack : List (List (List Atom))) → list_all (λ n. list_all p (node_atoms n)) ns ≡ true → all_pass stack ≡ true → all_pass (run ns stack) ≡ true
  run_passes [] stack h e = e
  run_passes (n ∷ ns) stack h e =
      run_passes ns (after n stack) (and_right (list_all p (node_atoms n)) (list_all (λ m. list_all p (node_atoms m)) ns) h)
      (after_passes n stack (and_left (list_all p (node_atoms n)) (list_all (λ m. list_all p (node_atoms m)) ns) h) e)

  top_passes : (stack : List (List (List Atom))) → all_pass stack ≡ true → each_passes (top_of stack) ≡ true
  top_passes [] e = refl
  top_passes (ms ∷ stack) e = and_left (each_passes ms) (all_pass stack) e

  pub members_pass : (ns : List ResolvedNode) → list_all p (flat_map node_atoms ns) ≡ true → each_passes (members ns) ≡ true
  unfolding members
  members_pass ns e = top_passes (run ns []) (run_passes ns [] (sym (all_flat p node_atoms ns) ∙ e) refl)

-- ---- parts

-- what holds of each select as written holds of its parts
parts_pass : (P : Part → Bool) (Q : ResolvedSelect → Bool) → ((s : ResolvedSelect) → Q s ≡ true → list_all P (select_parts s) ≡ true) → (selects : List ResolvedSelect) → list_all Q selects ≡ true → list_all P (parts_of selects) ≡ true
parts_pass P Q h selects e = all_flat P select_parts selects ∙ all_weaker Q (λ s. list_all P (select_parts s)) h selects e

-- with a test of the atoms and one of the rest
part_pass : (P : Part → Bool) (s : ResolvedSelect) (p : Atom → Bool) (b : Bool) → ((m : List Atom) → P (part_of s m) ≡ (list_all p m && b)) → list_all p (flat_map node_atoms s.condition) ≡ true → b ≡ true → list_all P (select_parts s) ≡ true
unfolding select_parts
part_pass P s p b h e g =
    all_map P (part_of s) (members s.condition) ∙ all_weaker (λ m. list_all p m) (λ m. P (part_of s m)) (λ m k. h m ∙ and_both (list_all p m) b k g) (members s.condition) (members_pass p s.condition e)

module _ (schema : Schema) (params : List Parameter) where
  tables_pass : (selects : List ResolvedSelect) → list_all (λ s. faults.tables_there schema (written_part s)) selects ≡ true → list_all (faults.tables_there schema) (parts_of selects) ≡ true
  unfolding select_parts
  tables_pass selects e = parts_pass (faults.tables_there schema) (λ s. faults.tables_there schema (written_part s)) one selects e
    where
      one : (s : ResolvedSelect) → faults.tables_there schema (written_part s) ≡ true → list_all (faults.tables_there schema) (select_parts s) ≡ true
      one s h = all_map (faults.tables_there schema) (part_of s) (members s.condition) ∙ all_true (λ m. faults.tables_there schema (part_of s m)) (members s.condition) (λ m. h)

  columns_pass : (selects : List ResolvedSelect) → list_all (λ s. faults.columns_there schema (written_part s)) selects ≡ true → list_all (faults.columns_there schema) (parts_of selects) ≡ true
  columns_pass selects e =
      parts_pass (faults.columns_there schema) (λ s. faults.columns_there schema (written_part s)) (λ s h.
      part_pass (faults.columns_there schema) s (faults.atom_columns schema s.from) (list_all (faults.column_there schema s.from) s.head) (λ m. refl)
      (and_left (list_all (faults.atom_columns schema s.from) (flat_map node_atoms s.condition)) (list_all (faults.column_there schema s.from) s.head) h)
      (and_right (list_all (faults.atom_columns schema s.from) (flat_map node_atoms s.condition)) (list_all (faults.column_there schema s.from) s.head) h)) selects e

  kinds_pass : (selects : List ResolvedSelect) → kinds_agree schema params selects ≡ true → list_all (faults.kinds_agree schema (kinds_of params) []) (parts_of selects) ≡ true
  kinds_pass selects e =
      parts_pass (faults.kinds_agree schema (kinds_of params) []) (λ s. faults.kinds_agree schema (kinds_of params) [] (written_part s)) (λ s h.
      part_pass (faults.kinds_agree schema (kinds_of params) []) s (atom_kinds schema params s.from) (list_all (λ x. not (faults.is_null x)) s.head) (λ m. refl)
      (and_left (list_all (atom_kinds schema params s.from) (flat_map node_atoms s.condition)) (list_all (λ x. not (faults.is_null x)) s.head) h)
      (and_right (list_all (atom_kinds schema params s.from) (flat_map node_atoms s.condition)) (list_all (λ x. not (faults.is_null x)) s.head) h)) selects e

  orders_pass : (selects : List ResolvedSelect) → orders_numbers schema params selects ≡ true → list_all (faults.orders_numbers schema (kinds_of params) []) (parts_of selects) ≡ true
  unfolding select_parts
  orders_pass selects e =
      parts_pass (faults.orders_numbers schema (kinds_of params) []) (λ s. faults.orders_numbers schema (kinds_of params) [] (written_part s)) one selects e
    where
      one : (s : ResolvedSelect) → faults.orders_numbers schema (kinds_of params) [] (written_part s) ≡ true → list_all (faults.orders_numbers schema (kinds_of params) []) (select_parts s) ≡ true
      one s h = all_map (faults.orders_numbers schema (kinds_of params) []) (part_of s) (members s.condition) ∙ members_pass (faults.atom_order schema (kinds_of params) [] s.from) s.condition h

  named_pass : (selects : List ResolvedSelect) → list_all (λ s. faults.all_named (kinds_of params) [] (written_part s)) selects ≡ true → list_all (faults.all_named (kinds_of params) []) (parts_of selects) ≡ true
  named_pass selects e =
      parts_pass (faults.all_named (kinds_of params) []) (λ s. faults.all_named (kinds_of params) [] (written_part s)) (λ s h.
      part_pass (faults.all_named (kinds_of params) []) s (faults.atom_named (kinds_of params) []) (list_all (faults.named (kinds_of params) []) s.head) (λ m. refl)
      (and_left (list_all (faults.atom_named (kinds_of params) []) (flat_map node_atoms s.condition)) (list_all (faults.named (kinds_of params) []) s.head) h)
      (and_right (list_all (faults.atom_named (kinds_of params) []) (flat_map node_atoms s.condition)) (list_all (faults.named (kinds_of params) []) s.head) h)) selects e

  -- ---- heads

  -- a select whose head's kinds are known
  abbrev pub Known : ResolvedSelect → Type 0
  Known s = (ks : List Kind) × (map (kind_in schema params s) s.head ≡ map Some ks)

  pub known : (s : ResolvedSelect) → faults.columns_there schema (written_part s) ≡ true → faults.kinds_agree schema (kinds_of params) [] (written_part s) ≡ true → faults.all_named (kinds_of params) [] (written_part s) ≡ true → Known s
  known s c n m = part_kinds schema (kinds_of params) [] (written_part s) c n m

  pub agree_itself : (a : Option Kind) → faults.agree a a ≡ true
  agree_itself None = refl
  agree_itself (Some IntKind) = refl
  agree_itself (Some TextKind) = refl

  agree_through : (k : Kind) (a b : Option Kind) → faults.agree (Some k) a ≡ true → faults.agree (Some k) b ≡ true → faults.agree a b ≡ true
  agree_through k None b e f = refl
  agree_through IntKind (Some IntKind) None e f = refl
  agree_through IntKind (Some IntKind) (Some IntKind) e f = refl
  agree_through IntKind (Some IntKind) (Some TextKind) e f = cc
  agree_through IntKind (Some TextKind) b e f = cc
  agree_through TextKind (Some TextKind) None e f = refl
  agree_through TextKind (Some TextKind) (Some TextKind) e f = refl
  agree_through TextKind (Some TextKind) (Some IntKind) e f = cc
  agree_through TextKind (Some IntKind) b e f = cc

  abbrev kind_over : List ℕ → Operand → Option Kind
  kind_over from x = kind_of schema (kinds_of params) [] from x

  abbrev alike : List ℕ → List ℕ → List Operand → List Operand → Bool
  alike from others xs ys = faults.heads_match schema (kinds_of params) [] from xs others ys

  -- two heads that are like one whose kinds are known are like each other
  alike_through : (from others more : List ℕ) (xs ys zs : List Operand) (ks : List Kind) → map (kind_over from) xs ≡ map Some ks → alike from others xs ys ≡ true → alike from more xs zs ≡ true → alike others more ys zs ≡ true
  alike_through from others more [] [] [] ks k e f = refl
  alike_through from others more [] [] (z ∷ zs) ks k e f = cc
  alike_through from others more [] (y ∷ ys) zs ks k e f = cc
  alike_through from others more (x ∷ xs) [] zs ks k e f = cc
  alike_through from others more (x ∷ xs) (y ∷ ys) [] ks k e f = cc
  alike_through from others more (x ∷ xs) (y ∷ ys) (z ∷ zs) [] k e f = cc
  alike_through from others more (x ∷ xs) (y ∷ ys) (z ∷ zs) (l ∷ ks) k e f =
      let here : kind_over from x ≡ Some l = cc in
      let rest : map (kind_over from) xs ≡ map Some ks = cc in
      let y_like = subst (λ (o : Option Kind). faults.agree o (kind_over others y) ≡ true) here (and_left (faults.agree (kind_over from x) (kind_over others y)) (alike from others xs ys) e) in
      let z_like = subst (λ (o : Option Kind). faults.agree o (kind_over more z) ≡ true) here (and_left (faults.agree (kind_over from x) (kind_over more z)) (alike from more xs zs) f) in
      and_both (faults.agree (kind_over others y) (kind_over more z)) (alike others more ys zs) (agree_through l (kind_over others y) (kind_over more z) y_like z_like)
      (alike_through from others more xs ys zs ks rest (and_right (faults.agree (kind_over from x) (kind_over others y)) (alike from others xs ys) e) (and_right (faults.agree (kind_over from x) (kind_over more z)) (alike from more xs zs) f))

  alike_itself : (from : List ℕ) (xs : List Operand) → alike from from xs xs ≡ true
  alike_itself from [] = refl
  alike_itself from (x ∷ xs) = and_both (faults.agree (kind_over from x) (kind_over from x)) (alike from from xs xs) (agree_itself (kind_over from x)) (alike_itself from xs)

  -- like the first select's head
  abbrev like : ResolvedSelect → Part → Bool
  like s part = faults.parts_match schema (kinds_of params) [] (written_part s) part

  like_both : (s : ResolvedSelect) → Known s → (p q : Part) → like s p ≡ true → like s q ≡ true → faults.parts_match schema (kinds_of params) [] p q ≡ true
  like_both s k p q e f = alike_through s.from p.from q.from s.head p.head q.head k.0 k.1 e f

  has_head : (s : ResolvedSelect) (p : Part) → not (faults.is_empty s.head) ≡ true → like s p ≡ true → faults.has_head p ≡ true
  has_head s p h e = some s.head p.head h e
    where
      some : (xs ys : List Operand) → not (faults.is_empty xs) ≡ true → alike s.from p.from xs ys ≡ true → not (faults.is_empty ys) ≡ true
      some [] ys h e = cc
      some (x ∷ xs) [] h e = cc
      some (x ∷ xs) (y ∷ ys) h e = refl

  like_parts : (s : ResolvedSelect) (selects : List ResolvedSelect) → list_all (λ t. like s (written_part t)) selects ≡ true → list_all (like s) (parts_of selects) ≡ true
  unfolding select_parts
  like_parts s selects e = parts_pass (like s) (λ t. like s (written_part t)) one selects e
    where
      one : (t : ResolvedSelect) → like s (written_part t) ≡ true → list_all (like s) (select_parts t) ≡ true
      one t h = all_map (like s) (part_of t) (members t.condition) ∙ all_true (λ m. like s (part_of t m)) (members t.condition) (λ m. h)

  -- the first of selects without faults of names and kinds
  pub first_known : (s : ResolvedSelect) (ss : List ResolvedSelect) → AreResolved schema params (s ∷ ss) → kinds_agree schema params (s ∷ ss) ≡ true → Known s
  first_known s ss r n =
      known s (and_left (faults.columns_there schema (written_part s)) (list_all (λ t. faults.columns_there schema (written_part t)) ss) r.columns)
      (and_left (faults.kinds_agree schema (kinds_of params) [] (written_part s)) (kinds_agree schema params ss) n)
      (and_left (faults.all_named (kinds_of params) [] (written_part s)) (list_all (λ t. faults.all_named (kinds_of params) [] (written_part t)) ss) r.named)

  heads_pass : (selects : List ResolvedSelect) → AreResolved schema params selects → kinds_agree schema params selects ≡ true → heads_agree schema params selects ≡ true → not (faults.is_empty (parts_of selects)) ≡ true
      → faults.heads_agree schema (kinds_of params) [] (parts_of selects) ≡ true
  heads_pass [] r n e h = cc
  heads_pass (s ∷ ss) r n e h =
      let some = and_left (not (faults.is_empty s.head)) (list_all (λ t. like s (written_part t)) ss) e in
      let others = and_right (not (faults.is_empty s.head)) (list_all (λ t. like s (written_part t)) ss) e in
      let k = first_known s ss r n in
      let all = like_parts s (s ∷ ss) (and_both (like s (written_part s)) (list_all (λ t. like s (written_part t)) ss) (alike_itself s.from s.head) others) in
      let parts = parts_of (s ∷ ss) in
      and_both (not (faults.is_empty parts)) (list_all faults.has_head parts && list_all (λ p. list_all (faults.parts_match schema (kinds_of params) [] p) parts) parts) h
      (and_both (list_all faults.has_head parts) (list_all (λ p. list_all (faults.parts_match schema (kinds_of params) [] p) parts) parts)
      (all_weaker (like s) faults.has_head (λ p. has_head s p some) parts all)
      (all_weaker (like s) (λ p. list_all (faults.parts_match schema (kinds_of params) [] p) parts) (λ p l. all_weaker (like s) (faults.parts_match schema (kinds_of params) [] p) (λ q. like_both s k p q l) parts all) parts all))

  -- ---- all faults

  pub record HasNone (selects : List ResolvedSelect) : Type 0 where
    pub kinds : kinds_agree schema params selects ≡ true
    pub orders : orders_numbers schema params selects ≡ true
    pub heads : heads_agree schema params selects ≡ true
    pub some : not (faults.is_empty (parts_of selects)) ≡ true
    pub within : faults.within (parts_of selects) ≡ true

  pub no_fault : (selects : List ResolvedSelect) → AreResolved schema params selects → HasNone selects → HasNoFault schema (kinds_of params) [] (parts_of selects)
  no_fault selects r h kinds_of_fault.BadTable = tables_pass selects r.tables
  no_fault selects r h kinds_of_fault.BadColumn = columns_pass selects r.columns
  no_fault selects r h kinds_of_fault.KindDiffers = kinds_pass selects h.kinds
  no_fault selects r h kinds_of_fault.OrderOnText = orders_pass selects h.orders
  no_fault selects r h kinds_of_fault.HeadDiffers = heads_pass selects r h.kinds h.heads h.some
  no_fault selects r h kinds_of_fault.UnknownParam = named_pass selects r.named
  no_fault selects r h kinds_of_fault.TooMany = h.within

  -- ---- from the function

  pub none_from : (selects : List ResolvedSelect) → fault_of schema params selects ≡ None → HasNone selects
  unfolding fault_of
  none_from selects e = at (kinds_agree schema params selects) (orders_numbers schema params selects) (heads_agree schema params selects) (not (faults.is_empty (parts_of selects))) (faults.within (parts_of selects)) refl refl refl refl refl
    where
      at : (a b c d f : Bool) → kinds_agree schema params selects ≡ a → orders_numbers schema params selects ≡ b → heads_agree schema params selects ≡ c → not (faults.is_empty (parts_of selects)) ≡ d → faults.within (parts_of selects) ≡ f → HasNone selects
      at true true true true true p q r s t = record { kinds = p; orders = q; heads = r; some = s; within = t }
      at false b c d f p q r s t = let g = rw p at e in cc
      at true false c d f p q r s t = let g = rw (p, q) at e in cc
      at true true false d f p q r s t = let g = rw (p, q, r) at e in cc
      at true true true false f p q r s t = let g = rw (p, q, r, s) at e in cc
      at true true true true false p q r s t = let g = rw (p, q, r, s, t) at e in cc

-- the parts of selects without a fault are a query
pub parts_fit : (schema : Schema) (params : List Parameter) (selects : List ResolvedSelect) (parts : List Part) → AreResolved schema params selects → fault_of schema params selects ≡ None → parts ≡ parts_of selects
    → IsQuery schema (kinds_of params) [] (query_of_parts parts)
parts_fit schema params selects parts r e are =
    query_from_no_fault schema (kinds_of params) [] (query_of_parts parts) (rw are (no_fault schema params selects r (none_from schema params selects e)))
