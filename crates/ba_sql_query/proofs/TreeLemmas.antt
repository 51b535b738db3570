-- A condition's members are the disjunctive form of its tree.
use Rattle.std.proofs.Common.{◌≡◌, inl, inr, ℕ, List, [], ◌∷◌, ◌++◌, refl, sym, ap, subst, ◌∙◌, append_assoc}
use Rattle.std.specs.List.{AllZip}
use Rattle.std.proofs.lemmas.List.{append-nil}
use Rattle.ba_model.specs.declared.policy.Parameter.{Parameter}
use Rattle.ba_model.specs.declared.query.Atom.{Atom}
use Rattle.ba_model.specs.declared.schema.Schema.{Schema}
use Rattle.ba_sql_syntax.specs.Grammar.{Cond, HasTree, postfix}
use Rattle.ba_sql_syntax.specs.Grammar.Cond.{test as test_cond, both as both_conds, either as either_cond}
use Rattle.ba_sql_syntax.specs.declared.written.Node.{Node}
use Rattle.ba_sql_syntax.specs.declared.written.Node.TheVariants as nodes
use Rattle.ba_sql_syntax.specs.declared.written.Select.{Select}
use Rattle.ba_sql_syntax.specs.declared.written.Source.{Source}
use Rattle.ba_sql_query.specs.Parts.{after, members, run, top_of}
use Rattle.ba_sql_query.specs.Reads.{HasForm, IsNode, IsSelectOf, Tree, dnf, nodes_of}
use Rattle.ba_sql_query.specs.Reads.HasForm.{none, some}
use Rattle.ba_sql_query.specs.Reads.Tree.{test, both, either}
use Rattle.ba_sql_query.specs.declared.resolved.ResolvedNode.{ResolvedNode}
use Rattle.ba_sql_query.specs.declared.resolved.ResolvedNode.TheVariants as steps
use Rattle.ba_sql_query.specs.declared.resolved.ResolvedSelect.{ResolvedSelect}

-- ---- the tree of a condition whose names are numbers

zip_split : {A B : Type 0} (R : A → B → Type 0) (xs ys : List A) (zs : List B) → AllZip R (xs ++ ys) zs → (us : List B) × (vs : List B) × AllZip R xs us × AllZip R ys vs × (zs ≡ us ++ vs)
zip_split R [] ys zs h = ([], zs, tt, h, refl)
zip_split R (x ∷ xs) ys [] h = absurd h
zip_split R (x ∷ xs) ys (z ∷ zs) h =
    let s = zip_split R xs ys zs h.1 in
    (z ∷ s.0, s.1, (h.0, s.2), s.3, ap (λ ws. z ∷ ws) s.4)

joined_so : (rs us vs ws zs p q : List ResolvedNode) (r : ResolvedNode) → rs ≡ us ++ vs → vs ≡ ws ++ zs → zs ≡ r ∷ [] → us ≡ p → ws ≡ q → rs ≡ p ++ (q ++ r ∷ [])
joined_so rs us vs ws zs p q r e f g h k = rw (e, f, g, h, k) refl

module _ (schema : Schema) (params : List Parameter) (sources : List Source) (from : List ℕ) where
  abbrev Means : Node → ResolvedNode → Type 0
  Means = IsNode schema params sources from

  -- an operator at the end
  abbrev IsEnd : Node → ResolvedNode → Type 0
  IsEnd n r = (ns : List ResolvedNode) → AllZip Means (n ∷ []) ns → ns ≡ r ∷ []

  and_end : IsEnd nodes.And steps.And
  and_end [] h = absurd h
  and_end (r ∷ []) h = ap (λ n. n ∷ []) h.0
  and_end (r ∷ s ∷ ns) h = absurd h.1

  or_end : IsEnd nodes.Or steps.Or
  or_end [] h = absurd h
  or_end (r ∷ []) h = ap (λ n. n ∷ []) h.0
  or_end (r ∷ s ∷ ns) h = absurd h.1

  tree_of : (c : Cond) (rs : List ResolvedNode) → AllZip Means (postfix c) rs → (t : Tree) × (rs ≡ nodes_of t)
  tree_of (test_cond t) [] h = absurd h
  tree_of (test_cond t) (r ∷ []) h = (test h.0.0, ap (λ n. n ∷ []) h.0.2)
  tree_of (test_cond t) (r ∷ s ∷ rs) h = absurd h.1
  tree_of (both_conds a b) rs h =
      let s = zip_split Means (postfix a) (postfix b ++ nodes.And ∷ []) rs h in
      let u = zip_split Means (postfix b) (nodes.And ∷ []) s.1 s.3 in
      let p = tree_of a s.0 s.2 in
      let q = tree_of b u.0 u.2 in
      let e : u.1 ≡ steps.And ∷ [] = and_end u.1 u.3 in
      (both p.0 q.0, joined_so rs s.0 s.1 u.0 u.1 (nodes_of p.0) (nodes_of q.0) steps.And s.4 u.4 e p.1 q.1)
  tree_of (either_cond a b) rs h =
      let s = zip_split Means (postfix a) (postfix b ++ nodes.Or ∷ []) rs h in
      let u = zip_split Means (postfix b) (nodes.Or ∷ []) s.1 s.3 in
      let p = tree_of a s.0 s.2 in
      let q = tree_of b u.0 u.2 in
      let e : u.1 ≡ steps.Or ∷ [] = or_end u.1 u.3 in
      (either p.0 q.0, joined_so rs s.0 s.1 u.0 u.1 (nodes_of p.0) (nodes_of q.0) steps.Or s.4 u.4 e p.1 q.1)

-- ---- the machine over a tree

run_tree : (t : Tree) (more : List ResolvedNode) (stack : List (List (List Atom))) → run (nodes_of t ++ more) stack ≡ run more (dnf t ∷ stack)
unfolding after
run_tree (test t) more stack = refl
run_tree (both a b) more stack =
    let e : (nodes_of a ++ (nodes_of b ++ steps.And ∷ [])) ++ more ≡ nodes_of a ++ (nodes_of b ++ steps.And ∷ more) = simp append_assoc in
    rw (e, run_tree a (nodes_of b ++ steps.And ∷ more) stack, run_tree b (steps.And ∷ more) (dnf a ∷ stack)) refl
run_tree (either a b) more stack =
    let e : (nodes_of a ++ (nodes_of b ++ steps.Or ∷ [])) ++ more ≡ nodes_of a ++ (nodes_of b ++ steps.Or ∷ more) = simp append_assoc in
    rw (e, run_tree a (nodes_of b ++ steps.Or ∷ more) stack, run_tree b (steps.Or ∷ more) (dnf a ∷ stack)) refl

tree_members : (t : Tree) → members (nodes_of t) ≡ dnf t
unfolding members
tree_members t = ap top_of (ap (λ ns. run ns []) (sym (append-nil (nodes_of t))) ∙ run_tree t [] [])

pub form_members : (condition : List ResolvedNode) (ms : List (List Atom)) → HasForm condition ms → members condition ≡ ms
unfolding members
form_members condition ms none = refl
form_members condition ms (some t) = tree_members t

-- ---- parts

pub form_of : (schema : Schema) (params : List Parameter) (select : Select) (s : ResolvedSelect) → HasTree select.condition → IsSelectOf schema params select s → HasForm s.condition (members s.condition)
unfolding members
form_of schema params select s has h =
    elim has [
      | inl e ↦ empty s.condition (subst (λ ns. AllZip (IsNode schema params select.sources s.from) ns s.condition) e h.condition)
      | inr t ↦ full s.condition (tree_of schema params select.sources s.from t.0 s.condition (subst (λ ns. AllZip (IsNode schema params select.sources s.from) ns s.condition) t.1 h.condition))
    ]
  where
    empty : (rs : List ResolvedNode) → AllZip (IsNode schema params select.sources s.from) [] rs → HasForm rs (members rs)
    empty [] z = none
    empty (r ∷ rs) z = absurd z

    full : (rs : List ResolvedNode) → (t : Tree) × (rs ≡ nodes_of t) → HasForm rs (members rs)
    full rs t = subst (λ ns. HasForm ns (members ns)) (sym t.1) (subst (HasForm (nodes_of t.0)) (sym (tree_members t.0)) (some t.0))
