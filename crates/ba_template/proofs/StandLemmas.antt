-- The test of a variable tells whether it stands among operands.
use Rattle.std.proofs.Common.{◌≡◌, Bool, ◌||◌, inl, inr, ℕ, List, [], ◌∷◌, ◌++◌, refl, ap, subst}
use Rattle.std.proofs.lemmas.Bool.Decides.{Decides-eqb, Decides-like, Decides-or}
use Rattle.std.proofs.lemmas.List.Elements.{Contains-append_cases, Contains-append_left, Contains-append_right}
use Rattle.std.specs.Bool.{Decides}
use Rattle.std.specs.List.{Contains, flat_map, list_any}
use Rattle.std.specs.Prelude.{◌==◌}
use Rattle.ba_model.proofs.ElementLemmas.{Contains-cases, Contains-flat_map, Contains-head, Contains-into_flat_map, Contains-nil}
use Rattle.ba_model.proofs.TestLemmas.{any_decides}
use Rattle.ba_model.specs.declared.query.Atom.{Atom}
use Rattle.ba_model.specs.declared.query.Operand.{Operand}
use Rattle.ba_model.specs.declared.query.Operand.TheVariants.{Col, Val, Param, Var}
use Rattle.ba_model.specs.declared.query.Part.{Part}
use Rattle.ba_model.specs.declared.query.Query.{Query}
use Rattle.ba_kernel.specs.declared.problem.Problem.{Problem}
use Rattle.ba_kernel.specs.declared.problem.ProblemEntry.{ProblemEntry}
use Rattle.ba_template.specs.Standing.{in_atom, in_entry, in_part, in_problem, in_query, is_var}
use Rattle.ba_template.specs.Templates.{operands_of, operands_of_entry, operands_of_part, operands_of_problem, sides}

module _ (n : ℕ) where
  abbrev Stands : List Operand → Type 0
  Stands xs = Contains xs (Var n)

  var_decides : (x : Operand) → Decides (is_var n x) (x ≡ Var n)
  var_decides (Col place column) = (λ e. absurd (cc), λ e. absurd (cc))
  var_decides (Val v) = (λ e. absurd (cc), λ e. absurd (cc))
  var_decides (Param m) = (λ e. absurd (cc), λ e. absurd (cc))
  var_decides (Var m) = Decides-like (m == n) (λ e. ap Var e) (λ e. let same : m ≡ n = cc in same) (Decides-eqb m n)

  only : (x : Operand) → Stands (x ∷ []) → x ≡ Var n
  only x h = elim (Contains-cases x [] (Var n) h) [
    | inl same ↦ same
    | inr later ↦ absurd (Contains-nil (Var n) later)
  ]

  one_decides : (x : Operand) → Decides (is_var n x) (Stands (x ∷ []))
  one_decides x = Decides-like (is_var n x) (λ e. subst (Contains (x ∷ [])) e (Contains-head x [])) (only x) (var_decides x)

  operands_decide : (xs : List Operand) → Decides (list_any (is_var n) xs) (Stands xs)
  operands_decide xs =
      Decides-like (list_any (is_var n) xs) (λ found. subst (Contains xs) found.2 found.1) (λ h. (Var n, h, refl))
      (any_decides (is_var n) (λ x. x ≡ Var n) var_decides xs)

  flat_decides : {X : Type 0} (test : X → Bool) (operands : X → List Operand) → ((x : X) → Decides (test x) (Stands (operands x))) → (xs : List X) →
      Decides (list_any test xs) (Stands (flat_map operands xs))
  flat_decides test operands each xs =
      Decides-like (list_any test xs) (λ found. Contains-into_flat_map operands xs found.0 (Var n) found.1 found.2)
      (λ h. Contains-flat_map operands xs (Var n) h) (any_decides test (λ x. Stands (operands x)) each xs)

  append_decides : (a b : Bool) (xs ys : List Operand) → Decides a (Stands xs) → Decides b (Stands ys) → Decides (a || b) (Stands (xs ++ ys))
  append_decides a b xs ys left right =
      Decides-like (a || b)
      (λ h. elim h [
        | inl x ↦ Contains-append_left xs ys (Var n) x
        | inr y ↦ Contains-append_right xs ys (Var n) y
      ])
      (Contains-append_cases xs ys (Var n)) (Decides-or a b left right)

  atom_decides : (atom : Atom) → Decides (in_atom n atom) (Stands (sides atom))
  atom_decides atom =
      append_decides (is_var n atom.left) (is_var n atom.right) (atom.left ∷ []) (atom.right ∷ []) (one_decides atom.left) (one_decides atom.right)

  part_decides : (part : Part) → Decides (in_part n part) (Stands (operands_of_part part))
  part_decides part =
      append_decides (list_any (is_var n) part.head) (list_any (in_atom n) part.conds) part.head (flat_map sides part.conds) (operands_decide part.head)
      (flat_decides (in_atom n) sides atom_decides part.conds)

  query_decides : (q : Query) → Decides (in_query n q) (Stands (operands_of q))
  query_decides q = flat_decides (in_part n) operands_of_part part_decides q.parts

  entry_decides : (entry : ProblemEntry) → Decides (in_entry n entry) (Stands (operands_of_entry entry))
  entry_decides entry =
      append_decides (in_query n entry.query) (list_any (is_var n) entry.row) (operands_of entry.query) entry.row (query_decides entry.query)
      (operands_decide entry.row)

  pub problem_decides : (p : Problem) → Decides (in_problem n p) (Stands (operands_of_problem p))
  problem_decides p =
      append_decides (in_query n p.goal) (list_any (in_entry n) p.entries) (operands_of p.goal) (flat_map operands_of_entry p.entries)
      (query_decides p.goal) (flat_decides (in_entry n) operands_of_entry entry_decides p.entries)
