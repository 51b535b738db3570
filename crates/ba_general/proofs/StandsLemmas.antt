-- Each variable of a pattern stands in its goal or an entry.
use Rattle.std.proofs.Common.{◌≡◌, ℕ, zero, suc, ◌+◌, ◌<◌, ◌++◌, inl, inr, List, [], ◌∷◌, length, sym, ap, subst, arith}
use Rattle.std.specs.Prelude.{Contains}
use Rattle.std.specs.List.{flat_map, range_with_len}
use Rattle.std.proofs.lemmas.List.Elements.{Contains-append_cases, Contains-append_left, Contains-append_right}
use Rattle.ba_kernel.specs.declared.problem.Problem.{Problem}
use Rattle.ba_kernel.specs.declared.problem.ProblemEntry.{ProblemEntry}
use Rattle.ba_model.proofs.ElementLemmas.{Contains-cases, Contains-flat_map, Contains-head, Contains-into_flat_map, Contains-later, Contains-nil}
use Rattle.ba_model.specs.Conform.{IsOfKind}
use Rattle.ba_model.specs.declared.query.Atom.{Atom}
use Rattle.ba_model.specs.declared.query.Op.{Op}
use Rattle.ba_model.specs.declared.query.Op.TheVariants as ops
use Rattle.ba_model.specs.declared.query.Operand.{Operand}
use Rattle.ba_model.specs.declared.query.Operand.TheVariants.{Col, Val, Param, Var}
use Rattle.ba_model.specs.declared.query.Part.{Part}
use Rattle.ba_model.specs.declared.query.Query.{Query}
use Rattle.ba_template.specs.Templates.{operands_of, operands_of_entry, operands_of_part, operands_of_problem, sides}
use Rattle.ba_general.proofs.MakesLemmas.{zip_wide}
use Rattle.ba_general.specs.Generals.{PatternStands}
use Rattle.ba_general.specs.Patterns.{printed, printed_entry, printed_part, printed_query, printed_sides, variable_of}

-- what is printed stands
module _ (x : Operand) where
  abbrev Within : List Operand → List Operand → Type 0
  Within xs ys = Contains xs x → Contains ys x

  both_within : (xs ys us vs : List Operand) → Within xs us → Within ys vs → Within (xs ++ ys) (us ++ vs)
  both_within xs ys us vs f g h =
      elim (Contains-append_cases xs ys x h) [ inl left ↦ Contains-append_left us vs x (f left) | inr right ↦ Contains-append_right us vs x (g right) ]

  each_within : {X : Type 0} (f g : X → List Operand) → ((it : X) → Within (f it) (g it)) → (its : List X) → Within (flat_map f its) (flat_map g its)
  each_within f g all its h =
      let w = Contains-flat_map f its x h in
      Contains-into_flat_map g its w.0 x w.1 (all w.0 w.2)

  left_within : (a b : Operand) → Within (a ∷ []) (a ∷ b ∷ [])
  left_within a b h =
      elim (Contains-cases a [] x h) [ inl same ↦ subst (Contains (a ∷ b ∷ [])) same (Contains-head a (b ∷ [])) | inr later ↦ absurd (Contains-nil x later) ]

  sides_within : (op : Op) (a b : Operand) → Within (printed_sides op a b) (a ∷ b ∷ [])
  sides_within ops.Eq a b h = h
  sides_within ops.Ne a b h = h
  sides_within ops.Lt a b h = h
  sides_within ops.Le a b h = h
  sides_within ops.IsNull a b h = left_within a b h
  sides_within ops.NotNull a b h = left_within a b h

  part_within : (part : Part) → Within (printed_part part) (operands_of_part part)
  part_within part =
      both_within part.head (flat_map (λ atom. printed_sides atom.op atom.left atom.right) part.conds) part.head (flat_map sides part.conds) (λ h. h)
      (each_within (λ (atom : Atom). printed_sides atom.op atom.left atom.right) sides (λ atom. sides_within atom.op atom.left atom.right) part.conds)

  query_within : (q : Query) → Within (printed_query q) (operands_of q)
  query_within q = each_within printed_part operands_of_part part_within q.parts

  entry_within : (entry : ProblemEntry) → Within (printed_entry entry) (operands_of_entry entry)
  entry_within entry = both_within (printed_query entry.query) entry.row (operands_of entry.query) entry.row (query_within entry.query) (λ h. h)

  problem_within : (p : Problem) → Within (printed p) (operands_of_problem p)
  problem_within p =
      both_within (printed_query p.goal) (flat_map printed_entry p.entries) (operands_of p.goal) (flat_map operands_of_entry p.entries) (query_within p.goal)
      (each_within printed_entry operands_of_entry entry_within p.entries)

variable_is : (x : Operand) (n : ℕ) → Contains (variable_of x) n → x ≡ Var n
variable_is (Col place column) n h = absurd (Contains-nil n h)
variable_is (Val v) n h = absurd (Contains-nil n h)
variable_is (Param m) n h = absurd (Contains-nil n h)
variable_is (Var m) n h = elim (Contains-cases m [] n h) [ inl same ↦ ap Var same | inr later ↦ absurd (Contains-nil n later) ]

in_range : (first count n : ℕ) → n < count → Contains (range_with_len first count) (first + n)
in_range first zero n below = absurd (omega arith)
in_range first (suc count) zero below =
    subst (Contains (range_with_len first (suc count))) (let e : first ≡ first + 0 = omega arith in e) (Contains-head first (range_with_len (first + 1) count))
in_range first (suc count) (suc n) below =
    Contains-later first (range_with_len (first + 1) count) (first + suc n)
    (subst (Contains (range_with_len (first + 1) count)) (let e : (first + 1) + n ≡ first + suc n = omega arith in e)
    (in_range (first + 1) count n (let less : n < count = omega arith in less)))

pub stands_all : PatternStands
stands_all p g numbers values atoms h =
    record {
      stands = λ n below.
          let wide : length g.vars ≡ length values = zip_wide IsOfKind g.vars values h.kinds in
          let within : n < length values = omega arith in
          let named : Contains (flat_map variable_of (printed g)) n =
          subst (λ ns. Contains ns n) (sym h.own)
          (subst (Contains (range_with_len 0 (length values))) (let e : 0 + n ≡ n = omega arith in e) (in_range 0 (length values) n within)) in
          let w = Contains-flat_map variable_of (printed g) n named in
          let is : w.0 ≡ Var n = variable_is w.0 n w.2 in
          problem_within (Var n) g (subst (Contains (printed g)) is w.1);
    }
