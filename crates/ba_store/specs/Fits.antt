-- The tests of what a template's line says: that queries are queries for the schema, the parameters
-- and the variables, that rows may stand for their queries' heads, that a condition is one, and that
-- each variable stands in the goal or an entry.
use Rattle.std.specs.Prelude.{ℕ, zero, suc, Bool, true, false, ◌&&◌, ◌||◌, List, [], ◌∷◌, length, Option, Some, None, is_some, slice_get}
use Rattle.std.specs.List.{list_all}
use Rattle.ba_model.specs.Fit.{kind_of}
use Rattle.ba_model.specs.QueryFaults.{all_named, atom_kinds, atom_order, columns_there, heads_agree, is_null, kinds_agree, orders_numbers, tables_there, within}
use Rattle.ba_model.specs.declared.query.Atom.{Atom}
use Rattle.ba_model.specs.declared.query.Operand.{Operand}
use Rattle.ba_model.specs.declared.query.Part.{Part}
use Rattle.ba_model.specs.declared.query.Query.{Query}
use Rattle.ba_model.specs.declared.schema.Kind.{Kind}
use Rattle.ba_model.specs.declared.schema.Kind.TheVariants.{Int, Text}
use Rattle.ba_model.specs.declared.schema.Schema.{Schema}
use Rattle.ba_kernel.specs.declared.problem.Problem.{Problem}
use Rattle.ba_template.specs.Standing.{in_problem}

-- the parts are a query for the schema, and for parameters and variables of these kinds: they have
-- none of a query's faults
unfoldable pub is_query : Schema → List Kind → List Kind → List Part → Bool
is_query s params vars parts =
    list_all (tables_there s) parts && (list_all (columns_there s) parts
    && (list_all (kinds_agree s params vars) parts && (list_all (orders_numbers s params vars) parts
    && (heads_agree s params vars parts && (list_all (all_named params vars) parts
    && within parts)))))

abbrev pub same_kind : Kind → Kind → Bool
same_kind Int Int = true
same_kind Text Text = true
same_kind Int Text = false
same_kind Text Int = false

-- an operand, of the second kind, may stand in a row where the head has the first: it is of that
-- kind, or NULL
abbrev pub may_stand : Option Kind → Option Kind → Operand → Bool
may_stand None own operand = false
may_stand (Some kind) None operand = is_null operand
may_stand (Some kind) (Some other) operand = same_kind kind other || is_null operand

-- the row has an operand for each of the head's, over these tables, that may stand for it
abbrev pub stands : Schema → List Kind → List Kind → List ℕ → List Operand → List Operand → Bool
stands s params vars from [] [] = true
stands s params vars from [] (operand ∷ row) = false
stands s params vars from (x ∷ head) [] = false
stands s params vars from (x ∷ head) (operand ∷ row) =
    may_stand (kind_of s params vars from x) (kind_of s params vars [] operand) operand
    && stands s params vars from head row

-- the parts' heads are alike: the first one's counts
abbrev pub stands_for : Schema → List Kind → List Kind → Option Part → List Operand → Bool
stands_for s params vars None row = false
stands_for s params vars (Some part) row = stands s params vars part.from part.head row

abbrev pub row_stands : Schema → List Kind → List Kind → Query → List Operand → Bool
row_stands s params vars query row = stands_for s params vars (slice_get query.parts 0) row

-- the atom is one of parameters, variables and literals of one kind
unfoldable pub is_assumed : Schema → List Kind → List Kind → Atom → Bool
is_assumed s params vars atom =
    is_some (kind_of s params vars [] atom.left) && (is_some (kind_of s params vars [] atom.right)
    && (atom_kinds s params vars [] atom.op atom.left atom.right
    && atom_order s params vars [] atom))

-- each variable of a number below n stands in the goal or an entry
abbrev pub stand_below : Problem → ℕ → Bool
stand_below p zero = true
stand_below p (suc n) = in_problem n p && stand_below p n

-- each variable does
unfoldable pub vars_stand : Problem → Bool
vars_stand p = stand_below p (length p.vars)
