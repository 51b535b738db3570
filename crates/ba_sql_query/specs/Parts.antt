-- The parts of selects whose names are numbers: the disjunctive form of each condition.
use Rattle.std.specs.Prelude.{ℕ, suc, ◌+◌, ◌*◌, Bool, ◌==◌, ◌||◌, ◌&&◌, nat_le, List, [], ◌∷◌, ◌++◌, map, length, min, max, if◌then◌else◌}
use Rattle.std.specs.List.{flat_map}
use Rattle.ba_model.specs.Limits.{most_atoms, most_head, most_part_tables, most_parts}
use Rattle.ba_model.specs.declared.query.Atom.{Atom}
use Rattle.ba_model.specs.declared.query.Op.TheVariants.{Eq}
use Rattle.ba_model.specs.declared.query.Operand.{Operand}
use Rattle.ba_model.specs.declared.query.Part.{Part}
use Rattle.ba_sql_query.specs.declared.count.Count.{Count}
use Rattle.ba_sql_query.specs.declared.resolved.ResolvedNode.{ResolvedNode}
use Rattle.ba_sql_query.specs.declared.resolved.ResolvedNode.TheVariants as steps
use Rattle.ba_sql_query.specs.declared.resolved.ResolvedSelect.{ResolvedSelect}
use Rattle.ba_sql_query.specs.declared.resolved.ResolvedTest.{ResolvedTest}
use Rattle.ba_sql_query.specs.declared.resolved.ResolvedTest.TheVariants.{One, Among}

-- one of the equations that an IN stands for
abbrev pub equation : Operand → Operand → Atom
equation side c = record { op = Eq; left = side; right = c }

-- ---- the query as it is written: one part a select with the atoms of all its tests

abbrev pub test_atoms : ResolvedTest → List Atom
test_atoms (One atom) = atom ∷ []
test_atoms (Among side among) = map (equation side) among

abbrev pub node_atoms : ResolvedNode → List Atom
node_atoms (steps.Test t) = test_atoms t
node_atoms steps.And = []
node_atoms steps.Or = []

abbrev pub written_part : ResolvedSelect → Part
written_part select = record { from = select.from; conds = flat_map node_atoms select.condition; head = select.head }

-- ---- the disjunctive form: lists of atoms, one of which must hold

-- a test: one member for each equation of an IN
abbrev pub alternatives : ResolvedTest → List (List Atom)
alternatives (One atom) = (atom ∷ []) ∷ []
alternatives (Among side among) = map (λ c. equation side c ∷ []) among

-- A AND B: for each member of A and each of B the atoms of both
abbrev pub product : List (List Atom) → List (List Atom) → List (List Atom)
product left right = flat_map (λ a. map (λ b. a ++ b) right) left

abbrev pub join_top : List (List (List Atom)) → List (List (List Atom))
join_top [] = []
join_top (b ∷ []) = b ∷ []
join_top (b ∷ a ∷ stack) = product a b ∷ stack

-- A OR B: the members of A, then those of B
abbrev pub both_top : List (List (List Atom)) → List (List (List Atom))
both_top [] = []
both_top (b ∷ []) = b ∷ []
both_top (b ∷ a ∷ stack) = (a ++ b) ∷ stack

-- a node takes its sides from a stack, whose top stands first, and puts its members there
unfoldable pub after : ResolvedNode → List (List (List Atom)) → List (List (List Atom))
after (steps.Test t) stack = alternatives t ∷ stack
after steps.And stack = join_top stack
after steps.Or stack = both_top stack

abbrev pub run : List ResolvedNode → List (List (List Atom)) → List (List (List Atom))
run [] stack = stack
run (n ∷ ns) stack = run ns (after n stack)

-- no condition is one member without atoms
abbrev pub top_of : List (List (List Atom)) → List (List Atom)
top_of [] = [] ∷ []
top_of (ms ∷ stack) = ms

unfoldable pub members : List ResolvedNode → List (List Atom)
members condition = top_of (run condition [])

-- ---- parts

abbrev pub part_of : ResolvedSelect → List Atom → Part
part_of select atoms = record { from = select.from; conds = atoms; head = select.head }

unfoldable pub select_parts : ResolvedSelect → List Part
select_parts select = map (part_of select) (members select.condition)

abbrev pub parts_of : List ResolvedSelect → List Part
parts_of selects = flat_map select_parts selects

-- ---- how many members there are, and the atoms of the longest, counted up to one above their limits

abbrev pub longest : List (List Atom) → ℕ
longest [] = 0
longest (m ∷ ms) = max (length m) (longest ms)

abbrev pub measure : List (List Atom) → Count
measure ms = record { parts = min (length ms) (suc most_parts); longest = min (longest ms) (suc most_atoms) }

abbrev pub count_of : ResolvedTest → Count
count_of (One atom) = record { parts = 1; longest = 1 }
count_of (Among side among) = record { parts = min (length among) (suc most_parts); longest = min (length among) 1 }

-- of the product; of no members the longest has no atoms
abbrev pub count_both : Count → Count → Count
count_both a b = record { parts = min (a.parts * b.parts) (suc most_parts); longest = if a.parts * b.parts == 0 then 0 else min (a.longest + b.longest) (suc most_atoms) }

abbrev pub count_either : Count → Count → Count
count_either a b = record { parts = min (a.parts + b.parts) (suc most_parts); longest = max a.longest b.longest }

abbrev pub count_join : List Count → List Count
count_join [] = []
count_join (b ∷ []) = b ∷ []
count_join (b ∷ a ∷ stack) = count_both a b ∷ stack

abbrev pub count_sum : List Count → List Count
count_sum [] = []
count_sum (b ∷ []) = b ∷ []
count_sum (b ∷ a ∷ stack) = count_either a b ∷ stack

unfoldable pub count_after : ResolvedNode → List Count → List Count
count_after (steps.Test t) stack = count_of t ∷ stack
count_after steps.And stack = count_join stack
count_after steps.Or stack = count_sum stack

abbrev pub count_run : List ResolvedNode → List Count → List Count
count_run [] stack = stack
count_run (n ∷ ns) stack = count_run ns (count_after n stack)

abbrev pub count_top : List Count → Count
count_top [] = record { parts = 1; longest = 0 }
count_top (c ∷ stack) = c

-- whether each part of a select with this count is within the limits
abbrev pub fits_by : ResolvedSelect → Count → Bool
fits_by select count =
    (count.parts == 0) || (nat_le (length select.from) most_part_tables && (nat_le count.longest most_atoms && nat_le (length select.head) most_head))
