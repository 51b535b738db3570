-- The tests by which a cover is found.
use Rattle.std.specs.Prelude.{ℕ, Bool, true, false, ◌&&◌, ◌||◌, ◌==◌, List, Option, Some, None, if◌then◌else◌, is_some, length, nat_lt, slice_get}
use Rattle.std.specs.List.{list_all, list_any}
use Rattle.std.specs.Ordering.{eq_by_cmp}
use Rattle.ba_model.specs.Order.{value_cmp}
use Rattle.ba_model.specs.declared.policy.Context.{Context}
use Rattle.ba_model.specs.declared.query.Atom.{Atom}
use Rattle.ba_model.specs.declared.query.Op.{Op}
use Rattle.ba_model.specs.declared.query.Op.TheVariants.{Eq, Ne, Lt, Le, IsNull, NotNull}
use Rattle.ba_model.specs.declared.query.Operand.{Operand}
use Rattle.ba_model.specs.declared.query.Operand.TheVariants.{Col, Val, Param, Var}
use Rattle.ba_model.specs.declared.query.Part.{Part}
use Rattle.ba_model.specs.declared.value.Value.{Value}
use Rattle.ba_direct.specs.Cover.{constant_of}

-- it is there, and that number
abbrev pub is_number : Option ℕ → ℕ → Bool
is_number None n = false
is_number (Some i) n = i == n

-- both values are there, and equal
abbrev pub same_value : Option Value → Option Value → Bool
same_value (Some v) (Some w) = eq_by_cmp value_cmp v w
same_value _ _ = false

abbrev pub same_op : Op → Op → Bool
same_op Eq Eq = true
same_op Ne Ne = true
same_op Lt Lt = true
same_op Le Le = true
same_op IsNull IsNull = true
same_op NotNull NotNull = true
same_op _ _ = false

abbrev pub is_equation : Op → Bool
is_equation Eq = true
is_equation _ = false

-- the view's operand maps to the query's
abbrev pub maps : Context → List ℕ → Operand → Operand → Bool
maps c to (Col place column) (Col paired other) = is_number (slice_get to place) paired && (other == column)
maps c to x y = same_value (constant_of c x) (constant_of c y)

-- the view's atom maps to the query's
abbrev pub maps_atom : Context → List ℕ → Atom → Atom → Bool
maps_atom c to a b =
    (same_op a.op b.op && (maps c to a.left b.left && maps c to a.right b.right)) || ((is_equation a.op && is_equation b.op) && (maps c to a.left b.right && maps c to a.right b.left))

-- the view's operand, of its head, is the query's column
abbrev pub outputs : List ℕ → ℕ → ℕ → Operand → Bool
outputs to paired column (Col place other) = is_number (slice_get to place) paired && (other == column)
outputs to paired column _ = false

abbrev pub is_known : Context → List ℕ → Part → Operand → Bool
is_known c to view (Col paired column) = list_any (outputs to paired column) view.head
is_known c to view (Val v) = true
is_known c to view (Param n) = is_some (slice_get c.values n)
is_known c to view (Var n) = false

-- what the view's atom owes
abbrev pub has_image : Context → List ℕ → Part → Atom → Bool
has_image c to q a = list_any (maps_atom c to a) q.conds

-- what the query's atom owes
abbrev pub is_covered_atom : Context → List ℕ → Part → Atom → Bool
is_covered_atom c to view b = list_any (λ a. maps_atom c to a b) view.conds || (is_known c to view b.left && is_known c to view b.right)

-- what a cover asks beside the pairing of tables
abbrev pub operands_covered : Context → Part → Part → List ℕ → Bool
operands_covered c view q to = list_all (has_image c to q) view.conds && (list_all (is_covered_atom c to view) q.conds && list_all (is_known c to view) q.head)

-- the pairing so far has the operand's table
abbrev pub is_reached : List ℕ → Operand → Bool
is_reached to (Col place column) = nat_lt place (length to)
is_reached to _ = true

-- what the view's atom owes as soon as its tables are paired
abbrev pub may_have_image : Context → List ℕ → Part → Atom → Bool
may_have_image c to q a = if is_reached to a.left && is_reached to a.right then has_image c to q a else true

-- the query's operand is no column, or one of a place that is paired so far
abbrev pub is_settled : List ℕ → Operand → Bool
is_settled to (Col paired column) = list_any (λ i. i == paired) to
is_settled to _ = true

-- what the query's operand owes, of its head, as soon as its place is paired
abbrev pub may_be_known : Context → List ℕ → Part → Operand → Bool
may_be_known c to view x = if is_settled to x then is_known c to view x else true

-- what the query's atom owes as soon as its places are paired
abbrev pub may_be_covered : Context → List ℕ → Part → Atom → Bool
may_be_covered c to view b = if is_settled to b.left && is_settled to b.right then is_covered_atom c to view b else true

-- what a cover asks of the tables that are paired so far
abbrev pub may_cover : Context → Part → Part → List ℕ → Bool
may_cover c view q to = list_all (may_have_image c to q) view.conds && (list_all (may_be_covered c to view) q.conds && list_all (may_be_known c to view) q.head)
