-- The rows of a query, by each choice of rows of its tables; and the first rule that is broken,
-- with the least row that breaks it.
use Rattle.std.specs.Prelude.{◌≡◌, ℕ, ◌+◌, ◌<◌, ◌≤◌, Bool, true, false, not, ◌&&◌, int_lt, int_le, List, [], ◌∷◌, map, Option, Some, None, option_map, option_to_list, slice_get, if◌then◌else◌}
use Rattle.std.specs.List.{filter, flat_map, list_all, list_any}
use Rattle.std.specs.Option.{option_or}
use Rattle.std.specs.Ordering.{eq_by_cmp, is_lt}
use Rattle.std.specs.declared.cmp.Ordering.TheVariants.{Less}
use Rattle.ba_model.specs.Conform.{no_context}
use Rattle.ba_model.specs.Meaning.{rows_of, value_of}
use Rattle.ba_model.specs.Order.{row_cmp, value_cmp}
use Rattle.ba_model.specs.declared.policy.Context.{Context}
use Rattle.ba_model.specs.declared.query.Atom.{Atom}
use Rattle.ba_model.specs.declared.query.Op.{Op}
use Rattle.ba_model.specs.declared.query.Op.TheVariants.{Eq, Ne, Lt, Le, IsNull, NotNull}
use Rattle.ba_model.specs.declared.query.Part.{Part}
use Rattle.ba_model.specs.declared.query.Query.{Query}
use Rattle.ba_model.specs.declared.schema.Rule.{Rule}
use Rattle.ba_model.specs.declared.value.RowSet.{RowSet}
use Rattle.ba_model.specs.declared.value.Value.{Value}
use Rattle.ba_model.specs.declared.value.Value.TheVariants.{Null, Int, Text}
use Rattle.ba_tables.specs.Broken.{is_null}
use Rattle.ba_tables.specs.declared.broken.TablesFault.{TablesFault}
use Rattle.ba_tables.specs.declared.broken.TablesFault.TheVariants.{RuleBroken}

-- ---- the rows of a query

-- the comparison is true of the two values
abbrev pub compares : Op → Value → Value → Bool
compares Eq a b = not (is_null (Some a)) && eq_by_cmp value_cmp a b
compares Ne a b =
    not (is_null (Some a)) && (not (is_null (Some b)) && not (eq_by_cmp value_cmp a b))
compares Lt (Int n) (Int m) = int_lt n m
compares Lt _ _ = false
compares Le (Int n) (Int m) = int_le n m
compares Le _ _ = false
compares IsNull a b = is_null (Some a)
compares NotNull a b = not (is_null (Some a))

abbrev pub compared : Op → Option Value → Option Value → Bool
compared op None right = false
compared op (Some a) None = false
compared op (Some a) (Some b) = compares op a b

-- the atom is true of one row for each place
abbrev pub holds : Context → List (List Value) → Atom → Bool
holds c rows atom = compared atom.op (value_of c rows atom.left) (value_of c rows atom.right)

-- all of the values, where each is there
abbrev pub all_there : List (Option Value) → Option (List Value)
all_there [] = Some []
all_there (None ∷ values) = None
all_there (Some v ∷ values) = option_map (λ vs. v ∷ vs) (all_there values)

-- what the part gives from one row for each place, where these make every atom true
abbrev pub given_from : Context → Part → List (List Value) → Option (List Value)
given_from c part rows =
    if list_all (holds c rows) part.conds then all_there (map (value_of c rows) part.head) else None

-- each choice of one row for each of the tables
abbrev pub choices : RowSet → List ℕ → List (List (List Value))
choices d [] = [] ∷ []
choices d (table ∷ tables) =
    flat_map (λ row. map (λ rows. row ∷ rows) (choices d tables)) (rows_of d table)

abbrev pub given_by_part : Context → RowSet → Part → List (List Value)
given_by_part c d part =
    flat_map (λ rows. option_to_list (given_from c part rows)) (choices d part.from)

-- the query's rows, in any order and number
abbrev pub rows_given : Query → Context → RowSet → List (List Value)
rows_given q c d = flat_map (given_by_part c d) q.parts

-- ---- the least row that breaks a rule

abbrev pub has_row : List (List Value) → List Value → Bool
has_row rows row = list_any (eq_by_cmp row_cmp row) rows

abbrev pub is_missing : List (List Value) → List Value → Bool
is_missing rows row = not (has_row rows row)

-- the rows of the rule's left query that aren't rows of its right query
abbrev pub breaking : RowSet → Rule → List (List Value)
breaking d rule =
    filter (is_missing (rows_given rule.right no_context d)) (rows_given rule.left no_context d)

abbrev pub lesser : List Value → Option (List Value) → List Value
lesser row None = row
lesser row (Some other) = if is_lt (row_cmp other row) then other else row

abbrev pub least : List (List Value) → Option (List Value)
least [] = None
least (row ∷ rows) = Some (lesser row (least rows))

unfoldable pub least_breaking : RowSet → Rule → Option (List Value)
least_breaking d rule = least (breaking d rule)

-- the first broken rule, from a rule's number on
unfoldable pub broken_rule : ℕ → RowSet → List Rule → Option TablesFault
broken_rule number d [] = None
broken_rule number d (rule ∷ rules) =
    option_or (option_map (λ row. RuleBroken number row) (least_breaking d rule))
    (broken_rule (number + 1) d rules)

-- ---- how it is found

-- the row with this number isn't before the given one, and those from a number on up to it are
pub record IsFirstFrom (rows : List (List Value)) (from : ℕ) (row : List Value) (number : ℕ)
    : Type 0 where
  pub before : (k : ℕ) (other : List Value) → from ≤ k → k < number →
      slice_get rows k ≡ Some other → row_cmp other row ≡ Less
  pub there : (other : List Value) → slice_get rows number ≡ Some other → row_cmp other row ≡ Less → ⊥
