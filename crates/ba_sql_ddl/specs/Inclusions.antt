-- What the inclusion rules of a schema mean, over its tables.
use Rattle.std.specs.Prelude.{◌≡◌, ℕ, ◌+◌, Bool, false, nat_lt, List, [], ◌∷◌, length, slice_get, Option, Some, None, Result, Ok, Err, if◌then◌else◌}
use Rattle.ba_model.specs.Limits.{most_rules}
use Rattle.ba_model.specs.QueryFaults.{parts_match}
use Rattle.ba_model.specs.Readings.{◌>>=◌, widened}
use Rattle.ba_model.specs.RuleFaults.{RuleFits}
use Rattle.ba_model.specs.declared.limits.Counted.TheVariants.{Rules}
use Rattle.ba_model.specs.declared.query.Part.{Part}
use Rattle.ba_model.specs.declared.query.Query.{Query}
use Rattle.ba_model.specs.declared.schema.Rule.{Rule}
use Rattle.ba_model.specs.declared.schema.Schema.{Schema}
use Rattle.ba_sql_ddl.specs.Written.{InclusionText}
use Rattle.ba_sql_ddl.specs.declared.fault.DdlFault.{DdlFault}
use Rattle.ba_sql_ddl.specs.declared.fault.DdlFault.TheVariants.{TooMany, Rule as RuleFault}
use Rattle.ba_sql_query.specs.Texts.{query_of_words}
use Rattle.ba_sql_query.specs.declared.fault.ReadQueryFault.{ReadQueryFault}
use Rattle.ba_sql_query.specs.declared.fault.ReadQueryFault.TheVariants.{HeadDiffers}

-- ---- as functions

abbrev pub first_match : Schema → Option Part → Option Part → Bool
first_match s None other = false
first_match s (Some part) None = false
first_match s (Some part) (Some other) = parts_match s [] [] part other

-- the heads of two queries, each of which has one kind of head, have the same kinds
unfoldable pub heads_match : Schema → Query → Query → Bool
heads_match s left right = first_match s (slice_get left.parts 0) (slice_get right.parts 0)

abbrev pub matched : Schema → Query → Query → Result Rule ReadQueryFault
matched s left right = if heads_match s left right then Ok (record { left = left; right = right }) else Err HeadDiffers

-- the left query, then the right one, without parameters, and then their heads
unfoldable pub rule_of : Schema → InclusionText → Result Rule ReadQueryFault
rule_of s text = do
  left ← query_of_words s [] text.left
  right ← query_of_words s [] text.right
  matched s left right

-- the rules from this number on
abbrev pub rules_from : Schema → ℕ → List InclusionText → Result (List Rule) DdlFault
rules_from s number [] = Ok []
rules_from s number (t ∷ ts) = widened (RuleFault number) (rule_of s t) >>= λ rule. (rules_from s (number + 1) ts >>= λ rules. Ok (rule ∷ rules))

unfoldable pub rules_of : Schema → List InclusionText → Result (List Rule) DdlFault
rules_of s texts = if nat_lt most_rules (length texts) then Err (TooMany Rules most_rules) else rules_from s 0 texts

abbrev pub and_rules : Schema → List Rule → Schema
and_rules s rules = record { tables = s.tables; rules = rules }

-- the schema of the tables, with these rules
unfoldable pub with_rules : Schema → List InclusionText → Result Schema DdlFault
with_rules s texts = rules_of s texts >>= λ rules. Ok (and_rules s rules)

-- ---- as relations

-- each query is what its words read as for the schema, without parameters
pub record IsRuleOf (s : Schema) (text : InclusionText) (rule : Rule) : Type 0 where
  pub left : query_of_words s [] text.left ≡ Ok rule.left
  pub right : query_of_words s [] text.right ≡ Ok rule.right

-- the fault of the left query, else that of the right one, else that the heads of the two differ in length or kinds
pub data Refuses (s : Schema) (text : InclusionText) : ReadQueryFault → Type 0 where
  left : {fault : ReadQueryFault} → query_of_words s [] text.left ≡ Err fault → Refuses s text fault
  right : {fault : ReadQueryFault} (query : Query) → query_of_words s [] text.left ≡ Ok query → query_of_words s [] text.right ≡ Err fault → Refuses s text fault
  heads : (rule : Rule) → IsRuleOf s text rule → ¬ RuleFits s rule → Refuses s text HeadDiffers
