-- The faults of a schema's inclusion rules, which are told after those of its tables.
use Rattle.std.specs.Prelude.{◌≡◌, ℕ, ◌<◌, ◌≤◌, All, [], Some, length, slice_get, take}
use Rattle.ba_model.specs.Fit.{IsQuery}
use Rattle.ba_model.specs.Limits.{most_rules}
use Rattle.ba_model.specs.QueryFaults.{IsFirstFault}
use Rattle.ba_model.specs.SchemaFaults.{AreTables, IsFirstFault as IsTablesFault}
use Rattle.ba_model.specs.declared.check_query.QueryFault.{QueryFault}
use Rattle.ba_model.specs.declared.check_query.QueryFault.TheVariants.{HeadDiffers}
use Rattle.ba_model.specs.declared.check_schema.SchemaDraft.{SchemaDraft}
use Rattle.ba_model.specs.declared.check_schema.SchemaFault.{SchemaFault}
use Rattle.ba_model.specs.declared.check_schema.SchemaFault.TheVariants as faults
use Rattle.ba_model.specs.declared.limits.Counted.TheVariants.{Rules}
use Rattle.ba_model.specs.declared.schema.Rule.{Rule}
use Rattle.ba_model.specs.declared.schema.Schema.{Schema}

-- a rule's queries fit the schema, without parameters and variables, are within the limits, and
-- have the same kinds
pub record RuleFits (s : Schema) (rule : Rule) : Type 0 where
  pub left : IsQuery s [] [] rule.left
  pub right : IsQuery s [] [] rule.right
  pub kinds : right.fits.kinds ≡ left.fits.kinds

-- the first fault of the left query, else that of the right one, else that the heads of the two
-- differ in length or kinds
pub data IsRuleFault (s : Schema) (rule : Rule) : QueryFault → Type 0 where
  left : {fault : QueryFault} → IsFirstFault fault s [] [] rule.left.parts → IsRuleFault s rule fault
  right : {fault : QueryFault} → IsQuery s [] [] rule.left →
      IsFirstFault fault s [] [] rule.right.parts → IsRuleFault s rule fault
  heads : IsQuery s [] [] rule.left → IsQuery s [] [] rule.right → ¬ (RuleFits s rule) →
      IsRuleFault s rule HeadDiffers

-- the schema's rules are within the limit, and each of them fits
pub record AreRules (s : Schema) : Type 0 where
  pub few : length s.rules ≤ most_rules
  pub fit : All (RuleFits s) s.rules

-- well formed and within the limits
pub record IsSchema (s : Schema) : Type 0 where
  pub tables : AreTables s.tables
  pub rules : AreRules s

-- the draft, taken for a schema
abbrev pub drafted : SchemaDraft → Schema
drafted draft = record { tables = draft.tables; rules = draft.rules }

-- the rule of the number is the first that doesn't fit, and has this fault
pub record IsFirstUnfit (s : Schema) (number : ℕ) (fault : QueryFault) : Type 0 where
  pub rule : Rule
  pub there : slice_get s.rules number ≡ Some rule
  pub is : IsRuleFault s rule fault
  pub before : All (RuleFits s) (take number s.rules)

-- the first fault of the tables, else that there are too many rules, else that of the first rule
-- that doesn't fit
pub data IsSchemaFault (s : Schema) : SchemaFault → Type 0 where
  of_tables : {fault : SchemaFault} → IsTablesFault fault s.tables → IsSchemaFault s fault
  too_many : AreTables s.tables → most_rules < length s.rules →
      IsSchemaFault s (faults.TooMany Rules most_rules)
  of_rule : {number : ℕ} {fault : QueryFault} → AreTables s.tables →
      length s.rules ≤ most_rules → IsFirstUnfit s number fault →
      IsSchemaFault s (faults.Rule number fault)
