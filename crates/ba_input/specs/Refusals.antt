-- How the faults of files are told.
use Rattle.std.specs.Prelude.{ℕ, List, [], option_map, slice_get, unwrap_or}
use Rattle.ba_lex.specs.declared.token.LexFault.{LexFault}
use Rattle.ba_lex.specs.declared.token.LexFault.TheVariants as lex
use Rattle.ba_model.specs.declared.check_query.QueryFault.{QueryFault}
use Rattle.ba_model.specs.declared.check_query.QueryFault.TheVariants as checked
use Rattle.ba_model.specs.declared.check_schema.SchemaFault.{SchemaFault}
use Rattle.ba_model.specs.declared.check_schema.SchemaFault.TheVariants as tables
use Rattle.ba_model.specs.declared.schema.Schema.{Schema}
use Rattle.ba_model.specs.Limits.{most_steps, most_text_bytes}
use Rattle.ba_model.specs.declared.limits.Counted.TheVariants as what
use Rattle.ba_policy.specs.declared.error.PolicyFault.{PolicyFault}
use Rattle.ba_policy.specs.declared.error.PolicyFault.TheVariants as policy
use Rattle.ba_proof.specs.Shapes.{field_name}
use Rattle.ba_proof.specs.declared.fault.ProofFault.{ProofFault}
use Rattle.ba_proof.specs.declared.fault.ProofFault.TheVariants as proof
use Rattle.ba_script.specs.declared.fault.ScriptFault.{ScriptFault}
use Rattle.ba_script.specs.declared.fault.ScriptFault.TheVariants.{BadLine, TooMany}
use Rattle.ba_sql_ddl.specs.declared.fault.DdlFault.{DdlFault}
use Rattle.ba_sql_ddl.specs.declared.fault.DdlFault.TheVariants as ddl
use Rattle.ba_sql_query.specs.declared.fault.ReadQueryFault.{ReadQueryFault}
use Rattle.ba_sql_query.specs.declared.fault.ReadQueryFault.TheVariants as query
use Rattle.ba_store.specs.Shapes.{field_name as template_field_name}
use Rattle.ba_store.specs.declared.fault.StoreFault.{StoreFault}
use Rattle.ba_store.specs.declared.fault.StoreFault.TheVariants as store
use Rattle.ba_tables.specs.declared.broken.TablesFault.{TablesFault}
use Rattle.ba_tables.specs.declared.broken.TablesFault.TheVariants.{KeyBroken, LinkBroken, RuleBroken}
use Rattle.ba_tables.specs.declared.fault.TableFault.{TableFault}
use Rattle.ba_tables.specs.declared.fault.TableFault.TheVariants as table
use Rattle.ba_target.specs.declared.names.Misnamed.{Misnamed}
use Rattle.ba_target.specs.declared.names.Misnamed.TheVariants as misnamed
use Rattle.ba_input.specs.Path.{path_of}
use Rattle.ba_wire.specs.declared.fault.Fault.{Fault}
use Rattle.ba_wire.specs.declared.fault.Fault.TheVariants.{Input, Limit}
use Rattle.ba_wire.specs.declared.fault.Reason.TheVariants as reason
use Rattle.ba_wire.specs.declared.fault.TemplateFault.{TemplateFault}
use Rattle.ba_wire.specs.declared.fault.TemplateFault.TheVariants as template

-- a fault that query texts have too
abbrev pub text_fault : List ℕ → ReadQueryFault → Fault
text_fault file fault = Input file (reason.Text fault)

abbrev pub lex_fault : List ℕ → LexFault → Fault
lex_fault file lex.TooLong = Limit what.TextBytes most_text_bytes
lex_fault file lex.BadByte = text_fault file (query.Lex lex.BadByte)
lex_fault file lex.OpenQuote = text_fault file (query.Lex lex.OpenQuote)
lex_fault file lex.NumberTooLarge = text_fault file (query.Lex lex.NumberTooLarge)

-- ---- the names of the schema, for a database

abbrev pub names_refusal : List ℕ → Misnamed → Fault
names_refusal file (misnamed.Unnameable name) = Input file (reason.Unnameable name)
names_refusal file (misnamed.Alike one other) = Input file (reason.Alike one other)

-- ---- the schema

-- a fault of a checked query, by the name that it has where a text is read
abbrev pub read_fault : QueryFault → ReadQueryFault
read_fault checked.BadTable = query.UnknownTable
read_fault checked.BadColumn = query.UnknownColumn
read_fault checked.KindDiffers = query.KindDiffers
read_fault checked.OrderOnText = query.OrderOnText
read_fault checked.HeadDiffers = query.HeadDiffers
read_fault checked.UnknownParam = query.UnknownParam
read_fault checked.TooMany = query.TooMany

abbrev pub schema_fault : List ℕ → SchemaFault → Fault
schema_fault file tables.DuplicateTable = Input file reason.DuplicateTable
schema_fault file tables.DuplicateColumn = Input file reason.DuplicateColumn
schema_fault file tables.UnknownTable = text_fault file query.UnknownTable
schema_fault file tables.UnknownColumn = text_fault file query.UnknownColumn
schema_fault file tables.WidthDiffers = Input file reason.WidthDiffers
schema_fault file tables.KindDiffers = text_fault file query.KindDiffers
schema_fault file tables.EmptyKey = Input file reason.EmptyKey
schema_fault file (tables.TooMany it limit) = Limit it limit
schema_fault file (tables.Rule rule fault) = Input file (reason.Rule rule (read_fault fault))

unfoldable pub ddl_refusal : List ℕ → DdlFault → Fault
ddl_refusal file (ddl.Lex fault) = lex_fault file fault
ddl_refusal file (ddl.Unsupported word) = text_fault file (query.Unsupported word)
ddl_refusal file ddl.Syntax = text_fault file query.Syntax
ddl_refusal file (ddl.Schema fault) = schema_fault file fault
ddl_refusal file (ddl.TooMany it limit) = Limit it limit
ddl_refusal file (ddl.Rule rule fault) = Input file (reason.Rule rule fault)

-- ---- the policy

unfoldable pub policy_refusal : List ℕ → PolicyFault → Fault
policy_refusal file (policy.Lex fault) = lex_fault file fault
policy_refusal file policy.Syntax = text_fault file query.Syntax
policy_refusal file (policy.DuplicateParam name) = Input file (reason.DuplicateParam name)
policy_refusal file (policy.DuplicateView name) = Input file (reason.DuplicateView name)
policy_refusal file (policy.View name fault) = Input file (reason.View name fault)
policy_refusal file (policy.DuplicateKey name) = Input file (reason.DuplicateKey name)
policy_refusal file (policy.Key name fault) = Input file (reason.CacheKey name fault)
policy_refusal file (policy.TooMany it limit) = Limit it limit

-- ---- tables

unfoldable pub table_refusal : List ℕ → TableFault → Fault
table_refusal file table.BadHeader = Input file reason.Header
table_refusal file (table.BadWidth row) = Input file (reason.Width row)
table_refusal file (table.BadUtf8 row) = Input file (reason.Utf8 row)
table_refusal file (table.BadNumber row column) = Input file (reason.Number row column)
table_refusal file (table.TooMany limit) = Limit what.Rows limit

-- the file of a table in a set, by the table's number
abbrev pub file_of_table : List ℕ → Schema → ℕ → List ℕ
file_of_table set schema number = path_of set (unwrap_or (option_map (λ it. it.name) (slice_get schema.tables number)) [])

-- a broken key or link is told of its table's file, a broken rule of the set
unfoldable pub broken_refusal : List ℕ → Schema → TablesFault → Fault
broken_refusal set schema (KeyBroken it key first second) = Input (file_of_table set schema it) (reason.Key key first second)
broken_refusal set schema (LinkBroken it link row) = Input (file_of_table set schema it) (reason.Link link row)
broken_refusal set schema (RuleBroken rule row) = Input set (reason.RuleRow rule row)

-- ---- the script

unfoldable pub script_refusal : List ℕ → ScriptFault → Fault
script_refusal file (BadLine line fault) = Input file (reason.Line line fault)
script_refusal file (TooMany it limit) = Limit it limit

-- ---- the proof

unfoldable pub proof_refusal : List ℕ → ProofFault → Fault
proof_refusal file proof.BadJson = Input file reason.Json
proof_refusal file proof.TooLong = Limit what.Steps most_steps
proof_refusal file (proof.BadField field) = Input file (reason.Field (field_name field))

-- ---- templates

-- a line of a template file that is none, which is told of its number
abbrev pub template_fault : List ℕ → ℕ → TemplateFault → Fault
template_fault file line why = Input file (reason.Template line why)

unfoldable pub template_refusal : List ℕ → StoreFault → Fault
template_refusal file (store.TooMany limit) = Limit what.Templates limit
template_refusal file (store.Json line) = template_fault file line template.Json
template_refusal file (store.Field line field) = template_fault file line (template.Field (template_field_name field))
template_refusal file (store.NotShown line step fault) = template_fault file line (template.NotShown step fault)
template_refusal file (store.StillOpen line branches) = template_fault file line (template.StillOpen branches)
