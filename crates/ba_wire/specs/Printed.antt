-- What the printed lines say, and their bytes: compact JSON with its keys in byte order, and a line feed.
use Rattle.std.specs.Prelude.{◌≡◌, ℕ, List, [], ◌∷◌, ◌++◌, map, codes, true, Option, Some, None}
use Rattle.std.specs.Fmt.{decimal}
use Rattle.serde_json.specs.Data.{Data, Members, null, boolean, number, string, array, object, unsigned, no_members, member}
use Rattle.serde_json.specs.Find.{of_integer}
use Rattle.serde_json.specs.Read.{read as json_read}
use Rattle.serde_json.specs.View.{items_of}
use Rattle.serde_json.specs.Written.{compact_text}
use Rattle.ba_model.specs.declared.limits.Counted.{Counted}
use Rattle.ba_model.specs.declared.limits.Counted.TheVariants as what
use Rattle.ba_model.specs.declared.value.Value.{Value}
use Rattle.ba_model.specs.declared.value.Value.TheVariants as value
use Rattle.ba_refute.specs.declared.clause.Clause.{Clause}
use Rattle.ba_refute.specs.declared.clause.Clause.TheVariants.{Value as ValueClause, ConformOne, ConformTwo, Within, Shown, Asked, Absent}
use Rattle.ba_script.specs.declared.fault.LineFault.{LineFault}
use Rattle.ba_script.specs.declared.fault.LineFault.TheVariants as line_fault
use Rattle.ba_sql_query.specs.declared.fault.ReadQueryFault.{ReadQueryFault}
use Rattle.ba_sql_query.specs.declared.fault.ReadQueryFault.TheVariants as query
use Rattle.ba_wire.specs.Names.{◌␣◌, fault_name, fault_words, step_fault_text}
use Rattle.ba_wire.specs.declared.line.By.{By}
use Rattle.ba_wire.specs.declared.line.By.TheVariants as by
use Rattle.ba_wire.specs.declared.line.Block.{Block}
use Rattle.ba_wire.specs.declared.line.Block.TheVariants as blocked
use Rattle.ba_wire.specs.declared.line.Line.{Line}
use Rattle.ba_wire.specs.declared.line.Line.TheVariants as lines
use Rattle.ba_wire.specs.declared.summary.Summary.{Summary}
use Rattle.ba_wire.specs.declared.fault.Reason.{Reason}
use Rattle.ba_wire.specs.declared.fault.Reason.TheVariants as reason
use Rattle.ba_wire.specs.declared.fault.Fault.{Fault}
use Rattle.ba_wire.specs.declared.fault.Fault.TheVariants as fault
use Rattle.ba_wire.specs.declared.fault.TemplateFault.{TemplateFault}
use Rattle.ba_wire.specs.declared.fault.TemplateFault.TheVariants as template

-- What a line says, apart from where that lies in memory.
pub data Printed : Type 0 where
  -- the request begins at this line, over this version of the tables
  begin : (request : List ℕ) (line version : ℕ) → Printed
  -- the request ends at this line
  end : (request : List ℕ) (line : ℕ) → Printed
  -- the table set is published at this line, as this version of the tables
  publish : (line : ℕ) (set : List ℕ) (version : ℕ) → Printed
  answer : By → (line : ℕ) (request : List ℕ) (rows : List (List Value)) (version : ℕ) → Printed
  block : Block → (line : ℕ) (request : List ℕ) (version : ℕ) → Printed
  -- the request may read the key: what each of the key's queries rests on
  read : List By → (key : List ℕ) (line : ℕ) (request : List ℕ) (version : ℕ) → Printed
  -- it may not, for the key's query of this number
  read_block : Block → (key : List ℕ) (line query : ℕ) (request : List ℕ) (version : ℕ) → Printed
  unread : (line : ℕ) (request : List ℕ) → ReadQueryFault → (version : ℕ) → Printed
  -- the line found no memory
  memory : (line : ℕ) → Printed

abbrev pub printed : Line → Printed
printed (lines.Begin request line version) = begin request.now line version
printed (lines.End request line) = end request.now line
printed (lines.Publish line set version) = publish line set.now version
printed (lines.Answer by line request rows version) = answer by line request.now rows.now version
printed (lines.Block blocked line request version) = block blocked line request.now version
printed (lines.Read by key line request version) = read by.now key.now line request.now version
printed (lines.ReadBlock blocked key line query request version) = read_block blocked key.now line query request.now version
printed (lines.Unread line request fault version) = unread line request.now fault.now version
printed (lines.Memory line) = memory line

abbrev pub by_name : By → List ℕ
by_name by.Cover = codes "cover"
by_name by.Template = codes "template"
by_name by.Proof = codes "proof"

abbrev pub block_name : Block → List ℕ
block_name blocked.Refuted = codes "refuted"
block_name (blocked.Spent steps) = codes "spent"
block_name (blocked.Stuck clause) = codes "stuck"

abbrev pub clause_name : Clause → List ℕ
clause_name ValueClause = codes "value"
clause_name ConformOne = codes "conform_one"
clause_name ConformTwo = codes "conform_two"
clause_name Within = codes "within"
clause_name Shown = codes "shown"
clause_name Asked = codes "asked"
clause_name Absent = codes "absent"

-- what isn't supported, if that is the fault
abbrev pub unsupported_in : ReadQueryFault → Option (List ℕ)
unsupported_in (query.Unsupported word) = Some word
unsupported_in (query.Lex it) = None
unsupported_in query.Syntax = None
unsupported_in query.UnknownTable = None
unsupported_in query.UnknownColumn = None
unsupported_in query.Ambiguous = None
unsupported_in query.UnknownParam = None
unsupported_in query.KindDiffers = None
unsupported_in query.OrderOnText = None
unsupported_in query.HeadDiffers = None
unsupported_in query.TooMany = None

abbrev pub line_name : LineFault → List ℕ
line_name line_fault.Json = codes "json"
line_name line_fault.Shape = codes "shape"
line_name line_fault.Begun = codes "begun"
line_name line_fault.Unbegun = codes "unbegun"
line_name line_fault.Key = codes "key"
line_name line_fault.Args = codes "args"
line_name line_fault.Context = codes "context"

-- NULL is null, a whole number that number, a text that string
abbrev pub value_json : Value → Data
value_json value.Null = null
value_json (value.Int n) = number (of_integer n)
value_json (value.Text s) = string s

abbrev pub row_json : List Value → Data
row_json row = array (items_of (map value_json row))

-- a row as compact JSON
abbrev pub row_words : List Value → List ℕ
row_words row = compact_text (row_json row)

-- why a line of a template file is none
unfoldable pub template_fault_text : TemplateFault → List ℕ
template_fault_text template.Json = codes "json"
template_fault_text (template.Field name) = codes "field" ␣ name
template_fault_text (template.NotShown step why) = codes "fault" ␣ step_fault_text why ␣ codes "step" ␣ decimal step
template_fault_text (template.StillOpen branches) = codes "open" ␣ decimal branches

-- numbers in decimal
unfoldable pub reason_text : Reason → List ℕ
reason_text (reason.Text it) = fault_words it
reason_text reason.DuplicateTable = codes "duplicate_table"
reason_text reason.DuplicateColumn = codes "duplicate_column"
reason_text reason.WidthDiffers = codes "width_differs"
reason_text reason.EmptyKey = codes "empty_key"
reason_text (reason.Rule rule it) = codes "rule" ␣ decimal rule ␣ fault_words it
reason_text (reason.DuplicateParam name) = codes "duplicate_param" ␣ name
reason_text (reason.DuplicateView name) = codes "duplicate_view" ␣ name
reason_text (reason.View name it) = codes "view" ␣ name ␣ fault_words it
reason_text (reason.DuplicateKey name) = codes "duplicate_key" ␣ name
reason_text (reason.CacheKey name it) = codes "cache_key" ␣ name ␣ fault_words it
reason_text reason.Header = codes "header"
reason_text (reason.Width row) = codes "width" ␣ decimal row
reason_text (reason.Utf8 row) = codes "utf8" ␣ decimal row
reason_text (reason.Number row column) = codes "number" ␣ decimal row ␣ decimal column
reason_text (reason.Key key first second) = codes "key" ␣ decimal key ␣ codes "rows" ␣ decimal first ␣ decimal second
reason_text (reason.Link link row) = codes "link" ␣ decimal link ␣ codes "row" ␣ decimal row
reason_text (reason.RuleRow rule row) = codes "rule" ␣ decimal rule ␣ codes "row" ␣ row_words row
reason_text (reason.Line line why) = codes "line" ␣ decimal line ␣ line_name why
reason_text reason.Json = codes "json"
reason_text (reason.Field name) = codes "field" ␣ name
reason_text (reason.Template line why) = codes "line" ␣ decimal line ␣ template_fault_text why
reason_text (reason.Unnameable name) = codes "unnameable" ␣ name
reason_text (reason.Alike one other) = codes "alike" ␣ one ␣ other

abbrev pub what_name : Counted → List ℕ
what_name what.TextBytes = codes "bytes"
what_name what.FileBytes = codes "bytes"
what_name what.Tables = codes "tables"
what_name what.Columns = codes "columns"
what_name what.Keys = codes "keys"
what_name what.Links = codes "links"
what_name what.Rules = codes "rules"
what_name what.Views = codes "views"
what_name what.Params = codes "params"
what_name what.CacheKeys = codes "cache_keys"
what_name what.KeyQueries = codes "key_queries"
what_name what.Rows = codes "rows"
what_name what.Lines = codes "lines"
what_name what.Requests = codes "requests"
what_name what.Asks = codes "asks"
what_name what.Steps = codes "steps"
what_name what.Templates = codes "templates"

abbrev pub count : ℕ → Data
count n = number (unsigned n)

abbrev pub rows_json : List (List Value) → Data
rows_json rows = array (items_of (map row_json rows))

-- rows that are printed alike are the same: NULL, numbers and texts are told apart
abbrev pub RowsAreTold : Type 0
RowsAreTold = (xs ys : List (List Value)) → rows_json xs ≡ rows_json ys → xs ≡ ys

-- the object of an answer
abbrev pub answer_json : List ℕ → ℕ → List ℕ → List (List Value) → ℕ → Data
answer_json by line request rows version =
    object (member (codes "by") (string by)
    (member (codes "line") (count line)
    (member (codes "request") (string request)
    (member (codes "rows") (rows_json rows)
    (member (codes "version") (count version) no_members)))))

-- what isn't supported has a key of its own
abbrev pub word_member : Option (List ℕ) → Members
word_member None = no_members
word_member (Some word) = member (codes "word") (string word) no_members

-- what each of a key's queries rests on, in order
abbrev pub names_json : List By → Data
names_json bys = array (items_of (map (λ by. string (by_name by)) bys))

-- the object of a read that is allowed
unfoldable pub read_json : List By → List ℕ → ℕ → List ℕ → ℕ → Data
read_json bys key line request version =
    object (member (codes "by") (names_json bys)
    (member (codes "key") (string key)
    (member (codes "line") (count line)
    (member (codes "read") (string request)
    (member (codes "version") (count version) no_members)))))

unfoldable pub json_of : Printed → Data
json_of (begin request line version) =
    object (member (codes "begin") (string request)
    (member (codes "line") (count line)
    (member (codes "version") (count version) no_members)))
json_of (end request line) =
    object (member (codes "end") (string request)
    (member (codes "line") (count line) no_members))
json_of (publish line set version) =
    object (member (codes "line") (count line)
    (member (codes "publish") (string set)
    (member (codes "version") (count version) no_members)))
json_of (answer by line request rows version) = answer_json (by_name by) line request rows version
json_of (block blocked.Refuted line request version) =
    object (member (codes "blocked") (string (block_name blocked.Refuted))
    (member (codes "line") (count line)
    (member (codes "request") (string request)
    (member (codes "version") (count version) no_members))))
json_of (block (blocked.Spent steps) line request version) =
    object (member (codes "blocked") (string (block_name (blocked.Spent steps)))
    (member (codes "line") (count line)
    (member (codes "request") (string request)
    (member (codes "steps") (count steps)
    (member (codes "version") (count version) no_members)))))
json_of (block (blocked.Stuck clause) line request version) =
    object (member (codes "blocked") (string (block_name (blocked.Stuck clause)))
    (member (codes "clause") (string (clause_name clause))
    (member (codes "line") (count line)
    (member (codes "request") (string request)
    (member (codes "version") (count version) no_members)))))
json_of (read bys key line request version) = read_json bys key line request version
json_of (read_block blocked.Refuted key line query request version) =
    object (member (codes "blocked") (string (block_name blocked.Refuted))
    (member (codes "key") (string key)
    (member (codes "line") (count line)
    (member (codes "query") (count query)
    (member (codes "read") (string request)
    (member (codes "version") (count version) no_members))))))
json_of (read_block (blocked.Spent steps) key line query request version) =
    object (member (codes "blocked") (string (block_name (blocked.Spent steps)))
    (member (codes "key") (string key)
    (member (codes "line") (count line)
    (member (codes "query") (count query)
    (member (codes "read") (string request)
    (member (codes "steps") (count steps)
    (member (codes "version") (count version) no_members)))))))
json_of (read_block (blocked.Stuck clause) key line query request version) =
    object (member (codes "blocked") (string (block_name (blocked.Stuck clause)))
    (member (codes "clause") (string (clause_name clause))
    (member (codes "key") (string key)
    (member (codes "line") (count line)
    (member (codes "query") (count query)
    (member (codes "read") (string request)
    (member (codes "version") (count version) no_members)))))))
json_of (unread line request fault version) =
    object (member (codes "line") (count line)
    (member (codes "request") (string request)
    (member (codes "unread") (string (fault_name fault))
    (member (codes "version") (count version) (word_member (unsupported_in fault))))))
json_of (memory line) =
    object (member (codes "line") (count line)
    (member (codes "memory") (boolean true) no_members))

unfoldable pub summary_json : Summary → Data
summary_json s =
    object (member (codes "answered") (count s.answered)
    (member (codes "blocked") (count s.blocked)
    (member (codes "lines") (count s.lines)
    (member (codes "memory") (count s.memory)
    (member (codes "requests") (count s.requests)
    (member (codes "rows") (count s.rows)
    (member (codes "unread") (count s.unread) no_members)))))))

-- each with the exit status of the program
unfoldable pub fault_json : Fault → Data
fault_json fault.Words =
    object (member (codes "fault") (string (codes "words"))
    (member (codes "status") (count 2)
    (member (codes "usage") (string (codes "blockaid run|check|gen|store|audit")) no_members)))
fault_json (fault.Input file reason) =
    object (member (codes "fault") (string (codes "input"))
    (member (codes "file") (string file)
    (member (codes "reason") (string (reason_text reason))
    (member (codes "status") (count 3) no_members))))
fault_json (fault.Read file) =
    object (member (codes "fault") (string (codes "read"))
    (member (codes "file") (string file)
    (member (codes "status") (count 4) no_members)))
fault_json (fault.Limit what limit) =
    object (member (codes "fault") (string (codes "limit"))
    (member (codes "limit") (count limit)
    (member (codes "status") (count 7)
    (member (codes "what") (string (what_name what)) no_members))))

-- a value's line
abbrev pub json_line : Data → List ℕ
json_line d = compact_text d ++ 10 ∷ []

abbrev pub line_bytes : Printed → List ℕ
line_bytes p = json_line (json_of p)

abbrev pub summary_bytes : Summary → List ℕ
summary_bytes s = json_line (summary_json s)

abbrev pub fault_bytes : Fault → List ℕ
fault_bytes f = json_line (fault_json f)

-- the bytes are one line, whose JSON reads as the value
pub record ReadsBack (bytes : List ℕ) (d : Data) : Type 0 where
  pub text : List ℕ
  pub ends : bytes ≡ text ++ 10 ∷ []
  pub reads : json_read text ≡ Some d
