-- What the lines of a decision service say, and their bytes: compact JSON with its keys in byte
-- order, and a line feed.
use Rattle.std.specs.Prelude.{ℕ, List, codes}
use Rattle.serde_json.specs.Data.{Data, string, object, no_members, member}
use Rattle.ba_sql_query.specs.declared.fault.ReadQueryFault.{ReadQueryFault}
use Rattle.ba_wire.specs.Names.{fault_name}
use Rattle.ba_wire.specs.Printed.{block_name, by_name, clause_name, count, json_line, names_json, unsupported_in, word_member}
use Rattle.ba_wire.specs.declared.line.Block.{Block}
use Rattle.ba_wire.specs.declared.line.Block.TheVariants.{Refuted, Spent, Stuck}
use Rattle.ba_wire.specs.declared.line.By.{By}
use Rattle.ba_wire.specs.declared.said.SaidLine.{SaidLine}
use Rattle.ba_wire.specs.declared.said.SaidLine.TheVariants as lines

-- what a line says, apart from where that lies in memory
pub data Said : Type 0 where
  -- the request begins at this line
  begun : (request : List ℕ) (line : ℕ) → Said
  -- the question of this line may be put to the database, by this text
  allowed : By → (line : ℕ) (request send : List ℕ) → Said
  blocked : Block → (line : ℕ) (request : List ℕ) → Said
  -- the request may read the key: what each of the key's queries rests on
  allowed_read : List By → (key : List ℕ) (line : ℕ) (request : List ℕ) → Said
  -- it may not, for the key's query of this number
  blocked_read : Block → (key : List ℕ) (line query : ℕ) (request : List ℕ) → Said
  unread : (line : ℕ) (request : List ℕ) → ReadQueryFault → Said
  -- at this line the rows of the question of that line are recorded
  told : (line asked : ℕ) → Said
  -- the line changes nothing
  faulty : (reason : List ℕ) (line : ℕ) → Said

abbrev pub said : SaidLine → Said
said (lines.Begun request line) = begun request.now line
said (lines.Allowed by line request send) = allowed by line request.now send.now
said (lines.Blocked why line request) = blocked why line request.now
said (lines.AllowedRead by key line request) = allowed_read by.now key.now line request.now
said (lines.BlockedRead why key line query request) =
    blocked_read why key.now line query request.now
said (lines.Unread line request fault) = unread line request.now fault.now
said (lines.Told line asked) = told line asked
said (lines.Faulty reason line) = faulty reason.now line

unfoldable pub said_json : Said → Data
said_json (begun request line) =
    object (member (codes "begin") (string request)
    (member (codes "line") (count line) no_members))
said_json (allowed by line request send) =
    object (member (codes "allowed") (string (by_name by))
    (member (codes "line") (count line)
    (member (codes "request") (string request)
    (member (codes "send") (string send) no_members))))
said_json (blocked Refuted line request) =
    object (member (codes "blocked") (string (block_name Refuted))
    (member (codes "line") (count line)
    (member (codes "request") (string request) no_members)))
said_json (blocked (Spent steps) line request) =
    object (member (codes "blocked") (string (block_name (Spent steps)))
    (member (codes "line") (count line)
    (member (codes "request") (string request)
    (member (codes "steps") (count steps) no_members))))
said_json (blocked (Stuck clause) line request) =
    object (member (codes "blocked") (string (block_name (Stuck clause)))
    (member (codes "clause") (string (clause_name clause))
    (member (codes "line") (count line)
    (member (codes "request") (string request) no_members))))
said_json (allowed_read bys key line request) =
    object (member (codes "allowed") (names_json bys)
    (member (codes "key") (string key)
    (member (codes "line") (count line)
    (member (codes "read") (string request) no_members))))
said_json (blocked_read Refuted key line query request) =
    object (member (codes "blocked") (string (block_name Refuted))
    (member (codes "key") (string key)
    (member (codes "line") (count line)
    (member (codes "query") (count query)
    (member (codes "read") (string request) no_members)))))
said_json (blocked_read (Spent steps) key line query request) =
    object (member (codes "blocked") (string (block_name (Spent steps)))
    (member (codes "key") (string key)
    (member (codes "line") (count line)
    (member (codes "query") (count query)
    (member (codes "read") (string request)
    (member (codes "steps") (count steps) no_members))))))
said_json (blocked_read (Stuck clause) key line query request) =
    object (member (codes "blocked") (string (block_name (Stuck clause)))
    (member (codes "clause") (string (clause_name clause))
    (member (codes "key") (string key)
    (member (codes "line") (count line)
    (member (codes "query") (count query)
    (member (codes "read") (string request) no_members))))))
said_json (unread line request fault) =
    object (member (codes "line") (count line)
    (member (codes "request") (string request)
    (member (codes "unread") (string (fault_name fault)) (word_member (unsupported_in fault)))))
said_json (told line asked) =
    object (member (codes "line") (count line)
    (member (codes "told") (count asked) no_members))
said_json (faulty reason line) =
    object (member (codes "fault") (string reason)
    (member (codes "line") (count line) no_members))

abbrev pub said_bytes : Said → List ℕ
said_bytes it = json_line (said_json it)
