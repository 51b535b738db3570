-- The line of a decision.
use Rattle.std.specs.Prelude.{ℕ, List, [], ◌∷◌, codes, length, map, Option, Some, None}
use Rattle.std.specs.Option.{option_map_or}
use Rattle.ba_judge.specs.declared.reading.Read.{Read}
use Rattle.ba_judge.specs.declared.reading.Read.TheVariants as reads
use Rattle.ba_judge.specs.declared.verdict.Allowed.{Allowed}
use Rattle.ba_judge.specs.declared.verdict.Allowed.TheVariants.{Whole, Parts, WeakerWhole, WeakerParts}
use Rattle.ba_judge.specs.declared.verdict.By.{By as Ground}
use Rattle.ba_judge.specs.declared.verdict.By.TheVariants as ground
use Rattle.ba_judge.specs.declared.verdict.Reason.{Reason}
use Rattle.ba_judge.specs.declared.verdict.Reason.TheVariants.{Refuted, Spent, Stuck, Contradiction}
use Rattle.ba_live.specs.declared.decision.Decision.{Decision}
use Rattle.ba_live.specs.declared.decision.Decision.TheVariants as decided
use Rattle.ba_live.specs.declared.decision.Refusal.{Refusal}
use Rattle.ba_live.specs.declared.decision.Refusal.TheVariants as refusal
use Rattle.ba_live.specs.declared.decision.Subject.{Subject}
use Rattle.ba_live.specs.declared.decision.Subject.TheVariants.{Request, Key, Line, Nobody}
use Rattle.ba_wire.specs.Printed.{end, line_bytes, memory}
use Rattle.ba_wire.specs.Said.{Said, allowed, allowed_read, begun, blocked, blocked_read, faulty, said_bytes, told, unread}
use Rattle.ba_wire.specs.declared.line.Block.{Block}
use Rattle.ba_wire.specs.declared.line.Block.TheVariants as block
use Rattle.ba_wire.specs.declared.line.By.{By}
use Rattle.ba_wire.specs.declared.line.By.TheVariants as by

abbrev pub reason_name : Refusal → List ℕ
reason_name refusal.Long = codes "long"
reason_name refusal.Json = codes "json"
reason_name refusal.Shape = codes "shape"
reason_name refusal.Begun = codes "begun"
reason_name refusal.Unbegun = codes "unbegun"
reason_name refusal.Closed = codes "closed"
reason_name refusal.Context = codes "context"
reason_name refusal.Requests = codes "requests"
reason_name refusal.Key = codes "key"
reason_name refusal.Args = codes "args"
reason_name refusal.Asks = codes "asks"
reason_name refusal.NullTest = codes "null_test"
reason_name refusal.ZeroByte = codes "zero_byte"
reason_name refusal.LongSend = codes "long_send"
reason_name refusal.Unasked = codes "unasked"
reason_name refusal.Rows = codes "rows"
reason_name refusal.Misfit = codes "misfit"

abbrev pub by_of : Ground → By
by_of (ground.Cover cover) = by.Cover
by_of (ground.Template template found) = by.Template
by_of (ground.Proof steps) = by.Proof

-- the later of two in the order of cover, template and proof
abbrev pub last_of : By → By → By
last_of by.Cover other = other
last_of by.Template by.Cover = by.Template
last_of by.Template by.Template = by.Template
last_of by.Template by.Proof = by.Proof
last_of by.Proof other = by.Proof

abbrev pub last_in : List Ground → By
last_in [] = by.Cover
last_in (it ∷ its) = last_of (by_of it) (last_in its)

-- what was needed last for the whole, or for a part
abbrev pub needed : Allowed → By
needed (Whole it) = by_of it
needed (Parts its) = last_in its
needed (WeakerWhole it) = by_of it
needed (WeakerParts its) = last_in its

-- what blocks the question; nothing where what was told contradicts itself, which is a fault
abbrev pub block_of : Reason → Option Block
block_of (Refuted pair) = Some block.Refuted
block_of (Spent steps) = Some (block.Spent (length steps))
block_of (Stuck leaf clause) = Some (block.Stuck clause)
block_of (Contradiction steps) = None

abbrev pub memory_bytes : ℕ → List ℕ
memory_bytes line = line_bytes (memory line)

abbrev pub faulty_bytes : ℕ → Refusal → List ℕ
faulty_bytes line why = said_bytes (faulty (reason_name why) line)

-- what was told contradicts itself
abbrev pub contradiction_bytes : ℕ → List ℕ
contradiction_bytes line = said_bytes (faulty (codes "contradiction") line)

-- the line of what blocks, or of the fault
abbrev pub blocked_bytes : ℕ → (Block → Said) → Reason → List ℕ
blocked_bytes line say it =
    option_map_or (λ why. said_bytes (say why)) (block_of it) (contradiction_bytes line)

-- of a decision on a request's event
abbrev pub named_bytes : ℕ → List ℕ → Decision → List ℕ
named_bytes line name decided.Begun = said_bytes (begun name line)
named_bytes line name (decided.Allowed it send) = said_bytes (allowed (needed it) line name send)
named_bytes line name (decided.Blocked it) = blocked_bytes line (λ why. blocked why line name) it
named_bytes line name (decided.Unread fault) = said_bytes (unread line name fault)
named_bytes line name (decided.Read it) = memory_bytes line
named_bytes line name decided.Told = memory_bytes line
named_bytes line name decided.Contradiction = contradiction_bytes line
named_bytes line name decided.Ended = line_bytes (end name line)
named_bytes line name decided.Memory = memory_bytes line
named_bytes line name (decided.Refused why) = faulty_bytes line why

-- of a read of a key of which the query of this number is blocked
abbrev pub read_blocked_bytes : ℕ → List ℕ → List ℕ → ℕ → Reason → List ℕ
read_blocked_bytes line name key query it =
    blocked_bytes line (λ why. blocked_read why key line query name) it

-- of a read of a key
abbrev pub read_bytes : ℕ → List ℕ → List ℕ → Read → List ℕ
read_bytes line name key (reads.Allowed queries by) =
    said_bytes (allowed_read (map needed by) key line name)
read_bytes line name key (reads.Blocked queries before why) =
    read_blocked_bytes line name key (length before) why

-- of a decision on what names no request
abbrev pub other_bytes : ℕ → Decision → List ℕ
other_bytes line (decided.Refused why) = faulty_bytes line why
other_bytes line decided.Contradiction = contradiction_bytes line
other_bytes line _ = memory_bytes line

-- of a decision on a read of a key
abbrev pub keyed_bytes : ℕ → List ℕ → List ℕ → Decision → List ℕ
keyed_bytes line name key (decided.Read it) = read_bytes line name key it
keyed_bytes line name key it = other_bytes line it

abbrev pub told_bytes : ℕ → ℕ → Decision → List ℕ
told_bytes line asked decided.Told = said_bytes (told line asked)
told_bytes line asked it = other_bytes line it

-- the line of the decision on the event of a line, which is about this
abbrev pub decision_bytes : ℕ → Subject → Decision → List ℕ
decision_bytes line (Request name) it = named_bytes line name it
decision_bytes line (Key name key) it = keyed_bytes line name key it
decision_bytes line (Line asked) it = told_bytes line asked it
decision_bytes line Nobody it = other_bytes line it
