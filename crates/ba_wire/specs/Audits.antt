-- What the line of an audit says, and its bytes.
use Rattle.std.specs.Prelude.{ℕ, List, codes, true, false, Result, Ok, Err}
use Rattle.serde_json.specs.Data.{Data, boolean, string, object, no_members, member}
use Rattle.ba_wire.specs.Printed.{count, json_line}
use Rattle.ba_wire.specs.declared.audit.AuditFault.{AuditFault}
use Rattle.ba_wire.specs.declared.audit.AuditFault.TheVariants.{At}
use Rattle.ba_wire.specs.declared.audit.AuditReason.{AuditReason}
use Rattle.ba_wire.specs.declared.audit.AuditReason.TheVariants.{Count, Json, Shape, Kind, Version, Unread, By, Covered, Rows, Proof, Pair, Summary}
use Rattle.ba_wire.specs.declared.audit.Audited.{Audited}

-- the name of a test
unfoldable pub reason_name : AuditReason → List ℕ
reason_name Count = codes "count"
reason_name Json = codes "json"
reason_name Shape = codes "shape"
reason_name Kind = codes "kind"
reason_name Version = codes "version"
reason_name Unread = codes "unread"
reason_name By = codes "by"
reason_name Covered = codes "covered"
reason_name Rows = codes "rows"
reason_name Proof = codes "proof"
reason_name Pair = codes "pair"
reason_name Summary = codes "summary"

-- the output is accepted, or its first failing line is told with its first failing test
unfoldable pub finding_json : Result Audited AuditFault → Data
finding_json (Ok it) =
    object (member (codes "audited") (boolean true)
    (member (codes "lines") (count it.lines)
    (member (codes "unaudited") (count it.unaudited) no_members)))
finding_json (Err (At line reason)) =
    object (member (codes "audited") (boolean false)
    (member (codes "line") (count line)
    (member (codes "reason") (string (reason_name reason)) no_members)))

abbrev pub finding_bytes : Result Audited AuditFault → List ℕ
finding_bytes it = json_line (finding_json it)
