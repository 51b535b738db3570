-- What the line of a check says, and its bytes.
use Rattle.std.specs.Prelude.{ℕ, List, codes, true, false}
use Rattle.serde_json.specs.Data.{Data, boolean, string, object, no_members, member}
use Rattle.ba_wire.specs.Names.{step_fault_text}
use Rattle.ba_wire.specs.Printed.{count, json_line}
use Rattle.ba_wire.specs.declared.verdict.Verdict.{Verdict}
use Rattle.ba_wire.specs.declared.verdict.Verdict.TheVariants.{Accepted, NotShown, StillOpen}

unfoldable pub verdict_json : Verdict → Data
verdict_json (Accepted steps) =
    object (member (codes "accepted") (boolean true)
    (member (codes "steps") (count steps) no_members))
verdict_json (NotShown step fault) =
    object (member (codes "accepted") (boolean false)
    (member (codes "fault") (string (step_fault_text fault))
    (member (codes "step") (count step) no_members)))
verdict_json (StillOpen branches) =
    object (member (codes "accepted") (boolean false)
    (member (codes "open") (count branches) no_members))

abbrev pub verdict_bytes : Verdict → List ℕ
verdict_bytes it = json_line (verdict_json it)
