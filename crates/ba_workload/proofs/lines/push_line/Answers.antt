use Rattle.std.proofs.Common.{codes, string_bytes}
use Rattle.ba_workload.proofs.LineLemmas.{two_pieces}
use Rattle.ba_workload.specs.Tables.{fields_of}
use Rattle.ba_workload.proofs.lines.push_line.Goals as goal

pub returns : goal.returns
returns c =
    two_pieces (string_bytes c.args.text.now) (string_bytes c.push_fields.new.text) (string_bytes c.push_str.new.self) (fields_of c.args.row.now) (codes "\n") c.in_ok-push_fields.ensures c.in_ok-push_str.ensures.bytes
