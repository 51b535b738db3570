use Rattle.ba_printed.proofs.BackLemmas.{line_json}
use Rattle.ba_printed.proofs.laws.lines_are_json.Goals as goal

pub returns : goal.returns
returns c = line_json
