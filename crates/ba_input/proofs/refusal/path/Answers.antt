use Rattle.std.proofs.Common.{rules, append_assoc}
use Rattle.ba_input.specs.Path.{path_of}
use Rattle.ba_input.proofs.refusal.path.Goals as goal

pub returns : goal.returns
unfolding path_of
returns c = search (rules, append_assoc)
