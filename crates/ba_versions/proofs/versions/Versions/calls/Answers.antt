use Rattle.std.proofs.Math.Logic.{∥∥₁_map}
use Rattle.ba_versions.proofs.Legal.{all_conform}
use Rattle.ba_versions.specs.Reads.{opening_of}
use Rattle.ba_versions.proofs.versions.Versions.calls.Goals as goal

pub returns-clause-conform : goal.returns-clause-conform
returns-clause-conform c = ∥∥₁_map c.args.self.now.legal (λ it. all_conform (opening_of c.args.self.now) it)
