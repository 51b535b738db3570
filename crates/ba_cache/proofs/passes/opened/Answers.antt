use Rattle.std.proofs.Common.{◌≡◌}
use Rattle.std.proofs.lemmas.Result.{IfOk-weaker}
use Rattle.ba_turn.specs.Knowing.{opening_known}
use Rattle.ba_turn.specs.Passes.{known_by, start_of}
use Rattle.ba_cache.specs.Passes.{IsOpened}
use Rattle.ba_cache.proofs.passes.opened.Goals as goal

pub returns-clause-known : goal.returns-clause-known
returns-clause-known c = IfOk-weaker c.new-2.result (λ r. known_by r.1 ≡ opening_known (start_of r.0) c.args.allowance) (λ r. IsOpened c.args.allowance (known_by r.1)) (λ r is. record { start = start_of r.0; known = is }) c.new-2.ensures.known
