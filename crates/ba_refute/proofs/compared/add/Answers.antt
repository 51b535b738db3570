use Rattle.std.proofs.lemmas.Cmp.{nat_cmp_total}
use Rattle.std.proofs.lemmas.Map.Lookups.{exact_unsigned}
use Rattle.ba_refute.proofs.UsedLemmas.{with_key}
use Rattle.ba_refute.proofs.compared.add.Goals as goal

pub returns : goal.returns
returns c = with_key nat_cmp_total exact_unsigned c.args.found.now c.insert.new.self c.args.unknown c.in_ok-insert.ensures.updates.0
