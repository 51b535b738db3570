use Rattle.std.proofs.Common.{None}
use Rattle.ba_script.proofs.TrackingLemmas.{chosen}
use Rattle.ba_live.specs.Books.{open_in}
use Rattle.ba_live.proofs.books.Requests.close.Goals as goal

pub returns-clause-closes : goal.returns-clause-closes
returns-clause-closes c = record {
  each = λ other. chosen c.args.name.now other None (open_in c.args.self.now other) _ (c.remove.ensures.updates.0 other);
}
