use Rattle.std.proofs.Common.{Some}
use Rattle.ba_script.proofs.TrackingLemmas.{chosen}
use Rattle.ba_live.specs.Books.{open_in}
use Rattle.ba_live.proofs.books.Requests.open.Goals as goal

pub returns-clause-ok : goal.returns-clause-ok
returns-clause-ok c = record {
  each = λ other. chosen c.args.name other (Some c.args.request) (open_in c.args.self.now other) _ (c.in_ok-insert.ensures.updates.0 other);
}
