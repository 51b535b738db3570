use Rattle.std.proofs.Common.{◌≡◌, replicate, true}
use Rattle.ba_general.proofs.dropping.Pass.keep_all.Given as goal

abbrev pub invariant-loop : goal.invariant-loop
invariant-loop l = (l.self.kept.items ≡ replicate l.counter true) × (l.self.atoms ≡ l.fn.self.atoms) × (l.self.ends ≡ l.fn.self.ends) × (l.self.pattern ≡ l.fn.self.pattern) × (l.self.steps ≡ l.fn.self.steps) × (l.self.last ≡ l.fn.self.last)
