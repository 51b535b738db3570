use Rattle.std.proofs.Common.{◌≡◌, ◌++◌, ◌-◌, replicate, take, drop}
use Rattle.ba_general.proofs.dropping.Pass.set.Given as goal

abbrev pub invariant-loop-n : goal.invariant-loop-n
invariant-loop-n l = (l.self.kept.items ≡ take l.first l.fn.self.kept.items ++ replicate (l.n - l.first) l.kept ++ drop l.n l.fn.self.kept.items) × (l.self.atoms ≡ l.fn.self.atoms) × (l.self.pattern ≡ l.fn.self.pattern) × (l.self.steps ≡ l.fn.self.steps) × (l.self.ends ≡ l.fn.self.ends) × (l.self.last ≡ l.fn.self.last)
