use Rattle.std.proofs.Common.{Contains, List, inl, subst, ℕ}
use Rattle.ba_outside.specs.MemFiles.{MemFilesSeen, NextFails}
use Rattle.ba_outside.proofs.mem_files.MemFilesFiles.read.Goals as goal

pub returns-then-is_listed-clause-faults_where : goal.returns-then-is_listed-clause-faults_where
returns-then-is_listed-clause-faults_where c =
    subst (λ (m : MemFilesSeen). NextFails m c.args.name.now) c.self.view_is
    (inl (subst (λ (numbers : List ℕ). Contains numbers c.self.inside.calls) c.deref.ensures.value (c.is_listed.ensures.0 c.if-is_listed.true)))
