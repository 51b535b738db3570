use Rattle.std.proofs.Common.{◌≡◌, ◌++◌, take, drop, map, cond, eqb}
use Rattle.ba_classes.proofs.classes.relabel.Given as goal

-- those before the place are relabelled
abbrev pub invariant-loop-place : goal.invariant-loop-place
invariant-loop-place l = l.labels ≡ map (λ label. cond (eqb label l.from) l.to label) (take l.place l.fn.labels) ++ drop l.place l.fn.labels
