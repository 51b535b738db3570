use Rattle.std.proofs.Common.{◌≡◌, ℕ, ◌<◌, Some, slice_get}
use Rattle.ba_facts.specs.Matches.{IsAnswered, row_of}
use Rattle.ba_model.specs.declared.query.Part.{Part}
use Rattle.ba_kernel.proofs.news.given.is_given.Given as goal

-- no part so far gives the row
abbrev pub invariant-loop-part : goal.invariant-loop-part
invariant-loop-part l =
    (k : ℕ) (other : Part) → k < l.part-index → slice_get l.parts k ≡ Some other →
    IsAnswered l.branch l.side other (row_of l.branch l.facts l.operands) → ⊥
