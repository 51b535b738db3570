use Rattle.std.specs.Prelude.{IfSome}
use Rattle.ba_model.specs.Meaning.{rows_of}
use Rattle.ba_eval.proofs.KeptLemmas.{HasTiedOrder}
use Rattle.ba_eval.proofs.kept.longest_front.Given as goal

-- the longest so far is an order of the table with ties
abbrev pub invariant-loop-order : goal.invariant-loop-order
invariant-loop-order l = IfSome l.longest (HasTiedOrder (rows_of l.search.rows.now l.table) l.ties)
