use Rattle.std.proofs.Common.{◌≡◌, rules, ap, subst, sym}
use Rattle.std.proofs.lemmas.Cmp.{back_total}
use Rattle.std.proofs.lemmas.List.Sorted.{answers_always, ranks_by}
use Rattle.std.specs.Ordering.{flip_args, is_lt}
use Rattle.ba_instant.proofs.AgendaLemmas.{first_in_turn, last_in_turn}
use Rattle.ba_settle.proofs.OrderLemmas.{step_total}
use Rattle.ba_instant.specs.Agendas.{IsInTurn}
use Rattle.ba_settle.specs.Order.{step_cmp}
use Rattle.ba_instant.proofs.agenda.put_in_turn.Goals as goal

pub returns-in-First : goal.returns-in-First
returns-in-First c = subst (λ p. IsInTurn p c.args.steps.now.items c.sort_unstable_by.new.self.items) (sym c.in-First.is) (record {
  moved = c.sort_unstable_by.ensures.permutation;
  in_turn = first_in_turn c.sort_unstable_by.new.self.items (c.sort_unstable_by.ensures.sorted _ (ranks_by (back_total step_total) (λ s. s))
      (answers_always _ _ _ (λ f a r g k. let e : r ≡ flip_args step_cmp a.0.now a.1.0.now = search rules in ap is_lt e)));
})

pub returns-in-Last : goal.returns-in-Last
returns-in-Last c = subst (λ p. IsInTurn p c.args.steps.now.items c.sort_unstable_by-in-Last.new.self.items) (sym c.in-Last.is) (record {
  moved = c.sort_unstable_by-in-Last.ensures.permutation;
  in_turn = last_in_turn c.sort_unstable_by-in-Last.new.self.items (c.sort_unstable_by-in-Last.ensures.sorted _ (ranks_by step_total (λ s. s))
      (answers_always _ _ _ (λ f a r g k. let e : r ≡ step_cmp a.0.now a.1.0.now = search rules in ap is_lt e)));
})
