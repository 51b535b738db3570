use Rattle.std.proofs.Common.{refl, sym, ap, ◌∙◌}
use Rattle.ba_facts.specs.Known.{seen}
use Rattle.ba_facts.proofs.NameLemmas.{put_value_apart}
use Rattle.ba_facts.proofs.names.Numbers.put.Goals as goal

pub returns-in_ok-insert-in-Val-clause-apart : goal.returns-in_ok-insert-in-Val-clause-apart
returns-in_ok-insert-in-Val-clause-apart c = λ t ne.
    put_value_apart c.args.self.now (record c.args.self.now { values = c.insert.new.self }) c.in-Val.value.now _ _ c.in_ok-copy-in-Val.ensures c.in_ok-insert-in-Val.ensures.updates refl refl refl t (λ e. ne (e ∙ ap seen (sym c.in-Val.is)))
