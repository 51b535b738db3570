use Rattle.std.specs.Option.{option_copied}
use Rattle.std.proofs.Common.{sym, subst}
use Rattle.ba_input.specs.Reading.{command_plan, names_of, workload_plan}
use Rattle.ba_input.specs.Reads.{Comes}
use Rattle.ba_input.proofs.InputLemmas.{comes_ready, comes_run, comes_store}
use Rattle.ba_input.proofs.command.read_command.Goals as goal

pub returns-in-Run-clause-comes : goal.returns-in-Run-clause-comes
returns-in-Run-clause-comes g c =
    let seen = g.F.Files.seen in
    let it = c.in-Run in
    comes_run c.args.command.now it.schema it.policy it.tables it.script it.load it.proofs it.workers it.budget it.orders c.told_by.result (option_copied c.name_of.result) (names_of c.named_run-named.result) (seen c.args.files.now) (seen c.read_served.new.files) c.read_served.result
    it.is c.told_by.ensures c.name_of.ensures c.named_run-named.ensures c.read_served.ensures.comes

pub returns-in-Store-clause-comes : goal.returns-in-Store-clause-comes
returns-in-Store-clause-comes g c =
    let seen = g.F.Files.seen in
    let it = c.in-Store in
    comes_store c.args.command.now it.schema it.policy it.tables it.script it.workers it.budget it.orders (names_of c.named_run-named-in-Store.result) (seen c.args.files.now) (seen c.read_served-in-Store.new.files) c.read_served-in-Store.result
    it.is c.named_run-named-in-Store.ensures c.read_served-in-Store.ensures.comes

pub returns-in-Gen-clause-comes : goal.returns-in-Gen-clause-comes
returns-in-Gen-clause-comes g c =
    let seen = g.F.Files.seen in
    let s = seen c.args.files.now in
    let it = c.in-Gen in
    subst (λ z. Comes (command_plan z) s s c.read_workload.result) (sym it.is) (comes_ready (workload_plan it.seed it.requests it.workers it.print) s s c.read_workload.result (c.read_workload.ensures.follows s))
