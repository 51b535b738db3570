use Rattle.std.proofs.Common.{◌≡◌, Contains, subst}
use Rattle.std.specs.List.{insert}
use Rattle.ba_instant.proofs.ToldLemmas.{insert_has}
use Rattle.ba_instant.proofs.told.insert.Goals as goal

pub returns : goal.returns
returns g c = λ x h.
    let is : c.from_vec.result ≡ insert c.args.list.now c.min-place.result c.args.it = cc (c.from_vec.ensures, c.in_ok-insert.ensures.items, c.into_vec-items.ensures, c.replace.ensures.value) in
    insert_has c.args.list.now c.min-place.result c.args.it x (subst (λ xs. Contains xs x) is h)
