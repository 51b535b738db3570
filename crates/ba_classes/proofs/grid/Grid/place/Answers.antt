use Rattle.std.proofs.Common.{◌≡◌, ℕ, List, length, arith, sym, subst, ◌∙◌, nat_eq}
use Rattle.std.specs.Prelude.{OnOk, Some, cond}
use Rattle.std.proofs.lemmas.List.{take_at}
use Rattle.ba_classes.specs.Grid.{NoneNew, SameBelow, SameCells, place_of}
use Rattle.ba_classes.specs.declared.best.Best.{Best}
use Rattle.ba_classes.proofs.GridLemmas.{IsGrid-placed, kept_between, placed_same}
use Rattle.ba_classes.proofs.grid.Grid.place.Goals as goal

pub returns-clause-same : goal.returns-clause-same
returns-clause-same c =
    let grid = c.args.self.now in
    let cut = c.cut.new.rows in
    let place = c.len-place.result in
    let long : length cut ≡ grid.rows.len = omega (arith, c.deref_mut.ensures.len, c.cut.auto.rows) in
    placed_same grid.places c.add.new.self grid.rows.items cut c.add_row.new.rows.items c.args.node place grid.in_order c.len-place.ensures
    (subst (λ (rs : List (List Best)). SameBelow place rs cut) c.deref_mut.ensures.value c.in_ok-cut.ensures.same)
    (subst (λ (rs : List (List Best)). NoneNew rs cut) c.deref_mut.ensures.value c.in_ok-cut.ensures.none_new)
    c.in_ok-cut.ensures.none_past
    (subst (λ (rs : List (List Best)). SameCells rs c.add_row.new.rows.items) (take_at cut _ grid.rows.len long) c.in_ok-add_row.ensures.same)
    (sym c.get.ensures ∙ c.in_default.is)
    (subst (λ (n : ℕ). (x : ℕ) → place_of c.add.new.self x ≡ cond (nat_eq c.args.node x) (Some n) (place_of grid.places x)) (sym c.len-place.ensures) c.in_ok-add.ensures.places)

pub invariant_of-self-2 : goal.invariant_of-self-2
invariant_of-self-2 c =
    let grid = c.args.self.now in
    let cut = c.cut.new.rows in
    let place = c.len-place.result in
    let long : length cut ≡ grid.rows.len = omega (arith, c.deref_mut.ensures.len, c.cut.auto.rows) in
    let e = c.add.ensures in
    record {
      in_order = IsGrid-placed grid.places c.add.new.self grid.rows.items cut c.add_row.new.rows.items c.args.node place grid.in_order c.len-place.ensures
          (subst (λ (rs : List (List Best)). SameBelow place rs cut) c.deref_mut.ensures.value c.in_ok-cut.ensures.same)
          (subst (λ (rs : List (List Best)). NoneNew rs cut) c.deref_mut.ensures.value c.in_ok-cut.ensures.none_new)
          (subst (λ (rs : List (List Best)). SameCells rs c.add_row.new.rows.items) (take_at cut _ grid.rows.len long) c.in_ok-add_row.ensures.same)
          c.in_ok-add_row.ensures.tall
          c.add.result e.count
          (subst (λ (n : ℕ). OnOk c.add.result ((x : ℕ) → place_of c.add.new.self x ≡ cond (nat_eq c.args.node x) (Some n) (place_of grid.places x))) (sym c.len-place.ensures) e.places)
          e.err;
    }

pub returns-in_err-add-clause-same : goal.returns-in_err-add-clause-same
returns-in_err-add-clause-same c =
    let grid = c.args.self.now in
    let cut = c.cut.new.rows in
    let place = c.len-place.result in
    let long : length cut ≡ grid.rows.len = omega (arith, c.deref_mut.ensures.len, c.cut.auto.rows) in
    kept_between grid.places c.add.new.self grid.rows.items cut c.add_row.new.rows.items c.args.node place grid.in_order c.len-place.ensures
    (subst (λ (rs : List (List Best)). SameBelow place rs cut) c.deref_mut.ensures.value c.in_ok-cut.ensures.same)
    (subst (λ (rs : List (List Best)). NoneNew rs cut) c.deref_mut.ensures.value c.in_ok-cut.ensures.none_new)
    (subst (λ (rs : List (List Best)). SameCells rs c.add_row.new.rows.items) (take_at cut _ grid.rows.len long) c.in_ok-add_row.ensures.same)
    c.in_ok-add_row.ensures.tall
    c.in_err-add.ensures.err
