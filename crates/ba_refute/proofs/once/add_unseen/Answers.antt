use Rattle.std.proofs.Common.{◌≡◌, ◌∙◌, true, List, ap, cond, not, subst}
use Rattle.std.specs.BTreeSet.{contains}
use Rattle.std.specs.Ordering.{eq_by_cmp}
use Rattle.ba_model.specs.Order.{row_cmp}
use Rattle.ba_model.specs.declared.value.Value.{Value}
use Rattle.ba_refute.proofs.OnceLemmas.{with_new, with_old}
use Rattle.ba_refute.proofs.once.add_unseen.Goals as goal

pub returns-in_ok-push-clause-rows : goal.returns-in_ok-push-clause-rows
returns-in_ok-push-clause-rows c =
    let updates : (q : List Value) → contains row_cmp c.insert.new.self q ≡ cond (eq_by_cmp row_cmp c.args.row q) true (contains row_cmp c.args.seen.now q) =
    subst (λ key. (q : List Value) → contains row_cmp c.insert.new.self q ≡ cond (eq_by_cmp row_cmp key q) true (contains row_cmp c.args.seen.now q)) c.in_ok-copy.ensures c.in_ok-is_new.ensures.updates.0 in
    let added : c.in_ok-is_new.is_new ≡ not (contains row_cmp c.args.seen.now c.args.row) = c.in_ok-is_new.ensures.added ∙ ap (λ key. not (contains row_cmp c.args.seen.now key)) c.in_ok-copy.ensures in
    (with_new c.args.rows.now.items c.args.row c.args.seen.now c.insert.new.self c.requires updates c.in_ok-is_new.is_new c.push.new.self.items added c.if-is_new.true c.in_ok-push.ensures.items).0

pub returns-in_ok-push-clause-seen : goal.returns-in_ok-push-clause-seen
returns-in_ok-push-clause-seen c =
    let updates : (q : List Value) → contains row_cmp c.insert.new.self q ≡ cond (eq_by_cmp row_cmp c.args.row q) true (contains row_cmp c.args.seen.now q) =
    subst (λ key. (q : List Value) → contains row_cmp c.insert.new.self q ≡ cond (eq_by_cmp row_cmp key q) true (contains row_cmp c.args.seen.now q)) c.in_ok-copy.ensures c.in_ok-is_new.ensures.updates.0 in
    let added : c.in_ok-is_new.is_new ≡ not (contains row_cmp c.args.seen.now c.args.row) = c.in_ok-is_new.ensures.added ∙ ap (λ key. not (contains row_cmp c.args.seen.now key)) c.in_ok-copy.ensures in
    (with_new c.args.rows.now.items c.args.row c.args.seen.now c.insert.new.self c.requires updates c.in_ok-is_new.is_new c.push.new.self.items added c.if-is_new.true c.in_ok-push.ensures.items).1

pub returns-else-is_new-clause-rows : goal.returns-else-is_new-clause-rows
returns-else-is_new-clause-rows c =
    let updates : (q : List Value) → contains row_cmp c.insert.new.self q ≡ cond (eq_by_cmp row_cmp c.args.row q) true (contains row_cmp c.args.seen.now q) =
    subst (λ key. (q : List Value) → contains row_cmp c.insert.new.self q ≡ cond (eq_by_cmp row_cmp key q) true (contains row_cmp c.args.seen.now q)) c.in_ok-copy.ensures c.in_ok-is_new.ensures.updates.0 in
    let added : c.in_ok-is_new.is_new ≡ not (contains row_cmp c.args.seen.now c.args.row) = c.in_ok-is_new.ensures.added ∙ ap (λ key. not (contains row_cmp c.args.seen.now key)) c.in_ok-copy.ensures in
    (with_old c.args.rows.now.items c.args.row c.args.seen.now c.insert.new.self c.requires updates c.in_ok-is_new.is_new added c.if-is_new.false).0
