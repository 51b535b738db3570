use Rattle.std.proofs.Common.{◌≡◌, ◌∙◌, ◌++◌, ◌∷◌, [], List, Some, subst, sym, arith}
use Rattle.std.specs.List.{slice_get}
use Rattle.ba_facts.specs.Webs.{IsWhole}
use Rattle.ba_facts.specs.Known.{seen}
use Rattle.ba_facts.specs.declared.term.Term.{Term}
use Rattle.ba_facts.proofs.AddLemmas.{add_step, cut_whole, room_step, roomier_whole}
use Rattle.ba_facts.proofs.Elements.{get_push_new, get_push_old}
use Rattle.ba_facts.proofs.web.Web.add.Goals as goal

pub returns-in_err-add_item-clause-kept : goal.returns-in_err-add_item-clause-kept
returns-in_err-add_item-clause-kept c = λ k e there w.
    let r = c.make_room.ensures in
    cut_whole c.in_ok-number.number c.add_item.new.items.items (c.in_ok-number.ensures.value.0 ∙ c.len.ensures) (c.in_err-add_item.ensures.err ∙ c.truncate.ensures.items) (roomier_whole c.make_room.new.self r.merges r.grows w)

pub returns-in_err-add-clause-kept : goal.returns-in_err-add-clause-kept
returns-in_err-add-clause-kept c = λ k e there w.
    let r = c.make_room.ensures in
    subst (λ (ts : List Term). IsWhole k ts c.make_room.new.self c.add_item.new.items.items c.args.self.now.order c.args.self.now.several) (sym c.in_err-add.ensures.err)
    (room_step c.make_room.new.self c.in_ok-number.number c.truncate.new.self.items c.add_item.new.items.items c.own.result r.merges r.grows (c.in_ok-number.ensures.value.0 ∙ c.len.ensures) c.truncate.ensures.items c.in_ok-add_item.ensures.ok w)

pub returns-clause-found : goal.returns-clause-found
returns-clause-found c =
    let t = seen c.args.term in
    subst (λ (ts : List Term). slice_get ts c.in_ok-number.number ≡ Some t) (sym c.in_ok-add.ensures.ok)
    (subst (λ n. slice_get (c.args.self.now.names ++ t ∷ []) n ≡ Some t) (sym (c.in_ok-number.ensures.value.0 ∙ c.len.ensures)) (get_push_new c.args.self.now.names t))

pub returns-clause-numbers : goal.returns-clause-numbers
returns-clause-numbers c = λ n t h. subst (λ (ts : List Term). slice_get ts n ≡ Some t) (sym c.in_ok-add.ensures.ok) (get_push_old c.args.self.now.names (seen c.args.term) n t h)

pub returns-clause-kept : goal.returns-clause-kept
returns-clause-kept c = λ k e there w.
    let r = c.make_room.ensures in
    add_step c.make_room.new.self c.in_ok-number.number c.truncate.new.self.items c.add_item.new.items.items c.own.result c.args.unknowns.now (seen c.args.term) c.add.new.self r.merges r.grows (c.in_ok-number.ensures.value.0 ∙ c.len.ensures) c.truncate.ensures.items c.in_ok-add_item.ensures.ok e there c.requires c.own.ensures (omega (arith, c.in_ok-number.ensures.value)) c.in_ok-make_room.ensures.room c.in_ok-add.ensures.ok w
