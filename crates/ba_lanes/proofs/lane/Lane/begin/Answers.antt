use Rattle.std.proofs.Common.{[], arith, refl, subst, sym}
use Rattle.ba_model.specs.Fit.{ContextFits, kinds_of}
use Rattle.ba_session.specs.Asking.{IsRequestOf, IsBegun}
use Rattle.ba_lanes.proofs.LaneLemmas.{begin_left, takes_begun, takes_refused, takes_unmade}
use Rattle.ba_lanes.proofs.lane.Lane.begin.Goals as goal

pub push_reserved-requires : goal.push_reserved-requires
push_reserved-requires g c =
    let room = (c.requires.can []).room in
    let ok = c.args.self.now.requests.ok.0 in
    omega (arith, room, ok)

pub push_reserved-requires-in-Ok-begin : goal.push_reserved-requires-in-Ok-begin
push_reserved-requires-in-Ok-begin g c =
    let room = (c.requires.can []).room in
    let ok = c.args.self.now.requests.ok.0 in
    omega (arith, room, ok)

pub push_reserved-requires-in-Err : goal.push_reserved-requires-in-Err
push_reserved-requires-in-Err g c =
    let room = (c.requires.can []).room in
    let ok = c.args.self.now.requests.ok.0 in
    omega (arith, room, ok)

pub begin-requires-clause-context : goal.begin-requires-clause-context
begin-requires-clause-context g c =
    let comes = (c.requires.can []).comes in
    subst (λ p. ContextFits (kinds_of p.params) c.in-Ok.context) (sym c.requires.policy) (subst (ContextFits (kinds_of c.args.input.now.policy.params)) (sym c.in-Ok.ensures) comes.1)

pub begin-requires-clause-of : goal.begin-requires-clause-of
begin-requires-clause-of g c = (c.requires.can []).of

pub begin-requires-clause-left : goal.begin-requires-clause-left
begin-requires-clause-left g c = begin_left c.args.number [] c.args.context.now c.args.self.now.passes (c.requires.can []).can

pub returns-in_default : goal.returns-in_default
returns-in_default g c name =
    takes_unmade c.args.input.now c.args.service.now c.args.self.now _ (c.requires.can []).of refl c.push_reserved.ensures.capacity c.args.number name c.args.context.now c.push_reserved.ensures.items refl
    c.unserved.result c.unserved.ensures

pub returns-in-Ok-begin : goal.returns-in-Ok-begin
returns-in-Ok-begin g c name =
    let asker = c.in-Ok-begin.asker in
    let begun = subst (λ z. IsBegun z asker) c.in-Ok.ensures c.in-Ok-begin.ensures.begun in
    let may = subst (λ p. IsRequestOf p asker) c.requires.policy c.in-Ok-begin.ensures.asker in
    takes_begun c.args.input.now c.args.service.now c.args.self.now _ c.in-Ok-begin.ensures.of refl c.push_reserved-in-Ok-begin.ensures.capacity c.args.number name c.args.context.now asker begun may
    c.push_reserved-in-Ok-begin.ensures.items c.in-Ok-begin.ensures.made c.in-Ok-begin.ensures.others

pub returns-in-Err : goal.returns-in-Err
returns-in-Err g c name =
    takes_refused c.args.input.now c.args.service.now c.args.self.now _ c.in-Err.ensures.of refl c.push_reserved-in-Err.ensures.capacity c.args.number name c.args.context.now c.push_reserved-in-Err.ensures.items
    c.in-Err.ensures.made c.in-Err.ensures.others c.unserved-in-Err.result c.unserved-in-Err.ensures
