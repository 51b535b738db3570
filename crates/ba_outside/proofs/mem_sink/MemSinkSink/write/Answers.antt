use Rattle.std.proofs.Common.{◌≡◌, ◌∙◌, Contains, List, Some, subst, sym, ℕ}
use Rattle.ba_outside.specs.MemSink.{MemSinkSeen, calls_after}
use Rattle.ba_outside.specs.Sink.{Grows, Hands, lists_of, pieces_of}
use Rattle.ba_outside.proofs.SinkLemmas.{handed, one_call, one_piece}
use Rattle.ba_outside.proofs.mem_sink.MemSinkSink.write.Goals as goal

pub returns-then-is_listed-clause-fails_where : goal.returns-then-is_listed-clause-fails_where
returns-then-is_listed-clause-fails_where c some =
    subst (λ (s : MemSinkSeen). Contains s.failing s.calls) c.self.view_is
    (subst (λ (numbers : List ℕ). Contains numbers c.self.inside.calls) c.deref.ensures.value (c.is_listed.ensures.0 c.if-is_listed.true))

pub returns-then-is_listed-clause-pieces : goal.returns-then-is_listed-clause-pieces
returns-then-is_listed-clause-pieces c =
    let grown = one_piece c.push.result c.self.inside.pieces.items c.push.new.self.items c.in-Ok.piece c.args.bytes.now (sym c.is_empty.ensures ∙ c.if-is_empty.false) (c.in-Ok.ensures.items_if_clones_equal (λ x y h. h)) c.push.ensures.items (sym c.is_err.ensures.value ∙ c.if-is_err.false) in
    subst (λ (s : MemSinkSeen). Grows s.shown.pieces (Some (lists_of c.push.new.self.items)) (pieces_of c.args.bytes.now)) c.self.view_is grown

pub returns-clause-pieces : goal.returns-clause-pieces
returns-clause-pieces c =
    let grown = one_piece c.push.result c.self.inside.pieces.items c.push.new.self.items c.in-Ok.piece c.args.bytes.now (sym c.is_empty.ensures ∙ c.if-is_empty.false) (c.in-Ok.ensures.items_if_clones_equal (λ x y h. h)) c.push.ensures.items (sym c.is_err.ensures.value ∙ c.if-is_err.false) in
    subst (λ (s : MemSinkSeen). Hands s.shown.pieces (Some (lists_of c.push.new.self.items)) c.args.bytes.now c.match-extend_from_slice.result) c.self.view_is (handed (Some (lists_of c.self.inside.pieces.items)) (Some (lists_of c.push.new.self.items)) c.args.bytes.now c.match-extend_from_slice.result grown)

pub returns-clause-calls : goal.returns-clause-calls
returns-clause-calls c =
    subst (λ (s : MemSinkSeen). c.saturating_add-self-inside.result ≡ calls_after s.calls c.args.bytes.now) c.self.view_is
    (c.saturating_add-self-inside.ensures ∙ one_call c.self.inside.calls c.args.bytes.now (sym c.is_empty.ensures ∙ c.if-is_empty.false))
