use Rattle.std.proofs.Common.{◌≡◌, true, sym, ◌∙◌, subst}
use Rattle.ba_model.proofs.FitLemmas.{AllZip-at}
use Rattle.ba_direct.proofs.ResultLemmas.{AllZip-further, AllZip-length}
use Rattle.ba_direct.specs.Cover.{CoversPart}
use Rattle.ba_direct.proofs.search.is_cover.Goals as goal

pub returns-then-len : goal.returns-then-len
returns-then-len c = (
  λ e. cc,
  λ h. absurd (c.if-len.true (c.len.ensures ∙ (AllZip-length (CoversPart c.args.policy.now c.args.ctx.now) _ _ h.parts ∙ sym c.len-2.ensures))),
)

pub returns-then-not-covers_part : goal.returns-then-not-covers_part
returns-then-not-covers_part c = (
  λ e. cc,
  λ h.
      let at = AllZip-at (CoversPart c.args.policy.now c.args.ctx.now) c.args.query.now.parts c.args.cover.now.parts c.loop-i.i c.get.result.now h.parts c.get.ensures in
      let same : at.0 ≡ c.get-in-loop-i.result.now = (let both = sym at.1 ∙ c.get-in-loop-i.ensures in cc) in
      let yes : c.covers_part.result ≡ true = c.covers_part.ensures.1 (subst (CoversPart c.args.policy.now c.args.ctx.now c.get.result.now) same at.2) in
      cc,
)

pub loop-i-preserved : goal.loop-i-preserved
loop-i-preserved c =
    AllZip-further (CoversPart c.args.policy.now c.args.ctx.now) _ _ _ _ _ c.get.ensures c.get-in-loop-i.ensures c.loop-i.invariant (c.covers_part.ensures.0 c.if-not-covers_part.false)
