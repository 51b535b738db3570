use Rattle.std.proofs.Common.{refl, inl}
use Rattle.ba_facts.specs.Known.{seen}
use Rattle.ba_facts.proofs.QueryLemmas.{gap_shown, rises_alone}
use Rattle.ba_facts.proofs.web.Web.gap.Goals as goal

pub returns-then-same_level : goal.returns-then-same_level
returns-then-same_level c = λ k w. (
  λ e. (gap_shown (seen c.args.low) (seen c.args.high) c.args.gap w).0 (inl ((c.same_level.ensures k w).0 c.if-same_level.true)),
  λ g. refl,
)

pub returns-else-same_level : goal.returns-else-same_level
returns-else-same_level c = λ k w. rises_alone _ _ c.if-same_level.false (c.same_level.ensures k w) c.places_rise.ensures (gap_shown (seen c.args.low) (seen c.args.high) c.args.gap w)
