use Rattle.std.proofs.Common.{refl, inl}
use Rattle.ba_facts.specs.Known.{seen}
use Rattle.ba_facts.proofs.LevelLemmas.{level_same}
use Rattle.ba_facts.proofs.web.Web.same.Goals as goal

pub returns-then-is_of_class : goal.returns-then-is_of_class
returns-then-is_of_class c = λ k w. (λ e. inl ((c.is_of_class.ensures k w).0 c.if-is_of_class.true), λ h. refl)

pub returns-else-is_of_class : goal.returns-else-is_of_class
returns-else-is_of_class c = λ k w. level_same w (seen c.args.a) (seen c.args.b) c.is_of_class.result c.is_level.result c.if-is_of_class.false (c.is_of_class.ensures k w) c.is_level.ensures
