use Rattle.std.proofs.Common.{◌∙◌, ◌++◌, ap, sym, subst}
use Rattle.std.specs.List.{before_first}
use Rattle.ba_source.proofs.StdLemmas.{before_none, before_some}
use Rattle.ba_source.proofs.std_source.Line.take_from.Goals as goal
use Rattle.ba_source.specs.StdSource.{StandsFor, is_feed}

pub returns-in-Some-clause-stands : goal.returns-in-Some-clause-stands
returns-in-Some-clause-stands c front h =
    let is = ap (before_first is_feed) (sym c.as_slice-bytes.ensures) ∙ before_some c.as_slice-bytes.result.now c.in-Some.end (sym c.first_feed.ensures ∙ c.in-Some.is) in
    subst (λ ys. StandsFor c.args.limit (front ++ ys) c.add.new.self) (sym is) (c.add.ensures.stands front h)

pub returns-in-None-clause-stands : goal.returns-in-None-clause-stands
returns-in-None-clause-stands c front h =
    let is = ap (before_first is_feed) (sym c.as_slice-bytes.ensures) ∙ before_none c.as_slice-bytes.result.now (sym c.first_feed.ensures ∙ c.in-None.is) in
    subst (λ ys. StandsFor c.args.limit (front ++ ys) c.add-in-None.new.self) (sym is) (c.add-in-None.ensures.stands front h)
