use Rattle.std.proofs.Common.{rules}
use Rattle.std.proofs.lemmas.Iterator.{YieldsList-from_slice, YieldsList-from_zip, cases_from_all}
use Rattle.std.specs.List.{zip}
use Rattle.ba_kernel.proofs.NewLemmas.{all_found}
use Rattle.ba_kernel.specs.Steps.{AreEqualIn}
use Rattle.ba_kernel.proofs.news.rows.are_equal_in.Goals as goal

pub returns : goal.returns
returns c =
    all_found (AreEqualIn c.args.branch.now c.args.left.now c.args.right.now) c.all.result (zip c.args.columns.now c.args.others.now)
    (cases_from_all c.all.new.self _ _ (AreEqualIn c.args.branch.now c.args.left.now c.args.right.now)
    (λ two. AreEqualIn c.args.branch.now c.args.left.now c.args.right.now two → ⊥) c.all.ensures.ran
    (YieldsList-from_zip {s = c.zip-pairs.result} (YieldsList-from_slice c.args.columns.now cc) (YieldsList-from_slice c.args.others.now cc))
    (λ x q h. search rules) (λ x q h. search rules))
