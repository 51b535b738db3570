use Rattle.ba_match.proofs.TestedLemmas.{query_of}
use Rattle.ba_match.proofs.tested.query_becomes.Goals as goal

pub returns : goal.returns
returns c =
    query_of c.args.values.now c.args.pattern.now c.args.query.now c.as_slice.result.now c.as_slice-2.result.now c.parts_become.result c.as_slice.ensures c.as_slice-2.ensures
    c.parts_become.ensures
