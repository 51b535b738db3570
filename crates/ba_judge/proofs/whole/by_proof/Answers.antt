use Rattle.ba_judge.proofs.LearnLemmas.{kept_learns}
use Rattle.ba_judge.proofs.whole.by_proof.Goals as goal

pub returns-clause-learns : goal.returns-clause-learns
returns-clause-learns c = kept_learns c.keep.result c.args.proved c.args.shelves.now c.keep.new.shelves c.keep.ensures.kept c.keep.ensures.err
