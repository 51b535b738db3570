use Rattle.ba_portfolio.proofs.both.behind_leaf.Goals as goal

pub returns : goal.returns
returns c = c.told.ensures c.args.problem c.args.budget c.requires.leaf c.settle_in-last.ensures
