use Rattle.txs_explore.proofs.search.end_at.Goals as goal

pub returns : goal.returns
returns c = (c.in_ok-ending.ending, c.in_ok-ending.ensures, c.in_ok-add.ensures)
