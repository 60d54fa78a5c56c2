use Rattle.txs_audit.proofs.workers.found_by.Goals as goal

pub returns : goal.returns
returns g c = c.scoped.ensures.1
