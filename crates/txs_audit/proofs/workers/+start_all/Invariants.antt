use Rattle.txs_audit.proofs.workers.+start_all.Given as goal

abbrev pub decreases-start_all : goal.decreases-start_all
decreases-start_all g l = l.workers
