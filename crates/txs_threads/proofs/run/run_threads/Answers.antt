use Rattle.std.proofs.Common.{arith}
use Rattle.txs_threads.proofs.Answered.{still, always}
use Rattle.txs_threads.proofs.run.run_threads.Goals as goal

pub returns-clause-of : goal.returns-clause-of
returns-clause-of g c = still c.run_all.result c.run_all.ensures.left (λ x l. l.of)

pub returns-clause-ended : goal.returns-clause-ended
returns-clause-ended g c = still c.run_all.result c.run_all.ensures.left (λ x l. l.ended)

pub returns-clause-drained : goal.returns-clause-drained
returns-clause-drained g c = still c.run_all.result c.run_all.ensures.left (λ x l. l.drained)

pub returns-clause-done : goal.returns-clause-done
returns-clause-done g c = still c.run_all.result c.run_all.ensures.left (λ x l. l.says.done)

pub returns-clause-agents_done : goal.returns-clause-agents_done
returns-clause-agents_done g c = still c.run_all.result c.run_all.ensures.left (λ x l. l.says.agents_done)

pub returns-clause-explained : goal.returns-clause-explained
returns-clause-explained g c = still c.run_all.result c.run_all.ensures.left (λ x l. l.says.explained)

pub returns-clause-all_explained : goal.returns-clause-all_explained
returns-clause-all_explained g c = still c.run_all.result c.run_all.ensures.left (λ x l. l.says.all_explained)

pub returns-clause-interleaved : goal.returns-clause-interleaved
returns-clause-interleaved g c = still c.run_all.result c.run_all.ensures.left (λ x l. l.says.interleaved)

pub returns-clause-workers : goal.returns-clause-workers
returns-clause-workers g c = always c.run_all.result (omega (arith, c.if-workers-eq0.false), omega (arith, c.if-workers-gt-MOST_WORKERS.false))
