use Rattle.txs_theorem_alike.proofs.Examples as examples_proof
use Rattle.txs_theorem_alike.proofs.law.each_part_is_needed.Goals as goal

pub returns-clause-counts : goal.returns-clause-counts
returns-clause-counts c = examples_proof.counts_are_needed

pub returns-clause-since : goal.returns-clause-since
returns-clause-since c = examples_proof.since_is_needed

pub returns-clause-views : goal.returns-clause-views
returns-clause-views c = examples_proof.views_are_needed

pub returns-clause-sends : goal.returns-clause-sends
returns-clause-sends c = examples_proof.sends_are_needed

pub returns-clause-order : goal.returns-clause-order
returns-clause-order c = examples_proof.order_is_needed

pub returns-clause-tries : goal.returns-clause-tries
returns-clause-tries c = examples_proof.tries_tell
