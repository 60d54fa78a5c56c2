use Rattle.txs_theorem_alike.proofs.Walks as walks_proof
use Rattle.txs_theorem_alike.proofs.law.alike_go_on_alike.Goals as goal

pub returns-clause-one : goal.returns-clause-one
returns-clause-one c = walks_proof.alike_go_on_alike c.play_holds.ensures

pub returns-clause-many : goal.returns-clause-many
returns-clause-many c = walks_proof.asks_keep_states c.play_holds.ensures

pub returns-clause-own : goal.returns-clause-own
returns-clause-own c = walks_proof.walks_are_own
