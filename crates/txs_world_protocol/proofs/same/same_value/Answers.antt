use Rattle.txs_world_protocol.proofs.Comparing.{value_test}
use Rattle.txs_world_protocol.proofs.same.same_value.Goals as goal

pub returns-clause-test : goal.returns-clause-test
returns-clause-test c = value_test c.args.a.now c.args.b.now c.same.result c.same.ensures
