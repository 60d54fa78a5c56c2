use Rattle.std.proofs.Common.{◌≡◌, ◌↔◌, IsTrue, rules}
use Rattle.txs_world_protocol.proofs.Comparing.{new_test}
use Rattle.txs_world_protocol.proofs.same.same_new.Goals as goal

pub returns-in-Ok-Ok-clause-test : goal.returns-in-Ok-Ok-clause-test
returns-in-Ok-Ok-clause-test c =
    let equal : IsTrue c.same.result ↔ (c.args.a.now ≡ c.args.b.now) = search rules in
    new_test c.args.a.now c.args.b.now c.same.result equal
