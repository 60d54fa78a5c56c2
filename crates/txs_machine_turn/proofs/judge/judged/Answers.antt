use Rattle.std.proofs.Common.{◌≡◌, Ok, rules}
use Rattle.txs_value_apply.specs.Core.{core}
use Rattle.txs_machine_turn.proofs.judge.judged.Goals as goal

pub returns-in-Ok : goal.returns-in-Ok
returns-in-Ok c =
    let gave : core c.args.op c.args.values.items ≡ Ok c.in-Ok.answer = search rules in
    (c.in-Ok.answer, gave, c.accepts.ensures)
