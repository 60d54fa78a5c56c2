use Rattle.std.proofs.Common.{◌≡◌, false, length, nat_lt, rules}
use Rattle.txs_history_run.proofs.Sent.{marked_so, unmarked_so}
use Rattle.txs_history_run.proofs.callees.is_callee.Goals as goal

pub returns-then-f-marks : goal.returns-then-f-marks
returns-then-f-marks c = marked_so c.args.marks.now c.args.f _ c.if-f-marks.true

pub returns-else-f-marks : goal.returns-else-f-marks
returns-else-f-marks c =
    let past : nat_lt c.args.f (length c.args.marks.now) ≡ false = search rules in
    unmarked_so c.args.marks.now c.args.f past
