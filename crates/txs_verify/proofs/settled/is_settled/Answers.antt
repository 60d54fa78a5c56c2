use Rattle.std.proofs.Common.{ap, sym}
use Rattle.txs_verify.proofs.NoForm.{settled_so}
use Rattle.txs_verify.specs.Load.{settles}
use Rattle.txs_verify.proofs.settled.is_settled.Goals as goal

pub returns-in-Ok : goal.returns-in-Ok
returns-in-Ok c = sym (ap settles c.in-Ok.ensures.first)

pub returns-in-Err : goal.returns-in-Err
returns-in-Err c =
    let e = c.stays_refused.ensures in
    settled_so c.stays_refused.result c.args.bytes.now c.in-Err.error c.in-Err.ensures.first e.value e.told
