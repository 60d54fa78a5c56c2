use Rattle.std.proofs.Common.{sym, rules}
use Rattle.txs_frame.proofs.Phasing.{no_write, write_there}
use Rattle.txs_frame.proofs.phase.viewed.Goals as goal

pub returns-in-Ok : goal.returns-in-Ok
returns-in-Ok c =
    let there = write_there c.args.values.now c.args.number c.find_write.result c.in-Ok.i c.index-values-i.result c.find_write.ensures c.in-Ok.is c.index-values-i.is in
    search (rules, there)

pub returns-in-Err : goal.returns-in-Err
returns-in-Err c = sym (no_write c.args.values.now c.args.number c.find_write.result c.in-Err.field-0 c.find_write.ensures c.in-Err.is)
