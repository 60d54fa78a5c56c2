use Rattle.std.proofs.Common.{Some, None, ap, sym, rules}
use Rattle.txs_frame.proofs.Phasing.{write_made, write_set}
use Rattle.txs_frame.proofs.phase.value_to_write.Goals as goal

pub returns-in-Ok : goal.returns-in-Ok
returns-in-Ok c =
    let there = write_made c.args.values.now c.args.frame.now c.args.number c.find_write.result c.in-Ok.i c.index-values-i.result c.find_write.ensures c.in-Ok.is c.index-values-i.is in
    search (rules, there)

pub returns-in-Some : goal.returns-in-Some
returns-in-Some c =
    let own = ap (λ o. o) c.value.ensures.value in
    let there = write_set c.args.values.now c.args.frame.now c.args.number c.find_write.result c.in-Err.field-0 (Some c.in-Some.value.now) c.find_write.ensures c.in-Err.is (search (rules, own)) in
    search (rules, there)

pub returns-in-None : goal.returns-in-None
returns-in-None c =
    let own = ap (λ o. o) c.value.ensures.value in
    sym (write_set c.args.values.now c.args.frame.now c.args.number c.find_write.result c.in-Err.field-0 None c.find_write.ensures c.in-Err.is (search (rules, own)))
