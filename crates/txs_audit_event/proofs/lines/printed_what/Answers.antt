use Rattle.std.proofs.Common.{◌∙◌, arith, get_or, sym}
use Rattle.std.proofs.lemmas.List.{get_or_default}
use Rattle.txs_audit_event.proofs.Lining.{passed_on, there_is}
use Rattle.txs_audit_event.proofs.lines.printed_what.Goals as goal

pub loop-i-preserved : goal.loop-i-preserved
loop-i-preserved c =
    let l = c.loop-i in
    let xs = c.args.expected.now in
    let ys = c.args.found.now in
    let b = get_or xs l.i 0 in
    let is = sym (get_or_default xs l.i 0 b c.loop-i-test.true) in
    let e = sym c.is_byte_at.ensures ∙ c.if-not-is_byte_at.false in
    let few = c.in_ok-number.ensures.few in
    let le = l.invariant.0 in
    let there = there_is ys l.i b e in
    (omega (arith, few, le), omega (arith, there), passed_on l.number c.in_ok-number.number l.i l.front.items c.pass.new.front.items xs ys b c.loop-i-test.true is e c.in_ok-number.ensures.passed ∙ l.invariant.2)
