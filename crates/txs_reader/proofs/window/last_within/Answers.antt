use Rattle.std.proofs.Common.{◌-◌, sym, subst, arith}
use Rattle.txs_reader.proofs.Signs.{Split, Split-all, Split-more, Split-over, Split-none}
use Rattle.txs_reader.proofs.window.last_within.Goals as goal

pub loop-from-init : goal.loop-from-init
loop-from-init c = Split-all c.args.bytes.now c.args.limit

pub loop-from-preserved : goal.loop-from-preserved
loop-from-preserved c =
    let l = c.loop-from in
    let sign = c.last_sign-found.result in
    subst (λ room. Split c.args.bytes.now c.args.limit (l.from - sign.1) (l.left - room)) (sym c.room-room.ensures)
    (Split-more c.args.bytes.now c.args.limit l.from l.left l.invariant sign.0 sign.1 c.last_sign-found.ensures
    (omega (arith, c.room-room.ensures, c.if-room-left.false)))

pub returns-then-room-left : goal.returns-then-room-left
returns-then-room-left c =
    let l = c.loop-from in
    let sign = c.last_sign-found.result in
    Split-over c.args.bytes.now c.args.limit l.from l.left l.invariant sign.0 sign.1 c.last_sign-found.ensures
    (omega (arith, c.room-room.ensures, c.if-room-left.true)) (omega (arith, c.loop-from-test.true))

pub returns-after-loop-from : goal.returns-after-loop-from
returns-after-loop-from c =
    let l = c.loop-from in
    Split-none c.args.bytes.now c.args.limit l.from l.left l.invariant (omega (arith, c.loop-from-test.false))
