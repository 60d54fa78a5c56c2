use Rattle.std.proofs.Common.{◌≡◌, ◌<◌, length, get_or, sym, subst}
use Rattle.txs_machine.specs.Running.{AreIdle}
use Rattle.txs_machine.proofs.Playing.{nth_read, taken_read}
use Rattle.txs_machine.proofs.Working.{attends_has, works_at, idle_more}
use Rattle.txs_machine.proofs.agents.is_any_working.Goals as goal

pub is_working-requires : goal.is_working-requires
is_working-requires c =
    let xs = c.args.agents.now in
    let x = c.index-agents-i.result in
    let within : c.loop-i.i < length xs = c.loop-i-test.true in
    let read : x ≡ get_or xs c.loop-i.i x = c.index-agents-i.is in
    attends_has c.args.code.now c.args.shared.now c.requires.attending.0 c.requires.attending.1 c.loop-i.i xs x c.requires.of c.requires.attending.2 (nth_read xs c.loop-i.i x within read)

pub returns-then-is_working-clause-working : goal.returns-then-is_working-clause-working
returns-then-is_working-clause-working c t =
    let xs = c.args.agents.now in
    let x = c.index-agents-i.result in
    let within : c.loop-i.i < length xs = c.loop-i-test.true in
    let read : x ≡ get_or xs c.loop-i.i x = c.index-agents-i.is in
    (c.loop-i.i, works_at c.args.code.now c.args.shared.now c.loop-i.i xs x c.requires.of (nth_read xs c.loop-i.i x within read) (c.is_working.ensures.unended c.if-is_working.true) (c.is_working.ensures.yes c.if-is_working.true))

pub loop-i-preserved : goal.loop-i-preserved
loop-i-preserved c =
    let xs = c.args.agents.now in
    let x = c.index-agents-i.result in
    let within : c.loop-i.i < length xs = c.loop-i-test.true in
    let read : x ≡ get_or xs c.loop-i.i x = c.index-agents-i.is in
    subst (AreIdle c.args.code.now c.args.shared.now) (sym (taken_read xs c.loop-i.i x within read))
    (idle_more c.args.code.now c.args.shared.now _ x c.requires.of c.loop-i.invariant (c.is_working.ensures.no c.if-is_working.false))
