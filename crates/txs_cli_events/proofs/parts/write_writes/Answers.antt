use Rattle.std.proofs.Common.{◌≡◌, ◌<◌, ◌≤◌, length, get_or, refl, rules}
use Rattle.txs_cli_events.specs.LongLines.{write_words}
use Rattle.txs_cli_events.proofs.Pieces.{each_end, each_more}
use Rattle.txs_cli_events.proofs.parts.write_writes.Goals as goal

pub loop-i-init : goal.loop-i-init
loop-i-init c = refl

pub loop-i-preserved : goal.loop-i-preserved
loop-i-preserved c =
    let xs = c.args.writes.now in
    let i = c.loop-i.i in
    let x = c.index-writes-i.result in
    let within : i < length xs = search rules in
    let read : x ≡ get_or xs i x = search rules in
    each_more (write_words c.args.run.cells.now) xs i x c.loop-i.out.items c.write_write.new.out.items _ within read c.in_ok-write_write.ensures c.loop-i.invariant

pub returns : goal.returns
returns c =
    let xs = c.args.writes.now in
    let i = c.loop-i.i in
    let past : length xs ≤ i = search rules in
    each_end (write_words c.args.run.cells.now) xs i c.loop-i.out.items _ past c.loop-i.invariant
