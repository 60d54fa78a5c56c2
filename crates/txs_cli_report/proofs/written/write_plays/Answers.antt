use Rattle.std.proofs.Common.{[], sym}
use Rattle.std.proofs.lemmas.List.{append-nil}
use Rattle.txs_value_data.proofs.PrintedLemmas.{Extends-after}
use Rattle.txs_cli_report.proofs.written.write_plays.Goals as goal

pub returns-in_err-write_item : goal.returns-in_err-write_item
returns-in_err-write_item c =
    let so_far = c.loop-item.invariant in
    Extends-after c.args.out.now.items so_far.more c.loop-item.out.items c.write_item.new.out.items so_far.is c.write_item.ensures

pub loop-item-preserved : goal.loop-item-preserved
loop-item-preserved c =
    let so_far = c.loop-item.invariant in
    Extends-after c.args.out.now.items so_far.more c.loop-item.out.items c.write_item.new.out.items so_far.is c.write_item.ensures

pub loop-item-init : goal.loop-item-init
loop-item-init c = record { more = []; is = sym (append-nil c.args.out.now.items) }

pub returns : goal.returns
returns c = c.loop-item.invariant
