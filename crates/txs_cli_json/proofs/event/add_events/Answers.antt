use Rattle.std.proofs.Common.{◌<◌, ◌≤◌, length, codes, rules}
use Rattle.txs_cli_json.proofs.JsonLines.{lines_none, lines_next, lines_all, lines_kept, lines_kept_by}
use Rattle.txs_cli_json.proofs.event.add_events.Goals as goal

pub loop-order-init : goal.loop-order-init
loop-order-init c = lines_none (length c.args.around.run.notes.now) (codes "event") c.args.out.now.items

pub loop-order-preserved : goal.loop-order-preserved
loop-order-preserved c =
    let within : c.loop-order.order < length c.args.around.run.notes.now = search rules in
    lines_next c.loop-order.order (length c.args.around.run.notes.now) (codes "event") c.args.out.now.items c.loop-order.out.items c.add_event.new.out.items within c.loop-order.invariant c.in_ok-add_event.ensures.ok

pub returns-clause-ok : goal.returns-clause-ok
returns-clause-ok c =
    let past : length c.args.around.run.notes.now ≤ c.loop-order.order = search rules in
    lines_all c.loop-order.order (length c.args.around.run.notes.now) (codes "event") c.args.out.now.items c.loop-order.out.items past c.loop-order.invariant

pub returns-clause-kept : goal.returns-clause-kept
returns-clause-kept c = lines_kept _ c.args.out.now.items c.loop-order.out.items c.loop-order.invariant

pub returns-in_err-add_event-clause-kept : goal.returns-in_err-add_event-clause-kept
returns-in_err-add_event-clause-kept c = lines_kept_by _ c.args.out.now.items c.loop-order.out.items c.add_event.new.out.items c.loop-order.invariant (search (rules, c.add_event.ensures.err))
