use Rattle.std.proofs.Common.{◌<◌, ◌≤◌, length, codes, rules}
use Rattle.txs_cli_json.proofs.JsonLines.{lines_none, lines_next, lines_all, lines_kept, lines_kept_by}
use Rattle.txs_cli_json.proofs.run.add_threads.Goals as goal

pub loop-number-init : goal.loop-number-init
loop-number-init c = lines_none (length c.args.run.report.now.threads.items) (codes "thread") c.args.out.now.items

pub loop-number-preserved : goal.loop-number-preserved
loop-number-preserved c =
    let within : c.loop-number.number < length c.args.run.report.now.threads.items = search rules in
    lines_next c.loop-number.number (length c.args.run.report.now.threads.items) (codes "thread") c.args.out.now.items c.loop-number.out.items c.add_thread.new.out.items within c.loop-number.invariant c.in_ok-add_thread.ensures.ok

pub returns-clause-ok : goal.returns-clause-ok
returns-clause-ok c =
    let past : length c.args.run.report.now.threads.items ≤ c.loop-number.number = search rules in
    lines_all c.loop-number.number (length c.args.run.report.now.threads.items) (codes "thread") c.args.out.now.items c.loop-number.out.items past c.loop-number.invariant

pub returns-clause-kept : goal.returns-clause-kept
returns-clause-kept c = lines_kept _ c.args.out.now.items c.loop-number.out.items c.loop-number.invariant

pub returns-in_err-add_thread-clause-kept : goal.returns-in_err-add_thread-clause-kept
returns-in_err-add_thread-clause-kept c = lines_kept_by _ c.args.out.now.items c.loop-number.out.items c.add_thread.new.out.items c.loop-number.invariant (search (rules, c.add_thread.ensures.err))
