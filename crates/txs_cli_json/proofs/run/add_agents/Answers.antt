use Rattle.std.proofs.Common.{◌<◌, ◌≤◌, length, codes, rules}
use Rattle.txs_cli_json.proofs.JsonLines.{lines_none, lines_next, lines_all, lines_kept, lines_kept_by}
use Rattle.txs_cli_json.proofs.run.add_agents.Goals as goal

pub loop-k-init : goal.loop-k-init
loop-k-init c = lines_none (length c.args.run.report.now.agents.items) (codes "agent") c.args.out.now.items

pub loop-k-preserved : goal.loop-k-preserved
loop-k-preserved c =
    let within : c.loop-k.k < length c.args.run.report.now.agents.items = search rules in
    lines_next c.loop-k.k (length c.args.run.report.now.agents.items) (codes "agent") c.args.out.now.items c.loop-k.out.items c.add_agent.new.out.items within c.loop-k.invariant c.in_ok-add_agent.ensures.ok

pub returns-clause-ok : goal.returns-clause-ok
returns-clause-ok c =
    let past : length c.args.run.report.now.agents.items ≤ c.loop-k.k = search rules in
    lines_all c.loop-k.k (length c.args.run.report.now.agents.items) (codes "agent") c.args.out.now.items c.loop-k.out.items past c.loop-k.invariant

pub returns-clause-kept : goal.returns-clause-kept
returns-clause-kept c = lines_kept _ c.args.out.now.items c.loop-k.out.items c.loop-k.invariant

pub returns-in_err-add_agent-clause-kept : goal.returns-in_err-add_agent-clause-kept
returns-in_err-add_agent-clause-kept c = lines_kept_by _ c.args.out.now.items c.loop-k.out.items c.add_agent.new.out.items c.loop-k.invariant (search (rules, c.add_agent.ensures.err))
