use Rattle.std.proofs.Common.{List, length, sym, ap, ◌∙◌, rules, inl, refl}
use Rattle.txs_value_data.specs.declared.value.CellId.{CellId}
use Rattle.txs_threads.specs.Run.{AllEnded, AllDrained, IsLeft}
use Rattle.txs_threads.proofs.Agents.{are_agents, are_drained}
use Rattle.txs_threads.proofs.Ended.{all_ended}
use Rattle.txs_threads.proofs.left.settle_left.Goals as goal

pub is_whole-requires-clause-agents : goal.is_whole-requires-clause-agents
is_whole-requires-clause-agents g c =
    let r = c.in_ok-gathered in
    are_agents c.args.code.now r.gathered.shared c.args.agents.now r.ensures.of c.requires.agents

pub is_whole-requires-clause-one_each : goal.is_whole-requires-clause-one_each
is_whole-requires-clause-one_each g c = c.in_ok-gathered.ensures.report.agents_done.one_each ∙ ap (λ (gs : List CellId). length gs) (sym c.requires.agents)

pub returns-then-is_whole-clause-left : goal.returns-then-is_whole-clause-left
returns-then-is_whole-clause-left g c =
    let code = c.args.code.now in
    let r = c.in_ok-gathered in
    let s = r.gathered.shared in
    let ended : AllEnded r.gathered.report.threads.items = search rules in
    let drained : AllDrained s c.args.agents.now r.gathered.report.agents.items = search rules in
    let left : IsLeft code g.J.Run.limit s r.gathered.report = record {
      of = r.ensures.of;
      ended = all_ended r.gathered.report.threads.items ended;
      drained = are_drained code s c.args.agents.now r.gathered.report.agents.items r.ensures.of c.requires.agents drained;
      says = r.ensures.report;
    } in
    left

pub returns-clause-refusals : goal.returns-clause-refusals
returns-clause-refusals g c = inl refl
