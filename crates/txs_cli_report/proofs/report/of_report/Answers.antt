use Rattle.std.proofs.Common.{◌∙◌, ℕ, List, ap, subst}
use Rattle.txs_world_protocol.specs.declared.report.ActorReport.{ActorReport}
use Rattle.txs_cli_report.specs.AgentLines.{AreAgentsTold, failure_of, named_from, status_of_agents}
use Rattle.txs_cli_report.specs.Lent.{script_of}
use Rattle.txs_cli_report.specs.Lines.{status_from}
use Rattle.txs_cli_report.proofs.report.of_report.Goals as goal

pub returns-clause-errors : goal.returns-clause-errors
returns-clause-errors c =
    let script = script_of c.args.script in
    let failure = failure_of c.args.shared.now in
    let named = named_from 0 c.args.cells.now in
    let threads = c.in_ok-told.ensures in
    let agents = c.in_ok-add_agents.ensures.errors in
    record {
      of_threads = c.in_ok-told.told.errors.items;
      of_agents = agents.0;
      first = threads.errors;
      behind = subst (λ (rs : List ActorReport). AreAgentsTold script failure named rs agents.0) c.as_slice-agents.ensures.value agents.1;
      is = agents.2;
    }

pub returns-clause-status : goal.returns-clause-status
returns-clause-status c =
    let failure = failure_of c.args.shared.now in
    let named = named_from 0 c.args.cells.now in
    c.in_ok-add_agents.ensures.status
    ∙ ap (λ (m : ℕ). status_of_agents m failure named c.as_slice-agents.result.now) c.in_ok-told.ensures.status
    ∙ ap (λ (rs : List ActorReport). status_of_agents (status_from 0 c.args.report.now.threads.items) failure named rs) c.as_slice-agents.ensures.value
