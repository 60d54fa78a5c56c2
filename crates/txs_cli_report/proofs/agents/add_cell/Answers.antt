use Rattle.std.proofs.Common.{◌≡◌, max, ◌++◌, ◌∙◌, ℕ, List, Option, None, refl, ap, subst, append_assoc}
use Rattle.txs_world_protocol.specs.declared.event.Outcome.{Outcome}
use Rattle.txs_cli_report.specs.AgentLines.{AgentTold, end_status, failed_by, failure_of}
use Rattle.txs_cli_report.specs.Lent.{script_of}
use Rattle.txs_cli_report.specs.Lines.{IsLesson, agent_front, end_line, end_place, how_ended, status_of}
use Rattle.txs_cli_report.proofs.Lessons.{ended_status, ended_told}
use Rattle.txs_cli_report.proofs.OfAgents.{agent_rest, agent_status, agent_told}
use Rattle.txs_cli_report.proofs.agents.add_cell.Goals as goal

pub returns-clause-rest : goal.returns-clause-rest
returns-clause-rest c =
    let d = c.args.cell.now in
    agent_rest d.kind c.args.number d.name c.args.entries.now c.in-Some.entry.now c.in-Some.rest.now c.in-Agent.is c.in-Some.ensures.cases.0

pub returns-clause-errors : goal.returns-clause-errors
returns-clause-errors c =
    let script = script_of c.args.script in
    let d = c.args.cell.now in
    let r = c.in-Some.entry.now in
    let f = c.failure-failure.result in
    let name = c.as_bytes-name.result.now in
    let front = agent_front name in
    let old = c.args.told.now.errors.items in
    let one = c.in_ok-tell_end.ensures.errors in
    let two = c.in_ok-tell_end-2.ensures.errors in
    let failed = c.how_ended-failed.ensures ∙ ap (λ (o : Option Outcome). how_ended o) c.failed_by.ensures in
    let told : AgentTold script name f r.outcome r.place (one.0 ++ two.0) = record {
      failed = one.0;
      stopped = two.0;
      first = ended_told script front (failed_by f) None one.0 (subst (λ (o : Outcome). IsLesson script (end_line front o) (end_place o None) one.0) failed one.1);
      behind = ended_told script front r.outcome r.place two.0 (subst (λ (o : Outcome). IsLesson script (end_line front o) (end_place o r.place) two.0) c.how_ended-stopped.ensures two.1);
      is = refl;
    } in (
      one.0 ++ two.0,
      agent_told script (failure_of c.args.shared.now) d.kind c.args.number name d.name c.args.entries.now r c.in-Some.rest.now f (one.0 ++ two.0) c.in-Agent.is c.in-Some.ensures.cases.0 c.as_bytes-name.ensures.value c.failure-failure.ensures told,
      two.2 ∙ ap (λ (l : List ℕ). l ++ two.0) one.2 ∙ append_assoc old one.0 two.0,
    )

pub returns-clause-status : goal.returns-clause-status
returns-clause-status c =
    let d = c.args.cell.now in
    let r = c.in-Some.entry.now in
    let f = c.failure-failure.result in
    let old = c.args.told.now.status in
    let between = c.tell_end.new.told.status in
    let failed = c.how_ended-failed.ensures ∙ ap (λ (o : Option Outcome). how_ended o) c.failed_by.ensures in
    let first : between ≡ max old (end_status (failed_by f)) = c.tell_end.ensures.status ∙ ap (λ (o : Outcome). max old (status_of o)) failed ∙ ap (λ (n : ℕ). max old n) (ended_status (failed_by f)) in
    let second = c.tell_end-2.ensures.status
    ∙ ap (λ (o : Outcome). max between (status_of o)) c.how_ended-stopped.ensures
    ∙ ap (λ (n : ℕ). max between n) (ended_status r.outcome)
    ∙ ap (λ (n : ℕ). max n (end_status r.outcome)) first
    in
    agent_status old c.tell_end-2.new.told.status (failure_of c.args.shared.now) d.kind c.args.number d.name c.args.entries.now r c.in-Some.rest.now f c.in-Agent.is c.in-Some.ensures.cases.0 c.failure-failure.ensures second
