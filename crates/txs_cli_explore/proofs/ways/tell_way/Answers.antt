use Rattle.std.proofs.Common.{◌≡◌, List, subst, true}
use Rattle.txs_audit_book.specs.Answered.{finishing}
use Rattle.txs_cli.specs.Runner.{IsWorked}
use Rattle.txs_cli_audit.specs.Audit.{HasNoAnswer}
use Rattle.txs_cli_report.specs.Lent.{script_of, told_of}
use Rattle.txs_cli_report.specs.Told.{Told}
use Rattle.txs_explore.specs.Reported.{reported}
use Rattle.txs_explore.specs.Ways.{as_ending}
use Rattle.txs_machine.specs.Schedule.{spread}
use Rattle.txs_machine.specs.Scheduled.{IsScheduledRun}
use Rattle.txs_machine.specs.declared.schedule.Entries.{Entries}
use Rattle.txs_machine.specs.declared.schedule.Play.{Play}
use Rattle.txs_world_shared.specs.SharedState.{PlainShared}
use Rattle.txs_cli_explore.proofs.Ran.{some_at}
use Rattle.txs_cli_explore.proofs.ways.tell_way.Goals as goal
use Rattle.txs_cli_explore.specs.Explored.{OutcomeTells, WayTells}

pub returns : goal.returns
returns g c =
    let x = c.args.exploring in
    let parts = c.args.compiled.now.0 in
    let code = c.args.compiled.now.1 in
    let way = c.args.way.now in
    let plays = spread c.args.plays.now in
    let ran = c.in-Some.ran in
    let o = c.in_ok-ran.field-0 in
    let of = c.in_ok-ran.ensures in
    let tells : PlainShared → Entries → Told → Type 0 = OutcomeTells x.audit (λ p r e. HasNoAnswer (goal.A-post g c.args.auditor.now) p r (finishing x.steps) 4 e) (script_of c.args.script) x.steps parts code in
    let is : WayTells code x.steps tells way (told_of c.in_ok-told.told) = record {
      shared = ran.0;
      entries = ran.1;
      worked = some_at o ran (λ r. IsWorked code x.steps r.0 r.1) c.in-Some.is of.worked;
      scheduled = subst (λ (ps : List Play). IsScheduledRun code x.steps ps true ran.0 ran.1.threads.items ran.1.agents.items) c.requires.plays
          (some_at o ran (λ r. IsScheduledRun code x.steps plays true r.0 r.1.threads.items r.1.agents.items) c.in-Some.is of.scheduled);
      ending = some_at o ran (λ r. as_ending way.ending ≡ reported r.0 r.1) c.in-Some.is of.ending;
      told = c.in_ok-told.ensures;
    }
    in
    is
