use Rattle.std.proofs.Common.{◌≡◌, ◌∙◌, List, Ok, Result, ap, refl}
use Rattle.txs_audit_book.specs.Answered.{finishing}
use Rattle.txs_cli_audit.specs.Audit.{HasNoAnswer}
use Rattle.txs_cli_report.specs.Plays.{plays_in}
use Rattle.txs_cli_report.specs.declared.plays.WrongPlay.{WrongPlay}
use Rattle.txs_cli_report.specs.Lent.{script_of, told_of}
use Rattle.txs_cli_report.specs.Told.{Told}
use Rattle.txs_explore.specs.Reported.{plays_of}
use Rattle.txs_machine.specs.Schedule.{spread}
use Rattle.txs_machine.specs.declared.schedule.Entries.{Entries}
use Rattle.txs_machine.specs.declared.schedule.Play.{Play}
use Rattle.txs_machine.specs.declared.schedule.Repeated.{Repeated}
use Rattle.txs_world_shared.specs.SharedState.{PlainShared}
use Rattle.txs_cli_explore.proofs.Ran.{some_at}
use Rattle.txs_cli_explore.proofs.ways.outcome_of.Goals as goal
use Rattle.txs_cli_explore.specs.Explored.{OutcomeTells, WayHas, WayTells}

pub returns : goal.returns
returns g c =
    let x = c.args.exploring in
    let parts = c.args.compiled.now.0 in
    let code = c.args.compiled.now.1 in
    let way = c.args.way.now in
    let t = c.in-Some-told.told in
    let tells : PlainShared → Entries → Told → Type 0 = OutcomeTells x.audit (λ p r e. HasNoAnswer (goal.A-post g c.args.auditor.now) p r (finishing x.steps) 4 e) (script_of c.args.script) x.steps parts code in
    let ok : List Play → Result (List Play) WrongPlay = λ ps. Ok ps in
    let listed : plays_in c.in-Some.list.items ≡ ok (plays_of way.asks.items) =
    some_at c.in_ok-list.field-0 c.in-Some.list (λ l. plays_in l.items ≡ ok (spread c.as_slice-2.result.now)) c.in-Some.is c.in_ok-list.ensures
    ∙ ap (λ (rs : List Repeated). ok (spread rs)) c.as_slice-2.ensures.value ∙ ap ok (c.in_ok-plays.ensures ∙ ap plays_of c.as_slice.ensures.value)
    in
    let has : WayHas code x.steps tells way c.in_ok-lines.lines.items t.status = record {
      told = told_of t;
      ran = some_at c.in_ok-told.told t (λ u. WayTells code x.steps tells way (told_of u)) c.in-Some-told.is c.in_ok-told.ensures;
      lines_are = c.in_ok-lines.ensures;
      status_is = refl;
    }
    in
    (listed, has)
