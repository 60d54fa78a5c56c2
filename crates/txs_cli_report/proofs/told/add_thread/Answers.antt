use Rattle.std.proofs.Common.{◌≡◌, ◌++◌, ◌∙◌, ℕ, List, max, OnOk, ap, subst}
use Rattle.txs_world_protocol.specs.declared.event.Outcome.{Outcome}
use Rattle.txs_cli_report.specs.Lent.{script_of}
use Rattle.txs_cli_report.specs.Lines.{IsLesson, end_line, end_place, status_of, thread_front}
use Rattle.txs_cli_report.proofs.Fronts.{on_any}
use Rattle.txs_cli_report.proofs.told.add_thread.Goals as goal

pub returns-clause-errors : goal.returns-clause-errors
returns-clause-errors c =
    let script = script_of c.args.script in
    let front = thread_front c.args.k in
    let old = c.args.told.now.errors.items in
    let new = c.tell_end.new.told.errors.items in
    subst (λ (o : Outcome). OnOk c.tell_end.result ((line : List ℕ) × IsLesson script (end_line front o) (end_place o c.args.thread.now.place) line × (new ≡ old ++ line))) c.how_ended.ensures c.tell_end.ensures.errors

pub returns-clause-status : goal.returns-clause-status
returns-clause-status c =
    let old = c.args.told.now.status in
    on_any c.tell_end.result _ (c.tell_end.ensures.status ∙ ap (λ (o : Outcome). max old (status_of o)) c.how_ended.ensures)
