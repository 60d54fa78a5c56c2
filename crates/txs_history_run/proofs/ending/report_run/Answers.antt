use Rattle.txs_history_run.proofs.Report.{run_report}
use Rattle.txs_history_run.proofs.ending.report_run.Goals as goal

pub returns-in-Ok-report_back-clause-report : goal.returns-in-Ok-report_back-clause-report
returns-in-Ok-report_back-clause-report g c =
    run_report c.settled_is_run.ensures c.typed_threads_are_staged.ensures c.args.code.now g.J.Run.code g.J.Run.limit c.rooms.result.0.now c.rooms.result.1.now c.in-Ok.shared c.args.store c.args.atoms.items c.args.actors.items c.in-Ok-report_back.report c.rooms.ensures
    c.requires.code
    c.requires.few
    c.requires.one_each
    c.requires.back
    c.in-Ok.ensures.state
    c.in-Ok.ensures.parts
    c.events-stands.ensures.stands
    c.in-Ok-report_back.ensures
