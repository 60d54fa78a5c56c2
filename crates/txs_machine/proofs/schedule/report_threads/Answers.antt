use Rattle.std.proofs.Common.{◌++◌, ◌∷◌, [], subst, sym}
use Rattle.txs_machine.specs.Playing.{AreReported}
use Rattle.txs_machine.proofs.Playing.{reported_more}
use Rattle.txs_machine.proofs.schedule.report_threads.Goals as goal

pub loop-player-preserved : goal.loop-player-preserved
loop-player-preserved c =
    let h = c.loop-player in
    let x = c.in-Some.player in
    subst (AreReported c.args.code.now (h.yielded ++ x ∷ [])) (sym c.in_ok-push.ensures.items) (reported_more c.args.code.now h.yielded h.rans.items x c.report_of.result h.invariant c.report_of.ensures)
