use Rattle.std.proofs.Common.{◌++◌, ◌∷◌, [], subst, sym}
use Rattle.txs_machine.specs.Playing.{AreReported}
use Rattle.txs_machine.specs.Running.{attendants}
use Rattle.txs_machine.proofs.Playing.{attendants_append, reported_more}
use Rattle.txs_machine.proofs.schedule.report_agents.Goals as goal

pub loop-agent-preserved : goal.loop-agent-preserved
loop-agent-preserved c =
    let h = c.loop-agent in
    let x = c.in-Some.agent in
    let more = reported_more c.args.code.now (attendants h.yielded) h.rans.items x.player c.report_of.result h.invariant c.report_of.ensures in
    subst (λ l. AreReported c.args.code.now l c.push.new.self.items) (sym (attendants_append h.yielded x)) (subst (AreReported c.args.code.now (attendants h.yielded ++ x.player ∷ [])) (sym c.in_ok-push.ensures.items) more)
