use Rattle.std.proofs.Common.{subst, ◌∙◌}
use Rattle.txs_history_run.specs.Callees.{AreCallees}
use Rattle.txs_history_run.proofs.Kept.{kept_after, went_taken}
use Rattle.txs_history_run.proofs.Taking.{gone_follows}
use Rattle.txs_history_run.proofs.actor.LoggedActor.ask_store.Goals as goal

pub ask_turn-asked-requires-clause-callees : goal.ask_turn-asked-requires-clause-callees
ask_turn-asked-requires-clause-callees g c = subst (λ d. AreCallees d c.self.inside.callees.now) c.self.invariant.0 c.self.invariant.1

pub invariant_of-self : goal.invariant_of-self
invariant_of-self g c =
    let p = c.self.inside.player in
    let t = c.ask_turn-asked.new in (
      c.self.invariant.0,
      c.self.invariant.1,
      kept_after g.J.Run.code g.J.Run.limit t.player t.asks t.past c.is_broken-self-inside.result t.turn c.ask_turn-asked.ensures.taken (c.ask_turn-asked.ensures.limit ∙ c.self.invariant.2.limit_is)
          (λ e. (let x = c.is_broken-self-inside.ensures.goes e in
          let a = c.ask_turn-asked.ensures.asked x.0 x.1 x.2 in
          gone_follows c.actors_run.ensures g.J.Run.code g.J.Run.limit 0 p t.player c.self.inside.asks t.asks c.self.inside.past t.past c.self.inside.broken c.self.inside.turn c.self.invariant.2 c.self.invariant.3 a.0 a.1 x.0 x.1 a.2 x.3)),
      went_taken c.is_broken-self-inside.result t.turn c.ask_turn-asked.ensures.taken,
    )
