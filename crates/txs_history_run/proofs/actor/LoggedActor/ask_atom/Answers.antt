use Rattle.std.proofs.Common.{◌<◌, ℕ, length, sym, ap, subst, ◌∙◌}
use Rattle.txs_world_protocol.specs.declared.ask.Ask.{Ask}
use Rattle.txs_world_protocol.specs.SeenEvent.{home}
use Rattle.txs_history.specs.Logged.{MayNot}
use Rattle.txs_history_run.specs.Actor.{PlainLogged}
use Rattle.txs_history_run.specs.Callees.{AreCallees}
use Rattle.txs_history_run.proofs.Kept.{asked_so, kept_after, same_ask, went_taken}
use Rattle.txs_history_run.proofs.Taking.{gone_follows}
use Rattle.txs_history_run.proofs.actor.LoggedActor.ask_atom.Goals as goal

pub ask_atom-asked-requires-clause-callees : goal.ask_atom-asked-requires-clause-callees
ask_atom-asked-requires-clause-callees g c = subst (λ d. AreCallees d c.self.inside.callees.now) c.self.invariant.0 c.self.invariant.1

pub invariant_of-self-2 : goal.invariant_of-self-2
invariant_of-self-2 g c =
    let p = c.self.inside.player in
    let code = g.J.Run.code in
    let t = c.ask_atom-asked.new in (
      c.self.invariant.0,
      c.self.invariant.1,
      kept_after code g.J.Run.limit t.player t.asks t.past c.is_broken-self-inside.result c.replace.new.dest c.replace.ensures.after (c.ask_atom-asked.ensures.limit ∙ c.self.invariant.2.limit_is)
          (λ e. (let x = c.is_broken-self-inside.ensures.goes e in
          gone_follows c.actors_run.ensures code g.J.Run.limit (home code.cells c.args.atom.now.atom.cell) p t.player c.self.inside.asks t.asks c.self.inside.past t.past c.self.inside.broken c.self.inside.turn c.self.invariant.2 c.self.invariant.3 c.in-Asks.ask
          (sym c.replace.ensures.value ∙ c.in-Asks.is) x.0 x.1 (c.ask_atom-asked.ensures.asked x.0 x.1 x.2) x.3)),
      went_taken c.is_broken-self-inside.result c.replace.new.dest c.replace.ensures.after,
    )

pub returns-clause-unserved : goal.returns-clause-unserved
returns-clause-unserved g c f works q is few =
    let code = g.J.Run.code in
    let atom = c.args.atom.now in
    let asked = asked_so c.self.inside.broken c.self.inside.turn q (ap (λ (x : PlainLogged). x.step) c.self.view_is ∙ is) in
    let same = same_ask c.self.inside.turn c.in-Asks.ask q (sym c.replace.ensures.value ∙ c.in-Asks.is) asked in
    let fewer = subst (λ (n : ℕ). n < 18446744073709551615) (sym (ap (λ (x : PlainLogged). x.asks) c.self.view_is)) few in
    subst (λ (n : ℕ). MayNot code.cells (length code.threads) (home code.cells atom.atom.cell) n q atom.log.log) (ap (λ (x : PlainLogged). x.player.actor.number) c.self.view_is)
    (subst (λ (r : Ask). MayNot code.cells (length code.threads) (home code.cells atom.atom.cell) c.self.inside.player.actor.number r atom.log.log) same (c.ask_atom-asked.ensures.unserved f works fewer))
