use Rattle.std.proofs.Common.{◌≡◌, ◌∷◌, ◌<◌, length, refl, rules, ◌∙◌}
use Rattle.txs_value_data.specs.declared.value.CellId.{CellId}
use Rattle.txs_value_data.specs.declared.value.CellKind.TheVariants.{Ref}
use Rattle.txs_history_run.proofs.Back.{agents_next, attended_next, more_left}
use Rattle.txs_history_run.proofs.ending.with_agents.Goals as goal

pub loop-player-preserved : goal.loop-player-preserved
loop-player-preserved c =
    let h = c.loop-player in
    let rest : h.player-iterator.rest.items ≡ c.in-Some.player ∷ c.next.new.self.rest.items = search rules in
    let none : CellId = record { kind = Ref; number = 0 } in
    let many : c.len-in-loop-player.result ≡ length h.all.items = search rules in
    let less : length h.all.items < length c.args.agents.now = more_left (length h.all.items) (length c.args.agents.now) c.in-Some.player h.player-iterator.rest.items c.next.new.self.rest.items rest (h.invariant.many ∙ c.requires.one_each) in
    record {
      room = search rules;
      many = search rules;
      agents = agents_next h.all.items c.push_reserved.new.self.items c.args.agents.now _ none c.len-in-loop-player.result c.push_reserved.ensures.items many less refl h.invariant.agents;
      players = attended_next h.all.items c.push_reserved.new.self.items _ h.player-iterator.rest.items c.next.new.self.rest.items c.args.players.items c.push_reserved.ensures.items rest h.invariant.players;
    }
