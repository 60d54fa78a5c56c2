use Rattle.std.proofs.Common.{◌++◌, ◌∷◌, [], append-nil, append_assoc, sym, ap, ◌∙◌}
use Rattle.txs_machine.specs.Running.{attendants}
use Rattle.txs_machine.proofs.Playing.{attendants_append}
use Rattle.txs_explore.proofs.replay.all_players.Goals as goal

pub loop-agent-init : goal.loop-agent-init
loop-agent-init c = sym (append-nil c.args.players.threads.items)

pub loop-agent-preserved : goal.loop-agent-preserved
loop-agent-preserved c =
    let h = c.loop-agent in
    let x = c.in-Some.agent in
    c.in_ok-push.ensures.items
    ∙ ap (λ l. l ++ x.player ∷ []) h.invariant
    ∙ append_assoc c.args.players.threads.items (attendants h.yielded) (x.player ∷ [])
    ∙ ap (λ l. c.args.players.threads.items ++ l) (sym (attendants_append h.yielded x))
