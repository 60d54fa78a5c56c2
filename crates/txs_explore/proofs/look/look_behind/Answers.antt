use Rattle.std.proofs.Common.{refl, sym, subst}
use Rattle.txs_explore.specs.Looked.{AreFresh, AreLooks}
use Rattle.txs_explore.proofs.Nodes.{node_is}
use Rattle.txs_explore.proofs.Stages.{all_fresh}
use Rattle.txs_explore.proofs.look.look_behind.Goals as goal

pub look_each-requires-clause-fresh : goal.look_each-requires-clause-fresh
look_each-requires-clause-fresh c =
    let at = c.in_ok-stage.ensures in
    subst (AreFresh c.args.code.now c.args.max_steps) (sym c.in_ok-all.ensures) (all_fresh c.args.code.now c.args.max_steps c.in_ok-stage.stage.shared c.in_ok-stage.stage.players at.turns at.playing)

pub returns : goal.returns
returns c =
    let at = c.in_ok-stage.ensures in
    node_is c.args.code.now c.args.max_steps c.args.asks.now c.in_ok-stage.stage.shared c.in_ok-stage.stage.players (record { shared = c.in_ok-stage.stage.shared; looks = c.in_ok-looks.looks }) at
    (subst (λ l. AreLooks c.args.code.now l c.in_ok-looks.looks.items) c.in_ok-all.ensures c.in_ok-looks.ensures) refl
