use Rattle.std.proofs.Common.{◌≡◌, rules}
use Rattle.txs_world_protocol.specs.declared.ask.Ask.TheVariants as ask
use Rattle.txs_machine_actor.specs.declared.outcome.Turn.TheVariants as turned
use Rattle.txs_history_run.proofs.actor.ask_turn.Goals as goal

pub ask_for-requires-clause-ready : goal.ask_for-requires-clause-ready
ask_for-requires-clause-ready g c =
    let now : c.args.turn.now ≡ turned.Asks ask.Begin = search rules in
    c.requires.ready ask.Begin now

pub ask_for-requires-in-Asks-Look-clause-ready : goal.ask_for-requires-in-Asks-Look-clause-ready
ask_for-requires-in-Asks-Look-clause-ready g c =
    let q = ask.Look c.in-Asks-Look.cell c.in-Asks-Look.at in
    let now : c.args.turn.now ≡ turned.Asks q = search rules in
    c.requires.ready q now
