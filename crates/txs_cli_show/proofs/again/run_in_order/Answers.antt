use Rattle.txs_cli_show.proofs.Fitting.{is_runnable}
use Rattle.txs_cli_show.proofs.again.run_in_order.Goals as goal

pub replay-requires : goal.replay-requires
replay-requires c = record { few = is_runnable c.args.code.now c.requires.form }
