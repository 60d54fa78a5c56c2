use Rattle.txs_cli_advice_script.proofs.NearLaws.{Nearest-row}
use Rattle.txs_cli_advice_script.proofs.rows.nearest_in.Goals as goal

pub loop-row-preserved : goal.loop-row-preserved
loop-row-preserved g c = Nearest-row (λ row. row.0.now) c.args.rows.now c.loop-row.row-index c.row-item.result c.args.best c.loop-row.best c.nearest_word-best.result c.loop-row-test.true c.row-item.is c.loop-row.invariant c.nearest_word-best.ensures
