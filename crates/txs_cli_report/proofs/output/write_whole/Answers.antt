use Rattle.txs_cli_report.proofs.Begun.{errors_either}
use Rattle.txs_cli_report.proofs.output.write_whole.Goals as goal

pub returns : goal.returns
returns g c = errors_either c.write_streams-ended.result.1 c.write_streams-ended.ensures.whole c.write_streams-ended.ensures.cut
