use Rattle.std.proofs.Common.{◌++◌, codes, decimal}
use Rattle.txs_value_data.proofs.PrintedLemmas.{ended_by}
use Rattle.txs_cli.proofs.lines.end_line.Goals as goal

pub returns : goal.returns
returns c = ended_by c.extend_from_slice.result c.args.line.now.items (codes " at " ++ decimal c.args.at) c.write_number.new.out.items (codes "\n") c.extend_from_slice.new.self.items c.in_ok-write_number.ensures.ok c.extend_from_slice.ensures.items
