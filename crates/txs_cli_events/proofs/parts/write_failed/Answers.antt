use Rattle.std.proofs.Common.{◌++◌}
use Rattle.std.specs.Prelude.{codes}
use Rattle.txs_value_data.proofs.PrintedLemmas.{ended_by}
use Rattle.txs_cli_events.specs.Run.{cell_name}
use Rattle.txs_cli_events.proofs.parts.write_failed.Goals as goal

pub returns : goal.returns
returns c =
    let name = codes ": agent " ++ cell_name c.args.run.cells.now c.args.agent.number in
    ended_by c.extend_from_slice.result c.args.out.now.items name c.write_name.new.out.items (codes " has failed") c.extend_from_slice.new.self.items c.in_ok-write_name.ensures c.extend_from_slice.ensures.items
