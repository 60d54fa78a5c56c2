use Rattle.std.proofs.Common.{◌≡◌, ◌++◌, drop}
use Rattle.txs_world_shared.specs.SharedState.{newest_of}
use Rattle.txs_value_data.specs.Printed.{Extends}
use Rattle.txs_cli_report.specs.CellLines.{cell_lines}
use Rattle.txs_cli_report.proofs.cells.append_cells.Given as goal

abbrev pub invariant-loop-i : goal.invariant-loop-i
invariant-loop-i l =
    record {
      lines : l.output.items ++ cell_lines (newest_of l.shared) l.i (drop l.i l.cells) ≡ l.fn.output.items ++ cell_lines (newest_of l.shared) 0 l.cells;
      kept : Extends l.fn.output.items l.output.items;
    }
