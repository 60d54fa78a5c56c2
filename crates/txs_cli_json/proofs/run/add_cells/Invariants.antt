use Rattle.std.proofs.Common.{◌≡◌, ◌++◌, drop, length, codes, min}
use Rattle.txs_cli_json.specs.Cells.{cell_lines}
use Rattle.txs_cli_json.specs.Json.{AddsLines, times}
use Rattle.txs_cli_json.proofs.run.add_cells.Given as goal

-- there is a line for each so far; these, and those of the cells to come, are all
abbrev pub invariant-loop-number : goal.invariant-loop-number
invariant-loop-number l =
    record {
      lines : AddsLines (times (min l.number (length l.values)) (codes "cell")) l.fn.out.items l.out.items;
      whole : l.out.items ++ cell_lines l.cells l.number (drop l.number l.values) ≡ l.fn.out.items ++ cell_lines l.cells 0 l.values;
    }
