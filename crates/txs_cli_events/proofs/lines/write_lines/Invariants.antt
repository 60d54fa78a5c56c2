use Rattle.std.proofs.Common.{◌≡◌, ◌++◌, take}
use Rattle.std.specs.List.{flat_map}
use Rattle.txs_cli_events.specs.LongLines.{long_line}
use Rattle.txs_cli_events.proofs.lines.write_lines.Given as goal

abbrev pub invariant-loop-note : goal.invariant-loop-note
invariant-loop-note l = l.out.items ≡ l.fn.out.items ++ flat_map (long_line l.run.cells.now l.run.report.now) (take l.note-index l.notes)
