use Rattle.txs_value_data.specs.Printed.{Extends}
use Rattle.txs_cli_report.proofs.written.write_plays.Given as goal

abbrev pub invariant-loop-item : goal.invariant-loop-item
invariant-loop-item l = Extends l.fn.out.items l.out.items
