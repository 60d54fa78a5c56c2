use Rattle.std.proofs.Common.{◌≡◌, ◌+◌, length, drop}
use Rattle.txs_cli_events.specs.Noted.{RestOfPrints, ArePrinted}
use Rattle.txs_cli_events.proofs.check.are_printed.Given as goal

abbrev pub invariant-loop-note : goal.invariant-loop-note
invariant-loop-note l = record {
  one_each : length l.counts.items ≡ length l.report.threads.items + length l.report.agents.items;
  rest : RestOfPrints l.report l.counts.items (drop l.note-index l.notes) → ArePrinted l.report l.notes;
}
