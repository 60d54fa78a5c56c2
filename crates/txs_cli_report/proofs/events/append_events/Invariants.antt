use Rattle.std.proofs.Common.{◌≡◌, ◌++◌, drop}
use Rattle.txs_value_data.specs.Printed.{Extends}
use Rattle.txs_cli_report.specs.EventLines.{event_lines}
use Rattle.txs_cli_report.proofs.events.append_events.Given as goal

-- the lines so far, and those of the events to come, are all
abbrev pub invariant-loop-place : goal.invariant-loop-place
invariant-loop-place l =
    record {
      lines : l.output.items ++ event_lines l.place (drop l.place l.events) ≡ l.fn.output.items ++ event_lines 0 l.events;
      kept : Extends l.fn.output.items l.output.items;
    }
