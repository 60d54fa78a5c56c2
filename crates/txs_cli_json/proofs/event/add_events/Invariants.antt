use Rattle.std.proofs.Common.{length, codes, min}
use Rattle.txs_cli_json.specs.Json.{AddsLines, times}
use Rattle.txs_cli_json.proofs.event.add_events.Given as goal

-- there is a line for each so far
abbrev pub invariant-loop-order : goal.invariant-loop-order
invariant-loop-order l = AddsLines (times (min l.order (length l.fn.around.run.notes.now)) (codes "event")) l.fn.out.items l.out.items
