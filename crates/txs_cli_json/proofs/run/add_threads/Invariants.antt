use Rattle.std.proofs.Common.{length, codes, min}
use Rattle.txs_cli_json.specs.Json.{AddsLines, times}
use Rattle.txs_cli_json.proofs.run.add_threads.Given as goal

-- there is a line for each so far
abbrev pub invariant-loop-number : goal.invariant-loop-number
invariant-loop-number l = AddsLines (times (min l.number (length l.fn.run.report.now.threads.items)) (codes "thread")) l.fn.out.items l.out.items
