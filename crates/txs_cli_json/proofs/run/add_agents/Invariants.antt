use Rattle.std.proofs.Common.{length, codes, min}
use Rattle.txs_cli_json.specs.Json.{AddsLines, times}
use Rattle.txs_cli_json.proofs.run.add_agents.Given as goal

-- there is a line for each so far
abbrev pub invariant-loop-k : goal.invariant-loop-k
invariant-loop-k l = AddsLines (times (min l.k (length l.fn.run.report.now.agents.items)) (codes "agent")) l.fn.out.items l.out.items
