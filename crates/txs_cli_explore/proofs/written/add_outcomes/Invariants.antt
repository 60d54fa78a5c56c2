use Rattle.std.proofs.Common.{◌≡◌, ◌++◌, ℕ, List, take}
use Rattle.txs_cli_explore.specs.Outcomes.{AreWritten}
use Rattle.txs_cli_explore.proofs.written.add_outcomes.Given as goal

abbrev pub invariant-loop-i : goal.invariant-loop-i
invariant-loop-i l = (text : List ℕ) × AreWritten (take l.i l.outcomes) text × (l.output.items ≡ l.fn.output.items ++ text)
