use Rattle.std.proofs.Common.{◌≡◌, ◌++◌, drop}
use Rattle.txs_cli_explore.specs.Changes.{lines_of, signed}
use Rattle.txs_cli_explore.proofs.changes.add_lines.Given as goal

-- with the lines to come this is all
abbrev pub invariant-loop-line : goal.invariant-loop-line
invariant-loop-line l = l.output.items ++ signed l.sign (lines_of (drop l.line-index l.lines)) ≡ l.fn.output.items ++ signed l.sign (lines_of l.lines)
