use Rattle.std.proofs.Common.{◌≡◌, ◌<◌, ℕ, false, get_or}
use Rattle.txs_cli_explore.specs.Changes.{is_newline}
use Rattle.txs_cli_explore.proofs.changes.split_line.Given as goal

abbrev pub invariant-loop-i : goal.invariant-loop-i
invariant-loop-i l = (k : ℕ) → k < l.i → is_newline (get_or l.text k 0) ≡ false
