use Rattle.std.proofs.Common.{◌≡◌, ◌≤◌, ◌-◌, ◌++◌, ℕ, List, false, length}
use Rattle.std.specs.Io.KnownBytes.{Consumes}
use Rattle.txs_cli.proofs.form_stream.fill.Given as goal

abbrev pub invariant-loop-bytes : goal.invariant-loop-bytes
invariant-loop-bytes g l =
    record {
      read : (got : List ℕ) × (l.bytes.items ≡ l.fn.bytes.items ++ got) × Consumes (g.R.Read.remaining l.fn.reader) (g.R.Read.remaining l.reader) got;
      few : length l.bytes.items ≤ l.goal;
      going : l.asked.failed ≡ false;
    }

abbrev pub decreases-loop-bytes : goal.decreases-loop-bytes
decreases-loop-bytes g l = l.goal - length l.bytes.items
