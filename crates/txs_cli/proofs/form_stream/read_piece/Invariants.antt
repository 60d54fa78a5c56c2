use Rattle.std.proofs.Common.{◌≡◌, false, length}
use Rattle.std.specs.Io.KnownBytes.{Keeps}
use Rattle.txs_cli.proofs.form_stream.read_piece.Given as goal

abbrev pub invariant-loop-asked : goal.invariant-loop-asked
invariant-loop-asked g l =
    record {
      kept : Keeps (g.R.Read.remaining l.fn.reader) (g.R.Read.remaining l.reader);
      going : l.asked.failed ≡ false;
      long : length l.piece ≡ length l.fn.piece;
    }

abbrev pub decreases-loop-asked : goal.decreases-loop-asked
decreases-loop-asked g l = l.asked.patience
