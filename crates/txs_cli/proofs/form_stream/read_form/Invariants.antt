use Rattle.std.proofs.Common.{◌≡◌, ◌⊎◌, true, false, length}
use Rattle.std.specs.Io.KnownBytes.{Consumes, IsAtEnd}
use Rattle.txs_verify.specs.Load.{is_settled}
use Rattle.txs_cli.specs.CodeStream.{IsNoFurther}
use Rattle.txs_cli.proofs.FormStream.{left_to_read}
use Rattle.txs_cli.proofs.form_stream.read_form.Given as goal

abbrev pub invariant-loop-going : goal.invariant-loop-going
invariant-loop-going g l =
    record {
      read : Consumes (g.R.Read.remaining l.fn.reader) (g.R.Read.remaining l.reader) l.bytes.items;
      going : l.asked.failed ≡ false;
      open_yet : l.going ≡ true → is_settled l.bytes.items ≡ false;
      enough : l.going ≡ false → IsAtEnd (g.R.Read.remaining l.reader) ⊎ (is_settled l.bytes.items ≡ true);
      further : l.going ≡ false → IsNoFurther l.bytes.items;
    }

abbrev pub decreases-loop-going : goal.decreases-loop-going
decreases-loop-going g l = left_to_read l.going (length l.bytes.items)
