use Rattle.std.proofs.Common.{sym, subst}
use Rattle.bstr.specs.Utf8.{decoded}
use Rattle.txs_reader.specs.Sign.{First}
use Rattle.txs_reader.proofs.Signs.{First-decoded}
use Rattle.txs_reader.proofs.sign.first_sign.Goals as goal

pub returns : goal.returns
returns c =
    let bytes = c.args.bytes.now in
    subst (λ n. First bytes c.decode.result.0 n) (sym c.decode.ensures.size)
    (subst (λ x. First bytes x (decoded bytes).size) (sym c.decode.ensures.char) (First-decoded bytes c.requires))
