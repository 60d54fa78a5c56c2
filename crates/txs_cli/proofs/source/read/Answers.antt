use Rattle.std.proofs.Common.{IfOk, IfSome, sym, subst}
use Rattle.txs_cli_report.proofs.Fronts.{ok_maps}
use Rattle.txs_cli.proofs.FormStream.{enough_of}
use Rattle.txs_cli.proofs.source.read.Goals as goal
use Rattle.txs_cli.specs.CodeStream.{IsRead}
use Rattle.txs_cli.specs.Source.{IsEnoughOf, IsReadOf, source_of, source_text}
use Rattle.txs_cli.specs.declared.source.Source.{Source}

pub returns-in-Script : goal.returns-in-Script
returns-in-Script g c =
    let known = g.R.Read.remaining c.args.reader.now in
    subst (λ (s : Source). IfOk c.read_bytes.result (λ bytes. IfSome known (λ input. IsReadOf (source_of s) (source_text (source_of s) input) bytes.items))) (sym c.in-Script.is) c.read_bytes.ensures

pub returns-in-Form : goal.returns-in-Form
returns-in-Form g c =
    let known = g.R.Read.remaining c.args.reader.now in
    let left = g.R.Read.remaining c.read_form.new.reader in
    subst (λ (s : Source). IfOk c.read_form.result (λ bytes. IfSome known (λ input. IsReadOf (source_of s) (source_text (source_of s) input) bytes.items))) (sym c.in-Form.is)
    (ok_maps c.read_form.result (λ bytes. IsRead known left bytes.items) (λ bytes. IfSome known (λ input. IsEnoughOf input bytes.items)) (λ bytes h. enough_of known left bytes.items h) c.read_form.ensures.read)
