use Rattle.std.proofs.Common.{◌≡◌, ◌∙◌, refl, sym}
use Rattle.txs_cli_report.specs.Lent.{lines_of}
use Rattle.txs_cli.proofs.Recording.{told_same}
use Rattle.txs_cli.proofs.record.same_lines.Goals as goal

pub returns : goal.returns
returns c = λ same.
    let a = c.args.a.now in
    let b = c.args.b.now in
    let output : a.output.items ≡ b.output.items = sym c.as_slice.ensures.value ∙ c.same_bytes-output.ensures c.if-not-output.false ∙ c.as_slice-2.ensures.value in
    let errors : a.errors.items ≡ b.errors.items = sym c.as_slice-3.ensures.value ∙ c.same_bytes.ensures same ∙ c.as_slice-4.ensures.value in
    told_same a.output.items b.output.items a.errors.items b.errors.items a.status b.status (lines_of a) (lines_of b) refl refl output errors c.if-a-b.false
