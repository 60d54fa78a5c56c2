use Rattle.std.proofs.Common.{◌∙◌, ap}
use Rattle.txs_code_decode.specs.CodeForm.{form}
use Rattle.txs_code_meaning.specs.PlainCode.{PlainCode}
use Rattle.txs_cli_report.proofs.report.form_of.Goals as goal

pub returns : goal.returns
returns c = let e = c.answer.ensures in record { output = e.whole ∙ c.in_ok-bytes.ensures ∙ ap (λ (d : PlainCode). form d) c.code.ensures.value; errors = e.errors; status = e.status }
