use Rattle.txs_compile.proofs.HasForm.{scripts_have_forms}
use Rattle.txs_compile.proofs.byte_form.code_of_script_has_form.Goals as goal

pub returns : goal.returns
returns c = scripts_have_forms
