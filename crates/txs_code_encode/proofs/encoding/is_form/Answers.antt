use Rattle.std.proofs.Common.{rules}
use Rattle.txs_code_encode.proofs.encoding.is_form.Goals as goal

pub returns-in-Ok-clause-form : goal.returns-in-Ok-clause-form
returns-in-Ok-clause-form c = search rules
