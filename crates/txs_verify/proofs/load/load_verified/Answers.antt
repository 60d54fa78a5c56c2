use Rattle.std.proofs.Common.{rules}
use Rattle.txs_verify.proofs.load.load_verified.Goals as goal

pub returns-in_err-code-clause-refused : goal.returns-in_err-code-clause-refused
returns-in_err-code-clause-refused c = search rules

pub returns-in-Ok-clause-form : goal.returns-in-Ok-clause-form
returns-in-Ok-clause-form c = search rules
