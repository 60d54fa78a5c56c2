use Rattle.txs_verify.proofs.Refusals.{code_refused}
use Rattle.txs_verify.proofs.load.check.Goals as goal

pub returns-clause-refused : goal.returns-clause-refused
returns-clause-refused c = code_refused c.args.code c.in-Err.error c.of_code.result c.of_code.ensures c.in-Err.ensures.refused c.in-Err.ensures.ill_typed
