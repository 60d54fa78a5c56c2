use Rattle.txs_theorem_language.proofs.Names.{defined_is, operation_is, unknown_is}
use Rattle.txs_theorem_language.proofs.law.names_without_locals.Goals as goal

pub returns-clause-definition : goal.returns-clause-definition
returns-clause-definition c = defined_is

pub returns-clause-operation : goal.returns-clause-operation
returns-clause-operation c = operation_is

pub returns-clause-nothing : goal.returns-clause-nothing
returns-clause-nothing c = unknown_is
