use Rattle.txs_resolve_expand.proofs.Nearest as nearest
use Rattle.txs_resolve_expand.proofs.law.nearest_local.Goals as goal

pub returns-clause-found : goal.returns-clause-found
returns-clause-found c = nearest.found

pub returns-clause-alone : goal.returns-clause-alone
returns-clause-alone c = nearest.alone

pub returns-clause-missing : goal.returns-clause-missing
returns-clause-missing c = nearest.missing

pub returns-clause-nowhere : goal.returns-clause-nowhere
returns-clause-nowhere c = nearest.nowhere
