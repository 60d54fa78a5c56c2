use Rattle.txs_theorem_language.proofs.First.{checks_first, validators_first}
use Rattle.txs_theorem_language.proofs.law.checks_refuse_the_first.Goals as goal

pub returns-clause-bodies : goal.returns-clause-bodies
returns-clause-bodies c = λ bytes forms p e reads resolves stops b is d fault. checks_first bytes forms p e reads resolves stops b is d fault

pub returns-clause-validators : goal.returns-clause-validators
returns-clause-validators c = λ bytes forms p e reads resolves stops d fault. validators_first bytes forms p e reads resolves stops d fault
