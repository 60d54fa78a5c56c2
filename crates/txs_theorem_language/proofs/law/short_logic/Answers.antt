use Rattle.txs_theorem_language.proofs.Logic as logic
use Rattle.txs_theorem_language.proofs.law.short_logic.Goals as goal

pub returns-clause-and_none : goal.returns-clause-and_none
returns-clause-and_none c = logic.and_none

pub returns-clause-or_none : goal.returns-clause-or_none
returns-clause-or_none c = logic.or_none

pub returns-clause-and_one : goal.returns-clause-and_one
returns-clause-and_one c = logic.and_one

pub returns-clause-or_one : goal.returns-clause-or_one
returns-clause-or_one c = logic.or_one
