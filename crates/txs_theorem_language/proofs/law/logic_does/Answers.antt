use Rattle.txs_theorem_language.proofs.Logic as logic
use Rattle.txs_theorem_language.proofs.law.logic_does.Goals as goal

pub returns-clause-and_does : goal.returns-clause-and_does
returns-clause-and_does g c = λ fx call n inside x y at wanted env s. logic.and_does fx call n inside x y at wanted env s

pub returns-clause-or_does : goal.returns-clause-or_does
returns-clause-or_does g c = λ fx call n inside x y at wanted env s. logic.or_does fx call n inside x y at wanted env s
