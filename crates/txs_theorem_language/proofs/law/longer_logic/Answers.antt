use Rattle.txs_theorem_language.proofs.Logic as logic
use Rattle.txs_theorem_language.proofs.law.longer_logic.Goals as goal

pub returns-clause-and_is : goal.returns-clause-and_is
returns-clause-and_is c = λ room scope wanted at e f rest x y lt is_x is_y. logic.and_is room scope wanted at e f rest x y lt is_x is_y

pub returns-clause-or_is : goal.returns-clause-or_is
returns-clause-or_is c = λ room scope wanted at e f rest x y lt is_x is_y. logic.or_is room scope wanted at e f rest x y lt is_x is_y
