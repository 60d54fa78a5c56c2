use Rattle.txs_theorem_language.proofs.Levels.{one_level_more}
use Rattle.txs_theorem_language.proofs.law.one_level_more_changes_no_tree.Goals as goal

pub returns : goal.returns
returns c = one_level_more
