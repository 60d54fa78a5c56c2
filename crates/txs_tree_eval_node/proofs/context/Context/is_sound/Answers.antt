use Rattle.std.proofs.Common.{[], subst}
use Rattle.txs_tree_eval_node.specs.Setting.{Setting}
use Rattle.txs_tree_meaning.specs.Sound.{SoundFunctions}
use Rattle.txs_tree_meaning.specs.View.{functions_of}
use Rattle.txs_tree_eval_node.proofs.context.Context.is_sound.Goals as goal

pub returns : goal.returns
returns c = subst (λ (s : Setting). SoundFunctions [] (functions_of s.functions)) c.self.view_is c.self.invariant.0
