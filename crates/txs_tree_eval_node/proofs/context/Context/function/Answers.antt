use Rattle.std.proofs.Common.{rules, ◌≡◌, [], get_or, ap, ◌∙◌, subst}
use Rattle.txs_tree_eval_node.specs.Setting.{Setting}
use Rattle.txs_tree_meaning.specs.Sound.{SoundFunctions}
use Rattle.txs_tree_meaning.specs.View.{functions_of}
use Rattle.txs_tree_meaning.proofs.Callable.{functions_of-at}
use Rattle.txs_tree_eval_node.proofs.context.Context.function.Goals as goal

pub returns-clause-value : goal.returns-clause-value
returns-clause-value c =
    let same : c.self.inside.functions.now ≡ c.args.self.now.functions = search rules in
    functions_of-at c.args.self.now.functions c.args.number c.index-functions-number.result c.requires (c.index-functions-number.is ∙ ap (λ fs. get_or fs c.args.number c.index-functions-number.result) same)

pub returns-clause-sound : goal.returns-clause-sound
returns-clause-sound c = subst (λ (s : Setting). SoundFunctions [] (functions_of s.functions)) c.self.view_is c.self.invariant.0
