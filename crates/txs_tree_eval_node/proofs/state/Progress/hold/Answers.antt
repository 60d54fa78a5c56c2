use Rattle.txs_tree_eval_node.proofs.Forms.{held_where}
use Rattle.txs_tree_eval_node.proofs.Leaf.{held_none}
use Rattle.txs_tree_eval_node.proofs.state.Progress.hold.Goals as goal

pub returns-in-Some-clause-held : goal.returns-in-Some-clause-held
returns-in-Some-clause-held c = held_where c.push_actions.result c.args.self.now c.in-Some.held c.push_actions.new.held c.args.sends.now c.in-Some.is c.push_actions.ensures

pub returns-in-None-clause-held : goal.returns-in-None-clause-held
returns-in-None-clause-held c = held_none c.args.self.now c.args.sends.now c.in-None.is
