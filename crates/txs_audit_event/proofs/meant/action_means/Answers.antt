use Rattle.txs_tree_meaning.specs.View.{program_of}
use Rattle.txs_audit_event.proofs.Answered.{action_answered}
use Rattle.txs_audit_event.proofs.meant.action_means.Goals as goal

pub returns : goal.returns
returns c = action_answered (program_of c.args.books.now.program) c.args.bound c.args.action.now c.args.state.now c.args.seen.now c.in_ok-meaning.meaning c.of_action.result c.of_action.ensures c.in_ok-meaning.ensures
