use Rattle.std.proofs.Common.{ap, length}
use Rattle.txs_tree_eval_node.specs.Events.{seen_events}
use Rattle.txs_tree_meaning.specs.View.{program_of}
use Rattle.txs_audit_event.specs.Meant.{doer_means}
use Rattle.txs_audit_event.specs.declared.what.What.TheVariants as what
use Rattle.txs_audit_event.proofs.Meaning.{asks_so}
use Rattle.txs_audit_event.proofs.asking.other_what.Goals as goal

pub returns : goal.returns
returns c =
    let q = c.args.question in
    let p = program_of q.books.now.program in
    ap what.Event (asks_so c.in_ok-meant.meant (length q.front.now) (doer_means p q.turns q.doer (seen_events q.front.now)) c.in_ok-meant.ensures)
