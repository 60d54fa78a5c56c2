use Rattle.std.proofs.Common.{rules, drop, ◌+◌, refl}
use Rattle.std.proofs.lemmas.Bool.{eq-eqb, ne_eqb}
use Rattle.txs_tree_eval_node.specs.Events.{seen_event, seen_events}
use Rattle.txs_tree_eval_node.proofs.Leaf.{todo_here}
use Rattle.txs_tree_eval_node.proofs.state.Progress.next.Goals as goal

pub returns-then-event-book-clause-comes : goal.returns-then-event-book-clause-comes
returns-then-event-book-clause-comes c =
    let es = c.args.self.now.events.now in
    let i = c.args.self.now.eaten in
    (seen_event c.in-Some.event.now, drop (i + 1) (seen_events es), todo_here es i c.in-Some.event.now (search rules) (search rules), ne_eqb c.in-Some.event.now.book c.args.book c.if-event-book.true, refl)

pub returns-clause-comes : goal.returns-clause-comes
returns-clause-comes c =
    let es = c.args.self.now.events.now in
    let i = c.args.self.now.eaten in
    (drop (i + 1) (seen_events es), todo_here es i c.in-Some.event.now (search rules) (search rules), eq-eqb c.in-Some.event.now.book c.args.book c.if-event-book.false)
