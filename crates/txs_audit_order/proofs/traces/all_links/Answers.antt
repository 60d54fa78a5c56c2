use Rattle.std.proofs.Common.{◌∙◌, [], List, ap, replicate}
use Rattle.txs_theorem_serial.specs.Order.{agent_links, thread_links}
use Rattle.txs_value_cell.specs.Agents.{agents_from}
use Rattle.txs_audit_order.specs.Linked.{with_links}
use Rattle.txs_audit_order.specs.Ordered.{books_as, traces_in}
use Rattle.txs_audit_order.specs.declared.links.Before.{Before}
use Rattle.txs_audit_order.proofs.Linking.{two_join}
use Rattle.txs_audit_order.proofs.traces.all_links.Goals as goal

pub returns : goal.returns
returns c =
    let r = c.args.report.now in
    let empty : List (List Before) = replicate c.args.books [] in
    two_join empty c.link_threads.new.rows.items c.link_agents.new.rows.items (thread_links (books_as r) (traces_in r.threads.items)) (agent_links (books_as r) (agents_from 0 c.args.cells.now) (traces_in r.agents.items))
    (c.in_ok-link_threads.ensures ∙ ap (λ rans. with_links c.in_ok-rows.rows.items (thread_links (books_as r) (traces_in rans))) c.as_slice.ensures.value ∙ ap (λ rows. with_links rows (thread_links (books_as r) (traces_in r.threads.items))) c.in_ok-rows.ensures)
    c.in_ok-link_agents.ensures
