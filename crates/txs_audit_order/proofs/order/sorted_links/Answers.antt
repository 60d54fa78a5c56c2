use Rattle.std.proofs.Common.{◌∙◌, [], ap, replicate}
use Rattle.txs_audit_order.specs.Linked.{with_links}
use Rattle.txs_audit_order.specs.Ordered.{links_as}
use Rattle.txs_audit_order.proofs.Linking.{are_links}
use Rattle.txs_audit_order.proofs.order.sorted_links.Goals as goal

pub returns : goal.returns
returns c =
    let r = c.args.report.now in
    are_links (links_as c.args.program.now.cells r) c.args.books c.in_ok-rows.rows.items c.sort_rows.new.rows.items (c.in_ok-rows.ensures ∙ ap (λ cells. with_links (replicate c.args.books []) (links_as cells r)) c.cells.ensures) c.sort_rows.ensures
