use Rattle.std.proofs.Common.{◌∙◌, ap}
use Rattle.std.proofs.lemmas.Result.{on_ok_weaker}
use Rattle.txs_theorem_serial.specs.Order.{links_between, links_to, point_of}
use Rattle.txs_audit_order.specs.Linked.{behind_as, next_of, spots_as, with_links}
use Rattle.txs_audit_order.specs.Ordered.{place_as}
use Rattle.txs_audit_order.proofs.Linking.{three_join}
use Rattle.txs_audit_order.proofs.traces.link_event.Goals as goal

pub returns : goal.returns
returns c =
    let known = c.args.known in
    let q = place_as c.args.place in
    let behind = behind_as known.behind in
    on_ok_weaker c.link_next.result
    (λ h. three_join c.args.rows.now.items c.link_one.new.rows.items c.link_behind.new.rows.items c.link_next.new.rows.items (links_to (spots_as known.last) q) (links_to behind q) (links_between behind (next_of q.book c.args.many (point_of c.args.kind.now)))
    c.in_ok-link_one.ensures c.in_ok-link_behind.ensures (h ∙ ap (λ o. with_links c.link_behind.new.rows.items (links_between behind (next_of q.book c.args.many o))) c.point_of.ensures))
    c.link_next.ensures
