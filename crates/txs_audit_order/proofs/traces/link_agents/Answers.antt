use Rattle.std.proofs.Common.{◌∙◌, [], ap, arith, map}
use Rattle.std.proofs.lemmas.List.{get_or_read}
use Rattle.txs_audit_order.specs.Ordered.{books_as, traces_in}
use Rattle.txs_audit_order.specs.Sent.{in_store}
use Rattle.txs_audit_order.proofs.Walking.{agents_few, cell_moves}
use Rattle.txs_audit_order.proofs.traces.link_agents.Goals as goal

pub loop-i-preserved : goal.loop-i-preserved
loop-i-preserved c =
    let books = books_as c.args.report.now in
    let traces = traces_in c.args.report.now.agents.items in
    let i = c.loop-i.i in
    let lt = c.loop-i-test.true in
    let many = c.requires.many in
    let cell = c.index-cells-i.result in
    let senders = c.as_slice.result.now in
    let row = c.as_slice.ensures ∙ get_or_read c.args.senders.now i c.index-senders-i.result (omega (arith, lt, many)) c.index-senders-i.is [] in
    record {
      few = agents_few books senders traces cell.kind i c.loop-i.agent c.in_ok-agent.agent c.loop-i.rows.items c.link_cell.new.rows.items c.loop-i.invariant.few c.in_ok-agent.ensures;
      same = cell_moves books senders traces c.args.cells.now i c.loop-i.agent c.in_ok-agent.agent cell c.loop-i.rows.items c.link_cell.new.rows.items lt c.index-cells-i.is (ap (map in_store) row ∙ c.requires.each i lt) c.in_ok-agent.ensures ∙ c.loop-i.invariant.same;
    }
