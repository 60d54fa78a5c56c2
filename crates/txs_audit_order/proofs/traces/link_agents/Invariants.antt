use Rattle.std.proofs.Common.{◌≡◌, ◌≤◌, drop}
use Rattle.txs_value_cell.specs.Agents.{agents_from}
use Rattle.txs_theorem_serial.specs.Order.{agent_links}
use Rattle.txs_audit_order.specs.Ordered.{books_as, traces_in}
use Rattle.txs_audit_order.specs.Linked.{with_links}
use Rattle.txs_audit_order.proofs.traces.link_agents.Given as goal

-- the other cells and entries lead to what all lead to
abbrev pub invariant-loop-i : goal.invariant-loop-i
invariant-loop-i l =
    record {
      few : l.agent ≤ l.i;
      same : with_links l.rows.items (agent_links (books_as l.report) (agents_from l.i (drop l.i l.cells)) (drop l.agent (traces_in l.report.agents.items)))
          ≡ with_links l.fn.rows.items (agent_links (books_as l.report) (agents_from 0 l.cells) (traces_in l.report.agents.items));
    }
