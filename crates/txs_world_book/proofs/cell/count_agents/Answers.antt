use Rattle.std.proofs.Common.{◌≤◌, List, arith, length, rules, subst, sym}
use Rattle.std.proofs.lemmas.List.{take_all}
use Rattle.txs_world_book.specs.Stands.{AreCounted}
use Rattle.txs_world_book.specs.declared.cell.StoreCell.{StoreCell}
use Rattle.txs_world_book.proofs.Counting.{counted_next, one_few}
use Rattle.txs_world_book.proofs.cell.count_agents.Goals as goal

pub loop-cell-preserved : goal.loop-cell-preserved
loop-cell-preserved c =
    let h = c.loop-cell in
    let one = one_few c.cell-item.result in
    let few = h.invariant.few in
    record {
      many = search rules;
      room = subst (λ n. length c.args.cells.now ≤ n) (sym c.push_reserved.ensures.capacity) h.invariant.room;
      counted = counted_next c.args.cells.now h.cell-index c.cell-item.result h.before.items c.push_reserved.new.self.items h.agents c.agents_in-agents.result c.loop-cell-test.true c.cell-item.is c.push_reserved.ensures.items c.agents_in-agents.ensures.kind h.invariant.counted;
      few = omega (arith, few, one, c.agents_in-agents.ensures.kind);
    }

pub returns : goal.returns
returns c =
    let h = c.loop-cell in
    subst (λ (cells : List StoreCell). AreCounted cells h.before.items h.agents) (take_all h.cell-index c.args.cells.now c.loop-cell-test.false) h.invariant.counted
