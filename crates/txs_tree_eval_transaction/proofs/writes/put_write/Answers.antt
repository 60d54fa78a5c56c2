use Rattle.std.proofs.Common.{Ok, Err, subst, sym, ◌∙◌, ◌<◌, ◌≤◌}
use Rattle.txs_tree_eval_transaction.specs.Worked.{Finds}
use Rattle.txs_tree_eval_transaction.proofs.Leaf.{found_within, missed_within, with_write_found, with_write_missed}
use Rattle.txs_tree_eval_transaction.proofs.writes.put_write.Goals as goal

pub index_mut-requires : goal.index_mut-requires
index_mut-requires c = subst (λ k. c.in-Ok.place < k) c.as_slice.ensures.len (found_within (λ w. w.0.number) c.as_slice.result.now c.args.cell.number c.in-Ok.place c.in-Ok.ensures)

pub insert-requires : goal.insert-requires
insert-requires c = subst (λ k. c.in-Err.place ≤ k) c.as_slice.ensures.len (missed_within (λ w. w.0.number) c.as_slice.result.now c.args.cell.number c.in-Err.place c.in-Err.ensures)

pub returns-in-Ok : goal.returns-in-Ok
returns-in-Ok c = sym (with_write_found c.args.writes.now.items c.args.cell c.args.value c.in-Ok.place (subst (λ l. Finds (λ w. w.0.number) l c.args.cell.number (Ok c.in-Ok.place)) c.as_slice.ensures.value c.in-Ok.ensures))

pub returns-in_ok-insert-in-Err : goal.returns-in_ok-insert-in-Err
returns-in_ok-insert-in-Err c =
    c.in_ok-insert-in-Err.ensures.items
    ∙ sym (with_write_missed c.args.writes.now.items c.args.cell c.args.value c.in-Err.place (subst (λ l. Finds (λ w. w.0.number) l c.args.cell.number (Err c.in-Err.place)) c.as_slice.ensures.value c.in-Err.ensures))
