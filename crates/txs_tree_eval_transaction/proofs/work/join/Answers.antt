use Rattle.std.proofs.Common.{Ok, Err, subst, sym, ◌∙◌, ◌≤◌}
use Rattle.txs_tree_eval_transaction.specs.Worked.{Finds}
use Rattle.txs_tree_eval_transaction.proofs.Leaf.{missed_within, with_cell_found, with_cell_missed}
use Rattle.txs_tree_eval_transaction.proofs.work.join.Goals as goal

pub insert-requires : goal.insert-requires
insert-requires c = subst (λ k. c.in-Err.place ≤ k) c.as_slice.ensures.len (missed_within (λ d. d.number) c.as_slice.result.now c.args.cell.number c.in-Err.place c.in-Err.ensures)

pub returns-in-Ok : goal.returns-in-Ok
returns-in-Ok c = sym (with_cell_found c.args.cells.now.items c.args.cell c.in-Ok.field-0 (subst (λ l. Finds (λ d. d.number) l c.args.cell.number (Ok c.in-Ok.field-0)) c.as_slice.ensures.value c.in-Ok.ensures))

pub returns-in_ok-insert-in-Err : goal.returns-in_ok-insert-in-Err
returns-in_ok-insert-in-Err c =
    c.in_ok-insert-in-Err.ensures.items ∙ sym (with_cell_missed c.args.cells.now.items c.args.cell c.in-Err.place (subst (λ l. Finds (λ d. d.number) l c.args.cell.number (Err c.in-Err.place)) c.as_slice.ensures.value c.in-Err.ensures))
