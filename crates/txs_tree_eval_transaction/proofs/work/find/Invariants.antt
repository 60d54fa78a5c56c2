use Rattle.std.proofs.Common.{ℕ, ◌≡◌, ◌+◌, drop, Ok, Err}
use Rattle.txs_tree_eval_transaction.specs.Worked.{Finds}
use Rattle.txs_tree_eval_transaction.proofs.work.find.Given as goal

abbrev pub invariant-loop-cell : goal.invariant-loop-cell
invariant-loop-cell l =
    (l.place ≡ l.cell-index)
    × ((j : ℕ) → Finds (λ c. c.number) (drop l.cell-index l.cells) l.number (Ok j) → Finds (λ c. c.number) l.cells l.number (Ok (j + l.place)))
    × ((j : ℕ) → Finds (λ c. c.number) (drop l.cell-index l.cells) l.number (Err j) → Finds (λ c. c.number) l.cells l.number (Err (j + l.place)))
