use Rattle.std.proofs.Common.{ℕ, ◌≡◌, ◌+◌, drop, Ok, Err}
use Rattle.txs_tree_eval_transaction.specs.Worked.{Finds}
use Rattle.txs_tree_eval_transaction.proofs.writes.find.Given as goal

abbrev pub invariant-loop-write : goal.invariant-loop-write
invariant-loop-write l =
    (l.place ≡ l.write-index)
    × ((j : ℕ) → Finds (λ w. w.0.number) (drop l.write-index l.writes) l.number (Ok j) → Finds (λ w. w.0.number) l.writes l.number (Ok (j + l.place)))
    × ((j : ℕ) → Finds (λ w. w.0.number) (drop l.write-index l.writes) l.number (Err j) → Finds (λ w. w.0.number) l.writes l.number (Err (j + l.place)))
