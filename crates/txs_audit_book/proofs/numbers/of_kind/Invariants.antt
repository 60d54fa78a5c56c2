use Rattle.std.proofs.Common.{◌≡◌, ◌++◌, drop}
use Rattle.txs_audit_book.specs.Numbered.{of_kind}
use Rattle.txs_audit_book.proofs.numbers.of_kind.Given as goal

-- what is found so far, with what the other cells give
abbrev pub invariant-loop-i : goal.invariant-loop-i
invariant-loop-i l = l.found.items ++ of_kind l.kind l.i (drop l.i l.cells) ≡ of_kind l.kind 0 l.cells
