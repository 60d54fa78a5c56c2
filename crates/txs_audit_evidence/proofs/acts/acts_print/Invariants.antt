use Rattle.std.proofs.Common.{◌≡◌, ◌≤◌, ◌++◌, [], drop}
use Rattle.txs_tree_meaning.specs.View.{program_of}
use Rattle.txs_theorem_audit.specs.Pieces.{acts_print, part_of}
use Rattle.txs_audit_order.specs.Named.{plain_trace}
use Rattle.txs_audit_evidence.proofs.acts.acts_print.Given as goal

-- what was printed so far, and what the rest prints, are all
abbrev pub invariant-loop-at : goal.invariant-loop-at
invariant-loop-at l =
    (l.from ≤ l.at)
    × (l.all.items ++ acts_print (program_of l.books.program) l.books.report l.turns (part_of l.from l.at (plain_trace l.trace)) (drop l.at (plain_trace l.trace)) ≡ acts_print (program_of l.books.program) l.books.report l.turns [] (plain_trace l.trace))
