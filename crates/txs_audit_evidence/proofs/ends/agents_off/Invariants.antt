use Rattle.std.proofs.Common.{◌≡◌, ◌+◌, drop, length}
use Rattle.std.specs.Prelude.{map}
use Rattle.txs_tree_meaning.specs.View.{program_of}
use Rattle.txs_world_book.specs.Served.{cells_of}
use Rattle.txs_theorem_audit.specs.Audited.{ran_as}
use Rattle.txs_theorem_audit.specs.Verdict.{agents_over}
use Rattle.txs_audit_book.specs.Answered.{terms_as}
use Rattle.txs_audit_evidence.proofs.ends.agents_off.Given as goal

-- what is found is what the other agents give
abbrev pub invariant-loop-i : goal.invariant-loop-i
invariant-loop-i l =
    agents_over (terms_as l.terms) (cells_of l.books.program.cells) l.books.report.book (length (program_of l.books.program).threads + l.i) (drop l.i l.agents) (map ran_as (drop l.i l.rans))
    ≡ agents_over (terms_as l.terms) (cells_of l.books.program.cells) l.books.report.book (length (program_of l.books.program).threads) l.agents (map ran_as l.rans)
