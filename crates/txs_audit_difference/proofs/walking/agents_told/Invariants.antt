use Rattle.std.proofs.Common.{◌≡◌, drop}
use Rattle.txs_tree_meaning.specs.View.{program_of}
use Rattle.txs_theorem_audit.specs.Audited.{books_of}
use Rattle.txs_theorem_audit.specs.Pieces.{agent_pieces}
use Rattle.txs_audit_difference.specs.Difference.{pieces_told}
use Rattle.txs_audit_difference.proofs.walking.agents_told.Given as goal

-- what is told is what the other agents tell
abbrev pub invariant-loop-i : goal.invariant-loop-i
invariant-loop-i l =
    pieces_told (program_of l.books.program) l.books.report l.turns (agent_pieces (books_of l.books.report) l.i (drop l.i l.books.report.agents)) ≡ pieces_told (program_of l.books.program) l.books.report l.turns (agent_pieces (books_of l.books.report) 0 l.books.report.agents)
