use Rattle.std.proofs.Common.{◌≡◌, drop}
use Rattle.txs_tree_meaning.specs.View.{program_of}
use Rattle.txs_theorem_audit.specs.Pieces.{thread_pieces}
use Rattle.txs_audit_difference.specs.Difference.{pieces_told}
use Rattle.txs_audit_difference.proofs.walking.threads_told.Given as goal

-- what is told is what the other threads tell
abbrev pub invariant-loop-i : goal.invariant-loop-i
invariant-loop-i l =
    pieces_told (program_of l.books.program) l.books.report l.turns (thread_pieces l.i (drop l.i l.books.report.threads)) ≡ pieces_told (program_of l.books.program) l.books.report l.turns (thread_pieces 0 l.books.report.threads)
