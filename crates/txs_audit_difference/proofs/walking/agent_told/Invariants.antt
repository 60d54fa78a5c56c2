use Rattle.std.proofs.Common.{◌≡◌, drop, map}
use Rattle.txs_tree_meaning.specs.View.{program_of}
use Rattle.txs_theorem_audit.specs.Audited.{books_of, place_of}
use Rattle.txs_theorem_audit.specs.Pieces.{act_pieces}
use Rattle.txs_audit_difference.specs.Difference.{pieces_told}
use Rattle.txs_audit_difference.proofs.walking.agent_told.Given as goal

-- what is told is what the other entries tell
abbrev pub invariant-loop-at : goal.invariant-loop-at
invariant-loop-at l =
    pieces_told (program_of l.books.program) l.books.report l.turns (act_pieces (books_of l.books.report) l.agent l.from l.at (drop l.at (map place_of l.trace)))
    ≡ pieces_told (program_of l.books.program) l.books.report l.turns (act_pieces (books_of l.books.report) l.agent 0 0 (map place_of l.trace))
