use Rattle.std.proofs.Common.{◌≡◌, ◌++◌}
use Rattle.std.specs.Prelude.{map}
use Rattle.txs_theorem_audit.specs.Audited.{books_of, place_of}
use Rattle.txs_theorem_audit.specs.Pieces.{act_pieces}
use Rattle.txs_audit.specs.Pieced.{acts_left, pieces_as}
use Rattle.txs_audit.proofs.pieces.add_agent.Given as goal

-- what there is, and what is still to join, are all
abbrev pub invariant-loop-at : goal.invariant-loop-at
invariant-loop-at l =
    acts_left (books_of l.books.report) (pieces_as l.pieces.items) l.agent l.from l.at (map place_of l.trace) ≡ pieces_as l.fn.pieces.items ++ act_pieces (books_of l.books.report) l.agent 0 0 (map place_of l.trace)
