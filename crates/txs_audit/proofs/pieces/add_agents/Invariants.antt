use Rattle.std.proofs.Common.{◌≡◌, ◌++◌, drop}
use Rattle.std.specs.Prelude.{map}
use Rattle.txs_theorem_audit.specs.Audited.{books_of, ran_as}
use Rattle.txs_theorem_audit.specs.Pieces.{agent_pieces}
use Rattle.txs_audit.specs.Pieced.{pieces_as}
use Rattle.txs_audit.proofs.pieces.add_agents.Given as goal

-- what there is, and what is still to join, are all
abbrev pub invariant-loop-i : goal.invariant-loop-i
invariant-loop-i l = pieces_as l.pieces.items ++ agent_pieces (books_of l.books.report) l.i (map ran_as (drop l.i l.agents)) ≡ pieces_as l.fn.pieces.items ++ agent_pieces (books_of l.books.report) 0 (map ran_as l.agents)
