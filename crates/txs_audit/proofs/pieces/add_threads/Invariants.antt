use Rattle.std.proofs.Common.{◌≡◌, ◌++◌, drop}
use Rattle.std.specs.Prelude.{map}
use Rattle.txs_theorem_audit.specs.Audited.{ran_as}
use Rattle.txs_theorem_audit.specs.Pieces.{thread_pieces}
use Rattle.txs_audit.specs.Pieced.{pieces_as}
use Rattle.txs_audit.proofs.pieces.add_threads.Given as goal

-- what there is, and what is still to join, are all
abbrev pub invariant-loop-i : goal.invariant-loop-i
invariant-loop-i l = pieces_as l.pieces.items ++ thread_pieces l.i (map ran_as (drop l.i l.threads)) ≡ pieces_as l.fn.pieces.items ++ thread_pieces 0 (map ran_as l.threads)
