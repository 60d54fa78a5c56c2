use Rattle.std.proofs.Common.{◌≡◌, ◌&&◌, drop}
use Rattle.txs_audit.specs.Pieced.{pieces_as, sought_of}
use Rattle.txs_audit.proofs.pieces.pieces_found.Given as goal

-- nothing is found so far, and what is sought is what the others give
abbrev pub invariant-loop-piece : goal.invariant-loop-piece
invariant-loop-piece l =
    ((sought_of l.books l.turns (pieces_as (drop l.piece-index l.pieces))).finding ≡ (sought_of l.books l.turns (pieces_as l.pieces)).finding)
    × ((l.serial && (sought_of l.books l.turns (pieces_as (drop l.piece-index l.pieces))).serial) ≡ (sought_of l.books l.turns (pieces_as l.pieces)).serial)
