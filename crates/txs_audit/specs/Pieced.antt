-- Pieces as an audit's definition has them, and what is sought of them.
use Rattle.std.specs.Prelude.{◌≡◌, ℕ, Bool, true, ◌&&◌, List, ◌++◌, drop, map}
use Rattle.txs_tree_meaning.specs.View.{program_of}
use Rattle.txs_theorem_audit.specs.Audited.{Finding, Fine, and_then}
use Rattle.txs_theorem_audit.specs.Pieces as plain
use Rattle.txs_world_protocol.specs.declared.event.Event.{Event}
use Rattle.txs_theorem_runs.specs.Told.{Place}
use Rattle.txs_theorem_audit.specs.Pieces.{act_pieces, pieces_finding, pieces_serial}
use Rattle.txs_audit_book.specs.Judged.{as_found}
use Rattle.txs_audit_evidence.specs.Evidence.{PlainBooks}
use Rattle.txs_audit_evidence.specs.declared.transactions.Found.{Found}
use Rattle.txs_audit.specs.declared.pieces.Piece.{Piece}
use Rattle.txs_audit.specs.declared.pieces.Piece.TheVariants as piece

-- a piece as the definition of an audit has it
abbrev pub piece_as : Piece → plain.Piece
piece_as (piece.Thread a) = plain.OfThread a
piece_as (piece.Act i from at) = plain.OfAct i from at
piece_as (piece.End i from) = plain.OfEnd i from

-- the same of several
abbrev pub pieces_as : List Piece → List plain.Piece
pieces_as xs = map piece_as xs

-- these pieces, and those of an agent's trace from the k-th entry on, where an action began at the i-th
abbrev pub acts_left : (ℕ → List Event) → List plain.Piece → ℕ → ℕ → ℕ → List Place → List plain.Piece
acts_left books ps a i k trace = ps ++ act_pieces books a i k (drop k trace)

-- what an audit finds, and if that is nothing, whether each commit is covered
pub record Sought : Type 0 where
  pub finding : Finding
  pub serial : Bool

-- nothing is found
abbrev pub nothing : Sought
nothing = record { finding = Fine; serial = true }

-- of these and then of those
abbrev pub both : Sought → Sought → Sought
both s t = record { finding = and_then s.finding t.finding; serial = s.serial && t.serial }

-- what is sought of these pieces, by these books, where each loop makes at most n turns
abbrev pub sought_of : PlainBooks → ℕ → List plain.Piece → Sought
sought_of b n xs = record { finding = pieces_finding (program_of b.program) b.report n xs; serial = pieces_serial (program_of b.program) b.report n xs }

-- the same of one
abbrev pub sought_of_one : PlainBooks → ℕ → plain.Piece → Sought
sought_of_one b n x = record { finding = plain.piece_finding (program_of b.program) b.report n x; serial = plain.piece_serial (program_of b.program) b.report n x }

-- this is what was sought
pub record IsFound (s : Sought) (f : Found) : Type 0 where
  pub finding : as_found f.finding ≡ s.finding
  pub serial : s.finding ≡ Fine → f.serial ≡ s.serial
