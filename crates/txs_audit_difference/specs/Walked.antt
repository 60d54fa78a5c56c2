-- The pieces of an agent, gone through entry by entry.
use Rattle.std.specs.Prelude.{◌≡◌, ℕ, suc, List, ◌∷◌}
use Rattle.txs_tree_meaning.specs.Tree.{PlainProgram}
use Rattle.txs_theorem_runs.specs.Told.{Place}
use Rattle.txs_theorem_audit.specs.Audited.{PlainReport, books_of}
use Rattle.txs_theorem_audit.specs.Pieces.{Piece, act_pieces, piece_finding}
use Rattle.txs_audit_difference.specs.Difference.{pieces_told, tells}
use Rattle.txs_audit_difference.specs.Pieces.{piece_what}
use Rattle.txs_audit_difference.specs.declared.told.Told.{Told}
use Rattle.txs_audit_difference.specs.declared.walking.Step.{Step}
use Rattle.txs_audit_difference.specs.declared.walking.Step.TheVariants.{Begins, Ends}

-- what the test of a piece tells
abbrev pub one_told : PlainProgram → PlainReport → ℕ → Piece → Told
one_told p r n x = tells (piece_what p r n x) (piece_finding p r n x)

-- What comes of the entry at index k of an agent's trace, where the action there began at index i: whatever comes behind it, what is told from there on is as told here; or that is
-- told.
abbrev pub IsNext : PlainProgram → PlainReport → ℕ → ℕ → ℕ → ℕ → Place → Step → Type 0
IsNext p r n a i k q (Begins j) = (qs : List Place) → pieces_told p r n (act_pieces (books_of r) a i k (q ∷ qs)) ≡ pieces_told p r n (act_pieces (books_of r) a j (suc k) qs)
IsNext p r n a i k q (Ends t) = (qs : List Place) → pieces_told p r n (act_pieces (books_of r) a i k (q ∷ qs)) ≡ t
