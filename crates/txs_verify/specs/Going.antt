-- The loop over the places that wait: what it keeps.
use Rattle.std.specs.Prelude.{◌≡◌, ◌⊎◌, ℕ, zero, suc, ◌+◌, ◌<◌, ◌≤◌, List, [], ◌∷◌, length, Some, None}
use Rattle.txs_value_data.specs.Places.{nth}
use Rattle.txs_code_meaning.specs.declared.instr.Instr.{Instr}
use Rattle.txs_code_meaning.specs.declared.instr.Instr.TheVariants.{Jump, JumpFalse}
use Rattle.txs_verify.specs.declared.walk.Mark.{Mark}
use Rattle.txs_verify.specs.Marks.{Marks, mark_at, IsDone}
use Rattle.txs_verify.specs.Refused.{Comes}
use Rattle.txs_verify.specs.Walk.{IsIn}

-- an instruction jumps to one of so many places, if it jumps
abbrev pub JumpsWithin : ℕ → Instr → Type 0
JumpsWithin n (Jump to) = to < n
JumpsWithin n (JumpFalse to) = to < n
JumpsWithin n _ = Unit {0}

-- each instruction of a body jumps to its places alone
abbrev pub AllJumpWithin : List Instr → Type 0
AllJumpWithin is = (p : ℕ) (i : Instr) → nth is p ≡ Some i → JumpsWithin (length is) i

-- so many places without a mark
abbrev pub no_marks : ℕ → Marks
no_marks zero = []
no_marks (suc n) = None ∷ no_marks n

-- how many places have no mark
abbrev pub unmarked : Marks → ℕ
unmarked [] = 0
unmarked (None ∷ ms) = suc (unmarked ms)
unmarked (Some m ∷ ms) = unmarked ms

-- a path comes to each marked place with its mark
abbrev pub AreReached : List ℕ → List Instr → Marks → Type 0
AreReached ps is marks = (p : ℕ) (m : Mark) → mark_at marks p ≡ Some m → Comes ps is p m.depth m.txs

-- The first place is marked; a path comes to each marked place with its mark; its depth and its transactions are as many at most as
-- places have got a mark; and it is done, or waits, or is yet to be looked at.
pub record IsGoing (ps : List ℕ) (is : List Instr) (marks : Marks) (waiting : List ℕ) (looked_at : ℕ → Type 0) : Type 0 where
  pub many : length marks ≡ length is + 1
  pub first : mark_at marks 0 ≡ Some (record { depth = 0; txs = 0 })
  pub reached : AreReached ps is marks
  pub low : (p : ℕ) (m : Mark) → mark_at marks p ≡ Some m → (m.depth + unmarked marks ≤ length is) × (m.txs + unmarked marks ≤ length is)
  pub within : (q : ℕ) → IsIn q waiting → q < length marks
  pub done : (p : ℕ) (m : Mark) → mark_at marks p ≡ Some m → IsDone ps is marks p m ⊎ (IsIn p waiting ⊎ looked_at p)

-- so, where no place is being looked at
abbrev pub Goes : List ℕ → List Instr → Marks → List ℕ → Type 0
Goes ps is marks waiting = IsGoing ps is marks waiting (λ q. ⊥)
