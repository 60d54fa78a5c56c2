-- Marks of a body's places, and when they are closed: each leads to marked places alone.
use Rattle.std.specs.Prelude.{◌≡◌, ℕ, zero, suc, ◌≤◌, List, [], ◌∷◌, Option, Some, None}
use Rattle.txs_value_data.specs.Places.{nth}
use Rattle.txs_code_meaning.specs.WellTyped.{Depths, Stages}
use Rattle.txs_code_meaning.specs.declared.instr.Instr.{Instr}
use Rattle.txs_verify.specs.declared.walk.Mark.{Mark}
use Rattle.txs_verify.specs.Paths.{wants, depth_behind, MayEnd, txs_behind, LeadsTo, stage_for}

-- the marks of places, none where the code isn't known to come
abbrev pub Marks : Type 0
Marks = List (Option Mark)

-- the mark at a place, if it has one
abbrev pub mark_at : Marks → ℕ → Option Mark
mark_at [] p = None
mark_at (m ∷ ms) zero = m
mark_at (m ∷ ms) (suc p) = mark_at ms p

-- the depth of a mark
abbrev pub depth_part : Option Mark → Option ℕ
depth_part None = None
depth_part (Some m) = Some m.depth

-- the depths that marks tell
abbrev pub depths_of : Marks → Depths
depths_of [] = []
depths_of (m ∷ ms) = depth_part m ∷ depths_of ms

-- the stages that marks tell from a place on
abbrev pub stages_from : List Instr → ℕ → Marks → Stages
stages_from is p [] = []
stages_from is p (None ∷ ms) = None ∷ stages_from is (suc p) ms
stages_from is p (Some m ∷ ms) = Some (stage_for is p m.txs) ∷ stages_from is (suc p) ms

-- what is behind an instruction at a marked place
abbrev pub mark_behind : List ℕ → Instr → Mark → Mark
mark_behind ps i m = record { depth = depth_behind ps i m.depth; txs = txs_behind i m.txs }

-- at a marked place an instruction is, finds what it takes, and leads to places with the mark of what is behind it
pub record IsDone (ps : List ℕ) (is : List Instr) (marks : Marks) (p : ℕ) (m : Mark) : Type 0 where
  pub instr : Instr
  pub stands : nth is p ≡ Some instr
  pub enough : wants ps instr ≤ m.depth
  pub within : MayEnd instr m.txs
  pub next : (q : ℕ) → LeadsTo p instr q → mark_at marks q ≡ Some (mark_behind ps instr m)

-- the first place is marked with nothing on the stack, and each marked place is done
pub record IsClosed (ps : List ℕ) (is : List Instr) (marks : Marks) : Type 0 where
  pub first : mark_at marks 0 ≡ Some (record { depth = 0; txs = 0 })
  pub done : (p : ℕ) (m : Mark) → mark_at marks p ≡ Some m → IsDone ps is marks p m
