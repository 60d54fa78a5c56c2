-- What becomes of marks and of the places that wait, where a place is looked at.
use Rattle.std.specs.Prelude.{◌≡◌, ◌⊎◌, ℕ, ◌+◌, ◌-◌, List, [], ◌∷◌, ◌++◌, Bool, false, nat_eq, nat_lt, if◌then◌else◌, set, Option, Some, None, Result, Ok, Err}
use Rattle.txs_value_data.specs.Places.{nth}
use Rattle.txs_code_meaning.specs.declared.instr.Instr.{Instr}
use Rattle.txs_code_meaning.specs.declared.instr.Instr.TheVariants.{Jump, JumpFalse, Return, TxEnd, Halt}
use Rattle.txs_verify.specs.Marks.{Marks, mark_at, mark_behind}
use Rattle.txs_verify.specs.Paths.{wants}
use Rattle.txs_verify.specs.declared.error.Refusal.{Refusal}
use Rattle.txs_verify.specs.declared.error.Stop.{Stop}
use Rattle.txs_verify.specs.declared.error.Stop.TheVariants.{Refused, Memory}
use Rattle.txs_verify.specs.declared.error.VerifyErrorKind.{VerifyErrorKind}
use Rattle.txs_verify.specs.declared.error.VerifyErrorKind.TheVariants.{StackDiffers, StackLow, TxNesting, FallsOff}
use Rattle.txs_verify.specs.declared.walk.Mark.{Mark}

-- running out of memory
abbrev pub out_of_memory : Stop
out_of_memory = Memory

-- a reason at a place
abbrev pub refusal : VerifyErrorKind → ℕ → Refusal
refusal kind at = record { kind = kind; at = at }

-- marks, and the places that wait
abbrev pub Walk : Type 0
Walk = Marks × List ℕ

-- A place without a mark gets it and waits; one that has it stays as it is; another mark is refused.
abbrev pub reached : Option Mark → Walk → ℕ → Mark → Result Walk Refusal
reached None s to m = Ok (set s.0 to (Some m), s.1 ++ to ∷ [])
reached (Some old) s to m = if nat_eq old.depth m.depth then (if nat_eq old.txs m.txs then Ok s else Err (refusal TxNesting to)) else Err (refusal StackDiffers to)

-- the first refusal is the answer
infixl 10 ◌>>=◌
abbrev pub ◌>>=◌ : Result Walk Refusal → (Walk → Result Walk Refusal) → Result Walk Refusal
Ok s >>= f = f s
Err e >>= f = Err e

-- each of these places, one behind the other
abbrev pub reached_each : List ℕ → Mark → Walk → Result Walk Refusal
reached_each [] m s = Ok s
reached_each (q ∷ qs) m s = reached (mark_at s.0 q) s q m >>= reached_each qs m

-- the places that the instruction at a place leads to
abbrev pub next_places : ℕ → Instr → List ℕ
next_places p (Jump to) = to ∷ []
next_places p (JumpFalse to) = to ∷ (p + 1) ∷ []
next_places p Return = []
next_places p Halt = []
next_places p _ = (p + 1) ∷ []

-- a place is one of these
abbrev pub IsIn : ℕ → List ℕ → Type 0
IsIn q [] = ⊥
IsIn q (w ∷ ws) = (q ≡ w) ⊎ IsIn q ws

-- an end, where no transaction is open
abbrev pub ends_nothing : Instr → ℕ → Bool
ends_nothing TxEnd t = nat_eq t 0
ends_nothing _ t = false

-- An instruction at a place with a mark is refused, or the places that it leads to are reached. Past the last instruction, that one is refused.
abbrev pub passed : List ℕ → ℕ → Mark → Option Instr → Walk → Result Walk Refusal
passed ps p m None s = Err (refusal FallsOff (p - 1))
passed ps p m (Some i) s = if nat_lt m.depth (wants ps i) then Err (refusal StackLow p) else (if ends_nothing i m.txs then Err (refusal TxNesting p) else reached_each (next_places p i) (mark_behind ps i m) s)

-- a place is looked at, where it has a mark
abbrev pub looked : List ℕ → List Instr → ℕ → Option Mark → Walk → Result Walk Refusal
looked ps is p None s = Ok s
looked ps is p (Some m) s = passed ps p m (nth is p) s

-- the answer is this, with what was left; running out of memory says nothing
abbrev pub Gives : Result (Unit {0}) Stop → Walk → Result Walk Refusal → Type 0
Gives (Ok u) left wanted = wanted ≡ Ok left
Gives (Err (Refused r)) left wanted = wanted ≡ Err r
Gives (Err Memory) left wanted = Unit {0}

-- what is refused is so; running out of memory says nothing
abbrev pub WhereRefused : (Refusal → Type 0) → Stop → Type 0
WhereRefused P (Refused r) = P r
WhereRefused P Memory = Unit {0}
