-- What may be wrong with an instruction alone: a jump, a local, a count of arguments, an order, looked at in this order.
use Rattle.std.specs.Prelude.{◌≡◌, ◌⊎◌, ℕ, ◌+◌, ◌<◌, ◌≤◌, Bool, true, false, not, ◌&&◌, ◌||◌, nat_eq, nat_lt, if◌then◌else◌, is_some, List, length, Option, Some, None}
use Rattle.txs_world_protocol.specs.Ask.{same_callee}
use Rattle.txs_value_apply.specs.Core.{takes}
use Rattle.txs_value_data.specs.Places.{nth}
use Rattle.txs_value_cell.specs.declared.form.UpdateForm.{UpdateForm}
use Rattle.txs_value_cell.specs.declared.form.UpdateForm.TheVariants as update
use Rattle.txs_value_data.specs.declared.op.Callee.{Callee}
use Rattle.txs_value_data.specs.declared.op.Callee.TheVariants as callee
use Rattle.txs_code_meaning.specs.PlainCode.{CodeBody}
use Rattle.txs_code_meaning.specs.WellTyped.{form_of, IsBehindOpen, IsFollowed, IsOpened}
use Rattle.txs_code_meaning.specs.declared.instr.Instr.{Instr}
use Rattle.txs_code_meaning.specs.declared.instr.Instr.TheVariants.{Const, Local, Store, Jump, JumpFalse, Core, Call, Open, Close, Send}
use Rattle.txs_code_meaning.specs.declared.instr.OpenForm.{OpenForm}
use Rattle.txs_code_meaning.specs.declared.instr.OpenForm.TheVariants as open_form
use Rattle.txs_verify.specs.declared.error.VerifyErrorKind.{VerifyErrorKind}
use Rattle.txs_verify.specs.declared.error.VerifyErrorKind.TheVariants.{JumpOut, StackLow, StackDiffers, LocalOut, ArityWrong, CallOrder, TxNesting, FallsOff, Memory}
use Rattle.txs_verify.specs.Going.{JumpsWithin}
use Rattle.txs_verify.specs.Paths.{opens, before, before_that}

-- ---- what is wanted

-- an instruction names one of so many constants, if it names any
abbrev pub HasConstant : ℕ → Instr → Type 0
HasConstant n (Const k) = k < n
HasConstant n _ = Unit {0}

-- an instruction names one of so many locals, if it names any
abbrev pub HasLocal : ℕ → Instr → Type 0
HasLocal n (Local i) = i < n
HasLocal n (Store i) = i < n
HasLocal n _ = Unit {0}

-- an operation takes so many values, and a function has so many parameters, if it is there
abbrev pub TakesSo : List ℕ → Callee → ℕ → Type 0
TakesSo ps (callee.Core op) n = takes op n ≡ true
TakesSo ps (callee.Function f) n = (m : ℕ) → nth ps f ≡ Some m → m ≡ n

-- so does the callee that an open names
abbrev pub NamedTakesSo : List ℕ → OpenForm → ℕ → Type 0
NamedTakesSo ps open_form.Alter n = Unit {0}
NamedTakesSo ps (open_form.Commute c) n = TakesSo ps c n
NamedTakesSo ps (open_form.Swap c) n = TakesSo ps c n

-- an operation or callee gets as many values as it takes, the cell's among them
abbrev pub HasCount : List ℕ → Instr → Type 0
HasCount ps (Core op n) = takes op n ≡ true
HasCount ps (Open by n) = NamedTakesSo ps by (n + 1)
HasCount ps (Send c n) = TakesSo ps c (n + 1)
HasCount ps _ = Unit {0}

-- a callee is an operation, or one of the first so many functions
abbrev pub IsBelow : ℕ → Callee → Type 0
IsBelow n (callee.Core op) = Unit {0}
IsBelow n (callee.Function f) = f < n

-- so is the one that an open names
abbrev pub NamedIsBelow : ℕ → OpenForm → Type 0
NamedIsBelow n open_form.Alter = Unit {0}
NamedIsBelow n (open_form.Commute c) = IsBelow n c
NamedIsBelow n (open_form.Swap c) = IsBelow n c

-- functions are called by those behind them alone; an open, its call and its close stand one behind the other, and no jump goes between
abbrev pub IsInOrder : ℕ → List ℕ → List Instr → ℕ → Instr → Type 0
IsInOrder n ps is at (Jump to) = IsBehindOpen is to → ⊥
IsInOrder n ps is at (JumpFalse to) = IsBehindOpen is to → ⊥
IsInOrder n ps is at (Call f) = f < n
IsInOrder n ps is at (Open by m) = NamedIsBelow n by × IsFollowed ps is at by m
IsInOrder n ps is at (Close closed) = IsOpened is at closed
IsInOrder n ps is at (Send c m) = IsBelow n c
IsInOrder n ps is at _ = Unit {0}

-- Alone, the instruction at a place is right, where the body may call the first n functions.
pub record IsRight (n : ℕ) (ps : List ℕ) (b : CodeBody) (at : ℕ) (i : Instr) : Type 0 where
  pub jumps : JumpsWithin (length b.instrs) i
  pub local : HasLocal b.locals i
  pub count : HasCount ps i
  pub order : IsInOrder n ps b.instrs at i

-- the parameters are among the locals, and each instruction is right
pub record IsRightBody (n : ℕ) (ps : List ℕ) (b : CodeBody) : Type 0 where
  pub parameters : b.parameters ≤ b.locals
  pub right : (at : ℕ) (i : Instr) → nth b.instrs at ≡ Some i → IsRight n ps b at i

-- Why a body is refused for an instruction alone: what this kind looks at is wrong there, and what is looked at before is right. Of more
-- parameters than locals the refusal is reported at the first place.
abbrev pub IsWrongAlone : ℕ → List ℕ → CodeBody → VerifyErrorKind → ℕ → Type 0
IsWrongAlone n ps b JumpOut at = (i : Instr) × (nth b.instrs at ≡ Some i) × (JumpsWithin (length b.instrs) i → ⊥)
IsWrongAlone n ps b StackLow at = ⊥
IsWrongAlone n ps b StackDiffers at = ⊥
IsWrongAlone n ps b LocalOut at =
    ((at ≡ 0) × (b.locals < b.parameters)) ⊎ ((i : Instr) × (nth b.instrs at ≡ Some i) × JumpsWithin (length b.instrs) i × (HasLocal b.locals i → ⊥))
IsWrongAlone n ps b ArityWrong at = (i : Instr) × (nth b.instrs at ≡ Some i) × JumpsWithin (length b.instrs) i × HasLocal b.locals i × (HasCount ps i → ⊥)
IsWrongAlone n ps b CallOrder at =
    (i : Instr) × (nth b.instrs at ≡ Some i) × JumpsWithin (length b.instrs) i × HasLocal b.locals i × HasCount ps i × (IsInOrder n ps b.instrs at i → ⊥)
IsWrongAlone n ps b TxNesting at = ⊥
IsWrongAlone n ps b FallsOff at = ⊥
IsWrongAlone n ps b Memory at = ⊥

-- ---- the tests

-- whether an instruction jumps to one of so many places, if it jumps
abbrev pub jumps_within : ℕ → Instr → Bool
jumps_within n (Jump to) = nat_lt to n
jumps_within n (JumpFalse to) = nat_lt to n
jumps_within n _ = true

-- whether it names one of so many locals, if it names any
abbrev pub has_local : ℕ → Instr → Bool
has_local n (Local i) = nat_lt i n
has_local n (Store i) = nat_lt i n
has_local n _ = true

-- so many, where there is any
abbrev pub is_so_many : Option ℕ → ℕ → Bool
is_so_many None n = true
is_so_many (Some m) n = nat_eq m n

-- whether an operation takes so many values, or a function has so many parameters, if it is there
abbrev pub takes_so : List ℕ → Callee → ℕ → Bool
takes_so ps (callee.Core op) n = takes op n
takes_so ps (callee.Function f) n = is_so_many (nth ps f) n

-- whether an operation or callee gets as many values as it takes, the cell's among them
abbrev pub has_count : List ℕ → Instr → Bool
has_count ps (Core op n) = takes op n
has_count ps (Open open_form.Alter n) = true
has_count ps (Open (open_form.Commute c) n) = takes_so ps c (n + 1)
has_count ps (Open (open_form.Swap c) n) = takes_so ps c (n + 1)
has_count ps (Send c n) = takes_so ps c (n + 1)
has_count ps _ = true

-- whether a callee is an operation, or one of the first so many functions
abbrev pub is_below : ℕ → Callee → Bool
is_below n (callee.Core op) = true
is_below n (callee.Function f) = nat_lt f n

-- whether the one that an open names is
abbrev pub named_is_below : ℕ → OpenForm → Bool
named_is_below n open_form.Alter = true
named_is_below n (open_form.Commute c) = is_below n c
named_is_below n (open_form.Swap c) = is_below n c

-- whether a callee is the one that an open names, where it names one
abbrev pub is_named : OpenForm → Callee → Bool
is_named open_form.Alter c = true
is_named (open_form.Commute named) c = same_callee named c
is_named (open_form.Swap named) c = same_callee named c

-- whether two forms are the same
abbrev pub same_form : UpdateForm → UpdateForm → Bool
same_form update.Alter update.Alter = true
same_form update.Alter update.Commute = false
same_form update.Alter update.Swap = false
same_form update.Commute update.Alter = false
same_form update.Commute update.Commute = true
same_form update.Commute update.Swap = false
same_form update.Swap update.Alter = false
same_form update.Swap update.Commute = false
same_form update.Swap update.Swap = true

-- a function is there, with so many parameters
abbrev pub has_so_many : Option ℕ → ℕ → Bool
has_so_many None n = false
has_so_many (Some m) n = nat_eq m n

-- the operation or call of a callee that an open names, on so many values
abbrev pub applies : List ℕ → OpenForm → ℕ → Option Instr → Bool
applies ps by n None = false
applies ps by n (Some (Core op m)) = nat_eq m n && is_named by (callee.Core op)
applies ps by n (Some (Call f)) = has_so_many (nth ps f) n && is_named by (callee.Function f)
applies ps by n (Some _) = false

-- the close of a form
abbrev pub closes : UpdateForm → Option Instr → Bool
closes form None = false
closes form (Some (Close closed)) = same_form closed form
closes form (Some _) = false

-- an open of a form
abbrev pub opens_form : UpdateForm → Option Instr → Bool
opens_form form None = false
opens_form form (Some (Open by n)) = same_form (form_of by) form
opens_form form (Some _) = false

-- a place is behind an open, up to its close
abbrev pub is_behind : List Instr → ℕ → Bool
is_behind is to = is_some (opens (before is to)) || is_some (opens (before_that is to))

-- whether behind an open stand the operation or call of its callee, with one value more, and the close of its form
abbrev pub is_followed : List ℕ → List Instr → ℕ → OpenForm → ℕ → Bool
is_followed ps is at by n = applies ps by (n + 1) (nth is (at + 1)) && closes (form_of by) (nth is (at + 2))

-- whether a call, an open, a close, a send or a jump is in order
abbrev pub in_order : ℕ → List ℕ → List Instr → ℕ → Instr → Bool
in_order n ps is at (Jump to) = not (is_behind is to)
in_order n ps is at (JumpFalse to) = not (is_behind is to)
in_order n ps is at (Call f) = nat_lt f n
in_order n ps is at (Open by m) = named_is_below n by && is_followed ps is at by m
in_order n ps is at (Close closed) = opens_form closed (before_that is at)
in_order n ps is at (Send c m) = is_below n c
in_order n ps is at _ = true

-- the first that is wrong
abbrev pub fault : ℕ → List ℕ → List Instr → ℕ → ℕ → Instr → Option VerifyErrorKind
fault n ps is locals at i = if jumps_within (length is) i then (if has_local locals i then (if has_count ps i then (if in_order n ps is at i then None else Some CallOrder) else Some ArityWrong) else Some LocalOut) else Some JumpOut
