-- The places that a body's code comes to, each with the depth of the stack and the number of open transactions.
use Rattle.std.specs.Prelude.{◌≡◌, ◌⊎◌, ℕ, zero, suc, ◌+◌, ◌-◌, ◌<◌, ◌≤◌, List, Option, Some, None}
use Rattle.txs_value_data.specs.Places.{nth}
use Rattle.txs_value_cell.specs.declared.form.CellForm.TheVariants as form
use Rattle.txs_value_cell.specs.declared.form.Standing.TheVariants.{Outside}
use Rattle.txs_code_meaning.specs.WellTyped.{Functions, Owner, Returns, Halts, IsImpure, MayStand, FormMayStand, MayCall, IsPureFunction, MayBeSent, Stage, plain, opened, applied, form_of}
use Rattle.txs_code_meaning.specs.declared.instr.OpenForm.{OpenForm}
use Rattle.txs_code_meaning.specs.declared.instr.Instr.{Instr}
use Rattle.txs_code_meaning.specs.declared.instr.Instr.TheVariants.{Const, Local, Store, Pop, Jump, JumpFalse, Core, Call, Return, Vector, Print, Look, Put, TxBegin, TxEnd, Open, Close, Send, Halt}

-- how many parameters a function has; 0 of one that isn't there
abbrev pub or_none : Option ℕ → ℕ
or_none None = 0
or_none (Some n) = n

-- how many values an instruction finds on the stack at least
abbrev pub wants : List ℕ → Instr → ℕ
wants ps (Const k) = 0
wants ps (Local i) = 0
wants ps (Store i) = 1
wants ps Pop = 1
wants ps (Jump to) = 0
wants ps (JumpFalse to) = 1
wants ps (Core op n) = n
wants ps (Call f) = or_none (nth ps f)
wants ps Return = 0
wants ps (Vector n) = n
wants ps (Print n) = n
wants ps (Look look) = 1
wants ps (Put put) = 2
wants ps TxBegin = 0
wants ps TxEnd = 0
wants ps (Open by n) = suc n
wants ps (Close by) = 2
wants ps (Send callee n) = suc n
wants ps Halt = 0

-- how many are there behind it
abbrev pub depth_behind : List ℕ → Instr → ℕ → ℕ
depth_behind ps (Const k) d = d + 1
depth_behind ps (Local i) d = d + 1
depth_behind ps (Store i) d = d - 1
depth_behind ps Pop d = d - 1
depth_behind ps (Jump to) d = d
depth_behind ps (JumpFalse to) d = d - 1
depth_behind ps (Core op n) d = d - n + 1
depth_behind ps (Call f) d = d - or_none (nth ps f) + 1
depth_behind ps Return d = d
depth_behind ps (Vector n) d = d - n + 1
depth_behind ps (Print n) d = d - n + 1
depth_behind ps (Look look) d = d
depth_behind ps (Put put) d = d - 1
depth_behind ps TxBegin d = d
depth_behind ps TxEnd d = d
depth_behind ps (Open by n) d = d + 1
depth_behind ps (Close by) d = d - 1
depth_behind ps (Send callee n) d = d - n
depth_behind ps Halt d = d

-- an end is in a transaction
abbrev pub MayEnd : Instr → ℕ → Type 0
MayEnd TxEnd t = 0 < t
MayEnd _ t = Unit {0}

-- how many transactions are open behind an instruction
abbrev pub txs_behind : Instr → ℕ → ℕ
txs_behind TxBegin t = suc t
txs_behind TxEnd t = t - 1
txs_behind _ t = t

-- an instruction at a place leads to a place
abbrev pub LeadsTo : ℕ → Instr → ℕ → Type 0
LeadsTo at (Jump to) q = q ≡ to
LeadsTo at (JumpFalse to) q = (q ≡ to) ⊎ (q ≡ at + 1)
LeadsTo at Return q = ⊥
LeadsTo at Halt q = ⊥
LeadsTo at _ q = q ≡ at + 1

-- The instruction at a place, with so many values and open transactions, leads to a place with so many.
pub record Steps (ps : List ℕ) (is : List Instr) (p d t q e u : ℕ) : Type 0 where
  pub instr : Instr
  pub stands : nth is p ≡ Some instr
  pub enough : wants ps instr ≤ d
  pub within : MayEnd instr t
  pub leads : LeadsTo p instr q
  pub depth : e ≡ depth_behind ps instr d
  pub txs : u ≡ txs_behind instr t

-- A path of so many steps from the first place comes to this place with so many values and open transactions.
unfoldable pub ComesIn : List ℕ → List Instr → ℕ → ℕ → ℕ → ℕ → Type 0
ComesIn ps is zero q e u = (q ≡ 0) × (e ≡ 0) × (u ≡ 0)
ComesIn ps is (suc n) q e u = (p : ℕ) × (d : ℕ) × (t : ℕ) × ComesIn ps is n p d t × Steps ps is p d t q e u

-- ---- what the code is in the middle of

-- what an instruction opens, if it is an open
abbrev pub opens : Option Instr → Option (OpenForm × ℕ)
opens None = None
opens (Some (Open by n)) = Some (by, n)
opens (Some _) = None

-- the instruction one place before
abbrev pub before : List Instr → ℕ → Option Instr
before is zero = None
before is (suc p) = nth is p

-- the instruction two places before
abbrev pub before_that : List Instr → ℕ → Option Instr
before_that is zero = None
before_that is (suc p) = before is p

-- the stage behind what was opened one place before, and two places before, if anything was
abbrev pub stage_behind : Option (OpenForm × ℕ) → Option (OpenForm × ℕ) → ℕ → Stage
stage_behind (Some x) y t = opened t x.1 x.0
stage_behind None (Some y) t = applied t (form_of y.0)
stage_behind None None t = plain t

-- the stage at a place, in so many transactions: an open, the call behind it, and its close stand one behind the other
abbrev pub stage_for : List Instr → ℕ → ℕ → Stage
stage_for is p t = stage_behind (opens (before is p)) (opens (before_that is p)) t

-- ---- what may be at a place

-- a body of this kind ends here with one value, outside transactions of its own
abbrev pub EndsWell : Owner → ℕ → ℕ → Instr → Type 0
EndsWell owner d t Return = Returns owner × (d ≡ 1) × (t ≡ 0)
EndsWell owner d t Halt = Halts owner × (d ≡ 1) × (t ≡ 0)
EndsWell owner d t _ = Unit {0}

-- an instruction outside opens and closes may be in so many transactions
abbrev pub MayBe : Functions → Owner → ℕ → Instr → Type 0
MayBe fs owner t (Call f) = MayCall fs.kinds owner t f
MayBe fs owner t (Print n) = IsImpure owner × MayStand owner t Outside
MayBe fs owner t (Look look) = FormMayStand owner t (form.Look look)
MayBe fs owner t (Put put) = FormMayStand owner t (form.Put put)
MayBe fs owner t TxBegin = IsImpure owner
MayBe fs owner t (Open by n) = FormMayStand owner t (form.Update (form_of by))
MayBe fs owner t (Send callee n) = FormMayStand owner t form.Send × MayBeSent fs.kinds callee
MayBe fs owner t _ = Unit {0}

-- so; and behind an open a function that is called is pure
abbrev pub IsAllowed : Functions → Owner → Stage → Instr → Type 0
IsAllowed fs owner (plain t) i = MayBe fs owner t i
IsAllowed fs owner (opened t n by) (Call f) = IsPureFunction fs.kinds f
IsAllowed fs owner (opened t n by) _ = Unit {0}
IsAllowed fs owner (applied t by) i = Unit {0}
