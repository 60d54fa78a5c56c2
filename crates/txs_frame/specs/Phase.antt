-- What a transaction does at its end before it commits: its commutes are applied again, and validators look at what it writes.
use Rattle.std.specs.Prelude.{◌≡◌, ℕ, true, false, Bool, is_some, List, [], ◌∷◌, ◌++◌, map, Option, Some, None}
use Rattle.txs_world_protocol.specs.Ask.{Writes, buffered, with_write}
use Rattle.txs_value_data.specs.declared.op.Callee.{Callee}
use Rattle.txs_value_cell.specs.Cells.{Validators, validator_at}
use Rattle.txs_value_data.specs.declared.value.CellId.{CellId}
use Rattle.txs_value_data.specs.declared.value.Value.{Value}
use Rattle.txs_value_data.specs.declared.value.Value.TheVariants.{Nil}
use Rattle.txs_frame.specs.Frame.{PlainTxFrame, phase_work, written}
use Rattle.txs_frame.specs.Kept.{Ascends, item_of}
use Rattle.txs_frame.specs.declared.frame.Commute.{Commute}
use Rattle.txs_frame.specs.declared.phase.Task.{Task}
use Rattle.txs_frame.specs.declared.phase.Task.TheVariants.{Redoes, Validates}

-- ---- the tasks of an end

-- a ref's validator has to look at what the ref is to get, before other tasks; without one there is nothing to do
abbrev pub with_validation : CellId → Option Callee → List Task → List Task
with_validation c None tasks = tasks
with_validation c (Some f) tasks = Validates c f ∷ tasks

-- what the validators of these refs have to look at
abbrev pub validations : Validators → List CellId → List Task
validations vs [] = []
validations vs (c ∷ cs) = with_validation c (validator_at vs c.number) (validations vs cs)

-- the tasks of a transaction's end: the commutes of the refs that weren't set, and then the validators of all that is written, in
-- ascending number
abbrev pub tasks_of : Validators → PlainTxFrame → List Task
tasks_of vs w = map Redoes (phase_work w) ++ validations vs (written w)

-- ---- what is left of them

-- the tasks that are still to be done, in their order, and the values so far of the refs that were commuted and not set
pub record PlainPhase : Type 0 where
  pub work : List Task
  pub values : Writes

-- refs whose values aren't known yet
abbrev pub blank : List CellId → Writes
blank [] = []
blank (c ∷ cs) = (c, Nil) ∷ blank cs

-- the refs with the values that were viewed, one for each
abbrev pub filled : Writes → List Value → Writes
filled (w ∷ ws) (v ∷ vs) = (w.0, v) ∷ filled ws vs
filled _ _ = []

-- what a task applies
abbrev pub callee_of : Task → Callee
callee_of (Redoes k) = k.callee
callee_of (Validates c f) = f

-- what the next task applies, if one is left
abbrev pub next_callee : List Task → Option Callee
next_callee [] = None
next_callee (x ∷ xs) = Some (callee_of x)

-- whether the next task is a validator's
abbrev pub validates_next : List Task → Bool
validates_next [] = false
validates_next (Redoes k ∷ xs) = false
validates_next (Validates c f ∷ xs) = true

-- a value, or nil where there is none
abbrev pub value_or_nil : Option Value → Value
value_or_nil None = Nil
value_or_nil (Some v) = v

-- the first of two values that is there
abbrev pub first_of : Option Value → Option Value → Option Value
first_of None o = o
first_of (Some v) o = Some v

-- what a commute's callee is called on: its ref's value, and its further arguments
abbrev pub arguments_of : Commute → Writes → List Value
arguments_of k ws = value_or_nil (buffered ws k.cell.number) ∷ k.args

-- what a ref is to get: what its commutes make of the viewed value, else what the transaction set
abbrev pub to_write : Writes → PlainTxFrame → ℕ → Value
to_write ws w k = value_or_nil (first_of (buffered ws k) (buffered w.values k))

-- what a task's callee is called on
abbrev pub task_arguments : Task → Writes → PlainTxFrame → List Value
task_arguments (Redoes k) ws w = arguments_of k ws
task_arguments (Validates c f) ws w = to_write ws w c.number ∷ []

-- what the next task's callee is called on
abbrev pub next_arguments : List Task → Writes → PlainTxFrame → List Value
next_arguments [] ws w = []
next_arguments (x ∷ xs) ws w = task_arguments x ws w

-- the phase once the callee of the next commute has given this value; a validator changes no value
abbrev pub given : List Task → Writes → Value → PlainPhase
given [] ws v = record { work = []; values = ws }
given (Redoes k ∷ xs) ws v = record { work = xs; values = with_write ws k.cell v }
given (Validates c f ∷ xs) ws v = record { work = Validates c f ∷ xs; values = ws }

-- the tasks behind the next one
abbrev pub behind_next : List Task → List Task
behind_next [] = []
behind_next (x ∷ xs) = xs

-- ---- how a phase keeps them

-- the number of a write's ref
abbrev pub write_number : CellId × Value → ℕ
write_number w = w.0.number

-- the ref of a commute has a value
abbrev pub IsViewed : Writes → Task → Type 0
IsViewed ws (Redoes k) = is_some (item_of write_number ws k.cell.number) ≡ true
IsViewed ws (Validates c f) = Unit {0}

-- so has that of each
abbrev pub AreViewed : Writes → List Task → Type 0
AreViewed ws [] = Unit {0}
AreViewed ws (x ∷ xs) = IsViewed ws x × AreViewed ws xs

-- the refs ascend, and those of all commutes that are left are among them
pub record IsPhase (ws : Writes) (xs : List Task) : Type 0 where
  pub ascends : Ascends write_number 0 ws
  pub viewed : AreViewed ws xs
