-- What a transaction has done so far, as plain data, and its operations.
use Rattle.std.specs.Prelude.{◌≡◌, ℕ, Bool, false, ◌==◌, ◌||◌, nat_lt, List, [], ◌∷◌, ◌++◌, map, Result, Ok, Err, if◌then◌else◌, Option, Some, None}
use Rattle.txs_world_protocol.specs.Ask.{Writes, with_write}
use Rattle.txs_value_cell.specs.declared.action.Action.{Action}
use Rattle.txs_value_data.specs.declared.fault.FaultKind.{FaultKind}
use Rattle.txs_value_data.specs.declared.fault.FaultKind.TheVariants as fault
use Rattle.txs_value_data.specs.declared.op.Callee.{Callee}
use Rattle.txs_value_data.specs.declared.value.CellId.{CellId}
use Rattle.txs_value_data.specs.declared.value.Value.{Value}
use Rattle.txs_frame.specs.declared.frame.Commute.{Commute}
use Rattle.txs_frame.specs.declared.frame.SetError.{SetError}
use Rattle.txs_frame.specs.declared.frame.SetError.TheVariants.{SetAfterCommute, Memory}

-- What a transaction has done: the values that it has of its own, the refs that it set and those that it ensured (each once,
-- by ascending number), and in order its commutes and the sends that it holds.
pub record PlainTxFrame : Type 0 where
  pub values : Writes
  pub sets : List CellId
  pub ensures : List CellId
  pub commutes : List Commute
  pub sends : List Action

-- before a transaction has done anything
abbrev pub empty_frame : PlainTxFrame
empty_frame = record { values = []; sets = []; ensures = []; commutes = []; sends = [] }

-- ---- sets of refs

-- a cell joins an ascending set, once
abbrev pub with_cell : List CellId → CellId → List CellId
with_cell [] c = c ∷ []
with_cell (d ∷ ds) c =
    if d.number == c.number then d ∷ ds
    else if nat_lt c.number d.number then c ∷ d ∷ ds
    else d ∷ with_cell ds c

-- cells join an ascending set, one after the other
abbrev pub with_cells : List CellId → List CellId → List CellId
with_cells ds [] = ds
with_cells ds (c ∷ cs) = with_cells (with_cell ds c) cs

-- whether the cell with this number is among these
abbrev pub has_number : List CellId → ℕ → Bool
has_number [] k = false
has_number (d ∷ ds) k = d.number == k || has_number ds k

-- the cells that aren't among some others
abbrev pub outside_of : List CellId → List CellId → List CellId
outside_of ds [] = []
outside_of ds (c ∷ cs) = if has_number ds c.number then outside_of ds cs else c ∷ outside_of ds cs

-- the writes to these cells
abbrev pub writes_to : List CellId → Writes → Writes
writes_to ds [] = []
writes_to ds (w ∷ ws) = if has_number ds w.0.number then w ∷ writes_to ds ws else writes_to ds ws

-- the refs of commutes, each once, ascending
abbrev pub refs_of : List Commute → List CellId
refs_of cs = with_cells [] (map (λ c. c.cell) cs)

-- ---- what a transaction has done to a ref

-- whether the transaction set the ref with this number
abbrev pub is_set : PlainTxFrame → ℕ → Bool
is_set w k = has_number w.sets k

-- whether the transaction commuted the ref with this number
abbrev pub is_commuted : PlainTxFrame → ℕ → Bool
is_commuted w k = has_number (refs_of w.commutes) k

-- the refs that were commuted and not set, ascending
abbrev pub commuted : PlainTxFrame → List CellId
commuted w = outside_of w.sets (refs_of w.commutes)

-- the refs that were set, with their values, ascending
abbrev pub set_writes : PlainTxFrame → Writes
set_writes w = writes_to w.sets w.values

-- the cells of writes
abbrev pub cells_in : Writes → List CellId
cells_in ws = map (λ w. w.0) ws

-- the refs that a transaction writes: those that it set, and those others that it commuted, ascending
abbrev pub written : PlainTxFrame → List CellId
written w = with_cells (cells_in (set_writes w)) (commuted w)

-- ---- what a transaction does

-- A ref is set, unless it was commuted: Clojure's `ref-set` and `alter` say "Can't set after commute".
abbrev pub set_ref : CellId → Value → PlainTxFrame → Result PlainTxFrame FaultKind
set_ref c v w =
    if is_commuted w c.number then Err fault.SetAfterCommute
    else Ok (record w { values = with_write w.values c v; sets = with_cell w.sets c })

-- a ref is ensured
abbrev pub ensure_ref : CellId → PlainTxFrame → PlainTxFrame
ensure_ref c w = record w { ensures = with_cell w.ensures c }

-- a commute is kept, with the value that the transaction has by it
abbrev pub commute_ref : CellId → Callee → List Value → Value → PlainTxFrame → PlainTxFrame
commute_ref c callee args v w =
    record w { values = with_write w.values c v; commutes = w.commutes ++ record { cell = c; callee = callee; args = args } ∷ [] }

-- a send is held
abbrev pub hold_send : Action → PlainTxFrame → PlainTxFrame
hold_send a w = record w { sends = w.sends ++ a ∷ [] }

-- What a call answers and leaves, where this is what setting the ref gives: that work; or out of memory the work as it was;
-- or that the ref was commuted, and the work as it was.
abbrev pub SetAnswers : Result PlainTxFrame FaultKind → PlainTxFrame → Result (Unit {0}) SetError → PlainTxFrame → Type 0
SetAnswers (Ok w) before (Ok u) now = now ≡ w
SetAnswers (Ok w) before (Err Memory) now = now ≡ before
SetAnswers (Ok w) before (Err SetAfterCommute) now = ⊥
SetAnswers (Err k) before (Ok u) now = ⊥
SetAnswers (Err k) before (Err Memory) now = ⊥
SetAnswers (Err k) before (Err SetAfterCommute) now = now ≡ before

-- ---- the commute phase

-- the commutes of the ref with this number, in order
abbrev pub commutes_of : ℕ → List Commute → List Commute
commutes_of k [] = []
commutes_of k (c ∷ cs) = if c.cell.number == k then c ∷ commutes_of k cs else commutes_of k cs

-- the commutes of these refs, ref by ref
abbrev pub by_ref : List CellId → List Commute → List Commute
by_ref [] cs = []
by_ref (d ∷ ds) cs = commutes_of d.number cs ++ by_ref ds cs

-- What the commute phase does: the commutes of the refs that weren't set, ref by ref in ascending number. The others have done
-- their work when they were called.
abbrev pub phase_work : PlainTxFrame → List Commute
phase_work w = by_ref (commuted w) w.commutes

-- ---- the sends of an action

-- the sends of a commit, by what is held: those of the transaction, and none in an action, which holds them up to its end
abbrev pub sends_of_commit : Option (List Action) → List Action → List Action
sends_of_commit None sends = sends
sends_of_commit (Some held) sends = []

-- what an action holds, with these behind it
abbrev pub with_sends : List Action → Option (List Action) → Option (List Action)
with_sends sends None = None
with_sends sends (Some held) = Some (held ++ sends)
