-- What an instruction on cells or the transaction makes of an actor.
use Rattle.std.specs.Prelude.{◌≡◌, ℕ, zero, suc, ◌+◌, ◌<◌, ◌≤◌, ◌^◌, Bool, true, false, List, [], ◌∷◌, ◌++◌, length, Option, Some, None, Result, Ok, Err}
use Rattle.txs_world_protocol.specs.Ask.{Writes, buffered, with_write}
use Rattle.txs_frame.specs.Frame.{PlainTxFrame, commuted, set_ref, with_cell, ensure_ref, commute_ref, hold_send}
use Rattle.txs_frame.specs.Phase.{blank, next_arguments, tasks_of}
use Rattle.txs_frame.specs.declared.frame.Commute.{Commute}
use Rattle.txs_frame.specs.declared.phase.Task.{Task}
use Rattle.txs_frame.specs.declared.phase.Task.TheVariants.{Redoes, Validates}
use Rattle.txs_value_apply.specs.Core.{Answer, core, takes}
use Rattle.txs_value_cell.specs.Cells.{Validators}
use Rattle.txs_value_cell.specs.Forms.{rule, cell_of}
use Rattle.txs_value_data.specs.Limits.{reruns}
use Rattle.txs_value_data.specs.Places.{fault_at}
use Rattle.txs_value_cell.specs.declared.action.Action.{Action}
use Rattle.txs_value_data.specs.declared.fault.Fault.{Fault}
use Rattle.txs_value_data.specs.declared.fault.FaultKind.{FaultKind}
use Rattle.txs_value_data.specs.declared.fault.FaultKind.TheVariants.{SetAfterCommute}
use Rattle.txs_value_data.specs.declared.fault.Span.{Span}
use Rattle.txs_value_cell.specs.declared.form.CellForm.{CellForm}
use Rattle.txs_value_cell.specs.declared.form.CellForm.TheVariants as form
use Rattle.txs_value_cell.specs.declared.form.LookForm.TheVariants.{Deref, Ensure}
use Rattle.txs_value_cell.specs.declared.form.PutForm.TheVariants.{RefSet, Reset}
use Rattle.txs_value_cell.specs.declared.form.UpdateForm.TheVariants as update
use Rattle.txs_value_data.specs.declared.op.Callee.{Callee}
use Rattle.txs_value_data.specs.declared.op.Callee.TheVariants as callee
use Rattle.txs_value_data.specs.declared.value.CellId.{CellId}
use Rattle.txs_value_data.specs.declared.value.CellKind.TheVariants.{Ref}
use Rattle.txs_value_data.specs.declared.value.Value.{Value}
use Rattle.txs_value_data.specs.declared.value.Value.TheVariants.{Cell}
use Rattle.txs_code_meaning.specs.ActorState.{RefUpdate, Alters, Commutes, kept_open}
use Rattle.txs_code_meaning.specs.declared.instr.Instr.{Instr}
use Rattle.txs_code_meaning.specs.declared.instr.Instr.TheVariants.{Look, Put, TxBegin, TxEnd, Open, Close, Send}
use Rattle.txs_code_meaning.specs.declared.instr.OpenForm.TheVariants as open_form
use Rattle.txs_machine_loop.specs.Values.{but_last, put_under, under, last_of, below, topmost}
use Rattle.txs_machine_transaction.specs.Transaction.{is_running, depth_in, IsUnapplied, IsSwapping}
use Rattle.txs_machine_transaction.specs.declared.moved.Moved.{Moved}
use Rattle.txs_machine_transaction.specs.declared.moved.Moved.TheVariants as moved
use Rattle.txs_machine_transaction.specs.declared.moved.Quick.{Quick}
use Rattle.txs_machine_transaction.specs.declared.moved.Quick.TheVariants as quick
use Rattle.txs_machine_transaction.specs.declared.state.Savepoint.{Savepoint}
use Rattle.txs_machine_transaction.specs.declared.state.Pending.{Pending}
use Rattle.txs_machine_transaction.specs.declared.state.Pending.TheVariants as pending
use Rattle.txs_machine_transaction.specs.declared.state.Transaction.{Transaction}
use Rattle.txs_machine_transaction.specs.declared.state.Transaction.TheVariants.{Outside, Restarting, Running, Applying, Evaluating, Swapping, Judging, Weighing}

-- a callee is an operation that takes the ref's value and so many further arguments
abbrev pub IsOperation : Callee → ℕ → Type 0
IsOperation (callee.Core op) n = takes op (suc n) ≡ true
IsOperation (callee.Function f) n = ⊥

-- the next task, if one is left, is a commute of an operation: a function runs in turns of its own, and so does what validators do
abbrev pub Operates : List Task → Type 0
Operates [] = Unit {0}
Operates (Redoes k ∷ xs) = IsOperation k.callee (length k.args)
Operates (Validates c f ∷ xs) = ⊥

-- where the tasks of a transaction's end are done, the next is a commute of an operation
abbrev pub LeftApply : Transaction → Type 0
LeftApply Outside = Unit {0}
LeftApply (Restarting left) = Unit {0}
LeftApply (Running left inner from) = Unit {0}
LeftApply (Applying left from phase) = Operates phase.work
LeftApply (Evaluating left from phase aside) = ⊥
LeftApply (Swapping c p from) = Unit {0}
LeftApply (Judging aside) = ⊥
LeftApply (Weighing c p from aside) = ⊥

-- what an instruction on cells or the transaction needs: values enough, room for one more, and that inner transactions can be counted
abbrev pub CanMove : List Value → ℕ → Transaction → Instr → Type 0
CanMove vs room tx (Look Deref) = (0 < length vs) × (length vs ≤ room)
CanMove vs room tx (Look Ensure) = (0 < length vs) × (length vs ≤ room)
CanMove vs room tx (Put RefSet) = (1 < length vs) × (length vs ≤ room)
CanMove vs room tx (Put Reset) = (1 < length vs) × (length vs ≤ room)
CanMove vs room tx (Send callee n) = (n < length vs) × (length vs ≤ room)
CanMove vs room tx TxBegin = (depth_in tx < 2 ^ 64) × (length vs ≤ room) × IsUnapplied tx
CanMove vs room tx TxEnd = LeftApply tx
CanMove vs room tx (Open open_form.Alter n) = (n < length vs) × (length vs < room)
CanMove vs room tx (Open (open_form.Commute callee) n) = (n < length vs) × (length vs < room)
CanMove vs room tx (Close update.Alter) = (1 < length vs) × (length vs ≤ room)
CanMove vs room tx (Close update.Commute) = (1 < length vs) × (length vs ≤ room)
CanMove vs room tx (Open (open_form.Swap callee) n) = (n < length vs) × (length vs < room)
CanMove vs room tx (Close update.Swap) = (1 < length vs) × IsSwapping tx
CanMove vs room tx _ = ⊥

-- what such an instruction makes of the values, the transaction, what that has done and the commute that is open: the next
-- instruction follows, or the same once more, something is asked for, an action is sent, or it faults, here or of another place
pub data Effect : Type 0 where
  moves : (values : List Value) (tx : Transaction) (done : PlainTxFrame) (kept : Option Commute) → Effect
  stays : (values : List Value) (tx : Transaction) (done : PlainTxFrame) (kept : Option Commute) → Effect
  waits : (p : Pending) (values : List Value) (tx : Transaction) (done : PlainTxFrame) (kept : Option Commute) → Effect
  dispatches : (x : Action) (args : ℕ) (values : List Value) (tx : Transaction) (done : PlainTxFrame) (kept : Option Commute) → Effect
  breaks : (k : FaultKind) (tx : Transaction) (done : PlainTxFrame) (kept : Option Commute) → Effect
  falls : (f : Fault) (tx : Transaction) (done : PlainTxFrame) (kept : Option Commute) → Effect

-- continues with the transaction's own value, if it has one
abbrev pub own_or : Option Value → (Value → Effect) → Effect → Effect
own_or None go e = e
own_or (Some v) go e = go v

-- a cell's value in its place at the top; outside a transaction the store is asked for it
abbrev pub reads_cell : Bool → List Value → Transaction → PlainTxFrame → Option Commute → Result CellId FaultKind → Effect
reads_cell true vs tx w kept (Ok c) = own_or (buffered w.values c.number) (λ v. moves (but_last vs ++ v ∷ []) tx w kept) (waits (pending.Read c) vs tx w kept)
reads_cell false vs tx w kept (Ok c) = waits (pending.Read c) vs tx w kept
reads_cell inside vs tx w kept (Err k) = breaks k tx w kept

-- a read of the cell that is the last value, in a transaction or outside
abbrev pub reads : Bool → List Value → Transaction → PlainTxFrame → Option Commute → Effect
reads inside vs tx w kept = reads_cell inside vs tx w kept (cell_of (rule (form.Look Deref)) inside (last_of vs))

-- a ref's value in its place at the top, and the ref is ensured: once it was read, where the transaction has no value of its own
abbrev pub ensures_cell : List Value → Transaction → PlainTxFrame → Option Commute → Result CellId FaultKind → Effect
ensures_cell vs tx w kept (Ok c) =
    own_or (buffered w.values c.number) (λ v. moves (but_last vs ++ v ∷ []) tx (ensure_ref c w) kept) (waits (pending.Ensure c (with_cell w.ensures c)) vs tx w kept)
ensures_cell vs tx w kept (Err k) = breaks k tx w kept

-- the same of the ref that is the last value
abbrev pub ensures : List Value → Transaction → PlainTxFrame → Option Commute → Effect
ensures vs tx w kept = ensures_cell vs tx w kept (cell_of (rule (form.Look Ensure)) true (last_of vs))

-- the update that opens a ref: a commute is one by its callee
abbrev pub update_of : Option Callee → RefUpdate
update_of None = Alters
update_of (Some callee) = Commutes callee

-- a ref's value between the ref and so many arguments, and the commute is open that keeps them, if the update is one
abbrev pub opens_cell : RefUpdate → ℕ → List Value → Transaction → PlainTxFrame → Option Commute → Result CellId FaultKind → Effect
opens_cell u n vs tx w kept (Ok c) =
    own_or (buffered w.values c.number) (λ v. moves (put_under n v vs) tx w (kept_open u c (topmost n vs))) (waits (pending.Open c n (kept_open u c (topmost n vs))) vs tx w kept)
opens_cell u n vs tx w kept (Err k) = breaks k tx w kept

-- the same of the ref below the arguments: `alter` and `commute` take a ref alike
abbrev pub opens : RefUpdate → ℕ → List Value → Transaction → PlainTxFrame → Option Commute → Effect
opens u n vs tx w kept = opens_cell u n vs tx w kept (cell_of (rule (form.Update update.Alter)) true (under n vs))

-- a ref was set, or can't be
abbrev pub sets_as : List Value → Transaction → PlainTxFrame → Option Commute → Result PlainTxFrame FaultKind → Effect
sets_as vs tx w kept (Ok new) = moves (below 2 vs ++ last_of vs ∷ []) tx new kept
sets_as vs tx w kept (Err k) = breaks k tx w kept

-- the last value becomes that of the ref below it
abbrev pub sets_cell : List Value → Transaction → PlainTxFrame → Option Commute → Result CellId FaultKind → Effect
sets_cell vs tx w kept (Ok c) = sets_as vs tx w kept (set_ref c (last_of vs) w)
sets_cell vs tx w kept (Err k) = breaks k tx w kept

-- the same, for a form
abbrev pub sets : CellForm → List Value → Transaction → PlainTxFrame → Option Commute → Effect
sets f vs tx w kept = sets_cell vs tx w kept (cell_of (rule f) true (under 1 vs))

-- a form takes refs alone
abbrev pub IsForRefs : CellForm → Type 0
IsForRefs f = (rule f).takes ≡ Some Ref

-- an atom gets the last value: the store is asked for it
abbrev pub resets_cell : List Value → Transaction → PlainTxFrame → Option Commute → Result CellId FaultKind → Effect
resets_cell vs tx w kept (Ok c) = waits (pending.Reset c (last_of vs)) vs tx w kept
resets_cell vs tx w kept (Err k) = breaks k tx w kept

-- the same of the atom below that value
abbrev pub resets : List Value → Transaction → PlainTxFrame → Option Commute → Effect
resets vs tx w kept = resets_cell vs tx w kept (cell_of (rule (form.Put Reset)) false (under 1 vs))

-- the action that is sent to an agent, with the topmost values as its further arguments
abbrev pub action_of : Callee → ℕ → Span → List Value → CellId → Action
action_of f n span vs g = record { agent = g; callee = f; args = topmost n vs; span = span }

-- an action is held in a transaction, and the agent is in the place of all that was taken; outside it is sent
abbrev pub sends_cell : Bool → Callee → ℕ → Span → List Value → Transaction → PlainTxFrame → Option Commute → Result CellId FaultKind → Effect
sends_cell true f n span vs tx w kept (Ok g) = moves (below (n + 1) vs ++ Cell g ∷ []) tx (hold_send (action_of f n span vs g) w) kept
sends_cell false f n span vs tx w kept (Ok g) = dispatches (action_of f n span vs g) n vs tx w kept
sends_cell inside f n span vs tx w kept (Err k) = breaks k tx w kept

-- the same of the agent below the arguments
abbrev pub sends : Bool → Callee → ℕ → Span → List Value → Transaction → PlainTxFrame → Option Commute → Effect
sends inside f n span vs tx w kept = sends_cell inside f n span vs tx w kept (cell_of (rule form.Send) inside (under n vs))

-- the commute that was open is kept, with the last value as that of the ref below it
abbrev pub keeps_cell : Commute → List Value → Transaction → PlainTxFrame → Result CellId FaultKind → Effect
keeps_cell o vs tx w (Ok c) = moves (below 2 vs ++ last_of vs ∷ []) tx (commute_ref c o.callee o.args (last_of vs) w) None
keeps_cell o vs tx w (Err k) = breaks k tx w (Some o)

-- the same, where the ref was found
abbrev pub keeps : Commute → List Value → Transaction → PlainTxFrame → Effect
keeps o vs tx w = keeps_cell o vs tx w (cell_of (rule (form.Update update.Alter)) true (under 1 vs))

-- the close of an update: the ref is set, or the commute that was open is kept
abbrev pub closes : List Value → Transaction → PlainTxFrame → Option Commute → Effect
closes vs tx w None = sets (form.Update update.Alter) vs tx w None
closes vs tx w (Some o) = keeps o vs tx w

-- an atom is asked for its value, which goes between it and so many arguments: a swap goes again from here
abbrev pub swaps_cell : ℕ → Savepoint → List Value → Transaction → PlainTxFrame → Option Commute → Result CellId FaultKind → Effect
swaps_cell n from vs tx w kept (Ok c) = waits (pending.Swap c n from) vs tx w kept
swaps_cell n from vs tx w kept (Err k) = breaks k tx w kept

-- the same of the atom below the arguments
abbrev pub swaps : ℕ → Savepoint → List Value → Transaction → PlainTxFrame → Option Commute → Effect
swaps n from vs tx w kept = swaps_cell n from vs tx w kept (cell_of (rule (form.Update update.Swap)) false (under n vs))

-- the atom of the swap that is applied is asked to get the last value
abbrev pub swapped : List Value → PlainTxFrame → Option Commute → Transaction → Effect
swapped vs w kept Outside = moves vs Outside w kept
swapped vs w kept (Restarting left) = moves vs (Restarting left) w kept
swapped vs w kept (Running left inner from) = moves vs (Running left inner from) w kept
swapped vs w kept (Applying left from phase) = moves vs (Applying left from phase) w kept
swapped vs w kept (Evaluating left from phase aside) = moves vs (Evaluating left from phase aside) w kept
swapped vs w kept (Swapping c p from) = waits (pending.Close c p (last_of vs)) vs (Swapping c p from) w kept
swapped vs w kept (Judging aside) = moves vs (Judging aside) w kept
swapped vs w kept (Weighing c p from aside) = moves vs (Weighing c p from aside) w kept

-- a transaction begins here, or joins the one that runs
abbrev pub begins : Savepoint → List Value → PlainTxFrame → Option Commute → Transaction → Effect
begins from vs w kept Outside = waits (pending.Begin reruns from) vs Outside w kept
begins from vs w kept (Restarting left) = waits (pending.Begin left from) vs (Restarting left) w kept
begins from vs w kept (Running left inner at) = moves vs (Running left (inner + 1) at) w kept
begins from vs w kept (Applying left at phase) = moves vs (Applying left at phase) w kept
begins from vs w kept (Evaluating left at phase aside) = moves vs (Evaluating left at phase aside) w kept
begins from vs w kept (Swapping c p at) = moves vs (Swapping c p at) w kept
begins from vs w kept (Judging aside) = moves vs (Judging aside) w kept
begins from vs w kept (Weighing c p at aside) = moves vs (Weighing c p at aside) w kept

-- at a transaction's end, where the cells have these validators: the commit where no ref was commuted and not set, else such refs are
-- viewed; what is to be validated without a view is so before
abbrev pub settles : Validators → List CellId → List Value → Transaction → PlainTxFrame → Option Commute → Effect
settles fs [] vs tx w kept = waits pending.Commit vs tx w kept
settles fs (c ∷ cs) vs tx w kept = waits (pending.View (record { work = tasks_of fs w; values = blank (commuted w) })) vs tx w kept

-- a transaction at its end, with the tasks that are left and the values so far of the refs that are viewed
abbrev pub applying : ℕ → Savepoint → List Task → Writes → Transaction
applying left from xs ws = Applying left from (record { work = xs; values = ws })

-- a commute is applied, or its operation faults where the transaction began
abbrev pub applies_as : ℕ → Savepoint → List Value → PlainTxFrame → Option Commute → Commute → List Task → Writes → Answer → Effect
applies_as left from vs w kept k xs ws (Ok v) = stays vs (applying left from xs (with_write ws k.cell v)) w kept
applies_as left from vs w kept k xs ws (Err e) = falls (fault_at e from.span) (applying left from (Redoes k ∷ xs) ws) w kept

-- the same of a commute by its callee, which is an operation
abbrev pub applies : Callee → ℕ → Savepoint → List Value → PlainTxFrame → Option Commute → Commute → List Task → Writes → Effect
applies (callee.Core op) left from vs w kept k xs ws = applies_as left from vs w kept k xs ws (core op (next_arguments (Redoes k ∷ xs) ws w))
applies (callee.Function f) left from vs w kept k xs ws = stays vs (applying left from (Redoes k ∷ xs) ws) w kept

-- one task of a transaction's end: the next commute is applied, or the transaction commits
abbrev pub goes_through : ℕ → Savepoint → List Value → PlainTxFrame → Option Commute → List Task → Writes → Effect
goes_through left from vs w kept [] ws = waits pending.Commit vs (applying left from [] ws) w kept
goes_through left from vs w kept (Redoes k ∷ xs) ws = applies k.callee left from vs w kept k xs ws
goes_through left from vs w kept (Validates c f ∷ xs) ws = stays vs (applying left from (Validates c f ∷ xs) ws) w kept

-- a transaction ends, or leaves the one that runs
abbrev pub ends : Validators → List Value → PlainTxFrame → Option Commute → Transaction → Effect
ends fs vs w kept Outside = moves vs Outside w kept
ends fs vs w kept (Restarting left) = moves vs (Restarting left) w kept
ends fs vs w kept (Running left zero from) = settles fs (commuted w) vs (Running left zero from) w kept
ends fs vs w kept (Running left (suc inner) from) = moves vs (Running left inner from) w kept
ends fs vs w kept (Applying left from phase) = goes_through left from vs w kept phase.work phase.values
ends fs vs w kept (Evaluating left from phase aside) = moves vs (Evaluating left from phase aside) w kept
ends fs vs w kept (Swapping c p from) = moves vs (Swapping c p from) w kept
ends fs vs w kept (Judging aside) = moves vs (Judging aside) w kept
ends fs vs w kept (Weighing c p from aside) = moves vs (Weighing c p from aside) w kept

-- an instruction on cells or the transaction, where the cells have these validators, and a transaction that begins does so from here
abbrev pub effect : Validators → Savepoint → List Value → Transaction → PlainTxFrame → Option Commute → Instr → Effect
effect fs from vs tx w kept (Look Deref) = reads (is_running tx) vs tx w kept
effect fs from vs tx w kept (Look Ensure) = ensures vs tx w kept
effect fs from vs tx w kept (Put RefSet) = sets (form.Put RefSet) vs tx w kept
effect fs from vs tx w kept (Put Reset) = resets vs tx w kept
effect fs from vs tx w kept (Send callee n) = sends (is_running tx) callee n from.span vs tx w kept
effect fs from vs tx w kept TxBegin = begins from vs w kept tx
effect fs from vs tx w kept TxEnd = ends fs vs w kept tx
effect fs from vs tx w kept (Open open_form.Alter n) = opens (update_of None) n vs tx w kept
effect fs from vs tx w kept (Open (open_form.Commute callee) n) = opens (update_of (Some callee)) n vs tx w kept
effect fs from vs tx w kept (Close update.Alter) = closes vs tx w kept
effect fs from vs tx w kept (Close update.Commute) = closes vs tx w kept
effect fs from vs tx w kept (Open (open_form.Swap callee) n) = swaps n from vs tx w kept
effect fs from vs tx w kept (Close update.Swap) = swapped vs w kept tx
effect fs from vs tx w kept _ = moves vs tx w kept

-- Memory may run out before this comes: not before a fault of a cell of another kind, which is found before anything is made. That a ref was
-- commuted is found behind the copy of its new value, and what an operation makes of its arguments behind theirs.
abbrev pub MayRunOut : Effect → Type 0
MayRunOut (moves vs tx w kept) = Unit {0}
MayRunOut (stays vs tx w kept) = Unit {0}
MayRunOut (waits p vs tx w kept) = Unit {0}
MayRunOut (dispatches x n vs tx w kept) = Unit {0}
MayRunOut (breaks k tx w kept) = k ≡ SetAfterCommute
MayRunOut (falls f tx w kept) = Unit {0}

-- what the machine's word says of such an instruction; running out of memory leaves what the transaction has done, and the commute that
-- is open, as they were
abbrev pub Comes : Moved → List Value → Transaction → PlainTxFrame → Option Commute → PlainTxFrame → Option Commute → Effect → Type 0
Comes moved.On vs tx w kept was had e = e ≡ moves vs tx w kept
Comes moved.Stays vs tx w kept was had e = e ≡ stays vs tx w kept
Comes (moved.Asks p) vs tx w kept was had e = e ≡ waits p vs tx w kept
Comes (moved.Sends x n) vs tx w kept was had e = e ≡ dispatches x n vs tx w kept
Comes (moved.Faults k) vs tx w kept was had e = e ≡ breaks k tx w kept
Comes (moved.Falls f) vs tx w kept was had e = e ≡ falls f tx w kept
Comes moved.Memory vs tx w kept was had e = (w ≡ was) × (kept ≡ had) × MayRunOut e

-- The same, in few words; a transaction that begins does so from here, with these values. Running out of memory and what comes before it
-- leave what the transaction has done, and the commute that is open, as they were.
abbrev pub ComesQuickly : Quick → Savepoint → List Value → Transaction → PlainTxFrame → Option Commute → PlainTxFrame → Option Commute → Effect → Type 0
ComesQuickly quick.On from vs tx w kept was had e = e ≡ moves vs tx w kept
ComesQuickly (quick.Reads c) from vs tx w kept was had e = e ≡ waits (pending.Read c) vs tx w kept
ComesQuickly (quick.Opens c n) from vs tx w kept was had e = e ≡ waits (pending.Open c n None) vs tx w kept
ComesQuickly (quick.Begins left) from vs tx w kept was had e = (e ≡ waits (pending.Begin left from) vs tx w kept) × (vs ≡ from.stack.values) × (w ≡ was) × (kept ≡ had)
ComesQuickly quick.Commits from vs tx w kept was had e = e ≡ waits pending.Commit vs tx w kept
ComesQuickly (quick.Faults k) from vs tx w kept was had e = e ≡ breaks k tx w kept
ComesQuickly quick.Memory from vs tx w kept was had e = (w ≡ was) × (kept ≡ had) × MayRunOut e

-- what isn't said so: all but reads, sets, the opens and closes of `alter`, and the beginning and the end of a transaction with no
-- commutes
abbrev pub IsRare : Option Commute → Instr → Type 0
IsRare kept (Look Deref) = ⊥
IsRare kept (Put RefSet) = ⊥
IsRare kept TxBegin = ⊥
IsRare kept (Open open_form.Alter n) = ⊥
IsRare kept (Close update.Alter) = (o : Commute) × (kept ≡ Some o)
IsRare kept (Close update.Commute) = (o : Commute) × (kept ≡ Some o)
IsRare kept _ = Unit {0}
