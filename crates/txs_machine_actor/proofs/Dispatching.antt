-- A send outside every transaction finds its arguments on the stack.
use Rattle.std.proofs.Common.{◌≡◌, ℕ, zero, suc, ◌<◌, ◌≤◌, Bool, true, false, List, [], ◌∷◌, length, Option, Some, None, Result, Ok, Err, subst}
use Rattle.txs_world_protocol.specs.Ask.{Writes, buffered}
use Rattle.txs_frame.specs.Frame.{PlainTxFrame, commuted, set_ref}
use Rattle.txs_frame.specs.Phase.{next_arguments}
use Rattle.txs_frame.specs.declared.frame.Commute.{Commute}
use Rattle.txs_frame.specs.declared.phase.Task.{Task}
use Rattle.txs_frame.specs.declared.phase.Task.TheVariants.{Redoes, Validates}
use Rattle.txs_value_cell.specs.Cells.{Validators}
use Rattle.txs_value_apply.specs.Core.{Answer, core}
use Rattle.txs_value_data.specs.declared.fault.FaultKind.{FaultKind}
use Rattle.txs_value_data.specs.declared.fault.Span.{Span}
use Rattle.txs_value_data.specs.declared.op.Callee.{Callee}
use Rattle.txs_value_data.specs.declared.op.Callee.TheVariants as callee
use Rattle.txs_value_cell.specs.Forms.{rule, cell_of}
use Rattle.txs_value_cell.specs.declared.action.Action.{Action}
use Rattle.txs_value_cell.specs.declared.form.CellForm.TheVariants as form
use Rattle.txs_value_cell.specs.declared.form.LookForm.TheVariants.{Deref, Ensure}
use Rattle.txs_value_cell.specs.declared.form.PutForm.TheVariants.{RefSet, Reset}
use Rattle.txs_value_cell.specs.declared.form.UpdateForm.TheVariants as update
use Rattle.txs_value_data.specs.declared.value.CellId.{CellId}
use Rattle.txs_value_data.specs.declared.value.Value.{Value}
use Rattle.txs_code_meaning.specs.ActorState.{RefUpdate}
use Rattle.txs_code_meaning.specs.declared.instr.Instr.{Instr}
use Rattle.txs_code_meaning.specs.declared.instr.Instr.TheVariants as instr
use Rattle.txs_code_meaning.specs.declared.instr.OpenForm.TheVariants as open_form
use Rattle.txs_machine_loop.specs.Values.{last_of, under}
use Rattle.txs_machine_transaction.specs.Effect.{Effect, moves, stays, waits, dispatches, breaks, falls, own_or, ensures_cell, opens_cell, update_of, sets_as, sets_cell, resets_cell, sends_cell, swaps_cell, swapped, keeps_cell, closes, settles, applies_as, applies, goes_through, ends, CanMove, IsRare, effect}
use Rattle.txs_machine_transaction.specs.Transaction.{is_running}
use Rattle.txs_machine_transaction.specs.declared.state.Savepoint.{Savepoint}
use Rattle.txs_machine_transaction.specs.declared.state.Transaction.{Transaction}
use Rattle.txs_machine_transaction.specs.declared.state.Transaction.TheVariants.{Outside, Restarting, Running, Applying, Evaluating, Swapping, Judging, Weighing}

module _ (room : ℕ) where
  -- the arguments of a send are among the values, which have room
  abbrev SendsWell : Effect → Type 0
  SendsWell (moves us t w k) = Unit {0}
  SendsWell (stays us t w k) = Unit {0}
  SendsWell (waits p us t w k) = Unit {0}
  SendsWell (dispatches x n us t w k) = (n < length us) × (length us ≤ room)
  SendsWell (breaks f t w k) = Unit {0}
  SendsWell (falls f t w k) = Unit {0}

  own_or_well : (o : Option Value) (go : Value → Effect) (e : Effect) → ((v : Value) → SendsWell (go v)) → SendsWell e → SendsWell (own_or o go e)
  own_or_well None go e f g = g
  own_or_well (Some v) go e f g = f v

  module _ (from : Savepoint) (vs : List Value) (tx : Transaction) (w : PlainTxFrame) where
    ensures_well : (k : Option Commute) (r : Result CellId FaultKind) → SendsWell (ensures_cell vs tx w k r)
    ensures_well k (Ok c) = own_or_well (buffered w.values c.number) _ _ (λ v. tt) tt
    ensures_well k (Err x) = tt

    opens_well : (u : RefUpdate) (n : ℕ) (k : Option Commute) (r : Result CellId FaultKind) → SendsWell (opens_cell u n vs tx w k r)
    opens_well u n k (Ok c) = own_or_well (buffered w.values c.number) _ _ (λ v. tt) tt
    opens_well u n k (Err x) = tt

    set_well : (k : Option Commute) (o : Result PlainTxFrame FaultKind) → SendsWell (sets_as vs tx w k o)
    set_well k (Ok new) = tt
    set_well k (Err x) = tt

    sets_well : (k : Option Commute) (r : Result CellId FaultKind) → SendsWell (sets_cell vs tx w k r)
    sets_well k (Ok c) = set_well k (set_ref c (last_of vs) w)
    sets_well k (Err x) = tt

    resets_well : (k : Option Commute) (r : Result CellId FaultKind) → SendsWell (resets_cell vs tx w k r)
    resets_well k (Ok c) = tt
    resets_well k (Err x) = tt

    sends_well : (inside : Bool) (f : Callee) (n : ℕ) (span : Span) (k : Option Commute) → n < length vs → length vs ≤ room → (r : Result CellId FaultKind) → SendsWell (sends_cell inside f n span vs tx w k r)
    sends_well true f n span k lt le (Ok g) = tt
    sends_well false f n span k lt le (Ok g) = (lt, le)
    sends_well true f n span k lt le (Err x) = tt
    sends_well false f n span k lt le (Err x) = tt

    keeps_well : (o : Commute) (r : Result CellId FaultKind) → SendsWell (keeps_cell o vs tx w r)
    keeps_well o (Ok c) = tt
    keeps_well o (Err x) = tt

    closes_well : (k : Option Commute) → SendsWell (closes vs tx w k)
    closes_well None = sets_well None (cell_of (rule (form.Update update.Alter)) true (under 1 vs))
    closes_well (Some o) = keeps_well o (cell_of (rule (form.Update update.Alter)) true (under 1 vs))

    swaps_well : (n : ℕ) (k : Option Commute) (r : Result CellId FaultKind) → SendsWell (swaps_cell n from vs tx w k r)
    swaps_well n k (Ok c) = tt
    swaps_well n k (Err x) = tt

    settles_well : (vals : Validators) (cs : List CellId) (t : Transaction) (k : Option Commute) → SendsWell (settles vals cs vs t w k)
    settles_well vals [] t k = tt
    settles_well vals (c ∷ cs) t k = tt

    applied_well : (left : ℕ) (at : Savepoint) (k : Option Commute) (o : Commute) (os : List Task) (ws : Writes) (x : Answer) → SendsWell (applies_as left at vs w k o os ws x)
    applied_well left at k o os ws (Ok v) = tt
    applied_well left at k o os ws (Err x) = tt

    applies_well : (f : Callee) (left : ℕ) (at : Savepoint) (k : Option Commute) (o : Commute) (os : List Task) (ws : Writes) → SendsWell (applies f left at vs w k o os ws)
    applies_well (callee.Core op) left at k o os ws = applied_well left at k o os ws (core op (next_arguments (Redoes o ∷ os) ws w))
    applies_well (callee.Function f) left at k o os ws = tt

    through_well : (left : ℕ) (at : Savepoint) (k : Option Commute) (os : List Task) (ws : Writes) → SendsWell (goes_through left at vs w k os ws)
    through_well left at k [] ws = tt
    through_well left at k (Redoes o ∷ os) ws = applies_well o.callee left at k o os ws
    through_well left at k (Validates c f ∷ os) ws = tt

    ends_well : (vals : Validators) (k : Option Commute) (t : Transaction) → SendsWell (ends vals vs w k t)
    ends_well vals k Outside = tt
    ends_well vals k (Restarting left) = tt
    ends_well vals k (Running left zero at) = settles_well vals (commuted w) (Running left zero at) k
    ends_well vals k (Running left (suc inner) at) = tt
    ends_well vals k (Applying left at phase) = through_well left at k phase.work phase.values
    ends_well vals k (Evaluating left at phase aside) = tt
    ends_well vals k (Swapping c p at) = tt
    ends_well vals k (Judging aside) = tt
    ends_well vals k (Weighing c p at aside) = tt

    swapped_well : (k : Option Commute) (t : Transaction) → SendsWell (swapped vs w k t)
    swapped_well k Outside = tt
    swapped_well k (Restarting left) = tt
    swapped_well k (Running left inner at) = tt
    swapped_well k (Applying left at phase) = tt
    swapped_well k (Evaluating left at phase aside) = tt
    swapped_well k (Swapping c p at) = tt
    swapped_well k (Judging aside) = tt
    swapped_well k (Weighing c p at aside) = tt

    effect_well : (vals : Validators) (k : Option Commute) (i : Instr) → CanMove vs room tx i → IsRare k i → SendsWell (effect vals from vs tx w k i)
    effect_well vals k (instr.Look Deref) can rare = absurd rare
    effect_well vals k (instr.Look Ensure) can rare = ensures_well k (cell_of (rule (form.Look Ensure)) true (last_of vs))
    effect_well vals k (instr.Put RefSet) can rare = absurd rare
    effect_well vals k (instr.Put Reset) can rare = resets_well k (cell_of (rule (form.Put Reset)) false (under 1 vs))
    effect_well vals k (instr.Send f n) can rare = sends_well (is_running tx) f n from.span k can.0 can.1 (cell_of (rule form.Send) (is_running tx) (under n vs))
    effect_well vals k instr.TxBegin can rare = absurd rare
    effect_well vals k instr.TxEnd can rare = ends_well vals k tx
    effect_well vals k (instr.Open open_form.Alter n) can rare = absurd rare
    effect_well vals k (instr.Open (open_form.Commute f) n) can rare = opens_well (update_of (Some f)) n k (cell_of (rule (form.Update update.Alter)) true (under n vs))
    effect_well vals k (instr.Open (open_form.Swap f) n) can rare = swaps_well n k (cell_of (rule (form.Update update.Swap)) false (under n vs))
    effect_well vals k (instr.Close update.Alter) can rare = closes_well k
    effect_well vals k (instr.Close update.Commute) can rare = closes_well k
    effect_well vals k (instr.Close update.Swap) can rare = swapped_well k tx
    effect_well vals k (instr.Const c) can rare = absurd can
    effect_well vals k (instr.Local i) can rare = absurd can
    effect_well vals k (instr.Store i) can rare = absurd can
    effect_well vals k instr.Pop can rare = absurd can
    effect_well vals k (instr.Jump to) can rare = absurd can
    effect_well vals k (instr.JumpFalse to) can rare = absurd can
    effect_well vals k (instr.Core op n) can rare = absurd can
    effect_well vals k (instr.Call f) can rare = absurd can
    effect_well vals k instr.Return can rare = absurd can
    effect_well vals k (instr.Vector n) can rare = absurd can
    effect_well vals k (instr.Print n) can rare = absurd can
    effect_well vals k instr.Halt can rare = absurd can

    -- where an instruction sends outside every transaction, its arguments are among the values, which have room
    pub dispatched : (vals : Validators) (k : Option Commute) (i : Instr) → CanMove vs room tx i → IsRare k i → (x : Action) (n : ℕ) (us : List Value) (t : Transaction) (u : PlainTxFrame) (had : Option Commute) → effect vals from vs tx w k i ≡ dispatches x n us t u had
        → (n < length us) × (length us ≤ room)
    dispatched vals k i can rare x n us t u had e = subst SendsWell e (effect_well vals k i can rare)
