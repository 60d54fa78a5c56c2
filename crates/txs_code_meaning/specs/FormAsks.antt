-- What the forms on cells ask of the shared state. An actor that is to hear nothing more waits with its ask, so what a form asks is what it then waits with.
use Rattle.std.specs.Prelude.{◌≡◌, Bool, true, false, List, Option, Some, None}
use Rattle.txs_world_protocol.specs.declared.ask.Ask.{Ask}
use Rattle.txs_world_protocol.specs.declared.ask.Ask.TheVariants as ask
use Rattle.txs_value_cell.specs.Forms.{rule}
use Rattle.txs_value_data.specs.declared.fault.Span.{Span}
use Rattle.txs_value_cell.specs.declared.form.CellForm.{CellForm}
use Rattle.txs_value_cell.specs.declared.form.CellForm.TheVariants as form
use Rattle.txs_value_cell.specs.declared.form.FormAsk.{FormAsk}
use Rattle.txs_value_cell.specs.declared.form.FormAsk.TheVariants.{Nothing, ItsValue, Replacing, Swapping, Sending}
use Rattle.txs_value_cell.specs.declared.form.LookForm.{LookForm}
use Rattle.txs_value_cell.specs.declared.form.PutForm.{PutForm}
use Rattle.txs_value_cell.specs.declared.form.UpdateForm.TheVariants as update
use Rattle.txs_value_data.specs.declared.op.Callee.{Callee}
use Rattle.txs_value_data.specs.declared.value.CellId.{CellId}
use Rattle.txs_value_data.specs.declared.value.Value.{Value}
use Rattle.txs_value_data.specs.declared.value.Value.TheVariants.{Cell}
use Rattle.txs_code_meaning.specs.ActorState.{ActorState, StepResult, Continue, Break, Redo, Await, Malformed, SwapInHand, close_swap, break_swap, read, assign, RefUpdate, update_form, open_update, close_update, open_swap, send_to}

-- whether an ask about this cell is of the kind that a form makes; the truth value says whether a transaction is running
abbrev pub IsAskOf : FormAsk → Bool → CellId → Ask → Type 0
-- a ref's value at the read point
IsAskOf ItsValue true c (ask.Look d at) = d ≡ c
-- a cell's newest value
IsAskOf ItsValue false c (ask.Peek d) = d ≡ c
-- an atom gets a value, whatever it holds
IsAskOf Replacing false c (ask.CloseAt d None v) = d ≡ c
-- a swap begins, ends, or is over by a fault of its callee
IsAskOf Swapping false c (ask.OpenAt d) = d ≡ c
IsAskOf Swapping false c (ask.CloseAt d (Some p) v) = d ≡ c
IsAskOf Swapping false c (ask.Broke d p) = d ≡ c
-- an action is sent
IsAskOf Sending false c (ask.Send a) = a.agent ≡ c
IsAskOf _ _ c a = ⊥

-- there is such an ask
abbrev pub WantsSo : FormAsk → Bool → CellId → Option Ask → Type 0
WantsSo k inside c None = ⊥
WantsSo k inside c (Some a) = IsAskOf k inside c a

-- where a step waits for an answer, it is that of such an ask
abbrev pub AsksSo : {A : Type 0} → FormAsk → Bool → CellId → StepResult A → Type 0
AsksSo k inside c (Continue a s) = Unit {0}
AsksSo k inside c (Break f s) = Unit {0}
AsksSo k inside c (Redo s) = Unit {0}
AsksSo k inside c (Await s) = WantsSo k inside c s.wants
AsksSo k inside c Malformed = Unit {0}

-- what the table says that a form asks
abbrev pub asked_by : CellForm → FormAsk
asked_by f = (rule f).asks

-- each form asks about its cell what its row of the table says, and nothing else, in transactions and outside them
pub record FormsAskAsTold : Type 0 where
  pub reads : (f : LookForm) (inside : Bool) (span : Span) (c : CellId) (s : ActorState) → AsksSo (asked_by (form.Look f)) inside c (read f inside span (Cell c) s)
  pub assigns : (f : PutForm) (inside : Bool) (span : Span) (c : CellId) (v : Value) (s : ActorState) → AsksSo (asked_by (form.Put f)) inside c (assign f inside span (Cell c) v s)
  pub opens : (u : RefUpdate) (inside : Bool) (span : Span) (c : CellId) (vs : List Value) (s : ActorState) → AsksSo (asked_by (form.Update (update_form u))) inside c (open_update u inside span (Cell c) vs s)
  -- what the callee of `alter` or `commute` gave is kept by the transaction
  pub closes : (span : Span) (c : CellId) (v : Value) (s : ActorState) → AsksSo Nothing true c (close_update span (Cell c) v s)
  pub opens_swap : (inside : Bool) (span : Span) (c : CellId) (s : ActorState) → AsksSo (asked_by (form.Update update.Swap)) inside c (open_swap inside span (Cell c) s)
  pub closes_swap : (w : SwapInHand) (v : Value) (s : ActorState) → AsksSo (asked_by (form.Update update.Swap)) false w.cell (close_swap w v s)
  pub breaks_swap : (w : SwapInHand) (s : ActorState) → AsksSo (asked_by (form.Update update.Swap)) false w.cell (break_swap w s)
  pub sends : (inside : Bool) (span : Span) (c : CellId) (callee : Callee) (vs : List Value) (s : ActorState) → AsksSo (asked_by form.Send) inside c (send_to inside span (Cell c) callee vs s)
