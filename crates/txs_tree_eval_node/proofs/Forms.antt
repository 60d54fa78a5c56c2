-- Forms on cells, one after the other: what the parts give is what the form means.
use Rattle.std.proofs.Common.{◌≡◌, ℕ, suc, Bool, true, false, if◌then◌else◌, List, [], ◌∷◌, ◌++◌, length, Option, Some, None, Result, Ok, Err, MatchResult, OnOk, refl, sym, ap, ◌∙◌, subst, arith, Vec, Global}
use Rattle.std.proofs.lemmas.Bool.{false≢true}
use Rattle.std.proofs.lemmas.List.{length_push}
use Rattle.txs_world_protocol.specs.Ask.{same_cell, same_value, same_action}
use Rattle.txs_world_protocol.specs.SeenEvent.{SeenEvent, home}
use Rattle.txs_world_protocol.specs.declared.event.EventKind.{EventKind}
use Rattle.txs_world_protocol.specs.declared.event.EventKind.TheVariants.{Read, Commit, Retry, Fail, Refused, Send as Sent, SendRefused, Act as Acted, Swap as Swapped, Broke}
use Rattle.txs_frame.specs.Frame.{set_ref, hold_send, with_sends}
use Rattle.txs_tree_eval_node.specs.Evaluated.{held_of, HaltsAt, AnswersAt, Comes, ComesNone, with_todo, after, ReadyIn, forms_on, calls_on, around_it, inside_means, outside_means, update_means, swap_means, applied, quiet, wholly, makes, made_means, accept_means, FirstAccepted, FirstStops, PutAccepted, PutStops, IsSwap, IsNoSwap, swap_ends, swap_gives, swap_of, is_broke, is_read_of, is_swap_to, sending, sent_as, part, is_on, has_all, Yields, Finishes, Steps, step_of, call_means, applies_means, finish_means, thread_state}
use Rattle.txs_tree_eval_transaction.specs.Worked.{Stops, Gives, Told, RefCell, UpdatesRef, update_begins, update_ends, of_one, stop_without_fault, with_work, tx_state}
use Rattle.txs_tree_eval_node.specs.Events.{seen_event}
use Rattle.txs_tree_eval_node.specs.Shapes.{form_of_act}
use Rattle.txs_value_apply.specs.Core.{core, vector_of}
use Rattle.txs_tree_meaning.specs.Meaning.{Completion, Completes, Recurs, Faults, Retries, Waits, OutOfTurns, Invalid, bind, result_of, allowed, Applies, apply}
use Rattle.txs_tree_eval_node.specs.Setting.{Setting, callable, deepest, on_view, zone_in, zone_on}
use Rattle.txs_tree_meaning.specs.Sound.{SoundCall, SoundCallee, SoundCells, SentCallee, PureCall, SoundFunctions, MayStand, in_thread, in_dosync}
use Rattle.txs_tree_meaning.specs.Right.{up_to}
use Rattle.txs_tree_meaning.specs.Thread.{ThreadState, Surroundings, holding, uneaten, eats, reads, resets, sends, sends_or_holds, swaps, meant, faultless, faulted, accepts, thread_look, thread_put, thread_update, outside_form}
use Rattle.txs_tree_meaning.specs.Transaction.{TxState, on_cell, done_as, tx_look_lacking, tx_put, tx_update_lacking}
use Rattle.txs_tree_meaning.specs.Tree.{Mark}
use Rattle.txs_tree_meaning.specs.View.{functions_of}
use Rattle.txs_tree_eval_transaction.specs.Views.{PlainView, PlainTxView, is_whole, whole_view, world_of}
use Rattle.txs_tree_eval_node.specs.declared.shape.Act.{Act}
use Rattle.txs_tree_eval_node.specs.declared.shape.Act.TheVariants.{Look as a_look, Put as a_put, Update as an_update, Send as a_send}
use Rattle.txs_tree_eval_node.specs.declared.shape.Strict.{Strict}
use Rattle.txs_tree_eval_node.specs.declared.shape.Strict.TheVariants.{Core as a_core, Call as a_call, Vector as a_vector, Println as a_println}
use Rattle.txs_tree_eval_node.specs.declared.evaluate.Step.{Step}
use Rattle.txs_tree_eval_node.specs.declared.seen.Seen.{Seen}
use Rattle.txs_tree_eval_node.specs.declared.state.Progress.{Progress}
use Rattle.txs_tree_eval_node.specs.declared.state.State.{State}
use Rattle.txs_tree_eval_node.specs.declared.thread.Sending.{Sending}
use Rattle.txs_tree_eval_node.specs.declared.thread.Sending.TheVariants.{Sent as WasSent, Refused as WasRefused, Other as NotSent}
use Rattle.txs_value_data.specs.Places.{fault_at}
use Rattle.txs_value_cell.specs.declared.action.Action.{Action}
use Rattle.txs_tree_eval_transaction.specs.declared.stop.ThreadStop.{ThreadStop}
use Rattle.txs_tree_eval_transaction.specs.declared.stop.ThreadStop.TheVariants.{Fault, Event, Wrong, Turns, Memory}
use Rattle.txs_value_cell.specs.Cells.{World, validators_of, validator_at}
use Rattle.txs_value_cell.specs.Forms.{rule, cell_of, cell_if, same_kind, may_stand}
use Rattle.txs_value_data.specs.Printed.{printed_line}
use Rattle.txs_value_data.specs.declared.fault.FaultKind.{FaultKind}
use Rattle.txs_value_data.specs.declared.fault.FaultKind.TheVariants.{NotARef, NotAnAgent, AgentFailed}
use Rattle.txs_value_data.specs.declared.fault.Span.{Span}
use Rattle.txs_value_cell.specs.declared.form.CellForm.{CellForm}
use Rattle.txs_value_cell.specs.declared.form.CellForm.TheVariants as form_of
use Rattle.txs_value_cell.specs.declared.form.PutForm.{PutForm}
use Rattle.txs_value_cell.specs.declared.form.PutForm.TheVariants.{RefSet, Reset}
use Rattle.txs_value_cell.specs.declared.form.FormAsk.{FormAsk}
use Rattle.txs_value_cell.specs.declared.form.FormAsk.TheVariants.{Nothing, ItsValue}
use Rattle.txs_value_cell.specs.declared.form.LookForm.{LookForm}
use Rattle.txs_value_cell.specs.declared.form.LookForm.TheVariants.{Deref, Ensure}
use Rattle.txs_tree_meaning.specs.Known.{Known}
use Rattle.txs_value_cell.specs.declared.form.UpdateForm.{UpdateForm}
use Rattle.txs_value_cell.specs.declared.form.UpdateForm.TheVariants.{Alter, Commute, Swap}
use Rattle.txs_value_cell.specs.declared.form.Standing.{Standing}
use Rattle.txs_value_cell.specs.declared.form.Standing.TheVariants.{Anywhere, Inside, Outside}
use Rattle.txs_value_data.specs.declared.op.Callee.{Callee}
use Rattle.txs_value_data.specs.declared.op.Op.{Op}
use Rattle.txs_value_data.specs.declared.op.Callee.TheVariants.{Core as CoreOp, Function}
use Rattle.txs_value_data.specs.declared.value.CellId.{CellId}
use Rattle.txs_value_data.specs.declared.value.CellKind.{CellKind}
use Rattle.txs_value_data.specs.declared.value.CellKind.TheVariants.{Ref, Atom, Agent}
use Rattle.txs_value_data.specs.declared.value.Value.{Value}
use Rattle.txs_value_data.specs.declared.value.Value.TheVariants.{Nil, Truth, Int, Key, Text, Vector, Cell}
use Rattle.txs_tree_eval_node.proofs.Leaf.{held_more}
use Rattle.txs_tree_eval_node.proofs.Applying.{callee_agrees, told_applies, told_from, answers_from, carried, whole_agrees, validated_agrees, made_agrees}
use Rattle.txs_tree_eval_node.proofs.Called.{validator_sound}
use Rattle.txs_tree_eval_node.proofs.Evaluation.{stops_bind, gives_anywhere}
use Rattle.txs_tree_eval_node.proofs.Shaping.{stepped}
use Rattle.txs_tree_meaning.proofs.PureLaw.{Agrees}

-- ---- the cell that a form takes

abbrev IsNone : Option Value → Type 0
IsNone None = Unit {0}
IsNone (Some v) = ⊥

abbrev or_else : Value → Option Value → Value
or_else v None = v
or_else v (Some w) = w

nothing : {v : Value} → None ≡ Some v → ⊥
nothing h = subst IsNone h tt

never : true ≡ false → ⊥
never h = false≢true (sym h)

module _ {S : Type 0} (b : Bool) (s : S) where
  -- the same with this state
  abbrev taken_over : {A : Type 0} → Completion (Unit {0}) A → Completion S A
  taken_over (Completes a t) = Completes a s
  taken_over (Recurs vs t) = Recurs vs s
  taken_over (Faults f t) = Faults f s
  taken_over (Retries t) = Retries s
  taken_over (Waits t) = Waits s
  taken_over (OutOfTurns t) = OutOfTurns s
  taken_over Invalid = Invalid

  -- what is told of a result is what it gives with any state
  pub gives_result : {A : Type 0} (r : Result A FaultKind) (span : Span) (x : Result A ThreadStop) → Told x (result_of r span tt) → Gives b x s (result_of r span s)
  gives_result (Ok a) span (Ok v) h = ap (λ (c : Completion (Unit {0}) _). taken_over c) h
  gives_result (Ok a) span (Err (Fault f)) h = ap (λ (c : Completion (Unit {0}) _). taken_over c) h
  gives_result (Ok a) span (Err Event) h = absurd (never h.0)
  gives_result (Ok a) span (Err Wrong) h = absurd (never h.0)
  gives_result (Ok a) span (Err Turns) h = ap (λ (c : Completion (Unit {0}) _). taken_over c) h
  gives_result (Ok a) span (Err Memory) h = tt
  gives_result (Err k) span (Ok v) h = ap (λ (c : Completion (Unit {0}) _). taken_over c) h
  gives_result (Err k) span (Err (Fault f)) h = ap (λ (c : Completion (Unit {0}) _). taken_over c) h
  gives_result (Err k) span (Err Event) h = absurd (never h.0)
  gives_result (Err k) span (Err Wrong) h = absurd (never h.0)
  gives_result (Err k) span (Err Turns) h = ap (λ (c : Completion (Unit {0}) _). taken_over c) h
  gives_result (Err k) span (Err Memory) h = tt

  -- a form on the cell that it takes
  pub took : (form : CellForm) (inside : Bool) (span : Span) (v : Value) (go : CellId → S → Completion S Value) (c : CellId) → Told (Ok c) (result_of (cell_of (rule form) inside v) span tt) → on_cell form inside span v go s ≡ go c s
  took form inside span v go c h = ap (λ x. bind x go) (gives_result (cell_of (rule form) inside v) span (Ok c) h)

  -- a form that takes none
  pub untaken : (form : CellForm) (inside : Bool) (span : Span) (v : Value) (go : CellId → S → Completion S Value) (y : ThreadStop) → Told {A = CellId} (Err y) (result_of (cell_of (rule form) inside v) span tt) → Stops b y s (on_cell form inside span v go s)
  untaken form inside span v go y h = stops_bind b y s (result_of (cell_of (rule form) inside v) span s) go (gives_result (cell_of (rule form) inside v) span (Err y) h)

-- ---- in a transaction

module _ (x : Setting) (r : PlainTxView) (m : Mark) (v : Value) (t : TxState) where
  pub untaken_inside : (act : Act) (vs : List Value) (y : ThreadStop) → ReadyIn (callable x) in_dosync act (length vs) → Told {A = CellId} (Err y) (result_of (cell_of (rule (form_of_act act)) true v) m.span tt) → Stops (is_whole r.gone) y t (inside_means x r act m v vs t)
  untaken_inside (a_look form) vs y ready h = untaken (is_whole r.gone) t (form_of.Look form) true m.span v (λ c t1. tx_look_lacking r.gone (world_of r.refs) form c t1) y h
  untaken_inside (a_put form) [] y ready h = absurd (omega (arith, ready.1))
  untaken_inside (a_put form) (w ∷ ws) y ready h = untaken (is_whole r.gone) t (form_of.Put form) true m.span v (λ c t1. tx_put form m.span c w t1) y h
  untaken_inside (an_update form callee) vs y ready h = untaken (is_whole r.gone) t (form_of.Update form) true m.span v (λ c t1. tx_update_lacking r.gone (world_of r.refs) form m c callee vs (apply (calls_on (Some r) x true) m.span) t1) y h
  untaken_inside (a_send callee) vs y ready h = untaken (is_whole r.gone) t form_of.Send true m.span v _ y h

-- ---- the agent of a send

abbrev Whole : {A : Type 0} → Completion (Unit {0}) A → Type 0
Whole (Completes a s) = Unit {0}
Whole _ = ⊥

abbrev given_or : CellId → Completion (Unit {0}) CellId → CellId
given_or c (Completes d s) = d
given_or c _ = c

send_took : (b : Bool) (fault : FaultKind) (span : Span) (c d : CellId) → Told (Ok d) (result_of (cell_if b fault c) span tt) → c ≡ d
send_took true fault span c d h = ap (given_or c) h
send_took false fault span c d h = absurd (subst Whole (sym h) tt)

-- a value that a send takes is the agent
pub send_cell : (v : Value) (inside : Bool) (span : Span) (d : CellId) → Told (Ok d) (result_of (cell_of (rule form_of.Send) inside v) span tt) → v ≡ Cell d
send_cell (Cell c) inside span d h = ap Cell (send_took (same_kind c.kind Agent) NotAnAgent span c d h)
send_cell Nil inside span d h = absurd (subst Whole (sym h) tt)
send_cell (Truth b) inside span d h = absurd (subst Whole (sym h) tt)
send_cell (Int z) inside span d h = absurd (subst Whole (sym h) tt)
send_cell (Key bs) inside span d h = absurd (subst Whole (sym h) tt)
send_cell (Text bs) inside span d h = absurd (subst Whole (sym h) tt)
send_cell (Vector ds) inside span d h = absurd (subst Whole (sym h) tt)

module _ (x : Setting) (r : PlainTxView) (m : Mark) (v : Value) (t : TxState) (cell : CellId) (res : Result Value ThreadStop) (t1 : TxState) where
  -- a ref is set to the one argument
  pub put_inside : (form : PutForm) (vs : List Value) → ReadyIn (callable x) in_dosync (a_put form) (length vs) → Told (Ok cell) (result_of (cell_of (rule (form_of.Put form)) true v) m.span tt)
      → Gives true res t1 (of_one (λ w. done_as (set_ref cell w t.done) m.span w t) vs) → Gives (is_whole r.gone) res t1 (inside_means x r (a_put form) m v vs t)
  put_inside form [] ready told h = absurd (omega (arith, ready.1))
  put_inside RefSet (w ∷ ws) ready told h = subst (λ c. Gives (is_whole r.gone) res t1 c) (sym (took (is_whole r.gone) t (form_of.Put RefSet) true m.span v (λ c s. tx_put RefSet m.span c w s) cell told)) (gives_anywhere (is_whole r.gone) res t1 (done_as (set_ref cell w t.done) m.span w t) h)
  put_inside Reset (w ∷ ws) ready told h = absurd ready.0

  -- a ref is read
  pub look_inside : (form : LookForm) (vs : List Value) → Told (Ok cell) (result_of (cell_of (rule (form_of.Look form)) true v) m.span tt) → Gives (is_whole r.gone) res t1 (tx_look_lacking r.gone (world_of r.refs) form cell t) → Gives (is_whole r.gone) res t1 (inside_means x r (a_look form) m v vs t)
  look_inside form vs told h = subst (λ c. Gives (is_whole r.gone) res t1 c) (sym (took (is_whole r.gone) t (form_of.Look form) true m.span v (λ c s. tx_look_lacking r.gone (world_of r.refs) form c s) cell told)) h

  -- a send is held, and gives the agent
  pub send_inside : (callee : Callee) (vs : List Value) → Told (Ok cell) (result_of (cell_of (rule form_of.Send) true v) m.span tt)
      → Gives true res t1 (Completes (Cell cell) (with_work (hold_send (record { agent = cell; callee = callee; args = vs; span = m.span }) t.done) t)) → Gives (is_whole r.gone) res t1 (inside_means x r (a_send callee) m v vs t)
  send_inside callee vs told h =
      subst (λ c. Gives (is_whole r.gone) res t1 c)
      (sym (took (is_whole r.gone) t form_of.Send true m.span v (λ c s. Completes v (record s { done = hold_send (record { agent = c; callee = callee; args = vs; span = m.span }) s.done })) cell told
      ∙ ap (λ w. Completes w (record t { done = hold_send (record { agent = cell; callee = callee; args = vs; span = m.span }) t.done })) (send_cell v true m.span cell told)))
      (gives_anywhere (is_whole r.gone) res t1 (Completes (Cell cell) (with_work (hold_send (record { agent = cell; callee = callee; args = vs; span = m.span }) t.done) t)) h)

-- ---- outside

-- a stop is the same where the thread waits before what it doesn't allow
up_to_stop : (y : ThreadStop) (s t : ThreadState) (c : Completion ThreadState Value) → Stops false y s c → Stops false y s (up_to t c)
up_to_stop (Fault f) s t c h = ap (λ d. up_to t d) h
up_to_stop Event s t c h = (refl, ap (λ d. up_to t d) h.1)
up_to_stop Wrong s t c h = (refl, ap (λ d. up_to t d) h.1)
up_to_stop Turns s t c h = ap (λ d. up_to t d) h
up_to_stop Memory s t c h = tt

stands_outside : (s : Standing) (c : Completion ThreadState Value) → MayStand in_thread s → allowed (may_stand s false) c ≡ c
stands_outside Anywhere c h = refl
stands_outside Inside c h = absurd h
stands_outside Outside c h = refl

module _ (x : Setting) (m : Mark) (v : Value) (t : ThreadState) where
  -- a form that may stand outside, on the cell that it takes
  pub took_outside : (form : CellForm) (go : CellId → ThreadState → Completion ThreadState Value) (c : CellId) → MayStand in_thread (rule form).stands → Told (Ok c) (result_of (cell_of (rule form) false v) m.span tt) → outside_form form (on_cell form false m.span v go t) ≡ go c t
  took_outside form go c stands h = stands_outside (rule form).stands (on_cell form false m.span v go t) stands ∙ took false t form false m.span v go c h

  untaken_out : (form : CellForm) (go : CellId → ThreadState → Completion ThreadState Value) (y : ThreadStop) → MayStand in_thread (rule form).stands → Told {A = CellId} (Err y) (result_of (cell_of (rule form) false v) m.span tt)
      → Stops false y t (up_to t (outside_form form (on_cell form false m.span v go t)))
  untaken_out form go y stands h =
      up_to_stop y t t (outside_form form (on_cell form false m.span v go t))
      (subst (λ c. Stops false y t c) (sym (stands_outside (rule form).stands (on_cell form false m.span v go t) stands)) (untaken false t form false m.span v go y h))

  pub untaken_outside : (act : Act) (vs : List Value) (y : ThreadStop) → ReadyIn (callable x) in_thread act (length vs) → Told {A = CellId} (Err y) (result_of (cell_of (rule (form_of_act act)) false v) m.span tt) → Stops false y t (outside_means x act m v vs t)
  untaken_outside (a_look form) vs y ready h = untaken_out (form_of.Look form) (thread_look (around_it x) form) y ready h
  untaken_outside (a_put form) [] y ready h = absurd (omega (arith, ready.1))
  untaken_outside (a_put form) (w ∷ ws) y ready h = untaken_out (form_of.Put form) (λ c t1. thread_put (around_it x) form m.span c w (wholly (around_it x) m.span) t1) y ready.0 h
  untaken_outside (an_update form callee) vs y ready h = untaken_out (form_of.Update form) (λ c t1. thread_update (around_it x) form m.span c callee vs (wholly (around_it x) m.span) t1) y ready.0 h
  untaken_outside (a_send callee) vs y ready h =
      let go : CellId → ThreadState → Completion ThreadState Value = λ c t1. sends_or_holds t1.held (record { agent = c; callee = callee; args = vs; span = m.span }) m.span t1 in
      up_to_stop y t t (on_cell form_of.Send false m.span v go t) (untaken false t form_of.Send false m.span v go y h)

module _ (x : Setting) (m : Mark) (v : Value) (t : ThreadState) (cell : CellId) (res : Result Value ThreadStop) (t1 : ThreadState) where
  -- a cell is read
  pub look_outside : (form : LookForm) (vs : List Value) → ReadyIn (callable x) in_thread (a_look form) (length vs) → Told (Ok cell) (result_of (cell_of (rule (form_of.Look form)) false v) m.span tt)
      → Gives false res t1 (up_to t (eats (home x.cells cell) (λ e s. reads cell e.kind e.C s) t.todo t)) → Gives false res t1 (outside_means x (a_look form) m v vs t)
  look_outside Deref vs ready told h = subst (λ c. Gives false res t1 (up_to t c)) (sym (took_outside x m v t (form_of.Look Deref) (λ c s. thread_look (around_it x) Deref c s) cell ready told)) h
  look_outside Ensure vs ready told h = absurd ready

  -- a send eats its event, or is held
  pub send_outside : (callee : Callee) (vs : List Value) → Told (Ok cell) (result_of (cell_of (rule form_of.Send) false v) m.span tt)
      → Gives false res t1 (up_to t (sends_or_holds t.held (record { agent = cell; callee = callee; args = vs; span = m.span }) m.span t)) → Gives false res t1 (outside_means x (a_send callee) m v vs t)
  send_outside callee vs told h =
      subst (λ c. Gives false res t1 (up_to t c))
      (sym (took false t form_of.Send false m.span v (λ c s. sends_or_holds s.held (record { agent = c; callee = callee; args = vs; span = m.span }) m.span s) cell told)) h

  -- an atom is swapped
  pub update_outside : (form : UpdateForm) (callee : Callee) (vs : List Value) → ReadyIn (callable x) in_thread (an_update form callee) (length vs) → Told (Ok cell) (result_of (cell_of (rule (form_of.Update form)) false v) m.span tt)
      → Gives false res t1 (up_to t (eats (home x.cells cell) (λ e s. swap_means x callee cell vs m.span e s) t.todo t)) → Gives false res t1 (outside_means x (an_update form callee) m v vs t)
  update_outside Swap callee vs ready told h =
      subst (λ c. Gives false res t1 (up_to t c)) (sym (took_outside x m v t (form_of.Update Swap) (λ c s. thread_update (around_it x) Swap m.span c callee vs (wholly (around_it x) m.span) s) cell ready.0 told)) h
  update_outside Alter callee vs ready told h = absurd ready.0
  update_outside Commute callee vs ready told h = absurd ready.0

-- a form that puts
module _ (x : Setting) (sound : SoundFunctions [] (functions_of x.functions)) (cells : SoundCells (callable (deepest x)) x.cells) (m : Mark) (v : Value) (t : ThreadState) (cell : CellId) where
  -- what the validator makes of a value there
  abbrev checked : Value → Completion ThreadState Value
  checked w = accepts (around_it x) (wholly (around_it x) m.span) cell m.span w t

  checked_agrees : (w : Value) → Agrees t (accept_means (deepest x) cell m.span w) (checked w)
  checked_agrees w =
      validated_agrees (callable (deepest x)) (quiet (deepest x) m.span) (wholly (around_it x) m.span) (λ c k vs s h. whole_agrees x sound m.span c k vs s h) (validator_at (validators_of x.cells) cell.number)
      (validator_sound (callable (deepest x)) x.cells cell.number cells) m.span w t

  abbrev then_eats : Value → ThreadState → Completion ThreadState Value
  then_eats w t1 = eats (home x.cells cell) (λ e s. resets w e.kind s) t1.todo t1

  put_there : (w : Value) → MayStand in_thread (rule (form_of.Put Reset)).stands → Told (Ok cell) (result_of (cell_of (rule (form_of.Put Reset)) false v) m.span tt) → outside_means x (a_put Reset) m v (w ∷ []) t ≡ up_to t (bind (checked w) then_eats)
  put_there w stands told = ap (λ c. up_to t c) (took_outside x m v t (form_of.Put Reset) (λ c s. thread_put (around_it x) Reset m.span c w (wholly (around_it x) m.span) s) cell stands told)

  -- an atom is reset to the one argument, which its validator accepts
  pub put_outside : (res : Result Value ThreadStop) (t1 : ThreadState) (form : PutForm) (vs : List Value) → ReadyIn (callable x) in_thread (a_put form) (length vs) → Told (Ok cell) (result_of (cell_of (rule (form_of.Put form)) false v) m.span tt) → FirstAccepted (deepest x) cell m.span vs
      → Gives false res t1 (of_one (λ w. up_to t (eats (home x.cells cell) (λ e s. resets w e.kind s) t.todo t)) vs) → Gives false res t1 (outside_means x (a_put form) m v vs t)
  put_outside res t1 form [] ready told ok h = absurd (omega (arith, ready.1))
  put_outside res t1 Reset (w ∷ ws) ready told ok h =
      let accepted : checked w ≡ Completes w t = subst (λ p. Agrees t p (checked w)) ok (checked_agrees w) in
      subst (λ c. Gives false res t1 c) (sym (put_there w ready.0 told ∙ ap (λ c. up_to t (bind c then_eats)) accepted)) h
  put_outside res t1 RefSet (w ∷ ws) ready told ok h = absurd ready.0

  put_refused : (y : ThreadStop) (form : PutForm) (vs : List Value) → ReadyIn (callable x) in_thread (a_put form) (length vs) → Told (Ok cell) (result_of (cell_of (rule (form_of.Put form)) false v) m.span tt) → FirstStops (deepest x) cell m.span vs y
      → Stops false y t (outside_means x (a_put form) m v vs t)
  put_refused y form [] ready told stops = absurd stops
  put_refused y Reset (w ∷ ws) ready told stops =
      let here : Stops false y t (checked w) = carried false t (Err y) (accept_means (deepest x) cell m.span w) (checked w) (checked_agrees w) stops in
      subst (λ c. Stops false y t c) (sym (put_there w ready.0 told)) (up_to_stop y t t (bind (checked w) then_eats) (stops_bind false y t (checked w) then_eats here))
  put_refused y RefSet (w ∷ ws) ready told stops = absurd ready.0

  -- one that isn't accepted
  pub refused_outside : (y : ThreadStop) (act : Act) (vs : List Value) → ReadyIn (callable x) in_thread act (length vs) → Told (Ok cell) (result_of (cell_of (rule (form_of_act act)) false v) m.span tt) → PutStops (deepest x) act cell m.span vs y
      → Stops false y t (outside_means x act m v vs t)
  refused_outside y (a_look form) vs ready told stops = absurd stops
  refused_outside y (a_put form) vs ready told stops = put_refused y form vs ready told stops
  refused_outside y (an_update form callee) vs ready told stops = absurd stops
  refused_outside y (a_send callee) vs ready told stops = absurd stops

-- ---- forms that update refs

pub updates_ref : (form : UpdateForm) → MayStand in_dosync (rule (form_of.Update form)).stands → UpdatesRef form
updates_ref Alter h = tt
updates_ref Commute h = tt
updates_ref Swap h = absurd h

module _ (asks : FormAsk) (span : Span) (fault : FaultKind) (d : CellId) where
  ref_took : (k : CellKind) (c : CellId) → c.kind ≡ k → Told (Ok d) (result_of (cell_if (same_kind k Ref) fault c) span tt) → RefCell d
  ref_took Ref c is h = sym (ap (λ a. a.kind) (send_took true fault span c d h)) ∙ is
  ref_took Atom c is h = absurd (subst Whole (sym h) tt)
  ref_took Agent c is h = absurd (subst Whole (sym h) tt)

  ref_of : (v : Value) → Told (Ok d) (result_of (cell_of (record { takes = Some Ref; stands = Inside; fault = fault; asks = asks }) true v) span tt) → RefCell d
  ref_of (Cell c) h = ref_took c.kind c refl h
  ref_of Nil h = absurd (subst Whole (sym h) tt)
  ref_of (Truth b) h = absurd (subst Whole (sym h) tt)
  ref_of (Int z) h = absurd (subst Whole (sym h) tt)
  ref_of (Key bs) h = absurd (subst Whole (sym h) tt)
  ref_of (Text bs) h = absurd (subst Whole (sym h) tt)
  ref_of (Vector ds) h = absurd (subst Whole (sym h) tt)

-- such a form takes a ref
pub update_takes : (form : UpdateForm) (v : Value) (span : Span) (d : CellId) → UpdatesRef form → Told (Ok d) (result_of (cell_of (rule (form_of.Update form)) true v) span tt) → RefCell d
update_takes Alter v span d ok h = ref_of ItsValue span NotARef d v h
update_takes Commute v span d ok h = ref_of ItsValue span NotARef d v h
update_takes Swap v span d ok h = absurd ok

pub put_takes : (ks : List Known) (form : PutForm) (n : ℕ) (v : Value) (span : Span) (d : CellId) → ReadyIn ks in_dosync (a_put form) n → Told (Ok d) (result_of (cell_of (rule (form_of.Put form)) true v) span tt) → RefCell d
put_takes ks RefSet n v span d ready h = ref_of Nothing span NotARef d v h
put_takes ks Reset n v span d ready h = absurd ready.0

module _ (x : Setting) (sound : SoundFunctions [] (functions_of x.functions)) (r : PlainTxView) (form : UpdateForm) (callee : Callee) (cell : CellId) (vs : List Value) (m : Mark) where
  abbrev made : Applies TxState
  made = apply (calls_on (Some r) x true) m.span

  abbrev ends : Value → TxState → Completion TxState Value
  ends w t = update_ends form m cell callee vs w t

  made_of : (us : List Value) (t : TxState) (res : Result Value ThreadStop) → SoundCallee (callable x) callee (length us) → Told res (applied x callee us m.span) → Gives (is_whole r.gone) res t (made callee us t)
  made_of us t res fits told = told_applies (is_whole r.gone) t x sound (forms_on (Some r) (around_it x)) true m.span callee us res fits told

  parts : (k : UpdateForm) (t : TxState) → tx_update_lacking r.gone (world_of r.refs) k m cell callee vs made t ≡ bind (update_begins r.gone (world_of r.refs) k cell t) (λ v t1. bind (made callee (v ∷ vs) t1) (λ w t2. update_ends k m cell callee vs w t2))
  parts Alter t = refl
  parts Commute t = refl
  parts Swap t = refl

  pub update_unbegun : (y : ThreadStop) (t t1 : TxState) → Stops (is_whole r.gone) y t1 (update_begins r.gone (world_of r.refs) form cell t) → Stops (is_whole r.gone) y t1 (update_means x r form callee cell vs m t)
  update_unbegun y t t1 h = subst (λ c. Stops (is_whole r.gone) y t1 c) (sym (parts form t)) (stops_bind (is_whole r.gone) y t1 (update_begins r.gone (world_of r.refs) form cell t) (λ v s. bind (made callee (v ∷ vs) s) ends) h)

  module _ (t t1 : TxState) (v : Value) (fits : SoundCallee (callable x) callee (suc (length vs))) (begun : update_begins r.gone (world_of r.refs) form cell t ≡ Completes v t1) where
    update_after : update_means x r form callee cell vs m t ≡ bind (made callee (v ∷ vs) t1) ends
    update_after = parts form t ∙ ap (λ c. bind c (λ u s. bind (made callee (u ∷ vs) s) ends)) begun

    pub update_stop : (y : ThreadStop) → Told {A = Value} (Err y) (applied x callee (v ∷ vs) m.span) → Stops (is_whole r.gone) y t1 (update_means x r form callee cell vs m t)
    update_stop y told = subst (λ c. Stops (is_whole r.gone) y t1 c) (sym update_after) (stops_bind (is_whole r.gone) y t1 (made callee (v ∷ vs) t1) ends (made_of (v ∷ vs) t1 (Err y) fits told))

    pub update_done : (w : Value) (res : Result Value ThreadStop) (t2 : TxState) → Told (Ok w) (applied x callee (v ∷ vs) m.span) → Gives true res t2 (ends w t1) → Gives (is_whole r.gone) res t2 (update_means x r form callee cell vs m t)
    update_done w res t2 told g = subst (λ c. Gives (is_whole r.gone) res t2 c) (sym (update_after ∙ ap (λ c. bind c ends) (made_of (v ∷ vs) t1 (Ok w) fits told))) (gives_anywhere (is_whole r.gone) res t2 (ends w t1) g)

-- what a form that updates does on the ref that it takes
module _ (x : Setting) (r : PlainTxView) (m : Mark) (v : Value) (t : TxState) (cell : CellId) where
  pub update_inside : (form : UpdateForm) (callee : Callee) (vs : List Value) → Told (Ok cell) (result_of (cell_of (rule (form_of.Update form)) true v) m.span tt)
      → update_means x r form callee cell vs m t ≡ inside_means x r (an_update form callee) m v vs t
  update_inside form callee vs told = sym (took (is_whole r.gone) t (form_of.Update form) true m.span v (λ c s. tx_update_lacking r.gone (world_of r.refs) form m c callee vs (apply (calls_on (Some r) x true) m.span) s) cell told)

-- ---- where a fault may not come, or nothing else

pub faultless_stop : {S A : Type 0} (y : ThreadStop) (s : S) (c : Completion S A) (go : A → S → Completion S Value) → HaltsAt y s c → HaltsAt (stop_without_fault y) s (faultless c go)
faultless_stop (Fault f) s c go h = ap (λ r. faultless r go) h
faultless_stop Event s c go h = absurd h
faultless_stop Wrong s c go h = ap (λ r. faultless r go) h
faultless_stop Turns s c go h = ap (λ r. faultless r go) h
faultless_stop Memory s c go h = tt

pub faulted_stop : {S A : Type 0} (y : ThreadStop) (s : S) (c : Completion S A) → HaltsAt y s c → HaltsAt y s (faulted c (λ g t. Faults g t))
faulted_stop (Fault f) s c h = ap (λ r. faulted r (λ g t. Faults g t)) h
faulted_stop Event s c h = absurd h
faulted_stop Wrong s c h = ap (λ r. faulted r (λ g t. Faults g t)) h
faulted_stop Turns s c h = ap (λ r. faulted r (λ g t. Faults g t)) h
faulted_stop Memory s c h = tt

-- ---- `swap!`

module _ (c : CellId) (g : Value → ThreadState → Completion ThreadState Value) (R C : World) (t : ThreadState) where
  pub swaps_to : (k : EventKind) (new : Value) → swap_of k ≡ Some new → swaps c g k R C t ≡ faultless (g (C c.number) t) (λ v t1. meant (same_value v new) v t1)
  swaps_to (Swapped w) new h = ap (λ o. faultless (g (C c.number) t) (λ v t1. meant (same_value v (or_else w o)) v t1)) h
  swaps_to (Read d) new h = absurd (nothing h)
  swaps_to (Commit at view writes sent) new h = absurd (nothing h)
  swaps_to (Retry since d b) new h = absurd (nothing h)
  swaps_to (Fail at view) new h = absurd (nothing h)
  swaps_to (Refused at view d) new h = absurd (nothing h)
  swaps_to (Sent a) new h = absurd (nothing h)
  swaps_to (SendRefused d) new h = absurd (nothing h)
  swaps_to (Acted d n w sends) new h = absurd (nothing h)
  swaps_to (Broke at) new h = absurd (nothing h)

  pub swaps_broken : (k : EventKind) → is_broke k ≡ true → swaps c g k R C t ≡ faulted (g (R c.number) t) (λ f t1. Faults f t1)
  swaps_broken (Broke at) h = refl
  swaps_broken (Swapped w) h = absurd (false≢true h)
  swaps_broken (Read d) h = absurd (false≢true h)
  swaps_broken (Commit at view writes sent) h = absurd (false≢true h)
  swaps_broken (Retry since d b) h = absurd (false≢true h)
  swaps_broken (Fail at view) h = absurd (false≢true h)
  swaps_broken (Refused at view d) h = absurd (false≢true h)
  swaps_broken (Sent a) h = absurd (false≢true h)
  swaps_broken (SendRefused d) h = absurd (false≢true h)
  swaps_broken (Acted d n w sends) h = absurd (false≢true h)

  pub swaps_else : (k : EventKind) → swap_of k ≡ None → is_broke k ≡ false → swaps c g k R C t ≡ Invalid
  swaps_else (Broke at) h b = absurd (never b)
  swaps_else (Swapped w) h b = absurd (nothing (sym h))
  swaps_else (Read d) h b = refl
  swaps_else (Commit at view writes sent) h b = refl
  swaps_else (Retry since d n) h b = refl
  swaps_else (Fail at view) h b = refl
  swaps_else (Refused at view d) h b = refl
  swaps_else (Sent a) h b = refl
  swaps_else (SendRefused d) h b = refl
  swaps_else (Acted d n w sends) h b = refl

-- the next event, which is of the book
comes : {A : Type 0} (book : ℕ) (go : SeenEvent → ThreadState → Completion ThreadState A) (e : Seen) (t : ThreadState) (h : Comes book e t) → eats book go t.todo t ≡ uneaten (seen_event e ∷ h.0) (go (seen_event e) (with_todo h.0 t))
comes book go e t h =
    ap (λ es. eats book go es t) h.1 ∙ ap (λ (b : Bool). if b then uneaten (seen_event e ∷ h.0) (go (seen_event e) (with_todo h.0 t)) else Invalid) h.2

pub comes_none : (book : ℕ) (go : SeenEvent → ThreadState → Completion ThreadState Value) (y : ThreadStop) (t u : ThreadState) → ComesNone book y t u → Stops false y u (up_to t (eats book go t.todo t))
comes_none book go Event t u h = (refl, ap (λ es. up_to t (eats book go es t)) h.0 ∙ ap (λ s. Waits s) (sym h.1))
comes_none book go Wrong t u h =
    (refl, ap (λ es. up_to t (eats book go es t)) h.2 ∙ ap (λ (b : Bool). up_to t (if b then uneaten (h.0 ∷ h.1) (go h.0 (with_todo h.1 t)) else Invalid)) h.3 ∙ ap (λ s. Waits s) (sym h.4))
comes_none book go (Fault f) t u h = absurd h
comes_none book go Turns t u h = absurd h
comes_none book go Memory t u h = absurd h

-- whether the event isn't one that the thread allows
abbrev pub IsOther : {A : Type 0} → Result A ThreadStop → Type 0
IsOther (Ok v) = ⊥
IsOther (Err (Fault f)) = ⊥
IsOther (Err Event) = ⊥
IsOther (Err Wrong) = Unit {0}
IsOther (Err Turns) = ⊥
IsOther (Err Memory) = ⊥

-- An answer at an event, which stays to come where turns don't suffice for it. Where it isn't allowed, the thread is as it was before.
pub answered : (r : Result Value ThreadStop) (e : SeenEvent) (es : List SeenEvent) (w t u : ThreadState) (c : Completion ThreadState Value) → t.todo ≡ e ∷ es → (IsOther r → w ≡ t) → u ≡ after r es t → AnswersAt r (with_todo es t) c
    → Gives false r u (up_to w (uneaten (e ∷ es) c))
answered (Ok v) e es w t u c here same is h = ap (λ d. up_to w (uneaten (e ∷ es) d)) h ∙ ap (λ s. Completes v s) (sym is)
answered (Err (Fault f)) e es w t u c here same is h = ap (λ d. up_to w (uneaten (e ∷ es) d)) h ∙ ap (λ s. Faults f s) (sym is)
answered (Err Event) e es w t u c here same is h = absurd h
answered (Err Wrong) e es w t u c here same is h = (refl, ap (λ d. up_to w (uneaten (e ∷ es) d)) h ∙ ap (λ s. Waits s) (same tt ∙ sym is))
answered (Err Turns) e es w t u c here same is h =
    ap (λ d. up_to w (uneaten (e ∷ es) d)) h ∙ ap (λ l. OutOfTurns (with_todo l t)) (sym here) ∙ ap (λ s. OutOfTurns s) (sym is)
answered (Err Memory) e es w t u c here same is h = tt

-- what an event of a read, a reset or a send is
reads_as : (c : CellId) (k : EventKind) (C : World) (t : ThreadState) → reads c k C t ≡ meant (is_read_of c k) (C c.number) t
reads_as c (Read d) C t = refl
reads_as c (Commit at view writes sent) C t = refl
reads_as c (Retry since d n) C t = refl
reads_as c (Fail at view) C t = refl
reads_as c (Refused at view d) C t = refl
reads_as c (Sent a) C t = refl
reads_as c (SendRefused d) C t = refl
reads_as c (Acted d n w sends) C t = refl
reads_as c (Swapped w) C t = refl
reads_as c (Broke at) C t = refl

pub resets_as : (v : Value) (k : EventKind) (t : ThreadState) → resets v k t ≡ meant (is_swap_to v k) v t
resets_as v (Read d) t = refl
resets_as v (Commit at view writes sent) t = refl
resets_as v (Retry since d n) t = refl
resets_as v (Fail at view) t = refl
resets_as v (Refused at view d) t = refl
resets_as v (Sent a) t = refl
resets_as v (SendRefused d) t = refl
resets_as v (Acted d n w sends) t = refl
resets_as v (Swapped w) t = refl
resets_as v (Broke at) t = refl

module _ (a : Action) (span : Span) (t : ThreadState) where
  sent_meant : (b : Bool) → meant b (Cell a.agent) t ≡ sent_as a span t (if b then WasSent else NotSent)
  sent_meant true = refl
  sent_meant false = refl

  sent_refused : (b : Bool) → (if b then Faults (fault_at AgentFailed span) t else Invalid) ≡ sent_as a span t (if b then WasRefused else NotSent)
  sent_refused true = refl
  sent_refused false = refl

  sends_as : (k : EventKind) → sends a span k t ≡ sent_as a span t (sending a k)
  sends_as (Read d) = refl
  sends_as (Commit at view writes sent) = refl
  sends_as (Retry since d n) = refl
  sends_as (Fail at view) = refl
  sends_as (Refused at view d) = refl
  sends_as (Sent b) = sent_meant (same_action a b)
  sends_as (SendRefused d) = sent_refused (same_cell a.agent d)
  sends_as (Acted d n w sends) = refl
  sends_as (Swapped w) = refl
  sends_as (Broke at) = refl

-- the same by what was found out of the event
pub read_as : (c : CellId) (b : Bool) (k : EventKind) (C : World) (t : ThreadState) → b ≡ is_read_of c k → reads c k C t ≡ meant b (C c.number) t
read_as c b k C t is = reads_as c k C t ∙ ap (λ q. meant q (C c.number) t) (sym is)

-- a send of an action is held
pub send_held : (p : Progress) (v w : Vec Action Global) (a : Action) (span : Span) → p.held ≡ Some v → w.items ≡ v.items ++ a ∷ [] → up_to (thread_state p) (sends_or_holds (thread_state p).held a span (thread_state p)) ≡ Completes (Cell a.agent) (thread_state (record p { held = Some w }))
send_held p v w a span is longer =
    let t = thread_state p in
    let was : t.held ≡ Some v.items = ap held_of is in
    ap (λ o. up_to t (sends_or_holds o a span t)) was
    ∙ ap (λ o. Completes (Cell a.agent) (record t { held = with_sends (a ∷ []) o })) was
    ∙ ap (λ l. Completes (Cell a.agent) (record t { held = Some l })) (sym longer)

-- a send of a thread is at its event
pub send_eaten : (p : Progress) (a : Action) (span : Span) (r : Result Value ThreadStop) (u : ThreadState) → p.held ≡ None → Gives false r u (up_to (thread_state p) (eats 0 (λ e s. sends a span e.kind s) (thread_state p).todo (thread_state p)))
    → Gives false r u (up_to (thread_state p) (sends_or_holds (thread_state p).held a span (thread_state p)))
send_eaten p a span r u is h = subst (λ o. Gives false r u (up_to (thread_state p) (sends_or_holds o a span (thread_state p)))) (sym (ap held_of is)) h

-- sends that are held behind those that were, where there was memory for them
pub held_where : {A E : Type 0} (r : Result A E) (p : Progress) (v w : Vec Action Global) (sends : List Action) → p.held ≡ Some v → OnOk r (w.items ≡ v.items ++ sends) → OnOk r (thread_state (record p { held = Some w }) ≡ holding sends (thread_state p))
held_where (Ok a) p v w sends is longer = held_more p v w sends is longer
held_where (Err e) p v w sends is longer = longer

-- the last of the arguments is all, where they are one
pub only_one : (us vs : List Value) (v : Value) → vs ≡ us ++ v ∷ [] → length vs ≡ 1 → vs ≡ v ∷ []
only_one [] vs v is one = is
only_one (u ∷ us) vs v is one = absurd (omega (arith, ap length is, one, length_push us v))

pub reset_as : (v : Value) (b : Bool) (k : EventKind) (t : ThreadState) (vs : List Value) → vs ≡ v ∷ [] → b ≡ is_swap_to v k → of_one (λ w. resets w k t) vs ≡ meant b v t
reset_as v b k t vs one is = ap (λ l. of_one (λ w. resets w k t) l) one ∙ resets_as v k t ∙ ap (λ q. meant q v t) (sym is)

pub send_as : (a : Action) (span : Span) (t : ThreadState) (k : EventKind) (q : Sending) → q ≡ sending a k → sends a span k t ≡ sent_as a span t q
send_as a span t k q is = sends_as a span t k ∙ ap (λ p. sent_as a span t p) (sym is)

-- what is given at the next event is given of the thread
pub gives_at : (book b : ℕ) → book ≡ b → (go : SeenEvent → ThreadState → Completion ThreadState Value) (e : Seen) (t u : ThreadState) (h : Comes book e t) (r : Result Value ThreadStop) → u ≡ after r h.0 t → AnswersAt r (with_todo h.0 t) (go (seen_event e) (with_todo h.0 t))
    → Gives false r u (up_to t (eats b go t.todo t))
gives_at book b is go e t u h r eaten given =
    subst (λ k. Gives false r u (up_to t (eats k go t.todo t))) is
    (subst (λ q. Gives false r u (up_to t q)) (sym (comes book go e t h)) (answered r (seen_event e) h.0 t t u (go (seen_event e) (with_todo h.0 t)) h.1 (λ o. refl) eaten given))

pub reset_eaten : (book b : ℕ) → book ≡ b → (e : Seen) (t u : ThreadState) (h : Comes book e t) (r : Result Value ThreadStop) → u ≡ after r h.0 t → (vs : List Value) → length vs ≡ 1 → AnswersAt r (with_todo h.0 t) (of_one (λ w. resets w e.kind.now (with_todo h.0 t)) vs)
    → Gives false r u (of_one (λ w. up_to t (eats b (λ a s. resets w a.kind s) t.todo t)) vs)
reset_eaten book b is e t u h r eaten [] one given = absurd (omega (arith, one))
reset_eaten book b is e t u h r eaten (w ∷ ws) one given = gives_at book b is (λ a s. resets w a.kind s) e t u h r eaten given

-- the forms that eat an event, wherever they are outside transactions
abbrev pub MeetsEvent : Act → Type 0
MeetsEvent (a_send callee) = ⊥
MeetsEvent _ = Unit {0}

-- where there was no such event
module _ (x : Setting) (sound : SoundFunctions [] (functions_of x.functions)) (cells : SoundCells (callable (deepest x)) x.cells) (m : Mark) (v : Value) (t u : ThreadState) (cell : CellId) where
  pub none_outside : (act : Act) (vs : List Value) (y : ThreadStop) (book : ℕ) → MeetsEvent act → book ≡ home x.cells cell → ReadyIn (callable x) in_thread act (length vs) → Told (Ok cell) (result_of (cell_of (rule (form_of_act act)) false v) m.span tt) → PutAccepted (deepest x) act cell m.span vs
      → ComesNone book y t u → Stops false y u (outside_means x act m v vs t)
  none_outside (a_look form) vs y book meets is ready told ok none = look_outside x m v t cell (Err y) u form vs ready told (subst (λ b. Stops false y u (up_to t (eats b (λ e s. reads cell e.kind e.C s) t.todo t))) is (comes_none book (λ e s. reads cell e.kind e.C s) y t u none))
  none_outside (a_put form) [] y book meets is ready told ok none = absurd (omega (arith, ready.1))
  none_outside (a_put form) (w ∷ ws) y book meets is ready told ok none =
      put_outside x sound cells m v t cell (Err y) u form (w ∷ ws) ready told ok (subst (λ b. Stops false y u (up_to t (eats b (λ e s. resets w e.kind s) t.todo t))) is (comes_none book (λ e s. resets w e.kind s) y t u none))
  none_outside (an_update form callee) vs y book meets is ready told ok none =
      let go : SeenEvent → ThreadState → Completion ThreadState Value = λ e s. swap_means x callee cell vs m.span e s in
      update_outside x m v t cell (Err y) u form callee vs ready told (subst (λ b. Stops false y u (up_to t (eats b go t.todo t))) is (comes_none book go y t u none))
  none_outside (a_send callee) vs y book meets is ready told ok none = absurd meets

-- what a swap makes of what the callee gave
swap_named : (w : Value) (u : ThreadState) (b : Bool) → AnswersAt (if b then Ok w else Err Wrong) u (meant b w u)
swap_named w u true = refl
swap_named w u false = refl

swap_given : (o : Option Value) (r : Result Value ThreadStop) (u : ThreadState) (c : Completion ThreadState Value) → AnswersAt r u c → AnswersAt (swap_gives r o) u (swap_ends o c)
swap_given (Some new) (Ok w) u c h = subst (λ d. AnswersAt (swap_gives (Ok w) (Some new)) u (faultless d (λ z s. meant (same_value z new) z s))) (sym h) (swap_named w u (same_value w new))
swap_given (Some new) (Err y) u c h = faultless_stop y u c (λ z s. meant (same_value z new) z s) h
swap_given None (Ok w) u c h = ap (λ d. faulted d (λ f s. Faults f s)) h
swap_given None (Err y) u c h = faulted_stop y u c h

module _ (x : Setting) (callee : Callee) (cell : CellId) (vs : List Value) (span : Span) (e : SeenEvent) (t : ThreadState) where
  pub swap_stop : (y : ThreadStop) → IsNoSwap e y → HaltsAt y t (swap_means x callee cell vs span e t)
  swap_stop y h = h cell (makes x callee cell vs span) t

  pub swap_done : (sound : SoundFunctions [] (functions_of x.functions)) → SoundCells (callable (deepest x)) x.cells → (w : PlainView) (o : Option Value) (v : Value) (r res : Result Value ThreadStop) → IsSwap e w o → v ≡ world_of w cell.number
      → SoundCallee (callable (deepest x)) callee (suc (length vs)) → Told r (made_means (deepest x) callee cell (v ∷ vs) span) → res ≡ swap_gives r o → AnswersAt res t (swap_means x callee cell vs span e t)
  swap_done sound cells w o v r res swap value fits told ends =
      let here = swap cell (makes x callee cell vs span) t in
      let agrees : Agrees t (made_means (deepest x) callee cell (v ∷ vs) span) (makes x callee cell vs span v t) =
      made_agrees (callable (deepest x)) (quiet (deepest x) span) (wholly (around_it x) span) (λ c k us s h. whole_agrees x sound span c k us s h) x.cells cells callee (suc (length vs)) cell.number (v ∷ vs) span t fits in
      let given = swap_given o r t (makes x callee cell vs span v t) (answers_from t r (made_means (deepest x) callee cell (v ∷ vs) span) (makes x callee cell vs span v t) agrees told) in
      subst (λ q. AnswersAt q t (swap_means x callee cell vs span e t)) (sym ends) (subst (λ c. AnswersAt (swap_gives r o) t c) (sym (here ∙ ap (λ a. swap_ends o (makes x callee cell vs span a t)) (sym value))) given)

-- ---- a pure function in a transaction of its own, on no world

pub called_alone : (x inner : Setting) (w : PlainView) → inner ≡ on_view x (whole_view w) → SoundFunctions [] (functions_of x.functions) → (span : Span) (callee : Callee) (f : ℕ) (vs : List Value) → callee ≡ Function f → PureCall (callable x) f (length vs)
    → (r : Result Value ThreadStop) (st out : State) → Yields inner r out (call_means inner f vs st) → Told r (applied x callee vs span)
called_alone x inner w same sound span callee f vs is fits r st out h =
    let s = tx_state st.tx in
    let here : Yields (on_view x (whole_view w)) r out (call_means (on_view x (whole_view w)) f vs st) = subst (λ y. Yields y r out (call_means y f vs st)) same h in
    let agrees : Agrees s (applied x (Function f) vs span) (call_means (on_view x (whole_view w)) f vs st) = callee_agrees true s x sound (forms_on (Some (whole_view w)) (around_it (on_view x (whole_view w)))) true span (Function f) vs fits in
    subst (λ k. Told r (applied x k vs span)) (sym is) (told_from s (tx_state out.tx) r (applied x (Function f) vs span) (call_means (on_view x (whole_view w)) f vs st) agrees here)

-- ---- a callee outside every transaction

-- a function that may be sent may be called outside
pub sent_call : (x : Setting) (f n : ℕ) → x.world ≡ None → SentCallee (callable x) (Function f) n → SoundCall (callable x) (zone_in x) f n
sent_call x f n none h =
    subst (λ o. SoundCall (callable x) (zone_on o) f n) (sym none) (record {
      function = h.function;
      found = h.found;
      arity = h.arity;
      zoned = h.zoned;
    })

module _ (x : Setting) (callee : Callee) (span : Span) (vs : List Value) (st : State) where
  pub outside_core : (op : Op) (r : Result Value ThreadStop) → callee ≡ CoreOp op → Told r (result_of (core op vs) span tt) → Yields x r st (applies_means x span callee vs st)
  outside_core op r is h = subst (λ k. Yields x r st (applies_means x span k vs st)) (sym is) (gives_result (has_all x.world) (part x.world st) (core op vs) span r h)

  pub outside_call : (f : ℕ) (r : Result Value ThreadStop) (out : State) → callee ≡ Function f → Yields x r out (call_means x f vs st) → Yields x r out (applies_means x span callee vs st)
  outside_call f r out is h = subst (λ k. Yields x r out (applies_means x span k vs st)) (sym is) h

-- ---- `println`

print_on : (o : Option PlainTxView) (x : Surroundings) (d : ℕ) (vs : List Value) (st st1 : State) → MayStand (zone_on o) Outside → thread_state st1.thread ≡ record (thread_state st.thread) { printed = (thread_state st.thread).printed ++ printed_line vs }
    → (forms_on o x d).print (is_on o) vs (part o st) ≡ Completes Nil (part o st1)
print_on None x d vs st st1 may line = ap (λ t. Completes Nil t) (sym line)
print_on (Some r) x d vs st st1 may line = absurd may

printed : (x : Setting) (span : Span) (vs : List Value) (st : State) (line : List ℕ) → Finishes x a_println (length vs) → (st1 : State) → thread_state st1.thread ≡ record (thread_state st.thread) { printed = line } → (r : Result Value ThreadStop)
    → MatchResult r (λ v. (v ≡ Nil) × (line ≡ (thread_state st.thread).printed ++ printed_line vs)) (λ y. y ≡ Memory) → Yields x r st1 (finish_means x a_println span vs st)
printed x span vs st line may st1 after (Ok v) h =
    print_on x.world (around_it x) x.depth vs st st1 may (after ∙ ap (λ l. record (thread_state st.thread) { printed = l }) h.1) ∙ ap (λ u. Completes u (part x.world st1)) (sym h.0)
printed x span vs st line may st1 after (Err y) h = subst (λ z. Stops (has_all x.world) z (part x.world st1) (finish_means x a_println span vs st)) (sym h) tt

module _ (x : Setting) (strict : Strict) (span : Span) (vs : List Value) (st out : State) (r : Result Value ThreadStop) (s : Result Step ThreadStop) (as_given : s ≡ step_of r) where
  -- what is done with the values gives this
  finished : (k : Strict) → strict ≡ k → Yields x r out (finish_means x k span vs st) → Steps x s out (finish_means x strict span vs st)
  finished k is h = subst (λ j. Steps x s out (finish_means x j span vs st)) (sym is) (stepped x r s out (finish_means x k span vs st) as_given h)

  pub call_done : (f : ℕ) → strict ≡ a_call f → Yields x r out (call_means x f vs st) → Steps x s out (finish_means x strict span vs st)
  call_done f is h = finished (a_call f) is h

module _ (x : Setting) (strict : Strict) (span : Span) (vs : List Value) (st : State) (r : Result Value ThreadStop) (s : Result Step ThreadStop) (as_given : s ≡ step_of r) where
  pub core_done : (op : Op) → strict ≡ a_core op → Told r (result_of (core op vs) span tt) → Steps x s st (finish_means x strict span vs st)
  core_done op is h = finished x strict span vs st st r s as_given (a_core op) is (gives_result (has_all x.world) (part x.world st) (core op vs) span r h)

  pub vector_done : strict ≡ a_vector → Told r (result_of (vector_of vs) span tt) → Steps x s st (finish_means x strict span vs st)
  vector_done is h = finished x strict span vs st st r s as_given a_vector is (gives_result (has_all x.world) (part x.world st) (vector_of vs) span r h)

  -- a line is printed, where there was memory for it
  pub print_done : (line : List ℕ) → strict ≡ a_println → Finishes x strict (length vs) → (st1 : State) → thread_state st1.thread ≡ record (thread_state st.thread) { printed = line }
      → MatchResult r (λ v. (v ≡ Nil) × (line ≡ (thread_state st.thread).printed ++ printed_line vs)) (λ y. y ≡ Memory) → Steps x s st1 (finish_means x strict span vs st)
  print_done line is fits st1 after h = finished x strict span vs st st1 r s as_given a_println is (printed x span vs st line (subst (λ k. Finishes x k (length vs)) is fits) st1 after r h)
