-- The trees' meaning on replies: what a tree does on the replies that come, one after the other.
use Rattle.std.specs.Prelude.{ℕ, zero, suc, Bool, true, false, List, [], ◌∷◌, length, not}
use Rattle.txs_world_protocol.specs.Ask.{Writes}
use Rattle.txs_frame.specs.Frame.{commuted, phase_work, set_writes}
use Rattle.txs_value_data.specs.Limits.{reruns}
use Rattle.txs_value_data.specs.Places.{fault_at}
use Rattle.txs_value_data.specs.declared.fault.FaultKind.TheVariants.{RetryLimit, AgentFailed}
use Rattle.txs_value_data.specs.declared.fault.Span.{Span}
use Rattle.txs_value_cell.specs.Cells.{Validators, validator_at}
use Rattle.txs_value_cell.specs.declared.form.CellForm.TheVariants as form_of
use Rattle.txs_value_cell.specs.declared.form.PutForm.{PutForm}
use Rattle.txs_value_cell.specs.declared.form.PutForm.TheVariants.{RefSet, Reset}
use Rattle.txs_value_cell.specs.declared.form.UpdateForm.{UpdateForm}
use Rattle.txs_value_cell.specs.declared.form.UpdateForm.TheVariants.{Alter, Commute, Swap}
use Rattle.txs_value_data.specs.declared.op.Callee.{Callee}
use Rattle.txs_value_data.specs.declared.value.CellId.{CellId}
use Rattle.txs_value_data.specs.declared.value.Value.{Value}
use Rattle.txs_tree_meaning.specs.Meaning.{Completion, Completes, Recurs, Faults, Retries, Waits, OutOfTurns, Invalid, bind, allowed, Applies, Effects}
use Rattle.txs_tree_meaning.specs.Transaction.{redone, merged, validated, accepted}
use Rattle.txs_code_meaning.specs.ActorState.{ActorState, StepResult, Continue, Break, Redo, Await, Malformed, begin, fail, view, Verdict, Landed, Outdated, Undone, Denied, commit, open_swap, close_swap, break_swap, read, assign, RefUpdate, Alters, Commutes, open_update, close_update, send_to, print, cell_at, assign_cell}

-- a step of a form as the end of a part of a tree
abbrev pub res : {A : Type 0} → StepResult A → Completion ActorState A
res (Continue a s) = Completes a s
res (Break f s) = Faults f s
res (Redo s) = Retries s
res (Await s) = Waits s
res Malformed = Invalid

-- where a part faults, this is asked before the fault is passed on; a value is passed on
abbrev pub telling : {A : Type 0} → (ActorState → StepResult (Unit {0})) → Completion ActorState A → (A → ActorState → Completion ActorState Value) → Completion ActorState Value
telling ask (Completes a s) go = go a s
telling ask (Recurs vs s) go = Invalid
telling ask (Faults f s) go = bind (res (ask s)) (λ u s1. Faults f s1)
telling ask (Retries s) go = Retries s
telling ask (Waits s) go = Waits s
telling ask (OutOfTurns s) go = OutOfTurns s
telling ask Invalid go = Invalid

-- ---- transactions, of cells with these validators, which change nothing

-- how a try starts: with its body, or behind it with the body's result, where the commutes alone are redone
pub data Start : Type 0 where
  Anew : Start
  Behind : (v : Value) → Start

-- after a commit's answer: the end, the commutes redone, the whole again, or the fault that an agent has failed
abbrev pub concludes : Verdict → Span → Value → (Start → ActorState → Completion ActorState Value) → ActorState → Completion ActorState Value
concludes Landed span v go s = Completes v s
concludes Outdated span v go s = go (Behind v) s
concludes Undone span v go s = Retries s
concludes Denied span v go s = Faults (fault_at AgentFailed span) s

-- the commit, with these values of the refs that were commuted and not set
abbrev pub lands_on : Span → Value → (Start → ActorState → Completion ActorState Value) → Writes → ActorState → Completion ActorState Value
lands_on span v go ws s = bind (res (commit ws s)) (λ d s1. concludes d span v go s1)

-- what the commutes made of the viewed values, where each of the writes is accepted by its ref's validator
abbrev pub if_all_accepted : Validators → Span → Applies ActorState → Writes → ActorState → Completion ActorState Writes
if_all_accepted vs span f xs s = bind (accepted f vs span (merged (set_writes s.done) xs) s) (λ u s1. Completes xs s1)

-- A body's end: where no ref was commuted and not set, the validators and then the commit; else the view, the commutes one after the
-- other, the validators, and then the commit.
abbrev pub closing : Validators → List CellId → Span → Applies ActorState → Value → (Start → ActorState → Completion ActorState Value) → ActorState → Completion ActorState Value
closing vs [] span f v go s = telling fail (if_all_accepted vs span f [] s) (λ xs s1. lands_on span v go xs s1)
closing vs (c ∷ cs) span f v go s =
    bind (res (view s)) (λ ws s1.
    telling fail (bind (redone f (phase_work s1.done) ws s1) (λ xs s2. if_all_accepted vs span f xs s2)) (λ xs s2. lands_on span v go xs s2))

-- one try
abbrev pub attempt : Validators → Start → Span → (ActorState → Completion ActorState Value) → Applies ActorState → (Start → ActorState → Completion ActorState Value) → ActorState → Completion ActorState Value
attempt vs Anew span body f go s =
    bind (res (begin s)) (λ u s1. telling fail (body s1) (λ v s2. closing vs (commuted s2.done) span f v go s2))
attempt vs (Behind v) span body f go s = closing vs (commuted s.done) span f v go s

-- a try that has to run again is followed by another; all else stays
abbrev pub retrying : Completion ActorState Value → (ActorState → Completion ActorState Value) → Completion ActorState Value
retrying (Completes v s) go = Completes v s
retrying (Recurs vs s) go = Invalid
retrying (Faults f s) go = Faults f s
retrying (Retries s) go = go s
retrying (Waits s) go = Waits s
retrying (OutOfTurns s) go = OutOfTurns s
retrying Invalid go = Invalid

-- at most k tries, those that redo the commutes alone among them
abbrev pub tries : Validators → ℕ → Span → (ActorState → Completion ActorState Value) → Applies ActorState → Start → ActorState → Completion ActorState Value
tries vs zero span body f from s = Faults (fault_at RetryLimit span) s
tries vs (suc k) span body f from s = retrying (attempt vs from span body f (tries vs k span body f) s) (tries vs k span body f Anew)

-- a dosync inside a running transaction joins it, and another one is tried, so many times, until it ends
abbrev pub joined : Validators → Bool → ℕ → Span → (ActorState → Completion ActorState Value) → Applies ActorState → ActorState → Completion ActorState Value
joined vs true k span body f s = body s
joined vs false k span body f s = tries vs k span body f Anew s

-- ---- updates

-- after a swap's answer: the end, or again from its open
abbrev pub swap_concludes : Verdict → Value → (ActorState → Completion ActorState Value) → ActorState → Completion ActorState Value
swap_concludes Landed w go s = Completes w s
swap_concludes Outdated w go s = go s
swap_concludes Undone w go s = Invalid
swap_concludes Denied w go s = Invalid

-- a value that a cell is to get, where its validator accepts it
abbrev pub accepts : Validators → Applies ActorState → CellId → Span → Value → ActorState → Completion ActorState Value
accepts vs f c span v s = validated f (validator_at vs c.number) span v s

-- A swap, again from its open where the atom changed, less than k times: each time takes exchanges, so that their number bounds
-- the times. What gives the new value sees the atom and its value.
abbrev pub swaps_on : ℕ → Span → Value → (CellId → Value → ActorState → Completion ActorState Value) → ActorState → Completion ActorState Value
swaps_on zero span c f s = Invalid
swaps_on (suc k) span c f s =
    bind (res (open_swap false span c s)) (λ o s1.
    telling (break_swap o.0) (f o.0.cell o.1 s1) (λ w s2.
    bind (res (close_swap o.0 w s2)) (λ d s3. swap_concludes d w (swaps_on k span c f) s3)))

-- `alter` and `commute`: the ref's value is read, the callee applied, and then the ref set or the commute kept
abbrev pub updates_ref : RefUpdate → Bool → Span → Value → Callee → List Value → Applies ActorState → ActorState → Completion ActorState Value
updates_ref u inside span c callee vs f s =
    bind (res (open_update u inside span c vs s)) (λ v s1.
    bind (f callee (v ∷ vs) s1) (λ w s2. res (close_update span c w s2)))

-- the forms that update
abbrev pub updates : Validators → UpdateForm → Bool → Span → Value → Callee → List Value → Applies ActorState → ActorState → Completion ActorState Value
updates vs Alter inside span c callee args f s = updates_ref Alters inside span c callee args f s
updates vs Commute inside span c callee args f s = updates_ref (Commutes callee) inside span c callee args f s
-- what the callee gives is what the atom's validator has to accept
updates vs Swap inside span c callee args f s =
    allowed (not inside) (swaps_on (suc (length s.todo)) span c (λ a v s1. bind (f callee (v ∷ args) s1) (accepts vs f a span)) s)

-- the forms that put, of which `reset!` has the atom's validator look at the value first
abbrev pub puts : Validators → PutForm → Bool → Span → Value → Value → Applies ActorState → ActorState → Completion ActorState Value
puts vs RefSet inside span c v f s = res (assign RefSet inside span c v s)
puts vs Reset inside span c v f s =
    bind (res (cell_at (form_of.Put Reset) inside span c s)) (λ a s1. bind (accepts vs f a span v s1) (λ w s2. res (assign_cell Reset inside span w a s2)))

-- the forms on cells, as asks, where the cells have these validators, and a transaction has so many tries
abbrev pub on_replies_with : Validators → ℕ → Effects ActorState
on_replies_with vs k = record {
  print = λ inside args s. res (print inside args s);
  look = λ form inside m v s. res (read form inside m.span v s);
  put = λ form inside m v w f s. puts vs form inside m.span v w f s;
  update = λ form inside m v callee args f s. updates vs form inside m.span v callee args f s;
  send = λ inside m v callee args s. res (send_to inside m.span v callee args s);
  dosync = λ inside m node env body f s. joined vs inside k m.span body f s;
}

-- the forms on cells, as asks
abbrev pub on_replies : Validators → Effects ActorState
on_replies vs = on_replies_with vs (suc reruns)
