-- The stages of an agent's actor while it runs an action: it asks as a thread does, up to where it hands the action in.
use Rattle.std.proofs.lemmas.Bool.{false≢true}
use Rattle.std.proofs.Common.{◌≡◌, true, false, List, Some, None, refl, sym}
use Rattle.txs_world_protocol.specs.declared.ask.Ask.{Ask}
use Rattle.txs_world_protocol.specs.declared.ask.Ask.TheVariants as ask
use Rattle.txs_world_protocol.specs.declared.ask.Reply.{Reply}
use Rattle.txs_world_protocol.specs.declared.ask.Reply.TheVariants as reply
use Rattle.txs_value_data.specs.declared.fault.Fault.{Fault}
use Rattle.txs_value_cell.specs.declared.action.Action.{Action}
use Rattle.txs_value_cell.specs.declared.cell.CellDefinition.{CellDefinition}
use Rattle.txs_value_data.specs.declared.value.CellId.{CellId}
use Rattle.txs_value_data.specs.declared.value.Value.{Value}
use Rattle.std.specs.Prelude.{ℕ, Result}
use Rattle.txs_tree_meaning.specs.Meaning.{Completion}
use Rattle.txs_tree_meaning.specs.Thread.{ThreadState}
use Rattle.txs_theorem_threads.proofs.Account.{asked_waited}
use Rattle.txs_theorem_threads.specs.FollowsAgent.{MeansAsked}
use Rattle.txs_theorem_threads.specs.RepliesFit.{halted, HasWaited}
use Rattle.txs_theorem_runs.specs.Finished.{is_finish}
use Rattle.txs_theorem_runs.specs.Stages.{Stage, Resting, Idle, Open, Viewing, Swapping, AsksIn, stage_after}

-- the agent runs an action
abbrev pub IsBusy : Stage → Type 0
IsBusy Resting = ⊥
IsBusy _ = Unit {0}

-- so it is after each ask that doesn't hand the action in
pub busy_after : (st : Stage) (q : Ask) (r : Reply) → is_finish q ≡ false → IsBusy st → IsBusy (stage_after st q r)
busy_after Idle ask.Begin (reply.At i) isnt busy = tt
busy_after Idle ask.Begin (reply.Is w) isnt busy = tt
busy_after Idle ask.Begin (reply.Views i ws) isnt busy = tt
busy_after Idle ask.Begin reply.Done isnt busy = tt
busy_after Idle ask.Begin (reply.Retry d) isnt busy = tt
busy_after Idle ask.Begin (reply.Changed d) isnt busy = tt
busy_after Idle ask.Begin (reply.AgentIsFailed h) isnt busy = tt
busy_after Idle ask.Begin (reply.Action n y w) isnt busy = tt
busy_after Idle ask.Begin reply.Idle isnt busy = tt
busy_after Idle ask.Begin (reply.Opened i w) isnt busy = tt
busy_after Idle ask.Begin reply.Full isnt busy = tt
busy_after Idle ask.Begin reply.Memory isnt busy = tt
busy_after Idle (ask.Look c p) r isnt busy = tt
busy_after Idle (ask.View cs) r isnt busy = tt
busy_after Idle (ask.Commit p sets ensured q commuted sends) r isnt busy = tt
busy_after Idle (ask.Fail p q) r isnt busy = tt
busy_after Idle (ask.Peek c) r isnt busy = tt
busy_after Idle (ask.Send x) r isnt busy = tt
busy_after Idle (ask.Take g) r isnt busy = tt
busy_after Idle (ask.Finish g new sends) r isnt busy = absurd (false≢true (sym isnt))
busy_after Idle (ask.OpenAt c) (reply.At i) isnt busy = tt
busy_after Idle (ask.OpenAt c) (reply.Is w) isnt busy = tt
busy_after Idle (ask.OpenAt c) (reply.Views i ws) isnt busy = tt
busy_after Idle (ask.OpenAt c) reply.Done isnt busy = tt
busy_after Idle (ask.OpenAt c) (reply.Retry d) isnt busy = tt
busy_after Idle (ask.OpenAt c) (reply.Changed d) isnt busy = tt
busy_after Idle (ask.OpenAt c) (reply.AgentIsFailed h) isnt busy = tt
busy_after Idle (ask.OpenAt c) (reply.Action n y w) isnt busy = tt
busy_after Idle (ask.OpenAt c) reply.Idle isnt busy = tt
busy_after Idle (ask.OpenAt c) (reply.Opened i w) isnt busy = tt
busy_after Idle (ask.OpenAt c) reply.Full isnt busy = tt
busy_after Idle (ask.OpenAt c) reply.Memory isnt busy = tt
busy_after Idle (ask.CloseAt c p v) r isnt busy = tt
busy_after Idle (ask.Broke c p) r isnt busy = tt
busy_after (Open at) ask.Begin r isnt busy = tt
busy_after (Open at) (ask.Look c p) (reply.At i) isnt busy = tt
busy_after (Open at) (ask.Look c p) (reply.Is w) isnt busy = tt
busy_after (Open at) (ask.Look c p) (reply.Views i ws) isnt busy = tt
busy_after (Open at) (ask.Look c p) reply.Done isnt busy = tt
busy_after (Open at) (ask.Look c p) (reply.Retry d) isnt busy = tt
busy_after (Open at) (ask.Look c p) (reply.Changed d) isnt busy = tt
busy_after (Open at) (ask.Look c p) (reply.AgentIsFailed h) isnt busy = tt
busy_after (Open at) (ask.Look c p) (reply.Action n y w) isnt busy = tt
busy_after (Open at) (ask.Look c p) reply.Idle isnt busy = tt
busy_after (Open at) (ask.Look c p) (reply.Opened i w) isnt busy = tt
busy_after (Open at) (ask.Look c p) reply.Full isnt busy = tt
busy_after (Open at) (ask.Look c p) reply.Memory isnt busy = tt
busy_after (Open at) (ask.View cs) (reply.At i) isnt busy = tt
busy_after (Open at) (ask.View cs) (reply.Is w) isnt busy = tt
busy_after (Open at) (ask.View cs) (reply.Views i ws) isnt busy = tt
busy_after (Open at) (ask.View cs) reply.Done isnt busy = tt
busy_after (Open at) (ask.View cs) (reply.Retry d) isnt busy = tt
busy_after (Open at) (ask.View cs) (reply.Changed d) isnt busy = tt
busy_after (Open at) (ask.View cs) (reply.AgentIsFailed h) isnt busy = tt
busy_after (Open at) (ask.View cs) (reply.Action n y w) isnt busy = tt
busy_after (Open at) (ask.View cs) reply.Idle isnt busy = tt
busy_after (Open at) (ask.View cs) (reply.Opened i w) isnt busy = tt
busy_after (Open at) (ask.View cs) reply.Full isnt busy = tt
busy_after (Open at) (ask.View cs) reply.Memory isnt busy = tt
busy_after (Open at) (ask.Commit p sets ensured q commuted sends) (reply.At i) isnt busy = tt
busy_after (Open at) (ask.Commit p sets ensured q commuted sends) (reply.Is w) isnt busy = tt
busy_after (Open at) (ask.Commit p sets ensured q commuted sends) (reply.Views i ws) isnt busy = tt
busy_after (Open at) (ask.Commit p sets ensured q commuted sends) reply.Done isnt busy = tt
busy_after (Open at) (ask.Commit p sets ensured q commuted sends) (reply.Retry d) isnt busy = tt
busy_after (Open at) (ask.Commit p sets ensured q commuted sends) (reply.Changed d) isnt busy = tt
busy_after (Open at) (ask.Commit p sets ensured q commuted sends) (reply.AgentIsFailed h) isnt busy = tt
busy_after (Open at) (ask.Commit p sets ensured q commuted sends) (reply.Action n y w) isnt busy = tt
busy_after (Open at) (ask.Commit p sets ensured q commuted sends) reply.Idle isnt busy = tt
busy_after (Open at) (ask.Commit p sets ensured q commuted sends) (reply.Opened i w) isnt busy = tt
busy_after (Open at) (ask.Commit p sets ensured q commuted sends) reply.Full isnt busy = tt
busy_after (Open at) (ask.Commit p sets ensured q commuted sends) reply.Memory isnt busy = tt
busy_after (Open at) (ask.Fail p q) r isnt busy = tt
busy_after (Open at) (ask.Peek c) r isnt busy = tt
busy_after (Open at) (ask.Send x) r isnt busy = tt
busy_after (Open at) (ask.Take g) r isnt busy = tt
busy_after (Open at) (ask.Finish g new sends) r isnt busy = absurd (false≢true (sym isnt))
busy_after (Open at) (ask.OpenAt c) r isnt busy = tt
busy_after (Open at) (ask.CloseAt c p v) r isnt busy = tt
busy_after (Open at) (ask.Broke c p) r isnt busy = tt
busy_after (Viewing at view) ask.Begin r isnt busy = tt
busy_after (Viewing at view) (ask.Look c p) r isnt busy = tt
busy_after (Viewing at view) (ask.View cs) r isnt busy = tt
busy_after (Viewing at view) (ask.Commit p sets ensured q commuted sends) (reply.At i) isnt busy = tt
busy_after (Viewing at view) (ask.Commit p sets ensured q commuted sends) (reply.Is w) isnt busy = tt
busy_after (Viewing at view) (ask.Commit p sets ensured q commuted sends) (reply.Views i ws) isnt busy = tt
busy_after (Viewing at view) (ask.Commit p sets ensured q commuted sends) reply.Done isnt busy = tt
busy_after (Viewing at view) (ask.Commit p sets ensured q commuted sends) (reply.Retry d) isnt busy = tt
busy_after (Viewing at view) (ask.Commit p sets ensured q commuted sends) (reply.Changed d) isnt busy = tt
busy_after (Viewing at view) (ask.Commit p sets ensured q commuted sends) (reply.AgentIsFailed h) isnt busy = tt
busy_after (Viewing at view) (ask.Commit p sets ensured q commuted sends) (reply.Action n y w) isnt busy = tt
busy_after (Viewing at view) (ask.Commit p sets ensured q commuted sends) reply.Idle isnt busy = tt
busy_after (Viewing at view) (ask.Commit p sets ensured q commuted sends) (reply.Opened i w) isnt busy = tt
busy_after (Viewing at view) (ask.Commit p sets ensured q commuted sends) reply.Full isnt busy = tt
busy_after (Viewing at view) (ask.Commit p sets ensured q commuted sends) reply.Memory isnt busy = tt
busy_after (Viewing at view) (ask.Fail p q) r isnt busy = tt
busy_after (Viewing at view) (ask.Peek c) r isnt busy = tt
busy_after (Viewing at view) (ask.Send x) r isnt busy = tt
busy_after (Viewing at view) (ask.Take g) r isnt busy = tt
busy_after (Viewing at view) (ask.Finish g new sends) r isnt busy = tt
busy_after (Viewing at view) (ask.OpenAt c) r isnt busy = tt
busy_after (Viewing at view) (ask.CloseAt c p v) r isnt busy = tt
busy_after (Viewing at view) (ask.Broke c p) r isnt busy = tt
busy_after (Swapping d at) q r isnt busy = tt
busy_after Resting q r isnt busy = absurd busy

-- what comes in such a stage is what a thread may ask there
pub thread_asks : (st : Stage) (q : Ask) → is_finish q ≡ false → IsBusy st → AsksIn true st q → AsksIn false st q
thread_asks Idle ask.Begin isnt busy h = h
thread_asks Idle (ask.Look c p) isnt busy h = h
thread_asks Idle (ask.View cs) isnt busy h = h
thread_asks Idle (ask.Commit p sets ensured q commuted sends) isnt busy h = h
thread_asks Idle (ask.Fail p q) isnt busy h = h
thread_asks Idle (ask.Peek c) isnt busy h = h
thread_asks Idle (ask.Send x) isnt busy h = refl
thread_asks Idle (ask.Take g) isnt busy h = h
thread_asks Idle (ask.Finish g new sends) isnt busy h = absurd (false≢true (sym isnt))
thread_asks Idle (ask.OpenAt c) isnt busy h = h
thread_asks Idle (ask.CloseAt c None v) isnt busy h = h
thread_asks Idle (ask.CloseAt c (Some p) v) isnt busy h = h
thread_asks Idle (ask.Broke c p) isnt busy h = h
thread_asks (Open at) ask.Begin isnt busy h = h
thread_asks (Open at) (ask.Look c p) isnt busy h = h
thread_asks (Open at) (ask.View cs) isnt busy h = h
thread_asks (Open at) (ask.Commit p sets ensured q commuted sends) isnt busy h = (h.0, h.1, λ e. absurd (false≢true e))
thread_asks (Open at) (ask.Fail p q) isnt busy h = h
thread_asks (Open at) (ask.Peek c) isnt busy h = h
thread_asks (Open at) (ask.Send x) isnt busy h = h
thread_asks (Open at) (ask.Take g) isnt busy h = h
thread_asks (Open at) (ask.Finish g new sends) isnt busy h = absurd (false≢true (sym isnt))
thread_asks (Open at) (ask.OpenAt c) isnt busy h = h
thread_asks (Open at) (ask.CloseAt c p v) isnt busy h = h
thread_asks (Open at) (ask.Broke c p) isnt busy h = h
thread_asks (Viewing at view) ask.Begin isnt busy h = h
thread_asks (Viewing at view) (ask.Look c p) isnt busy h = h
thread_asks (Viewing at view) (ask.View cs) isnt busy h = h
thread_asks (Viewing at view) (ask.Commit p sets ensured q commuted sends) isnt busy h = (h.0, h.1, λ e. absurd (false≢true e))
thread_asks (Viewing at view) (ask.Fail p q) isnt busy h = h
thread_asks (Viewing at view) (ask.Peek c) isnt busy h = h
thread_asks (Viewing at view) (ask.Send x) isnt busy h = h
thread_asks (Viewing at view) (ask.Take g) isnt busy h = h
thread_asks (Viewing at view) (ask.Finish g new sends) isnt busy h = absurd (false≢true (sym isnt))
thread_asks (Viewing at view) (ask.OpenAt c) isnt busy h = h
thread_asks (Viewing at view) (ask.CloseAt c p v) isnt busy h = h
thread_asks (Viewing at view) (ask.Broke c p) isnt busy h = h
thread_asks (Swapping d at) ask.Begin isnt busy h = h
thread_asks (Swapping d at) (ask.Look c p) isnt busy h = h
thread_asks (Swapping d at) (ask.View cs) isnt busy h = h
thread_asks (Swapping d at) (ask.Commit p sets ensured q commuted sends) isnt busy h = h
thread_asks (Swapping d at) (ask.Fail p q) isnt busy h = h
thread_asks (Swapping d at) (ask.Peek c) isnt busy h = h
thread_asks (Swapping d at) (ask.Send x) isnt busy h = h
thread_asks (Swapping d at) (ask.Take g) isnt busy h = h
thread_asks (Swapping d at) (ask.Finish g new sends) isnt busy h = absurd (false≢true (sym isnt))
thread_asks (Swapping d at) (ask.OpenAt c) isnt busy h = h
thread_asks (Swapping d at) (ask.CloseAt c None v) isnt busy h = h
thread_asks (Swapping d at) (ask.CloseAt c (Some p) v) isnt busy h = h
thread_asks (Swapping d at) (ask.Broke c p) isnt busy h = h
thread_asks Resting q isnt busy h = absurd busy

-- an ask that doesn't hand the action in waits for an event
pub waited : (cells : List CellDefinition) (g : CellId) (q : Ask) (out : List ℕ) (m : Completion ThreadState Value) → is_finish q ≡ false → MeansAsked cells g (Some q) out m → HasWaited out (halted m)
waited cells g (ask.Finish h new sends) out m isnt k = absurd (false≢true (sym isnt))
waited cells g q out m isnt k = asked_waited cells (Some q) out (halted m) k

-- what hands an action in
pub record Finishes (q : Ask) : Type 0 where
  pub agent : CellId
  pub new : Result Value Fault
  pub sends : List Action
  pub same : q ≡ ask.Finish agent new sends

pub finish_is : (q : Ask) → is_finish q ≡ true → Finishes q
finish_is ask.Begin h = absurd (false≢true h)
finish_is (ask.Look c p) h = absurd (false≢true h)
finish_is (ask.View cs) h = absurd (false≢true h)
finish_is (ask.Commit p sets ensured q commuted sends) h = absurd (false≢true h)
finish_is (ask.Fail p q) h = absurd (false≢true h)
finish_is (ask.Peek c) h = absurd (false≢true h)
finish_is (ask.Send x) h = absurd (false≢true h)
finish_is (ask.Take g) h = absurd (false≢true h)
finish_is (ask.Finish g new sends) h = record { agent = g; new = new; sends = sends; same = refl }
finish_is (ask.OpenAt c) h = absurd (false≢true h)
finish_is (ask.CloseAt c p v) h = absurd (false≢true h)
finish_is (ask.Broke c p) h = absurd (false≢true h)
