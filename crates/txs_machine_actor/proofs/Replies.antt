-- The replies that asks may have, one by one.
use Rattle.std.proofs.Common.{[], ◌≡◌, ℕ, Bool, true, false, List, length, Option, Some, None, Result, Ok, Err}
use Rattle.txs_world_protocol.specs.Ask.{Writes}
use Rattle.txs_world_protocol.specs.declared.ask.Ask.TheVariants as ask
use Rattle.txs_world_protocol.specs.declared.ask.Reply.{Reply}
use Rattle.txs_world_protocol.specs.declared.ask.Reply.TheVariants.{At, Is, Views, Done, Retry, Changed, AgentIsFailed, Action, Idle, Opened, Full, Memory}
use Rattle.txs_frame.specs.Frame.{PlainTxFrame, commuted, set_writes}
use Rattle.txs_frame.specs.Phase.{PlainPhase}
use Rattle.txs_frame.specs.declared.frame.Commute.{Commute}
use Rattle.txs_value_cell.specs.declared.action.Action.{Action as AnAction}
use Rattle.txs_value_data.specs.declared.fault.Fault.{Fault}
use Rattle.txs_value_data.specs.declared.value.CellId.{CellId}
use Rattle.txs_value_data.specs.declared.value.Value.{Value}
use Rattle.txs_machine_actor.specs.PlainActor.{MayAnswer}
use Rattle.txs_machine_transaction.specs.Asks.{ask_for}
use Rattle.txs_machine_transaction.specs.declared.state.Savepoint.{Savepoint}
use Rattle.txs_machine_transaction.specs.declared.state.Pending.{Pending}
use Rattle.txs_machine_transaction.specs.declared.state.Pending.TheVariants as pending

module _ (P : Reply → Type 0) where
  pub begin_replies : ((p : ℕ) → P (At p)) → (r : Reply) → MayAnswer ask.Begin r → P r
  begin_replies at (At p) m = at p
  begin_replies at (Is v) m = absurd m
  begin_replies at (Views q vs) m = absurd m
  begin_replies at Done m = absurd m
  begin_replies at (Retry c) m = absurd m
  begin_replies at (Changed c) m = absurd m
  begin_replies at (AgentIsFailed g) m = absurd m
  begin_replies at (Action n x v) m = absurd m
  begin_replies at Idle m = absurd m
  begin_replies at (Opened q v) m = absurd m
  begin_replies at Full m = absurd m
  begin_replies at Memory m = absurd m

  pub view_replies : (cs : List CellId) → ((q : ℕ) (vs : List Value) → length vs ≡ length cs → P (Views q vs)) → P Memory → (r : Reply) → MayAnswer (ask.View cs) r → P r
  view_replies cs views memory (Views q vs) m = views q vs m
  view_replies cs views memory Memory m = memory
  view_replies cs views memory (At p) m = absurd m
  view_replies cs views memory (Is v) m = absurd m
  view_replies cs views memory Done m = absurd m
  view_replies cs views memory (Retry c) m = absurd m
  view_replies cs views memory (Changed c) m = absurd m
  view_replies cs views memory (AgentIsFailed g) m = absurd m
  view_replies cs views memory (Action n x v) m = absurd m
  view_replies cs views memory Idle m = absurd m
  view_replies cs views memory (Opened q v) m = absurd m
  view_replies cs views memory Full m = absurd m

  pub look_replies : (c : CellId) (p : ℕ) → ((v : Value) → P (Is v)) → ((d : CellId) → P (Retry d)) → P Full → P Memory → (r : Reply) → MayAnswer (ask.Look c p) r → P r
  look_replies c p is again full memory (Is v) m = is v
  look_replies c p is again full memory (Retry d) m = again d
  look_replies c p is again full memory Full m = full
  look_replies c p is again full memory Memory m = memory
  look_replies c p is again full memory (At q) m = absurd m
  look_replies c p is again full memory (Views q vs) m = absurd m
  look_replies c p is again full memory Done m = absurd m
  look_replies c p is again full memory (Changed d) m = absurd m
  look_replies c p is again full memory (AgentIsFailed g) m = absurd m
  look_replies c p is again full memory (Action n x v) m = absurd m
  look_replies c p is again full memory Idle m = absurd m
  look_replies c p is again full memory (Opened q v) m = absurd m

  pub peek_replies : (c : CellId) → ((v : Value) → P (Is v)) → P Full → P Memory → (r : Reply) → MayAnswer (ask.Peek c) r → P r
  peek_replies c is full memory (Is v) m = is v
  peek_replies c is full memory Full m = full
  peek_replies c is full memory Memory m = memory
  peek_replies c is full memory (Retry d) m = absurd m
  peek_replies c is full memory (At q) m = absurd m
  peek_replies c is full memory (Views q vs) m = absurd m
  peek_replies c is full memory Done m = absurd m
  peek_replies c is full memory (Changed d) m = absurd m
  peek_replies c is full memory (AgentIsFailed g) m = absurd m
  peek_replies c is full memory (Action n x v) m = absurd m
  peek_replies c is full memory Idle m = absurd m
  peek_replies c is full memory (Opened q v) m = absurd m

  pub commit_replies : (p : ℕ) (ws : Writes) (es : List CellId) (q : ℕ) (cs : Writes) (xs : List AnAction) → P Done → ((d : CellId) → P (Retry d)) → ((d : CellId) → P (Changed d)) → ((g : CellId) → P (AgentIsFailed g)) → P Full → P Memory
      → (r : Reply) → MayAnswer (ask.Commit p ws es q cs xs) r → P r
  commit_replies p ws es q cs xs done again changed denied full memory Done m = done
  commit_replies p ws es q cs xs done again changed denied full memory (Retry d) m = again d
  commit_replies p ws es q cs xs done again changed denied full memory (Changed d) m = changed d
  commit_replies p ws es q cs xs done again changed denied full memory (AgentIsFailed g) m = denied g
  commit_replies p ws es q cs xs done again changed denied full memory Full m = full
  commit_replies p ws es q cs xs done again changed denied full memory Memory m = memory
  commit_replies p ws es q cs xs done again changed denied full memory (At n) m = absurd m
  commit_replies p ws es q cs xs done again changed denied full memory (Is v) m = absurd m
  commit_replies p ws es q cs xs done again changed denied full memory (Views n vs) m = absurd m
  commit_replies p ws es q cs xs done again changed denied full memory (Action n x v) m = absurd m
  commit_replies p ws es q cs xs done again changed denied full memory Idle m = absurd m
  commit_replies p ws es q cs xs done again changed denied full memory (Opened n v) m = absurd m

  pub fail_replies : (p q : ℕ) → P Done → P Full → P Memory → (r : Reply) → MayAnswer (ask.Fail p q) r → P r
  fail_replies p q done full memory Done m = done
  fail_replies p q done full memory Full m = full
  fail_replies p q done full memory Memory m = memory
  fail_replies p q done full memory (At n) m = absurd m
  fail_replies p q done full memory (Is v) m = absurd m
  fail_replies p q done full memory (Views n vs) m = absurd m
  fail_replies p q done full memory (Retry d) m = absurd m
  fail_replies p q done full memory (Changed d) m = absurd m
  fail_replies p q done full memory (AgentIsFailed g) m = absurd m
  fail_replies p q done full memory (Action n x v) m = absurd m
  fail_replies p q done full memory Idle m = absurd m
  fail_replies p q done full memory (Opened n v) m = absurd m

  pub take_replies : (g : CellId) → ((n : ℕ) (x : AnAction) (v : Value) → P (Action n x v)) → P Idle → P Memory → (r : Reply) → MayAnswer (ask.Take g) r → P r
  take_replies g action idle memory (Action n x v) m = action n x v
  take_replies g action idle memory Idle m = idle
  take_replies g action idle memory Memory m = memory
  take_replies g action idle memory (At n) m = absurd m
  take_replies g action idle memory (Is v) m = absurd m
  take_replies g action idle memory (Views n vs) m = absurd m
  take_replies g action idle memory Done m = absurd m
  take_replies g action idle memory (Retry d) m = absurd m
  take_replies g action idle memory (Changed d) m = absurd m
  take_replies g action idle memory (AgentIsFailed h) m = absurd m
  take_replies g action idle memory (Opened n v) m = absurd m
  take_replies g action idle memory Full m = absurd m

  pub finish_replies : (g : CellId) (new : Result Value Fault) (xs : List AnAction) → P Done → ((h : CellId) → P (AgentIsFailed h)) → P Full → P Memory → (r : Reply) → MayAnswer (ask.Finish g new xs) r → P r
  finish_replies g new xs done denied full memory Done m = done
  finish_replies g new xs done denied full memory Full m = full
  finish_replies g new xs done denied full memory Memory m = memory
  finish_replies g new xs done denied full memory (At n) m = absurd m
  finish_replies g new xs done denied full memory (Is v) m = absurd m
  finish_replies g new xs done denied full memory (Views n vs) m = absurd m
  finish_replies g new xs done denied full memory (Retry d) m = absurd m
  finish_replies g new xs done denied full memory (Changed d) m = absurd m
  finish_replies g new xs done denied full memory (AgentIsFailed h) m = denied h
  finish_replies g new xs done denied full memory (Action n x v) m = absurd m
  finish_replies g new xs done denied full memory Idle m = absurd m
  finish_replies g new xs done denied full memory (Opened n v) m = absurd m

  pub reset_replies : (c : CellId) (v : Value) → P Done → P Full → P Memory → (r : Reply) → MayAnswer (ask.CloseAt c None v) r → P r
  reset_replies c v done full memory (At n) m = absurd m
  reset_replies c v done full memory (Is w) m = absurd m
  reset_replies c v done full memory (Views n vs) m = absurd m
  reset_replies c v done full memory Done m = done
  reset_replies c v done full memory (Retry d) m = absurd m
  reset_replies c v done full memory (Changed d) m = absurd m
  reset_replies c v done full memory (AgentIsFailed g) m = absurd m
  reset_replies c v done full memory (Action n x w) m = absurd m
  reset_replies c v done full memory Idle m = absurd m
  reset_replies c v done full memory (Opened n w) m = absurd m
  reset_replies c v done full memory Full m = full
  reset_replies c v done full memory Memory m = memory

  pub send_replies : (a : AnAction) → P Done → ((g : CellId) → P (AgentIsFailed g)) → P Full → P Memory → (r : Reply) → MayAnswer (ask.Send a) r → P r
  send_replies a done denied full memory (At n) m = absurd m
  send_replies a done denied full memory (Is w) m = absurd m
  send_replies a done denied full memory (Views n vs) m = absurd m
  send_replies a done denied full memory Done m = done
  send_replies a done denied full memory (Retry d) m = absurd m
  send_replies a done denied full memory (Changed d) m = absurd m
  send_replies a done denied full memory (AgentIsFailed g) m = denied g
  send_replies a done denied full memory (Action n x w) m = absurd m
  send_replies a done denied full memory Idle m = absurd m
  send_replies a done denied full memory (Opened n w) m = absurd m
  send_replies a done denied full memory Full m = full
  send_replies a done denied full memory Memory m = memory

  pub open_replies : (c : CellId) → ((p : ℕ) (v : Value) → P (Opened p v)) → P Memory → (r : Reply) → MayAnswer (ask.OpenAt c) r → P r
  open_replies c opened memory (At n) m = absurd m
  open_replies c opened memory (Is w) m = absurd m
  open_replies c opened memory (Views n vs) m = absurd m
  open_replies c opened memory Done m = absurd m
  open_replies c opened memory (Retry d) m = absurd m
  open_replies c opened memory (Changed d) m = absurd m
  open_replies c opened memory (AgentIsFailed g) m = absurd m
  open_replies c opened memory (Action n x w) m = absurd m
  open_replies c opened memory Idle m = absurd m
  open_replies c opened memory (Opened n w) m = opened n w
  open_replies c opened memory Full m = absurd m
  open_replies c opened memory Memory m = memory

  pub close_replies : (c : CellId) (p : ℕ) (v : Value) → P Done → ((d : CellId) → P (Changed d)) → P Full → P Memory → (r : Reply) → MayAnswer (ask.CloseAt c (Some p) v) r → P r
  close_replies c p v done changed full memory (At n) m = absurd m
  close_replies c p v done changed full memory (Is w) m = absurd m
  close_replies c p v done changed full memory (Views n vs) m = absurd m
  close_replies c p v done changed full memory Done m = done
  close_replies c p v done changed full memory (Retry d) m = absurd m
  close_replies c p v done changed full memory (Changed d) m = changed d
  close_replies c p v done changed full memory (AgentIsFailed g) m = absurd m
  close_replies c p v done changed full memory (Action n x w) m = absurd m
  close_replies c p v done changed full memory Idle m = absurd m
  close_replies c p v done changed full memory (Opened n w) m = absurd m
  close_replies c p v done changed full memory Full m = full
  close_replies c p v done changed full memory Memory m = memory

  pub broke_replies : (c : CellId) (p : ℕ) → P Done → P Full → P Memory → (r : Reply) → MayAnswer (ask.Broke c p) r → P r
  broke_replies c p done full memory (At n) m = absurd m
  broke_replies c p done full memory (Is w) m = absurd m
  broke_replies c p done full memory (Views n vs) m = absurd m
  broke_replies c p done full memory Done m = done
  broke_replies c p done full memory (Retry d) m = absurd m
  broke_replies c p done full memory (Changed d) m = absurd m
  broke_replies c p done full memory (AgentIsFailed g) m = absurd m
  broke_replies c p done full memory (Action n x w) m = absurd m
  broke_replies c p done full memory Idle m = absurd m
  broke_replies c p done full memory (Opened n w) m = absurd m
  broke_replies c p done full memory Full m = full
  broke_replies c p done full memory Memory m = memory

-- each reply that an actor's ask may have, by what it is for
pub record Cases (P : Pending → Bool → Reply → Type 0) (w : PlainTxFrame) : Type 0 where
  pub begins : (left : ℕ) (from : Savepoint) (i : Bool) (p : ℕ) → P (pending.Begin left from) i (At p)
  pub reads : (c : CellId) (i : Bool) (v : Value) → P (pending.Read c) i (Is v)
  pub reads_again : (c d : CellId) → P (pending.Read c) true (Retry d)
  pub ensures : (c : CellId) (es : List CellId) (i : Bool) (v : Value) → P (pending.Ensure c es) i (Is v)
  pub ensures_again : (c : CellId) (es : List CellId) (i : Bool) (d : CellId) → P (pending.Ensure c es) i (Retry d)
  pub opens : (c : CellId) (n : ℕ) (kept : Option Commute) (i : Bool) (v : Value) → P (pending.Open c n kept) i (Is v)
  pub opens_again : (c : CellId) (n : ℕ) (kept : Option Commute) (i : Bool) (d : CellId) → P (pending.Open c n kept) i (Retry d)
  pub views : (phase : PlainPhase) (i : Bool) (q : ℕ) (vs : List Value) → length vs ≡ length (commuted w) → P (pending.View phase) i (Views q vs)
  pub resets : (c : CellId) (v : Value) (i : Bool) → P (pending.Reset c v) i Done
  pub sends : (x : AnAction) (n : ℕ) (i : Bool) → P (pending.Send x n) i Done
  pub refused : (x : AnAction) (n : ℕ) (i : Bool) (g : CellId) → P (pending.Send x n) i (AgentIsFailed g)
  pub opens_atom : (c : CellId) (n : ℕ) (from : Savepoint) (i : Bool) (p : ℕ) (v : Value) → P (pending.Swap c n from) i (Opened p v)
  pub closes_atom : (c : CellId) (p : ℕ) (v : Value) (i : Bool) → P (pending.Close c p v) i Done
  pub swaps_again : (c : CellId) (p : ℕ) (v : Value) (i : Bool) (d : CellId) → P (pending.Close c p v) i (Changed d)
  pub commits : (i : Bool) → P pending.Commit i Done
  pub commits_again : (i : Bool) (d : CellId) → P pending.Commit i (Retry d)
  pub changed : (i : Bool) (d : CellId) → P pending.Commit i (Changed d)
  pub denied : (i : Bool) (g : CellId) → P pending.Commit i (AgentIsFailed g)
  pub holds : (xs : List AnAction) (i : Bool) → P (pending.Hold xs) i Done
  pub holds_again : (xs : List AnAction) (i : Bool) (d : CellId) → P (pending.Hold xs) i (Retry d)
  pub holds_changed : (xs : List AnAction) (i : Bool) (d : CellId) → P (pending.Hold xs) i (Changed d)
  pub holds_denied : (xs : List AnAction) (i : Bool) (g : CellId) → P (pending.Hold xs) i (AgentIsFailed g)
  pub fails : (f : Fault) (i : Bool) → P (pending.Fail f) i Done
  pub breaks : (c : CellId) (p : ℕ) (f : Fault) (i : Bool) → P (pending.Broke c p f) i Done
  pub takes : (g : CellId) (i : Bool) (n : ℕ) (x : AnAction) (v : Value) → P (pending.Take g) i (Action n x v)
  pub idles : (g : CellId) (i : Bool) → P (pending.Take g) i Idle
  pub finishes : (g : CellId) (new : Result (Value × List AnAction) Fault) (i : Bool) → P (pending.Finish g new) i Done
  pub refuses : (g : CellId) (new : Result (Value × List AnAction) Fault) (i : Bool) (h : CellId) → P (pending.Finish g new) i (AgentIsFailed h)
  pub full : (p : Pending) (i : Bool) → P p i Full
  pub memory : (p : Pending) (i : Bool) → P p i Memory

pub by_reply : (P : Pending → Bool → Reply → Type 0) (w : PlainTxFrame) → Cases P w → (p : Pending) (inside : Bool) (at view : ℕ) (ws : Writes) (r : Reply) → MayAnswer (ask_for p inside at view ws w) r → P p inside r
by_reply P w k (pending.Begin left from) i at view ws r m = begin_replies (P (pending.Begin left from) i) (k.begins left from i) r m
by_reply P w k (pending.Read c) true at view ws r m = look_replies (P (pending.Read c) true) c at (k.reads c true) (k.reads_again c) (k.full (pending.Read c) true) (k.memory (pending.Read c) true) r m
by_reply P w k (pending.Read c) false at view ws r m = peek_replies (P (pending.Read c) false) c (k.reads c false) (k.full (pending.Read c) false) (k.memory (pending.Read c) false) r m
by_reply P w k (pending.Ensure c es) i at view ws r m = look_replies (P (pending.Ensure c es) i) c at (k.ensures c es i) (k.ensures_again c es i) (k.full (pending.Ensure c es) i) (k.memory (pending.Ensure c es) i) r m
by_reply P w k (pending.Open c n kept) i at view ws r m = look_replies (P (pending.Open c n kept) i) c at (k.opens c n kept i) (k.opens_again c n kept i) (k.full (pending.Open c n kept) i) (k.memory (pending.Open c n kept) i) r m
by_reply P w k (pending.View phase) i at view ws r m = view_replies (P (pending.View phase) i) (commuted w) (k.views phase i) (k.memory (pending.View phase) i) r m
by_reply P w k (pending.Reset c v) i at view ws r m = reset_replies (P (pending.Reset c v) i) c v (k.resets c v i) (k.full (pending.Reset c v) i) (k.memory (pending.Reset c v) i) r m
by_reply P w k (pending.Send x n) i at view ws r m = send_replies (P (pending.Send x n) i) x (k.sends x n i) (k.refused x n i) (k.full (pending.Send x n) i) (k.memory (pending.Send x n) i) r m
by_reply P w k (pending.Swap c n from) i at view ws r m = open_replies (P (pending.Swap c n from) i) c (k.opens_atom c n from i) (k.memory (pending.Swap c n from) i) r m
by_reply P w k (pending.Close c p v) i at view ws r m = close_replies (P (pending.Close c p v) i) c p v (k.closes_atom c p v i) (k.swaps_again c p v i) (k.full (pending.Close c p v) i) (k.memory (pending.Close c p v) i) r m
by_reply P w k pending.Commit i at view ws r m = commit_replies (P pending.Commit i) at (set_writes w) w.ensures view ws w.sends (k.commits i) (k.commits_again i) (k.changed i) (k.denied i) (k.full pending.Commit i) (k.memory pending.Commit i) r m
by_reply P w k (pending.Hold xs) i at view ws r m = commit_replies (P (pending.Hold xs) i) at (set_writes w) w.ensures view ws [] (k.holds xs i) (k.holds_again xs i) (k.holds_changed xs i) (k.holds_denied xs i) (k.full (pending.Hold xs) i) (k.memory (pending.Hold xs) i) r m
by_reply P w k (pending.Fail f) i at view ws r m = fail_replies (P (pending.Fail f) i) at view (k.fails f i) (k.full (pending.Fail f) i) (k.memory (pending.Fail f) i) r m
by_reply P w k (pending.Broke c p f) i at view ws r m = broke_replies (P (pending.Broke c p f) i) c p (k.breaks c p f i) (k.full (pending.Broke c p f) i) (k.memory (pending.Broke c p f) i) r m
by_reply P w k (pending.Take g) i at view ws r m = take_replies (P (pending.Take g) i) g (k.takes g i) (k.idles g i) (k.memory (pending.Take g) i) r m
by_reply P w k (pending.Finish g (Ok x)) i at view ws r m = finish_replies (P (pending.Finish g (Ok x)) i) g (Ok x.0) x.1 (k.finishes g (Ok x) i) (k.refuses g (Ok x) i) (k.full (pending.Finish g (Ok x)) i) (k.memory (pending.Finish g (Ok x)) i) r m
by_reply P w k (pending.Finish g (Err f)) i at view ws r m = finish_replies (P (pending.Finish g (Err f)) i) g (Err f) [] (k.finishes g (Err f) i) (k.refuses g (Err f) i) (k.full (pending.Finish g (Err f)) i) (k.memory (pending.Finish g (Err f)) i) r m
