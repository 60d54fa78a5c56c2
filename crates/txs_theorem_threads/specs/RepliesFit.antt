-- Which replies fit which events, and how a tree's end on replies goes with its thread's on events.
use Rattle.std.specs.Prelude.{◌≡◌, ℕ, Bool, true, false, List, [], ◌∷◌, ◌++◌, Option, Some, None, not}
use Rattle.txs_world_protocol.specs.Ask.{Writes, Exchange}
use Rattle.txs_world_protocol.specs.SeenEvent.{SeenEvent, home}
use Rattle.txs_world_protocol.specs.declared.ask.Ask.{Ask}
use Rattle.txs_world_protocol.specs.declared.ask.Ask.TheVariants as ask
use Rattle.txs_world_protocol.specs.declared.ask.Reply.{Reply}
use Rattle.txs_world_protocol.specs.declared.ask.Reply.TheVariants as reply
use Rattle.txs_world_protocol.specs.declared.event.Cause.TheVariants as cause
use Rattle.txs_world_protocol.specs.declared.event.EventKind.{EventKind}
use Rattle.txs_world_protocol.specs.declared.event.EventKind.TheVariants as event
use Rattle.txs_frame.specs.Frame.{has_number, cells_in}
use Rattle.txs_value_cell.specs.Cells.{World}
use Rattle.txs_value_cell.specs.declared.action.Action.{Action}
use Rattle.txs_value_cell.specs.declared.cell.CellDefinition.{CellDefinition}
use Rattle.txs_value_data.specs.declared.value.CellId.{CellId}
use Rattle.txs_value_data.specs.declared.value.Value.{Value}
use Rattle.txs_tree_meaning.specs.Meaning.{Completion, Completes, Recurs, Faults, Retries, Waits, OutOfTurns, Invalid}
use Rattle.txs_tree_meaning.specs.Sound.{SoundSource}
use Rattle.txs_tree_meaning.specs.Thread.{ThreadState, thread_meaning}
use Rattle.txs_tree_meaning.specs.Transaction.{merged}
use Rattle.txs_tree_meaning.specs.Tree.{ThreadSource}
use Rattle.txs_code_meaning.specs.ActorState.{ActorState}
use Rattle.txs_code_meaning.specs.Machine.{Outcome, Ended, Failed, Asking, Unfinished, Stuck}
use Rattle.txs_theorem_threads.specs.Behaves.{source}

-- outside a transaction, in a try on one world, in a commute phase on the world that was viewed, or while a swap is applied on the
-- world that was opened
pub data Phase : Type 0 where
  Out : Phase
  In : (R : World) → Phase
  Viewed : (R Q : World) → Phase
  WithSwap : (cell : CellId) (W : World) → Phase

-- ---- what an event says

-- the next event is of this book and meets this, and the rest continues
abbrev pub OnEvent : ℕ → (SeenEvent → Type 0) → (List SeenEvent → Type 0) → List SeenEvent → Type 0
OnEvent book P next [] = ⊥
OnEvent book P next (e ∷ es) = (e.book ≡ book) × P e × next es

-- a transaction had to run again, since this ref's value was no longer kept
abbrev pub SaysOutdated : CellId → EventKind → Type 0
SaysOutdated d (event.Retry since c cause.Outdated) = c ≡ d
SaysOutdated d _ = ⊥

-- since this ref, which it had set or ensured, was written
abbrev pub SaysHeld : CellId → EventKind → Type 0
SaysHeld d (event.Retry since c cause.Held) = c ≡ d
SaysHeld d _ = ⊥

-- its commutes alone had to, since this ref, which it had commuted, was written
abbrev pub SaysCommuted : CellId → EventKind → Type 0
SaysCommuted d (event.Retry since c (cause.Commuted at)) = c ≡ d
SaysCommuted d _ = ⊥

-- a read of this cell
abbrev pub SaysRead : CellId → EventKind → Type 0
SaysRead c (event.Read d) = c ≡ d
SaysRead c _ = ⊥

-- a commit with these writes and sends
abbrev pub SaysCommit : Writes → List Action → EventKind → Type 0
SaysCommit ws sends (event.Commit at view ws1 sends1) = (ws ≡ ws1) × (sends ≡ sends1)
SaysCommit ws sends _ = ⊥

-- a transaction that failed
abbrev pub SaysFail : EventKind → Type 0
SaysFail (event.Fail at view) = Unit {0}
SaysFail _ = ⊥

-- a transaction that was refused
abbrev pub SaysRefused : EventKind → Type 0
SaysRefused (event.Refused at view g) = Unit {0}
SaysRefused _ = ⊥

-- a send of this action
abbrev pub SaysSent : Action → EventKind → Type 0
SaysSent a (event.Send b) = a ≡ b
SaysSent a _ = ⊥

-- a refused send to this agent
abbrev pub SaysSendRefused : CellId → EventKind → Type 0
SaysSendRefused g (event.SendRefused h) = g ≡ h
SaysSendRefused g _ = ⊥

-- a swap to this value
abbrev pub SaysSwap : Value → EventKind → Type 0
SaysSwap v (event.Swap w) = v ≡ w
SaysSwap v _ = ⊥

-- a swap whose callee faulted
abbrev pub SaysBroke : EventKind → Type 0
SaysBroke (event.Broke at) = Unit {0}
SaysBroke _ = ⊥

-- a world gives these cells these values, one each
abbrev pub Gives : World → List CellId → List Value → Type 0
Gives Q [] [] = Unit {0}
Gives Q (c ∷ cs) (v ∷ vs) = (Q c.number ≡ v) × Gives Q cs vs
Gives Q _ _ = ⊥

-- two worlds agree on the cells of these writes
abbrev pub AgreeOn : Writes → World → World → Type 0
AgreeOn [] Q C = Unit {0}
AgreeOn (w ∷ ws) Q C = (Q w.0.number ≡ C w.0.number) × AgreeOn ws Q C

-- ---- asks with their replies, phase by phase

-- what continues after a reply, in the phase after it
abbrev pub Goes : Type 1
Goes = Phase → List SeenEvent → Type 0

-- the asks of an actor outside a transaction
abbrev pub OutFits : List CellDefinition → Ask → Reply → Goes → List SeenEvent → Type 0
-- a transaction begins on some world
OutFits cells ask.Begin (reply.At p) next es = (R : World) × next (In R) es
-- the value is that of the event's own place
OutFits cells (ask.Peek c) (reply.Is v) next es = OnEvent (home cells c) (λ e. SaysRead c e.kind × (e.C c.number ≡ v)) (next Out) es
OutFits cells (ask.Send a) reply.Done next es = OnEvent 0 (λ e. SaysSent a e.kind) (next Out) es
OutFits cells (ask.Send a) (reply.AgentIsFailed g) next es = OnEvent 0 (λ e. (a.agent ≡ g) × SaysSendRefused g e.kind) (next Out) es
-- the value is that of the world at the place opened
OutFits cells (ask.OpenAt c) (reply.Opened p v) next es = (W : World) × (W c.number ≡ v) × next (WithSwap c W) es
-- `reset!`
OutFits cells (ask.CloseAt c None v) reply.Done next es = OnEvent (home cells c) (λ e. SaysSwap v e.kind) (next Out) es
-- no other reply or event goes with the ask
OutFits cells _ _ next es = ⊥

-- the asks of a try on one world
abbrev pub InFits : World → Ask → Reply → Goes → List SeenEvent → Type 0
-- the values of one try are of one world
InFits R (ask.Look c p) (reply.Is v) next es = (R c.number ≡ v) × next (In R) es
-- its value of this ref was no longer kept
InFits R (ask.Look c p) (reply.Retry d) next es = OnEvent 0 (λ e. (R ≡ e.R) × SaysOutdated c e.kind) (next Out) es
-- the values of one view are of one world
InFits R (ask.View cs) (reply.Views q vs) next es = (Q : World) × Gives Q cs vs × next (Viewed R Q) es
-- a commit without a commute phase
InFits R (ask.Commit p ws rs q cs sends) reply.Done next es = OnEvent 0 (λ e. (R ≡ e.R) × (cs ≡ []) × SaysCommit ws sends e.kind) (next Out) es
-- the ref is one that it set or ensured
InFits R (ask.Commit p ws rs q cs sends) (reply.Retry d) next es = OnEvent 0 (λ e. (R ≡ e.R) × SaysHeld d e.kind × (has_number (cells_in ws ++ rs) d.number ≡ true)) (next Out) es
InFits R (ask.Commit p ws rs q cs sends) (reply.AgentIsFailed g) next es = OnEvent 0 (λ e. (R ≡ e.R) × (cs ≡ []) × SaysRefused e.kind) (next Out) es
InFits R (ask.Fail p q) reply.Done next es = OnEvent 0 (λ e. (R ≡ e.R) × SaysFail e.kind) (next Out) es
InFits R _ _ next es = ⊥

-- the asks of a commute phase
abbrev pub ViewedFits : World → World → Ask → Reply → Goes → List SeenEvent → Type 0
-- what the commutes were applied to is what the refs are at the commit
ViewedFits R Q (ask.Commit p ws rs q cs sends) reply.Done next es =
    OnEvent 0 (λ e. (R ≡ e.R) × AgreeOn cs Q e.C × SaysCommit (merged ws cs) sends e.kind) (next Out) es
ViewedFits R Q (ask.Commit p ws rs q cs sends) (reply.Retry d) next es = OnEvent 0 (λ e. (R ≡ e.R) × SaysHeld d e.kind × (has_number (cells_in ws ++ rs) d.number ≡ true)) (next Out) es
-- the commutes alone are redone, in the same try; the ref is one of theirs
ViewedFits R Q (ask.Commit p ws rs q cs sends) (reply.Changed d) next es = OnEvent 0 (λ e. (R ≡ e.R) × SaysCommuted d e.kind × (has_number (cells_in cs) d.number ≡ true)) (next (In R)) es
ViewedFits R Q (ask.Commit p ws rs q cs sends) (reply.AgentIsFailed g) next es = OnEvent 0 (λ e. (R ≡ e.R) × (Q ≡ e.Q) × SaysRefused e.kind) (next Out) es
ViewedFits R Q (ask.Fail p q) reply.Done next es = OnEvent 0 (λ e. (R ≡ e.R) × (Q ≡ e.Q) × SaysFail e.kind) (next Out) es
ViewedFits R Q _ _ next es = ⊥

-- the requests of a swap that is applied, which are of its atom
abbrev pub SwapFits : List CellDefinition → CellId → World → Ask → Reply → Goes → List SeenEvent → Type 0
-- the atom has at the event's place the value that was opened
SwapFits cells c W (ask.CloseAt d (Some p) v) reply.Done next es =
    OnEvent (home cells c) (λ e. (c ≡ d) × (W c.number ≡ e.C c.number) × SaysSwap v e.kind) (next Out) es
-- the swap is made again from its open, which is no event
SwapFits cells c W (ask.CloseAt d (Some p) v) (reply.Changed x) next es = next Out es
SwapFits cells c W (ask.Broke d p) reply.Done next es = OnEvent (home cells c) (λ e. (c ≡ d) × (W ≡ e.R) × SaysBroke e.kind) (next Out) es
SwapFits cells c W _ _ next es = ⊥

-- whether a place is given
abbrev pub is_placed : Option ℕ → Bool
is_placed None = false
is_placed (Some p) = true

-- whether a tree makes the ask in this phase
abbrev pub belongs : Phase → Ask → Bool
belongs Out ask.Begin = true
belongs Out (ask.Peek c) = true
belongs Out (ask.Send a) = true
belongs Out (ask.OpenAt c) = true
belongs Out (ask.CloseAt c p v) = not (is_placed p)
belongs Out _ = false
belongs (In R) (ask.Look c p) = true
belongs (In R) (ask.View cs) = true
belongs (In R) (ask.Commit p ws rs q cs sends) = true
belongs (In R) (ask.Fail p q) = true
belongs (In R) _ = false
belongs (Viewed R Q) (ask.Commit p ws rs q cs sends) = true
belongs (Viewed R Q) (ask.Fail p q) = true
belongs (Viewed R Q) _ = false
belongs (WithSwap c W) (ask.CloseAt d p v) = is_placed p
belongs (WithSwap c W) (ask.Broke d p) = true
belongs (WithSwap c W) _ = false

-- an ask of the phase with its reply, what is left of the events, and the phase after it
abbrev pub PhaseFits : List CellDefinition → Phase → Ask → Reply → Goes → List SeenEvent → Type 0
PhaseFits cells Out a r next es = OutFits cells a r next es
PhaseFits cells (In R) a r next es = InFits R a r next es
PhaseFits cells (Viewed R Q) a r next es = ViewedFits R Q a r next es
PhaseFits cells (WithSwap c W) a r next es = SwapFits cells c W a r next es

-- something is said only of asks that belong to the phase
abbrev pub IfBelongs : Bool → Type 0 → Type 0
IfBelongs true P = P
IfBelongs false P = Unit {0}

-- an ask and its reply, what is left of the events, and the phase after it; of an ask that a tree never makes in the phase nothing is said
abbrev pub ReplyFits : List CellDefinition → Phase → Ask → Reply → Goes → List SeenEvent → Type 0
ReplyFits cells ph a r next es = IfBelongs (belongs ph a) (PhaseFits cells ph a r next es)

-- these exchanges are those of these events
abbrev pub RepliesFit : List CellDefinition → Phase → List Exchange → List SeenEvent → Type 0
RepliesFit cells ph [] es = es ≡ []
RepliesFit cells ph (x ∷ xs) es = ReplyFits cells ph x.ask x.reply (λ ph1 es1. RepliesFit cells ph1 xs es1) es

-- ---- ends

-- the book that answers an ask: an atom's own for what names an atom, else the store's
abbrev pub book_asked : List CellDefinition → Ask → ℕ
book_asked cells (ask.Peek c) = home cells c
book_asked cells (ask.OpenAt c) = home cells c
book_asked cells (ask.CloseAt c p v) = home cells c
book_asked cells (ask.Broke c p) = home cells c
book_asked cells _ = 0

-- whether a part continues, or needs an event, turns, or another try
pub data Halt (S : Type 0) : Type 0 where
  Going : Halt S
  Stopped Short Rerun : (s : S) → Halt S

-- whether a part of a tree lacks something, by how it ended
abbrev pub halted : {S A : Type 0} → Completion S A → Halt S
halted (Completes a s) = Going
halted (Recurs vs s) = Going
halted (Faults f s) = Going
halted (Retries s) = Rerun s
halted (Waits s) = Stopped s
halted (OutOfTurns s) = Short s
halted Invalid = Going

-- the thread needs an event, printed this and has eaten all
abbrev pub HasWaited : List ℕ → Halt ThreadState → Type 0
HasWaited out Going = ⊥
HasWaited out (Stopped t) = (t.todo ≡ []) × (t.printed ≡ out)
HasWaited out (Short t) = ⊥
HasWaited out (Rerun t) = ⊥

-- the thread needs an event of this book, printed this and has eaten all
abbrev pub HasWaitedFor : ℕ → List ℕ → Halt ThreadState → Type 0
HasWaitedFor book out Going = ⊥
HasWaitedFor book out (Stopped t) = (t.asks ≡ Some book) × (t.todo ≡ []) × (t.printed ≡ out)
HasWaitedFor book out (Short t) = ⊥
HasWaitedFor book out (Rerun t) = ⊥

-- the thread needs an event of the book that answers what is asked
abbrev pub HasAsked : List CellDefinition → Option Ask → List ℕ → Halt ThreadState → Type 0
HasAsked cells None out h = ⊥
HasAsked cells (Some q) out h = HasWaitedFor (book_asked cells q) out h

-- the thread needs an event or turns, printed this and has eaten all
abbrev pub HasEaten : List ℕ → Halt ThreadState → Type 0
HasEaten out Going = ⊥
HasEaten out (Stopped t) = (t.todo ≡ []) × (t.printed ≡ out)
HasEaten out (Short t) = (t.todo ≡ []) × (t.printed ≡ out)
HasEaten out (Rerun t) = ⊥

-- these exchanges are those of these events, in some phase
abbrev pub FitInSome : List CellDefinition → List Exchange → List SeenEvent → Type 0
FitInSome cells xs es = (ph : Phase) × RepliesFit cells ph xs es

-- The tree's end on replies and the thread's on events: the same value or fault, with the same bytes printed, and what is left fits,
-- after a value outside every transaction, after a fault where it came; where the tree waits and all replies are consumed, the thread
-- needs an event of the book that answers what is asked and has eaten all, and where it needs turns, the thread needs turns or an event and
-- has eaten all.
abbrev pub Agrees : List CellDefinition → Completion ActorState Value → Completion ThreadState Value → Type 0
Agrees cells (Completes v s) r = (t : ThreadState) × (r ≡ Completes v t) × (t.printed ≡ s.printed) × RepliesFit cells Out s.todo t.todo
Agrees cells (Recurs vs s) r = Unit {0}
Agrees cells (Faults f s) r = (t : ThreadState) × (r ≡ Faults f t) × (t.printed ≡ s.printed) × FitInSome cells s.todo t.todo
Agrees cells (Retries s) r = Unit {0}
Agrees cells (Waits s) r = s.todo ≡ [] → HasAsked cells s.wants s.printed (halted r)
Agrees cells (OutOfTurns s) r = s.todo ≡ [] → HasEaten s.printed (halted r)
Agrees cells Invalid r = Unit {0}

-- a sound thread's tree on replies that fit is the thread on their events
abbrev pub TreeFollows : Type 0
TreeFollows = (p : ThreadSource) (n : ℕ) (todo : List Exchange) (es : List SeenEvent) → SoundSource p → RepliesFit p.cells Out todo es → Agrees p.cells (source p n todo) (thread_meaning p n es)

-- the thread printed this and has eaten all, whatever its answer
abbrev pub HasEatenAll : List ℕ → Completion ThreadState Value → Type 0
HasEatenAll out (Completes v t) = (t.todo ≡ []) × (t.printed ≡ out)
HasEatenAll out (Recurs vs t) = ⊥
HasEatenAll out (Faults f t) = (t.todo ≡ []) × (t.printed ≡ out)
HasEatenAll out (Retries t) = ⊥
HasEatenAll out (Waits t) = (t.todo ≡ []) × (t.printed ≡ out)
HasEatenAll out (OutOfTurns t) = (t.todo ≡ []) × (t.printed ≡ out)
HasEatenAll out Invalid = ⊥

-- what the thread makes of the events, where the machine is so far and has consumed all exchanges
abbrev pub Explained : Outcome → Completion ThreadState Value → Type 0
Explained (Ended s) r = (v : Value) × (t : ThreadState) × (r ≡ Completes v t) × (t.todo ≡ []) × (t.printed ≡ s.printed)
Explained (Failed f s) r = (t : ThreadState) × (r ≡ Faults f t) × (t.todo ≡ []) × (t.printed ≡ s.printed)
Explained (Asking s) r = HasWaited s.printed (halted r)
Explained (Unfinished s) r = (rest : List ℕ) × HasEatenAll (s.printed ++ rest) r
Explained Stuck r = ⊥

-- the machine has consumed all exchanges
abbrev pub Consumed : Outcome → Type 0
Consumed (Ended s) = s.todo ≡ []
Consumed (Failed f s) = s.todo ≡ []
Consumed (Asking s) = s.todo ≡ []
Consumed (Unfinished s) = s.todo ≡ []
Consumed Stuck = Unit {0}
