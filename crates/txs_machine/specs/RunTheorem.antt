-- The main theorem: what a report says that the actors did, and what it is that a program's source explains the report.
use Rattle.std.specs.Prelude.{◌≡◌, ◌+◌, ℕ, List, [], ◌∷◌, ◌++◌, length, Option, Some, None}
use Rattle.std.proofs.Common.{◌⊎◌}
use Rattle.txs_world_protocol.specs.SeenEvent.{SeenEvent}
use Rattle.txs_world_protocol.specs.declared.event.Event.{Event}
use Rattle.txs_world_protocol.specs.declared.event.Outcome.{Outcome}
use Rattle.txs_world_protocol.specs.declared.event.Outcome.TheVariants as outcome
use Rattle.txs_world_protocol.specs.declared.event.Place.{Place}
use Rattle.txs_value_data.specs.Places.{nth}
use Rattle.txs_value_data.specs.declared.value.CellId.{CellId}
use Rattle.txs_value_data.specs.declared.value.Value.{Value}
use Rattle.txs_frame.specs.Frame.{empty_frame}
use Rattle.txs_tree_meaning.specs.Meaning.{Completion}
use Rattle.txs_tree_meaning.specs.Thread.{ThreadState, thread_meaning}
use Rattle.txs_tree_meaning.specs.Tree.{PlainThread, PlainProgram}
use Rattle.txs_code_meaning.specs.PlainCode.{PlainCode}
use Rattle.txs_theorem_threads.specs.FollowsAll.{source_of}
use Rattle.txs_theorem_threads.specs.Noted.{txs_of}
use Rattle.txs_theorem_threads.specs.RepliesFit.{Explained, halted, HasWaited}
use Rattle.txs_machine_actor.specs.PlainActor.{PlainActor, unanswered, stating, standing, stopped_at}
use Rattle.txs_value_cell.specs.Agents.{agents_from}
use Rattle.txs_theorem_runs.specs.Agents.{ActionDid, ActsUpTo, ActsInTurn, AllSound}
use Rattle.txs_theorem_runs.specs.Explains.{BooksStand, CommitsUndisturbed}
use Rattle.txs_theorem_runs.specs.Full.{WaitsFull, EndsFull}
use Rattle.txs_theorem_runs.specs.Refused.{RefusalsUndisturbed}
use Rattle.txs_theorem_runs.specs.Shared.{Shared}
use Rattle.txs_theorem_runs.specs.Told.{TraceHolds, trace_of, seen_of}
use Rattle.txs_theorem_runs.specs.Transactions.{SaidOf, undisturbed}
use Rattle.txs_machine.specs.RunOver.{RunOver, IsLimited, places_of}
use Rattle.txs_world_protocol.specs.declared.report.ActorReport.{ActorReport}

-- ---- what the actors did

-- An entry of a report says what the actor of the k-th thread did over the books.
pub record HasDone (code : PlainCode) (k limit : ℕ) (books : ℕ → List Event) (ran : ActorReport) : Type 0 where
  -- the actor behind the run
  pub actor : PlainActor
  -- it is where the machine's meaning comes to on what the books answered it
  pub over : RunOver code k books actor
  -- no request of it is unanswered
  pub waits : unanswered actor ≡ None
  -- it made no more steps than its limit, and all of them where they were spent
  pub limited : IsLimited limit actor
  -- it ended as the entry says, if it has
  pub ended : actor.outcome ≡ ran.outcome
  -- the entry has the bytes that it printed
  pub printed : actor.printed ≡ ran.printed.items
  -- the entry has the number of its steps
  pub counted : actor.steps ≡ ran.steps
  -- the entry has the place in the script where it was stopped, if it was
  pub placed : stopped_at code actor ≡ ran.place
  -- the trace has the places of its events in the order in which it added them, whatever book each is in
  pub traced : places_of ran.trace.items ≡ trace_of code.cells books k over.entries
  -- what a commit's transaction set or ensured wasn't written between read point and commit
  pub undisturbed : CommitsUndisturbed books over.entries
  -- nor was it where a commit was refused; the agent that it was refused for is that of its first held send whose agent had failed
  pub refused : RefusalsUndisturbed code.cells books over.entries

-- ---- what the source says of a thread

-- the source's meaning on the events of a trace, in its order, each with its worlds in its book, where each loop makes at most n turns
abbrev pub meant_by : PlainProgram → PlainThread → (ℕ → List Event) → List Place → ℕ → Completion ThreadState Value
meant_by p t books trace n = thread_meaning (source_of p t) n (seen_of p.cells books (places_of trace))

-- A source's meaning explains a thread that has printed these bytes, and ended so if it has: one that was stopped, or hasn't ended, has printed a
-- part of what the source means.
abbrev pub ExplainsSo : Option Outcome → List ℕ → Completion ThreadState Value → Type 0
ExplainsSo o out r = Explained (standing o (stating out 0 0 empty_frame None None None) (stating out 0 0 empty_frame None None None)) r

-- What the source means on all that a thread did but the last, up to where it needs that one, for some bound on its loops, the thread has
-- printed, and maybe more. Of one that did nothing this says nothing.
abbrev pub HasPrintedLeast : PlainProgram → PlainThread → List SeenEvent → List ℕ → Type 0
HasPrintedLeast p t did out =
    (did ≡ []) ⊎ ((hs : List SeenEvent) × (e : SeenEvent) × (did ≡ hs ++ e ∷ []) × (n : ℕ) × (least : List ℕ) × HasWaited least (halted (thread_meaning (source_of p t) n hs)) × (rest : List ℕ) × (out ≡ least ++ rest))

-- A program's thread explains an entry of a report.
pub record ExplainsThread (p : PlainProgram) (k : ℕ) (t : PlainThread) (books : ℕ → List Event) (ran : ActorReport) : Type 0 where
  -- the trace names of each book the thread's events, each once and in order, and no others
  pub traced : TraceHolds books k (places_of ran.trace.items)
  -- a bound on the rounds of each loop
  pub turns : ℕ
  -- the source's meaning on just these events, with this bound, is what the thread printed and how it ended
  pub means : ExplainsSo ran.outcome ran.printed.items (meant_by p t books ran.trace.items turns)
  -- The transactions of that meaning, one for each commit and each refusal of the trace, were undisturbed. No ref that one set or ensured was written
  -- between its read point and its end, and the agent that one was refused for is that of its first held send whose agent had failed.
  pub calm : SaidOf (undisturbed p.cells books) books (places_of ran.trace.items) (txs_of (meant_by p t books ran.trace.items turns))
  -- what the source means on all of these events but the last was printed
  pub least : HasPrintedLeast p t (seen_of p.cells books (places_of ran.trace.items)) ran.printed.items
  -- where the thread was stopped for a full book, the source needs an event of a full book, for some bound on its loops, and has printed just what was printed
  pub full : ran.outcome ≡ Some outcome.JournalFull → (n : ℕ) × WaitsFull books ran.printed.items (meant_by p t books ran.trace.items n)

-- A program explains a run.
pub record Explains (p : PlainProgram) (sh : Shared) (rans : List ActorReport) : Type 0 where
  -- there is one entry for each of its threads
  pub one_each : length rans ≡ length p.threads
  -- the books are legal, the store's and each atom's, and no ref that a commit wrote was written between its view and its place
  pub books : BooksStand p.cells (length p.threads) sh
  -- each thread explains its entry
  pub each : (k : ℕ) (t : PlainThread) (ran : ActorReport) → nth p.threads k ≡ Some t → nth rans k ≡ Some ran → ExplainsThread p k t sh.books ran

-- ---- what the source says of agents

-- an agent's actor hasn't ended, or was stopped: it never is done, and never fails
abbrev pub NeverEnds : Option Outcome → Type 0
NeverEnds None = Unit {0}
NeverEnds (Some outcome.Done) = ⊥
NeverEnds (Some (outcome.Failed f)) = ⊥
NeverEnds (Some outcome.StepsSpent) = Unit {0}
NeverEnds (Some outcome.JournalFull) = Unit {0}
NeverEnds (Some outcome.Memory) = Unit {0}

-- A program explains the entry of an agent.
pub record ExplainsAgent (p : PlainProgram) (k : ℕ) (g : CellId) (books : ℕ → List Event) (ran : ActorReport) : Type 0 where
  -- its trace names the agent's events and no others
  pub traced : TraceHolds books k (places_of ran.trace.items)
  -- it never ended
  pub unended : NeverEnds ran.outcome
  -- what it did and printed is what its actions mean, one after another: each act what the first action of its mail means on the agent's state, over all that it
  -- did since the act before; and what it did and printed after the last act what the action means that is first then
  pub did : List ActionDid
  pub acts : ActsInTurn p.cells p.functions books g (places_of ran.trace.items) [] ran.printed.items did
  -- Where it was stopped for a full book, that last action needs an event of a full book, or is over and is to be handed in to the store's book, which is full;
  -- and it has printed just what was printed.
  pub full : ran.outcome ≡ Some outcome.JournalFull → ActsUpTo p.cells p.functions books g (EndsFull p.cells p.functions books g) (places_of ran.trace.items) [] ran.printed.items did

-- A program explains a run with its agents.
pub record ExplainsAll (p : PlainProgram) (sh : Shared) (threads agents : List ActorReport) : Type 0 where
  -- it explains its threads
  pub by_threads : Explains p sh threads
  -- there is one entry for each agent
  pub one_each : length agents ≡ length (agents_from 0 p.cells)
  -- a program may send what was sent
  pub sends : AllSound p.functions (sh.books 0)
  -- the entry of each agent is explained
  pub each : (i : ℕ) (g : CellId) (ran : ActorReport) → nth (agents_from 0 p.cells) i ≡ Some g → nth agents i ≡ Some ran → ExplainsAgent p (length p.threads + i) g sh.books ran
