-- What it is that a program explains a report.
use Rattle.std.specs.Prelude.{◌≡◌, ℕ, true, false, List, [], ◌++◌, length, Option, Some, None}
use Rattle.txs_value_data.specs.Places.{nth}
use Rattle.txs_value_cell.specs.Agents.{agents_from}
use Rattle.txs_value_cell.specs.Forms.{same_kind}
use Rattle.txs_value_cell.specs.declared.cell.CellDefinition.{CellDefinition}
use Rattle.txs_value_data.specs.declared.value.CellId.{CellId}
use Rattle.txs_value_data.specs.declared.value.CellKind.TheVariants.{Atom}
use Rattle.txs_value_data.specs.declared.value.Value.{Value}
use Rattle.txs_world_protocol.specs.SeenEvent.{SeenEvent, home}
use Rattle.txs_world_protocol.specs.declared.event.Outcome.{Outcome}
use Rattle.txs_world_protocol.specs.declared.event.Outcome.TheVariants.{Done, Failed, StepsSpent, JournalFull, Memory}
use Rattle.txs_world_book.specs.Atom.{LegalAtom, atom_after}
use Rattle.txs_world_book.specs.Book.{Legal, actors, newest, opening, mail_after}
use Rattle.txs_world_book.specs.Served.{cells_of}
use Rattle.txs_world.specs.Store.{next_action}
use Rattle.txs_tree_meaning.specs.Meaning.{Completion, Completes, Faults}
use Rattle.txs_tree_meaning.specs.Thread.{ThreadState, thread_meaning}
use Rattle.txs_tree_meaning.specs.Tree.{PlainProgram, PlainThread}
use Rattle.txs_theorem_threads.specs.FollowsAll.{source_of}
use Rattle.txs_theorem_threads.specs.Noted.{txs_of}
use Rattle.txs_theorem_threads.specs.RepliesFit.{HasEatenAll}
use Rattle.txs_theorem_runs.specs.Agents.{ActionDid, ActsUpTo, ActsInTurn}
use Rattle.txs_theorem_runs.specs.Explains.{AreActors}
use Rattle.txs_theorem_runs.specs.Full.{WaitsFull, EndsFull}
use Rattle.txs_theorem_runs.specs.Shared.{has_atom}
use Rattle.txs_theorem_runs.specs.Told.{TraceHolds, seen_of}
use Rattle.txs_theorem_runs.specs.Transactions.{SaidOf, undisturbed}
use Rattle.txs_theorem_serial.specs.Order.{IsOrdered}
use Rattle.txs_theorem_audit.specs.Audited.{PlainActorReport, PlainReport, PlainTerms, books_of}
use Rattle.txs_theorem_audit.specs.Verdict.{atoms_from, least_printed, report_links}

-- there is one entry for each thread, agent, atom, cell and agent
pub record Sized (p : PlainProgram) (r : PlainReport) : Type 0 where
  pub threads : length r.threads ≡ length p.threads
  pub agents : length r.agents ≡ length (agents_from 0 p.cells)
  pub atoms : length r.atom_books ≡ length (atoms_from 0 p.cells)
  pub cells : length r.cells ≡ length p.cells
  pub failed : length r.failed ≡ length (agents_from 0 p.cells)

-- ---- threads

-- these begin with those
abbrev pub Begins : List ℕ → List ℕ → Type 0
Begins whole part = (rest : List ℕ) × (whole ≡ part ++ rest)

-- an actor was stopped, or hasn't ended
abbrev pub Stopped : Option Outcome → Type 0
Stopped None = Unit {0}
Stopped (Some Done) = ⊥
Stopped (Some (Failed f)) = ⊥
Stopped (Some StepsSpent) = Unit {0}
Stopped (Some JournalFull) = Unit {0}
Stopped (Some Memory) = Unit {0}

-- A thread that ended so, and printed this, did what its meaning says: the meaning eats all its events, ends so and prints this; of a
-- thread that was stopped it eats all events, and prints this and maybe more.
abbrev pub EndsAs : Option Outcome → List ℕ → Completion ThreadState Value → Type 0
EndsAs None out m = (rest : List ℕ) × HasEatenAll (out ++ rest) m
EndsAs (Some Done) out m = (v : Value) × (t : ThreadState) × (m ≡ Completes v t) × (t.todo ≡ []) × (t.printed ≡ out)
EndsAs (Some (Failed f)) out m = (t : ThreadState) × (m ≡ Faults f t) × (t.todo ≡ []) × (t.printed ≡ out)
EndsAs (Some StepsSpent) out m = (rest : List ℕ) × HasEatenAll (out ++ rest) m
EndsAs (Some JournalFull) out m = (rest : List ℕ) × HasEatenAll (out ++ rest) m
EndsAs (Some Memory) out m = (rest : List ℕ) × HasEatenAll (out ++ rest) m

-- the events that an entry's trace names, with their worlds
abbrev pub events_of : PlainProgram → PlainReport → PlainActorReport → List SeenEvent
events_of p r ran = seen_of p.cells (books_of r) ran.trace

-- what a thread means on the events of its entry, where each loop makes at most n turns
abbrev pub meaning_of : PlainProgram → PlainReport → PlainThread → PlainActorReport → ℕ → Completion ThreadState Value
meaning_of p r t ran n = thread_meaning (source_of p t) n (events_of p r ran)

-- The program explains a thread's entry, for some bound on loops: its meaning eats the entry's events and ended so; one that was stopped
-- has printed no less than the meaning on all events but the last; and its transactions, one for each commit and each refusal, were
-- undisturbed.
pub record ThreadExplained (p : PlainProgram) (r : PlainReport) (t : PlainThread) (ran : PlainActorReport) : Type 0 where
  pub turns : ℕ
  pub ends : EndsAs ran.outcome ran.printed (meaning_of p r t ran turns)
  pub least : Stopped ran.outcome → Begins ran.printed (least_printed (source_of p t) turns (events_of p r ran))
  pub calm : SaidOf (undisturbed p.cells (books_of r)) (books_of r) ran.trace (txs_of (meaning_of p r t ran turns))
  -- one that was stopped for a full book needs an event of a full book, for some bound on loops, and has printed just what it means up to there
  pub full : ran.outcome ≡ Some JournalFull → (n : ℕ) × WaitsFull (books_of r) ran.printed (meaning_of p r t ran n)

-- ---- atoms and agents

-- an atom's book is legal, what it says was done by threads and agents, and it leaves the atom's value
pub record AtomExplained (p : PlainProgram) (r : PlainReport) (c : CellId) : Type 0 where
  pub legal : LegalAtom c (books_of r (home p.cells c))
  pub by_actors : AreActors (actors (length p.threads) (cells_of p.cells)) (books_of r (home p.cells c))
  pub value : nth r.cells c.number ≡ Some (atom_after (opening (cells_of p.cells) c.number) (books_of r (home p.cells c)) (length (books_of r (home p.cells c))))

-- An agent's actor never ended; and what it did and printed is what its actions mean, one after another, and behind them what the action means that is
-- first after the whole book. Where it was stopped for a full book, that action needs an event of a full book, or is over and the store's book is full; and it
-- printed just what it means up to there.
pub record AgentExplained (p : PlainProgram) (r : PlainReport) (g : CellId) (ran : PlainActorReport) : Type 0 where
  pub unended : Stopped ran.outcome
  pub did : List ActionDid
  pub acts : ActsInTurn p.cells p.functions (books_of r) g ran.trace [] ran.printed did
  pub full : ran.outcome ≡ Some JournalFull → ActsUpTo p.cells p.functions (books_of r) g (EndsFull p.cells p.functions (books_of r) g) ran.trace [] ran.printed did

-- ---- ends

-- a stop for steps is true: the actor has made as many as it may
abbrev pub TrueStop : ℕ → Option Outcome → ℕ → Type 0
TrueStop limit None steps = Unit {0}
TrueStop limit (Some Done) steps = Unit {0}
TrueStop limit (Some (Failed f)) steps = Unit {0}
TrueStop limit (Some StepsSpent) steps = steps ≡ limit
TrueStop limit (Some JournalFull) steps = Unit {0}
TrueStop limit (Some Memory) steps = Unit {0}

-- Where the run was to go on up to its end each thread has ended, and each agent's actor has, too, or it has nothing to do. Stops for steps are true.
pub record EndsTruly (p : PlainProgram) (w : PlainTerms) (r : PlainReport) : Type 0 where
  pub threads : w.finishes ≡ true → (a : ℕ) (ran : PlainActorReport) → nth r.threads a ≡ Some ran → ran.outcome ≡ None → ⊥
  pub agents : w.finishes ≡ true → (i : ℕ) (g : CellId) (ran : PlainActorReport) → nth (agents_from 0 p.cells) i ≡ Some g → nth r.agents i ≡ Some ran → ran.outcome ≡ None
      → next_action (cells_of p.cells) r.book g ≡ None
  pub stops : (a : ℕ) (ran : PlainActorReport) → nth (r.threads ++ r.agents) a ≡ Some ran → TrueStop w.limit ran.outcome ran.steps

-- ---- all

-- A program explains the report of a run that was to do this: there is one entry for each; each trace names its actor's events, and no others; the books are legal; cells
-- and failed agents are those after them; all ended, or were stopped, truly; the events of all books have an order; and threads and agents did what they mean.
pub record IsExplained (p : PlainProgram) (w : PlainTerms) (r : PlainReport) : Type 0 where
  pub sized : Sized p r
  pub traced : (a : ℕ) (ran : PlainActorReport) → nth (r.threads ++ r.agents) a ≡ Some ran → TraceHolds (books_of r) a ran.trace
  pub legal : Legal (cells_of p.cells) (length p.threads) r.book
  pub values : (k : ℕ) (d : CellDefinition) → nth p.cells k ≡ Some d → same_kind d.kind Atom ≡ false → nth r.cells k ≡ Some (newest (opening (cells_of p.cells)) r.book k)
  pub failures : (i : ℕ) (g : CellId) → nth (agents_from 0 p.cells) i ≡ Some g → nth r.failed i ≡ Some (mail_after (cells_of p.cells) r.book g.number).fault
  pub atoms : (c : CellId) → has_atom p.cells c ≡ true → AtomExplained p r c
  pub ends : EndsTruly p w r
  pub ordered : IsOrdered (books_of r) (report_links p r)
  pub threads : (a : ℕ) (t : PlainThread) (ran : PlainActorReport) → nth p.threads a ≡ Some t → nth r.threads a ≡ Some ran → ThreadExplained p r t ran
  pub agents : (i : ℕ) (g : CellId) (ran : PlainActorReport) → nth (agents_from 0 p.cells) i ≡ Some g → nth r.agents i ≡ Some ran → AgentExplained p r g ran
