-- What it is that the threads' sources explain a run over the shared state.
use Rattle.std.specs.Prelude.{◌≡◌, ◌<◌, ℕ, true, List, [], ◌∷◌, length, map, take, Option, Some, None}
use Rattle.txs_world_protocol.specs.declared.ask.Ask.TheVariants as ask
use Rattle.txs_world_protocol.specs.declared.ask.Ask.{Ask}
use Rattle.txs_world_protocol.specs.declared.ask.Reply.{Reply}
use Rattle.txs_world_protocol.specs.declared.ask.Reply.TheVariants as reply
use Rattle.txs_world_protocol.specs.declared.event.Event.{Event}
use Rattle.txs_value_data.specs.Places.{nth}
use Rattle.txs_value_cell.specs.declared.cell.CellDefinition.{CellDefinition}
use Rattle.txs_value_data.specs.declared.value.CellId.{CellId}
use Rattle.txs_world_protocol.specs.SeenEvent.{home}
use Rattle.txs_tree_meaning.specs.Thread.{thread_meaning}
use Rattle.txs_tree_meaning.specs.Tree.{PlainThread, PlainProgram, ThreadSource}
use Rattle.txs_code_meaning.specs.Machine.{Halt, ThreadCode, Configuration, Turned, Ended, Failed, Asking, Unfinished, Stuck, Outcome, run}
use Rattle.txs_code_meaning.specs.Opening.{opening}
use Rattle.txs_theorem_threads.specs.Follows.{Follows}
use Rattle.txs_theorem_threads.specs.FollowsAll.{source_of, FollowsAll}
use Rattle.txs_theorem_threads.specs.Noted.{AreNoted, txs_of}
use Rattle.txs_theorem_threads.specs.RepliesFit.{Out, RepliesFit, Explained}
use Rattle.txs_world_book.specs.Atom.{LegalAtom}
use Rattle.txs_world_book.specs.Book.{Each, Legal, Undisturbed, Untouched, cells_in, actors}
use Rattle.txs_world_book.specs.Served.{cells_of}
use Rattle.txs_theorem_runs.specs.Shared.{Shared, has_atom}
use Rattle.txs_theorem_runs.specs.Told.{Entry, exchange_of, trace_of, TraceHolds, history_of}
use Rattle.txs_theorem_runs.specs.Staged.{StagedCode}
use Rattle.txs_theorem_runs.specs.Run.{Actor, State, Play, plays}

-- where an actor is, without its configuration
abbrev pub outcome_at : Turned Configuration → Outcome
outcome_at (Ended s) = Ended s
outcome_at (Failed f s) = Failed f s
outcome_at (Asking s) = Asking s
outcome_at (Unfinished c) = Unfinished c.state
outcome_at Stuck = Stuck

-- of a commit that is done: what its transaction set or ensured wasn't written since the read point, nor what it commuted since the view
abbrev pub CommitUndisturbed : List Event → Ask → Reply → Type 0
CommitUndisturbed book (ask.Commit at sets ensured view commuted sends) reply.Done = Untouched book at (cells_in sets) × Untouched book at ensured × Untouched book view (cells_in commuted)
CommitUndisturbed book _ _ = Unit {0}

-- of each entry, on the events before it
abbrev pub CommitsUndisturbed : (ℕ → List Event) → List Entry → Type 0
CommitsUndisturbed books [] = Unit {0}
CommitsUndisturbed books (e ∷ es) = CommitUndisturbed (take e.at (books 0)) e.ask e.reply × CommitsUndisturbed books es

-- An actor is explained by the books: it is where its code comes to on what it was answered, this is what it did, its trace names its own events and
-- no others, its commits were undisturbed, and each source that the code follows means just these events, with what was printed and how the actor ended;
-- its transactions are those of the actor's commits.
pub record ActorExplained (cells : List CellDefinition) (code : ThreadCode) (books : ℕ → List Event) (a : ℕ) (x : Actor) : Type 0 where
  pub ran : run code x.turns (opening code (map exchange_of x.entries)) ≡ x.at
  pub fits : RepliesFit cells Out (map exchange_of x.entries) (history_of cells books a x.entries)
  pub traced : TraceHolds books a (trace_of cells books a x.entries)
  pub undisturbed : CommitsUndisturbed books x.entries
  pub means : (p : ThreadSource) → p.cells ≡ cells → Follows code p → Explained (outcome_at x.at) (thread_meaning p x.turns (history_of cells books a x.entries))
  pub noted : (p : ThreadSource) → p.cells ≡ cells → Follows code p → AreNoted None (map exchange_of x.entries) (txs_of (thread_meaning p x.turns (history_of cells books a x.entries)))

-- a book whose events are those of actors, of which there are so many
abbrev pub AreActors : ℕ → List Event → Type 0
AreActors n book = Each (λ done e. e.actor < n) [] book

-- the books of a run are legal, no ref that a commit wrote was written between its view and its place, and what is done with atoms is done by threads and agents
pub record BooksStand (cells : List CellDefinition) (threads : ℕ) (sh : Shared) : Type 0 where
  pub legal : Legal (cells_of cells) threads (sh.books 0)
  pub undisturbed : Undisturbed (sh.books 0)
  pub atoms : (c : CellId) → has_atom cells c ≡ true → LegalAtom c (sh.books (home cells c))
  pub by_threads : (c : CellId) → has_atom cells c ≡ true → AreActors (actors threads (cells_of cells)) (sh.books (home cells c))

-- A run holds: its books are legal, and each actor whose code asks in its stages is explained.
pub record RunHolds (cells : List CellDefinition) (threads : ℕ) (codes : ℕ → ThreadCode) (st : State) : Type 0 where
  pub books : BooksStand cells threads st.shared
  pub actors : (a : ℕ) → StagedCode (codes a) → ActorExplained cells (codes a) st.shared.books a (st.actors a)

-- every list of plays is explained
abbrev pub RunExplained : Type 0
RunExplained = (cells : List CellDefinition) (threads : ℕ) (codes : ℕ → ThreadCode) (ys : List Play) → RunHolds cells threads codes (plays cells threads codes ys)

-- an actor that no thread has runs nothing
abbrev pub code_or_none : Option ThreadCode → ThreadCode
code_or_none None = record { functions = []; validators = []; main = record { locals = 0; instrs = Halt ∷ [] } }
code_or_none (Some c) = c

-- the code of each actor: that of the thread with its number
abbrev pub code_of : List ThreadCode → ℕ → ThreadCode
code_of codes i = code_or_none (nth codes i)

-- A program explains a run: the books are legal, and each thread means just what its actor did in them, with what was printed and how the actor
-- ended; its transactions are those of the actor's commits, its trace names its own events and no others, and its commits were undisturbed.
pub record ProgramExplains (p : PlainProgram) (st : State) : Type 0 where
  pub books : BooksStand p.cells (length p.threads) st.shared
  pub threads : (i : ℕ) (t : PlainThread) → nth p.threads i ≡ Some t
      → Explained (outcome_at (st.actors i).at) (thread_meaning (source_of p t) (st.actors i).turns (history_of p.cells st.shared.books i (st.actors i).entries))
  pub noted : (i : ℕ) (t : PlainThread) → nth p.threads i ≡ Some t
      → AreNoted None (map exchange_of (st.actors i).entries) (txs_of (thread_meaning (source_of p t) (st.actors i).turns (history_of p.cells st.shared.books i (st.actors i).entries)))
  pub traced : (i : ℕ) (t : PlainThread) → nth p.threads i ≡ Some t → TraceHolds st.shared.books i (trace_of p.cells st.shared.books i (st.actors i).entries)
  pub undisturbed : (i : ℕ) (t : PlainThread) → nth p.threads i ≡ Some t → CommitsUndisturbed st.shared.books (st.actors i).entries

-- each program that the code follows explains every run of the code
abbrev pub ProgramExplained : Type 0
ProgramExplained =
    (codes : List ThreadCode) (p : PlainProgram) (ys : List Play) → FollowsAll codes p → ((i : ℕ) → StagedCode (code_of codes i)) → ProgramExplains p (plays p.cells (length p.threads) (code_of codes) ys)
