-- What is known of the store, the atoms and the actors of a run, where all of them are back.
use Rattle.std.specs.Prelude.{◌≡◌, ◌<◌, ◌+◌, ◌^◌, ℕ, Bool, false, List, length, map, Option, Some, None}
use mathlib.Core.List.{IsPrefix}
use Rattle.txs_world_protocol.specs.SeenEvent.{home}
use Rattle.txs_value_data.specs.Places.{nth}
use Rattle.txs_value_cell.specs.declared.cell.CellDefinition.{CellDefinition}
use Rattle.txs_world_book.specs.Atom.{PlainAtom}
use Rattle.txs_code_meaning.specs.PlainCode.{PlainCode}
use Rattle.txs_history.specs.History.{events_of, IsWithin}
use Rattle.txs_theorem_runs.specs.Shared.{store_of, atom_of}
use Rattle.txs_history.specs.Asked.{History, shared_by, sum_to}
use Rattle.txs_history.specs.Logged.{PlainLoggedStore, PlainLoggedAtom, locks_of}
use Rattle.txs_history_run.specs.Actor.{PlainLogged}
use Rattle.txs_history_run.specs.declared.step.Step.TheVariants as step
use Rattle.txs_world_shared.specs.Apart.{ArePartsOf}
use Rattle.txs_machine.specs.Agents.{actors_of}
use Rattle.txs_machine.specs.Playing.{AreReported}
use Rattle.txs_machine.specs.Running.{attendants}
use Rattle.txs_machine.specs.declared.player.Player.{Player}
use Rattle.txs_machine.specs.declared.player.Players.{Players}
use Rattle.txs_machine.specs.declared.schedule.Entries.{Entries}
use Rattle.txs_history_run.specs.Settled.{ArePlayersOf, IsSettled, asks_by}

-- an actor alone, and an atom alone
abbrev pub player_of : PlainLogged → Player
player_of p = p.player

abbrev pub book_of : PlainLoggedAtom → PlainAtom
book_of a = a.atom

-- the history goes on from all that the first so many atoms, or actors, have seen
abbrev pub AtomsSeen : ℕ → List PlainLoggedAtom → History → Type 0
AtomsSeen n atoms h = (k : ℕ) (a : PlainLoggedAtom) → k < n → nth atoms k ≡ Some a → IsPrefix a.log.log h

abbrev pub ActorsSeen : ℕ → List PlainLogged → History → Type 0
ActorsSeen n actors h = (k : ℕ) (p : PlainLogged) → k < n → nth actors k ≡ Some p → IsPrefix p.past h

-- how many asks a history has of an atom
abbrev pub asked_of : List CellDefinition → History → Option PlainLoggedAtom → ℕ
asked_of cells h None = 0
asked_of cells h (Some a) = length (events_of (home cells a.atom.cell) h)

-- of the atom at a place
abbrev pub asked_at : List CellDefinition → History → List PlainLoggedAtom → ℕ → ℕ
asked_at cells h atoms k = asked_of cells h (nth atoms k)

-- an atom is the one that a history leaves
abbrev pub IsLeftBy : List CellDefinition → History → PlainLoggedAtom → Type 0
IsLeftBy cells h a = a.atom ≡ atom_of cells a.atom.cell ((shared_by cells h).books (home cells a.atom.cell))

-- The first so many atoms are those that a history leaves, and it has so many asks of them.
pub record AtomsLeft (cells : List CellDefinition) (h : History) (n : ℕ) (atoms : List PlainLoggedAtom) (count : ℕ) : Type 0 where
  pub each : (k : ℕ) (a : PlainLoggedAtom) → k < n → nth atoms k ≡ Some a → IsLeftBy cells h a
  pub counted : count ≡ sum_to n (asked_at cells h atoms)

-- The first so many actors have the numbers of their places, ask nothing, and follow what each has seen. They made so many asks.
pub record ActorsFollow (code : PlainCode) (limit n : ℕ) (actors : List PlainLogged) (count : ℕ) : Type 0 where
  pub each : (k : ℕ) (p : PlainLogged) → k < n → nth actors k ≡ Some p → IsSettled code limit k p.past p
  pub counted : count ≡ sum_to n (asks_by actors)

-- Store and atoms are those that a history leaves. The actors follow it, each at the place of its number. They made as many asks as it has of store and atoms.
pub record AreBack (code : PlainCode) (limit : ℕ) (h : History) (store : PlainLoggedStore) (atoms : List PlainLoggedAtom) (actors : List PlainLogged) : Type 0 where
  pub within : IsWithin (locks_of code.cells) h
  pub store_is : store.store ≡ store_of code.cells (length code.threads) (shared_by code.cells h)
  pub atoms_are : (k : ℕ) (a : PlainLoggedAtom) → nth atoms k ≡ Some a → IsLeftBy code.cells h a
  pub each : (k : ℕ) (p : PlainLogged) → nth actors k ≡ Some p → IsSettled code limit k h p
  pub all : length (events_of 0 h) + sum_to (length atoms) (asked_at code.cells h atoms) ≡ sum_to (length actors) (asks_by actors)

-- ---- where nothing is missing

-- nothing under a lock is broken or lacks an ask of the history
pub record IsWhole (k : ℕ) (h own : History) (broken : Bool) : Type 0 where
  pub works : broken ≡ false
  pub same : events_of k h ≡ events_of k own

-- no atom is broken or lacks an ask, and there are fewer than 2^64 asks of them
pub record AreWhole (cells : List CellDefinition) (h : History) (atoms : List PlainLoggedAtom) : Type 0 where
  pub each : (k : ℕ) (a : PlainLoggedAtom) → nth atoms k ≡ Some a → IsWhole (home cells a.atom.cell) h a.log.log a.broken
  pub few : sum_to (length atoms) (asked_at cells h atoms) < 2 ^ 64

-- an actor asks nothing, and isn't broken, and has the number of its place
pub record IsPlaced (k : ℕ) (p : PlainLogged) : Type 0 where
  pub number : p.player.actor.number ≡ k
  pub runs : p.step ≡ step.Runs

-- so each of them does, and they made fewer than 2^64 asks
pub record ArePlaced (actors : List PlainLogged) : Type 0 where
  pub each : (k : ℕ) (p : PlainLogged) → nth actors k ≡ Some p → IsPlaced k p
  pub few : sum_to (length actors) (asks_by actors) < 2 ^ 64

-- Store and atoms have the asks of the history, the actors ask nothing, and made as many.
pub record Agree (cells : List CellDefinition) (h : History) (store : PlainLoggedStore) (atoms : List PlainLoggedAtom) (actors : List PlainLogged) : Type 0 where
  pub store_is : IsWhole 0 h store.log.log store.broken
  pub atoms_are : AreWhole cells h atoms
  pub placed : ArePlaced actors
  pub few : length (events_of 0 h) + sum_to (length atoms) (asked_at cells h atoms) < 2 ^ 64
  pub all : length (events_of 0 h) + sum_to (length atoms) (asked_at cells h atoms) ≡ sum_to (length actors) (asks_by actors)

-- Nothing is missing: there is an actor for each thread and each agent; store and atoms are the parts of the code's state; and all of them agree.
pub record IsAllBack (code : PlainCode) (h : History) (store : PlainLoggedStore) (atoms : List PlainLoggedAtom) (actors : List PlainLogged) : Type 0 where
  pub one_each : length actors ≡ actors_of code
  pub parts : ArePartsOf code.cells store.store (map book_of atoms)
  pub agree : Agree code.cells h store atoms actors

-- a report of these actors
pub record IsReportOf (code : PlainCode) (actors : List PlainLogged) (report : Entries) : Type 0 where
  pub all : Players
  pub players : ArePlayersOf code actors all
  pub threads : AreReported code all.threads.items report.threads.items
  pub agents : AreReported code (attendants all.agents.items) report.agents.items
