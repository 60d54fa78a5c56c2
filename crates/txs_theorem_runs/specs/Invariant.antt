-- What holds of the actors and of what they share between the plays of a run.
use Rattle.std.specs.Prelude.{◌≡◌, ℕ, Bool, true, List, map}
use Rattle.txs_world_protocol.specs.declared.event.Event.{Event}
use Rattle.txs_value_cell.specs.declared.cell.CellDefinition.{CellDefinition}
use Rattle.txs_code_meaning.specs.Machine.{ThreadCode, run}
use Rattle.txs_code_meaning.specs.Opening.{opening}
use Rattle.txs_world_book.specs.Atom.{LegalAtom}
use Rattle.txs_world.specs.Laws.{StoreStands}
use Rattle.txs_world_protocol.specs.SeenEvent.{home}
use Rattle.txs_value_data.specs.declared.value.CellId.{CellId}
use Rattle.txs_theorem_runs.specs.Shared.{Shared, store_of, has_atom}
use Rattle.txs_theorem_runs.specs.Stages.{Stage}
use Rattle.txs_theorem_runs.specs.Told.{exchange_of, ToldBy}
use Rattle.txs_theorem_runs.specs.Staged.{StagedActor, IsStaged}
use Rattle.txs_theorem_runs.specs.Explains.{AreActors, RunHolds}
use Rattle.txs_theorem_runs.specs.Run.{Actor, State, Play, opens, play}
use Rattle.txs_world_book.specs.Book.{actors}
use Rattle.txs_world_book.specs.Served.{cells_of}

-- An actor is where its code comes to on what it was answered, which is what the books say, and it has consumed it; the truth value says whether it is an agent's.
pub record ActorInvariant (cells : List CellDefinition) (threads : ℕ) (agent : Bool) (code : ThreadCode) (books : ℕ → List Event) (a : ℕ) (x : Actor) : Type 0 where
  pub stage : Stage
  pub ran : run code x.turns (opening code (map exchange_of x.entries)) ≡ x.at
  pub told : ToldBy cells threads books agent a x.entries stage
  pub staged : IsStaged agent stage x.at

-- what is shared is legal: the store's book is legal and its commits undisturbed, actions that are taken wait, and the atoms' books are legal, with
-- events of threads and agents alone
pub record SharedStands (cells : List CellDefinition) (threads : ℕ) (sh : Shared) : Type 0 where
  pub store : StoreStands (store_of cells threads sh)
  pub atoms : (c : CellId) → has_atom cells c ≡ true → LegalAtom c (sh.books (home cells c))
  pub by_threads : (c : CellId) → has_atom cells c ≡ true → AreActors (actors threads (cells_of cells)) (sh.books (home cells c))

-- what holds between plays
pub record RunInvariant (cells : List CellDefinition) (threads : ℕ) (codes : ℕ → ThreadCode) (st : State) : Type 0 where
  pub shared : SharedStands cells threads st.shared
  pub actors : (agent : Bool) (a : ℕ) → StagedActor agent (codes a) → ActorInvariant cells threads agent (codes a) st.shared.books a (st.actors a)

-- it holds before the first play
abbrev pub OpeningHolds : Type 0
OpeningHolds = (cells : List CellDefinition) (threads : ℕ) (codes : ℕ → ThreadCode) → RunInvariant cells threads codes (opens cells codes)

-- each play keeps it
abbrev pub PlayHolds : Type 0
PlayHolds = (cells : List CellDefinition) (threads : ℕ) (codes : ℕ → ThreadCode) (y : Play) (st : State) → RunInvariant cells threads codes st → RunInvariant cells threads codes (play cells threads codes y st)

-- where it holds, the run so far is explained
abbrev pub InvariantExplains : Type 0
InvariantExplains = (cells : List CellDefinition) (threads : ℕ) (codes : ℕ → ThreadCode) (st : State) → RunInvariant cells threads codes st → RunHolds cells threads codes st
