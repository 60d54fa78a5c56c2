-- When the run of a script's threads and agents has ended.
use Rattle.std.specs.Prelude.{◌≡◌, ◌<◌, ℕ, true, false, None}
use Rattle.txs_value_data.specs.declared.value.CellId.{CellId}
use Rattle.txs_world_book.specs.Book.{has_agent, actor_of}
use Rattle.txs_world_book.specs.Served.{cells_of}
use Rattle.txs_world.specs.Store.{next_action}
use Rattle.txs_theorem_runs.specs.Lawful.{CodeIsKnown, OpeningIsKnown, NamesOwn}
use Rattle.txs_theorem_runs.specs.Run.{State}
use Rattle.txs_theorem_runs.specs.Standing.{StandingActor}
use Rattle.txs_explore.specs.Runners.{Explored, goes_on}

-- What is wanted of a script's code. Its constants, and what its cells open with, name defined cells alone. Each agent's instructions are where they may be, and name this agent.
pub record IsScript (x : Explored) : Type 0 where
  pub opened : OpeningIsKnown x.cells
  pub known : (a : ℕ) → CodeIsKnown x.cells (x.codes a)
  pub names : (g : CellId) → has_agent (cells_of x.cells) g ≡ true → NamesOwn g (x.codes (actor_of x.threads (cells_of x.cells) g))
  pub stands : (g : CellId) → has_agent (cells_of x.cells) g ≡ true → StandingActor true (x.codes (actor_of x.threads (cells_of x.cells) g))

-- No thread goes on; and each agent whose actor goes on has failed or has an empty mailbox.
pub record HasEnded (x : Explored) (st : State) : Type 0 where
  pub threads : (a : ℕ) → a < x.threads → goes_on (st.actors a).at (st.actors a).stopped ≡ false
  pub agents : (g : CellId) → has_agent (cells_of x.cells) g ≡ true
      → goes_on (st.actors (actor_of x.threads (cells_of x.cells) g)).at (st.actors (actor_of x.threads (cells_of x.cells) g)).stopped ≡ true
      → next_action (cells_of x.cells) (st.shared.books 0) g ≡ None
