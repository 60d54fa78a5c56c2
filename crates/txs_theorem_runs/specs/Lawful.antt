-- Which asks of a run are lawful.
use Rattle.std.specs.Prelude.{◌≡◌, ℕ, true, not, nat_lt, List, map, Some}
use Rattle.txs_world_protocol.specs.declared.ask.Ask.{Ask}
use Rattle.txs_value_data.specs.PlainValue.{PlainValue, nil, truth, int, key, text, vector, cell, PlainValues, end, more}
use Rattle.txs_value_data.specs.View.{plain_of}
use Rattle.txs_value_cell.specs.declared.cell.CellDefinition.{CellDefinition}
use Rattle.txs_value_data.specs.declared.value.CellId.{CellId}
use Rattle.txs_value_data.specs.declared.value.Value.{Value}
use Rattle.txs_code_meaning.specs.ActorState.{ActorState}
use Rattle.txs_code_meaning.specs.Machine.{ThreadCode, fetch, Push, Configuration, Unfinished, Asking, turn, TakeOf, FinishOf}
use Rattle.txs_code_meaning.specs.PlainCode.{CodeBody, PlainCode, thread_code}
use Rattle.txs_code_meaning.specs.WellTyped.{WellTyped}
use Rattle.txs_value_data.specs.Places.{nth}
use Rattle.txs_world_book.specs.Book.{has_cell, actors, opening, has_agent, actor_of}
use Rattle.txs_world_book.specs.Served.{cells_of}
use Rattle.txs_theorem_runs.specs.Explains.{code_of}
use Rattle.txs_theorem_runs.specs.Shared.{book_for, may_ask}
use Rattle.txs_theorem_runs.specs.Standing.{StandingActor, StandingCode}
use Rattle.txs_theorem_runs.specs.Run.{State, Play, plays}

-- all cells inside a plain value are among the defined ones
abbrev mutual
  pub HasCells : List CellDefinition → PlainValue → Type 0
  HasCells cells nil = Unit {0}
  HasCells cells (truth b) = Unit {0}
  HasCells cells (int z) = Unit {0}
  HasCells cells (key bs) = Unit {0}
  HasCells cells (text bs) = Unit {0}
  HasCells cells (vector ds) = RowHasCells cells ds
  HasCells cells (cell c) = has_cell (cells_of cells) c ≡ true

  -- all cells inside these plain values are among the defined ones
  pub RowHasCells : List CellDefinition → PlainValues → Type 0
  RowHasCells cells end = Unit {0}
  RowHasCells cells (more d ds) = HasCells cells d × RowHasCells cells ds

-- all cells inside a value are among the defined ones
abbrev pub IsKnown : List CellDefinition → Value → Type 0
IsKnown cells v = HasCells cells (plain_of v)

-- the code's constants name defined cells alone
abbrev pub CodeIsKnown : List CellDefinition → ThreadCode → Type 0
CodeIsKnown cells code = (b at : ℕ) (v : Value) → fetch code b at ≡ Some (Push v) → IsKnown cells v

-- and so do the values that the cells open with
abbrev pub OpeningIsKnown : List CellDefinition → Type 0
OpeningIsKnown cells = (k : ℕ) → IsKnown cells (opening (cells_of cells) k)

-- an agent's own instructions name this agent alone
abbrev pub NamesOwn : CellId → ThreadCode → Type 0
NamesOwn g code = (b at : ℕ) (h : CellId) → (fetch code b at ≡ Some (TakeOf h) → h ≡ g) × (fetch code b at ≡ Some (FinishOf h) → h ≡ g)

-- what an actor's next instruction asks, it may ask, where its code's instructions are where they may be: so it is of threads and of agents' actors
abbrev pub AsksAreLawful : List CellDefinition → ℕ → (ℕ → ThreadCode) → State → Type 0
AsksAreLawful cells threads codes st =
    (a : ℕ) (c : Configuration) (s : ActorState) (q : Ask)
    → nat_lt a (actors threads (cells_of cells)) ≡ true → StandingActor (not (nat_lt a threads)) (codes a)
    → (st.actors a).at ≡ Unfinished c → turn (codes a) c ≡ Asking s → s.wants ≡ Some q
    → may_ask cells threads st.shared.taken a q (st.shared.books (book_for cells q)) ≡ true

-- where codes and opening values name defined cells alone, and each agent's code its own agent, so that no actor of the run is stopped for what it asks
abbrev pub RunAsksLawful : Type 0
RunAsksLawful =
    (cells : List CellDefinition) (threads : ℕ) (codes : ℕ → ThreadCode) (ys : List Play)
    → OpeningIsKnown cells → ((a : ℕ) → CodeIsKnown cells (codes a)) → ((g : CellId) → has_agent (cells_of cells) g ≡ true → NamesOwn g (codes (actor_of threads (cells_of cells) g)))
    → AsksAreLawful cells threads codes (plays cells threads codes ys)

-- the instructions of each thread of well-typed code are where they may be
abbrev pub TypedStands : Type 0
TypedStands =
    (code : PlainCode) (function_rooms thread_rooms : List ℕ) (i : ℕ) (b : CodeBody) → WellTyped code function_rooms thread_rooms → nth code.threads i ≡ Some b → StandingCode (thread_code code b)

-- and so do those of each actor's code, also of one that no thread has
abbrev pub TypedActorsStand : Type 0
TypedActorsStand =
    (code : PlainCode) (function_rooms thread_rooms : List ℕ) (i : ℕ) → WellTyped code function_rooms thread_rooms → StandingCode (code_of (map (thread_code code) code.threads) i)
