-- The places of all actors, by the stages that they are in, in two states that nobody can tell apart.
use Rattle.std.specs.Prelude.{◌≡◌, ℕ, Bool, true, ◌==◌, List, Some, None, Result, if◌then◌else◌}
use Rattle.txs_world_protocol.specs.Ask.{Writes}
use Rattle.txs_world_protocol.specs.SeenEvent.{home}
use Rattle.txs_world_protocol.specs.declared.ask.Ask.{Ask}
use Rattle.txs_world_protocol.specs.declared.ask.Ask.TheVariants as ask
use Rattle.txs_value_data.specs.declared.fault.Fault.{Fault}
use Rattle.txs_value_data.specs.declared.value.CellId.{CellId}
use Rattle.txs_value_data.specs.declared.value.Value.{Value}
use Rattle.txs_value_cell.specs.declared.action.Action.{Action}
use Rattle.txs_value_cell.specs.declared.cell.CellDefinition.{CellDefinition}
use Rattle.txs_world_book.specs.Served.{cells_of}
use Rattle.txs_theorem_runs.specs.Shared.{Shared, book_for, serve_on, may_ask, shared_after}
use Rattle.txs_theorem_runs.specs.Stages.{Stage, Resting, Idle, Open, Viewing, Swapping, AsksIn, stage_after}
use Rattle.txs_theorem_alike.specs.Books.{SamePoint, SameView, SameSwap, Alike, HasRoom}
use Rattle.txs_theorem_alike.specs.Answers.{Answers}

-- the same stage in two states, but for places that tell the same
pub data SameStage (cells : List CellDefinition) (sh th : Shared) : Stage → Stage → Type 0 where
  Rests : SameStage cells sh th Resting Resting
  Idles : SameStage cells sh th Idle Idle
  Tries : (p q : ℕ) → SamePoint (cells_of cells) (sh.books 0) (th.books 0) p q → SameStage cells sh th (Open p) (Open q)
  Redoes : (p q v w : ℕ) → SamePoint (cells_of cells) (sh.books 0) (th.books 0) p q → SameView (cells_of cells) (sh.books 0) (th.books 0) v w → SameStage cells sh th (Viewing p v) (Viewing q w)
  Swaps : (c : CellId) (p q : ℕ) → SameSwap (sh.books (home cells c)) (th.books (home cells c)) p q → SameStage cells sh th (Swapping c p) (Swapping c q)

-- the same ask but for its places
pub data EqualBut : Ask → Ask → Type 0 where
  Begins : EqualBut ask.Begin ask.Begin
  Looks : (c : CellId) (p q : ℕ) → EqualBut (ask.Look c p) (ask.Look c q)
  Views : (cs : List CellId) → EqualBut (ask.View cs) (ask.View cs)
  Commits : (sets commuted : Writes) (ensured : List CellId) (sends : List Action) (p q v w : ℕ) → EqualBut (ask.Commit p sets ensured v commuted sends) (ask.Commit q sets ensured w commuted sends)
  Fails : (p q v w : ℕ) → EqualBut (ask.Fail p v) (ask.Fail q w)
  Peeks : (c : CellId) → EqualBut (ask.Peek c) (ask.Peek c)
  Sends : (x : Action) → EqualBut (ask.Send x) (ask.Send x)
  Takes : (g : CellId) → EqualBut (ask.Take g) (ask.Take g)
  Finishes : (g : CellId) (new : Result Value Fault) (sends : List Action) → EqualBut (ask.Finish g new sends) (ask.Finish g new sends)
  Opens : (c : CellId) → EqualBut (ask.OpenAt c) (ask.OpenAt c)
  Closes : (c : CellId) (p q : ℕ) (v : Value) → EqualBut (ask.CloseAt c (Some p) v) (ask.CloseAt c (Some q) v)
  Resets : (c : CellId) (v : Value) → EqualBut (ask.CloseAt c None v) (ask.CloseAt c None v)
  Breaks : (c : CellId) (p q : ℕ) → EqualBut (ask.Broke c p) (ask.Broke c q)

-- alike states, with the stages of all actors
pub record AllAlike (cells : List CellDefinition) (sh th : Shared) (x y : ℕ → Stage) : Type 0 where
  pub shared : Alike cells sh th
  pub stages : (b : ℕ) → SameStage cells sh th (x b) (y b)

-- the stages with that of this actor
abbrev pub with_stage : ℕ → Stage → (ℕ → Stage) → ℕ → Stage
with_stage a s x b = if a == b then s else x b

-- the stages after an actor's ask was served
abbrev pub stages_after : List CellDefinition → ℕ → Ask → Shared → (ℕ → Stage) → ℕ → Stage
stages_after cells a q sh x = with_stage a (stage_after (x a) q (serve_on cells a q (sh.books (book_for cells q))).reply) x

-- what is shared after an actor's ask was served
abbrev pub behind : List CellDefinition → ℕ → Ask → Shared → Shared
behind cells a q sh = shared_after cells q (serve_on cells a q (sh.books (book_for cells q))) sh

-- one ask of an actor is answered the same, and all actors stay alike
pub record StepsAlike (cells : List CellDefinition) (a : ℕ) (q r : Ask) (sh th : Shared) (x y : ℕ → Stage) : Type 0 where
  pub answers : Answers cells a q r sh th
  pub all : AllAlike cells (behind cells a q sh) (behind cells a r th) (stages_after cells a q sh x) (stages_after cells a r th y)

-- An actor asks the same in alike states, but for its places, each ask in its stage: so all actors stay alike, and their places tell the same.
abbrev pub AsksKeepAlike : Type 0
AsksKeepAlike =
    (cells : List CellDefinition) (threads a : ℕ) (agent : Bool) (q r : Ask) (sh th : Shared) (x y : ℕ → Stage)
    → AllAlike cells sh th x y → AsksIn agent (x a) q → AsksIn agent (y a) r → EqualBut q r → may_ask cells threads sh.taken a q (sh.books (book_for cells q)) ≡ true
    → HasRoom cells q sh → HasRoom cells r th → StepsAlike cells a q r sh th x y
