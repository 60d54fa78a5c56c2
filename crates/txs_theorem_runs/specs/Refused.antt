-- What holds of a commit that is refused since an agent of its sends has failed.
use Rattle.std.specs.Prelude.{◌≡◌, ℕ, List, [], ◌∷◌, take, Some}
use Rattle.txs_world_protocol.specs.declared.ask.Ask.{Ask}
use Rattle.txs_world_protocol.specs.declared.ask.Ask.TheVariants as ask
use Rattle.txs_world_protocol.specs.declared.ask.Reply.{Reply}
use Rattle.txs_world_protocol.specs.declared.ask.Reply.TheVariants as reply
use Rattle.txs_world_protocol.specs.declared.event.Event.{Event}
use Rattle.txs_value_cell.specs.declared.cell.CellDefinition.{CellDefinition}
use Rattle.txs_code_meaning.specs.Machine.{ThreadCode}
use Rattle.txs_world_book.specs.Book.{Untouched, cells_in, first_failed}
use Rattle.txs_world_book.specs.Served.{cells_of}
use Rattle.txs_theorem_runs.specs.Told.{Entry}
use Rattle.txs_theorem_runs.specs.Staged.{StagedCode}
use Rattle.txs_theorem_runs.specs.Run.{Play, plays}

-- of a commit that is refused: what its transaction set or ensured wasn't written since the read point, nor what it commuted since
-- the view, and the agent is that of the first held send whose agent has failed
abbrev pub RefusalUndisturbed : List CellDefinition → List Event → Ask → Reply → Type 0
RefusalUndisturbed cells book (ask.Commit at sets ensured view commuted sends) (reply.AgentIsFailed g) =
    Untouched book at (cells_in sets) × Untouched book at ensured × Untouched book view (cells_in commuted) × (first_failed (cells_of cells) book sends ≡ Some g)
RefusalUndisturbed cells book _ _ = Unit {0}

-- of each entry, on the events before it
abbrev pub RefusalsUndisturbed : List CellDefinition → (ℕ → List Event) → List Entry → Type 0
RefusalsUndisturbed cells books [] = Unit {0}
RefusalsUndisturbed cells books (e ∷ es) = RefusalUndisturbed cells (take e.at (books 0)) e.ask e.reply × RefusalsUndisturbed cells books es

-- so it is of each actor of a run whose code asks in its stages
abbrev pub RunRefusals : Type 0
RunRefusals =
    (cells : List CellDefinition) (threads : ℕ) (codes : ℕ → ThreadCode) (ys : List Play) (a : ℕ)
    → StagedCode (codes a)
    → RefusalsUndisturbed cells (plays cells threads codes ys).shared.books ((plays cells threads codes ys).actors a).entries
