-- What holds of books and of what the store answers.
use Rattle.std.specs.Prelude.{◌≡◌, ◌≤◌, ℕ, Bool, true, false, not, ◌&&◌, ◌==◌, List, [], ◌∷◌, ◌++◌, length, Some}
use Rattle.std.proofs.Common.{get_or}
use Rattle.txs_world_protocol.specs.Ask.{Writes}
use Rattle.txs_world_protocol.specs.declared.ask.Ask.{Ask}
use Rattle.txs_world_protocol.specs.declared.ask.Ask.TheVariants.{Commit}
use Rattle.txs_world_protocol.specs.declared.ask.Reply.TheVariants.{Done, AgentIsFailed}
use Rattle.txs_value_cell.specs.declared.action.Action.{Action}
use Rattle.txs_value_data.specs.declared.value.CellId.{CellId}
use Rattle.txs_value_data.specs.declared.value.Value.{Value}
use Rattle.txs_world_protocol.specs.declared.event.Event.{Event}
use Rattle.txs_world_protocol.specs.declared.event.EventKind.{EventKind}
use Rattle.txs_world_protocol.specs.declared.event.EventKind.TheVariants as event
use Rattle.txs_world_book.specs.Book.{cells_in, has_agent, opening, is_there, newest, mail_after, first_failed, waits, Legal, Untouched, Undisturbed}
use Rattle.txs_world.specs.Store.{PlainStore, next_action, serve, store_after, is_lawful}
use Rattle.txs_world_book.specs.declared.cell.StoreCell.{StoreCell}

-- the first action of each agent that is taken waits, and the agent hasn't failed
abbrev pub TakenWait : PlainStore → Type 0
TakenWait s =
    (k : ℕ) → get_or s.taken k false ≡ true → (is_there (mail_after s.cells s.book k).fault ≡ false) × (waits (mail_after s.cells s.book k).actions ≡ true)

-- what holds of a store
pub record StoreStands (s : PlainStore) : Type 0 where
  pub legal : Legal s.cells s.threads s.book
  pub undisturbed : Undisturbed s.book
  pub taken : TakenWait s

-- what the store does keeps its book legal, its commits undisturbed, and what is taken waiting
abbrev pub ServeKeeps : Type 0
ServeKeeps = (s : PlainStore) (a : ℕ) (q : Ask) → is_lawful s a q ≡ true → StoreStands s → StoreStands (store_after s q (serve s.cells a q s.book))

-- where the store answers Done to a commit, what the transaction set or ensured wasn't written since its read point, nor what it commuted since its view
abbrev pub DoneIsUndisturbed : Type 0
DoneIsUndisturbed =
    (cells : List StoreCell) (a at view : ℕ) (sets commuted : Writes) (ensured : List CellId) (sends : List Action) (book : List Event)
    → (serve cells a (Commit at sets ensured view commuted sends) book).reply ≡ Done
    → Untouched book at (cells_in sets) × Untouched book at ensured × Untouched book view (cells_in commuted)

-- where it refuses one for an agent that has failed, the same holds, and the agent is that of the first send whose agent has failed
abbrev pub RefusedIsUndisturbed : Type 0
RefusedIsUndisturbed =
    (cells : List StoreCell) (a at view : ℕ) (sets commuted : Writes) (ensured : List CellId) (sends : List Action) (book : List Event) (g : CellId)
    → (serve cells a (Commit at sets ensured view commuted sends) book).reply ≡ AgentIsFailed g
    → Untouched book at (cells_in sets) × Untouched book at ensured × Untouched book view (cells_in commuted) × (first_failed cells book sends ≡ Some g)

-- whether an event is an action of the agent with this number
abbrev pub acts_for : ℕ → EventKind → Bool
acts_for k (event.Read c) = false
acts_for k (event.Commit at view ws sends) = false
acts_for k (event.Retry since c cause) = false
acts_for k (event.Fail at view) = false
acts_for k (event.Refused at view g) = false
acts_for k (event.Send x) = false
acts_for k (event.SendRefused g) = false
acts_for k (event.Act g n new sends) = g.number == k
acts_for k (event.Swap new) = false
acts_for k (event.Broke at) = false

-- whether none of these events is an action of that agent
abbrev pub no_acts : ℕ → List Event → Bool
no_acts k [] = true
no_acts k (e ∷ es) = not (acts_for k e.kind) && no_acts k es

-- the action that an agent runs next stays so, with its number and the agent's state, until the agent has run one
abbrev pub ActionStays : Type 0
ActionStays =
    (cells : List StoreCell) (threads : ℕ) (book more : List Event) (g : CellId) (x : Action)
    → Legal cells threads (book ++ more) → has_agent cells g ≡ true → no_acts g.number more ≡ true → next_action cells book g ≡ Some x
    → (next_action cells (book ++ more) g ≡ Some x) × ((mail_after cells (book ++ more) g.number).acts ≡ (mail_after cells book g.number).acts) × (newest (opening cells) (book ++ more) g.number ≡ newest (opening cells) book g.number)
