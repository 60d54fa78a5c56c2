-- What is said of the transactions of a thread's trace: that nobody disturbed them.
use Rattle.std.specs.Prelude.{◌≡◌, ℕ, List, [], ◌∷◌, take, Option, Some, None}
use Rattle.txs_world_protocol.specs.Ask.{Writes}
use Rattle.txs_world_protocol.specs.declared.event.Event.{Event}
use Rattle.txs_world_protocol.specs.declared.event.EventKind.{EventKind}
use Rattle.txs_world_protocol.specs.declared.event.EventKind.TheVariants.{Read, Commit, Retry, Fail, Refused, Send, SendRefused, Act, Swap, Broke}
use Rattle.txs_value_data.specs.Places.{nth}
use Rattle.txs_value_cell.specs.declared.action.Action.{Action}
use Rattle.txs_value_cell.specs.declared.cell.CellDefinition.{CellDefinition}
use Rattle.txs_value_data.specs.declared.value.CellId.{CellId}
use Rattle.txs_tree_meaning.specs.Thread.{TxRun}
use Rattle.txs_theorem_threads.specs.Noted.{IsNone, Front}
use Rattle.txs_world_book.specs.Book.{Untouched, first_failed}
use Rattle.txs_world_book.specs.Served.{cells_of}
use Rattle.txs_theorem_runs.specs.Told.{Place}

-- What is said of the transactions of a trace: of that of each commit, with its book, its index, its read point, its writes and its sends, and
-- of that of each refusal, with its book, its index, its read point and its agent.
pub record Says : Type 1 where
  pub commit : ℕ → ℕ → ℕ → Writes → List Action → TxRun → Type 0
  pub refusal : ℕ → ℕ → ℕ → CellId → TxRun → Type 0

-- of the transaction of an event, which the first is if the event is a commit or a refusal, and of those of the events behind it
abbrev pub SaidAt : Says → Place → EventKind → (List TxRun → Type 0) → List TxRun → Type 0
SaidAt s p (Read c) rest xs = rest xs
SaidAt s p (Commit at view ws sends) rest xs = Front (λ x. s.commit p.book p.at at ws sends x) rest xs
SaidAt s p (Retry since c cause) rest xs = rest xs
SaidAt s p (Fail at view) rest xs = rest xs
SaidAt s p (Refused at view g) rest xs = Front (λ x. s.refusal p.book p.at at g x) rest xs
SaidAt s p (Send x) rest xs = rest xs
SaidAt s p (SendRefused g) rest xs = rest xs
SaidAt s p (Act g n new sends) rest xs = rest xs
SaidAt s p (Swap new) rest xs = rest xs
SaidAt s p (Broke at) rest xs = rest xs

-- the same, where there is an event
abbrev pub SaidIf : Says → Place → Option Event → (List TxRun → Type 0) → List TxRun → Type 0
SaidIf s p None rest xs = rest xs
SaidIf s p (Some e) rest xs = SaidAt s p e.kind rest xs

-- Of the transactions of a trace: there is one for each commit and each refusal, in order, and no other.
abbrev pub SaidOf : Says → (ℕ → List Event) → List Place → List TxRun → Type 0
SaidOf s books [] xs = IsNone xs
SaidOf s books (p ∷ ps) xs = SaidIf s p (nth (books p.book) p.at) (λ ys. SaidOf s books ps ys) xs

-- No ref that a transaction set or ensured was written between its read point and its end; and the agent that it was refused for is that of
-- its first held send whose agent had failed.
abbrev pub undisturbed : List CellDefinition → (ℕ → List Event) → Says
undisturbed cells books = record {
  commit = λ n k at ws sends x. Untouched (take k (books n)) at x.state.done.sets × Untouched (take k (books n)) at x.state.done.ensures;
  refusal = λ n k at g x.
      Untouched (take k (books n)) at x.state.done.sets × Untouched (take k (books n)) at x.state.done.ensures
      × (first_failed (cells_of cells) (take k (books n)) x.state.done.sends ≡ Some g);
}
