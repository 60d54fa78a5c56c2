-- Which events sent the actions of each cell's agent: of each cell a row of indexes of the store's book.
use Rattle.std.specs.Prelude.{◌≡◌, ◌<◌, ℕ, suc, List, [], ◌∷◌, ◌++◌, length, map, set}
use Rattle.std.proofs.Common.{get_or}
use Rattle.txs_value_cell.specs.declared.action.Action.{Action}
use Rattle.txs_world_protocol.specs.declared.event.Event.{Event}
use Rattle.txs_theorem_runs.specs.Told.{Place}
use Rattle.txs_theorem_serial.specs.Order.{sent_by, senders_from}

-- one index more in the row of the cell with this number
abbrev pub with_sender : List (List ℕ) → ℕ → ℕ → List (List ℕ)
with_sender rows number k = set rows number (get_or rows number [] ++ k ∷ [])

-- the event at this index sent these actions
abbrev pub with_sent : List (List ℕ) → ℕ → List Action → List (List ℕ)
with_sent rows k [] = rows
with_sent rows k (x ∷ xs) = with_sent (with_sender rows x.agent.number k) k xs

-- the events from this index on sent what they say
abbrev pub with_events : List (List ℕ) → ℕ → List Event → List (List ℕ)
with_events rows k [] = rows
with_events rows k (e ∷ es) = with_events (with_sent rows k (sent_by e.kind)) (suc k) es

-- the place at an index of the store's book
abbrev pub in_store : ℕ → Place
in_store k = record { book = 0; at = k }

-- the rows of so many cells, by the store's book
pub record AreSenders (cells : ℕ) (book : List Event) (rows : List (List ℕ)) : Type 0 where
  pub many : length rows ≡ cells
  pub each : (n : ℕ) → n < cells → map in_store (get_or rows n []) ≡ senders_from n 0 book
