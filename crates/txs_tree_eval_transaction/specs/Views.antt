-- The values of cells at a place of a book.
use Rattle.std.specs.Prelude.{ℕ, Bool, true, false, List, Option, Some, None, option_copied}
use Rattle.txs_tree_eval_transaction.specs.Pasts.{entry_at}
use Rattle.txs_tree_eval_transaction.specs.declared.view.RefView.{RefView}
use Rattle.txs_tree_eval_transaction.specs.declared.view.TxView.{TxView}
use Rattle.txs_value_cell.specs.Cells.{World}
use Rattle.txs_value_data.specs.Places.{nth}
use Rattle.txs_value_data.specs.declared.value.Value.{Value}
use Rattle.txs_value_data.specs.declared.value.Value.TheVariants.{Nil}

-- For each cell its values, each with the index from which on the cell has it, and the index that is looked at. In a view of an
-- atom's book there are also the values that the atom was swapped to, which stand for every cell.
pub record PlainView : Type 0 where
  pub cells : List (List (ℕ × Value))
  pub swaps : Option (List (ℕ × Value))
  pub place : ℕ

-- a view as plain data
abbrev pub plain_view : RefView → PlainView
plain_view r = record { cells = r.cells.now; swaps = option_copied r.swaps; place = r.place }

-- the same of one that may not be there
abbrev pub plain_world : Option RefView → Option PlainView
plain_world None = None
plain_world (Some r) = Some (plain_view r)

-- what a transaction sees: the cells at its read point, and the number of the ref whose value is no longer kept there, if there is one
pub record PlainTxView : Type 0 where
  pub refs : PlainView
  pub gone : Option ℕ

-- the same as plain data
abbrev pub plain_tx_view : TxView → PlainTxView
plain_tx_view v = record { refs = plain_view v.refs; gone = v.gone }

-- the same of one that may not be there
abbrev pub plain_tx_world : Option TxView → Option PlainTxView
plain_tx_world None = None
plain_tx_world (Some v) = Some (plain_tx_view v)

-- all values are kept
abbrev pub whole_view : PlainView → PlainTxView
whole_view r = record { refs = r; gone = None }

-- whether they are
abbrev pub is_whole : Option ℕ → Bool
is_whole None = true
is_whole (Some k) = false

-- a value without its index
abbrev pub value_in : Option (ℕ × Value) → Option Value
value_in None = None
value_in (Some w) = Some w.1

-- the last of these values whose index isn't above this one
abbrev pub held : List (ℕ × Value) → ℕ → Option Value
held ws p = value_in (entry_at ws p)

-- a cell's values, if it has a list of them
abbrev pub held_in : Option (List (ℕ × Value)) → ℕ → Option Value
held_in None p = None
held_in (Some ws) p = held ws p

-- a value that is there, else another
abbrev pub or_else : Option Value → Option Value → Option Value
or_else None o = o
or_else (Some v) o = Some v

-- The value at an index of a cell with these values. In an atom's book it is that of the last swap, and before any swap the one
-- that the cell opened with.
abbrev pub held_on : Option (List (ℕ × Value)) → Option (List (ℕ × Value)) → ℕ → Option Value
held_on None own p = held_in own p
held_on (Some swaps) own p = or_else (held swaps p) (held_in own 0)

-- the value of the cell with this number, if it has one
abbrev pub value_of : PlainView → ℕ → Option Value
value_of r k = held_on r.swaps (nth r.cells k) r.place

-- a value that may not be there is nil
abbrev pub or_nil : Option Value → Value
or_nil None = Nil
or_nil (Some v) = v

-- the world at a place: a cell that has no value there is nil
abbrev pub world_of : PlainView → World
world_of r k = or_nil (value_of r k)
