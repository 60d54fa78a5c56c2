-- What operations make of values that name the program's cells alone does so too.
use Rattle.std.proofs.Common.{List, [], ◌∷◌}
use Rattle.std.specs.List.{AllByRecursion}
use Rattle.txs_value_apply.specs.Core.{Answer, core, vector_of}
use Rattle.txs_value_apply.proofs.CoreKeeps.{AnyItems, AnyNumber, GoodAs, Rules, by_items, good, vector_good}
use Rattle.txs_value_data.specs.PlainValue.{PlainValue, plain_row}
use Rattle.txs_value_data.specs.declared.op.Op.{Op}
use Rattle.txs_value_data.specs.declared.value.Value.{Value}
use Rattle.txs_value_cell.specs.declared.cell.CellDefinition.{CellDefinition}
use Rattle.txs_theorem_runs.specs.Lawful.{HasCells, RowHasCells, IsKnown}

-- of each value
abbrev pub AllKnown : List CellDefinition → List Value → Type 0
AllKnown cells vs = AllByRecursion (IsKnown cells) vs

module _ (cells : List CellDefinition) where
  abbrev pub AnswerKnown : Answer → Type 0
  AnswerKnown r = GoodAs (IsKnown cells) r

  row_all : (ds : List PlainValue) → RowHasCells cells (plain_row ds) → AllByRecursion (HasCells cells) ds
  row_all [] h = tt
  row_all (d ∷ ds) h = (h.0, row_all ds h.1)

  all_row : (ds : List PlainValue) → AllByRecursion (HasCells cells) ds → RowHasCells cells (plain_row ds)
  all_row [] h = tt
  all_row (d ∷ ds) h = (h.0, all_row ds h.1)

  -- operations make no cell
  rules : Rules (HasCells cells) AnyNumber AnyItems
  rules = by_items (HasCells cells) tt (λ b. tt) (λ z. tt) row_all all_row

  pub vector_known : (vs : List Value) → AllKnown cells vs → AnswerKnown (vector_of vs)
  vector_known vs h = vector_good (HasCells cells) AnyNumber AnyItems rules vs h

  pub core_known : (op : Op) (vs : List Value) → AllKnown cells vs → AnswerKnown (core op vs)
  core_known op vs h = good (HasCells cells) AnyNumber AnyItems rules op vs h
