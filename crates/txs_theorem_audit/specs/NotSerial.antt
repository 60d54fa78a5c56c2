-- What isn't serial, though a program explains it.
use Rattle.std.specs.Prelude.{ℕ, List, length}
use Rattle.txs_value_cell.specs.Cells.{validators_of}
use Rattle.txs_value_cell.specs.declared.form.LookForm.TheVariants.{Deref}
use Rattle.txs_world_book.specs.Book.{opening}
use Rattle.txs_world_book.specs.Served.{cells_of}
use Rattle.txs_tree_meaning.specs.Thread.{TxRun}
use Rattle.txs_tree_meaning.specs.Tree.{PlainProgram}
use Rattle.txs_theorem_serial.specs.Whole.{OneByOne}
use Rattle.txs_theorem_audit.specs.Examples.{skewed, both_took}
use Rattle.txs_theorem_audit.specs.Laws.{OwnRuns}

-- two threads of which each takes one from a sum of two refs
abbrev pub skew : PlainProgram
skew = skewed Deref

-- The commits of write skew aren't what the program's own transactions do, one after the other: the second takes none on the world that the first left.
abbrev pub SkewIsNotOneByOne : Type 0
SkewIsNotOneByOne = (runs : ℕ → List TxRun) → OwnRuns skew both_took runs → OneByOne skew.functions (validators_of skew.cells) (length skew.threads) runs (opening (cells_of skew.cells)) both_took.book → ⊥
