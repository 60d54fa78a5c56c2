-- Programs that name their own cells alone.
use Rattle.txs_tree_meaning.specs.Tree.{PlainProgram}
use Rattle.txs_code_meaning.specs.OwnCells.{NameDefined, OpeningsNameNone}
use Rattle.txs_gen.specs.Generated.{constants_of_functions, constants_of_threads}

-- Each cell in a constant of the program, also inside vectors, is one that the program defines and of its kind, and no value that a
-- cell opens with has a cell in it.
pub record ProgramNamesOwnCells (p : PlainProgram) : Type 0 where
  pub functions : NameDefined p.cells (constants_of_functions p.functions)
  pub threads : NameDefined p.cells (constants_of_threads p.threads)
  pub openings : OpeningsNameNone p.cells
