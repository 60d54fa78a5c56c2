-- The code of a program that names its own cells alone names them alone.
use Rattle.std.proofs.Common.{List, [], ◌∷◌, ◌++◌, sym, subst}
use Rattle.txs_value_cell.specs.declared.cell.CellDefinition.{CellDefinition}
use Rattle.txs_value_data.specs.declared.value.Value.{Value}
use Rattle.txs_tree_meaning.specs.Tree.{PlainProgram}
use Rattle.txs_code_meaning.specs.OwnCells.{NameDefined, OpeningsNameNone, NamesOwnCells}
use Rattle.txs_code_meaning.specs.PlainCode.{PlainCode}
use Rattle.txs_gen.specs.Generated.{constants_of_functions, constants_of_threads, IsCodeOf}
use Rattle.txs_gen.specs.OwnCells.{ProgramNamesOwnCells}

both : (cells : List CellDefinition) (vs ws : List Value) → NameDefined cells vs → NameDefined cells ws → NameDefined cells (vs ++ ws)
both cells [] ws h k = k
both cells (v ∷ vs) ws h k = (h.0, both cells vs ws h.1 k)

pub code_names_own_cells : (code : PlainCode) (p : PlainProgram) → IsCodeOf code p → ProgramNamesOwnCells p → NamesOwnCells code
code_names_own_cells code p made h = record {
  constants =
      subst (λ cells. NameDefined cells code.constants) (sym made.cells)
      (subst (NameDefined p.cells) (sym made.constants) (both p.cells (constants_of_functions p.functions) (constants_of_threads p.threads) h.functions h.threads));
  openings = subst OpeningsNameNone (sym made.cells) h.openings;
}
