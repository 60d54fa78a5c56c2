use Rattle.std.proofs.Common.{sym, subst}
use Rattle.txs_reader.specs.Tree.{trees}
use Rattle.txs_resolve.specs.Names.{Resolves}
use Rattle.txs_tree_meaning.specs.View.{program_of}
use Rattle.txs_compile.proofs.OwnCells.{names_own_cells}
use Rattle.txs_test_program.proofs.fronts.code.is_generated.Goals as goal

pub generate-requires : goal.generate-requires
generate-requires c =
    names_own_cells (trees c.as_slice.result.now) (program_of c.in-Ok-check.program)
    (subst (λ p. Resolves (trees c.as_slice.result.now) (program_of p)) (sym c.in-Ok-check.ensures.same) c.in-Ok-resolve.ensures.ok)
