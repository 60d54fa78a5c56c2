use Rattle.std.proofs.Common.{sym, subst}
use Rattle.txs_reader.specs.Tree.{trees}
use Rattle.txs_resolve.specs.Names.{Resolves}
use Rattle.txs_tree_meaning.specs.View.{program_of}
use Rattle.txs_compile.proofs.OwnCells.{names_own_cells}
use Rattle.txs_compile.proofs.script.program_of_forms.Goals as goal

pub returns-in-Ok-clause-own_cells : goal.returns-in-Ok-clause-own_cells
returns-in-Ok-clause-own_cells c =
    names_own_cells (trees c.args.forms.now) (program_of c.in-Ok.program)
    (subst (λ p. Resolves (trees c.args.forms.now) (program_of p)) (sym c.in-Ok.ensures.same) c.in_ok-raw.ensures.ok)
