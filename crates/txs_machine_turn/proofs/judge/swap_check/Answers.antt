use Rattle.txs_value_cell.specs.Cells.{validators_of}
use Rattle.txs_machine_actor.proofs.Looking.{no_swap}
use Rattle.txs_machine_turn.proofs.judge.swap_check.Goals as goal

pub returns-in_default : goal.returns-in_default
returns-in_default c = λ v. no_swap (validators_of c.args.cells.now) v c.args.tx.now c.in_default.not-Swapping
