use Rattle.std.proofs.Common.{sym, subst}
use Rattle.txs_value_cell.specs.Cells.{validators_of}
use Rattle.txs_machine_transaction.specs.Effect.{Comes, ends}
use Rattle.txs_machine_transaction.specs.declared.state.Transaction.{Transaction}
use Rattle.txs_machine_transaction.specs.declared.state.Transaction.TheVariants.{Applying}
use Rattle.txs_machine_transaction.proofs.instructions.end.Goals as goal

pub returns-in-Applying : goal.returns-in-Applying
returns-in-Applying c = λ vs k.
    let x = c.in-Applying in
    let w = c.args.frame.now in
    subst (λ (t : Transaction). Comes c.go_through.result vs (Applying x.left x.from c.go_through.new.phase) w k w k (ends (validators_of c.args.cells.now) vs w k t)) (sym x.is) (c.go_through.ensures.comes x.left x.from.stack vs k)
