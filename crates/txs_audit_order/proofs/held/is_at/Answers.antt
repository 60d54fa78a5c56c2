use Rattle.txs_value_data.specs.declared.value.CellKind.TheVariants.{Ref}
use Rattle.txs_audit_order.proofs.Numbers.{number_at}
use Rattle.txs_audit_order.proofs.held.is_at.Goals as goal

pub returns : goal.returns
returns c = number_at c.args.refs.now c.args.at c.args.number (record { kind = Ref; number = 0 }) c.if-at-refs.false
