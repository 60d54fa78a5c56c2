use Rattle.std.proofs.Common.{sym, subst}
use Rattle.txs_value_cell.specs.Cells.{validators_of}
use Rattle.txs_value_cell.specs.declared.form.UpdateForm.{UpdateForm}
use Rattle.txs_code_meaning.specs.declared.instr.Instr.TheVariants.{Close}
use Rattle.txs_machine_loop.specs.Values.{last_of}
use Rattle.txs_machine_actor.specs.Turns.{IsLook, write_check}
use Rattle.txs_machine_actor.proofs.Looking.{no_close}
use Rattle.txs_machine_turn.proofs.judge.close_look.Goals as goal

pub returns-in-Swap : goal.returns-in-Swap
returns-in-Swap c = λ span.
    let a = c.args.actor.now in
    subst (λ (f : UpdateForm). IsLook c.swap_look.result (last_of a.values) (write_check (validators_of c.args.cells.now) a (Close f) span)) (sym c.in-Swap.is) (c.swap_look.ensures (last_of a.values))

pub returns-in_default : goal.returns-in_default
returns-in_default c = λ span. no_close (validators_of c.args.cells.now) c.args.actor.now span c.args.form c.in_default.not-Swap
