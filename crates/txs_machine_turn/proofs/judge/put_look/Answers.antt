use Rattle.std.proofs.Common.{sym, subst}
use Rattle.txs_value_cell.specs.Cells.{validators_of}
use Rattle.txs_value_cell.specs.declared.form.PutForm.{PutForm}
use Rattle.txs_code_meaning.specs.declared.instr.Instr.TheVariants.{Put}
use Rattle.txs_machine_loop.specs.Values.{last_of}
use Rattle.txs_machine_actor.specs.Turns.{IsLook, write_check}
use Rattle.txs_machine_turn.proofs.judge.put_look.Goals as goal

pub returns-in-Reset : goal.returns-in-Reset
returns-in-Reset c =
    let a = c.args.actor.now in
    subst (λ (f : PutForm). IsLook c.reset_look.result (last_of a.values) (write_check (validators_of c.args.cells.now) a (Put f) c.args.span)) (sym c.in-Reset.is) (c.reset_look.ensures (last_of a.values))
