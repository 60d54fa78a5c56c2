use Rattle.std.proofs.Common.{◌≡◌, false, Result, Ok, Err, ap, sym, subst, rules}
use Rattle.txs_value_cell.specs.Cells.{validators_of}
use Rattle.txs_value_cell.specs.Forms.{rule, cell_of}
use Rattle.txs_value_cell.specs.declared.form.CellForm.TheVariants as form
use Rattle.txs_value_cell.specs.declared.form.PutForm.TheVariants as put
use Rattle.txs_value_data.specs.declared.fault.FaultKind.{FaultKind}
use Rattle.txs_value_data.specs.declared.value.CellId.{CellId}
use Rattle.txs_machine_loop.specs.Values.{under}
use Rattle.txs_machine_actor.specs.Turns.{IsLook, reset_check}
use Rattle.txs_machine_turn.proofs.judge.reset_look.Goals as goal

pub returns-in-Ok : goal.returns-in-Ok
returns-in-Ok c = λ v.
    let is : cell_of (rule (form.Put put.Reset)) false (under 1 c.args.actor.now.values) ≡ Ok c.in-Ok.cell = first_of (search rules, cc) in
    subst (λ (r : Result CellId FaultKind). IsLook c.check_of.result v (reset_check (validators_of c.args.cells.now) r v c.args.span)) (sym is) (c.check_of.ensures v)

pub returns-in-Err : goal.returns-in-Err
returns-in-Err c = λ v.
    let is : cell_of (rule (form.Put put.Reset)) false (under 1 c.args.actor.now.values) ≡ Err c.in-Err.field-0 = first_of (search rules, cc) in
    ap (λ (r : Result CellId FaultKind). reset_check (validators_of c.args.cells.now) r v c.args.span) is
