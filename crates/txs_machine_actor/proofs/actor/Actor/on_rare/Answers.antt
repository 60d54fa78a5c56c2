use Rattle.std.proofs.Common.{◌∙◌, false, refl, ap, sym, subst}
use Rattle.txs_code_meaning.specs.declared.instr.Instr.{Instr}
use Rattle.txs_code_meaning.specs.declared.instr.Instr.TheVariants as instr
use Rattle.txs_machine_loop.specs.Values.{under}
use Rattle.txs_value_cell.specs.Cells.{validators_of}
use Rattle.txs_value_cell.specs.Forms.{rule, cell_of}
use Rattle.txs_value_cell.specs.declared.form.CellForm.TheVariants as form
use Rattle.txs_value_cell.specs.declared.form.UpdateForm.TheVariants as update
use Rattle.txs_machine_actor.specs.Turns.{Transacts}
use Rattle.txs_machine_actor.proofs.Departing.{opens_so, closes_so}
use Rattle.txs_machine_actor.proofs.actor.Actor.on_rare.Goals as goal

pub returns-in-Open-Swap-default : goal.returns-in-Open-Swap-default
returns-in-Open-Swap-default c =
    let a = c.args in
    let x = c.in-Open-Swap-default in
    subst (λ (i : Instr). Transacts (validators_of a.cells.now) a.self.now i a.span a.next c.open_swap.new.turn c.open_swap.new.self)
    (sym (x.is ∙ ap (λ f. instr.Open f x.n) (rw x.is at x.field-0-is)))
    (opens_so (validators_of a.cells.now) a.self.now a.span x.n a.next (cell_of (rule (form.Update update.Swap)) false (under x.n a.self.now.values)) c.open_swap.new.turn c.open_swap.new.self refl c.open_swap.ensures)

pub returns-in-Close-Swap : goal.returns-in-Close-Swap
returns-in-Close-Swap c =
    let a = c.args in
    let x = c.in-Close-Swap in
    subst (λ (i : Instr). Transacts (validators_of a.cells.now) a.self.now i a.span a.next c.close_swap.new.turn c.close_swap.new.self)
    (sym (x.is ∙ ap instr.Close (rw x.is at x.field-0-is)))
    (closes_so (validators_of a.cells.now) a.self.now a.span a.next a.self.now.tx c.close_swap.new.turn c.close_swap.new.self refl c.close_swap.ensures)
