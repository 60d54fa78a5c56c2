use Rattle.std.proofs.Common.{sym, subst}
use Rattle.txs_value_cell.specs.Cells.{validators_of}
use Rattle.txs_code_meaning.specs.declared.instr.Instr.{Instr}
use Rattle.txs_machine_loop.specs.Values.{last_of}
use Rattle.txs_machine_actor.specs.Turns.{CanTransact, IsLook, write_check}
use Rattle.txs_machine_actor.proofs.Looking.{no_write}
use Rattle.txs_machine_turn.proofs.judge.write_check.Goals as goal

pub put_look-requires : goal.put_look-requires
put_look-requires c = subst (λ (i : Instr). CanTransact c.args.actor.now i) c.in-Put.is c.requires

pub returns-in-Put : goal.returns-in-Put
returns-in-Put c =
    let a = c.args.actor.now in
    subst (λ (i : Instr). IsLook c.put_look.result (last_of a.values) (write_check (validators_of c.args.cells.now) a i c.args.span)) (sym c.in-Put.is) c.put_look.ensures

pub returns-in-Close : goal.returns-in-Close
returns-in-Close c =
    let a = c.args.actor.now in
    subst (λ (i : Instr). IsLook c.close_look.result (last_of a.values) (write_check (validators_of c.args.cells.now) a i c.args.span)) (sym c.in-Close.is) (c.close_look.ensures c.args.span)

pub returns-in_default : goal.returns-in_default
returns-in_default c = no_write (validators_of c.args.cells.now) c.args.actor.now c.args.span c.args.instr c.in_default.not-Put c.in_default.not-Close
