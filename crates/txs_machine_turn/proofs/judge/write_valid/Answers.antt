use Rattle.std.proofs.Common.{List, Option, Some, None, ◌∙◌, ap, sym, subst}
use Rattle.txs_machine_actor.specs.PlainActor.{PlainActor}
use Rattle.txs_value_cell.specs.Cells.{validators_of}
use Rattle.txs_value_cell.specs.declared.cell.CellDefinition.{CellDefinition}
use Rattle.txs_code_meaning.specs.PlainCode.{PlainCode}
use Rattle.txs_machine_loop.specs.Values.{last_of}
use Rattle.txs_machine_actor.specs.Turns.{CanCheck, Check, IsLook, Transacts, WhereValid, write_check}
use Rattle.txs_machine_actor.proofs.Looking.{value_there}
use Rattle.txs_machine_turn.proofs.judge.write_valid.Goals as goal

pub write_checked-requires-clause-value : goal.write_checked-requires-clause-value
write_checked-requires-clause-value c =
    let d = c.args.code.now in
    let a = c.args.actor.now in
    let cells = c.cells-cells.ensures ∙ ap (λ (k : PlainCode). k.cells) c.code.ensures.value in
    let x : Check = record { callee = c.in-Some.check.0; value = last_of a.values; span = c.in-Some.check.1 } in
    let h = subst (λ (ds : List CellDefinition). IsLook (Some c.in-Some.check) (last_of a.values) (write_check (validators_of ds) a c.args.instr c.args.span)) cells c.in-Some.ensures in
    value_there (validators_of d.cells) a c.args.span c.args.instr x h c.requires.can

pub write_checked-requires-clause-judges : goal.write_checked-requires-clause-judges
write_checked-requires-clause-judges c =
    let d = c.args.code.now in
    let a = c.args.actor.now in
    let cells = c.cells-cells.ensures ∙ ap (λ (k : PlainCode). k.cells) c.code.ensures.value in
    let h = subst (λ (ds : List CellDefinition). IsLook (Some c.in-Some.check) (last_of a.values) (write_check (validators_of ds) a c.args.instr c.args.span)) cells c.in-Some.ensures in
    subst (λ (o : Option Check). CanCheck d o) h c.requires.check

pub returns-in-None : goal.returns-in-None
returns-in-None c =
    let d = c.args.code.now in
    let a = c.args.actor.now in
    let r = c.on_transaction.new.turn in
    let b = c.on_transaction.new.self in
    let cells = c.cells-cells.ensures ∙ ap (λ (k : PlainCode). k.cells) c.code.ensures.value in
    let h = subst (λ (ds : List CellDefinition). IsLook None (last_of a.values) (write_check (validators_of ds) a c.args.instr c.args.span)) cells c.in-None.ensures in
    let made = subst (λ (ds : List CellDefinition). Transacts (validators_of ds) a c.args.instr c.args.span c.args.next r b) cells c.on_transaction.ensures in
    subst (λ (o : Option Check). WhereValid d a o (λ (y : PlainActor). Transacts (validators_of d.cells) y c.args.instr c.args.span c.args.next r b) r b) (sym h) made

pub returns-in-Some : goal.returns-in-Some
returns-in-Some c =
    let d = c.args.code.now in
    let a = c.args.actor.now in
    let r = c.write_checked.new.turn in
    let b = c.write_checked.new.actor in
    let cells = c.cells-cells.ensures ∙ ap (λ (k : PlainCode). k.cells) c.code.ensures.value in
    let h = subst (λ (ds : List CellDefinition). IsLook (Some c.in-Some.check) (last_of a.values) (write_check (validators_of ds) a c.args.instr c.args.span)) cells c.in-Some.ensures in
    subst (λ (o : Option Check). WhereValid d a o (λ (y : PlainActor). Transacts (validators_of d.cells) y c.args.instr c.args.span c.args.next r b) r b) (sym h) c.write_checked.ensures
