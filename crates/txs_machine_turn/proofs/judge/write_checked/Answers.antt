use Rattle.std.proofs.Common.{◌≡◌, Bool, true, false, List, Option, Some, None, ◌∙◌, ap, sym, subst, rules}
use Rattle.txs_machine_actor.specs.PlainActor.{PlainActor}
use Rattle.txs_value_cell.specs.Cells.{validators_of}
use Rattle.txs_value_cell.specs.declared.cell.CellDefinition.{CellDefinition}
use Rattle.txs_code_meaning.specs.PlainCode.{PlainCode}
use Rattle.txs_machine_loop.specs.Values.{last_of}
use Rattle.txs_machine_actor.specs.Turns.{ByVerdict, CanTransact, Check, Transacts, unjudged}
use Rattle.txs_machine_turn.proofs.judge.write_checked.Goals as goal

pub on_transaction-requires-clause-can : goal.on_transaction-requires-clause-can
on_transaction-requires-clause-can c = subst (λ (y : PlainActor). CanTransact y c.args.instr) (sym c.set_accepted.ensures) c.requires.can

pub returns-in_default : goal.returns-in_default
returns-in_default c =
    let d = c.args.code.now in
    let a = c.args.actor.now in
    let x : Check = record { callee = c.args.check.0; value = last_of a.values; span = c.args.check.1 } in
    let r = c.judge_last.new.turn in
    let b = c.judge_last.new.actor in
    let e : a.accepted ≡ None = search rules in
    subst (λ (o : Option Bool). ByVerdict d a x o (λ (y : PlainActor). Transacts (validators_of d.cells) y c.args.instr c.args.span c.args.next r b) r b) (sym e) c.judge_last.ensures

pub returns-then-accepts : goal.returns-then-accepts
returns-then-accepts c =
    let d = c.args.code.now in
    let a = c.args.actor.now in
    let x : Check = record { callee = c.args.check.0; value = last_of a.values; span = c.args.check.1 } in
    let r = c.on_transaction.new.turn in
    let b = c.on_transaction.new.self in
    let e : a.accepted ≡ Some true = search rules in
    let cells = c.cells-cells.ensures ∙ ap (λ (k : PlainCode). k.cells) c.code.ensures.value in
    let made = subst (λ (ds : List CellDefinition). Transacts (validators_of ds) (unjudged a) c.args.instr c.args.span c.args.next r b) cells
    (subst (λ (y : PlainActor). Transacts (validators_of c.cells-cells.result.now) y c.args.instr c.args.span c.args.next r b) c.set_accepted.ensures c.on_transaction.ensures) in
    subst (λ (o : Option Bool). ByVerdict d a x o (λ (y : PlainActor). Transacts (validators_of d.cells) y c.args.instr c.args.span c.args.next r b) r b) (sym e) made

pub returns : goal.returns
returns c =
    let d = c.args.code.now in
    let a = c.args.actor.now in
    let x : Check = record { callee = c.args.check.0; value = last_of a.values; span = c.args.check.1 } in
    let r = c.refuse.new.turn in
    let b = c.refuse.new.actor in
    let e : a.accepted ≡ Some false = search rules in
    subst (λ (o : Option Bool). ByVerdict d a x o (λ (y : PlainActor). Transacts (validators_of d.cells) y c.args.instr c.args.span c.args.next r b) r b) (sym e) c.refuse.ensures
