use Rattle.std.proofs.Common.{◌≡◌, List, ◌∙◌, ap, sym, subst, inl, inr}
use Rattle.txs_code_meaning.specs.PlainCode.{PlainCode}
use Rattle.txs_value_cell.specs.Cells.{validators_of}
use Rattle.txs_value_cell.specs.declared.cell.CellDefinition.{CellDefinition}
use Rattle.txs_world_protocol.specs.declared.event.Outcome.TheVariants as outcome
use Rattle.txs_machine_actor.specs.PlainActor.{PlainActor, stops_as}
use Rattle.txs_machine_actor.specs.Turns.{CanTask, TasksAs, at_next_task, at_tasks, end_check, heeded}
use Rattle.txs_machine_turn.proofs.judge.end_valid.Goals as goal

pub end_at_task-requires-clause-can : goal.end_at_task-requires-clause-can
end_at_task-requires-clause-can c =
    let d = c.args.code.now in
    let a = c.args.actor.now in
    let cells = c.cells-cells.ensures ∙ ap (λ (k : PlainCode). k.cells) c.code.ensures.value in
    let begun = c.begin_tasks.ensures.begun c.if-begin_tasks.true ∙ ap (λ (ds : List CellDefinition). at_tasks (validators_of ds) a a.tx) cells in
    let same : c.heed.new.actor ≡ at_next_task (validators_of d.cells) a = c.heed.ensures ∙ ap (λ (y : PlainActor). heeded y y.tx) begun in
    subst (λ (y : PlainActor). CanTask d y (end_check y.tx y.done)) (sym same) c.requires.can

pub returns-then-begin_tasks : goal.returns-then-begin_tasks
returns-then-begin_tasks c =
    let d = c.args.code.now in
    let a = c.args.actor.now in
    let cells = c.cells-cells.ensures ∙ ap (λ (k : PlainCode). k.cells) c.code.ensures.value in
    let begun = c.begin_tasks.ensures.begun c.if-begin_tasks.true ∙ ap (λ (ds : List CellDefinition). at_tasks (validators_of ds) a a.tx) cells in
    let same : c.heed.new.actor ≡ at_next_task (validators_of d.cells) a = c.heed.ensures ∙ ap (λ (y : PlainActor). heeded y y.tx) begun in
    inl (subst (λ (y : PlainActor). TasksAs d y (end_check y.tx y.done) c.args.span c.args.next c.end_at_task.new.turn c.end_at_task.new.actor) same c.end_at_task.ensures)

pub returns : goal.returns
returns c = inr (c.end.ensures.answer, c.end.ensures.ended ∙ ap (λ (y : PlainActor). stops_as y outcome.Memory) (c.begin_tasks.ensures.kept c.if-begin_tasks.false))
