use Rattle.std.proofs.Common.{◌≡◌, ◌∙◌, List, length, ap, arith}
use Rattle.txs_value_cell.specs.Agents.{agents_from}
use Rattle.txs_value_cell.specs.declared.cell.CellDefinition.{CellDefinition}
use Rattle.txs_value_cell.proofs.AgentsLemmas.{agents_few}
use Rattle.txs_code_meaning.specs.PlainCode.{PlainCode}
use Rattle.txs_machine.proofs.schedule.count_actors.Goals as goal

pub overflow_cast-result : goal.overflow_cast-result
overflow_cast-result c =
    let ds = c.args.code.now.cells in
    let same : c.cells-cells.result.now ≡ ds = c.cells-cells.ensures ∙ ap (λ (x : PlainCode). x.cells) c.code.ensures.value in
    let agents : c.count_agents-agents.result ≡ length (agents_from 0 ds) = c.count_agents-agents.ensures ∙ ap (λ (l : List CellDefinition). length (agents_from 0 l)) same in
    let few = agents_few 0 ds in
    omega (arith, agents, few, c.requires.few)

pub overflow_add-result : goal.overflow_add-result
overflow_add-result c =
    let ds = c.args.code.now.cells in
    let same : c.cells-cells.result.now ≡ ds = c.cells-cells.ensures ∙ ap (λ (x : PlainCode). x.cells) c.code.ensures.value in
    let agents : c.count_agents-agents.result ≡ length (agents_from 0 ds) = c.count_agents-agents.ensures ∙ ap (λ (l : List CellDefinition). length (agents_from 0 l)) same in
    let few = agents_few 0 ds in
    omega (arith, agents, few, c.requires.many, c.requires.few)
