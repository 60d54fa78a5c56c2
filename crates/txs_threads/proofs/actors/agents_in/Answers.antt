use Rattle.std.proofs.Common.{◌≡◌, ◌∙◌, List, length, ap, arith}
use Rattle.txs_value_cell.specs.Agents.{agents_from}
use Rattle.txs_value_cell.specs.declared.cell.CellDefinition.{CellDefinition}
use Rattle.txs_code_meaning.specs.PlainCode.{PlainCode}
use Rattle.txs_threads.proofs.Answered.{still}
use Rattle.txs_threads.proofs.actors.agents_in.Goals as goal

pub list_agents-requires : goal.list_agents-requires
list_agents-requires c =
    let same : c.cells-cells.result.now ≡ c.args.code.now.cells = c.cells-cells.ensures ∙ ap (λ (x : PlainCode). x.cells) c.code.ensures.value in
    let many = ap (λ (l : List CellDefinition). length l) same in
    let few = c.requires in
    omega (arith, many, few)

pub returns : goal.returns
returns c =
    let same : c.cells-cells.result.now ≡ c.args.code.now.cells = c.cells-cells.ensures ∙ ap (λ (x : PlainCode). x.cells) c.code.ensures.value in
    still c.list_agents.result c.list_agents.ensures (λ v e. e ∙ ap (agents_from 0) same)
