use Rattle.std.proofs.Common.{◌≡◌, ◌++◌, codes, length, subst}
use Rattle.txs_cli_json.specs.Cells.{cell_lines}
use Rattle.txs_cli_json.specs.Json.{AddsLines, times}
use Rattle.txs_cli_json.proofs.CellLines.{cells_among}
use Rattle.txs_cli_json.proofs.JsonLines.{four_lines}
use Rattle.txs_cli_json.proofs.run.add_lines.Goals as goal

pub returns-clause-ok : goal.returns-clause-ok
returns-clause-ok c =
    let report = c.args.run.report.now in
    let second = c.add_agents.new.out.items in
    let third = c.add_cells.new.out.items in
    let cells = subst (λ vs. AddsLines (times (length vs) (codes "cell")) second third) c.as_slice.ensures.value c.in_ok-add_cells.ensures.ok in
    four_lines c.add_events.result (times (length report.threads.items) (codes "thread")) (times (length report.agents.items) (codes "agent")) (times (length report.cells.items) (codes "cell")) (times (length c.args.run.notes.now) (codes "event"))
    c.args.out.now.items c.add_threads.new.out.items second third c.add_events.new.out.items
    c.in_ok-add_threads.ensures.ok c.in_ok-add_agents.ensures.ok cells c.add_events.ensures.ok

pub returns-clause-cells : goal.returns-clause-cells
returns-clause-cells c =
    let report = c.args.run.report.now in
    let second = c.add_agents.new.out.items in
    let third = c.add_cells.new.out.items in
    let cells = subst (λ vs. third ≡ second ++ cell_lines c.args.run.cells.now 0 vs) c.as_slice.ensures.value c.in_ok-add_cells.ensures.whole in
    cells_among c.add_events.result (times (length report.threads.items) (codes "thread")) (times (length report.agents.items) (codes "agent")) (times (length c.args.run.notes.now) (codes "event")) c.args.run.cells.now report.cells.items
    c.args.out.now.items c.add_threads.new.out.items second third c.add_events.new.out.items
    c.in_ok-add_threads.ensures.ok c.in_ok-add_agents.ensures.ok cells c.add_events.ensures.ok
