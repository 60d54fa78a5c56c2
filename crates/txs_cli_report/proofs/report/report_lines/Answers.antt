use Rattle.std.proofs.Common.{◌≡◌, ◌≤◌, ◌++◌, ◌∙◌, ℕ, List, ap, append_assoc, length, subst, sym}
use Rattle.txs_cli_report.proofs.OfAgents.{all_named_from}
use Rattle.txs_cli_report.specs.AgentLines.{named_from}
use Rattle.txs_cli_report.specs.Lent.{lines_of, script_of}
use Rattle.txs_cli_report.specs.Lines.{all_printed}
use Rattle.txs_cli_report.specs.Told.{EndsTold, cells_told, events_told, run_status}
use Rattle.txs_value_cell.specs.declared.cell.CellDefinition.{CellDefinition}
use Rattle.txs_world_shared.specs.SharedState.{numbered_book}
use Rattle.txs_cli_report.proofs.report.report_lines.Goals as goal

pub of_report-requires-clause-one_each : goal.of_report-requires-clause-one_each
of_report-requires-clause-one_each c =
    let code = c.args.code.now in
    c.requires.one_each ∙ sym (all_named_from 0 code.cells) ∙ ap (λ (ds : List CellDefinition). length (named_from 0 ds)) (sym c.cells-cells.ensures)

-- the state is of the code's cells, of which there are few
pub of_report-requires-clause-few_cells : goal.of_report-requires-clause-few_cells
of_report-requires-clause-few_cells c = subst (λ (ds : List CellDefinition). length ds ≤ 1000) (sym c.cells-cells.ensures) c.requires.few_cells

pub of_report-requires-clause-made : goal.of_report-requires-clause-made
of_report-requires-clause-made c = c.requires.made ∙ sym c.cells-cells.ensures

pub tell_book-requires-clause-few : goal.tell_book-requires-clause-few
tell_book-requires-clause-few c = subst (λ (ds : List CellDefinition). length ds ≤ 1000) (sym c.cells-cells.ensures) c.requires.few_cells

pub tell_book-requires-clause-made : goal.tell_book-requires-clause-made
tell_book-requires-clause-made c = c.requires.made ∙ sym c.cells-cells.ensures

pub returns : goal.returns
returns c =
    let code = c.args.code.now in
    let shared = c.args.shared.now in
    let rans = c.args.report.now.threads.items in
    let agents = c.args.report.now.agents.items in
    let options = c.args.options in
    let script = script_of c.args.script in
    let t = c.in_ok-told.ensures in
    let first = c.in_ok-told.told.output.items in
    let book = c.in_ok-tell_book.ensures in
    let told = lines_of c.tell_book.new.told in
    let printed = all_printed (rans ++ agents) in
    let cells = cells_told options.cells code.cells shared in
    let events = events_told options.events (numbered_book shared 0) in
    let lines : told.output ≡ cells ++ events = book.output ∙ ap (λ (ds : List CellDefinition). (first ++ cells_told options.cells ds shared) ++ events) c.cells-cells.ensures ∙ ap (λ (xs : List ℕ). (xs ++ cells) ++ events) t.output in
    record {
      output = ap (λ (xs : List ℕ). printed ++ xs) lines ∙ sym (append_assoc printed cells events);
      errors = subst (λ (ds : List CellDefinition). EndsTold ds script shared rans agents told.errors) c.cells-cells.ensures (subst (EndsTold c.cells-cells.result.now script shared rans agents) (sym book.errors) t.errors);
      status = book.status ∙ t.status ∙ ap (λ (ds : List CellDefinition). run_status ds shared rans agents) c.cells-cells.ensures;
    }
