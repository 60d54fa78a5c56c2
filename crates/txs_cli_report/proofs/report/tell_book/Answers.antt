use Rattle.std.proofs.Common.{◌≡◌, ◌++◌, ◌∙◌, ℕ, List, ap}
use Rattle.txs_world_shared.specs.SharedState.{numbered_book}
use Rattle.txs_cli_report.specs.Told.{cells_told, events_told}
use Rattle.txs_cli_report.proofs.Fronts.{no_err, no_ok, on_ok}
use Rattle.txs_cli_report.proofs.report.tell_book.Goals as goal

pub returns-else-is_err-clause-output : goal.returns-else-is_err-clause-output
returns-else-is_err-clause-output c =
    let old = c.args.told.now.output.items in
    let between = c.tell_cells.new.output.items in
    let new = c.tell_events-done.new.output.items in
    let cells = cells_told c.args.options.cells c.args.cells.now c.args.shared.now in
    let events = events_told c.args.options.events (numbered_book c.args.shared.now 0) in
    on_ok c.tell_events-done.result (new ≡ between ++ events) (new ≡ (old ++ cells) ++ events) (λ is. is ∙ ap (λ (l : List ℕ). l ++ events) c.in_ok-tell_cells.ensures.output) c.tell_events-done.ensures.output

pub returns-then-is_err-clause-output : goal.returns-then-is_err-clause-output
returns-then-is_err-clause-output c = no_ok c.tell_events-done.result _ c.if-is_err.ensures.value

pub returns-else-is_err-clause-unchanged : goal.returns-else-is_err-clause-unchanged
returns-else-is_err-clause-unchanged c = no_err c.tell_events-done.result _ c.if-is_err.ensures.value
