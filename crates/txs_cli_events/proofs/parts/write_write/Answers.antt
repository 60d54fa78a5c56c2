use Rattle.std.proofs.Common.{◌++◌, ◌∙◌, ℕ, List, ap}
use Rattle.std.specs.Prelude.{codes}
use Rattle.txs_value_data.specs.View.{plain_of}
use Rattle.txs_cli_events.specs.LongLines.{write_mark}
use Rattle.txs_cli_events.specs.Run.{cell_name}
use Rattle.txs_cli_events.specs.Shown.{shown}
use Rattle.txs_cli_events.proofs.Pieces.{on_ok, pair_more}
use Rattle.txs_cli_events.proofs.parts.write_write.Goals as goal

pub returns : goal.returns
returns c =
    let old = c.args.out.now.items in
    let write = c.args.write.now in
    let first = c.write_name.new.out.items in
    let new = c.write_value.new.out.items in
    let name = cell_name c.args.run.cells.now write.0.number in
    let marked = c.in_ok-write_name.ensures ∙ ap (λ (mark : List ℕ). old ++ (mark ++ name)) c.write_mark.ensures in
    on_ok c.write_value.result (pair_more old (write_mark c.args.i ++ name) first (codes " = ") (shown (plain_of write.1)) new marked) c.write_value.ensures
