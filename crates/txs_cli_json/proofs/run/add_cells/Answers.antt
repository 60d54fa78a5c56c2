use Rattle.std.proofs.Common.{◌≡◌, ◌++◌, ◌<◌, ◌≤◌, get_or, length, codes, refl, rules}
use Rattle.txs_cli_json.specs.Cells.{cell_lines}
use Rattle.txs_cli_json.proofs.CellLines.{cell_next, cells_all}
use Rattle.txs_cli_json.proofs.JsonLines.{lines_none, lines_next, lines_all, lines_kept, lines_kept_by}
use Rattle.txs_cli_json.proofs.run.add_cells.Goals as goal

pub loop-number-init : goal.loop-number-init
loop-number-init c = record { lines = lines_none (length c.args.values.now) (codes "cell") c.args.out.now.items; whole = refl }

pub loop-number-preserved : goal.loop-number-preserved
loop-number-preserved c =
    let i = c.loop-number.number in
    let vs = c.args.values.now in
    let v = c.index-values-number.result in
    let within : i < length vs = search rules in
    let read : v ≡ get_or vs i v = search rules in
    record {
      lines = lines_next i (length vs) (codes "cell") c.args.out.now.items c.loop-number.out.items c.add_cell.new.out.items within c.loop-number.invariant.lines c.in_ok-add_cell.ensures.ok;
      whole = cell_next c.args.cells.now vs i v c.loop-number.out.items c.add_cell.new.out.items (c.args.out.now.items ++ cell_lines c.args.cells.now 0 vs) within read c.in_ok-add_cell.ensures.whole c.loop-number.invariant.whole;
    }

pub returns-clause-whole : goal.returns-clause-whole
returns-clause-whole c =
    let past : length c.args.values.now ≤ c.loop-number.number = search rules in
    cells_all c.args.cells.now c.args.values.now c.loop-number.number c.loop-number.out.items (c.args.out.now.items ++ cell_lines c.args.cells.now 0 c.args.values.now) past c.loop-number.invariant.whole

pub returns-clause-ok : goal.returns-clause-ok
returns-clause-ok c =
    let past : length c.args.values.now ≤ c.loop-number.number = search rules in
    lines_all c.loop-number.number (length c.args.values.now) (codes "cell") c.args.out.now.items c.loop-number.out.items past c.loop-number.invariant.lines

pub returns-clause-kept : goal.returns-clause-kept
returns-clause-kept c = lines_kept _ c.args.out.now.items c.loop-number.out.items c.loop-number.invariant.lines

pub returns-in_err-add_cell-clause-kept : goal.returns-in_err-add_cell-clause-kept
returns-in_err-add_cell-clause-kept c = lines_kept_by _ c.args.out.now.items c.loop-number.out.items c.add_cell.new.out.items c.loop-number.invariant.lines (search (rules, c.add_cell.ensures.err))
