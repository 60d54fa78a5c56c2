use Rattle.std.proofs.Common.{◌≡◌, ◌≤◌, ◌<◌, ◌+◌, ◌++◌, ◌∷◌, ◌∙◌, [], ℕ, suc, List, length, get_or, drop, rules, arith, refl, sym, ap, append_assoc, subst, true}
use Rattle.std.proofs.lemmas.List.{append-nil, drop_all, drop_more}
use Rattle.txs_world_book.specs.Book.{has_cell}
use Rattle.txs_world_book.specs.Served.{cells_of}
use Rattle.txs_world_shared.specs.SharedState.{newest_of}
use Rattle.txs_cli_report.specs.CellLines.{cell_line, cell_lines}
use Rattle.txs_value_data.proofs.PrintedLemmas.{Extends-after}
use Rattle.txs_value_data.specs.declared.value.CellId.{CellId}
use Rattle.txs_value_data.specs.declared.value.Value.{Value}
use Rattle.txs_value_cell.specs.declared.cell.CellDefinition.{CellDefinition}
use Rattle.txs_world_shared.proofs.There.{there}
use Rattle.txs_cli_report.proofs.cells.append_cells.Goals as goal

-- one more line, before those to come
lines_more : (w : CellId → Value) (ds : List CellDefinition) (i : ℕ) (d : CellDefinition) (v : Value) (out new all : List ℕ) → i < length ds → d ≡ get_or ds i d → v ≡ w (record { kind = d.kind; number = i })
    → new ≡ out ++ cell_line d.name v → out ++ cell_lines w i (drop i ds) ≡ all → new ++ cell_lines w (i + 1) (drop (i + 1) ds) ≡ all
lines_more w ds i d v out new all l e is h so_far =
    let next : i + 1 ≡ suc i = omega arith in
    let rest = drop (i + 1) ds in
    ap (λ (xs : List ℕ). xs ++ cell_lines w (i + 1) rest) h
    ∙ append_assoc out (cell_line d.name v) (cell_lines w (i + 1) rest)
    ∙ ap (λ (x : Value). out ++ (cell_line d.name x ++ cell_lines w (i + 1) rest)) is
    ∙ ap (λ (n : ℕ). out ++ (cell_line d.name (w (record { kind = d.kind; number = i })) ++ cell_lines w n rest)) next
    ∙ ap (λ (x : CellDefinition). out ++ cell_lines w i (x ∷ rest)) e
    ∙ ap (λ (xs : List CellDefinition). out ++ cell_lines w i xs) (sym (drop_more ds i d l))
    ∙ so_far

pub newest-requires : goal.newest-requires
newest-requires c =
    let i = c.loop-i.i in
    let d = c.index-cells-i.result in
    let within : i < length c.args.cells.now = search rules in
    subst (λ (ds : List CellDefinition). has_cell (cells_of ds) (record { kind = d.kind; number = i }) ≡ true) (sym c.requires.made) (there c.args.cells.now i d within c.index-cells-i.is)

pub returns-in_err-write_cell-clause-kept : goal.returns-in_err-write_cell-clause-kept
returns-in_err-write_cell-clause-kept c =
    let so_far = c.loop-i.invariant.kept in
    Extends-after c.args.output.now.items so_far.more c.loop-i.output.items c.write_cell.new.output.items so_far.is c.write_cell.ensures.kept

pub loop-i-preserved : goal.loop-i-preserved
loop-i-preserved c =
    let so_far = c.loop-i.invariant.kept in
    let ds = c.args.cells.now in
    let i = c.loop-i.i in
    let d = c.index-cells-i.result in
    let within : i < length ds = search rules in
    let read : d ≡ get_or ds i d = search rules in
    record {
      lines = lines_more (newest_of c.args.shared.now) ds i d c.newest.result.now c.loop-i.output.items c.write_cell.new.output.items _ within read c.newest.ensures c.in_ok-write_cell.ensures.ok c.loop-i.invariant.lines;
      kept = Extends-after c.args.output.now.items so_far.more c.loop-i.output.items c.write_cell.new.output.items so_far.is c.write_cell.ensures.kept;
    }

pub loop-i-init : goal.loop-i-init
loop-i-init c = record { lines = refl; kept = record { more = []; is = sym (append-nil c.args.output.now.items) } }

-- behind the last cell no lines are to come
pub returns-clause-ok : goal.returns-clause-ok
returns-clause-ok c =
    let ds = c.args.cells.now in
    let i = c.loop-i.i in
    let out = c.loop-i.output.items in
    let past : length ds ≤ i = search rules in
    sym (append-nil out) ∙ ap (λ (xs : List CellDefinition). out ++ cell_lines (newest_of c.args.shared.now) i xs) (sym (drop_all i ds past)) ∙ c.loop-i.invariant.lines

pub returns-clause-kept : goal.returns-clause-kept
returns-clause-kept c = c.loop-i.invariant.kept
