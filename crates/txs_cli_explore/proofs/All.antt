-- Each run by workers has a written outcome.
use Rattle.std.proofs.Common.{◌≡◌, inl, inr, ◌∙◌, ◌++◌, ℕ, suc, true, false, List, [], ◌∷◌, map, refl, sym, ap}
use Rattle.txs_cli_report.specs.CellLines.{cell_line, cell_lines}
use Rattle.txs_cli_report.specs.Lines.{Script, all_printed}
use Rattle.txs_cli_report.specs.Told.{Told, ReportTells}
use Rattle.txs_code_meaning.specs.PlainCode.{PlainCode}
use Rattle.txs_explore.specs.Laws.{WorkersAreListed}
use Rattle.txs_explore.specs.Reported.{entries_of, entry_end, reported}
use Rattle.txs_explore.specs.Told.{explored}
use Rattle.txs_explore.specs.Ways.{as_way, as_ways}
use Rattle.txs_explore.specs.declared.ways.Way.{Way}
use Rattle.txs_machine.specs.declared.schedule.Entries.{Entries}
use Rattle.txs_explore.specs.Runners as runs
use Rattle.txs_explore.specs.Runners.{asking}
use Rattle.txs_explore.specs.Search as searched
use Rattle.txs_explore.specs.System.{IsIn}
use Rattle.txs_value_cell.specs.declared.cell.CellDefinition.{CellDefinition}
use Rattle.txs_value_data.specs.declared.value.CellId.{CellId}
use Rattle.txs_value_data.specs.declared.value.Value.{Value}
use Rattle.txs_world_protocol.specs.declared.report.ActorReport.{ActorReport}
use Rattle.txs_world_shared.specs.Parts.{values_from}
use Rattle.txs_world_shared.specs.SharedState.{PlainShared, newest_of}
use Rattle.txs_cli_explore.specs.Laws.{WrittenOutcomesAreAll}

-- ---- runs with the same end

-- what actors with these ends printed
abbrev ends_printed : List runs.End → List ℕ
ends_printed [] = []
ends_printed (e ∷ es) = e.printed ++ ends_printed es

printed_by_ends : (rs : List ActorReport) → all_printed rs ≡ ends_printed (map entry_end rs)
printed_by_ends [] = refl
printed_by_ends (r ∷ rs) = ap (λ l. r.printed.items ++ l) (printed_by_ends rs)

-- the lines of cells with these values
abbrev lines_by : List Value → List CellDefinition → List ℕ
lines_by [] ds = []
lines_by (v ∷ vs) [] = []
lines_by (v ∷ vs) (d ∷ ds) = cell_line d.name v ++ lines_by vs ds

lines_by_values : (w : CellId → Value) (n : ℕ) (ds : List CellDefinition) → cell_lines w n ds ≡ lines_by (values_from w n ds) ds
lines_by_values w n [] = refl
lines_by_values w n (d ∷ ds) = ap (λ l. cell_line d.name (w (record { kind = d.kind; number = n })) ++ l) (lines_by_values w (suc n) ds)

-- they tell the same on the standard output
same_output : (code : PlainCode) (script : Script) (s r : PlainShared) (e f : Entries) (t u : Told) → s.cells ≡ code.cells → r.cells ≡ code.cells → reported s e ≡ reported r f → ReportTells code script s e true false t → ReportTells code script r f true false u
    → t.output ≡ u.output
same_output code script s r e f t u p q same a b =
    let printed : all_printed (entries_of e) ≡ all_printed (entries_of f) = printed_by_ends (entries_of e) ∙ ap (λ (x : runs.Ending). ends_printed x.actors) same ∙ sym (printed_by_ends (entries_of f)) in
    let values : values_from (newest_of s) 0 code.cells ≡ values_from (newest_of r) 0 code.cells =
    ap (values_from (newest_of s) 0) (sym p) ∙ ap (λ (x : runs.Ending). x.cells) same ∙ ap (values_from (newest_of r) 0) q
    in
    let cells : cell_lines (newest_of s) 0 code.cells ≡ cell_lines (newest_of r) 0 code.cells =
    lines_by_values (newest_of s) 0 code.cells ∙ ap (λ vs. lines_by vs code.cells) values ∙ sym (lines_by_values (newest_of r) 0 code.cells)
    in
    a.output ∙ ap (λ (l : List ℕ). (l ++ cell_lines (newest_of s) 0 code.cells) ++ []) printed ∙ ap (λ (l : List ℕ). (all_printed (entries_of f) ++ l) ++ []) cells ∙ sym b.output

-- ---- all runs

-- a way as the laws of searches have it is one of those that are listed
listed : (code : PlainCode) (limit : ℕ) (v : searched.Way (asking (explored code limit))) (ws : List Way) → IsIn v (as_ways code limit ws) → (w : Way) × IsIn w ws × (v ≡ as_way code limit w)
listed code limit v [] i = absurd i
listed code limit v (w ∷ ws) (inl e) = (w, inl refl, e)
listed code limit v (w ∷ ws) (inr i) = let h = listed code limit v ws i in (h.0, inr h.1, h.2)

pub written_all : WorkersAreListed → WrittenOutcomesAreAll
written_all law code script limit same lists t told whole s entries worked =
    let end = law code limit told.ways told.script (told.all whole) s entries worked in
    let way = listed code limit end.0 told.ways end.1 in
    let o = told.are.all way.0 way.1 in
    let ran = o.2.ran in
    let alike : reported ran.shared ran.entries ≡ reported s entries = sym ran.ending ∙ sym (ap (λ v. v.outcome) way.2) ∙ sym end.2 in
    (o.0, o.1, way.0, o.2, alike, λ u h. same_output code script s ran.shared entries ran.entries u o.2.told worked.of.cells ran.worked.of.cells (sym alike) h ran.told)
