-- The lines of cells, one behind the other.
use Rattle.std.proofs.Common.{◌≡◌, ◌≤◌, ◌<◌, ◌+◌, ◌++◌, ◌∷◌, ◌∙◌, [], ℕ, suc, List, length, get_or, drop, Result, Ok, Err, sym, ap, append_assoc, arith}
use Rattle.std.specs.Prelude.{OnOk}
use Rattle.std.proofs.lemmas.List.{append-nil, drop_all, drop_more}
use Rattle.serde_json.specs.Written.{compact_text}
use Rattle.txs_cli_json.specs.Cells.{AddsCells, cell_json, cell_lines}
use Rattle.txs_cli_json.specs.Json.{AddsLines}
use Rattle.txs_value_cell.specs.declared.cell.CellDefinition.{CellDefinition}
use Rattle.txs_value_data.specs.declared.value.Value.{Value}

-- one more line, before those to come
pub cell_next : (cells : List CellDefinition) (vs : List Value) (i : ℕ) (v : Value) (out new all : List ℕ) → i < length vs → v ≡ get_or vs i v → new ≡ out ++ (compact_text (cell_json cells i v) ++ 10 ∷ [])
    → out ++ cell_lines cells i (drop i vs) ≡ all → new ++ cell_lines cells (i + 1) (drop (i + 1) vs) ≡ all
cell_next cells vs i v out new all l is h so_far =
    let next : i + 1 ≡ suc i = omega arith in
    let line = compact_text (cell_json cells i v) ++ 10 ∷ [] in
    let rest = drop (i + 1) vs in
    ap (λ (xs : List ℕ). xs ++ cell_lines cells (i + 1) rest) h
    ∙ append_assoc out line (cell_lines cells (i + 1) rest)
    ∙ ap (λ (n : ℕ). out ++ (line ++ cell_lines cells n rest)) next
    ∙ ap (λ (x : Value). out ++ cell_lines cells i (x ∷ rest)) is
    ∙ ap (λ (xs : List Value). out ++ cell_lines cells i xs) (sym (drop_more vs i v l))
    ∙ so_far

-- behind the last cell no lines are to come
pub cells_all : (cells : List CellDefinition) (vs : List Value) (i : ℕ) (out all : List ℕ) → length vs ≤ i → out ++ cell_lines cells i (drop i vs) ≡ all → out ≡ all
cells_all cells vs i out all past so_far = sym (append-nil out) ∙ ap (λ (xs : List Value). out ++ cell_lines cells i xs) (sym (drop_all i vs past)) ∙ so_far

-- the lines of cells among others
pub cells_among : {A E : Type 0} (r : Result A E) (a b d : List (List ℕ)) (cells : List CellDefinition) (values : List Value) (old first second third new : List ℕ) → AddsLines a old first → AddsLines b first second
    → third ≡ second ++ cell_lines cells 0 values → OnOk r (AddsLines d third new) → OnOk r (AddsCells cells values old new)
cells_among (Ok x) a b d cells values old first second third new p q s h =
    let lines = cell_lines cells 0 values in
    record {
      before = p.0 ++ q.0;
      behind = h.0;
      is = h.2 ∙ ap (λ (t : List ℕ). t ++ h.0) (s ∙ ap (λ (t : List ℕ). t ++ lines) (q.2 ∙ ap (λ (t : List ℕ). t ++ q.0) p.2 ∙ append_assoc old p.0 q.0) ∙ append_assoc old (p.0 ++ q.0) lines)
          ∙ append_assoc old ((p.0 ++ q.0) ++ lines) h.0 ∙ ap (λ (t : List ℕ). old ++ t) (append_assoc (p.0 ++ q.0) lines h.0);
    }
cells_among (Err x) a b d cells values old first second third new p q s h = tt
