-- A value's JSON nests one level deeper than it at most, and has no fraction.
use Rattle.std.proofs.Common.{◌≡◌, ◌≤◌, ◌+◌, ◌++◌, ◌∷◌, [], ℕ, List, length, take, Some, sym, Result, Ok, Err, Bool, true, false, ◌||◌, pos, negsuc, refl, ap, ◌∙◌, arith}
use Rattle.std.specs.Prelude.{IfOk}
use Rattle.std.specs.List.{slice_get}
use Rattle.std.proofs.lemmas.List.{take_all}
use Rattle.serde_json.specs.Data.{Data, Items, no_items, item, depth, items_depth}
use Rattle.serde_json.specs.View.{view, items_view}
use Rattle.serde_json.specs.declared.value.Value.{Value}
use Rattle.serde_json.specs.Written.{has_float, items_have_float}
use Rattle.txs_cli_json.specs.ValueForm.{value_json, items_json}
use Rattle.txs_value_cell.specs.declared.cell.CellDefinition.{CellDefinition}
use Rattle.txs_value_data.specs.PlainValue as plain
use Rattle.txs_value_data.specs.PlainValue.{PlainValue, nil, truth, int, key, text, vector, cell, PlainValues, end, more, row_depth, plain_row}
use Rattle.txs_value_data.proofs.PlacesLemmas.{take_next}

mutual
  pub json_depth : (cells : List CellDefinition) (d : PlainValue) → depth (value_json cells d) ≤ plain.depth d + 1
  json_depth cells nil = omega arith
  json_depth cells (truth b) = omega arith
  json_depth cells (int z) = omega arith
  json_depth cells (key bs) = omega arith
  json_depth cells (text bs) = omega arith
  json_depth cells (vector ds) = omega (arith, json_items_depth cells ds)
  json_depth cells (cell c) = omega arith

  pub json_items_depth : (cells : List CellDefinition) (ds : PlainValues) → items_depth (items_json cells ds) ≤ row_depth ds + 1
  json_items_depth cells end = omega arith
  json_items_depth cells (more d ds) = omega (arith, json_depth cells d, json_items_depth cells ds)

neither : (a b : Bool) → a ≡ false → b ≡ false → (a || b) ≡ false
neither true b p q = p
neither false b p q = q

mutual
  pub json_whole : (cells : List CellDefinition) (d : PlainValue) → has_float (value_json cells d) ≡ false
  json_whole cells nil = refl
  json_whole cells (truth b) = refl
  json_whole cells (int (pos n)) = refl
  json_whole cells (int (negsuc n)) = refl
  json_whole cells (key bs) = refl
  json_whole cells (text bs) = refl
  json_whole cells (vector ds) = json_items_whole cells ds
  json_whole cells (cell c) = refl

  pub json_items_whole : (cells : List CellDefinition) (ds : PlainValues) → items_have_float (items_json cells ds) ≡ false
  json_items_whole cells end = refl
  json_items_whole cells (more d ds) = neither (has_float (value_json cells d)) _ (json_whole cells d) (json_items_whole cells ds)

-- ---- items one by one

abbrev snoc : Items → Data → Items
snoc no_items e = item e no_items
snoc (item d ds) e = item d (snoc ds e)

view_snoc : (vs : List Value) (v : Value) → items_view (vs ++ v ∷ []) ≡ snoc (items_view vs) (view v)
view_snoc [] v = refl
view_snoc (w ∷ vs) v = ap (λ ds. item (view w) ds) (view_snoc vs v)

json_snoc : (cells : List CellDefinition) (ds : List PlainValue) (d : PlainValue) → items_json cells (plain_row (ds ++ d ∷ [])) ≡ snoc (items_json cells (plain_row ds)) (value_json cells d)
json_snoc cells [] d = refl
json_snoc cells (e ∷ ds) d = ap (λ js. item (value_json cells e) js) (json_snoc cells ds d)

-- one more item
pub json_next : (cells : List CellDefinition) (ds : List PlainValue) (i : ℕ) (d : PlainValue) (vs new : List Value) (v : Value) → slice_get ds i ≡ Some d → items_view vs ≡ items_json cells (plain_row (take i ds))
    → view v ≡ value_json cells d → new ≡ vs ++ v ∷ [] → items_view new ≡ items_json cells (plain_row (take (i + 1) ds))
json_next cells ds i d vs new v at before is pushed =
    ap items_view pushed ∙ view_snoc vs v ∙ (λ j. snoc (before j) (is j)) ∙ sym (json_snoc cells (take i ds) d) ∙ ap (λ es. items_json cells (plain_row es)) (sym (take_next ds i d at))

-- all items
pub json_all : (cells : List CellDefinition) (ds : List PlainValue) (i : ℕ) (vs : List Value) → length ds ≤ i → items_view vs ≡ items_json cells (plain_row (take i ds)) → items_view vs ≡ items_json cells (plain_row ds)
json_all cells ds i vs past h = h ∙ ap (λ es. items_json cells (plain_row es)) (take_all i ds past)

-- a value of at most 32 levels fits
pub fitting_shallow : {E : Type 0} (cells : List CellDefinition) (d : PlainValue) (r : Result Value E) → plain.depth d ≤ 32 → IfOk r (λ v. view v ≡ value_json cells d) → IfOk r (λ v. depth (view v) ≤ 33)
fitting_shallow cells d (Ok v) small is = rw is (omega (arith, small, json_depth cells d))
fitting_shallow cells d (Err e) small is = tt

-- it has no fraction
pub fitting_whole : {E : Type 0} (cells : List CellDefinition) (d : PlainValue) (r : Result Value E) → IfOk r (λ v. view v ≡ value_json cells d) → IfOk r (λ v. has_float (view v) ≡ false)
fitting_whole cells d (Ok v) is = rw is (json_whole cells d)
fitting_whole cells d (Err e) is = tt
