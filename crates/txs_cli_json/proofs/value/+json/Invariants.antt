use Rattle.std.proofs.Common.{◌≡◌, take}
use Rattle.serde_json.specs.View.{items_view}
use Rattle.txs_cli_json.specs.ValueForm.{items_json}
use Rattle.txs_value_data.specs.PlainValue.{plain_row, plain_size, row_size}
use Rattle.txs_value_data.specs.View.{plain_of}
use Rattle.txs_cli_json.proofs.value.+json.Given as goal

abbrev pub decreases-items_json : goal.decreases-items_json
decreases-items_json l = row_size l.items.now

abbrev pub decreases-value_json : goal.decreases-value_json
decreases-value_json l = plain_size (plain_of l.value.now)

-- the items so far
abbrev pub invariant-items_json-loop-i : goal.invariant-items_json-loop-i
invariant-items_json-loop-i l = items_view l.list.items ≡ items_json l.cells (plain_row (take l.i l.items))
