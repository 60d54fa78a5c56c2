use Rattle.std.proofs.Common.{◌≡◌, drop}
use Rattle.txs_reader.specs.Tree.{trees}
use Rattle.txs_cli_advice_script.specs.Forms.{first_items}
use Rattle.txs_cli_advice_script.proofs.script.first_vector.Given as goal

abbrev pub invariant-loop-form : goal.invariant-loop-form
invariant-loop-form l = first_items (trees (drop l.form-index l.forms)) ≡ first_items (trees l.forms)
