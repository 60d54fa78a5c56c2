use Rattle.std.proofs.Common.{◌≡◌, take}
use Rattle.txs_reader.specs.Tree.{trees}
use Rattle.txs_cli_advice_script.specs.Forms.{last_definition}
use Rattle.txs_cli_advice_script.proofs.script.definition_of.Given as goal

abbrev pub invariant-loop-form : goal.invariant-loop-form
invariant-loop-form l = trees l.found ≡ last_definition l.name (trees (take l.form-index l.forms))
