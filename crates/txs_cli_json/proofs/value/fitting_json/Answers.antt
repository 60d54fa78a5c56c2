use Rattle.txs_value_data.specs.View.{plain_of}
use Rattle.txs_cli_json.proofs.ValueFacts.{fitting_shallow, fitting_whole}
use Rattle.txs_cli_json.proofs.value.fitting_json.Goals as goal

pub returns-clause-shallow : goal.returns-clause-shallow
returns-clause-shallow c = fitting_shallow c.args.cells.now (plain_of c.args.value.now) c.value_json.result c.know_depth.ensures c.value_json.ensures

pub returns-clause-whole : goal.returns-clause-whole
returns-clause-whole c = fitting_whole c.args.cells.now (plain_of c.args.value.now) c.value_json.result c.value_json.ensures
