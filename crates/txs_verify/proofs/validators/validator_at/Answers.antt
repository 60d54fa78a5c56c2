use Rattle.std.proofs.Common.{get_or}
use Rattle.txs_verify.proofs.Lists.{nth_is}
use Rattle.txs_verify.proofs.Validated.{validator_there}
use Rattle.txs_verify.proofs.validators.validator_at.Goals as goal

pub returns : goal.returns
returns c =
    let d = c.index-cells-number.result in
    validator_there c.args.cells.now c.args.number (get_or c.args.cells.now c.args.number d) (nth_is c.args.cells.now c.args.number d c.requires)
