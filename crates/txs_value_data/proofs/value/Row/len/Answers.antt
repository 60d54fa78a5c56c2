use Rattle.std.proofs.Common.{ap, arith, length}
use Rattle.txs_value_data.proofs.ItemsLemmas.{length-plains_of}
use Rattle.txs_value_data.proofs.value.Row.len.Goals as goal

pub returns : goal.returns
returns c = omega (arith, c.self.inside.items.ok.0, ap length c.self.view_is, length-plains_of c.self.inside.items.items)
