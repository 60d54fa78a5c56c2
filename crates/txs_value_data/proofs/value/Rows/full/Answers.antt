use Rattle.std.proofs.Common.{rules}
use Rattle.txs_value_data.proofs.RowsLemmas.{length-both}
use Rattle.txs_value_data.proofs.value.Rows.full.Goals as goal

pub returns : goal.returns
returns c =
    let all = length-both c.self.inside.branches.items c.self.inside.leaves.items c.args.self.now c.self.invariant.0 c.self.invariant.1 c.self.view_is in
    search (rules, all)
