use Rattle.std.proofs.Common.{rules}
use Rattle.txs_value_data.proofs.RowsLemmas.{length-both}
use Rattle.txs_value_data.proofs.value.Rows.len.Goals as goal

pub returns-clause-value : goal.returns-clause-value
returns-clause-value c =
    let all = length-both c.self.inside.branches.items c.self.inside.leaves.items c.args.self.now c.self.invariant.0 c.self.invariant.1 c.self.view_is in
    search (rules, all)
