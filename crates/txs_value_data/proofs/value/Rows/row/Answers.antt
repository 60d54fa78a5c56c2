use Rattle.std.proofs.Common.{◌*◌, rules}
use Rattle.txs_value_data.proofs.WindowLemmas.{branch_row, branch-window, leaf_row, leaves-window}
use Rattle.txs_value_data.proofs.value.Rows.row.Goals as goal

pub row_in-requires-clause-there : goal.row_in-requires-clause-there
row_in-requires-clause-there c =
    let there = branch_row c.self.inside.branches.items c.self.inside.leaves.items c.args.self.now c.self.invariant.0 c.self.invariant.1 c.self.view_is c.args.number (c.len-before.result * 32) (search rules) c.if-number-before.true
    c.index-branch.result.now c.index-branch.ensures in
    search (rules, there)

pub returns-then-number-before : goal.returns-then-number-before
returns-then-number-before c =
    let here = branch-window c.self.inside.branches.items c.self.inside.leaves.items c.args.self.now c.self.invariant.0 c.self.invariant.1 c.self.view_is c.args.number (c.len-before.result * 32) (search rules) c.if-number-before.true
    c.index-branch.result.now c.index-branch.ensures in
    search (rules, here)

pub row_in-requires-2-clause-there : goal.row_in-requires-2-clause-there
row_in-requires-2-clause-there c =
    let there = leaf_row c.self.inside.branches.items c.self.inside.leaves.items c.args.self.now c.self.invariant.0 c.self.invariant.1 c.self.view_is c.args.number (c.len-before.result * 32) (search rules) c.if-number-before.false c.requires in
    search (rules, there)

pub returns : goal.returns
returns c =
    let here = leaves-window c.self.inside.branches.items c.self.inside.leaves.items c.args.self.now c.self.invariant.0 c.self.invariant.1 c.self.view_is c.args.number (c.len-before.result * 32) (search rules) c.if-number-before.false in
    search (rules, here)
