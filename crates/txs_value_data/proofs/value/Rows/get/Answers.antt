use Rattle.std.proofs.Common.{◌*◌, ◌-◌, ◌∙◌, rules}
use Rattle.txs_value_data.proofs.RowsLemmas.{branch_place, both-get, leaf_place, leaves-get}
use Rattle.txs_value_data.proofs.value.Rows.get.Goals as goal

pub get-requires : goal.get-requires
get-requires c =
    branch_place c.self.inside.branches.items c.self.inside.leaves.items c.args.self.now c.self.invariant.0 c.self.invariant.1 c.self.view_is c.args.place (c.len-before.result * 1024) (search rules) c.if-place-before.true
    c.index-branch.result.now c.index-branch.ensures

pub returns-then-place-before : goal.returns-then-place-before
returns-then-place-before c =
    both-get c.self.inside.branches.items c.self.inside.leaves.items c.args.self.now c.self.invariant.0 c.self.invariant.1 c.self.view_is c.args.place (c.len-before.result * 1024) (search rules) c.if-place-before.true
    c.index-branch.result.now c.index-branch.ensures
    ∙ c.get.ensures

pub value_in-requires-clause-there : goal.value_in-requires-clause-there
value_in-requires-clause-there c =
    let there = leaf_place c.self.inside.branches.items c.self.inside.leaves.items c.args.self.now c.self.invariant.0 c.self.invariant.1 c.self.view_is c.args.place (c.len-before.result * 1024) (search rules) c.if-place-before.false c.requires in
    rw c.as_slice.ensures.value there

pub returns : goal.returns
returns c =
    leaves-get c.self.inside.branches.items c.self.inside.leaves.items c.args.self.now c.self.invariant.0 c.self.invariant.1 c.self.view_is c.args.place (c.len-before.result * 1024) (search rules) c.if-place-before.false
    ∙ (rw c.as_slice.ensures.value at c.value_in.ensures)
