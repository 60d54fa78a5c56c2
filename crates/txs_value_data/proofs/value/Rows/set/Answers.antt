use Rattle.std.proofs.Common.{◌*◌, ◌/◌, ◌-◌, set, refl, rules}
use Rattle.txs_value_data.specs.View.{plain_of}
use Rattle.txs_value_data.proofs.RowsLemmas.{branch_place, branches-set, both-set, leaf_place, leaves-set}
use Rattle.txs_value_data.proofs.value.Rows.set.Goals as goal

pub set-requires : goal.set-requires
set-requires c =
    branch_place c.self.inside.branches.items c.self.inside.leaves.items c.args.self.now c.self.invariant.0 c.self.invariant.1 c.self.view_is c.args.place (c.len-before.result * 1024) (search rules) c.if-place-before.true
    c.index_mut-branch.result.now c.index_mut-branch.ensures.value

pub invariant_of-self-then-place-before : goal.invariant_of-self-then-place-before
invariant_of-self-then-place-before c =
    let bs = c.self.inside.branches.items in
    let us = set bs (c.args.place / 1024) c.set.new.self in (
      branches-set bs c.self.inside.leaves.items c.args.self.now c.self.invariant.0 c.self.invariant.1 c.self.view_is c.args.place (c.len-before.result * 1024) (search rules) c.if-place-before.true us
          c.index_mut-branch.result.now c.set.new.self (plain_of c.args.item) refl c.index_mut-branch.ensures.value (search rules),
      c.self.invariant.1,
    )

pub returns-then-place-before : goal.returns-then-place-before
returns-then-place-before c =
    let bs = c.self.inside.branches.items in
    let us = set bs (c.args.place / 1024) c.set.new.self in
    record { ok = both-set bs c.self.inside.leaves.items c.args.self.now c.self.invariant.0 c.self.invariant.1 c.self.view_is c.args.place (c.len-before.result * 1024) (search rules) c.if-place-before.true us c.index_mut-branch.result.now c.set.new.self (plain_of c.args.item) refl c.index_mut-branch.ensures.value (search rules) }

pub put_in-requires-clause-there : goal.put_in-requires-clause-there
put_in-requires-clause-there c =
    leaf_place c.self.inside.branches.items c.self.inside.leaves.items c.args.self.now c.self.invariant.0 c.self.invariant.1 c.self.view_is c.args.place (c.len-before.result * 1024) (search rules) c.if-place-before.false c.requires

pub returns : goal.returns
returns c =
    record { ok = leaves-set c.self.inside.branches.items c.self.inside.leaves.items c.args.self.now c.self.invariant.0 c.self.invariant.1 c.self.view_is c.args.place (c.len-before.result * 1024) (search rules) c.if-place-before.false c.put_in.new.leaves.items (plain_of c.args.item) c.in_ok-put_in.ensures.ok }
