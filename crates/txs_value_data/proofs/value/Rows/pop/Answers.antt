use Rattle.std.proofs.Common.{◌≡◌, ◌<◌, [], length, ap, ◌∙◌, rules}
use Rattle.txs_value_data.specs.Rows.{joined}
use Rattle.txs_value_data.proofs.RowsLemmas.{leaves-pop, leaves_popped, leaf_popped, branches_popped, leaf_left, branches-pop, branch_leaves, branch_leaf}
use Rattle.txs_value_data.proofs.value.Rows.pop.Goals as goal

pub invariant_of-self : goal.invariant_of-self
invariant_of-self c =
    (c.self.invariant.0, leaves_popped c.self.inside.branches.items c.self.inside.leaves.items c.args.self.now c.self.invariant.0 c.self.invariant.1 c.self.view_is c.pop.new.self.items c.in-Some.last c.in-Some.ensures.items)

pub returns-in-Some-clause-rest : goal.returns-in-Some-clause-rest
returns-in-Some-clause-rest c =
    leaves-pop c.self.inside.branches.items c.self.inside.leaves.items c.args.self.now c.self.invariant.0 c.self.invariant.1 c.self.view_is c.pop.new.self.items c.in-Some.last c.in-Some.ensures.items

pub returns-in-Some-clause-full : goal.returns-in-Some-clause-full
returns-in-Some-clause-full c =
    leaf_popped c.self.inside.branches.items c.self.inside.leaves.items c.args.self.now c.self.invariant.0 c.self.invariant.1 c.self.view_is c.pop.new.self.items c.in-Some.last c.in-Some.ensures.items

pub invariant_of-self-in_err-leaves : goal.invariant_of-self-in_err-leaves
invariant_of-self-in_err-leaves c =
    let none : c.self.inside.leaves.items ≡ [] = search rules in
    let left : c.pop.new.self.items ≡ [] = search rules in (
      branches_popped c.self.inside.branches.items c.self.inside.leaves.items c.args.self.now c.self.invariant.0 c.self.invariant.1 c.self.view_is none c.pop-2.new.self.items c.in-Some-pop.branch c.in-Some-pop.ensures.items,
      rw (left) (tt, search rules),
    )

pub unreachable-requires-in_default-pop-2 : goal.unreachable-requires-in_default-pop-2
unreachable-requires-in_default-pop-2 c =
    let none : c.self.inside.leaves.items ≡ [] = search rules in
    let some : 0 < length c.in_ok-leaves.leaves.items =
    leaf_left c.self.inside.branches.items c.self.inside.leaves.items c.args.self.now c.self.invariant.0 c.self.invariant.1 c.self.view_is none c.pop-2.new.self.items c.in_ok-leaves.leaves.items c.in-Some-pop.branch
    c.in-Some-pop.ensures.items (rw c.in_ok-leaves.ensures c.branch.invariant) (ap joined c.in_ok-leaves.ensures ∙ c.branch.view_is) in
    search (rules, some)

pub invariant_of-self-2 : goal.invariant_of-self-2
invariant_of-self-2 c =
    let none : c.self.inside.leaves.items ≡ [] = search rules in (
      branches_popped c.self.inside.branches.items c.self.inside.leaves.items c.args.self.now c.self.invariant.0 c.self.invariant.1 c.self.view_is none c.pop-2.new.self.items c.in-Some-pop.branch c.in-Some-pop.ensures.items,
      branch_leaves c.self.inside.branches.items c.self.inside.leaves.items c.args.self.now c.self.invariant.0 c.self.invariant.1 c.self.view_is none c.pop-2.new.self.items c.in_ok-leaves.leaves.items c.in-Some-pop.branch
          c.in-Some-pop.ensures.items (rw c.in_ok-leaves.ensures c.branch.invariant) (ap joined c.in_ok-leaves.ensures ∙ c.branch.view_is) c.pop-3.new.self.items c.in-Some-pop-2.last c.in-Some-pop-2.ensures.items,
    )

pub returns-clause-rest : goal.returns-clause-rest
returns-clause-rest c =
    let none : c.self.inside.leaves.items ≡ [] = search rules in
    branches-pop c.self.inside.branches.items c.self.inside.leaves.items c.args.self.now c.self.invariant.0 c.self.invariant.1 c.self.view_is none c.pop-2.new.self.items c.in_ok-leaves.leaves.items c.in-Some-pop.branch
    c.in-Some-pop.ensures.items (rw c.in_ok-leaves.ensures c.branch.invariant) (ap joined c.in_ok-leaves.ensures ∙ c.branch.view_is) c.pop-3.new.self.items c.in-Some-pop-2.last c.in-Some-pop-2.ensures.items

pub returns-clause-full : goal.returns-clause-full
returns-clause-full c =
    let none : c.self.inside.leaves.items ≡ [] = search rules in
    branch_leaf c.self.inside.branches.items c.self.inside.leaves.items c.args.self.now c.self.invariant.0 c.self.invariant.1 c.self.view_is none c.pop-2.new.self.items c.in_ok-leaves.leaves.items c.in-Some-pop.branch
    c.in-Some-pop.ensures.items (rw c.in_ok-leaves.ensures c.branch.invariant) (ap joined c.in_ok-leaves.ensures ∙ c.branch.view_is) c.pop-3.new.self.items c.in-Some-pop-2.last c.in-Some-pop-2.ensures.items
