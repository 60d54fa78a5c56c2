use Rattle.std.proofs.Common.{rules}
use Rattle.txs_value_data.proofs.WindowLemmas.{leaf_there, leaf-window}
use Rattle.txs_value_data.proofs.branch.row_in.Goals as goal

pub offset_bounds-leaves-number : goal.offset_bounds-leaves-number
offset_bounds-leaves-number c =
    let there = leaf_there c.args.leaves.now c.requires.rows c.args.number c.requires.there in
    search (rules, there)

pub bounds-leaves-number : goal.bounds-leaves-number
bounds-leaves-number c = leaf_there c.args.leaves.now c.requires.rows c.args.number c.requires.there

pub returns : goal.returns
returns c =
    let is = leaf-window c.args.leaves.now c.requires.rows c.args.number c.requires.there c.index-leaves-number.result c.index-leaves-number.is in
    search (rules, is)
