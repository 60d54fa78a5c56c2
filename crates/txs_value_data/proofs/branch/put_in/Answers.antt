use Rattle.std.proofs.Common.{◌/◌, set, refl, rules, arith}
use Rattle.txs_value_data.specs.Rows.{joined}
use Rattle.txs_value_data.specs.View.{plain_of}
use Rattle.txs_value_data.proofs.RowsLemmas.{row_there, place_there, rows-set, AreRows-set}
use Rattle.txs_value_data.proofs.branch.put_in.Goals as goal

pub index_mut-leaf-requires : goal.index_mut-leaf-requires
index_mut-leaf-requires c =
    let there = row_there 32 32 (omega arith) c.args.leaves.now.items (joined c.args.leaves.now.items) c.requires.rows refl c.args.place c.requires.there in
    search (rules, there)

pub set-requires : goal.set-requires
set-requires c =
    let at = place_there 32 32 (omega arith) c.args.leaves.now.items (joined c.args.leaves.now.items) c.requires.rows refl c.args.place c.requires.there c.index_mut-leaf.result.now c.index_mut-leaf.ensures.value in
    search (rules, at)

pub returns-clause-ok : goal.returns-clause-ok
returns-clause-ok c =
    let cs = c.args.leaves.now.items in
    let us = set cs (c.args.place / 32) c.set.new.self in
    rows-set 32 32 (omega arith) cs (joined cs) c.requires.rows refl c.args.place c.requires.there us c.index_mut-leaf.result.now c.set.new.self (plain_of c.args.item) refl c.index_mut-leaf.ensures.value (search rules)

pub returns-clause-rows : goal.returns-clause-rows
returns-clause-rows c =
    let cs = c.args.leaves.now.items in
    let us = set cs (c.args.place / 32) c.set.new.self in
    AreRows-set 32 32 (omega arith) cs (joined cs) c.requires.rows refl c.args.place c.requires.there us c.index_mut-leaf.result.now c.set.new.self (plain_of c.args.item) refl c.index_mut-leaf.ensures.value (search rules)
