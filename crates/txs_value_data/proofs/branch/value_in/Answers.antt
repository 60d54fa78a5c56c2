use Rattle.std.proofs.Common.{refl, ◌∙◌, arith}
use Rattle.txs_value_data.specs.Rows.{joined}
use Rattle.txs_value_data.proofs.RowsLemmas.{row_there, place_there, rows-get}
use Rattle.txs_value_data.proofs.branch.value_in.Goals as goal

pub bounds-leaves-place : goal.bounds-leaves-place
bounds-leaves-place c = row_there 32 32 (omega arith) c.args.leaves.now (joined c.args.leaves.now) c.requires.rows refl c.args.place c.requires.there

pub get-requires : goal.get-requires
get-requires c = place_there 32 32 (omega arith) c.args.leaves.now (joined c.args.leaves.now) c.requires.rows refl c.args.place c.requires.there c.index-leaves-place.result c.index-leaves-place.is

pub returns : goal.returns
returns c =
    rows-get 32 32 (omega arith) c.args.leaves.now (joined c.args.leaves.now) c.requires.rows refl c.args.place c.requires.there c.index-leaves-place.result c.index-leaves-place.is ∙ c.get.ensures
