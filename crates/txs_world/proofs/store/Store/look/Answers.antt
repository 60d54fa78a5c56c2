use Rattle.std.proofs.Common.{◌∙◌, Some, sym, ap}
use Rattle.txs_world_book.specs.Book.{opening}
use Rattle.txs_world.proofs.Answering.{looked, looked_not, looked_lost, lost_legal}
use Rattle.txs_world.proofs.store.Store.look.Goals as goal

pub rerun-requires-clause-legal : goal.rerun-requires-clause-legal
rerun-requires-clause-legal c =
    let s = c.args.self.now in
    lost_legal s (opening s.cells) c.args.actor c.args.cell c.args.at c.requires.cell c.requires.place (sym c.in-None.ensures)

pub returns-in-Ok : goal.returns-in-Ok
returns-in-Ok c =
    let s = c.args.self.now in
    looked s (opening s.cells) c.args.actor c.args.cell c.args.at c.in-Ok.value (sym c.in-Some.ensures ∙ ap Some (sym c.in-Ok.ensures))

pub returns-in-Err : goal.returns-in-Err
returns-in-Err c =
    let s = c.args.self.now in
    looked_not s (opening s.cells) c.args.actor c.args.cell c.args.at c.in-Some.value.now (sym c.in-Some.ensures)

pub returns-in-None : goal.returns-in-None
returns-in-None c =
    let s = c.args.self.now in
    looked_lost s (opening s.cells) c.args.actor c.args.cell c.args.at c.rerun.result c.rerun.new.self (sym c.in-None.ensures) c.rerun.ensures
