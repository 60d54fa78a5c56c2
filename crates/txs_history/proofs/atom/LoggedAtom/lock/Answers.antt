use Rattle.std.proofs.Common.{◌≡◌, ◌≤◌, suc, ap, ◌∙◌, arith}
use Rattle.txs_value_data.specs.declared.value.CellId.{CellId}
use Rattle.txs_world_protocol.specs.SeenEvent.{atoms_below}
use Rattle.txs_world_shared.proofs.Placing.{few_below}
use Rattle.txs_history.proofs.Asking.{atom_there}
use Rattle.txs_history.proofs.atom.LoggedAtom.lock.Goals as goal

pub returns-clause-few : goal.returns-clause-few
returns-clause-few g c =
    let cells = g.J.Run.code.cells in
    let cell = c.self.inside.atom.cell in
    let is : c.key.result ≡ suc (atoms_below cells cell.number) = c.key.ensures.number ∙ (c.self.invariant.key ∙ (atom_there cells cell c.self.invariant.there).home_is) in
    let below : atoms_below cells cell.number ≤ cell.number = few_below cells cell.number in
    omega (arith, is, below, c.fits.ensures, ap (λ (d : CellId). d.number) c.cell.ensures)
