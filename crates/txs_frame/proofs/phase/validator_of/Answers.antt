use Rattle.std.proofs.Common.{sym, ◌∙◌, ap}
use Rattle.txs_value_cell.specs.declared.cell.CellDefinition.{CellDefinition}
use Rattle.txs_frame.proofs.Phasing.{validator_found, no_validator}
use Rattle.txs_frame.proofs.phase.validator_of.Goals as goal

pub returns-in-Some : goal.returns-in-Some
returns-in-Some c = ap (λ (d : CellDefinition). d.validator) c.in-Some.ensures.lookup.1 ∙ validator_found c.args.cells.now c.args.number c.in-Some.cell.now (sym c.in-Some.ensures.lookup.0)

pub returns-in-None : goal.returns-in-None
returns-in-None c = no_validator c.args.cells.now c.args.number (sym c.in-None.ensures.lookup.0)
