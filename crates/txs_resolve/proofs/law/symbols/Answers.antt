use Rattle.txs_resolve.proofs.Symbols as symbols
use Rattle.txs_resolve.proofs.law.symbols.Goals as goal

pub returns-clause-local : goal.returns-clause-local
returns-clause-local c = symbols.local

pub returns-clause-constant : goal.returns-clause-constant
returns-clause-constant c = symbols.constant

pub returns-clause-cell : goal.returns-clause-cell
returns-clause-cell c = symbols.cell

pub returns-clause-unknown : goal.returns-clause-unknown
returns-clause-unknown c = symbols.nothing
