use Rattle.std.proofs.Common.{rules}
use Rattle.txs_world_shared.proofs.atoms.atom_named.Goals as goal

pub returns-then-eq : goal.returns-then-eq
returns-then-eq c = search rules

pub returns-else-eq : goal.returns-else-eq
returns-else-eq c = search rules
