use Rattle.std.proofs.Common.{arith}
use Rattle.std.proofs.lemmas.Grind.{common_steps}
use Rattle.txs_world_shared.proofs.atoms.serve_at.Goals as goal

pub serve_atom-requires : goal.serve_atom-requires
serve_atom-requires c = grind (arith, common_steps)

pub returns : goal.returns
returns c = grind (arith, common_steps)
