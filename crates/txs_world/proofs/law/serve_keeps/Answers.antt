use Rattle.txs_world.proofs.Serves.{serve_stands}
use Rattle.txs_world.proofs.law.serve_keeps.Goals as goal

pub returns : goal.returns
returns c = serve_stands
