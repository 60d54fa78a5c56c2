use Rattle.txs_world.proofs.Serves.{refused_is_undisturbed}
use Rattle.txs_world.proofs.law.refused_is_undisturbed.Goals as goal

pub returns : goal.returns
returns c = λ cells a at view sets commuted ensured sends book g h. refused_is_undisturbed cells a at view sets commuted ensured sends book g h
