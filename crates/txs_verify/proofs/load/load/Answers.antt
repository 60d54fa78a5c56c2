use Rattle.txs_verify.specs.Verdict.{AreLeastRooms}
use Rattle.txs_verify.proofs.Kept.{of_its_own}
use Rattle.txs_verify.proofs.load.load.Goals as goal

pub returns-in-Ok-clause-least : goal.returns-in-Ok-clause-least
returns-in-Ok-clause-least c =
    of_its_own c.check.result c.in-Ok.code (λ r. r.0) (λ code r. AreLeastRooms code r.1.functions.items r.1.threads.items) c.check.ensures.kept c.check.ensures.least
