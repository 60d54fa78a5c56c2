use Rattle.std.proofs.Common.{ap, ◌∙◌}
use Rattle.txs_resolve_expand.specs.Parts.{told}
use Rattle.txs_resolve_expand.proofs.Tables.{guard_none}
use Rattle.txs_resolve_expand.proofs.plans.guarded.Goals as goal

pub returns-in_err-test-clause-core : goal.returns-in_err-test-clause-core
returns-in_err-test-clause-core c scope s =
    ap (told s) c.from_residual.ensures ∙ guard_none scope s c.args.turned c.args.args.now c.in_err-test.ensures.cases
