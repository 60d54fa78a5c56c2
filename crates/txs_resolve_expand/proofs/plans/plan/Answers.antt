use Rattle.std.proofs.Common.{rules, sym, ap, ◌∙◌}
use Rattle.txs_resolve_expand.specs.Expansions.{expand_once}
use Rattle.txs_resolve_expand.specs.Expressions.{core_of}
use Rattle.txs_resolve_expand.specs.Parts.{part_form}
use Rattle.txs_resolve_expand.proofs.plans.plan.Goals as goal

pub returns-in-List-clause-core : goal.returns-in-List-clause-core
returns-in-List-clause-core c =
    c.shaped.ensures.core c.args.scope.now
    ∙ ap (λ p. core_of c.args.scope.now c.args.spot (expand_once (part_form c.args.spot.span p))) (sym c.in-List.is)

pub returns-in-List-clause-fits : goal.returns-in-List-clause-fits
returns-in-List-clause-fits c = c.shaped.ensures.fits c.args.scope.now

pub returns-after-is_or-clause-core : goal.returns-after-is_or-clause-core
returns-after-is_or-clause-core c = search rules
