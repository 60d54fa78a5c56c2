use Rattle.std.proofs.Common.{Err, sym, ap, ◌∙◌}
use Rattle.txs_resolve_expand.specs.Parts.{told}
use Rattle.txs_resolve_expand.proofs.plans.shaped.Goals as goal

pub returns-in-Some-clause-core : goal.returns-in-Some-clause-core
returns-in-Some-clause-core c scope = ap (told c.args.spot) (sym c.in-Some.is) ∙ c.special.ensures.core scope c.args.spot

pub returns-in-None-clause-core : goal.returns-in-None-clause-core
returns-in-None-clause-core c scope = ap (λ e. Err e) c.refusal.ensures ∙ ap (told c.args.spot) (sym c.in-None.is) ∙ c.special.ensures.core scope c.args.spot
