use Rattle.std.proofs.Common.{◌≡◌, sym, subst}
use Rattle.txs_resolve_expand.specs.Parts.{plain, table, told}
use Rattle.txs_resolve_expand.proofs.plans.special.Goals as goal

pub returns-in-If-clause-core : goal.returns-in-If-clause-core
returns-in-If-clause-core c scope s = subst (λ n. told s c.either.result ≡ table n scope s (plain c.args.args.now)) (sym c.in-If.is) (c.either.ensures.core scope s)

pub returns-in-IfNot-clause-core : goal.returns-in-IfNot-clause-core
returns-in-IfNot-clause-core c scope s = subst (λ n. told s c.either-in-IfNot.result ≡ table n scope s (plain c.args.args.now)) (sym c.in-IfNot.is) (c.either-in-IfNot.ensures.core scope s)

pub returns-in-Let-clause-core : goal.returns-in-Let-clause-core
returns-in-Let-clause-core c scope s = subst (λ n. told s c.binding.result ≡ table n scope s (plain c.args.args.now)) (sym c.in-Let.is) (c.binding.ensures.core scope s)

pub returns-in-Loop-clause-core : goal.returns-in-Loop-clause-core
returns-in-Loop-clause-core c scope s = subst (λ n. told s c.binding-in-Loop.result ≡ table n scope s (plain c.args.args.now)) (sym c.in-Loop.is) (c.binding-in-Loop.ensures.core scope s)

pub returns-in-If-clause-fits : goal.returns-in-If-clause-fits
returns-in-If-clause-fits c = c.either.ensures.fits

pub returns-in-IfNot-clause-fits : goal.returns-in-IfNot-clause-fits
returns-in-IfNot-clause-fits c = c.either-in-IfNot.ensures.fits

pub returns-in-When-clause-core : goal.returns-in-When-clause-core
returns-in-When-clause-core c scope s = subst (λ n. told s c.guarded.result ≡ table n scope s (plain c.args.args.now)) (sym c.in-When.is) (c.guarded.ensures.core scope s)

pub returns-in-When-clause-fits : goal.returns-in-When-clause-fits
returns-in-When-clause-fits c = c.guarded.ensures.fits

pub returns-in-WhenNot-clause-core : goal.returns-in-WhenNot-clause-core
returns-in-WhenNot-clause-core c scope s = subst (λ n. told s c.guarded-in-WhenNot.result ≡ table n scope s (plain c.args.args.now)) (sym c.in-WhenNot.is) (c.guarded-in-WhenNot.ensures.core scope s)

pub returns-in-WhenNot-clause-fits : goal.returns-in-WhenNot-clause-fits
returns-in-WhenNot-clause-fits c = c.guarded-in-WhenNot.ensures.fits

pub returns-in-And-clause-core : goal.returns-in-And-clause-core
returns-in-And-clause-core c scope s = subst (λ n. told s c.logic.result ≡ table n scope s (plain c.args.args.now)) (sym c.in-And.is) (c.logic.ensures.core scope s)

pub returns-in-And-clause-fits : goal.returns-in-And-clause-fits
returns-in-And-clause-fits c = c.logic.ensures.fits

pub returns-in-Or-clause-core : goal.returns-in-Or-clause-core
returns-in-Or-clause-core c scope s = subst (λ n. told s c.logic-in-Or.result ≡ table n scope s (plain c.args.args.now)) (sym c.in-Or.is) (c.logic-in-Or.ensures.core scope s)

pub returns-in-Or-clause-fits : goal.returns-in-Or-clause-fits
returns-in-Or-clause-fits c = c.logic-in-Or.ensures.fits

pub returns-in-Cond-clause-core : goal.returns-in-Cond-clause-core
returns-in-Cond-clause-core c scope s = subst (λ n. told s c.cond.result ≡ table n scope s (plain c.args.args.now)) (sym c.in-Cond.is) (c.cond.ensures.core scope s)

pub returns-in-Cond-clause-fits : goal.returns-in-Cond-clause-fits
returns-in-Cond-clause-fits c = c.cond.ensures.fits

pub returns-in-Let-clause-fits : goal.returns-in-Let-clause-fits
returns-in-Let-clause-fits c = c.binding.ensures.fits

pub returns-in-Loop-clause-fits : goal.returns-in-Loop-clause-fits
returns-in-Loop-clause-fits c = c.binding-in-Loop.ensures.fits
