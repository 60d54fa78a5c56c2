use Rattle.std.proofs.Common.{false, true, length, refl, ap, sym, ◌∙◌, arith}
use Rattle.std.proofs.lemmas.Bool.{false≢true}
use Rattle.txs_world_protocol.proofs.Comparing.{next_same, same_at, all_same, values_test}
use Rattle.txs_world_protocol.proofs.same.same_values.Goals as goal

pub loop-i-preserved : goal.loop-i-preserved
loop-i-preserved c =
    next_same c.args.a.now c.args.b.now c.loop-i.i c.index-a-i.result c.index-b-i.result c.if-a-b.false c.loop-i-test.true c.loop-i.invariant c.index-a-i.is c.index-b-i.is (c.same.ensures.0 c.if-not-same.false)

pub returns-then-a-b-clause-equal : goal.returns-then-a-b-clause-equal
returns-then-a-b-clause-equal c = (λ t. absurd (false≢true t), λ e. absurd (c.if-a-b.true (ap length e)))

pub returns-then-not-same-clause-equal : goal.returns-then-not-same-clause-equal
returns-then-not-same-clause-equal c = (
  λ t. absurd (false≢true t),
  λ e. absurd (false≢true (sym c.if-not-same.true ∙ c.same.ensures.1 (same_at c.args.a.now c.args.b.now c.loop-i.i c.index-a-i.result c.index-b-i.result c.loop-i-test.true c.index-a-i.is c.index-b-i.is e))),
)

pub returns-clause-equal : goal.returns-clause-equal
returns-clause-equal c = (λ t. all_same c.args.a.now c.args.b.now c.loop-i.i c.if-a-b.false (omega (arith, c.loop-i-test.false)) c.loop-i.invariant, λ e. refl)

pub returns-then-a-b-clause-test : goal.returns-then-a-b-clause-test
returns-then-a-b-clause-test c = values_test c.args.a.now c.args.b.now false (returns-then-a-b-clause-equal c)

pub returns-then-not-same-clause-test : goal.returns-then-not-same-clause-test
returns-then-not-same-clause-test c = values_test c.args.a.now c.args.b.now false (returns-then-not-same-clause-equal c)

pub returns-clause-test : goal.returns-clause-test
returns-clause-test c = values_test c.args.a.now c.args.b.now true (returns-clause-equal c)
