use Rattle.std.proofs.Common.{◌<◌, ◌∙◌, length, refl, ap, subst, sym, arith}
use Rattle.std.proofs.lemmas.Bool.{false≢true}
use Rattle.txs_world_protocol.proofs.Comparing.{next_same, same_at, all_same}
use Rattle.txs_explore.proofs.ending.same_ends.Goals as goal

pub loop-i-preserved : goal.loop-i-preserved
loop-i-preserved c =
    next_same c.args.a.now c.args.b.now c.loop-i.i c.index-a-i.result c.index-b-i.result c.if-a-b.false c.loop-i-test.true c.loop-i.invariant c.index-a-i.is c.index-b-i.is (c.same_end.ensures.0 c.if-not-same_end.false)

pub returns-then-a-b : goal.returns-then-a-b
returns-then-a-b c = (λ t. absurd (false≢true t), λ e. absurd (c.if-a-b.true (ap length e)))

pub returns-then-not-same_end : goal.returns-then-not-same_end
returns-then-not-same_end c = (
  λ t. absurd (false≢true t),
  λ e. absurd (false≢true (sym c.if-not-same_end.true ∙ c.same_end.ensures.1 (same_at c.args.a.now c.args.b.now c.loop-i.i c.index-a-i.result c.index-b-i.result c.loop-i-test.true c.index-a-i.is c.index-b-i.is e))),
)

pub returns : goal.returns
returns c = (λ t. all_same c.args.a.now c.args.b.now c.loop-i.i c.if-a-b.false (omega (arith, c.loop-i-test.false)) c.loop-i.invariant, λ e. refl)

pub bounds-b-i : goal.bounds-b-i
bounds-b-i c = subst (λ n. c.loop-i.i < n) c.if-a-b.false c.loop-i-test.true
