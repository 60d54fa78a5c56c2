use Rattle.std.proofs.Common.{◌∙◌, arith, sym}
use Rattle.std.proofs.lemmas.Bool.{false≢true}
use Rattle.txs_cli_explore.proofs.Listed.{new_done, new_more, read_in}
use Rattle.txs_cli_explore.proofs.outcomes.is_listed.Goals as goal

pub loop-o-init : goal.loop-o-init
loop-o-init c = λ h. h

pub loop-o-preserved : goal.loop-o-preserved
loop-o-preserved c =
    new_more c.args.outcome.now c.args.outcomes.now c.loop-o.o-index c.o-item.result c.loop-o-test.true c.o-item.is (λ s. false≢true (sym c.if-are_same.false ∙ c.are_same.ensures.1 s)) c.loop-o.invariant

pub returns-then-are_same-clause-listed : goal.returns-then-are_same-clause-listed
returns-then-are_same-clause-listed c = λ t. (c.o-item.result, read_in c.args.outcomes.now c.loop-o.o-index c.o-item.result c.loop-o-test.true c.o-item.is, c.are_same.ensures.0 c.if-are_same.true)

pub returns-clause-new : goal.returns-clause-new
returns-clause-new c = λ f. new_done c.args.outcome.now c.args.outcomes.now c.loop-o.o-index (omega arith) c.loop-o.invariant
