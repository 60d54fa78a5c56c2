use Rattle.std.proofs.Common.{◌∙◌, Bool, ap, sym}
use Rattle.txs_cli.proofs.task.source_in.Goals as goal
use Rattle.txs_cli.specs.Source.{OfScript}
use Rattle.txs_cli.specs.Telling.{source_by}

pub returns-then-input : goal.returns-then-input
returns-then-input c = sym (ap (λ (b : Bool). source_by b c.args.input.now) c.if-input.true)

pub returns : goal.returns
returns c = ap (λ n. OfScript n) c.explained_as.ensures ∙ sym (ap (λ (b : Bool). source_by b c.args.input.now) c.if-input.false)
