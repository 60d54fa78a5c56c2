use Rattle.std.proofs.Common.{sym, ◌∙◌}
use Rattle.txs_tree_meaning.specs.View.{program_of}
use Rattle.txs_audit_book.proofs.Sources.{least_some}
use Rattle.txs_audit_book.proofs.endings.prints_least.Goals as goal

pub returns : goal.returns
returns c = λ t e.
    c.least.ensures
    ∙ least_some c.least_is_answered.ensures (program_of c.args.program.now) c.args.thread c.args.turns t e c.args.seen.now c.split_at.result.0.now c.in_ok-meaning.meaning c.args.out.now (sym c.is_empty.ensures ∙ c.if-is_empty.false) c.split_at.ensures.front c.in_ok-meaning.ensures
