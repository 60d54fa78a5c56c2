use Rattle.std.proofs.Common.{sym, ◌∙◌}
use Rattle.txs_audit_book.proofs.Validators.{had_memory}
use Rattle.txs_audit_book.proofs.acts.answered.Goals as goal

pub returns : goal.returns
returns c = (c.eval_pure-given.ensures, had_memory c.eval_pure-given.result (sym c.is_no_memory.ensures ∙ c.if-is_no_memory.false))
