use Rattle.std.proofs.Common.{sym, ◌∙◌}
use Rattle.txs_audit_book.proofs.Bytes.{as_long, other_length}
use Rattle.txs_audit_book.proofs.ends.same_bytes.Goals as goal

pub returns-then-a-b : goal.returns-then-a-b
returns-then-a-b c = sym (other_length c.args.a.now c.args.b.now c.if-a-b.true)

pub returns : goal.returns
returns c = c.begins.ensures ∙ as_long c.args.a.now c.args.b.now c.if-a-b.false
