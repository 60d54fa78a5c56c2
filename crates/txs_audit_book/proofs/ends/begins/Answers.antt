use Rattle.std.proofs.Common.{sym}
use Rattle.txs_audit_book.proofs.Bytes.{too_long}
use Rattle.txs_audit_book.proofs.ends.begins.Goals as goal

pub returns-then-part-whole : goal.returns-then-part-whole
returns-then-part-whole c = sym (too_long c.args.part.now c.args.whole.now c.if-part-whole.true)
