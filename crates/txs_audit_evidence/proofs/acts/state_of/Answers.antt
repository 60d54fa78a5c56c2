use Rattle.std.specs.Prelude.{option_copied}
use Rattle.txs_audit_evidence.proofs.Acting.{state_is}
use Rattle.txs_audit_evidence.proofs.acts.state_of.Goals as goal

pub returns : goal.returns
returns c = state_is c.args.books.now c.are_legal.ensures c.args.act c.requires (option_copied c.value_at.result) c.value_at.ensures
