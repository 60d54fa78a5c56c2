use Rattle.std.specs.Prelude.{option_copied}
use Rattle.txs_audit_evidence.proofs.Acting.{action_is}
use Rattle.txs_audit_evidence.proofs.acts.action_of.Goals as goal

pub returns : goal.returns
returns c = action_is c.args.books.now c.are_legal.ensures c.args.act c.requires (option_copied c.action.result) c.action.ensures
