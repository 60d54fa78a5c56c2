use Rattle.std.proofs.Common.{option_copied}
use Rattle.txs_audit_evidence.proofs.SeenWorlds.{world_seen}
use Rattle.txs_audit_evidence.proofs.books.Books.view.Goals as goal

pub returns : goal.returns
returns c = world_seen c.args.self.now c.histories.result.now c.histories.ensures c.args.book (option_copied c.swaps_in.result) c.swaps_in.ensures c.requires c.args.events
