use Rattle.std.proofs.Common.{drop}
use Rattle.txs_world.specs.Inboxes.{AreMailboxes}
use Rattle.txs_world.proofs.inbox.check_mail.Given as goal

abbrev pub invariant-loop-inbox : goal.invariant-loop-inbox
invariant-loop-inbox l = AreMailboxes (drop l.inbox-index l.inboxes) → AreMailboxes l.inboxes
