use Rattle.std.proofs.Common.{subst}
use Rattle.txs_world_protocol.specs.declared.ask.Reply.TheVariants as reply
use Rattle.txs_world_protocol.specs.declared.event.EventKind.TheVariants.{Read}
use Rattle.txs_world_book.specs.Served.{adds}
use Rattle.txs_world.specs.Store.{Replies}
use Rattle.txs_world.proofs.store.Store.peek.Goals as goal

pub returns-in-Ok : goal.returns-in-Ok
returns-in-Ok c = let s = c.args.self.now in subst (λ v. Replies s (adds c.args.actor (Read c.args.cell) (reply.Is v) s.book) c.tell.result c.tell.new.self) c.in-Ok.ensures c.tell.ensures
