use Rattle.std.proofs.Common.{length, refl, subst, sym}
use Rattle.txs_world_protocol.specs.declared.ask.Reply.TheVariants as reply
use Rattle.txs_world_protocol.specs.declared.event.EventKind.TheVariants.{Commit}
use Rattle.txs_value_data.specs.Limits.{most_events}
use Rattle.txs_world_book.specs.Book.{Guarded, LegalKind}
use Rattle.txs_world_book.specs.Served.{adds}
use Rattle.txs_world.specs.Store.{merged, Replies}
use Rattle.txs_world.proofs.Answering.{has_room, told_full, told_not}
use Rattle.txs_world.proofs.store.Store.done.Goals as goal

pub returns-then-is_full : goal.returns-then-is_full
returns-then-is_full c = told_full c.args.self.now c.args.actor (Commit c.args.at c.args.view (merged c.args.sets c.args.commuted.now) c.args.sends) reply.Done (c.is_full.ensures.0 c.if-is_full.true)

pub write-requires-clause-room : goal.write-requires-clause-room
write-requires-clause-room c = has_room c.is_full.result (length c.args.self.now.book) most_events c.is_full.ensures c.if-is_full.false

pub write-requires-clause-made : goal.write-requires-clause-made
write-requires-clause-made c = c.requires.made

pub write-requires-clause-legal : goal.write-requires-clause-legal
write-requires-clause-legal c = let s = c.args.self.now in subst (λ ws. LegalKind s.cells s.book c.args.actor (Commit c.args.at c.args.view ws c.args.sends)) (sym c.in-Ok.ensures) c.requires.legal

pub write-requires-clause-guarded : goal.write-requires-clause-guarded
write-requires-clause-guarded c = subst (λ ws. Guarded c.args.self.now.book (Commit c.args.at c.args.view ws c.args.sends)) (sym c.in-Ok.ensures) c.requires.guarded

pub returns-in-Ok : goal.returns-in-Ok
returns-in-Ok c = let s = c.args.self.now in subst (λ ws. Replies s (adds c.args.actor (Commit c.args.at c.args.view ws c.args.sends) reply.Done s.book) c.write.result c.write.new.self) c.in-Ok.ensures c.write.ensures

pub returns-in-Err : goal.returns-in-Err
returns-in-Err c =
    let s = c.args.self.now in
    told_not s s c.args.actor (Commit c.args.at c.args.view (merged c.args.sets c.args.commuted.now) c.args.sends) reply.Done tt (has_room c.is_full.result (length s.book) most_events c.is_full.ensures c.if-is_full.false) refl
