use Rattle.std.proofs.Common.{not, ap, ◌∙◌}
use Rattle.txs_world_book.specs.Book.{mail_after}
use Rattle.txs_world_book.specs.Served.{cells_of}
use Rattle.txs_world_shared.specs.SharedState.{numbered_book}
use Rattle.txs_explore.proofs.Tests.{waits_none, waits_some}
use Rattle.txs_explore.proofs.asks.has_action.Goals as goal

pub returns-then-is_none : goal.returns-then-is_none
returns-then-is_none c =
    let m = mail_after (cells_of c.args.shared.now.cells) (numbered_book c.args.shared.now 0) c.args.agent.number in
    waits_none m.fault c.failure.result m.actions c.waiting.result (c.is_none.ensures ∙ ap not c.if-is_none.true) c.failure.ensures c.waiting.ensures

pub returns-else-is_none : goal.returns-else-is_none
returns-else-is_none c =
    let m = mail_after (cells_of c.args.shared.now.cells) (numbered_book c.args.shared.now 0) c.args.agent.number in
    waits_some m.fault c.failure.result m.actions c.is_none.result (c.is_none.ensures ∙ ap not c.if-is_none.false) c.if-is_none.false c.failure.ensures
