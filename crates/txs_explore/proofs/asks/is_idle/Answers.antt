use Rattle.std.proofs.Common.{◌≡◌, ◌&&◌, ◌==◌, not, true, rules}
use Rattle.txs_value_data.proofs.SameLemmas.{and_both}
use Rattle.txs_world_book.specs.Book.{actor_of, has_agent}
use Rattle.txs_world_book.specs.Served.{cells_of}
use Rattle.txs_world.specs.Store.{is_taken}
use Rattle.txs_theorem_runs.specs.Shared.{may_ask}
use Rattle.txs_world_protocol.specs.declared.ask.Ask.TheVariants.{Take}
use Rattle.txs_world_shared.specs.SharedState.{shared_of}
use Rattle.txs_explore.proofs.asks.is_idle.Goals as goal

pub has_action-requires : goal.has_action-requires
has_action-requires c =
    let s = c.args.shared.now in
    let g = c.in-Take.agent in
    let may : may_ask s.cells s.threads s.taken c.args.actor (Take g) ((shared_of s).books 0) ≡ true = search rules in
    (and_both (has_agent (cells_of s.cells) g) (not (is_taken s.taken g)) (and_both (c.args.actor == actor_of s.threads (cells_of s.cells) g) (has_agent (cells_of s.cells) g && not (is_taken s.taken g)) may).1).0
