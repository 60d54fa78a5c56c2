-- Who may take an action.
use Rattle.std.proofs.Common.{◌≡◌, ◌==◌, ℕ, true, not, ◌&&◌}
use Rattle.txs_world_protocol.specs.declared.ask.Ask.TheVariants as ask
use Rattle.txs_value_data.specs.declared.value.CellId.{CellId}
use Rattle.txs_world_book.specs.Book.{has_agent, actor_of}
use Rattle.txs_world.specs.Store.{PlainStore, is_taken, is_lawful}
use Rattle.txs_world_book.proofs.Outcomes.{both}

-- what may be taken an action from is an agent
pub taker_is_agent : (s : PlainStore) (a : ℕ) (g : CellId) → is_lawful s a (ask.Take g) ≡ true → has_agent s.cells g ≡ true
taker_is_agent s a g h =
    let named = (both (a == actor_of s.threads s.cells g) (has_agent s.cells g && not (is_taken s.taken g)) h).1 in
    (both (has_agent s.cells g) (not (is_taken s.taken g)) named).0
