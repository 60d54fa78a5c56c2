-- Whether an event may stand in the store's book.
use Rattle.std.specs.Prelude.{ℕ, Bool, ◌&&◌, List}
use Rattle.txs_world_book.specs.Book.{makes}
use Rattle.txs_world_book.specs.declared.cell.StoreCell.{StoreCell}
use Rattle.txs_world_protocol.specs.declared.event.Event.{Event}
use Rattle.txs_theorem_audit.specs.Verdict.{is_legal_kind}

-- whether an event may stand behind these in the store's book
abbrev pub store_test : List StoreCell → ℕ → List Event → Event → Bool
store_test cells threads done e = makes cells threads e.actor e.kind && is_legal_kind cells done e.actor e.kind
