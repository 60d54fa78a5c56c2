use Rattle.std.proofs.Common.{◌≤◌, ℕ, List, length, rules, sym, subst}
use Rattle.txs_world_protocol.specs.declared.event.Event.{Event}
use Rattle.txs_world_shared.specs.SharedState.{numbered_book}
use Rattle.txs_value_data.specs.Limits.{most_events}
use Rattle.txs_world_book.proofs.Sizes.{fits_place}
use Rattle.txs_machine.proofs.run.next_place.Goals as goal

pub overflow_cast-result-2 : goal.overflow_cast-result-2
overflow_cast-result-2 c =
    let s = c.args.shared.now in
    let q = c.args.ask.now in
    let few : length (numbered_book s c.book_for-book.result) ≤ most_events = subst (λ (n : ℕ). length (numbered_book s n) ≤ most_events) (sym c.book_for-book.ensures.number) c.requires.few in
    fits_place _ (subst (λ (l : List Event). length l ≤ most_events) (sym c.numbered_events.ensures) few)

pub returns : goal.returns
returns c = record { book = search rules; at = search rules }
