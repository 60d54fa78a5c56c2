use Rattle.std.proofs.Common.{◌≡◌, ◌<◌, ◌∙◌, length, get_or, rules}
use Rattle.std.proofs.lemmas.Grind.{get_or_default_zero}
use Rattle.txs_cli_events.specs.Noted.{events_in}
use Rattle.txs_cli_events.proofs.Counting.{book_next}
use Rattle.txs_cli_events.proofs.check.is_next_of_book.Goals as goal

pub returns-clause-next : goal.returns-clause-next
returns-clause-next c = λ t.
    (let counts = c.args.counts.now.items in
    let x = c.args.note.now in
    let n = c.index-noted.result.now in
    let within : x.event.book < length counts = search rules in
    let read : n ≡ get_or counts x.event.book n = search rules in
    let less : n < events_in c.args.report.now x.event.book = search rules in
    let here : n ≡ x.event.at = search rules in
    book_next c.args.report.now counts x n within (read ∙ get_or_default_zero counts x.event.book n within) less here)
