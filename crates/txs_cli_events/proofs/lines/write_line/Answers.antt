use Rattle.std.proofs.Common.{◌++◌, ◌∙◌, Option, ap, length}
use Rattle.std.specs.Prelude.{codes, decimal}
use Rattle.txs_value_data.proofs.PrintedLemmas.{ended_by, then_more}
use Rattle.txs_world_protocol.specs.declared.event.Event.{Event}
use Rattle.txs_cli_events.specs.LongLines.{actor_words, book_words, event_words}
use Rattle.txs_cli_events.specs.Run.{agent_of, atom_of, event_in}
use Rattle.txs_cli_events.proofs.lines.write_line.Goals as goal

pub returns : goal.returns
returns c =
    let old = c.args.out.now.items in
    let cells = c.args.run.cells.now in
    let report = c.args.run.report.now in
    let n = c.args.note.now in
    let first = c.write_book.new.out.items in
    let second = c.write_number.new.out.items in
    let third = c.write_actor.new.out.items in
    let fourth = c.write_event.new.out.items in
    let book = book_words cells (atom_of cells n.event.book) in
    let at = decimal n.event.at in
    let actor = actor_words cells n.actor (agent_of cells (length report.threads.items) n.actor) in
    let did = event_words cells (event_in report n.event.book n.event.at) n.at in
    let placed = then_more old book first at second c.in_ok-write_book.ensures c.in_ok-write_number.ensures.ok in
    let acting = then_more old (book ++ at) second actor third placed c.in_ok-write_actor.ensures in
    let done = c.in_ok-write_event.ensures ∙ ap (λ (e : Option Event). third ++ event_words cells e n.at) c.event_at.ensures in
    let whole = then_more old (book ++ at ++ actor) third did fourth acting done in
    ended_by c.extend_from_slice.result old (book ++ at ++ actor ++ did) fourth (codes "\n") c.extend_from_slice.new.self.items whole c.extend_from_slice.ensures.items
