-- The event of a report that is out of order.
use Rattle.std.specs.Prelude.{ℕ, suc, List, length, map, Option, Some, None}
use Rattle.txs_value_cell.specs.Agents.{agents_from}
use Rattle.txs_value_cell.specs.declared.cell.CellDefinition.{CellDefinition}
use Rattle.txs_world_protocol.specs.declared.event.Event.{Event}
use Rattle.txs_world_protocol.specs.declared.event.Place as event
use Rattle.txs_world_protocol.specs.declared.report.ActorReport.{ActorReport}
use Rattle.txs_world_protocol.specs.declared.report.Report.{Report}
use Rattle.txs_theorem_runs.specs.Told.{Place}
use Rattle.txs_theorem_serial.specs.Order.{Link, all_links, books_in}
use Rattle.txs_theorem_serial.specs.Taken.{out_of_order}

-- where an event is, as the laws of runs say it
abbrev pub place_as : event.Place → Place
place_as p = record { book = p.book; at = p.at }

-- the traces of entries
abbrev pub traces_in : List ActorReport → List (List Place)
traces_in rans = map (λ (x : ActorReport). map place_as x.trace.items) rans

-- the books of a report
abbrev pub books_as : Report → ℕ → List Event
books_as r = books_in r.book.items r.atom_books.items

-- what its traces say of the order
abbrev pub links_as : List CellDefinition → Report → List Link
links_as cells r = all_links (books_as r) (traces_in r.threads.items) (agents_from 0 cells) (traces_in r.agents.items)

-- a place that was found, if one was
abbrev pub place_in : Option event.Place → Option Place
place_in None = None
place_in (Some p) = Some (place_as p)

-- the event that is out of order, if one is
abbrev pub named_in : List CellDefinition → Report → Option Place
named_in cells r = out_of_order (books_as r) (links_as cells r) (suc (length r.atom_books.items))
