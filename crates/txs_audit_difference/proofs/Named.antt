-- Where the order of events or a trace is off: the event, and its actor's number.
use Rattle.std.proofs.Common.{◌≡◌, suc, ℕ, List, [], ◌∷◌, length, map, Some, None, refl, ap, sym, ◌∙◌}
use Rattle.txs_value_data.specs.Places.{nth}
use Rattle.txs_value_cell.specs.Agents.{agents_from}
use Rattle.txs_world_protocol.specs.declared.event.Event.{Event}
use Rattle.txs_world_protocol.specs.declared.event.Place as event
use Rattle.txs_world_protocol.specs.declared.report.ActorReport.{ActorReport}
use Rattle.txs_world_protocol.specs.declared.report.Report.{Report}
use Rattle.txs_tree_meaning.specs.Tree.{PlainProgram}
use Rattle.txs_theorem_serial.specs.Order.{all_links}
use Rattle.txs_theorem_serial.specs.Taken.{out_of_order}
use Rattle.txs_theorem_audit.specs.Audited.{PlainActorReport, PlainReport, Off, books_of, entry_of, place_of, ran_as, report_as}
use Rattle.txs_theorem_audit.specs.Verdict.{index_if, named_off, order_found, place_off, report_links}
use Rattle.txs_audit_order.specs.Ordered.{books_as, links_as, named_in, traces_in}

-- the traces of entries are the same
traces_are : (rans : List ActorReport) → map (λ (x : PlainActorReport). x.trace) (map ran_as rans) ≡ traces_in rans
traces_are [] = refl
traces_are (x ∷ xs) = ap (λ l. map place_of x.trace.items ∷ l) (traces_are xs)

-- and so is what they say of the order
links_are : (p : PlainProgram) (r : Report) → report_links p (report_as r) ≡ links_as p.cells r
links_are p r =
    ap (λ ts. all_links (books_as r) ts (agents_from 0 p.cells) (map (λ (x : PlainActorReport). x.trace) (map ran_as r.agents.items))) (traces_are r.threads.items)
    ∙ ap (all_links (books_as r) (traces_in r.threads.items) (agents_from 0 p.cells)) (traces_are r.agents.items)

-- what an audit finds is off at the event that is named
pub order_is : (p : PlainProgram) (r : Report) (b : PlainReport) → report_as r ≡ b → place_off b (named_in p.cells r) ≡ order_found p b
order_is p r b same =
    ap (λ x. place_off x (named_in p.cells r)) (sym same)
    ∙ sym (ap (λ ls. place_off (report_as r) (out_of_order (books_as r) ls (suc (length r.atom_books.items)))) (links_are p r))
    ∙ ap (order_found p) same

-- the event at a place, by its index in its actor's trace
pub named_is : (r : PlainReport) (q : event.Place) (e : Event) (i : ℕ) → nth (books_of r q.book) q.at ≡ Some e → i ≡ index_if q.book q.at (entry_of r e.actor) → Off e.actor i ≡ place_off r (Some (place_of q))
named_is r q e i there index = ap (Off e.actor) index ∙ ap (named_off r (place_of q)) (sym there)

pub none_is : (r : PlainReport) (q : event.Place) → nth (books_of r q.book) q.at ≡ None → place_off r (Some (place_of q)) ≡ place_off r None
none_is r q gone = ap (named_off r (place_of q)) gone
