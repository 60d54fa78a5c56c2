use Rattle.std.proofs.Common.{◌≤◌, ◌+◌, ◌∙◌, Global, Vec, ap, arith, drop, get_or, subst, sym}
use Rattle.std.proofs.lemmas.List.{drop_more}
use Rattle.std.specs.Option.{option_copied}
use Rattle.txs_world_protocol.specs.declared.event.Place.{Place}
use Rattle.txs_audit_order.specs.Linked.{with_links}
use Rattle.txs_audit_order.specs.Ordered.{books_as, place_as}
use Rattle.txs_audit_order.specs.declared.links.Before.{Before}
use Rattle.txs_audit_order.specs.declared.rows.Row.{Row}
use Rattle.txs_audit_order.specs.declared.traces.Known.{Known}
use Rattle.txs_audit_order.proofs.Walking.{acts_few, no_place_said, place_said, said_from}
use Rattle.txs_audit_order.proofs.traces.link_trace.Goals as goal
use Rattle.txs_audit_order.proofs.traces.link_trace.Goals.{in-Some+in_ok-link_place-in-Some, in-None}

pub loop-place-preserved : goal.loop-place-preserved
loop-place-preserved c =
    let books = books_as c.args.report.now in
    let senders = c.args.senders.now in
    let trace = c.args.trace.now in
    let i = c.loop-place.place-index in
    let none : Place = record { book = 0; at = 0 } in
    let p : Place = get_or trace i none in
    let there = drop_more trace i none c.loop-place-test.true in
    let known = c.loop-place.known in
    let rows = c.loop-place.rows.items in
    let now = c.match-event_at.known in
    elim c.match-event_at.branch [
      | in-Some+in_ok-link_place-in-Some w ↦ record {
        few = subst (λ (k : Known). k.acts ≤ i + 1) (sym w.known-is) (acts_few senders known w.known_after-known.result (place_as p) w.in-Some.event.now.kind i w.known_after-known.ensures c.loop-place.invariant.few);
        same = ap (λ (r : Vec (Row Before) Global). with_links r.items (said_from books senders now (drop (i + 1) trace))) w.rows-is
            ∙ ap (λ (k : Known). with_links w.link_place.new.rows.items (said_from books senders k (drop (i + 1) trace))) w.known-is
            ∙ place_said books senders trace i p known w.known_after-known.result rows w.link_place.new.rows.items w.in-Some.event.now there (sym c.event_at.ensures ∙ ap option_copied w.in-Some.is) w.in_ok-link_place-in-Some.ensures w.known_after-known.ensures
            ∙ c.loop-place.invariant.same;
      }
      | in-None w ↦ record {
        few = subst (λ (k : Known). k.acts ≤ i + 1) (sym w.known-is) (let le = c.loop-place.invariant.few in omega (arith, le));
        same = ap (λ (r : Vec (Row Before) Global). with_links r.items (said_from books senders now (drop (i + 1) trace))) w.rows-is
            ∙ ap (λ (k : Known). with_links rows (said_from books senders k (drop (i + 1) trace))) w.known-is
            ∙ no_place_said books senders trace i p known rows there (sym c.event_at.ensures ∙ ap option_copied w.in-None.is)
            ∙ c.loop-place.invariant.same;
      }
    ]
