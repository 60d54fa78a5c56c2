use Rattle.std.proofs.Common.{ap, ◌∙◌}
use Rattle.std.proofs.lemmas.List.{take_all}
use Rattle.txs_world_protocol.specs.declared.event.Place.{Place}
use Rattle.txs_theorem_audit.specs.Audited.{books_of}
use Rattle.txs_theorem_runs.specs.Told.{seen_of}
use Rattle.txs_audit_order.specs.Named.{plain_trace}
use Rattle.txs_audit_evidence.proofs.SeenWorlds.{seen_more}
use Rattle.txs_audit_evidence.proofs.books.Books.see_all.Goals as goal

pub loop-place-preserved : goal.loop-place-preserved
loop-place-preserved c =
    let b = c.args.self.now in
    let d : Place = record { book = 0; at = 0 } in
    seen_more b.program.cells (books_of b.report) c.args.trace.now c.loop-place.place-index d c.loop-place-test.true _ _ c.loop-place.invariant c.in_ok-see_next.ensures

pub returns : goal.returns
returns c =
    let b = c.args.self.now in
    c.loop-place.invariant ∙ ap (λ l. seen_of b.program.cells (books_of b.report) (plain_trace l)) (take_all c.loop-place.place-index c.args.trace.now c.loop-place-test.false)
