use Rattle.std.proofs.Common.{◌≡◌, Option, arith, length, subst, suc, sym}
use Rattle.std.proofs.lemmas.Result.{IfOk-weaker}
use Rattle.txs_theorem_serial.specs.Taken.{AreWithin, LinksAreWithin, OneLastCut}
use Rattle.txs_value_cell.specs.Agents.{agents_from}
use Rattle.txs_world_protocol.specs.declared.event.Place.{Place}
use Rattle.txs_audit_order.specs.Going.{AreReady}
use Rattle.txs_audit_order.specs.Linked.{AreLinks}
use Rattle.txs_audit_order.specs.Ordered.{books_as, links_as, named_in, place_in, traces_in}
use Rattle.txs_audit_order.specs.Waiting.{IsNamed}
use Rattle.txs_audit_order.proofs.Ending.{are_ready, books_past, named}
use Rattle.txs_audit_order.proofs.order.out_of_order.Goals as goal

pub named_by-requires : goal.named_by-requires
named_by-requires c =
    let r = c.args.report.now in
    let ls = links_as c.args.program.now.cells r in
    let n = suc (length r.atom_books.items) in
    let lengths = c.in_ok-lengths.lengths in
    let size = c.in_ok-lengths.ensures in
    let many = size.many in
    let is = lengths.ok.0 in
    let here = c.len.ensures in
    let books : c.len.result ≡ n = omega (arith, many, is, here) in
    let h = subst (λ m. AreLinks ls m c.in_ok-rows.rows.items) books c.in_ok-rows.ensures in
    subst (λ l. AreReady l c.as_slice-2.result.now) (sym c.as_slice.ensures.value)
    (subst (λ l. AreReady lengths.items l) (sym c.as_slice-2.ensures.value) (are_ready (books_as r) ls n lengths.items c.in_ok-rows.rows.items size h))

pub returns : goal.returns
returns c =
    let r = c.args.report.now in
    let cells = c.args.program.now.cells in
    let ls = links_as cells r in
    let n = suc (length r.atom_books.items) in
    let lengths = c.in_ok-lengths.lengths in
    let rows = c.in_ok-rows.rows.items in
    let size = c.in_ok-lengths.ensures in
    let many = size.many in
    let is = lengths.ok.0 in
    let here = c.len.ensures in
    let books : c.len.result ≡ n = omega (arith, many, is, here) in
    let h = subst (λ m. AreLinks ls m rows) books c.in_ok-rows.ensures in
    let one : OneLastCut = c.one_last_cut.ensures in
    let law : LinksAreWithin = c.links_are_within.ensures in
    let within : AreWithin (books_as r) n ls = law (books_as r) n (traces_in r.threads.items) (agents_from 0 cells) (traces_in r.agents.items) (books_past r) in
    IfOk-weaker c.named_by.result (IsNamed c.as_slice.result.now c.as_slice-2.result.now) (λ (o : Option Place). place_in o ≡ named_in cells r)
    (λ o g. named (books_as r) ls n lengths.items rows one within size h o (subst (λ l. IsNamed lengths.items l o) c.as_slice-2.ensures.value (subst (λ l. IsNamed l c.as_slice-2.result.now o) c.as_slice.ensures.value g)))
    c.named_by.ensures
