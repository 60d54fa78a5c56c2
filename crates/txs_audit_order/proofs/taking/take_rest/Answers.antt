use Rattle.std.proofs.Common.{◌≡◌, ◌<◌, ◌∙◌, Some, ap, arith, get_or, length, sym}
use Rattle.std.proofs.lemmas.List.{get_or_read}
use Rattle.txs_audit_order.specs.Going.{first_to_go}
use Rattle.txs_audit_order.proofs.Passing.{fewer, first_is, free_there, goes, gone_many, may_there, within}
use Rattle.txs_audit_order.proofs.taking.take_rest.Goals as goal

pub index_mut-requires : goal.index_mut-requires
index_mut-requires c =
    let lengths = c.args.lengths.now in
    let rows = c.args.rows.now in
    let cut = c.loop-book.cut.items in
    let b = c.in-Some.book in
    let first : first_to_go lengths rows cut 0 (length lengths) ≡ Some b = ap (λ l. first_to_go lengths rows l 0 (length lengths)) (sym c.as_slice.ensures.value) ∙ sym c.first_free.ensures ∙ c.in-Some.is in
    let low = within lengths b (get_or cut b 0) (may_there lengths rows cut b (first_is lengths rows cut 0 (length lengths) b first)) in
    let many = gone_many lengths rows c.loop-book.invariant in
    let is = c.loop-book.cut.ok.0 in
    omega (arith, low, many, is)

pub overflow_add-index_mut : goal.overflow_add-index_mut
overflow_add-index_mut c =
    let lengths = c.args.lengths.now in
    let rows = c.args.rows.now in
    let cut = c.loop-book.cut.items in
    let b = c.in-Some.book in
    let first : first_to_go lengths rows cut 0 (length lengths) ≡ Some b = ap (λ l. first_to_go lengths rows l 0 (length lengths)) (sym c.as_slice.ensures.value) ∙ sym c.first_free.ensures ∙ c.in-Some.is in
    let less = may_there lengths rows cut b (first_is lengths rows cut 0 (length lengths) b first) in
    let low = within lengths b (get_or cut b 0) less in
    let many = gone_many lengths rows c.loop-book.invariant in
    let at = get_or_read cut b c.index_mut.result.now (omega (arith, low, many)) c.index_mut.ensures.value 0 in
    omega (arith, less, at, c.type_inv.lengths b)

pub loop-book-smaller : goal.loop-book-smaller
loop-book-smaller c =
    let lengths = c.args.lengths.now in
    let rows = c.args.rows.now in
    let cut = c.loop-book.cut.items in
    let b = c.in-Some.book in
    let first : first_to_go lengths rows cut 0 (length lengths) ≡ Some b = ap (λ l. first_to_go lengths rows l 0 (length lengths)) (sym c.as_slice.ensures.value) ∙ sym c.first_free.ensures ∙ c.in-Some.is in
    let less = may_there lengths rows cut b (first_is lengths rows cut 0 (length lengths) b first) in
    let low = within lengths b (get_or cut b 0) less in
    let many = gone_many lengths rows c.loop-book.invariant in
    let in_cut : b < length cut = omega (arith, low, many) in
    let at = get_or_read cut b c.index_mut.result.now in_cut c.index_mut.ensures.value 0 in
    fewer lengths cut b c.index_mut.result.now in_cut at (omega (arith, less, at))

pub loop-book-preserved : goal.loop-book-preserved
loop-book-preserved c =
    let lengths = c.args.lengths.now in
    let rows = c.args.rows.now in
    let cut = c.loop-book.cut.items in
    let b = c.in-Some.book in
    let first : first_to_go lengths rows cut 0 (length lengths) ≡ Some b = ap (λ l. first_to_go lengths rows l 0 (length lengths)) (sym c.as_slice.ensures.value) ∙ sym c.first_free.ensures ∙ c.in-Some.is in
    let may = first_is lengths rows cut 0 (length lengths) b first in
    let less = may_there lengths rows cut b may in
    let low = within lengths b (get_or cut b 0) less in
    let many = gone_many lengths rows c.loop-book.invariant in
    let at = get_or_read cut b c.index_mut.result.now (omega (arith, low, many)) c.index_mut.ensures.value 0 in
    goes lengths rows cut b c.index_mut.result.now c.loop-book.invariant at (omega (arith, less, at)) (free_there lengths rows cut b c.index_mut.result.now may at)
